use Rattle.tw_print.proofs.ReadBack.{reads_back}
use Rattle.tw_print.proofs.programs.print_program.Goals as goal

pub returns-in-Going-clause-read_back : goal.returns-in-Going-clause-read_back
returns-in-Going-clause-read_back g c = reads_back _

pub returns-in-Broken-clause-read_back : goal.returns-in-Broken-clause-read_back
returns-in-Broken-clause-read_back g c = reads_back _
