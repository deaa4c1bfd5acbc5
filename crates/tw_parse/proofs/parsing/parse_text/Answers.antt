use Rattle.tw_parse.proofs.Sources.{fault_in}
use Rattle.tw_parse.proofs.parsing.parse_text.Goals as goal

pub returns-in-Err-clause-refused : goal.returns-in-Err-clause-refused
returns-in-Err-clause-refused c = rw (c.fault.ensures _ c.new.ensures) (fault_in _ c.in-Err.stop _ c.utf8.text c.new.ensures c.in-Err.ensures)
