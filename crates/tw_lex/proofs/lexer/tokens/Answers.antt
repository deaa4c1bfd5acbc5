use Rattle.std.proofs.Common.{map}
use Rattle.std.specs.Str.{chars}
use Rattle.tw_text.specs.Places.{first_place}
use Rattle.tw_lex.specs.Scans.{seen}
use Rattle.tw_lex.proofs.Endings.{only_reading, one_refusal}
use Rattle.tw_lex.proofs.Splits.{no_reading}
use Rattle.tw_lex.proofs.lexer.tokens.Goals as goal

pub returns-clause-only : goal.returns-clause-only
returns-clause-only c = only_reading (chars c.args.text.now) (λ v. map seen v.items) c.split.result c.split.ensures.tokens

pub returns-clause-no_tokens : goal.returns-clause-no_tokens
returns-clause-no_tokens c r is toks has = no_reading (chars c.args.text.now) first_place r.at toks (c.split.ensures.refused r is).stops has

pub returns-clause-one_refusal : goal.returns-clause-one_refusal
returns-clause-one_refusal c r is other n = one_refusal (chars c.args.text.now) r other (c.split.ensures.refused r is) n
