use Rattle.std.proofs.Common.{refl}
use Rattle.tw_lex.proofs.Classes.{ascii_starts}
use Rattle.tw_lex.proofs.next.starts_name.Goals as goal

pub returns-then-is_ascii_alphabetic : goal.returns-then-is_ascii_alphabetic
returns-then-is_ascii_alphabetic c = rw (ascii_starts c.args.c c.if-c-lt128.true, ← c.is_ascii_alphabetic.ensures.value, c.if-is_ascii_alphabetic.true) refl

pub returns-else-is_ascii_alphabetic : goal.returns-else-is_ascii_alphabetic
returns-else-is_ascii_alphabetic c = rw (ascii_starts c.args.c c.if-c-lt128.true, ← c.is_ascii_alphabetic.ensures.value, c.if-is_ascii_alphabetic.false) refl
