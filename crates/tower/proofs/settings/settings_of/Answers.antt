use Rattle.std.proofs.Common.{sym}
use Rattle.tower.proofs.Wanted.{no_widths, no_bound}
use Rattle.tower.proofs.settings.settings_of.Goals as goal

pub returns-in_err-widths-clause-none : goal.returns-in_err-widths-clause-none
returns-in_err-widths-clause-none c = rw (c.from_residual-in_err-widths.ensures) (no_widths _ _ c.in_ok-given.ensures.some (rw (sym c.value.ensures, sym c.value-2.ensures) (c.in_err-widths.ensures.none)))

pub returns-in_err-bound-clause-none : goal.returns-in_err-bound-clause-none
returns-in_err-bound-clause-none c = rw (c.from_residual-in_err-bound.ensures) (no_bound _ _ c.in_ok-given.ensures.some (rw (sym c.value-3.ensures) (c.in_err-bound.ensures.none)))
