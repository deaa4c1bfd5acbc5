-- The texts of the states of a well-typed program whose functions are right have one reading.
use Rattle.std.proofs.Common.{◌≡◌, ℕ, Option, Some, slice_get}
use Rattle.std.specs.List.{AllByRecursion}
use Rattle.std.proofs.Math.Bool.{Bool-set}
use Rattle.std.proofs.Math.Logic.{∥∥₁_elim}
use Rattle.tw_syntax.specs.Programs.{FunTree, ProgramTree}
use Rattle.tw_types.specs.Types.{Widths, AreInRange, Ty}
use Rattle.tw_resolve.specs.Declarations.{Name, funs_of}
use Rattle.tw_resolve.specs.Programs.{IsTyped, setting_of}
use Rattle.tw_check.specs.Right.{IsRight}
use Rattle.tw_state.specs.declared.state.Side.{Side}
use Rattle.tw_state.specs.FromCode.{names_at}
use Rattle.tw_state.proofs.Calls.{AreDifferent}
use Rattle.tw_state.proofs.EntryFunctions.{function_of, names_different, different_tested, tests_different}
use Rattle.tw_state.proofs.SoundPrograms.{sound}
use Rattle.tw_state.proofs.StateTexts.{HasStateTexts}
use Rattle.tw_state.proofs.TargetTexts.{HasPlainAliases, plain_targets, distinct_targets}

module _ (widths : Widths) (program : ProgramTree) (types : Name → Option Ty) (typed : ∥ IsTyped widths program types ∥₁) where
  -- the names on a side of a function are different
  names_of_side : AllByRecursion IsRight (funs_of program.decls) → (side : Side) (k : ℕ) (fun : FunTree) → slice_get (funs_of program.decls) k ≡ Some fun → AreDifferent (names_at side fun)
  names_of_side right side k fun found =
      different_tested (names_at side fun)
      (∥∥₁_elim typed (Bool-set _ _)
      (λ are.
      let function = function_of widths program types are k fun found in
      tests_different (names_at side fun) (names_different side fun ((sound widths program types are right).fit function.name fun function.named).different)))

  pub program_texts : AreInRange widths → HasPlainAliases program → AllByRecursion IsRight (funs_of program.decls) → (side : Side) (k : ℕ) (fun : FunTree) → slice_get (funs_of program.decls) k ≡ Some fun
      → HasStateTexts (setting_of widths program types) side fun
  program_texts range plain right side k fun found = record {
    range = range;
    plain = plain_targets widths program types typed plain;
    distinct = distinct_targets (setting_of widths program types) program;
    different = names_of_side right side k fun found;
  }
