-- A worked entry: a program that keeps all rules, a state that is typed at its start, and the result.
use Rattle.std.proofs.Common.{◌≡◌, ◌∙◌, refl, sym, ap, subst, arith, true, false, Option, None, is_some, bytes_eq, codes}
use Rattle.std.proofs.Math.Path.{fun_ext}
use Rattle.std.proofs.lemmas.Option.{none-some}
use Rattle.tw_text.specs.declared.place.Pos.{Pos}
use Rattle.tw_syntax.specs.Types.{NamedType}
use Rattle.tw_types.specs.Types.{Ty, Boolean}
use Rattle.tw_types.specs.Values.{Truth}
use Rattle.tw_resolve.specs.Denotes.{Denotes, DenotesNamed, scope_of}
use Rattle.tw_resolve.specs.Programs.{IsTyped, setting_of}
use Rattle.tw_resolve.specs.Setting.{Setting}
use Rattle.tw_resolve.proofs.Texts.{bytes_eq-sym}
use Rattle.tw_check.specs.Names.{Names, with_name}
use Rattle.tw_check.specs.Liveness.{live_at_start, live_at_end}
use Rattle.tw_check.specs.Right.{IsRight, RightThen, RightLet, RightNothing}
use Rattle.tw_state.specs.States.{Name, State}
use Rattle.tw_state.specs.Steps.{fun_types, live_names, Adds}
use Rattle.tw_state.specs.Semantics.{RunsThen, RunsLet, RunsNothing}
use Rattle.tw_state.specs.Results.{Fits, IsTypedAt, RunsBody, HasResult}
use Rattle.tw_state.specs.Examples.{one_bit, main, program, operands, start, end}
use Rattle.tw_state.proofs.Basics.{by_test, same_name}
use Rattle.tw_state.proofs.LiveRuns.{live_added}
use Rattle.tw_state.proofs.Worked.{start_is_well_formed}
use Rattle.tw_state.proofs.TypedRuns.{typed_added}
use Rattle.tw_state.proofs.EntryResults.{IsSound, IsFunction, one_result}
use Rattle.tw_state.proofs.SoundPrograms.{sound}

-- it declares no types
abbrev no_types : Name → Option Ty
no_types name = None

no_alias : {P : Type 0} {at : Pos} {name : Name} {ty : Ty} → Denotes (scope_of program) (NamedType at name) ty → P
no_alias (DenotesNamed body is inner) = absurd (none-some body is)

-- the program is well-typed, and its function is right
pub main_is_typed : IsTyped one_bit program no_types
main_is_typed = record { names = refl; finite = tt; are_types = λ at name ty. ((λ is. absurd (none-some ty is)), no_alias); typed = refl }

pub main_is_right : IsRight main
main_is_right =
    RightThen (live_at_end main)
    (RightLet (record {
      dead = refl;
      free = refl;
      operands = (record { other = refl; live = refl; free = refl }, (record { other = refl; live = refl; free = refl }, tt));
      after = refl;
    }))
    RightNothing

-- so the laws of entries hold for it
abbrev setting : Setting
setting = setting_of one_bit program no_types

pub program_is_sound : IsSound setting
program_is_sound = sound one_bit program no_types main_is_typed (main_is_right, tt)

pub main_is_function : IsFunction setting main
main_is_function = record { name = codes "main"; number = 0; numbered = refl; named = refl }

-- cases: a name is `a`, `b` or another
a_or_b : (P : Name → Type 0) → P (codes "a") → P (codes "b") → ((name : Name) → bytes_eq (codes "a") name ≡ false → bytes_eq (codes "b") name ≡ false → P name) → (name : Name) → P name
a_or_b P a b other name =
    by_test (bytes_eq (codes "a") name) (λ is. subst P (same_name (codes "a") name is) a)
    (λ not_a. by_test (bytes_eq (codes "b") name) (λ is. subst P (same_name (codes "b") name is) b) (λ not_b. other name not_a not_b))

no_other : (name : Name) → bytes_eq (codes "a") name ≡ false → bytes_eq (codes "b") name ≡ false → operands true true name ≡ None
no_other name not_a not_b = rw (not_b, not_a) refl

-- `free 1; 1 free 0; a true; b true` is typed at the start
pub start_is_typed : IsTypedAt setting main (live_at_start main) start
start_is_typed = record {
  typed = record {
    head_within = omega arith;
    all_blocks = refl;
    each_cell = (omega arith, tt);
    names = a_or_b (λ name. Fits one_bit (fun_types setting main name) (operands true true name)) tt tt
        (λ name not_a not_b. subst (Fits one_bit (fun_types setting main name)) (sym (no_other name not_a not_b)) tt);
  };
  names = fun_ext (a_or_b (λ name. live_names (operands true true) name ≡ live_at_start main name) refl refl
      (λ name not_a not_b. ap is_some (no_other name not_a not_b) ∙ sym (rw (bytes_eq-sym name (codes "a") ∙ not_a, bytes_eq-sym name (codes "b") ∙ not_b) refl)));
}

adds_c : Adds (codes "c") (Truth true) start end
adds_c = record { unused = refl; after = refl }

-- the result is the same with `c true`
pub main_has_result : HasResult setting main None start end
main_has_result = record {
  well_formed = start_is_well_formed;
  typed_at_start = start_is_typed;
  runs = RunsBody 0 refl (RunsThen (RunsLet (Truth true) refl adds_c) RunsNothing);
  typed_at_end = record {
    typed = typed_added setting Boolean refl tt adds_c start_is_typed.typed;
    names = live_added adds_c ∙ ap (λ (l : Names). with_name l (codes "c") true) start_is_typed.names;
  };
}

-- and no other
pub only_result : (other : State) → HasResult setting main None start other → end ≡ other
only_result other has = one_result setting program_is_sound main main_is_function None main_has_result has
