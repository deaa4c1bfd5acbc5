-- The layouts of a worked recursive function with each bound: the length of a list.
use Rattle.std.proofs.Common.{◌≡◌, ◌∙◌, ◌≤◌, ◌*◌, ◌-◌, refl, ap, subst, arith, ℕ, zero, suc, Some}
use Rattle.std.proofs.Math.Nat.{mul-suc}
use Rattle.tw_gate.specs.declared.gate.Level.TheVariants as levels
use Rattle.tw_types.specs.Types.{Widths}
use Rattle.tw_check.specs.declared.entry.Entry.{Entry}
use Rattle.tw_state.specs.Steps.{running_bound}
use Rattle.tw_state.proofs.WorkedLists.{list_length, count_rest}
use Rattle.tw_frames.specs.declared.workspace.Workspace.{Workspace}
use Rattle.tw_frames.specs.Frames.{frame_size}
use Rattle.tw_frames.specs.Layout.{IsLaidOut}
use Rattle.tw_frames.specs.LayoutExamples.{all_options, unflattened, wires, workspace}
use Rattle.tw_frames.specs.MeasureExamples.{measure}
use Rattle.tw_frames.specs.Scratch.{fun_scratch}
use Rattle.tw_frames.specs.Workspaces.{Needs, NeedsNothing, NeedsThen, NeedsExpr, NeedsMemSwap, NeedsElse, NeedsIf, NeedsWith, NeedsCall, NeedsCallZero, NeedsEntry, NeedsBody, NeedsNoBody}
use Rattle.tw_frames.proofs.Entered.{same_sizes}
use Rattle.tw_frames.proofs.WorkedMeasures.{lists_at, length_measured}

-- the function as an entry with this bound
abbrev with_bound : ℕ → Entry
with_bound n = record { fun = 0; bound = Some n }

module _ (widths : Widths) (size scratch : ℕ) (is_size : frame_size (lists_at widths) list_length ≡ size) (is_scratch : fun_scratch (lists_at widths) list_length ≡ scratch) where
  -- the scratch, if the function is entered
  abbrev scratch_with : ℕ → ℕ
  scratch_with zero = 0
  scratch_with (suc n) = scratch

  no_more : (n : ℕ) → scratch_with n ≤ scratch
  no_more zero = omega arith
  no_more (suc n) = omega arith

  -- the recursive call needs as much as an entry with a bound that is one smaller
  call_needs : {n : ℕ} {a : Workspace} → NeedsEntry (lists_at widths) list_length (Some n) a → Needs (lists_at widths) (suc n) count_rest a
  call_needs {n} (NeedsBody k is m) = NeedsCall list_length k refl (ap (λ b. running_bound (Some b)) less ∙ is) m
    where
      less : suc n - 1 ≡ n
      less = omega arith
  call_needs {n} (NeedsNoBody none) = NeedsCallZero (ap (λ b. running_bound (Some b)) less ∙ none)
    where
      less : suc n - 1 ≡ n
      less = omega arith

  -- a frame for each number of the bound
  pub length_needs : (n : ℕ) → NeedsEntry (lists_at widths) list_length (Some n) (workspace (size * n) (scratch_with n))
  length_needs zero = subst (NeedsEntry (lists_at widths) list_length (Some 0)) (same_sizes (none size) refl) (NeedsNoBody refl)
    where
      none : (n : ℕ) → 0 ≡ n * 0
      none n = omega arith
  length_needs (suc n) =
      subst (NeedsEntry (lists_at widths) list_length (Some (suc n))) (same_sizes (omega (arith, is_size, mul-suc size n)) (omega (arith, is_scratch, no_more n)))
      (NeedsBody (suc n) refl
      (NeedsThen (NeedsWith (NeedsThen NeedsExpr NeedsNothing)
      (NeedsThen (NeedsIf (NeedsThen NeedsExpr NeedsNothing)
      (NeedsElse (NeedsThen (NeedsWith (NeedsThen NeedsExpr (NeedsThen NeedsMemSwap (NeedsThen NeedsExpr (NeedsThen NeedsExpr NeedsNothing))))
      (NeedsThen (call_needs (length_needs n)) NeedsNothing)) NeedsNothing))) NeedsNothing)) NeedsNothing))

-- in words and addresses of 2 bits a block has 4. The frame has e, t, next and r, of 1, 4, 2 and 2 bits, and one `if`; the sum needs 5 wires
abbrev small : Widths
small = record { word = 2; addr = 2 }

pub length_1_on_35_wires : IsLaidOut (lists_at small) (with_bound 1) all_options levels.Mcx 5 (wires 4 14 18 20 30 35 35 35)
length_1_on_35_wires = record { fun = list_length; workspace = workspace 10 5; measured = measure 15 4 1; at = refl; needs = length_needs small 10 5 refl refl 1; measures = length_measured small 1; is = refl }

pub length_0_on_20_wires : IsLaidOut (lists_at small) (with_bound 0) all_options levels.Mcx 0 (wires 4 14 18 20 20 20 20 20)
length_0_on_20_wires = record { fun = list_length; workspace = workspace 0 0; measured = measure 0 0 0; at = refl; needs = length_needs small 10 5 refl refl 0; measures = length_measured small 0; is = refl }

-- in words of 8 bits and addresses of 4 the frame has 26 wires, and the sum needs 23. There are nine flags for ten `if`s in one another
abbrev usual : Widths
usual = record { word = 8; addr = 4 }

pub length_10_on_496_wires : IsLaidOut (lists_at usual) (with_bound 10) all_options levels.Mcx 6 (wires 12 184 196 204 464 487 496 496)
length_10_on_496_wires = record { fun = list_length; workspace = workspace 260 23; measured = measure 150 40 10; at = refl; needs = length_needs usual 26 23 refl refl 10; measures = length_measured usual 10; is = refl }

pub length_10_on_487_wires : IsLaidOut (lists_at usual) (with_bound 10) unflattened levels.Mcx 15 (wires 12 184 196 204 464 487 487 487)
length_10_on_487_wires = record { fun = list_length; workspace = workspace 260 23; measured = measure 150 40 10; at = refl; needs = length_needs usual 26 23 refl refl 10; measures = length_measured usual 10; is = refl }
