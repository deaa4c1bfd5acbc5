use Rattle.std.proofs.Common.{◌≡◌, ◌∙◌, arith, refl, sym, subst, ℕ, List, Option, Some, None}
use Rattle.tw_text.specs.declared.limits.TheConstants.{DEPTH_LIMIT}
use Rattle.tw_syntax.specs.Programs.{FunTree}
use Rattle.tw_code.specs.Rows.{Row}
use Rattle.tw_resolve.specs.Setting.{Setting}
use Rattle.tw_state.specs.Depth.{IsWithin, EntryIsWithin, WithinBody, WithinNoBody}
use Rattle.tw_state.specs.Steps.{activation_of, running_bound}
use Rattle.tw_state.proofs.Basics.{same_some, not_both}
use Rattle.tw_frames.specs.Found.{setting_of}
use Rattle.tw_frames.specs.Inventory.{Inventory, InventoryOf, InventoryBody, InventoryNoBody}
use Rattle.tw_cost.specs.declared.costs.Cost.{Cost}
use Rattle.tw_cost.specs.declared.counting.Circuit.{Circuit}
use Rattle.tw_cost.specs.Costs.{no_cost, cost_of}
use Rattle.tw_cost.specs.Counting.{FindsInside}
use Rattle.tw_cost.proofs.counting.count_entry.Goals as goal

module _ (setting : Setting) (circuit : Circuit) (fun : FunTree) (bound : Option ℕ) where
  -- the cost of the body of an entry is the cost of the entry
  body_found : {found : Cost} (own : ℕ) → running_bound bound ≡ Some own → FindsInside setting circuit (activation_of setting fun own) DEPTH_LIMIT 0 fun.body found
      → EntryIsWithin setting DEPTH_LIMIT fun bound → (rows : List Row) → InventoryOf setting circuit.options fun bound rows → found ≡ cost_of circuit.level rows
  body_found {found} own runs finds within rows inventory = by within inventory
    where
      by : {rows : List Row} → EntryIsWithin setting DEPTH_LIMIT fun bound → InventoryOf setting circuit.options fun bound rows → found ≡ cost_of circuit.level rows
      by {rows} (WithinBody inner n deep is p) (InventoryBody m is_m inventory) =
          finds inner deep (omega (arith, deep)) (subst (λ k. IsWithin setting inner k fun.body) (same_some is runs) p) rows
          (subst (λ k. Inventory setting circuit.options (activation_of setting fun k) 0 fun.body rows) (same_some is_m runs) inventory)
      by (WithinNoBody none) inventory = not_both none runs
      by within (InventoryNoBody none) = not_both none runs

  -- an entry that is not entered has no gates
  none_found : running_bound bound ≡ None → (rows : List Row) → InventoryOf setting circuit.options fun bound rows → no_cost ≡ cost_of circuit.level rows
  none_found none rows inventory = by inventory
    where
      by : {rows : List Row} → InventoryOf setting circuit.options fun bound rows → no_cost ≡ cost_of circuit.level rows
      by (InventoryBody n is inventory) = not_both none is
      by (InventoryNoBody none) = refl

pub returns-in-Some : goal.returns-in-Some
returns-in-Some c =
    λ fun at within rows inventory.
    body_found (setting_of c.args.body.now) c.args.circuit fun c.args.bound c.in-Some.own (sym c.running_bound.ensures.number ∙ c.in-Some.is) (c.count_fun.ensures fun at) within rows inventory

pub returns-in-None : goal.returns-in-None
returns-in-None c =
    λ fun at within rows inventory.
    c.nothing.ensures ∙ none_found (setting_of c.args.body.now) c.args.circuit fun c.args.bound (sym c.running_bound.ensures.number ∙ c.in-None.is) rows inventory
