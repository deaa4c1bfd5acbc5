-- Typed, well-formed states with one encoding agree.
use Rattle.std.proofs.Common.{◌≡◌, ◌≢◌, ◌∙◌, ℕ, zero, suc, ◌+◌, ◌≤◌, ◌<◌, ◌==◌, Bool, true, false, cond, Decides, true≢false, List, [], ◌∷◌, ◌++◌, length, fold, flat_map, Some, slice_get, refl, ap, sym, subst, arith, append_assoc, bytes_eq}
use Rattle.std.proofs.Math.Nat.{suc_inj}
use Rattle.std.proofs.Math.Path.{fun_ext}
use Rattle.std.specs.List.{AllByRecursion}
use Rattle.std.proofs.lemmas.Bool.Decides.{Decides-eqb}
use Rattle.std.proofs.lemmas.Slice.Eq.{bytes_eq-Decides}
use Rattle.tw_bits.specs.Numbers.{number_bits}
use Rattle.tw_bits.proofs.Laws.{length-number_bits}
use Rattle.tw_types.specs.Types.{Widths, Target, block_count}
use Rattle.tw_types.specs.Values.{Value, HasType, value_bits}
use Rattle.tw_types.proofs.Encoding.{append-injective, address_below, number_bits-injective, value_bits-injective}
use Rattle.tw_types.proofs.Lengths.{length-value_bits}
use Rattle.tw_state.specs.States.{Name, Cell, Free, Live, Store, State, cell_at, Links, IsWellFormed}
use Rattle.tw_state.specs.TypedLists.{IsCell}
use Rattle.tw_state.specs.Encoding.{cell_bits, CellsAgree}
use Rattle.tw_state.proofs.Variables.{Variable, HasVariable, IsTyped, variable_bits, encoded, IsInjective}
use Rattle.tw_state.proofs.Cells.{cell_at_within}
use Rattle.tw_state.proofs.Chain.{counted}
use Rattle.tw_state.proofs.Sizes.{length-cell_bits, length-variable_bits}

-- four parts, one after the other
four_parts : (head cells variables zeros : List Bool) → ((head ++ cells) ++ variables) ++ zeros ≡ head ++ (cells ++ (variables ++ zeros))
four_parts head cells variables zeros =
    append_assoc (head ++ cells) variables zeros ∙ append_assoc head cells (variables ++ zeros)

-- stores that have the same values of these variables, and agree on all other names, are equal
one_store : (store other : Store) (name : Name) (variables : List Variable) → AllByRecursion (λ variable. store variable.name ≡ other variable.name) variables → (AllByRecursion (λ variable. variable.name ≢ name) variables → store name ≡ other name) → store name ≡ other name
one_store store other name [] same apart = apart tt
one_store store other name (variable ∷ variables) same apart =
    by (bytes_eq variable.name name) (bytes_eq-Decides variable.name name)
    (λ differs. one_store store other name variables same.1 (λ others. apart (differs, others)))
  where
    by : (test : Bool) → Decides test (variable.name ≡ name) → ((variable.name ≡ name → ⊥) → store name ≡ other name) → store name ≡ other name
    by true tests deeper = subst (λ (n : Name). store n ≡ other n) (tests.0 refl) same.0
    by false tests deeper = deeper (λ is. true≢false (sym (tests.1 is)))

module _ (widths : Widths) (targets : List Target) where
  -- cells that have the same bits, one by one
  SameBits : List Cell → List Cell → Type 0
  SameBits [] [] = Unit {0}
  SameBits (cell ∷ cells) (other ∷ others) = (cell_bits widths targets cell ≡ cell_bits widths targets other) × SameBits cells others
  SameBits cells others = ⊥

  -- cells of equal bits have the same bits one by one
  cells_same : (cells others : List Cell) (more less : List Bool) → AllByRecursion (IsCell widths targets) cells → AllByRecursion (IsCell widths targets) others → length cells ≡ length others → flat_map (cell_bits widths targets) cells ++ more ≡ flat_map (cell_bits widths targets) others ++ less → SameBits cells others × (more ≡ less)
  unfolding SameBits
  cells_same [] [] more less all also len same = (tt, same)
  cells_same (cell ∷ cells) (other ∷ others) more less all also len same =
      let bits = cell_bits widths targets in
      let parts = append-injective (bits cell) (flat_map bits cells ++ more) (bits other) (flat_map bits others ++ less)
      (length-cell_bits widths targets cell all.0 ∙ sym (length-cell_bits widths targets other also.0))
      (sym (append_assoc (bits cell) (flat_map bits cells) more) ∙ (same ∙ append_assoc (bits other) (flat_map bits others) less)) in
      let rest = cells_same cells others more less all.1 also.1 (suc_inj len) parts.1 in
      ((parts.0, rest.0), rest.1)
  cells_same [] (other ∷ others) more less all also len same = absurd (omega (arith, len))
  cells_same (cell ∷ cells) [] more less all also len same = absurd (omega (arith, len))

  -- free cells that have the same bits have one link
  links_same : (next other : ℕ) → next ≤ block_count widths → other ≤ block_count widths → cell_bits widths targets (Free next) ≡ cell_bits widths targets (Free other) → next ≡ other
  links_same next other is also same =
      number_bits-injective widths.addr next other (address_below widths next is) (address_below widths other also)
      (append-injective (number_bits widths.addr next) _ (number_bits widths.addr other) _
      (length-number_bits widths.addr next ∙ sym (length-number_bits widths.addr other)) same).0

  -- live cells of one target that have the same bits have one value
  values_same : (target : ℕ) (value other : Value) → IsCell widths targets (Live target value) → IsCell widths targets (Live target other) → cell_bits widths targets (Live target value) ≡ cell_bits widths targets (Live target other) → value ≡ other
  values_same target value other is also same =
      let found : Some also.0 ≡ Some is.0 = sym also.1 ∙ is.1 in
      let one : also.0 ≡ is.0 = cc in
      let typed = subst (HasType widths other) one also.2 in
      value_bits-injective widths is.0 value other is.2 typed
      (append-injective (value_bits widths value) _ (value_bits widths other) _
      (length-value_bits widths value is.0 is.2 ∙ sym (length-value_bits widths other is.0 typed)) same).0

  -- free cells at one place have one link
  links_at : (cells others : List Cell) → SameBits cells others → AllByRecursion (IsCell widths targets) cells → AllByRecursion (IsCell widths targets) others → (i next other : ℕ) → slice_get cells i ≡ Some (Free next) → slice_get others i ≡ Some (Free other) → next ≡ other
  unfolding SameBits
  links_at [] others same all also i next other at there = cc
  links_at (cell ∷ cells) [] same all also i next other at there = absurd same
  links_at (Free m ∷ cells) (Free n ∷ others) same all also zero next other at there =
      let one = links_same m n all.0 also.0 same.0 in cc
  links_at (Live target value ∷ cells) (cell ∷ others) same all also zero next other at there = cc
  links_at (Free m ∷ cells) (Live target value ∷ others) same all also zero next other at there = cc
  links_at (cell ∷ cells) (another ∷ others) same all also (suc i) next other at there =
      links_at cells others same.1 all.1 also.1 i next other at there

  block_links : (cells others : List Cell) → SameBits cells others → AllByRecursion (IsCell widths targets) cells → AllByRecursion (IsCell widths targets) others → (block next other : ℕ) → cell_at cells block ≡ Some (Free next) → cell_at others block ≡ Some (Free other) → next ≡ other
  block_links cells others same all also zero next other at there = cc
  block_links cells others same all also (suc i) next other at there = links_at cells others same all also i next other at there

  module _ (cells others : List Cell) (same : SameBits cells others) (all : AllByRecursion (IsCell widths targets) cells) (also : AllByRecursion (IsCell widths targets) others) where
    -- a block that one chain passes is free for the other chain
    free_too : (block n address : ℕ) (chain other : List ℕ) → Links cells address chain → Links others address other → n < fold (counted block) n chain → (next : ℕ) × (cell_at others block ≡ Some (Free next))
    free_too block n address [] other links there some = absurd (omega (arith, some))
    free_too block n address (passed ∷ chain) [] links there some =
        let within = cell_at_within cells passed (Free links.1.0) links.1.1 in absurd (omega (arith, links.0, there, within.0))
    free_too block n address (passed ∷ chain) (first ∷ other) links there some =
        let here : passed ≡ first = sym links.0 ∙ there.0 in
        let one = block_links cells others same all also first links.1.0 there.1.0 (subst (λ b. cell_at cells b ≡ Some (Free links.1.0)) here links.1.1) there.1.1 in
        by (passed == block) (Decides-eqb passed block) here
        (λ more. free_too block (n + 0) links.1.0 chain other links.1.2 (subst (λ a. Links others a other) (sym one) there.1.2) more) some
      where
        by : (test : Bool) → Decides test (passed ≡ block) → passed ≡ first → (n + 0 < fold (counted block) (n + 0) chain → (next : ℕ) × (cell_at others block ≡ Some (Free next))) → n < fold (counted block) (n + cond test 1 0) chain → (next : ℕ) × (cell_at others block ≡ Some (Free next))
        by true tests here deeper some =
            (there.1.0, subst (λ b. cell_at others b ≡ Some (Free there.1.0)) (sym here ∙ tests.0 refl) there.1.1)
        by false tests here deeper some = deeper (omega (arith, some))

  -- cells with the same bits agree, if the same ones are free
  cells_agree : (cells others : List Cell) → SameBits cells others → AllByRecursion (IsCell widths targets) cells → AllByRecursion (IsCell widths targets) others → ((i next : ℕ) → slice_get cells i ≡ Some (Free next) → (other : ℕ) × (slice_get others i ≡ Some (Free other))) → ((i next : ℕ) → slice_get others i ≡ Some (Free next) → (other : ℕ) × (slice_get cells i ≡ Some (Free other))) → CellsAgree cells others
  unfolding SameBits
  cells_agree [] [] same all also to from = tt
  cells_agree (Free next ∷ cells) (Free other ∷ others) same all also to from =
      (links_same next other all.0 also.0 same.0, cells_agree cells others same.1 all.1 also.1 (λ i. to (suc i)) (λ i. from (suc i)))
  cells_agree (Live target value ∷ cells) (Live other_target other ∷ others) same all also to from =
      ((λ one. live target other_target one value other all.0 also.0 same.0), cells_agree cells others same.1 all.1 also.1 (λ i. to (suc i)) (λ i. from (suc i)))
    where
      live : (target other_target : ℕ) → target ≡ other_target → (value other : Value) → IsCell widths targets (Live target value) → IsCell widths targets (Live other_target other) → cell_bits widths targets (Live target value) ≡ cell_bits widths targets (Live other_target other) → value ≡ other
      live target other_target one value other is also same =
          values_same target value other is (subst (λ t. IsCell widths targets (Live t other)) (sym one) also) same
  cells_agree (Free next ∷ cells) (Live target value ∷ others) same all also to from = let free = to 0 next refl in cc
  cells_agree (Live target value ∷ cells) (Free next ∷ others) same all also to from = let free = from 0 next refl in cc
  cells_agree [] (other ∷ others) same all also to from = absurd same
  cells_agree (cell ∷ cells) [] same all also to from = absurd same

  -- variables of equal bits have the same values
  variables_same : (store other : Store) (variables : List Variable) (more less : List Bool) → AllByRecursion (HasVariable widths store) variables → AllByRecursion (HasVariable widths other) variables → flat_map (variable_bits widths store) variables ++ more ≡ flat_map (variable_bits widths other) variables ++ less → AllByRecursion (λ variable. store variable.name ≡ other variable.name) variables
  variables_same store other [] more less all also same = tt
  variables_same store other (variable ∷ variables) more less all also same =
      let bits = variable_bits widths store in
      let other_bits = variable_bits widths other in
      let parts = append-injective (bits variable) (flat_map bits variables ++ more) (other_bits variable) (flat_map other_bits variables ++ less)
      (length-variable_bits widths store variable all.0 ∙ sym (length-variable_bits widths other variable also.0))
      (sym (append_assoc (bits variable) (flat_map bits variables) more) ∙ (same ∙ append_assoc (other_bits variable) (flat_map other_bits variables) less)) in
      let one = value_bits-injective widths variable.ty all.0.0 also.0.0 all.0.2 also.0.2 (rw (all.0.1, also.0.1) at parts.0) in
      (all.0.1 ∙ (ap Some one ∙ sym also.0.1), variables_same store other variables more less all.1 also.1 parts.1)

  module _ (variables : List Variable) (state other : State) (formed : IsWellFormed state) (other_formed : IsWellFormed other) (typed : IsTyped widths targets variables state) (other_typed : IsTyped widths targets variables other) where
    -- a cell that is free in one state is free in the other
    free_in_other : state.head ≡ other.head → SameBits state.cells other.cells → (i next : ℕ) → slice_get state.cells i ≡ Some (Free next) → (link : ℕ) × (slice_get other.cells i ≡ Some (Free link))
    free_in_other head same i next at =
        let once = formed.once (suc i) next at in
        free_too state.cells other.cells same typed.each_cell other_typed.each_cell (suc i) 0 other.head formed.chain other_formed.chain
        (subst (λ a. Links state.cells a formed.chain) head formed.links) other_formed.links (omega (arith, once))

    -- the heads are equal, the cells have the same bits, and the variables the same values
    record Parts : Type 0 where
      head : state.head ≡ other.head
      cells : SameBits state.cells other.cells
      values : AllByRecursion (λ variable. state.store variable.name ≡ other.store variable.name) variables

    parts : (wires : ℕ) → encoded wires widths targets variables state ≡ encoded wires widths targets variables other → Parts
    parts wires same =
        let head = append-injective (number_bits widths.addr state.head) _ (number_bits widths.addr other.head) _
        (length-number_bits widths.addr state.head ∙ sym (length-number_bits widths.addr other.head))
        (sym (four_parts (number_bits widths.addr state.head) _ _ _) ∙ (same ∙ four_parts (number_bits widths.addr other.head) _ _ _)) in
        let cells = cells_same state.cells other.cells _ _ typed.each_cell other_typed.each_cell (typed.all_blocks ∙ sym other_typed.all_blocks) head.1 in
        record {
          head = number_bits-injective widths.addr state.head other.head (address_below widths state.head typed.head_within) (address_below widths other.head other_typed.head_within) head.0;
          cells = cells.0;
          values = variables_same state.store other.store variables _ _ typed.holds.each other_typed.holds.each cells.1;
        }

-- the encoding is injective
pub encoding-injective : (wires : ℕ) (widths : Widths) (targets : List Target) (variables : List Variable) → IsInjective wires widths targets variables
encoding-injective wires widths targets variables state other formed other_formed typed other_typed same =
    let one = parts widths targets variables state other formed other_formed typed other_typed wires same in
    let back = parts widths targets variables other state other_formed formed other_typed typed wires (sym same) in
    record {
      head = one.head;
      cells =
          cells_agree widths targets state.cells other.cells one.cells typed.each_cell other_typed.each_cell
          (free_in_other widths targets variables state other formed other_formed typed other_typed one.head one.cells)
          (free_in_other widths targets variables other state other_formed formed other_typed typed back.head back.cells);
      store = fun_ext (λ name. one_store state.store other.store name variables one.values (λ apart. typed.holds.no_other name apart ∙ sym (other_typed.holds.no_other name apart)));
    }
