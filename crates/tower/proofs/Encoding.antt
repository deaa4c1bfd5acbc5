-- How `encode` writes states: a layout has room for each, its bits are moved into a line, and the lines follow one another.
use Rattle.std.proofs.Common.{◌≡◌, ◌∙◌, ◌≤◌, ◌<◌, ap, ap₂, sym, subst, refl, arith, ℕ, zero, suc, ◌+◌, ◌*◌, ◌⊎◌, inl, inr, Bool, true, false, not, if◌then◌else◌, List, [], ◌∷◌, ◌++◌, length, map, drop, set, replicate, codes, flat_map, Option, Some, None, Result, Ok, Err, slice_get, option_map, append_assoc, append-nil, length-append}
use Rattle.std.specs.List.{AllByRecursion}
use Rattle.std.specs.Result.{IsErrAnd}
use Rattle.std.proofs.Math.Seq.{set-append_seam}
use Rattle.std.proofs.lemmas.List.{length-replicate}
use Rattle.std.proofs.lemmas.Option.{slice_get-map}
use Rattle.tw_io.specs.Devices.{Wrote}
use Rattle.tw_io.specs.declared.device.WriteFault.{WriteFault}
use Rattle.tw_io.proofs.Devices.{wrote_none}
use Rattle.tw_bits.specs.Lists.{bit_at, flipped}
use Rattle.tw_syntax.specs.Programs.{FunTree}
use Rattle.tw_types.specs.Types.{Widths, Ty, block_size}
use Rattle.tw_types.specs.Values.{Value, value_bits}
use Rattle.tw_types.proofs.Lengths.{length-value_bits}
use Rattle.tw_resolve.specs.Expressions.{Types}
use Rattle.tw_resolve.specs.Resolved.{resolved_setting}
use Rattle.tw_resolve.specs.Setting.{Setting}
use Rattle.tw_check.specs.declared.checked.Checked.{Checked}
use Rattle.tw_check.specs.declared.entry.Entry.{Entry}
use Rattle.tw_state.specs.declared.state.Side.{Side}
use Rattle.tw_state.specs.declared.state.Side.TheVariants as sides
use Rattle.tw_state.specs.declared.state.State.{State}
use Rattle.tw_state.specs.EntryEncoding.{targets_in, EncodedFits}
use Rattle.tw_state.specs.FromCode.{ListedState, listed_of, names_at}
use Rattle.tw_state.specs.Listed.{HaveTypes, names_at_start}
use Rattle.tw_state.specs.Results.{Fits}
use Rattle.tw_state.specs.declared.state_fault.StateFault.{StateFault}
use Rattle.tw_state.specs.declared.state_fault.StateFault.TheVariants as state_fault
use Rattle.tw_state.specs.StateLines.{IsState, AreStatesOf}
use Rattle.tw_state.specs.StateRefusals.{AreStatesIn, IsRefusedIn, IsRefusedText}
use Rattle.tw_state.specs.States.{Name}
use Rattle.tw_state.specs.Steps.{fun_types}
use Rattle.tw_state.specs.TypedLists.{IsTypedOn}
use Rattle.tw_state.proofs.Basics.{same_some}
use Rattle.tw_state.proofs.Blocks.{get_all}
use Rattle.tw_state.proofs.EntryFunctions.{entry_names_different}
use Rattle.tw_state.proofs.EntryNames.{dropped_at}
use Rattle.tw_state.proofs.TypedStates.{fits_listed}
use Rattle.tw_state.proofs.Writing.{part_then, part_broke}
use Rattle.tw_sim.specs.BitLines.{bit_digit, bit_line, bit_lines}
use Rattle.tw_frames.specs.declared.regions.WireLayout.{WireLayout}
use Rattle.tw_frames.specs.Sizes.{memory_size, names_size, type_size}
use Rattle.tw_cost.specs.declared.pricing.Priced.{Priced}
use Rattle.tw_lower.specs.Lowering.{IsLayout}
use Rattle.tw_lower.proofs.Encoded.{names_size-last}
use Rattle.tw_lower.proofs.EntryFrame.{regions_are, args_at, out_at}
use Rattle.tower.specs.CircuitEntries.{IsPricedWithin}
use Rattle.tower.specs.declared.ending.Unanswered.{Unanswered}
use Rattle.tower.specs.Encode.{encoding, encodings, StatesAnswer, WrongStates, Encoded}
use Rattle.tower.specs.Encodings.{CanEncode, WroteEncoding, WroteEncodings}
use Rattle.tower.specs.Ending.{of_states, Did}
use Rattle.tower.specs.Outcomes.{Prints}
use Rattle.tower.proofs.Answering.{is_layout}
use Rattle.tower.proofs.Doing.{as_error}

-- the bits of typed values are those of their names
values_size : (widths : Widths) (types : Types) (names : List Name) (values : List Value) → HaveTypes widths types names values → length (flat_map (value_bits widths) values) ≡ names_size widths types names
values_size widths types [] [] typed = refl
values_size widths types [] (value ∷ values) typed = absurd typed
values_size widths types (name ∷ names) [] typed = absurd typed
values_size widths types (name ∷ names) (value ∷ values) typed =
    length-append (value_bits widths value) (flat_map (value_bits widths) values) ∙ ap₂ (λ m n. m + n) (one (types name) typed.0) (values_size widths types names values typed.1)
  where
    one : (ty : Option Ty) → Fits widths ty (Some value) → length (value_bits widths value) ≡ type_size widths ty
    one (Some ty) fits = length-value_bits widths value ty fits
    one None fits = absurd fits

module _ (setting : Setting) (entry : Entry) (layout : WireLayout) (laid : IsLayout setting entry layout) (fun : FunTree) (found : slice_get setting.funs entry.fun ≡ Some fun) where
  -- the names of a side lie before the frames
  side_within : (side : Side) → layout.args + names_size setting.widths (fun_types setting fun) (names_at side fun) ≤ layout.frame
  side_within sides.Start = omega (arith, args_at setting entry layout laid fun found, laid.regions.out)
  side_within sides.End =
      let all = names_size-last setting.widths (fun_types setting fun) (names_at_start fun) fun.returned.text in
      omega (arith, all, args_at setting entry layout laid fun found, out_at setting entry layout laid fun found)

  -- so the wires hold the encoding of each typed state
  room : (side : Side) (listed : ListedState) → IsTypedOn setting side fun listed → HaveTypes setting.widths (fun_types setting fun) (names_at side fun) listed.values → EncodedFits layout.wires setting listed
  room side listed typed values =
      subst (λ (n : ℕ). n + length (flat_map (value_bits setting.widths) listed.values) ≤ layout.wires) (sym memory)
      (omega (arith, values_size setting.widths (fun_types setting fun) (names_at side fun) listed.values values, side_within side, laid.regions.frame, laid.regions.scratch, laid.regions.flags, laid.regions.ladder))
    where
      memory : setting.widths.addr + length listed.cells * block_size setting.widths (targets_in setting) ≡ layout.args
      memory =
          ap (λ (n : ℕ). setting.widths.addr + n * block_size setting.widths (targets_in setting)) typed.typed.typed.all_blocks
          ∙ sym (laid.regions.memory ∙ ap (memory_size setting.widths) (regions_are setting entry layout laid fun found).block)

-- the states of a text can be encoded on the wires of a priced entry
pub can_encode : (checked : Checked) (entry : Entry) (priced : Priced) → IsPricedWithin (resolved_setting checked.resolved) entry priced → (side : Side) (lines : List ℕ) (states : List ListedState)
    → AreStatesIn (resolved_setting checked.resolved) entry.fun side lines states → AllByRecursion (CanEncode priced.layout.wires (resolved_setting checked.resolved) entry.fun side) states
can_encode checked entry priced is side lines states (fun, found, are) = each states are.each
  where
    setting : Setting
    setting = resolved_setting checked.resolved

    one : (listed : ListedState) → IsTypedOn setting side fun listed → CanEncode priced.layout.wires setting entry.fun side listed
    one listed typed = (
      (fun, found, typed),
      room setting entry priced.layout (is_layout checked entry priced is) fun found side listed typed
          (fits_listed setting.widths (fun_types setting fun) (names_at side fun) listed.values typed.counted (entry_names_different checked side entry.fun fun found) typed.typed.typed.names),
    )

    each : (some : List ListedState) → AllByRecursion (IsState setting side fun) some → AllByRecursion (CanEncode priced.layout.wires setting entry.fun side) some
    each [] all = tt
    each (listed ∷ more) all = (one listed all.0.typed, each more all.1)

-- bits that are moved one by one

-- the first bits of the list were moved into a line: they are zero now, and their characters begin the line
pub record AreMoved (place : ℕ) (old bits : List Bool) (line : List ℕ) : Type 0 where
  pub done : List Bool
  pub rest : List Bool
  pub more : List ℕ
  pub parts : old ≡ done ++ rest
  pub counted : length done ≡ place
  pub bits_are : bits ≡ replicate place false ++ rest
  pub line_is : line ≡ map bit_digit done ++ more
  pub room : length more ≡ length rest + 1

pub none_moved : (old : List Bool) (line : List ℕ) → length line ≡ length old + 1 → AreMoved 0 old old line
none_moved old line long = record { done = []; rest = old; more = line; parts = refl; counted = refl; bits_are = refl; line_is = refl; room = long }

bit_at-middle : (n : ℕ) (bit : Bool) (rest : List Bool) → bit_at (replicate n false ++ bit ∷ rest) n ≡ bit
bit_at-middle zero bit rest = refl
bit_at-middle (suc n) bit rest = bit_at-middle n bit rest

flipped-middle : (n : ℕ) (bit : Bool) (rest : List Bool) → flipped (replicate n false ++ bit ∷ rest) n ≡ replicate n false ++ not bit ∷ rest
flipped-middle zero bit rest = refl
flipped-middle (suc n) bit rest = ap (λ bits. false ∷ bits) (flipped-middle n bit rest)

one_more_zero : (n : ℕ) (rest : List Bool) → replicate n false ++ false ∷ rest ≡ replicate (suc n) false ++ rest
one_more_zero zero rest = refl
one_more_zero (suc n) rest = ap (λ bits. false ∷ bits) (one_more_zero n rest)

length-zeros : (n : ℕ) (rest : List Bool) → length (replicate n false ++ rest) ≡ n + length rest
length-zeros zero rest = omega arith
length-zeros (suc n) rest = let same = length-zeros n rest in omega (arith, same)

map-snoc : (done : List Bool) (bit : Bool) (more : List ℕ) → map bit_digit done ++ bit_digit bit ∷ more ≡ map bit_digit (done ++ bit ∷ []) ++ more
map-snoc [] bit more = refl
map-snoc (first ∷ done) bit more = ap (λ line. bit_digit first ∷ line) (map-snoc done bit more)

length-digits : (done : List Bool) → length (map bit_digit done) ≡ length done
length-digits [] = refl
length-digits (bit ∷ done) = ap suc (length-digits done)

-- a character that is set after others
set_next : (done : List Bool) (place first digit : ℕ) (more : List ℕ) → length done ≡ place → set (map bit_digit done ++ first ∷ more) place digit ≡ map bit_digit done ++ digit ∷ more
set_next done place first digit more counted =
    ap (λ n. set (map bit_digit done ++ first ∷ more) n digit) (sym (length-digits done ∙ counted)) ∙ set-append_seam (map bit_digit done) first more digit

-- the next bit is moved
pub next_moved : (place : ℕ) (old bits after : List Bool) (line next : List ℕ) (bit : Bool) → AreMoved place old bits line → place < length bits → bit_at bits place ≡ bit → after ≡ (if bit then flipped bits place else bits) → next ≡ set line place (bit_digit bit)
    → AreMoved (suc place) old after next
next_moved place old bits after line next bit moved inside is flips sets = by moved.rest moved.more moved.parts moved.bits_are moved.line_is moved.room
  where
    cleared : (k : Bool) (rest : List Bool) → (if k then flipped (replicate place false ++ k ∷ rest) place else (replicate place false ++ k ∷ rest)) ≡ replicate (suc place) false ++ rest
    cleared true rest = flipped-middle place true rest ∙ one_more_zero place rest
    cleared false rest = one_more_zero place rest

    by : (rest : List Bool) (more : List ℕ) → old ≡ moved.done ++ rest → bits ≡ replicate place false ++ rest → line ≡ map bit_digit moved.done ++ more → length more ≡ length rest + 1 → AreMoved (suc place) old after next
    by [] more parts bits_are line_is long = absurd (let count = ap length bits_are ∙ length-zeros place [] in omega (arith, inside, count))
    by (head ∷ rest) [] parts bits_are line_is long = absurd (omega (arith, long))
    by (head ∷ rest) (first ∷ more) parts bits_are line_is long =
        let same : head ≡ bit = sym (bit_at-middle place head rest) ∙ ap (λ b. bit_at b place) (sym bits_are) ∙ is in
        record {
          done = moved.done ++ head ∷ [];
          rest = rest;
          more = more;
          parts = parts ∙ sym (append_assoc moved.done (head ∷ []) rest);
          counted = length-append moved.done (head ∷ []) ∙ omega (arith, moved.counted);
          bits_are = flips ∙ (λ i. if bit then flipped (bits_are i) place else bits_are i) ∙ subst (λ k. (if bit then flipped (replicate place false ++ k ∷ rest) place else (replicate place false ++ k ∷ rest)) ≡ replicate (suc place) false ++ rest) (sym same) (cleared bit rest);
          line_is = sets ∙ ap (λ l. set l place (bit_digit bit)) line_is ∙ set_next moved.done place first (bit_digit bit) more moved.counted ∙ ap (λ k. map bit_digit moved.done ++ bit_digit k ∷ more) (sym same) ∙ map-snoc moved.done head more;
          room = omega (arith, long);
        }

-- there are as many bits as before
pub length-moved : (place : ℕ) (old bits : List Bool) (line : List ℕ) → AreMoved place old bits line → length bits ≡ length old
length-moved place old bits line moved =
    let before = ap length moved.parts ∙ length-append moved.done moved.rest in
    let now = ap length moved.bits_are ∙ length-zeros place moved.rest in
    omega (arith, before, now, moved.counted)

-- all bits are moved
module _ (place : ℕ) (old bits : List Bool) (line : List ℕ) (moved : AreMoved place old bits line) (all : length bits ≤ place) where
  no_rest : moved.rest ≡ []
  no_rest = by moved.rest moved.bits_are
    where
      by : (rest : List Bool) → bits ≡ replicate place false ++ rest → rest ≡ []
      by [] bits_are = refl
      by (head ∷ rest) bits_are = absurd (let count = ap length bits_are ∙ length-zeros place (head ∷ rest) in omega (arith, all, count))

  whole : old ≡ moved.done
  whole = moved.parts ∙ ap (λ rest. moved.done ++ rest) no_rest ∙ append-nil moved.done

  length-old : length old ≡ place
  length-old = ap length whole ∙ moved.counted

  pub all_zero : bits ≡ replicate (length old) false
  all_zero = moved.bits_are ∙ ap (λ rest. replicate place false ++ rest) no_rest ∙ append-nil (replicate place false) ∙ ap (λ n. replicate n false) (sym length-old)

  pub line_ended : (last : ℕ) (ended : List ℕ) → last ≡ place → ended ≡ set line last 10 → ended ≡ bit_line old
  line_ended last ended same sets = by moved.more moved.line_is (moved.room ∙ ap (λ (rest : List Bool). length rest + 1) no_rest)
    where
      by : (more : List ℕ) → line ≡ map bit_digit moved.done ++ more → length more ≡ 1 → ended ≡ bit_line old
      by [] line_is long = absurd (omega (arith, long))
      by (first ∷ []) line_is long =
          sets ∙ ap (λ n. set line n 10) same ∙ ap (λ l. set l place 10) line_is ∙ set_next moved.done place first 10 [] moved.counted ∙ ap (λ (b : List Bool). map bit_digit b ++ codes "\n") (sym whole)
      by (first ∷ second ∷ more) line_is long = absurd (omega (arith, long))

-- the length of a line of bits
pub length-bit_line : (bits : List Bool) → length (bit_line bits) ≡ length bits + 1
length-bit_line bits = length-append (map bit_digit bits) (codes "\n") ∙ ap (λ n. n + 1) (length-digits bits)

-- lines that are written one by one
module _ {K : Type 0} (taken : K → Option (List ℕ)) (faults : K → ℕ) (wires : ℕ) (setting : Setting) (number : ℕ) (side : Side) where
  -- the lines of the states from a place on
  lines_at : (fun : FunTree) (states : List State) (place : ℕ) (state : State) → slice_get states place ≡ Some state
      → bit_lines (encodings wires setting side fun (map listed_of (drop place states)))
      ≡ bit_line (encoding wires setting side fun (listed_of state)) ++ bit_lines (encodings wires setting side fun (map listed_of (drop (place + 1) states)))
  lines_at fun states place state found = ap (λ some. bit_lines (encodings wires setting side fun (map listed_of some))) (dropped_at states place state found)

  pub line_broke : (a b : K) (fault : WriteFault) (states : List State) (place : ℕ) (state : State) → slice_get states place ≡ Some state → WroteEncoding taken faults a b (Err fault) wires setting number side (listed_of state)
      → WroteEncodings taken faults a b (Err fault) wires setting number side (map listed_of (drop place states))
  line_broke a b fault states place state found wrote = λ fun there. part_broke taken faults a b fault _ _ _ (lines_at fun states place state found) (wrote fun there)

  pub line_then : (a b c : K) (result : Result (Unit {0}) WriteFault) (states : List State) (place : ℕ) (state : State) → slice_get states place ≡ Some state → WroteEncoding taken faults a b (Ok tt) wires setting number side (listed_of state)
      → WroteEncodings taken faults b c result wires setting number side (map listed_of (drop (place + 1) states)) → WroteEncodings taken faults a c result wires setting number side (map listed_of (drop place states))
  line_then a b c result states place state found wrote later = λ fun there. part_then taken faults a b c result _ _ _ (lines_at fun states place state found) (wrote fun there) (later fun there)

  pub none_left : (a : K) (states : List State) → states ≡ [] → WroteEncodings taken faults a a (Ok tt) wires setting number side (map listed_of states)
  none_left a states none = λ fun there. subst (λ some. Wrote taken faults a a (Ok tt) (bit_lines (encodings wires setting side fun (map listed_of some)))) (sym none) (wrote_none taken faults a)

-- a state that can be encoded, by its place
pub encodable_at : (wires : ℕ) (setting : Setting) (number : ℕ) (side : Side) (states : List State) (place : ℕ) (state : State) → slice_get states place ≡ Some state
    → AllByRecursion (CanEncode wires setting number side) (map listed_of states) → CanEncode wires setting number side (listed_of state)
encodable_at wires setting number side states place state found all =
    get_all (CanEncode wires setting number side) (map listed_of states) place (listed_of state) all (slice_get-map listed_of states place ∙ ap (option_map listed_of) found)

-- the lines of the same states
pub same_lines : {wires other : ℕ} {side next : Side} {states items : List State} (setting : Setting) (fun : FunTree) → wires ≡ other → side ≡ next → states ≡ items
    → bit_lines (encodings wires setting side fun (map listed_of states)) ≡ bit_lines (encodings other setting next fun (map listed_of items))
same_lines setting fun p q r = λ i. bit_lines (encodings (p i) setting (q i) fun (map listed_of (r i)))

-- the number of zero bits
pub length-zero_bits : (bits : List Bool) (n : ℕ) → bits ≡ replicate n false → length bits ≡ n
length-zero_bits bits n are = ap length are ∙ length-replicate n false

-- what was done with a text of states
module _ {K : Type 0} (taken : K → Option (List ℕ)) (faults : K → ℕ) (wires : ℕ) (setting : Setting) (number : ℕ) (side : Side) (lines : List ℕ) (fun : FunTree) (there : slice_get setting.funs number ≡ Some fun) where
  -- a text that is refused
  pub did_refuse_states : (at : K) (fault : StateFault) (result : Result (Unit {0}) Unanswered) → IsErrAnd result (λ e. e ≡ of_states fault) → (fault ≡ state_fault.Memory) ⊎ IsRefusedIn setting number side lines fault
      → Did taken faults at at result (StatesAnswer wires setting side fun lines)
  did_refuse_states at fault result is refused = by fault is refused
    where
      refused_text : (f : StateFault) → IsRefusedIn setting number side lines f → IsRefusedText setting side fun lines f
      refused_text f r = subst (λ g. IsRefusedText setting side g lines f) (same_some r.1 there) r.2

      by : (f : StateFault) → IsErrAnd result (λ e. e ≡ of_states f) → (f ≡ state_fault.Memory) ⊎ IsRefusedIn setting number side lines f → Did taken faults at at result (StatesAnswer wires setting side fun lines)
      by (state_fault.BadState line why) e (inr r) = as_error taken faults at at result _ (StatesAnswer wires setting side fun lines) e (WrongStates (state_fault.BadState line why) _ (refused_text _ r) refl refl, refl)
      by state_fault.TooMany e (inr r) = as_error taken faults at at result _ (StatesAnswer wires setting side fun lines) e (WrongStates state_fault.TooMany _ (refused_text _ r) refl refl, refl)
      by state_fault.Memory e r = as_error taken faults at at result _ (StatesAnswer wires setting side fun lines) e refl
      by (state_fault.BadState line why) e (inl memory) = cc
      by state_fault.TooMany e (inl memory) = cc

  -- a text whose states are encoded
  pub states_encoded : (states : List ListedState) → AreStatesIn setting number side lines states → StatesAnswer wires setting side fun lines (Prints (bit_lines (encodings wires setting side fun states)))
  states_encoded states are = Encoded states (subst (λ g. AreStatesOf setting side g lines states) (same_some are.1 there) are.2) refl
