use Rattle.std.proofs.Common.{◌≡◌, ◌∙◌, sym, ap, false, Option, Some, None, is_some, [], ◌∷◌, ◌++◌, length, arith, length-append}
use Rattle.std.proofs.lemmas.List.{length-map}
use Rattle.indexmap.proofs.CallerLemmas.{insert_entry-new}
use Rattle.tw_types.specs.declared.types.Ty as ty
use Rattle.tw_types.specs.Types.{UnitTy}
use Rattle.tw_types.specs.FromCode.{target_of, targets_of}
use Rattle.tw_types.specs.Table.{place_of, interned}
use Rattle.tw_types.proofs.Tables.{place_of-keys, interned-known, interned-new, place_of-new, distinct-interned, targets_of-appended}
use Rattle.tw_types.proofs.targets.Targets.intern.Goals as goal

-- a key that is found has its place
known : (c : goal.In-Some) → place_of c.args.written.now c.args.self.now ≡ Some c.in-Some.place
known c =
    ap (place_of c.args.written.now) (sym c.self.view_is)
    ∙ (place_of-keys c.args.written.now c.self.inside.table.entries ∙ sym c.in-Some.ensures.index)

pub returns-in-Some-clause-place : goal.returns-in-Some-clause-place
returns-in-Some-clause-place c = known c

pub returns-in-Some-clause-appended : goal.returns-in-Some-clause-appended
returns-in-Some-clause-appended c = sym (interned-known c.args.written.now c.args.self.now (known c))

-- a text that is not found is new
new : (c : goal.In_ok-insert) → place_of c.args.written.now (targets_of c.self.inside.table.entries) ≡ None
new c =
    place_of-keys c.args.written.now c.self.inside.table.entries ∙ (sym c.get_index_of.ensures.index ∙ c.in_default.is)

absent : {A : Type 0} (found : Option A) → is_some found ≡ false → found ≡ None
absent None e = cc
absent (Some x) e = cc

-- a new text is appended
appended : (c : goal.In_ok-insert) → targets_of c.insert.new.self.entries ≡ targets_of c.self.inside.table.entries ++ record { written = c.args.written.now; ty = UnitTy } ∷ []
appended c =
    ap targets_of
    (c.in_ok-insert.ensures.entries
    ∙ insert_entry-new _ c.self.inside.table c.args.written ty.Unit (absent _ (sym c.get_index_of.ensures.found ∙ ap is_some c.in_default.is)))
    ∙ targets_of-appended c.self.inside.table.entries _

pub invariant_of-self-2 : goal.invariant_of-self-2
invariant_of-self-2 c =
    let targets = targets_of c.self.inside.table.entries in
    let room = c.requires.room in
    rw (appended c, length-append)
    (omega (arith, room, ap length c.self.view_is), distinct-interned c.args.written.now UnitTy targets (new c) c.self.invariant.1)

pub returns-clause-place : goal.returns-clause-place
returns-clause-place c =
    ap (place_of c.args.written.now) (appended c)
    ∙ (place_of-new c.args.written.now UnitTy (targets_of c.self.inside.table.entries) (new c)
    ∙ ap Some (length-map c.self.inside.table.entries target_of ∙ sym c.len-place.ensures.len))

pub returns-clause-appended : goal.returns-clause-appended
returns-clause-appended c =
    appended c
    ∙ (sym (interned-new c.args.written.now (targets_of c.self.inside.table.entries) (new c)) ∙ ap (interned c.args.written.now) c.self.view_is)
