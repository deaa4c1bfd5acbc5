use Rattle.std.proofs.Common.{rules, sym, refl, subst, codes}
use Rattle.tw_text.proofs.Prefixes.{append-after}
use Rattle.tw_types.specs.Types.{AreInRange}
use Rattle.tw_types.specs.FromCode.{ty_of, value_of}
use Rattle.tw_state.specs.Reading.{IsValueBefore}
use Rattle.tw_state.proofs.ReadValues.{no_pair, no_first, no_second, no_tail, whole_pair}
use Rattle.tw_state.proofs.value_text.+read_value.Goals as goal

pub returns-in_default : goal.returns-in_default
returns-in_default t c delimits =
    rw c.in-Pair.is (no_pair c.args.widths (ty_of c.in-Pair.first.now) (ty_of c.in-Pair.second.now) c.args.bytes.now c.args.tail.now c.in_default.ensures)

pub returns-in_default-2 : goal.returns-in_default-2
returns-in_default-2 t c delimits =
    let range : AreInRange c.args.widths = search rules in
    let opened = append-after (codes "(") c.args.bytes.now c.in-Some.behind.now (sym c.in-Some.ensures) in
    let none = subst (IsValueBefore c.args.widths (ty_of c.in-Pair.first.now) (codes ", ") c.in-Some.behind.now) c.in_default-2.is (c.in_ok-x-in-Pair.ensures refl) in
    rw c.in-Pair.is (no_first c.args.widths range (ty_of c.in-Pair.first.now) (ty_of c.in-Pair.second.now) c.args.bytes.now c.in-Some.behind.now opened c.args.tail.now none)

pub returns-in_default-3 : goal.returns-in_default-3
returns-in_default-3 t c delimits =
    let range : AreInRange c.args.widths = search rules in
    let opened = append-after (codes "(") c.args.bytes.now c.in-Some.behind.now (sym c.in-Some.ensures) in
    let first = subst (IsValueBefore c.args.widths (ty_of c.in-Pair.first.now) (codes ", ") c.in-Some.behind.now) c.in-Some-2.is (c.in_ok-x-in-Pair.ensures refl) in
    let none = subst (IsValueBefore c.args.widths (ty_of c.in-Pair.second.now) (codes ")") c.in-Some-2.behind.now) c.in_default-3.is (c.in_ok-y-in-Pair.ensures refl) in
    rw c.in-Pair.is
    (no_second c.args.widths range (ty_of c.in-Pair.first.now) (ty_of c.in-Pair.second.now) c.args.bytes.now c.in-Some.behind.now opened (value_of c.in-Some-2.x) c.in-Some-2.behind.now first.0 first.1
    c.args.tail.now none)

pub returns-in_default-after : goal.returns-in_default-after
returns-in_default-after t c delimits =
    let range : AreInRange c.args.widths = search rules in
    let opened = append-after (codes "(") c.args.bytes.now c.in-Some.behind.now (sym c.in-Some.ensures) in
    let first = subst (IsValueBefore c.args.widths (ty_of c.in-Pair.first.now) (codes ", ") c.in-Some.behind.now) c.in-Some-2.is (c.in_ok-x-in-Pair.ensures refl) in
    let second = subst (IsValueBefore c.args.widths (ty_of c.in-Pair.second.now) (codes ")") c.in-Some-2.behind.now) c.in-Some-3.is (c.in_ok-y-in-Pair.ensures refl) in
    rw c.in-Pair.is
    (no_tail c.args.widths range (ty_of c.in-Pair.first.now) (ty_of c.in-Pair.second.now) c.args.bytes.now c.in-Some.behind.now opened (value_of c.in-Some-2.x) c.in-Some-2.behind.now first.0 first.1
    (value_of c.in-Some-3.y) c.in-Some-3.behind.now second.0 second.1 c.args.tail.now c.in_default-after.ensures)

pub returns-in-Ptr : goal.returns-in-Ptr
returns-in-Ptr t c delimits = rw c.in-Ptr.is (c.address_before.ensures c.in-Ptr.field-0.0 delimits)

pub returns-in_ok-pair-in-Pair : goal.returns-in_ok-pair-in-Pair
returns-in_ok-pair-in-Pair t c delimits =
    let range : AreInRange c.args.widths = search rules in
    let opened = append-after (codes "(") c.args.bytes.now c.in-Some.behind.now (sym c.in-Some.ensures) in
    let first = subst (IsValueBefore c.args.widths (ty_of c.in-Pair.first.now) (codes ", ") c.in-Some.behind.now) c.in-Some-2.is (c.in_ok-x-in-Pair.ensures refl) in
    let second = subst (IsValueBefore c.args.widths (ty_of c.in-Pair.second.now) (codes ")") c.in-Some-2.behind.now) c.in-Some-3.is (c.in_ok-y-in-Pair.ensures refl) in
    let whole = whole_pair c.args.widths range (ty_of c.in-Pair.first.now) (ty_of c.in-Pair.second.now) c.args.bytes.now c.in-Some.behind.now opened (value_of c.in-Some-2.x) c.in-Some-2.behind.now first.0 first.1
    (value_of c.in-Some-3.y) c.in-Some-3.behind.now second.0 second.1 c.args.tail.now c.in-Some-after.rest.now (append-after c.args.tail.now c.in-Some-3.behind.now _ (sym c.in-Some-after.ensures)) in
    rw (c.in-Pair.is, c.in_ok-pair-in-Pair.ensures) ((first.0, second.0), whole)
