use Rattle.std.proofs.Common.{rules, ◌≡◌, ◌∙◌, ◌+◌, ◌≤◌, ◌<◌, arith, sym, subst, ap, inr, length, map, [], ℕ, List}
use Rattle.std.proofs.lemmas.Result.{err_from_is_err_and}
use Rattle.tw_text.specs.declared.limits.TheConstants.{STATES_LIMIT}
use Rattle.tw_resolve.specs.Resolved.{resolved_setting}
use Rattle.tw_state.specs.FromCode.{listed_of}
use Rattle.tw_state.specs.StateLines.{AtHead, Reaches, Start}
use Rattle.tw_state.specs.StateRefusals.{IsRefusedText}
use Rattle.tw_state.proofs.WholeStates.{sum_more, more_states, text_ends, no_separator, too_many, one_more, separator_shorter}
use Rattle.tw_state.proofs.reading.read_states.Goals as goal

pub loop-states-init : goal.loop-states-init
loop-states-init c = record {
  chain = λ fun found. subst (λ xs. Reaches (resolved_setting c.args.checked.now.resolved) c.args.side fun c.args.bytes.now 0 (AtHead (map listed_of xs)) c.args.bytes.now) (sym c.new-states.ensures.items) Start;
  within = omega arith;
  few = omega (arith, ap length c.new-states.ensures.items);
  goes_on = λ e. let none : length c.args.bytes.now ≡ 0 = ap length e in let some = c.if-is_empty.false in absurd (search rules);
}

pub returns-in_err-state-clause-refused : goal.returns-in_err-state-clause-refused
returns-in_err-state-clause-refused c =
    let p = err_from_is_err_and c.from_residual.result c.from_residual.ensures.1 in
    let fun = c.requires.entry.fun in
    rw (p.1, p.2)
    (sum_more (λ refused. (fun, c.requires.entry.at, refused fun (map listed_of c.loop-states.states.items) c.requires.entry.at c.loop-states.invariant.goes_on c.args.bytes.now (c.loop-states.invariant.chain fun c.requires.entry.at)))
    c.in_err-state.ensures.refused)

pub returns-then-is_empty-2-clause-read : goal.returns-then-is_empty-2-clause-read
returns-then-is_empty-2-clause-read c =
    let setting = resolved_setting c.args.checked.now.resolved in
    let fun = c.requires.entry.fun in
    let at = c.requires.entry.at in
    let chain = (c.in_ok-state.ensures.read fun (map listed_of c.loop-states.states.items) at).chain c.args.bytes.now (c.loop-states.invariant.chain fun at) in
    let whole = c.in_ok-state.ensures.whole fun at in
    let empty : length c.in_ok-state.behind.now ≡ 0 = search rules in
    (fun, at, text_ends setting c.args.side fun c.loop-states.states.items c.in_ok-state.state c.args.bytes.now c.in_ok-state.read c.in_ok-state.behind.now chain whole.0 whole.1 c.push.new.self.items c.in_ok-push.ensures.items empty)

pub wrong_line-requires : goal.wrong_line-requires
wrong_line-requires c =
    let led = c.in_ok-state.ensures.read c.requires.entry.fun [] c.requires.entry.at in
    omega (arith, led.within, c.loop-states.invariant.within, c.requires.within)

pub returns-in_default-clause-refused : goal.returns-in_default-clause-refused
returns-in_default-clause-refused c =
    let setting = resolved_setting c.args.checked.now.resolved in
    let fun = c.requires.entry.fun in
    let at = c.requires.entry.at in
    let chain = (c.in_ok-state.ensures.read fun (map listed_of c.loop-states.states.items) at).chain c.args.bytes.now (c.loop-states.invariant.chain fun at) in
    let whole = c.in_ok-state.ensures.whole fun at in
    let some : ¬ (length c.in_ok-state.behind.now ≡ 0) = search rules in
    inr (fun, at, subst (IsRefusedText setting c.args.side fun c.args.bytes.now) (sym c.wrong_line.ensures) (no_separator setting c.args.side fun c.loop-states.states.items c.in_ok-state.state c.args.bytes.now c.in_ok-state.read c.in_ok-state.behind.now chain whole.0 whole.1 some c.in_default.ensures))

pub returns-then-len-eq-STATES_LIMIT-clause-refused : goal.returns-then-len-eq-STATES_LIMIT-clause-refused
returns-then-len-eq-STATES_LIMIT-clause-refused c =
    let setting = resolved_setting c.args.checked.now.resolved in
    let fun = c.requires.entry.fun in
    let at = c.requires.entry.at in
    let chain = (c.in_ok-state.ensures.read fun (map listed_of c.loop-states.states.items) at).chain c.args.bytes.now (c.loop-states.invariant.chain fun at) in
    let whole = c.in_ok-state.ensures.whole fun at in
    let many : length c.push.new.self.items ≡ STATES_LIMIT = search rules in
    inr (fun, at, too_many setting c.args.side fun c.loop-states.states.items c.in_ok-state.state c.args.bytes.now c.in_ok-state.read c.in_ok-state.behind.now chain whole.0 whole.1 c.in-Some.next.now c.in-Some.ensures c.push.new.self.items c.in_ok-push.ensures.items many)

pub overflow_add-lines : goal.overflow_add-lines
overflow_add-lines c =
    let led = c.in_ok-state.ensures.read c.requires.entry.fun [] c.requires.entry.at in
    omega (arith, led.within, c.loop-states.invariant.within, c.requires.within)

pub loop-states-smaller : goal.loop-states-smaller
loop-states-smaller c =
    let fun = c.requires.entry.fun in
    let at = c.requires.entry.at in
    let led = c.in_ok-state.ensures.read fun (map listed_of c.loop-states.states.items) at in
    let whole = c.in_ok-state.ensures.whole fun at in
    let shorter = separator_shorter (resolved_setting c.args.checked.now.resolved) c.args.side fun c.loop-states.states.items c.in_ok-state.state c.args.bytes.now c.in_ok-state.read c.in_ok-state.behind.now (led.chain c.args.bytes.now (c.loop-states.invariant.chain fun at)) whole.0 whole.1 c.in-Some.next.now c.in-Some.ensures in
    omega (arith, led.within, c.in_ok-state.ensures.later, shorter)

pub loop-states-preserved : goal.loop-states-preserved
loop-states-preserved c =
    let fun = c.requires.entry.fun in
    let at = c.requires.entry.at in
    let setting = resolved_setting c.args.checked.now.resolved in
    let led = c.in_ok-state.ensures.read fun (map listed_of c.loop-states.states.items) at in
    let whole = c.in_ok-state.ensures.whole fun at in
    let shorter = separator_shorter setting c.args.side fun c.loop-states.states.items c.in_ok-state.state c.args.bytes.now c.in_ok-state.read c.in_ok-state.behind.now (led.chain c.args.bytes.now (c.loop-states.invariant.chain fun at)) whole.0 whole.1 c.in-Some.next.now c.in-Some.ensures in
    let few : length c.push.new.self.items < STATES_LIMIT = search rules in
    record {
      chain = λ other found.
          let reached = (c.in_ok-state.ensures.read other (map listed_of c.loop-states.states.items) found).chain c.args.bytes.now (c.loop-states.invariant.chain other found) in
          let formed = c.in_ok-state.ensures.whole other found in
          one_more setting c.args.side other c.loop-states.states.items c.in_ok-state.state c.args.bytes.now c.in_ok-state.read c.in_ok-state.behind.now reached formed.0 formed.1 c.in-Some.next.now c.in-Some.ensures c.push.new.self.items c.in_ok-push.ensures.items few;
      within = omega (arith, led.within, shorter, c.loop-states.invariant.within);
      few = few;
      goes_on = λ e. more_states c.loop-states.states.items c.push.new.self.items c.in_ok-state.state c.in_ok-push.ensures.items;
    }
