-- A function is right exactly if it keeps each of its rules.
use Rattle.std.proofs.Common.{◌≡◌, ◌↔◌, ap, sym, ◌∙◌, subst, ℕ, true, false, List, ◌∷◌, ◌++◌, bytes_eq, None, Decides}
use Rattle.std.proofs.lemmas.Bool.{or_parts}
use Rattle.tw_resolve.specs.Demands.{first_broken}
use Rattle.tw_resolve.proofs.Demands.{Holds, EachHolds, none_broken-each}
use Rattle.tw_resolve.proofs.Each.{each_first, each_rest, each-append}
use Rattle.tw_syntax.specs.Programs.{FunTree}
use Rattle.tw_resolve.proofs.Texts.{bytes_eq-sym}
use Rattle.tw_check.specs.Names.{Names, no_names, is_one_of, agree_on}
use Rattle.tw_check.specs.Liveness.{names_of, live_after, param_names, live_at_start, live_at_end}
use Rattle.tw_check.specs.Right.{Right, IsRight}
use Rattle.tw_check.specs.Rules.{stmt_rules, fun_rules}
use Rattle.tw_check.proofs.NameSets.{same-Decides, off-append, with_name-same, with_name-other}
use Rattle.tw_check.proofs.Ends.{right_ends}
use Rattle.tw_check.proofs.Mentions.{others_stay}
use Rattle.tw_check.proofs.RightStatements.{right_if_kept, kept_if_right}

module _ (fun : FunTree) where
  -- the names that a function mentions
  abbrev names : List (List ℕ)
  names = fun.returned.text ∷ (param_names fun ++ names_of fun.body)

  -- the live names after its body
  abbrev ends : Names
  ends = live_after true fun.body (live_at_start fun)

  off : (name : List ℕ) → is_one_of name names ≡ false → ends name ≡ live_at_end fun name
  off name is_off =
      let parts = or_parts (bytes_eq name fun.returned.text) (is_one_of name (param_names fun ++ names_of fun.body)) is_off in
      others_stay true fun.body (live_at_start fun) name ((off-append name (param_names fun) (names_of fun.body) parts.1).1)
      ∙ sym (with_name-other (live_at_start fun) fun.returned.text name true (bytes_eq-sym fun.returned.text name ∙ parts.0))

  -- the test of `Left`: the body ends with the parameters and the result
  pub left-Decides : Decides (agree_on names ends (live_at_end fun)) (ends ≡ live_at_end fun)
  left-Decides = same-Decides names ends (live_at_end fun) off

  right_if_each : EachHolds (fun_rules fun) → IsRight fun
  right_if_each each =
      let body = stmt_rules no_names (live_at_start fun) fun.body in
      subst (λ end. Right no_names fun.body (live_at_start fun) end) (left-Decides.0 ((each_rest Holds body _ each).1.0))
      (right_if_kept no_names (live_at_start fun) fun.body (each_first Holds body _ each))

  each_if_right : IsRight fun → EachHolds (fun_rules fun)
  each_if_right right =
      let same = right_ends right in
      let returned_live = ap (λ (live : Names). live fun.returned.text) same ∙ with_name-same (live_at_start fun) fun.returned.text true in
      each-append Holds (stmt_rules no_names (live_at_start fun) fun.body) _ (kept_if_right right) (returned_live, (left-Decides.1 same, tt))

  pub right_exactly_if_kept : IsRight fun ↔ (first_broken (fun_rules fun) ≡ None)
  right_exactly_if_kept =
      (λ right. (none_broken-each (fun_rules fun)).0 (each_if_right right), λ none. right_if_each ((none_broken-each (fun_rules fun)).1 none))
