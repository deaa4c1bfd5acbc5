-- Arguments are at most one request.
use Rattle.std.proofs.Common.{◌≡◌, ◌∙◌, ap, sym, subst, ℕ, List, drop, slice_get, Some, None}
use Rattle.tower.specs.Requests.{Settings, Request, request_from, AreOptions, Asks, IsUsage}
use Rattle.tower.proofs.Binds.{some_is}
use Rattle.tower.proofs.Choices.{head_is, tail_is}
use Rattle.tower.proofs.Wanted.{one_settings}

pub one_request : (words : List (List ℕ)) (request other : Request) → Asks words request → Asks words other → request ≡ other
one_request words request other x y =
    let command = head_is x.command y.command x.options y.options (sym x.spelled ∙ y.spelled) in
    let options = tail_is x.command y.command x.options y.options (sym x.spelled ∙ y.spelled) in
    let settings = one_settings y.options x.settings y.settings (subst (λ (words : List (List ℕ)). AreOptions words x.settings) options x.are_options) y.are_options in
    some_is request other (sym x.request_is ∙ (ap (λ c. request_from c x.settings) command ∙ (ap (request_from y.command) settings ∙ y.request_is)))

-- the options of a request are the arguments after the command
options_after : (words : List (List ℕ)) (request : Request) → (asks : Asks words request) → AreOptions (drop 1 words) asks.settings
options_after words request asks = subst (λ (options : List (List ℕ)). AreOptions options asks.settings) (sym (ap (drop 1) asks.spelled)) asks.are_options

-- arguments whose options make no settings are no request
pub without_settings : (words : List (List ℕ)) → ((settings : Settings) → AreOptions (drop 1 words) settings → ⊥) → IsUsage words
without_settings words none request asks = none asks.settings (options_after words request asks)

-- nor are arguments whose settings are none of the command
pub without_request : (words : List (List ℕ)) (command : List ℕ) (settings : Settings) → slice_get words 0 ≡ Some command → AreOptions (drop 1 words) settings → request_from command settings ≡ None → IsUsage words
without_request words command settings first are none request asks =
    let same_command = some_is _ _ (sym (ap (λ (w : List (List ℕ)). slice_get w 0) asks.spelled) ∙ first) in
    let same_settings = one_settings (drop 1 words) asks.settings settings (options_after words request asks) are in
    let found : None ≡ Some request = sym none ∙ (ap (λ c. request_from c settings) (sym same_command) ∙ (ap (request_from asks.command) (sym same_settings) ∙ asks.request_is)) in cc
