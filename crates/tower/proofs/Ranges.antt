-- The widths of a request are in range.
use Rattle.std.proofs.Common.{subst, ℕ, Bool, true, false, ◌&&◌, if◌then◌else◌, List, codes, Option, Some, None, IfSome, option_map, option_and_then}
use Rattle.std.specs.Str.{bytes_eq}
use Rattle.tw_types.specs.Types.{Widths, AreInRange}
use Rattle.tower.specs.Requests.{FileRequest, Request, Check, Compile, Run, Encode, Settings, is_empty, is_as_built, is_at_end, without_entry, without_circuit, entry_request, check_request, compile_request, run_request, encode_request, request_alone, request_with, request_from, Asks}

abbrev HasRange : Request → Type 0
HasRange (Check widths) = AreInRange widths
HasRange (Compile file) = AreInRange file.widths
HasRange (Run file) = AreInRange file.widths
HasRange (Encode file) = AreInRange file.widths
HasRange other = Unit {0}

by_test : (test : Bool) (found other : Option Request) → IfSome found HasRange → IfSome other HasRange → IfSome (if test then found else other) HasRange
by_test true found other x y = x
by_test false found other x y = y

checked-range : (widths : Option Widths) → IfSome widths AreInRange → IfSome (option_map Check widths) HasRange
checked-range None range = tt
checked-range (Some widths) range = range

check-range : (settings : Settings) → IfSome settings.widths AreInRange → IfSome (check_request settings) HasRange
check-range settings range = by_test (is_empty (record settings { widths = None })) (option_map Check settings.widths) None (checked-range settings.widths range) tt

entry-range : (Named : FileRequest → Request) → ((file : FileRequest) → AreInRange file.widths → HasRange (Named file)) → (widths : Option Widths) (entry : Option (List ℕ)) (bound : Option ℕ) (inverse : Bool) → IfSome widths AreInRange →
    IfSome (option_map Named (option_and_then (λ widths. option_map (λ entry. record { widths = widths; entry = entry; bound = bound; inverse = inverse }) entry) widths)) HasRange
entry-range Named has None entry bound inverse range = tt
entry-range Named has (Some widths) None bound inverse range = tt
entry-range Named has (Some widths) (Some entry) bound inverse range = has _ range

compile-range : (settings : Settings) → IfSome settings.widths AreInRange → IfSome (compile_request settings) HasRange
compile-range settings range =
    by_test (is_as_built settings && is_empty (record (without_circuit settings) { inverse = false })) _ None
    (entry-range Compile (λ file range. range) settings.widths settings.entry settings.bound settings.inverse range) tt

run-range : (settings : Settings) → IfSome settings.widths AreInRange → IfSome (run_request settings) HasRange
run-range settings range =
    by_test (is_empty (record (without_entry settings) { back = false })) _ None
    (entry-range Run (λ file range. range) settings.widths settings.entry settings.bound settings.back range) tt

encode-range : (settings : Settings) → IfSome settings.widths AreInRange → IfSome (encode_request settings) HasRange
encode-range settings range =
    by_test (is_as_built settings && is_empty (record (without_circuit settings) { side = None })) _ None (by_side (is_at_end settings.side)) tt
  where
    by_side : (side : Option Bool) → IfSome (option_and_then (λ at_end. option_map Encode (entry_request at_end settings)) side) HasRange
    by_side None = tt
    by_side (Some at_end) = entry-range Encode (λ file range. range) settings.widths settings.entry settings.bound at_end range

alone-range : (command : List ℕ) → IfSome (request_alone command) HasRange
alone-range command =
    by_test (bytes_eq command (codes "format")) _ _ tt
    (by_test (bytes_eq command (codes "sim")) _ _ tt
    (by_test (bytes_eq command (codes "invert")) _ _ tt tt))

with-range : (command : List ℕ) (settings : Settings) → IfSome settings.widths AreInRange → IfSome (request_with command settings) HasRange
with-range command settings range =
    by_test (bytes_eq command (codes "check")) _ _ (check-range settings range)
    (by_test (bytes_eq command (codes "compile")) _ _ (compile-range settings range)
    (by_test (bytes_eq command (codes "run")) _ _ (run-range settings range)
    (by_test (bytes_eq command (codes "encode")) _ _ (encode-range settings range) tt)))

request-range : (command : List ℕ) (settings : Settings) → IfSome settings.widths AreInRange → IfSome (request_from command settings) HasRange
request-range command settings range = by_test (is_empty settings) _ _ (alone-range command) (with-range command settings range)

pub widths_in_range : (words : List (List ℕ)) (file : FileRequest) → Asks words (Compile file) → AreInRange file.widths
widths_in_range words file asks = subst (λ found. IfSome found HasRange) asks.request_is (request-range asks.command asks.settings asks.are_options.widths_in_range)

pub run_in_range : (words : List (List ℕ)) (file : FileRequest) → Asks words (Run file) → AreInRange file.widths
run_in_range words file asks = subst (λ found. IfSome found HasRange) asks.request_is (request-range asks.command asks.settings asks.are_options.widths_in_range)

pub encode_in_range : (words : List (List ℕ)) (file : FileRequest) → Asks words (Encode file) → AreInRange file.widths
encode_in_range words file asks = subst (λ found. IfSome found HasRange) asks.request_is (request-range asks.command asks.settings asks.are_options.widths_in_range)
