-- Requests, and the command-line arguments for them: a command, then its options in any order.
use Rattle.std.specs.Prelude.{◌≡◌, ℕ, ◌==◌, ◌≤◌, Bool, true, false, not, ◌&&◌, if◌then◌else◌, List, [], ◌∷◌, Option, Some, None, is_some, option_map, option_and_then, option_to_list, IfSome, codes, decimal, refl}
use Rattle.std.specs.Fmt.{digits}
use Rattle.std.specs.List.{flat_map}
use Rattle.std.specs.Str.{bytes_eq}
use Rattle.std.proofs.Common.{lit≤}
use Rattle.tw_types.specs.Types.{Widths, AreInRange}
use Rattle.tower.specs.declared.options.Key.{Key}
use Rattle.tower.specs.declared.options.Key.TheVariants as key

-- the entry that a request names: the widths, the function and the number of its bound, and whether the request is for its inverse:
-- the inverse file, the run back, or the states at its end
pub record FileRequest : Type 0 where
  pub widths : Widths
  pub entry : List ℕ
  pub bound : Option ℕ
  pub inverse : Bool

-- the request of a call
pub data Request : Type 0 where
  Format : Request
  Check : (widths : Widths) → Request
  Compile : (file : FileRequest) → Request
  Run : (file : FileRequest) → Request
  Encode : (file : FileRequest) → Request
  Simulate : Request
  Invert : Request

-- what the options of a call set; a value is missing if its option is not given
pub record Settings : Type 0 where
  pub widths : Option Widths
  pub entry : Option (List ℕ)
  pub bound : Option ℕ
  pub inverse : Bool
  pub back : Bool
  pub level : Option (List ℕ)
  pub flatten : Option (List ℕ)
  pub narrow : Option (List ℕ)
  pub side : Option (List ℕ)

-- no option is given
abbrev pub is_empty : Settings → Bool
is_empty settings =
    not (is_some settings.widths) && not (is_some settings.entry) && not (is_some settings.bound) && not settings.inverse && not settings.back
    && not (is_some settings.level) && not (is_some settings.flatten) && not (is_some settings.narrow) && not (is_some settings.side)

-- the settings without those of an entry, and without those of its circuit
abbrev pub without_entry : Settings → Settings
without_entry settings = record settings { widths = None; entry = None; bound = None }

abbrev pub without_circuit : Settings → Settings
without_circuit settings = record (without_entry settings) { level = None; flatten = None; narrow = None }

-- the option is not given, or its value is this text
abbrev pub is_unset_or : List ℕ → Option (List ℕ) → Bool
is_unset_or text None = true
is_unset_or text (Some value) = bytes_eq value text

-- circuits are built at level `mcx`, without flattening and without narrowing
abbrev pub is_as_built : Settings → Bool
is_as_built settings = is_unset_or (codes "mcx") settings.level && is_unset_or (codes "off") settings.flatten && is_unset_or (codes "off") settings.narrow

-- whether the value of `--side` is the end; it is the start if the option is not given
abbrev pub is_at_end : Option (List ℕ) → Option Bool
is_at_end None = Some false
is_at_end (Some side) = if bytes_eq side (codes "in") then Some false else if bytes_eq side (codes "out") then Some true else None

-- the request of `check`: the widths are needed, and no other option is allowed
abbrev pub check_request : Settings → Option Request
check_request settings = if is_empty (record settings { widths = None }) then option_map Check settings.widths else None

-- the entry that settings name, or its inverse: the widths and the entry are needed
abbrev pub entry_request : Bool → Settings → Option FileRequest
entry_request inverse settings = option_and_then (λ widths. option_map (λ entry. record {
  widths = widths;
  entry = entry;
  bound = settings.bound;
  inverse = inverse;
}) settings.entry) settings.widths

-- the request of `compile`
abbrev pub compile_request : Settings → Option Request
compile_request settings =
    if is_as_built settings && is_empty (record (without_circuit settings) { inverse = false }) then option_map Compile (entry_request settings.inverse settings) else None

-- the request of `run`
abbrev pub run_request : Settings → Option Request
run_request settings = if is_empty (record (without_entry settings) { back = false }) then option_map Run (entry_request settings.back settings) else None

-- the request of `encode`
abbrev pub encode_request : Settings → Option Request
encode_request settings =
    if is_as_built settings && is_empty (record (without_circuit settings) { side = None })
    then option_and_then (λ at_end. option_map Encode (entry_request at_end settings)) (is_at_end settings.side)
    else None

-- the request of a command without options
abbrev pub request_alone : List ℕ → Option Request
request_alone command =
    if bytes_eq command (codes "format") then Some Format
    else if bytes_eq command (codes "sim") then Some Simulate
    else if bytes_eq command (codes "invert") then Some Invert
    else None

-- the request of a command with options
abbrev pub request_with : List ℕ → Settings → Option Request
request_with command settings =
    if bytes_eq command (codes "check") then check_request settings
    else if bytes_eq command (codes "compile") then compile_request settings
    else if bytes_eq command (codes "run") then run_request settings
    else if bytes_eq command (codes "encode") then encode_request settings
    else None

-- the request that a command with these settings is
abbrev pub request_from : List ℕ → Settings → Option Request
request_from command settings = if is_empty settings then request_alone command else request_with command settings

-- the text of a key
abbrev pub key_text : Key → List ℕ
key_text key.Word = codes "--word"
key_text key.Addr = codes "--addr"
key_text key.Entry = codes "--entry"
key_text key.Bound = codes "--bound"
key_text key.Inverse = codes "--inverse"
key_text key.Back = codes "--back"
key_text key.Level = codes "--level"
key_text key.Flatten = codes "--flatten"
key_text key.Narrow = codes "--narrow"
key_text key.Side = codes "--side"

-- whether the key is a whole option; otherwise the next argument is its value
abbrev pub is_flag : Key → Bool
is_flag key.Inverse = true
is_flag key.Back = true
is_flag other = false

-- the place of the key in a table of all keys
abbrev pub key_place : Key → ℕ
key_place key.Word = 0
key_place key.Addr = 1
key_place key.Entry = 2
key_place key.Bound = 3
key_place key.Inverse = 4
key_place key.Back = 5
key_place key.Level = 6
key_place key.Flatten = 7
key_place key.Narrow = 8
key_place key.Side = 9

-- an option: its key, and its value, which a flag does not have
abbrev pub Choice : Type 0
Choice = Key × List ℕ

-- the arguments that an option is written as
abbrev pub choice_words : Choice → List (List ℕ)
choice_words choice = key_text choice.0 ∷ (if is_flag choice.0 then [] else choice.1 ∷ [])

-- the values that are given to a key, in order; a flag has the empty value each time it is given
abbrev pub values_of : Key → List Choice → List (List ℕ)
values_of key [] = []
values_of key (choice ∷ choices) =
    if key_place choice.0 == key_place key then (if is_flag key then [] else choice.1) ∷ values_of key choices else values_of key choices

-- the value that sets a number: decimal without leading zeros
abbrev pub number_value : Option ℕ → List (List ℕ)
number_value number = option_to_list (option_map decimal number)

-- the values that are given to each key if these are the settings: at most one
abbrev pub wanted : Settings → Key → List (List ℕ)
wanted settings key.Word = number_value (option_map (λ widths. widths.word) settings.widths)
wanted settings key.Addr = number_value (option_map (λ widths. widths.addr) settings.widths)
wanted settings key.Entry = option_to_list settings.entry
wanted settings key.Bound = number_value settings.bound
wanted settings key.Inverse = if settings.inverse then [] ∷ [] else []
wanted settings key.Back = if settings.back then [] ∷ [] else []
wanted settings key.Level = option_to_list settings.level
wanted settings key.Flatten = option_to_list settings.flatten
wanted settings key.Narrow = option_to_list settings.narrow
wanted settings key.Side = option_to_list settings.side

-- the greatest bound of an entry
abbrev pub greatest_bound : ℕ
greatest_bound = 255

-- the arguments are options in any order that make these settings, and their numbers are in range
pub record AreOptions (words : List (List ℕ)) (settings : Settings) : Type 0 where
  pub choices : List Choice
  pub spelled : words ≡ flat_map choice_words choices
  pub values : (key : Key) → values_of key choices ≡ wanted settings key
  pub widths_in_range : IfSome settings.widths AreInRange
  pub bound_in_range : IfSome settings.bound (λ bound. bound ≤ greatest_bound)

-- the arguments are this request: a command, and options that make its settings
pub record Asks (words : List (List ℕ)) (request : Request) : Type 0 where
  pub command : List ℕ
  pub options : List (List ℕ)
  pub spelled : words ≡ command ∷ options
  pub settings : Settings
  pub are_options : AreOptions options settings
  pub request_is : request_from command settings ≡ Some request

-- the arguments are no request
abbrev pub IsUsage : List (List ℕ) → Type 0
IsUsage words = (request : Request) → ¬ Asks words request

-- `encode --side out --entry push --addr 2 --narrow off --bound 255 --word 3`
abbrev push_end : FileRequest
push_end = record { widths = record { word = 3; addr = 2 }; entry = codes "push"; bound = Some 255; inverse = true }

abbrev push_options : List Choice
push_options =
    (key.Side, codes "out") ∷ (key.Entry, codes "push") ∷ (key.Addr, codes "2") ∷ (key.Narrow, codes "off") ∷ (key.Bound, codes "255") ∷ (key.Word, codes "3") ∷ []

pub asks_encode :
    Asks (codes "encode" ∷ codes "--side" ∷ codes "out" ∷ codes "--entry" ∷ codes "push" ∷ codes "--addr" ∷ codes "2" ∷ codes "--narrow" ∷ codes "off" ∷ codes "--bound" ∷ codes "255" ∷ codes "--word" ∷ codes "3" ∷ [])
    (Encode push_end)
unfolding digits
asks_encode = record {
  command = codes "encode";
  options = flat_map choice_words push_options;
  spelled = refl;
  settings = push_settings;
  are_options = record {
    choices = push_options;
    spelled = refl;
    values = each;
    widths_in_range = record { word_from = lit≤ tt; word_to = lit≤ tt; addr_from = lit≤ tt; addr_to = lit≤ tt };
    bound_in_range = lit≤ tt;
  };
  request_is = refl;
}
  where
    push_settings : Settings
    push_settings = record {
      widths = Some push_end.widths;
      entry = Some push_end.entry;
      bound = push_end.bound;
      inverse = false;
      back = false;
      level = None;
      flatten = None;
      narrow = Some (codes "off");
      side = Some (codes "out");
    }

    each : (k : Key) → values_of k push_options ≡ wanted push_settings k
    each key.Word = refl
    each key.Addr = refl
    each key.Entry = refl
    each key.Bound = refl
    each key.Inverse = refl
    each key.Back = refl
    each key.Level = refl
    each key.Flatten = refl
    each key.Narrow = refl
    each key.Side = refl

-- a key that is given twice has both values, in order
pub values_of-twice : values_of key.Word ((key.Word, codes "3") ∷ (key.Inverse, codes "8") ∷ (key.Word, codes "5") ∷ []) ≡ codes "3" ∷ codes "5" ∷ []
values_of-twice = refl
