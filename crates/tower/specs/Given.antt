-- Requests and options as the code keeps them.
use Rattle.std.specs.Prelude.{◌≡◌, ℕ, ◌≤◌, if◌then◌else◌, List, [], ◌∷◌, ◌++◌, length, drop, get_or, Option, Some, None, IfSome, option_map, option_to_list, decimal}
use denote.Ref.{Bor}
use Rattle.std.specs.List.{flat_map}
use Rattle.std.specs.Str.{bytes_eq}
use Rattle.tw_types.specs.Types.{Widths, AreInRange}
use Rattle.tower.specs.declared.options.Key.{Key}
use Rattle.tower.specs.declared.options.Key.TheVariants as key
use Rattle.tower.specs.declared.settings.Settings as code
use Rattle.tower.specs.declared.request.Options.{Options}
use Rattle.tower.specs.declared.request.Command.{Command}
use Rattle.tower.specs.declared.request.Command.TheVariants as command
use Rattle.tower.specs.Requests.{FileRequest, Request, Format, Check, Compile, Run, Encode, Simulate, Invert, Settings, Choice, key_text, is_flag, key_place, choice_words, values_of, number_value}

-- the value of an option, in the code
abbrev pub text_seen : Option (Bor (List ℕ)) → Option (List ℕ)
text_seen value = option_map (λ text. text.now) value

-- the settings that the code's are
abbrev pub settings_seen : code.Settings → Settings
settings_seen settings = record {
  widths = settings.widths;
  entry = text_seen settings.entry;
  bound = settings.bound;
  inverse = settings.inverse;
  back = settings.back;
  level = text_seen settings.level;
  flatten = text_seen settings.flatten;
  narrow = text_seen settings.narrow;
  side = text_seen settings.side;
}

-- the request that the options of the code are
abbrev pub file_request : Options → FileRequest
file_request options = record { widths = options.widths; entry = options.entry.now; bound = options.bound; inverse = options.inverse }

abbrev pub request_of : Command → Request
request_of command.Format = Format
request_of (command.Check widths) = Check widths
request_of (command.Compile options) = Compile (file_request options)
request_of (command.Run options) = Run (file_request options)
request_of (command.Encode options) = Encode (file_request options)
request_of command.Simulate = Simulate
request_of command.Invert = Invert

-- all keys, by their places
abbrev pub keys : List Key
keys = key.Word ∷ key.Addr ∷ key.Entry ∷ key.Bound ∷ key.Inverse ∷ key.Back ∷ key.Level ∷ key.Flatten ∷ key.Narrow ∷ key.Side ∷ []

-- the first of these keys with this text
abbrev pub key_among : List ℕ → List Key → Option Key
key_among word [] = None
key_among word (key ∷ rest) = if bytes_eq word (key_text key) then Some key else key_among word rest

-- the number of arguments that an option with this key takes
abbrev pub choice_size : Key → ℕ
choice_size key = if is_flag key then 1 else 2

-- the option with this key and this value is a prefix of the arguments
abbrev pub IsChoiceAt : List (List ℕ) → Key → List ℕ → Type 0
IsChoiceAt words key value = (words ≡ choice_words (key, value) ++ drop (choice_size key) words) × (choice_size key ≤ length words)

-- no option is a prefix of the arguments
abbrev pub IsNoChoiceAt : List (List ℕ) → Type 0
IsNoChoiceAt words = (choice : Choice) (rest : List (List ℕ)) → ¬ (words ≡ choice_words choice ++ rest)

-- the value that was given to a key, in a table by the keys' places
abbrev pub value_given : List (Option (Bor (List ℕ))) → Key → Option (Bor (List ℕ))
value_given values key = get_or values (key_place key) None

-- the same as a list, which is empty or has one value; the value of a flag is empty
abbrev pub given_to : List (Option (Bor (List ℕ))) → Key → List (List ℕ)
given_to values key = option_to_list (option_map (λ text. if is_flag key then [] else text.now) (value_given values key))

-- options with these values are a prefix of the arguments, and this is the suffix after it
pub record AreGiven (words rest : List (List ℕ)) (values : List (Option (Bor (List ℕ)))) : Type 0 where
  pub choices : List Choice
  pub spelled : words ≡ flat_map choice_words choices ++ rest
  pub each : (key : Key) → values_of key choices ≡ given_to values key

-- the arguments are not options of which each is given at most once
abbrev pub AreNotGiven : List (List ℕ) → Type 0
AreNotGiven words = (choices : List Choice) → words ≡ flat_map choice_words choices → ((key : Key) → length (values_of key choices) ≤ 1) → ⊥

-- a value that is given or not, as a list
abbrev pub value_text : Option (Bor (List ℕ)) → List (List ℕ)
value_text value = option_to_list (text_seen value)

-- a word width and an address width spell these widths
pub record SpellWidths (word addr : List ℕ) (widths : Widths) : Type 0 where
  pub word_is : word ≡ decimal widths.word
  pub addr_is : addr ≡ decimal widths.addr
  pub in_range : AreInRange widths

-- the values of the keys of the widths set these widths
pub record SetWidths (word addr : List (List ℕ)) (widths : Option Widths) : Type 0 where
  pub word_is : word ≡ number_value (option_map (λ widths. widths.word) widths)
  pub addr_is : addr ≡ number_value (option_map (λ widths. widths.addr) widths)
  pub in_range : IfSome widths AreInRange

-- the values of a key set a number in range
pub record SetNumber (most : ℕ) (values : List (List ℕ)) (number : Option ℕ) : Type 0 where
  pub is : values ≡ number_value number
  pub in_range : IfSome number (λ n. n ≤ most)
