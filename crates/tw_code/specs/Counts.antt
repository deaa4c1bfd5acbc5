-- How many gates a code has, by their numbers of controls.
use Rattle.std.specs.Prelude.{◌≡◌, ℕ, ◌+◌, ◌*◌, ◌==◌, nat_le, Bool, true, false, if◌then◌else◌, [], length, refl}
use Rattle.std.specs.List.{count_by}
use Rattle.tw_gate.specs.Gates.{PlainGate, X}
use Rattle.tw_code.specs.declared.code.Options.{Options}
use Rattle.tw_code.specs.Trees.{CodeTree, Nothing, Then, FlipCode, IfCode, WithCode, ConjCode}
use Rattle.tw_code.specs.Examples.{conjunction, around}
use Rattle.tw_code.specs.Emission.{emitted}

-- both rewritings are off
abbrev pub neither : Options
neither = record { flatten = false; narrow = false }

-- the first number if the others are equal, else 0
abbrev number_at : ℕ → ℕ → ℕ → ℕ
number_at n controls wanted = if controls == wanted then n else 0

-- how many X gates with the last number of controls the code has, after rewriting with the options, under this number of present
-- controls
abbrev pub counts : Options → CodeTree → ℕ → ℕ → ℕ
counts options Nothing present wanted = 0
counts options (Then first rest) present wanted = counts options first present wanted + counts options rest present wanted
counts options (FlipCode controls target) present wanted = number_at 1 (length controls + present) wanted
counts options (IfCode wire body) present wanted =
    if options.flatten then number_at (if nat_le 1 present then 2 else 0) 2 wanted + counts options body 1 wanted else counts options body (present + 1) wanted
counts options (WithCode setup work) present wanted = 2 * counts options setup (if options.narrow then 0 else present) wanted + counts options work present wanted
counts options (ConjCode setup work) present wanted = 2 * counts options setup 0 wanted + counts options work present wanted

-- whether a gate is an X gate of this number of controls
abbrev pub has_controls : ℕ → PlainGate → Bool
has_controls wanted (X controls target) = length controls == wanted
has_controls wanted _ = false

abbrev flattened : Options
flattened = record { flatten = true; narrow = false }

abbrev narrowed : Options
narrowed = record { flatten = false; narrow = true }

-- six gates of one control, and one of three
pub counts-one : counts neither conjunction 0 1 ≡ 6
counts-one = refl

pub counts-three : counts neither conjunction 0 3 ≡ 1
counts-three = refl

-- the work alone gets the present controls
pub counts-under : counts neither conjunction 2 5 ≡ 1
counts-under = refl

-- under a control, flattening adds two gates of two controls, and the work keeps one present control
pub counts-flattened_two : counts flattened conjunction 1 2 ≡ 2
counts-flattened_two = refl

pub counts-flattened_three : counts flattened conjunction 1 3 ≡ 1
counts-flattened_three = refl

-- narrowing spares the setup of a `With` the present controls
pub counts-around : counts neither around 0 2 ≡ 3
counts-around = refl

pub counts-narrowed_one : counts narrowed around 0 1 ≡ 2
counts-narrowed_one = refl

pub counts-narrowed_two : counts narrowed around 0 2 ≡ 1
counts-narrowed_two = refl

pub count_by-conjunction : count_by (has_controls 1) (emitted conjunction false []) ≡ 6
count_by-conjunction = refl
