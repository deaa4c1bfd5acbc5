-- What the walk over a function keeps: two sets of names, and notes of what a set was.
use denote.Bor.{Bor}
use Rattle.std.specs.Prelude.{◌≡◌, ℕ, Bool, true, false, ◌&&◌, List, [], ◌∷◌, map, Result, OnOk}
use Rattle.std.specs.Map.{lookup}
use Rattle.std.specs.Option.{unwrap_or}
use Rattle.std.specs.Str.{bytes_eq}
use Rattle.std.proofs.Math.Bool.{beq}
use Rattle.tw_text.specs.declared.refusal.Fault.{Fault}
use Rattle.tw_syntax.specs.declared.name.Name.{Name}
use Rattle.tw_syntax.specs.declared.program.Param.{Param}
use Rattle.tw_syntax.specs.Programs.{param_tree}
use Rattle.tw_syntax.specs.Statements.{StmtTree}
use Rattle.tw_resolve.specs.Demands.{Tries}
use Rattle.tw_check.specs.declared.name_set.NameSet.{NameSet}
use Rattle.tw_check.specs.declared.walk.Walk.{Walk}
use Rattle.tw_check.specs.Names.{Names, with_name}
use Rattle.tw_check.specs.Liveness.{live_after}
use Rattle.tw_check.specs.Rules.{stmt_rules}

-- the names that a table has
abbrev pub names_in : List (Bor (List ℕ) × Bool) → Names
names_in entries name = unwrap_or (lookup (λ key. bytes_eq name key.now) entries) false

-- the names of a set
abbrev pub set_of : NameSet → Names
set_of set = names_in set.table.entries

-- the texts of names
abbrev pub texts_of : List Name → List (List ℕ)
texts_of names = map (λ name. name.text.now) names

-- the names of parameters
abbrev pub texts_of_params : List Param → List (List ℕ)
texts_of_params params = map (λ param. param.name.text) (map param_tree params)

-- names, each with whether a set has it
abbrev pub noted : Names → List Name → List (Bor (List ℕ) × Bool)
noted live names = map (λ name. (name.text, live name.text.now)) names

-- whether a set has all noted names as they were noted
abbrev pub is_as_noted : List (Bor (List ℕ) × Bool) → Names → Bool
is_as_noted [] live = true
is_as_noted (note ∷ notes) live = beq note.1 (live note.0.now) && is_as_noted notes live

-- the set with all noted names as they were noted
abbrev pub put_back : List (Bor (List ℕ) × Bool) → Names → Names
put_back [] live = live
put_back (note ∷ notes) live = put_back notes (with_name live note.0.now note.1)

-- what is known at a place: the held names, and the live names
pub record Now : Type 0 where
  pub held : Names
  pub live : Names

abbrev pub now_of : Walk → Now
now_of walk = record { held = set_of walk.held; live = set_of walk.live }

-- what is known after a statement
abbrev pub after : StmtTree → Now → Now
after s now = record { held = now.held; live = live_after true s now.live }

-- a call tries the rules of a statement, and if they all hold, goes past it
pub record Walks {A : Type 0} (s : StmtTree) (old new : Now) (result : Result A Fault) : Type 0 where
  pub tried : Tries (stmt_rules old.held old.live s) result
  pub passed : OnOk result (new ≡ after s old)
