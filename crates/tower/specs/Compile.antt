-- The answer to `compile`, and the headline: what a printed gate file promises of its program.
use Rattle.std.specs.Prelude.{◌≡◌, ℕ, Bool, false, List, [], ◌++◌, Option}
use Rattle.tw_io.specs.Devices.{Appends}
use Rattle.tw_text.specs.declared.diagnostic.Diagnostic.{Diagnostic}
use Rattle.tw_syntax.specs.Programs.{FunTree, ProgramTree}
use Rattle.tw_parse.specs.Sources.{IsSource}
use Rattle.tw_gate.specs.declared.gate.Level.TheVariants as levels
use Rattle.tw_gate.specs.Gates.{PlainGate, directed}
use Rattle.tw_gatetext.specs.Text.{File, file_text}
use Rattle.tw_gatetext.specs.Valid.{IsValid}
use Rattle.tw_code.specs.Counts.{neither}
use Rattle.tw_code.specs.Emission.{emitted}
use Rattle.tw_code.specs.Rows.{Row}
use Rattle.tw_code.specs.Trees.{CodeTree}
use Rattle.tw_resolve.specs.Setting.{Setting}
use Rattle.tw_check.specs.declared.entry.Entry.{Entry}
use Rattle.tw_frames.specs.declared.measured.Measured.{Measured}
use Rattle.tw_frames.specs.declared.regions.WireLayout.{WireLayout}
use Rattle.tw_frames.specs.Inventory.{InventoryOf, t_total}
use Rattle.tw_lower.specs.Lowering.{LowersEntry}
use Rattle.tower.specs.Requests.{FileRequest}
use Rattle.tower.specs.CircuitEntries.{IsBuiltTree, IsRefusedEntry, IsWithinLimits}
use Rattle.tower.specs.Entries.{EntryIn, setting_in, fun_in}
use Rattle.tower.specs.Implements.{Implements}
use Rattle.tower.specs.Outcomes.{Outcome, Prints, Refuses}

-- the file of the gates of a code, or of their inverse
abbrev pub file_with : (inverse : Bool) → List Row → WireLayout → CodeTree → File
file_with inverse rows layout code = record { level = levels.Mcx; wires = layout.wires; t_count = t_total rows; gates = directed inverse (emitted code false []) }

-- an entry with this measure is answered by this file: all limits hold, and the gates are those of its code
pub record IsFileOf (setting : Setting) (entry : Entry) (measured : Measured) (inverse : Bool) (file : File) : Type 0 where
  pub layout : WireLayout
  pub limits : IsWithinLimits setting entry measured layout
  pub code : CodeTree
  pub lowered : LowersEntry setting layout limits.circuit.inventory.fun entry.bound code
  pub is : file ≡ file_with inverse limits.rows layout code

-- the answer to a program: the refusal of an entry without a circuit, or the file of its circuit
pub data CompileAnswer (request : FileRequest) (tree : ProgramTree) (outcome : Outcome) : Type 0 where
  NoCircuit : (why : Diagnostic) → IsRefusedEntry request tree why → outcome ≡ Refuses why → CompileAnswer request tree outcome
  Written : IsBuiltTree tree → (found : EntryIn request tree) (file : File) → IsFileOf (setting_in found) found.entry found.measured request.inverse file
      → outcome ≡ Prints (file_text file) → CompileAnswer request tree outcome

-- what is promised of the file of a function
pub record IsCompiled (setting : Setting) (fun : FunTree) (bound : Option ℕ) (inverse : Bool) (file : File) : Type 0 where
  -- it is valid, and no valid file's text is a prefix of another's
  pub valid : IsValid file
  pub only_file : (other : File) (rest more : List ℕ) → IsValid other → file_text other ++ rest ≡ file_text file ++ more → other ≡ file
  -- its gates are those of the file without `--inverse`, or the inverse of these
  pub plain : List PlainGate
  pub direction : file.gates ≡ directed inverse plain
  -- these take the encoding of each state on which the entry has a result to the encoding of that result, and back
  pub implements : Implements setting fun bound file.level file.wires plain
  -- the printed T-count is that of the function's inventory
  pub rows : List Row
  pub inventory : InventoryOf setting neither fun bound rows
  pub t_count : file.t_count ≡ t_total rows

-- the input is an accepted program with the entry, and the sink took the text of a file with what is promised of it
pub record Compiled (request : FileRequest) (bytes : List ℕ) (before now : Option (List ℕ)) : Type 0 where
  pub tree : ProgramTree
  pub source : IsSource bytes tree
  -- all its functions are compiled so far
  pub built : IsBuiltTree tree
  -- the entry that the request names
  pub found : EntryIn request tree
  -- its circuit is within all limits, and the file is of level `mcx` on the wires of its layout
  pub layout : WireLayout
  pub limits : IsWithinLimits (setting_in found) found.entry found.measured layout
  pub file : File
  pub level : file.level ≡ levels.Mcx
  pub wires : file.wires ≡ layout.wires
  pub printed : Appends before now (file_text file)
  pub compiled : IsCompiled (setting_in found) (fun_in found) request.bound request.inverse file
