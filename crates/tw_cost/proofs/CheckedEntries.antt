-- An entry of an accepted program has one inventory and one layout.
use Rattle.std.proofs.Common.{ℕ}
use Rattle.tw_syntax.specs.Programs.{program_tree}
use Rattle.tw_gate.specs.declared.gate.Level.{Level}
use Rattle.tw_code.specs.declared.code.Options.{Options}
use Rattle.tw_resolve.specs.Declarations.{funs_of}
use Rattle.tw_resolve.specs.Resolved.{resolved_setting}
use Rattle.tw_check.specs.declared.checked.Checked.{Checked}
use Rattle.tw_check.specs.declared.entry.Entry.{Entry}
use Rattle.tw_check.specs.EntryPoints.{IsEntry}
use Rattle.tw_frames.specs.Layout.{HasOneLayout}
use Rattle.tw_frames.specs.Measures.{HasOneMeasure}
use Rattle.tw_frames.proofs.Descending.{accepted_descends}
use Rattle.tw_frames.proofs.OneLayout.{one_layout}
use Rattle.tw_cost.specs.Prices.{HasOneInventory}
use Rattle.tw_cost.proofs.OneInventory.{one_inventory}
use Rattle.tw_cost.proofs.Shapes.{bodies_shape}

pub checked_inventory : (checked : Checked) (entry : Entry) (options : Options) → IsEntry (funs_of (program_tree checked.resolved.program.now).decls) entry
    → HasOneInventory (resolved_setting checked.resolved) entry options
checked_inventory checked entry options is =
    one_inventory (resolved_setting checked.resolved) options (accepted_descends checked) (λ k fun found. bodies_shape checked.resolved.program.now.decls.now k fun found) entry is.fun is.at

pub checked_layout : (checked : Checked) (entry : Entry) (options : Options) (level : Level) → HasOneMeasure (resolved_setting checked.resolved) entry
    → (most : ℕ) → HasOneLayout (resolved_setting checked.resolved) entry options level most
checked_layout checked entry options level one most = one_layout (resolved_setting checked.resolved) entry options level most one.measured one.is
