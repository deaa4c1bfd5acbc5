-- In an accepted program the code of a built entry has the gates of the entry's inventory.
use Rattle.std.proofs.Common.{◌≡◌, ℕ, List, slice_get, Some}
use Rattle.std.proofs.Math.Nat.{ℕ_set}
use Rattle.tw_syntax.specs.Programs.{FunTree}
use Rattle.tw_code.specs.declared.code.Options.{Options}
use Rattle.tw_code.specs.Trees.{CodeTree}
use Rattle.tw_code.specs.Counts.{counts}
use Rattle.tw_code.specs.Rows.{Row, gates_in}
use Rattle.tw_resolve.specs.Resolved.{resolved_setting}
use Rattle.tw_check.specs.declared.checked.Checked.{Checked}
use Rattle.tw_check.specs.declared.entry.Entry.{Entry}
use Rattle.tw_frames.specs.declared.regions.WireLayout.{WireLayout}
use Rattle.tw_frames.specs.Inventory.{InventoryOf}
use Rattle.tw_lower.specs.Lowering.{LowersEntry, IsLayout, IsBuilt}
use Rattle.tw_lower.proofs.CheckedEntry.{by_checked}
use Rattle.tw_lower.proofs.LoweredCounts.{entry_counted}

pub checked_counts : (checked : Checked) (entry : Entry) (layout : WireLayout) → IsLayout (resolved_setting checked.resolved) entry layout → (fun : FunTree) → slice_get (resolved_setting checked.resolved).funs entry.fun ≡ Some fun → IsBuilt fun.body
    → (options : Options) (code : CodeTree) (rows : List Row) → LowersEntry (resolved_setting checked.resolved) layout fun entry.bound code → InventoryOf (resolved_setting checked.resolved) options fun entry.bound rows
    → (wanted : ℕ) → counts options code 0 wanted ≡ gates_in rows wanted
checked_counts checked entry layout laid fun found built options code rows lowers inventory wanted =
    by_checked checked entry layout laid fun found built (counts options code 0 wanted ≡ gates_in rows wanted) (ℕ_set (counts options code 0 wanted) (gates_in rows wanted))
    (λ is_sound is. entry_counted options lowers (is_sound.fit is.name fun is.named).body inventory wanted)
