use Rattle.std.proofs.Common.{subst}
use Rattle.tw_text.specs.declared.refusal.Fault.TheVariants as fault
use Rattle.tw_resolve.specs.Setting.{Setting}
use Rattle.tw_resolve.specs.Tables.{AreTargets, AreVariables}
use Rattle.tw_syntax.specs.Programs.{program_tree}
use Rattle.tw_resolve.specs.Entries.{types_in}
use Rattle.tw_resolve.proofs.Resolving.{are_resolved, is_typed, typed_tables, breaks_types, breaks_finite, breaks_names, kept_tables, refused_as}
use Rattle.tw_resolve.proofs.WellTyped.{same, targets_in_tables}
use Rattle.tw_resolve.proofs.resolved.resolve.Goals as goal

pub returns-in_err-tables-clause-refused : goal.returns-in_err-tables-clause-refused
returns-in_err-tables-clause-refused c =
    let program = program_tree c.args.program.now in
    let why = c.in_err-tables.field-0.0 in
    refused_as c.args.widths program why c.from_residual.result c.from_residual.ensures.1
    (breaks_names c.args.widths program why c.in_err-tables.ensures.tried.reported)

pub declare_types-requires-clause-resolved : goal.declare_types-requires-clause-resolved
declare_types-requires-clause-resolved c =
    are_resolved (program_tree c.args.program.now) c.args.widths c.in_ok-tables.tables c.in_ok-tables.ensures.tables c.in_ok-tables.ensures.tried.kept

pub returns-in_err-declare_types-clause-refused : goal.returns-in_err-declare_types-clause-refused
returns-in_err-declare_types-clause-refused c =
    let program = program_tree c.args.program.now in
    let why = c.in_err-declare_types.field-0.0 in
    refused_as c.args.widths program why c.from_residual-in_err-declare_types.result c.from_residual-in_err-declare_types.ensures.1
    (breaks_finite program c.args.widths c.in_ok-tables.tables c.in_ok-tables.ensures.tables c.in_ok-tables.ensures.tried.kept why c.in_err-declare_types.ensures.refused)

pub returns-in_err-variables-clause-refused : goal.returns-in_err-variables-clause-refused
returns-in_err-variables-clause-refused c =
    let program = program_tree c.args.program.now in
    let why = c.in_err-variables.field-0.0 in
    let tables = c.declare_types.new.tables in
    refused_as c.args.widths program why c.from_residual-in_err-variables.result c.from_residual-in_err-variables.ensures.1
    (breaks_types program c.args.widths tables (kept_tables program c.args.widths c.in_ok-tables.tables tables c.declare_types.ensures.kept c.in_ok-tables.ensures.tables)
    c.in_ok-tables.ensures.tried.kept c.in_ok-declare_types.ensures.finite c.in_ok-declare_types.ensures.types why c.in_err-variables.ensures.tried.reported)

pub target_types-requires : goal.target_types-requires
target_types-requires c =
    let program = program_tree c.args.program.now in
    let tables = c.declare_types.new.tables in
    let are = kept_tables program c.args.widths c.in_ok-tables.tables tables c.declare_types.ensures.kept c.in_ok-tables.ensures.tables in
    targets_in_tables program tables
    (typed_tables program c.args.widths tables are c.in_ok-tables.ensures.tried.kept c.in_ok-declare_types.ensures.finite c.in_ok-declare_types.ensures.types
    c.in_ok-declare_types.ensures.complete c.in_ok-variables.ensures.tried.kept)

pub returns-in_err-targets-clause-refused : goal.returns-in_err-targets-clause-refused
returns-in_err-targets-clause-refused c =
    refused_as c.args.widths (program_tree c.args.program.now) fault.Memory c.from_residual-in_err-targets.result c.from_residual-in_err-targets.ensures.1 tt

pub new-requires : goal.new-requires
new-requires c =
    let program = program_tree c.args.program.now in
    let tables = c.declare_types.new.tables in
    let are = kept_tables program c.args.widths c.in_ok-tables.tables tables c.declare_types.ensures.kept c.in_ok-tables.ensures.tables in
    let typed = typed_tables program c.args.widths tables are c.in_ok-tables.ensures.tried.kept c.in_ok-declare_types.ensures.finite c.in_ok-declare_types.ensures.types
    c.in_ok-declare_types.ensures.complete c.in_ok-variables.ensures.tried.kept in
    record {
      typed = typed;
      of_targets = subst (λ (s : Setting). AreTargets s c.in_ok-targets.targets) (same program tables typed) c.in_ok-targets.ensures;
      of_funs = subst (λ (s : Setting). AreVariables s c.in_ok-variables.variables.items) (same program tables typed) c.in_ok-variables.ensures.after;
    }

pub returns-clause-typed : goal.returns-clause-typed
returns-clause-typed c =
    let program = program_tree c.args.program.now in
    let tables = c.declare_types.new.tables in
    let are = kept_tables program c.args.widths c.in_ok-tables.tables tables c.declare_types.ensures.kept c.in_ok-tables.ensures.tables in
    ∣ (types_in tables.types.table.entries, is_typed program c.args.widths tables are c.in_ok-tables.ensures.tried.kept c.in_ok-declare_types.ensures.finite c.in_ok-declare_types.ensures.types c.in_ok-variables.ensures.tried.kept) ∣₁
