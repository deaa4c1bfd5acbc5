use Rattle.std.proofs.Common.{option_map, ap}
use Rattle.tw_syntax.specs.Types.{written_tree}
use Rattle.tw_types.specs.FromCode.{ty_of}
use Rattle.tw_resolve.specs.Tables.{setting_in}
use Rattle.tw_resolve.proofs.Finishing.{given, finishes, not_none}
use Rattle.tw_resolve.proofs.alias_search.finish.Goals as goal

pub unreachable-requires : goal.unreachable-requires
unreachable-requires c =
    let setting = setting_in c.args.tables.now in
    let body = written_tree c.args.body.now in
    let gives = given setting c.requires.denoted body c.requires.resolved c.requires.parts in
    not_none setting body _ gives c.in_ok-sized.ensures.found (ap (option_map (λ sized. ty_of sized.ty)) c.in_default.is)

pub returns-clause-found : goal.returns-clause-found
returns-clause-found c =
    let setting = setting_in c.args.tables.now in
    let body = written_tree c.args.body.now in
    let gives = given setting c.requires.denoted body c.requires.resolved c.requires.parts in
    finishes setting c.args.name.now body _ (ty_of c.in-Some.sized.ty) _ c.requires.declared c.requires.denoted gives c.in_ok-sized.ensures.found
    (ap (option_map (λ sized. ty_of sized.ty)) c.in-Some.is) c.in_ok-put.ensures.types
