use Rattle.std.proofs.Common.{◌∙◌, ap, option_map}
use Rattle.tw_types.specs.FromCode.{ty_of}
use Rattle.tw_resolve.proofs.Declaring.{type_found}
use Rattle.tw_resolve.proofs.variables.Variables.get.Goals as goal

pub returns : goal.returns
returns c = ap (option_map ty_of) (c.copied.ensures ∙ c.get.ensures.value) ∙ type_found c.args.self.now.table.entries c.args.name.now
