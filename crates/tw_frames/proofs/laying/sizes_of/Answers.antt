use Rattle.std.proofs.Common.{◌≡◌, ◌∙◌, arith, sym, ap}
use Rattle.tw_syntax.specs.Programs.{FunTree, fun_tree}
use Rattle.tw_types.specs.Types.{block_size}
use Rattle.tw_resolve.specs.Expressions.{Types}
use Rattle.tw_resolve.specs.Setting.{reported}
use Rattle.tw_state.specs.Steps.{fun_types}
use Rattle.tw_state.proofs.Basics.{same_some}
use Rattle.tw_state.proofs.EntryEncodings.{targets_are}
use Rattle.tw_frames.specs.declared.workspace.Workspace.{Workspace}
use Rattle.tw_frames.specs.Found.{setting_of}
use Rattle.tw_frames.specs.Sizes.{name_size}
use Rattle.tw_frames.proofs.PathTypes.{types_are}
use Rattle.tw_frames.proofs.laying.sizes_of.Goals as goal

pub returns : goal.returns
returns c =
    λ fun whole is is_whole.
    let setting = setting_of c.args.body.now in
    let same : fun ≡ fun_tree c.fun_at.result.now = same_some is c.fun_at.ensures in
    let flags_fit = c.ranges.flags.fits in
    let ladder_fits = c.ranges.ladder.fits in
    let flags : c.args.flags ≡ reported c.args.flags = omega (arith, flags_fit) in
    let ladder : c.args.ladder ≡ reported c.args.ladder = omega (arith, ladder_fits) in
    λ i. record {
      block = (c.bits_of_block.ensures ∙ ap (λ w. reported (block_size w c.targets.result.now)) c.widths.ensures ∙ ap (λ ts. reported (block_size setting.widths ts)) (targets_are setting c.targets.result.now c.targets.ensures)) i;
      args = c.bits_of_params.ensures fun is i;
      out = (c.bits_of_name.ensures
          ∙ ap (λ (types : Types). reported (name_size setting.widths types (fun_tree c.fun_at.result.now).returned.text)) (types_are setting c.args.body.now.fun fun is)
          ∙ ap (λ (f : FunTree). reported (name_size setting.widths (fun_types setting fun) f.returned.text)) (sym same)) i;
      frames = ap (λ (w : Workspace). w.frames) is_whole i;
      scratch = ap (λ (w : Workspace). w.scratch) is_whole i;
      flags = flags i;
      ladder = (c.from.ensures ∙ ladder) i;
    }
