use Rattle.std.proofs.Common.{◌∙◌, ap, sym, ◌∷◌}
use Rattle.std.specs.Str.{chars}
use Rattle.std.proofs.lemmas.List.{append_cancel_right}
use Rattle.tw_text.proofs.Suffixes.{ends_with_both}
use Rattle.tw_lex.proofs.Pieces.{found_word}
use Rattle.tw_lex.proofs.word.word.Goals as goal

pub before-requires : goal.before-requires
before-requires c = ends_with_both c.args.text.now c.args.following.now _ c.requires.begins.suffix c.after_run-count.ensures.runs.suffix

pub kind_of-requires : goal.kind_of-requires
kind_of-requires c =
    let r = c.after_run-count.ensures.runs in
    (r.run, append_cancel_right (chars c.before-2.result.now) (c.args.first ∷ r.run) (chars c.after_run-count.result.0.now) (sym c.before-2.ensures.spelled ∙ c.requires.begins.spelled ∙ ap (λ cs. c.args.first ∷ cs) r.parts))

pub returns : goal.returns
returns c = rw c.kind_of.ensures (found_word c.args.text.now c.args.following.now _ _ c.args.first _ c.requires.begins c.requires.starts c.after_run-count.ensures c.before-2.ensures.spelled)
