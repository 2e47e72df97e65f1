use Rattle.std.proofs.Common.{sym, ap, ◌∙◌, ◌∷◌}
use Rattle.xod_lang.specs.Lines.{lines_of}
use Rattle.xod_lang.proofs.LineLemmas.{lines_of-feed, lines_of-last}
use Rattle.xod_lang.proofs.read.next_line.Goals as goal

pub returns-in-None-clause-cut : goal.returns-in-None-clause-cut
returns-in-None-clause-cut c =
    lines_of-last c.args.bytes.now c.split_at.result.1.now c.line_len.result c.line_len.ensures.exact c.split_at.ensures.back
    c.in-None.ensures.cases c.requires
    ∙ ap (λ line. line ∷ lines_of c.split_at.result.1.now) (sym c.split_at.ensures.front)

pub returns-in-Some-clause-cut : goal.returns-in-Some-clause-cut
returns-in-Some-clause-cut c =
    let at_feed = lines_of-feed c.args.bytes.now c.split_at.result.1.now c.in-Some.more.now c.line_len.result _ c.line_len.ensures.exact c.split_at.ensures.back
    (c.in-Some.ensures.cases.0) in
    cc
