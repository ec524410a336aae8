use Rattle.std.proofs.lemmas.Result.{IfOk-weaker}
use Rattle.zb_script.proofs.Headings.{no_head_line, behind_head}
use Rattle.zb_script.proofs.lines.body.Goals as goal

pub returns-in_default-read_head : goal.returns-in_default-read_head
returns-in_default-read_head c = no_head_line c.args.geo.now c.args.plus c.in-Some.ensures c.in_default-read_head.ensures

pub returns : goal.returns
returns c =
    IfOk-weaker c.line_of.result _ _ (λ found h. behind_head c.args.geo.now c.args.plus c.in-Some-read_head.head c.in-Some.ensures c.in-Some-read_head.ensures.0 c.in-Some-read_head.ensures.1 found h) c.line_of.ensures
