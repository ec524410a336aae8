use Rattle.std.proofs.lemmas.Result.{IfOk-weaker}
use Rattle.zb_script.proofs.Headings.{behind_plus}
use Rattle.zb_script.proofs.lines.read_line.Goals as goal

pub returns : goal.returns
returns c = IfOk-weaker c.body.result _ _ (λ found h. behind_plus c.split_plus-plus.result.1.now c.args.geo.now c.split_plus-plus.result.0 c.split_plus-plus.ensures.whole c.split_plus-plus.ensures.first found h) c.body.ensures
