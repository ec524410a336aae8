use Rattle.std.proofs.lemmas.Slice.Eq.{strip_prefix_is}
use Rattle.std.proofs.lemmas.Bool.Decides.{Decides-eqb}
use Rattle.zb_script.proofs.Splitting.{rest_behind}
use Rattle.zb_script.proofs.spaces.behind.Goals as goal

pub returns : goal.returns
returns c = rest_behind c.args.front.now c.args.bytes.now c.strip_prefix.result (strip_prefix_is Decides-eqb c.args.bytes.now c.args.front.now c.strip_prefix.result c.strip_prefix.ensures.cases)
