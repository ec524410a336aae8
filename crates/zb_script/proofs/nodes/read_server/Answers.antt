use Rattle.std.proofs.Common.{sym, ◌∙◌}
use Rattle.zb_script.proofs.Names.{no_server}
use Rattle.zb_script.proofs.nodes.read_server.Goals as goal

pub returns-else-has_server : goal.returns-else-has_server
returns-else-has_server c = no_server c.args.geo.now c.in_ok-i.i c.in_ok-i.ensures.0 c.in_ok-i.ensures.1 (sym c.has_server.ensures ∙ c.if-has_server.false)
