use Rattle.zb_nodes.proofs.Firsts.{StandFirst}
use Rattle.zb_nodes.proofs.nodes.Nodes.new.Given as goal

abbrev pub invariant-loop-i : goal.invariant-loop-i
invariant-loop-i l = StandFirst l.geo l.manager l.clients.items l.i
