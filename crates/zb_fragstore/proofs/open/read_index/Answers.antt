use Rattle.zb_fragstore.proofs.Building.{built_here, told_here}
use Rattle.zb_fragstore.proofs.open.read_index.Goals as goal

pub returns-clause-built : goal.returns-clause-built
returns-clause-built g c tells = built_here c.args.geo.now _ _ _ c.deref.ensures.value (c.in_ok-found.ensures.shown tells) c.index_of.result c.index_of.ensures.built

pub returns-clause-fault : goal.returns-clause-fault
returns-clause-fault g c tells = told_here c.args.geo.now _ _ _ c.deref.ensures.value (c.in_ok-found.ensures.shown tells) c.index_of.result c.index_of.ensures.fault
