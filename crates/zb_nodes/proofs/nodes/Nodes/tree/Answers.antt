use Rattle.zb_nodes.proofs.nodes.Nodes.tree.Goals as goal

pub returns : goal.returns
returns c = rw (← c.self.view_is) c.list.ensures
