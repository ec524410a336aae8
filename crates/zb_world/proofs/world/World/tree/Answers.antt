use Rattle.std.proofs.Common.{Some, ap}
use Rattle.std.proofs.Common.{List}
use Rattle.zb_types.specs.declared.tables.TreeEntry.{TreeEntry}
use Rattle.zb_running.proofs.Shown.{lists_tree}
use Rattle.zb_world.proofs.world.World.tree.Goals as goal

pub returns : goal.returns
returns g c = rw (← c.self.view_is) (λ given lines r. ap (λ (entries : List TreeEntry). Some entries) (lists_tree r c.in_ok-tree.field-0 c.in_ok-tree.ensures))
