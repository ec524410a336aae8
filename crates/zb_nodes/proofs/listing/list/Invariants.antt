use Rattle.std.proofs.Common.{◌≡◌, ◌++◌, drop}
use Rattle.zb_types.specs.Tree.{listing}
use Rattle.zb_tables.specs.Tables.{Contents, shown_tree}
use Rattle.zb_nodes.proofs.Lists.{shown_entries}
use Rattle.zb_nodes.proofs.listing.list.Given as goal

abbrev pub invariant-loop-path : goal.invariant-loop-path
invariant-loop-path l = (contents : Contents)
    → l.entries.items ++ shown_entries (shown_tree l.manager.sizes.block l.manager.tables contents).files (drop l.path-index l.path-items) ≡ listing (shown_tree l.manager.sizes.block l.manager.tables contents)
