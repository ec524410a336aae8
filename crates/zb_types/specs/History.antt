-- A history is legal where its replies are those of the plain tree.
use Rattle.std.specs.Prelude.{◌≡◌, ◌≤◌, List, [], ◌∷◌, length, take}
use Rattle.std.specs.List.{AllByRecursion}
use Rattle.zb_types.specs.declared.history.Did.{Did}
use Rattle.zb_types.specs.declared.history.Saw.{Saw}
use Rattle.zb_types.specs.Tree.{Tree, first_tree}
use Rattle.zb_types.specs.Apply.{applied, reply_to}

-- the tree after these updates of this one
abbrev pub tree_from : Tree → List Did → Tree
tree_from tree [] = tree
tree_from tree (did ∷ dids) = tree_from (applied tree did.call) dids

-- the tree after these updates
abbrev pub tree_after : List Did → Tree
tree_after dids = tree_from first_tree dids

-- each update has the reply of the tree before it
abbrev pub AreReplies : Tree → List Did → Type 0
AreReplies tree [] = Unit {0}
AreReplies tree (did ∷ dids) = (did.reply ≡ reply_to tree did.call) × AreReplies (applied tree did.call) dids

-- a read's reply is that of the tree after the updates that it saw
pub record IsSeen (dids : List Did) (saw : Saw) : Type 0 where
  pub early : saw.seen ≤ length dids
  pub reply : saw.reply ≡ reply_to (tree_after (take saw.seen dids)) saw.call

-- each update has the reply of the tree before it, each read that of the tree that it saw
pub record IsLegal (dids : List Did) (saws : List Saw) : Type 0 where
  pub updates : AreReplies first_tree dids
  pub reads : AllByRecursion (IsSeen dids) saws
