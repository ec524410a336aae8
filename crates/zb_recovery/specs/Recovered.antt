-- The tree that standing platters recover to.
use Rattle.std.specs.Prelude.{◌≡◌, ℕ}
use Rattle.zb_types.specs.Tree.{Tree}
use Rattle.zb_holding.specs.Holding.{View}
use Rattle.zb_tables.specs.Tables.{Tables, Contents, shown_tree}
use Rattle.zb_tables.specs.Replay.{Platter, Replays}
use Rattle.zb_recovery.specs.Agreeing.{AreContents}

-- The file manager's platter and the servers in view recover to a tree, whose files have blocks of b bytes.
pub record Recovers (b : ℕ) (platter : Platter) (v : View) (tree : Tree) : Type 0 where
  pub contents : Contents
  pub tables : Tables
  pub replays : Replays b contents platter.tables platter.entries tables
  pub are_contents : AreContents v tables.held contents
  pub shows : shown_tree b tables contents ≡ tree
