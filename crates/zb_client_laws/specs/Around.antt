-- What the steps of a client meet.
use Rattle.std.specs.Prelude.{◌≡◌, ℕ, [], false}
use Rattle.zb_types.specs.declared.ids.ServerId.{ServerId}
use Rattle.zb_types.specs.declared.nodes.State.TheVariants.{Whole}
use Rattle.zb_types.specs.Limits.{InLimits}
use Rattle.zb_types.specs.Tree.{Tree}
use Rattle.zb_tables.specs.Tables.{Contents, Tables}
use Rattle.zb_tables.specs.Replay.{Platter}
use Rattle.zb_tables.specs.Taking.{Sizes}
use Rattle.zb_recovery.specs.Missing.{Servers}
use Rattle.zb_sound.specs.Standing.{StandFor}

-- the sizes of the system, the bytes of each stripe, what the servers have, the file manager's tables, and the tree of the history so far
pub record Around : Type 0 where
  pub z : Sizes
  pub contents : Contents
  pub st : Servers
  pub tables : Tables
  pub tree : Tree

-- a file manager's platter with these tables, and no entry behind them
abbrev pub at_rest : Tables → Platter
at_rest tables = record { tables = tables; entries = [] }

-- servers and tables stand for the tree of the history, and all servers take part
pub record IsAround (slots : ℕ) (w : Around) : Type 0 where
  pub limits : InLimits w.z.servers w.z.clients w.z.fragment w.z.block slots
  pub stands : StandFor w.z w.contents (at_rest w.tables) w.st w.tables w.tree
  pub whole : w.tables.members.state ≡ Whole
  pub none_blank : (s : ServerId) → w.st.blank s ≡ false
