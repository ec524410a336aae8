-- What contracts see of the platter of the tables, and how it stands.
use Rattle.std.specs.Prelude.{◌≡◌, ◌+◌, ◌≤◌, ◌^◌, List, [], length}
use Rattle.zb_types.specs.declared.geometry.Geometry.{Geometry}
use Rattle.zb_entries.specs.declared.entry.Entry.{Entry}
use Rattle.zb_outside.specs.Meaning.{Standing}
use Rattle.zb_outside.specs.Runs.{IsSettled}
use Rattle.zb_ckpt.specs.declared.root.Root.{Root}
use Rattle.zb_journal.specs.declared.journal.Journal.{Journal}
use Rattle.zb_tables.specs.Tables.{Tables, Contents}
use Rattle.zb_tables.specs.Taking.{AreTaken}
use Rattle.zb_spelling.specs.Unspelling.{sizes_of}
use Rattle.zb_platter.specs.Says.{HasPlatter}

-- the root, where the journal goes on, and its entries since the checkpoint
pub record SeenPlatter : Type 0 where
  pub root : Root
  pub journal : Journal
  pub entries : List Entry

-- the system that the tables are of
abbrev pub system_of : SeenPlatter → Geometry
system_of p = p.root.geo

-- the entries are numbered from the root's first on, which is a number of an entry
pub record AreNumbered (root : Root) (journal : Journal) (entries : List Entry) : Type 0 where
  pub low : 1 ≤ root.first
  pub high : root.first ≤ 2 ^ 48
  pub next : journal.number ≡ root.first + length entries

-- no write of platter 0 is unsynced, and it has what is known of it: a checkpoint, and the entries that make these tables of it
pub record Stands (p : SeenPlatter) (contents : Contents) (tables : Tables) (s : Standing) : Type 0 where
  pub settled : IsSettled 0 s
  pub start : Tables
  pub has : HasPlatter (s.seen 0) p.root (record { tables = start; entries = p.entries }) p.journal.place
  pub taken : AreTaken (sizes_of p.root.geo) contents [] start p.entries tables
