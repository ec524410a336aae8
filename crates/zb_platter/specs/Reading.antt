-- What is read back of platter 0.
use Rattle.std.specs.Prelude.{◌≡◌, ℕ, List}
use Rattle.zb_outside.specs.Meaning.{Standing}
use Rattle.zb_ckpt.specs.declared.root.Root.{Root}
use Rattle.zb_ckpt.specs.Says.{Says as SaysRoot}
use Rattle.zb_journal.specs.Journal.{Says, IsBadAt}
use Rattle.zb_tables.specs.Tables.{Tables, Contents}
use Rattle.zb_spelling.specs.Spelling.{spelling_of_tables}
use Rattle.zb_platter.specs.Standing.{SeenPlatter, Stands}

-- the root cell has this root, these are the bytes of its checkpoint, and from its first number on the journal has these entries
pub record IsReadBack (image : List ℕ) (p : SeenPlatter) (bytes : List ℕ) : Type 0 where
  pub root : SaysRoot image p.root bytes
  pub journal : Says image p.root.first p.entries p.journal.place

-- the platter stands as is known now, and its checkpoint has these bytes
pub record StandsAgain (p : SeenPlatter) (bytes : List ℕ) (contents : Contents) (tables : Tables) (s : Standing) : Type 0 where
  pub stands : Stands p contents tables s
  pub text : spelling_of_tables stands.start ≡ bytes

-- behind the checkpoint of this root something begins as an entry and is none
pub record HasBadEntry (image : List ℕ) (root : Root) : Type 0 where
  pub place : ℕ
  pub bad : IsBadAt image root.first place
