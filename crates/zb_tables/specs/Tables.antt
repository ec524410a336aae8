-- The tables of the file manager, and the tree that they show.
use Rattle.std.specs.Prelude.{◌≡◌, ℕ, ◌+◌, ◌*◌, ◌/◌, ◌%◌, ◌≤◌, ◌<◌, Bool, ◌==◌, ◌&&◌, nat_lt, if◌then◌else◌, List, [], ◌∷◌, take, drop, slice_index, Option, Some, None}
use Rattle.std.specs.List.{AllByRecursion}
use Rattle.zb_types.specs.declared.ids.LogId.{LogId}
use Rattle.zb_types.specs.declared.ids.Ptr.{Ptr}
use Rattle.zb_types.specs.declared.calls.Reply.{Reply}
use Rattle.zb_types.specs.declared.nodes.Members.{Members}
use Rattle.zb_types.specs.declared.nodes.State.TheVariants.{Whole}
use Rattle.zb_types.specs.declared.tables.HeldUse.{HeldUse}
use Rattle.zb_types.specs.Keyed.{look, changed}
use Rattle.zb_types.specs.Names.{Names, first_names}
use Rattle.zb_types.specs.Bytes.{first_bytes}
use Rattle.zb_types.specs.Tree.{Tree}

-- a file: its version, its length in bytes, and where its blocks stand, by their numbers
pub record FileState : Type 0 where
  pub version : ℕ
  pub length : ℕ
  pub blocks : List (ℕ × Ptr)

-- the version and the length of a file
pub record Head : Type 0 where
  pub version : ℕ
  pub length : ℕ

-- a file's head
abbrev pub head_of : FileState → Head
head_of file = record { version = file.version; length = file.length }

-- a log: its owner (0 for the cleaner, else a client), whether it lives, its last batch (0 for none) with the replies, its last committed stripe, and its mark, the first stripe that it may commit
pub record LogState : Type 0 where
  pub owner : ℕ
  pub live : Bool
  pub batch : ℕ
  pub replies : List Reply
  pub last : Option ℕ
  pub mark : ℕ

-- names; files and logs by number; held stripes by log and stripe; members; and the numbers of the next log and the next entry
pub record Tables : Type 0 where
  pub names : Names
  pub files : List (ℕ × FileState)
  pub logs : List (ℕ × LogState)
  pub held : List HeldUse
  pub members : Members
  pub next_log : ℕ
  pub next_entry : ℕ

-- the tables before the first entry
abbrev pub first_tables : Tables
first_tables = record { names = first_names; files = []; logs = []; held = []; members = record { state = Whole; generation = 1 }; next_log = 1; next_entry = 1 }

-- the last value of a number that rises
abbrev pub last_value : ℕ
last_value = 281474976710656

-- the next value; the last one stands still
abbrev pub risen : ℕ → ℕ
risen n = if nat_lt n last_value then n + 1 else n

-- Held stripes.

-- is this what is held of that stripe?
abbrev pub is_of : LogId → ℕ → HeldUse → Bool
is_of log stripe h = h.log.0 == log.0 && h.stripe == stripe

-- what is held of a stripe
abbrev pub held_at : LogId → ℕ → List HeldUse → Option HeldUse
held_at log stripe [] = None
held_at log stripe (h ∷ hs) = if is_of log stripe h then Some h else held_at log stripe hs

-- the committed end of what was found, 0 where nothing was
abbrev pub end_of : Option HeldUse → ℕ
end_of None = 0
end_of (Some h) = h.end

-- up to where a stripe is committed, 0 where it isn't held
abbrev pub end_at : List HeldUse → LogId → ℕ → ℕ
end_at held log stripe = end_of (held_at log stripe held)

-- What the tables show.

-- the bytes of each stripe of each log
abbrev pub Contents : Type 0
Contents = LogId → ℕ → List ℕ

-- the bytes that a pointer names
abbrev pub bytes_at : Contents → Ptr → List ℕ
bytes_at contents p = take p.len (drop p.offset (contents p.log p.stripe))

-- byte y of a block: a hole, and what lies past the block's end, is zero
abbrev pub block_byte : Contents → Option Ptr → ℕ → ℕ
block_byte contents None y = 0
block_byte contents (Some p) y = slice_index (bytes_at contents p) y

-- byte i of a file whose blocks have b bytes
abbrev pub file_byte : ℕ → Contents → FileState → ℕ → ℕ
file_byte b contents file i = block_byte contents (look (i / b) file.blocks) (i % b)

-- the bytes of a file
abbrev pub shown_bytes : ℕ → Contents → FileState → List ℕ
shown_bytes b contents file = first_bytes file.length (file_byte b contents file)

-- the tree that the tables show
abbrev pub shown_tree : ℕ → Tables → Contents → Tree
shown_tree b tables contents = record { names = tables.names; files = changed (shown_bytes b contents) tables.files }

-- Where pointers lie.

-- what holds of each file
abbrev pub EachFile : (FileState → Type 0) → List (ℕ × FileState) → Type 0
EachFile P files = AllByRecursion (λ e. P e.1) files

-- no block of the file reaches past the file's end, so that an extension shows zeros
abbrev pub EndsInFile : ℕ → FileState → Type 0
EndsInFile b file = (k : ℕ) (p : Ptr) → look k file.blocks ≡ Some p → k * b + p.len ≤ file.length

-- a pointer lies in the committed part of a held stripe
abbrev pub IsCommitted : List HeldUse → Ptr → Type 0
IsCommitted held p = p.offset + p.len ≤ end_at held p.log p.stripe

-- it also names a byte
abbrev pub LiesIn : List HeldUse → Ptr → Type 0
LiesIn held p = (0 < p.len) × IsCommitted held p

-- so does each pointer of the file
abbrev pub PointsIn : List HeldUse → FileState → Type 0
PointsIn held file = (k : ℕ) (p : Ptr) → look k file.blocks ≡ Some p → LiesIn held p

-- of each held stripe the same committed bytes
abbrev pub SameIn : List HeldUse → Contents → Contents → Type 0
SameIn held one other = (log : LogId) (stripe : ℕ) → take (end_at held log stripe) (one log stripe) ≡ take (end_at held log stripe) (other log stripe)

-- what is held of the one is held of the other
abbrev pub HeldOn : List HeldUse → List HeldUse → Type 0
HeldOn less more = (log : LogId) (stripe : ℕ) → end_at less log stripe ≤ end_at more log stripe
