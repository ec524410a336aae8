-- What the reader finds part by part: numbers that have room in their bytes.
use Rattle.std.specs.Prelude.{◌≡◌, ℕ, List, map, length, Option, Some, None}
use Rattle.std.specs.List.{AllByRecursion}
use Rattle.zb_types.specs.declared.ids.Ptr.{Ptr}
use Rattle.zb_types.specs.declared.calls.Refusal.{Refusal}
use Rattle.zb_types.specs.declared.calls.Reply.{Reply}
use Rattle.zb_types.specs.declared.tables.HeldUse.{HeldUse}
use Rattle.zb_types.specs.Names.{Entry, directory, numbered}
use Rattle.zb_numbers.specs.Numbers.{IsBelow}
use Rattle.zb_delta.specs.Spelling.{IsPtr}
use Rattle.zb_batch.specs.Reading.{IsPath}
use Rattle.zb_names.specs.declared.entries.Entry.{Entry as Given}
use Rattle.zb_names.specs.Shown.{seen, listed}
use Rattle.zb_pointers.specs.Seen.{numbered_file}
use Rattle.zb_log_tables.specs.Logs.{IsLast, states_of}
use Rattle.zb_tables.specs.Tables.{FileState, LogState, Tables}
use Rattle.zb_tables.specs.Checkpoint.{IsUpdateReply}
use Rattle.zb_spelling.specs.declared.head.Head.{Head}
use Rattle.zb_spelling.specs.declared.rows.FileRow.{FileRow}
use Rattle.zb_spelling.specs.declared.rows.Rows.{Rows}
use Rattle.zb_spelling.specs.Spelling.{kind_of_entry, number_of_entry, kind_of_refusal, kind_of_reply, number_of_reply, head_text}

-- any value
abbrev pub IsAny : {A : Type 0} → A → Type 0
IsAny a = Unit {0}

-- items whose count has room in its bytes
abbrev pub AreItems : {A : Type 0} → (A → Type 0) → List A → Type 0
AreItems Is items = AllByRecursion Is items × IsBelow 4 (length items)

-- so many items
abbrev pub AreSome : {A : Type 0} → (A → Type 0) → ℕ → List A → Type 0
AreSome Is count items = AllByRecursion Is items × (length items ≡ count)

-- the number of a file has room
abbrev pub IsEntry : Entry → Type 0
IsEntry directory = Unit {0}
IsEntry (numbered number) = IsBelow 4 number

-- what stands at a path, of this kind with this number, or that there is none
abbrev pub IsEntryOf : ℕ → ℕ → Option Entry → Type 0
IsEntryOf kind number (Some entry) = (kind_of_entry entry ≡ kind) × (number_of_entry entry ≡ number)
IsEntryOf kind number None = (entry : Entry) → kind_of_entry entry ≡ kind → number_of_entry entry ≡ number → ⊥

-- a valid path, and what stands there
abbrev pub IsName : List ℕ × Entry → Type 0
IsName e = IsPath e.0 × IsEntry e.1

-- what stands at a path, as the names show it
abbrev pub shown_name : List ℕ × Given → List ℕ × Entry
shown_name e = (e.0, seen e.1)

-- a block
abbrev pub IsBlock : ℕ × Ptr → Type 0
IsBlock e = IsBelow 4 e.0 × IsPtr e.1

-- a file whose numbers have room, with blocks
pub record IsFileRow (e : ℕ × FileState) : Type 0 where
  pub number : IsBelow 4 e.0
  pub version : IsBelow 8 (e.1).version
  pub length : IsBelow 4 (e.1).length
  pub blocks : AreItems IsBlock (e.1).blocks

-- a row as the tables have the file
abbrev pub shown_file : FileRow → ℕ × FileState
shown_file row = numbered_file row.fid row.head row.blocks.items

-- a refusal of this kind, or that none is of it
abbrev pub IsRefusalOf : ℕ → Option Refusal → Type 0
IsRefusalOf kind (Some why) = kind_of_refusal why ≡ kind
IsRefusalOf kind None = (why : Refusal) → kind_of_refusal why ≡ kind → ⊥

-- a reply to an update of this kind with this number, or that there is none
abbrev pub IsReplyOf : ℕ → ℕ → Option Reply → Type 0
IsReplyOf kind number (Some reply) = IsUpdateReply reply × (kind_of_reply reply ≡ kind) × (number_of_reply reply ≡ number)
IsReplyOf kind number None = (reply : Reply) → IsUpdateReply reply → kind_of_reply reply ≡ kind → number_of_reply reply ≡ number → ⊥

-- a log whose numbers have room, with replies to updates
pub record IsLogRow (e : ℕ × LogState) : Type 0 where
  pub number : IsBelow 4 e.0
  pub batch : IsBelow 8 (e.1).batch
  pub last : IsLast (e.1).last
  pub mark : IsBelow 8 (e.1).mark
  pub replies : AreItems IsUpdateReply (e.1).replies

-- a held stripe whose numbers have room
pub record IsHeldRow (h : HeldUse) : Type 0 where
  pub log : IsBelow 4 h.log.0
  pub stripe : IsBelow 8 h.stripe
  pub end : IsBelow 4 h.end
  pub born : IsBelow 8 h.born

-- the numbers of a head have room
pub record IsHead (h : Head) : Type 0 where
  pub file : IsBelow 4 h.next_file
  pub log : IsBelow 4 h.numbers.next_log
  pub generation : IsBelow 8 h.numbers.members.generation
  pub entry : IsBelow 8 h.numbers.next_entry

-- the bytes of a head
abbrev pub text_of_head : Head → List ℕ
text_of_head h = head_text h.next_file h.numbers.next_log h.numbers.members h.numbers.next_entry

-- the head of tables
abbrev pub head_of : Tables → Head
head_of t = record { next_file = t.names.next; numbers = record { members = t.members; next_log = t.next_log; next_entry = t.next_entry } }

-- tables whose numbers and counts have room, with valid paths and with replies to updates
pub record HasRoom (t : Tables) : Type 0 where
  pub head : IsHead (head_of t)
  pub names : AreItems IsName t.names.entries
  pub files : AreItems IsFileRow t.files
  pub logs : AreItems IsLogRow t.logs
  pub held : AreItems IsHeldRow t.held

-- the tables that rows make
abbrev pub shown_tables : Rows → Tables
shown_tables rows = record {
  names = record { next = rows.head.next_file; entries = listed rows.names.items };
  files = map shown_file rows.files.items;
  logs = states_of rows.logs.items;
  held = rows.held.items;
  members = rows.head.numbers.members;
  next_log = rows.head.numbers.next_log;
  next_entry = rows.head.numbers.next_entry;
}
