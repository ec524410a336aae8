-- The bytes of the file manager's tables, as a checkpoint has them.
use Rattle.std.specs.Prelude.{ℕ, Bool, true, false, List, [], ◌∷◌, ◌++◌, length}
use Rattle.std.specs.List.{flat_map}
use Rattle.zb_types.specs.declared.ids.Ptr.{Ptr}
use Rattle.zb_types.specs.declared.calls.Refusal.{Refusal}
use Rattle.zb_types.specs.declared.calls.Refusal.TheVariants.{NoEntry, NotDir, IsDir, Exists, Inside, NotEmpty, Gone, TooBig, Full}
use Rattle.zb_types.specs.declared.calls.Reply.{Reply}
use Rattle.zb_types.specs.declared.calls.Reply.TheVariants.{Done, Made, Bytes, Names as NamesOf, Dir, File, Refused}
use Rattle.zb_types.specs.declared.nodes.Members.{Members}
use Rattle.zb_types.specs.declared.nodes.State.{State}
use Rattle.zb_types.specs.declared.nodes.State.TheVariants.{Whole, Out, Mending}
use Rattle.zb_types.specs.declared.tables.HeldUse.{HeldUse}
use Rattle.zb_types.specs.Names.{Entry, directory, numbered}
use Rattle.zb_numbers.specs.Numbers.{number_text, zeros}
use Rattle.zb_delta.specs.Spelling.{ptr_text}
use Rattle.zb_batch.specs.Spelling.{path_text}
use Rattle.zb_tables.specs.Tables.{FileState, LogState, Tables}
use Rattle.zb_tables.specs.Fold.{following}

-- items one behind the other, behind their count
abbrev pub list_text : {A : Type 0} → (A → List ℕ) → List A → List ℕ
list_text text items = number_text 4 (length items) ++ flat_map text items

-- 1 for a directory, 2 for a file
abbrev pub kind_of_entry : Entry → ℕ
kind_of_entry directory = 1
kind_of_entry (numbered number) = 2

-- the number of a file, 0 for a directory
abbrev pub number_of_entry : Entry → ℕ
number_of_entry directory = 0
number_of_entry (numbered number) = number

-- the kind of what stands at a path, and its number
abbrev pub entry_text : Entry → List ℕ
entry_text entry = kind_of_entry entry ∷ number_text 4 (number_of_entry entry)

-- a path, behind its length, and what stands there
abbrev pub name_text : List ℕ × Entry → List ℕ
name_text e = path_text e.0 ++ entry_text e.1

-- the number of a block, and its pointer
abbrev pub block_text : ℕ × Ptr → List ℕ
block_text e = number_text 4 e.0 ++ ptr_text e.1

-- number, version and length of a file, and its blocks
abbrev pub file_text : ℕ × FileState → List ℕ
file_text e = number_text 4 e.0 ++ (number_text 8 (e.1).version ++ (number_text 4 (e.1).length ++ list_text block_text (e.1).blocks))

-- the kind of a refusal, from 2 to 10
abbrev pub kind_of_refusal : Refusal → ℕ
kind_of_refusal NoEntry = 2
kind_of_refusal NotDir = 3
kind_of_refusal IsDir = 4
kind_of_refusal Exists = 5
kind_of_refusal Inside = 6
kind_of_refusal NotEmpty = 7
kind_of_refusal Gone = 8
kind_of_refusal TooBig = 9
kind_of_refusal Full = 10

-- the kind of a reply to an update; the others, which no table has, have that of `Done`
abbrev pub kind_of_reply : Reply → ℕ
kind_of_reply Done = 0
kind_of_reply (Made fid) = 1
kind_of_reply (Bytes bytes) = 0
kind_of_reply (NamesOf names) = 0
kind_of_reply Dir = 0
kind_of_reply (File fid size) = 0
kind_of_reply (Refused why) = kind_of_refusal why

-- the number of the file that was made, else 0
abbrev pub number_of_reply : Reply → ℕ
number_of_reply Done = 0
number_of_reply (Made fid) = fid.0
number_of_reply (Bytes bytes) = 0
number_of_reply (NamesOf names) = 0
number_of_reply Dir = 0
number_of_reply (File fid size) = 0
number_of_reply (Refused why) = 0

-- the kind of a reply, and its number
abbrev pub reply_text : Reply → List ℕ
reply_text reply = kind_of_reply reply ∷ number_text 4 (number_of_reply reply)

-- 1 or 0
abbrev pub flag_of : Bool → ℕ
flag_of true = 1
flag_of false = 0

-- whose a log is, and whether it lives
abbrev pub owner_text : ℕ × Bool → List ℕ
owner_text owner = owner.0 ∷ (flag_of owner.1 ∷ zeros 2)

-- a log: number, owner, last batch, the stripe behind its last one, mark, and the replies of the batch
abbrev pub log_text : ℕ × LogState → List ℕ
log_text e = number_text 4 e.0 ++ (owner_text ((e.1).owner, (e.1).live) ++ (number_text 8 (e.1).batch
    ++ (number_text 8 (following (e.1).last) ++ (number_text 8 (e.1).mark ++ list_text reply_text (e.1).replies))))

-- a held stripe: log, stripe, committed end, and the first entry that names it
abbrev pub held_text : HeldUse → List ℕ
held_text h = number_text 4 h.log.0 ++ (number_text 8 h.stripe ++ (number_text 4 h.end ++ number_text 8 h.born))

-- 0 where all servers take part, else 1 for one that is out or 2 for one that is mended, and its number
abbrev pub state_text : State → List ℕ
state_text Whole = 0 ∷ 0 ∷ []
state_text (Out a) = 1 ∷ a.0 ∷ []
state_text (Mending a) = 2 ∷ a.0 ∷ []

-- what stands before the lists: the numbers of the next file and the next log, the members, and the number of the next entry
abbrev pub head_text : ℕ → ℕ → Members → ℕ → List ℕ
head_text file log members entry = number_text 4 file ++ (number_text 4 log ++ (state_text members.state ++ (zeros 2
    ++ (number_text 8 members.generation ++ number_text 8 entry))))

-- the lists: names by path, files by number, logs by number, held stripes by log and stripe
abbrev pub lists_text : Tables → List ℕ
lists_text t = list_text name_text t.names.entries ++ (list_text file_text t.files ++ (list_text log_text t.logs ++ list_text held_text t.held))

-- the bytes of tables
unfoldable pub spelling_of_tables : Tables → List ℕ
spelling_of_tables t = head_text t.names.next t.next_log t.members t.next_entry ++ lists_text t
