-- What a call leaves of the plain tree, and what it answers. A read leaves the tree as it is.
use Rattle.std.specs.Prelude.{ℕ, ◌+◌, Bool, true, false, not, is_some, List, [], ◌∷◌, length, take, drop, Option, Some, None, nat_lt}
use Rattle.zb_types.specs.declared.ids.Fid.{Fid}
use Rattle.zb_types.specs.declared.calls.Call.{Call}
use Rattle.zb_types.specs.declared.calls.Call.TheVariants.{Create, Mkdir, Remove, Rename, Write, Truncate, Sync, Read, List as ListOf, Stat, Find}
use Rattle.zb_types.specs.declared.calls.Reply.{Reply}
use Rattle.zb_types.specs.declared.calls.Reply.TheVariants.{Made, Bytes, Names as NamesOf, Dir, File, Refused}
use Rattle.zb_types.specs.declared.calls.Refusal.{Refusal}
use Rattle.zb_types.specs.declared.calls.Refusal.TheVariants.{NoEntry, IsDir, Gone, TooBig}
use Rattle.zb_types.specs.Keyed.{look, replaced}
use Rattle.zb_types.specs.Names.{Entry, directory, numbered, find, when, first, name_refusal, name_effect, name_change, name_reply, names_in}
use Rattle.zb_types.specs.Bytes.{written, resized}
use Rattle.zb_types.specs.Tree.{Tree, files_after, stored}

-- the most bytes that a file may have
abbrev pub max_file : ℕ
max_file = 67108864

-- a call that may change the tree; the others are reads
abbrev pub is_update : Call → Bool
is_update (Create path) = true
is_update (Mkdir path) = true
is_update (Remove path) = true
is_update (Rename path to) = true
is_update (Write fid offset bytes) = true
is_update (Truncate fid size) = true
is_update Sync = true
is_update (Read fid offset len) = false
is_update (ListOf path) = false
is_update (Stat path) = false
is_update (Find path) = false

-- a write or a truncation
abbrev pub is_bufferable : Call → Bool
is_bufferable (Create path) = false
is_bufferable (Mkdir path) = false
is_bufferable (Remove path) = false
is_bufferable (Rename path to) = false
is_bufferable (Write fid offset bytes) = true
is_bufferable (Truncate fid size) = true
is_bufferable Sync = false
is_bufferable (Read fid offset len) = false
is_bufferable (ListOf path) = false
is_bufferable (Stat path) = false
is_bufferable (Find path) = false

-- no file has this number
abbrev pub is_gone : List (ℕ × List ℕ) → Fid → Bool
is_gone files fid = not (is_some (look fid.0 files))

-- why the tree refuses a call, if it does
abbrev pub refusal_of : Tree → Call → Option Refusal
refusal_of tree (Write fid offset bytes) = first (when (is_gone tree.files fid) Gone ∷ when (nat_lt max_file (offset + length bytes)) TooBig ∷ [])
refusal_of tree (Truncate fid size) = first (when (is_gone tree.files fid) Gone ∷ when (nat_lt max_file size) TooBig ∷ [])
refusal_of tree (Read fid offset len) = when (is_gone tree.files fid) Gone
refusal_of tree call = name_refusal tree.names call

-- Where nothing refuses.

-- the tree with these bytes in the file with this number
abbrev pub with_bytes : Tree → Fid → List ℕ → Tree
with_bytes tree fid bytes = record { names = tree.names; files = replaced fid.0 bytes tree.files }

-- what a call that nothing refuses leaves of the tree
abbrev pub effect : Tree → Call → Tree
effect tree (Write fid offset bytes) = with_bytes tree fid (written (stored tree.files fid.0) offset bytes)
effect tree (Truncate fid size) = with_bytes tree fid (resized (stored tree.files fid.0) size)
effect tree call = record { names = name_effect tree.names call; files = files_after [] (name_change tree.names call) tree.files }

-- the answer to `stat` where this is found
abbrev pub stat_of : List (ℕ × List ℕ) → Option Entry → Reply
stat_of files None = Refused NoEntry
stat_of files (Some directory) = Dir
stat_of files (Some (numbered number)) = File (record { 0 = number }) (length (stored files number))

-- the answer to `open` where this is found
abbrev pub fid_of : Option Entry → Reply
fid_of None = Refused NoEntry
fid_of (Some directory) = Refused IsDir
fid_of (Some (numbered number)) = Made (record { 0 = number })

-- the answer to a call that nothing refuses
abbrev pub success : Tree → Call → Reply
success tree (Read fid offset len) = Bytes (take len (drop offset (stored tree.files fid.0)))
success tree (ListOf None) = NamesOf (names_in [] tree.names.entries)
success tree (ListOf (Some path)) = NamesOf (names_in path tree.names.entries)
success tree (Stat path) = stat_of tree.files (find path tree.names.entries)
success tree (Find path) = fid_of (find path tree.names.entries)
success tree call = name_reply tree.names call

-- the old tree where something refuses, else the new one
abbrev pub after_refusal : Option Refusal → Tree → Tree → Tree
after_refusal None tree new = new
after_refusal (Some why) tree new = tree

-- the refusal, where there is one, in place of the reply
abbrev pub or_refused : Option Refusal → Reply → Reply
or_refused None reply = reply
or_refused (Some why) reply = Refused why

-- the tree after a call
abbrev pub applied : Tree → Call → Tree
applied tree call = after_refusal (refusal_of tree call) tree (effect tree call)

-- the reply that the tree gives to a call
abbrev pub reply_to : Tree → Call → Reply
reply_to tree call = or_refused (refusal_of tree call) (success tree call)
