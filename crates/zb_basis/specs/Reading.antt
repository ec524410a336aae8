-- What a read of a file is answered.
use Rattle.std.specs.Prelude.{◌≡◌, ℕ, ◌/◌, ◌%◌, ◌==◌, Bool, true, false, if◌then◌else◌, List, [], ◌∷◌, take, drop, slice_index}
use Rattle.zb_types.specs.declared.calls.Call.{Call}
use Rattle.zb_types.specs.declared.calls.Call.TheVariants.{Read}
use Rattle.zb_types.specs.declared.calls.Reply.{Reply}
use Rattle.zb_types.specs.declared.calls.Reply.TheVariants.{Bytes as BytesReply, Refused}
use Rattle.zb_types.specs.declared.calls.Refusal.TheVariants.{Gone}
use Rattle.zb_types.specs.declared.tables.Found.{Found}
use Rattle.zb_types.specs.Keyed.{look}
use Rattle.zb_types.specs.Bytes.{first_bytes}
use Rattle.zb_basis.specs.declared.basis.Basis.{Basis}
use Rattle.zb_basis.specs.Operations.{Bytes, block_bytes}
use Rattle.zb_basis.specs.Forming.{Stand}

-- a read of a file's bytes
abbrev pub is_read : Call → Bool
is_read (Read fid offset len) = true
is_read call = false

-- the bytes of a file as it was looked up, with blocks of b bytes: zeros in a hole and behind a block's end
abbrev pub file_bytes : ℕ → Bytes → Found → List ℕ
file_bytes b bytes found = first_bytes found.length (λ i. slice_index (block_bytes bytes (look (i / b) found.blocks)) (i % b))

-- a file that is absent is gone, else the bytes are those of the file as it was looked up
abbrev pub read_reply : ℕ → Bytes → Found → ℕ → ℕ → Reply
read_reply b bytes found offset len = if found.version == 0 then Refused Gone else BytesReply (take len (drop offset (file_bytes b bytes found)))

-- the reply to a read of the one file that was looked up
abbrev pub ReplyOf : ℕ → Bytes → List Found → Call → Reply → Type 0
ReplyOf b bytes (found ∷ []) (Read fid offset len) reply = reply ≡ read_reply b bytes found offset len
ReplyOf b bytes founds call reply = ⊥

-- whatever stands at pointers, the reply is that of the file that it gives
abbrev pub IsReadReply : ℕ → Basis → Call → Reply → Type 0
IsReadReply b basis call reply = (bytes : Bytes) → Stand bytes basis.fetched [] [] → ReplyOf b bytes basis.found call reply
