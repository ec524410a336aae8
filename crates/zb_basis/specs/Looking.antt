-- What a lookup is asked, and what it finds.
use Rattle.std.specs.Prelude.{ℕ, ◌+◌, ◌-◌, ◌*◌, ◌/◌, ◌%◌, ◌<◌, ◌≤◌, ◌^◌, min, nat_le, if◌then◌else◌, List, length, map, All, AllPairs, Option, Some, None}
use Rattle.std.specs.List.{AllZip}
use Rattle.zb_types.specs.declared.ids.Fid.{Fid}
use Rattle.zb_types.specs.declared.ids.Ptr.{Ptr}
use Rattle.zb_types.specs.declared.calls.Call.{Call}
use Rattle.zb_types.specs.declared.calls.Call.TheVariants.{Create, Mkdir, Remove, Rename, Write, Truncate, Sync, Read, List as ListOf, Stat, Find}
use Rattle.zb_types.specs.declared.tables.Found.{Found}
use Rattle.zb_types.specs.Apply.{max_file}
use Rattle.zb_basis.specs.declared.asks.Ask.{Ask}
use Rattle.zb_basis.specs.declared.calls.Numbered.{Numbered}

-- a file's blocks that the bytes from the one place to before the other lie in
abbrev pub ask_range : ℕ → Fid → ℕ → ℕ → Ask
ask_range b fid from to = if nat_le to from then record { fid = fid; first = 0; count = 0 } else record { fid = fid; first = from / b; count = (to - 1) / b - from / b + 1 }

-- where a range ends, none where a file can't be so long
abbrev pub end_of : ℕ → ℕ → Option ℕ
end_of offset len = if nat_le (offset + len) max_file then Some (offset + len) else None

-- the number of no file
abbrev pub no_file : Fid
no_file = record { 0 = 0 }

-- the bytes up to an end, none where there is none
abbrev pub ask_to : ℕ → Fid → ℕ → Option ℕ → Ask
ask_to b fid from None = ask_range b fid 0 0
ask_to b fid from (Some to) = ask_range b fid from to

-- the blocks that a write touches, the block that a truncation ends in, and the blocks of a read; other calls name no
-- file
abbrev pub ask_of : ℕ → Call → Ask
ask_of b (Write fid offset bytes) = ask_to b fid offset (end_of offset (length bytes))
ask_of b (Truncate fid n) = ask_range b fid (n - n % b) n
ask_of b (Read fid offset len) = ask_range b fid offset (min (offset + len) max_file)
ask_of b (Create path) = ask_range b no_file 0 0
ask_of b (Mkdir path) = ask_range b no_file 0 0
ask_of b (Remove path) = ask_range b no_file 0 0
ask_of b (Rename path to) = ask_range b no_file 0 0
ask_of b Sync = ask_range b no_file 0 0
ask_of b (ListOf path) = ask_range b no_file 0 0
ask_of b (Stat path) = ask_range b no_file 0 0
ask_of b (Find path) = ask_range b no_file 0 0

-- a block that was found: it has bytes, and ends in its stripe, which has room for so many
pub record IsFoundBlock (b room : ℕ) (ask : Ask) (entry : ℕ × Ptr) : Type 0 where
  pub begins : ask.first ≤ entry.0
  pub ends : entry.0 < ask.first + ask.count
  pub some : 0 < entry.1.len
  pub fits : entry.1.len ≤ b
  pub within : entry.1.offset + entry.1.len ≤ room

-- what may be found for what was asked: a version, a length that a file may have, and blocks by rising numbers
pub record MayFind (b room : ℕ) (ask : Ask) (found : Found) : Type 0 where
  pub version : found.version ≤ 2 ^ 48
  pub blocks : All (IsFoundBlock b room ask) found.blocks
  pub rise : AllPairs (λ one other. one.0 < other.0) found.blocks
  pub long : found.length ≤ max_file

-- one is found for each that was asked
abbrev pub AreFoundFor : ℕ → ℕ → List Ask → List Found → Type 0
AreFoundFor b room asks found = AllZip (MayFind b room) asks found

-- what is asked for the calls of a batch
abbrev pub asks_of : ℕ → List Numbered → List Ask
asks_of b calls = map (λ k. ask_of b k.call) calls

-- how many bytes a stripe has room for, of n servers with f bytes in a fragment
abbrev pub room_of : ℕ → ℕ → ℕ
room_of n f = (n - 1) * f
