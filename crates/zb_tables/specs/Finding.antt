-- What is looked up in the tables.
use Rattle.std.specs.Prelude.{ℕ, ◌+◌, Bool, ◌==◌, ◌&&◌, nat_le, nat_lt, List, [], map, filter, Option, Some, None}
use Rattle.std.specs.List.{flat_map}
use Rattle.zb_types.specs.declared.ids.LogId.{LogId}
use Rattle.zb_types.specs.declared.ids.Ptr.{Ptr}
use Rattle.zb_types.specs.declared.nodes.Members.{Members}
use Rattle.zb_types.specs.declared.tables.Found.{Found}
use Rattle.zb_types.specs.declared.tables.LogUse.{LogUse}
use Rattle.zb_types.specs.declared.tables.Status.{Status}
use Rattle.zb_types.specs.Keyed.{look}
use Rattle.zb_delta.specs.declared.delta.Body.{Body}
use Rattle.zb_tables.specs.Tables.{FileState, LogState, Tables}

-- the blocks with `count` numbers from `first` on
abbrev pub among : ℕ → ℕ → List (ℕ × Ptr) → List (ℕ × Ptr)
among first count blocks = filter (λ e. nat_le first e.0 && nat_lt e.0 (first + count)) blocks

-- what a lookup finds of a file: version 0 where there is none
abbrev pub found_in : Members → ℕ → ℕ → Option FileState → Found
found_in members first count None = record { version = 0; length = 0; blocks = []; members = members }
found_in members first count (Some file) = record { version = file.version; length = file.length; blocks = among first count file.blocks; members = members }

-- what a lookup finds of the blocks with `count` numbers from `first` on of a file
abbrev pub found : Tables → ℕ → ℕ → ℕ → Found
found t fid first count = found_in t.members first count (look fid t.files)

-- does the pointer lie in this stripe?
abbrev pub is_into : LogId → ℕ → Ptr → Bool
is_into log stripe p = p.log.0 == log.0 && p.stripe == stripe

-- the pointers of a file into a stripe, with the file's version
abbrev pub live_in : LogId → ℕ → ℕ × FileState → List Body
live_in log stripe e =
    map (λ k. record { fid = record { 0 = e.0 }; version = (e.1).version; block = k.0; was = None; now = k.1 })
    (filter (λ k. is_into log stripe k.1) (e.1).blocks)

-- the pointers into a stripe, by file and block
abbrev pub live : Tables → LogId → ℕ → List Body
live t log stripe = flat_map (live_in log stripe) t.files

-- a log as a status tells it
abbrev pub use_of : ℕ × LogState → LogUse
use_of e = record { log = record { 0 = e.0 }; live = (e.1).live; last = (e.1).last; batch = (e.1).batch }

-- what a status tells
abbrev pub status : Tables → Status
status t = record { next = t.next_log; members = t.members; logs = map use_of t.logs; held = t.held }
