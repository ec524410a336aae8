-- What contracts see of a client's desk.
use Rattle.std.specs.Prelude.{◌≡◌, ℕ, ◌-◌, ◌*◌, List, [], Option, None}
use Rattle.zb_types.specs.declared.ids.LogId.{LogId}
use Rattle.zb_log.specs.Places.{place}
use Rattle.zb_log.specs.Logs.{SeenLog, AreGiven}
use Rattle.zb_cache.specs.Entries.{SeenCache}
use Rattle.zb_basis.specs.Looking.{room_of}
use Rattle.zb_work.specs.declared.work.Flushed.{Flushed}

-- The sizes of the system, the log, the number of the next batch, the last flush, and the blocks that were fetched last.
pub record SeenDesk : Type 0 where
  pub servers : ℕ
  pub fragment : ℕ
  pub block : ℕ
  pub log : SeenLog
  pub batch : ℕ
  pub flushed : Option Flushed
  pub cache : SeenCache

-- how many blocks a client's cache has room for
abbrev pub most_cached : ℕ
most_cached = 64

-- a log that begins at stripe 0
abbrev pub first_log : ℕ → ℕ → ℕ → LogId → SeenLog
first_log servers fragment block log =
    record { log = log; servers = servers; fragment = fragment; room = (servers - 1) * fragment; block = block; next = place 0 0; parity = [] }

-- a desk whose log begins at stripe 0
abbrev pub first_desk : ℕ → ℕ → ℕ → LogId → SeenDesk
first_desk servers fragment block log = record {
  servers = servers;
  fragment = fragment;
  block = block;
  log = first_log servers fragment block log;
  batch = 1;
  flushed = None;
  cache = record { entries = []; room = most_cached };
}

-- the log is that of the client, and has the sizes of the system
pub record IsLogOf (n f b : ℕ) (id : LogId) (log : SeenLog) : Type 0 where
  pub log_is : log.log ≡ id
  pub servers : log.servers ≡ n
  pub fragment : log.fragment ≡ f
  pub room : log.room ≡ room_of n f
  pub block : log.block ≡ b

-- some bytes are those that the log gave of its stripe
pub record HasGiven (log : SeenLog) : Type 0 where
  pub given : List ℕ
  pub are : AreGiven log given
