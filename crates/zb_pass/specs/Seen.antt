-- What contracts see of the cleaner's log.
use Rattle.std.specs.Prelude.{ℕ, Option, None}
use Rattle.zb_types.specs.declared.ids.LogId.{LogId}
use Rattle.zb_log.specs.Logs.{SeenLog}
use Rattle.zb_work.specs.declared.work.Flushed.{Flushed}
use Rattle.zb_basis.specs.Forming.{log_from}
use Rattle.zb_steps.specs.Desks.{first_log}
use Rattle.zb_steps.specs.Going.{behind}

-- the sizes of the system, the log, and its last flush
pub record SeenWriter : Type 0 where
  pub servers : ℕ
  pub fragment : ℕ
  pub block : ℕ
  pub log : SeenLog
  pub flushed : Option Flushed

-- a log that begins at stripe 0
abbrev pub first_writer : ℕ → ℕ → ℕ → LogId → SeenWriter
first_writer servers fragment block log =
    record { servers = servers; fragment = fragment; block = block; log = first_log servers fragment block log; flushed = None }

-- the log in which a batch of this generation goes next
abbrev pub log_for : SeenWriter → ℕ → SeenLog
log_for w generation = log_from w.log (behind w.flushed generation)
