-- What the tables have of the log of a client or the cleaner, against where that log goes on.
use Rattle.std.specs.Prelude.{◌≡◌, ℕ, ◌+◌, ◌≤◌, Option}
use Rattle.zb_types.specs.declared.ids.LogId.{LogId}
use Rattle.zb_types.specs.Keyed.{look}
use Rattle.zb_tables.specs.Tables.{Tables}
use Rattle.zb_tables.specs.Fold.{following}
use Rattle.zb_tables.specs.Taking.{mark_of}
use Rattle.zb_sound.specs.Owning.{LogIs}

-- The log is its owner's live one, with the owner's last batch and last committed stripe. Its last flush was made at this
-- generation, and began in stripe `at`, or the next one begins there; requests were delivered below stripe `front` alone.
pub record LogIsCurrent (t : Tables) (log : LogId) (owner batch : ℕ) (last : Option ℕ) (generation at front : ℕ) : Type 0 where
  pub is : LogIs t log owner batch last
  -- what is committed was delivered
  pub ahead : following last ≤ front
  -- the log doesn't go back behind its last committed stripe
  pub lasting : following last ≤ at + 1
  pub marked : mark_of (look log.0 t.logs) ≤ following last
  pub former : generation ≤ t.members.generation
  -- a flush of the members' generation isn't refused for its log's mark
  pub unmarked : generation ≡ t.members.generation → mark_of (look log.0 t.logs) ≤ at
