-- What the tables have of the log that a client or the cleaner writes.
use Rattle.std.specs.Prelude.{◌≡◌, ℕ, true, Option, Some}
use Rattle.zb_types.specs.declared.ids.LogId.{LogId}
use Rattle.zb_types.specs.Keyed.{look}
use Rattle.zb_tables.specs.Tables.{LogState, Tables}

-- the log lives and is this owner's, with this last batch (0 for none) and this last committed stripe
pub record LogIs (t : Tables) (log : LogId) (owner batch : ℕ) (last : Option ℕ) : Type 0 where
  pub state : LogState
  pub there : look log.0 t.logs ≡ Some state
  pub lives : state.live ≡ true
  pub owner_is : state.owner ≡ owner
  pub batch_is : state.batch ≡ batch
  pub last_is : state.last ≡ last
