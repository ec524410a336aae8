-- Stripes that nothing comes to any more, and what the cleaner holds of stripes.
use Rattle.std.specs.Prelude.{◌≡◌, ℕ, ◌+◌, ◌<◌, ◌≤◌, true, List, Option, None, IfSome, IsSomeAnd}
use Rattle.std.specs.List.{AllByRecursion}
use Rattle.zb_types.specs.declared.ids.LogId.{LogId}
use Rattle.zb_types.specs.declared.ids.Piece.{Piece}
use Rattle.zb_types.specs.declared.ids.Ptr.{Ptr}
use Rattle.zb_types.specs.declared.tables.HeldUse.{HeldUse}
use Rattle.zb_types.specs.Keyed.{look}
use Rattle.zb_tables.specs.Tables.{Contents, LogState, Tables, LiesIn, bytes_at, held_at}
use Rattle.zb_tables.specs.Fold.{following}

-- the log has ended, or the stripe is below its last committed one
abbrev pub IsBehind : ℕ → Option LogState → Type 0
IsBehind stripe log = IfSome log (λ l. l.live ≡ true → stripe + 1 < following l.last)

-- a stripe of a log that was given, which isn't held, and which nothing comes to any more: its fragments may be deleted
pub record IsStray (t : Tables) (log : LogId) (stripe : ℕ) : Type 0 where
  pub given : log.0 < t.next_log
  pub not_held : held_at log stripe t.held ≡ None
  pub behind : IsBehind stripe (look log.0 t.logs)

-- the log lives, and none of the pieces is in a stripe below its last one
abbrev pub NoneBehind : Option LogState → List Piece → Type 0
NoneBehind log pieces = IsSomeAnd log (λ l. (l.live ≡ true) × AllByRecursion (λ p. following l.last ≤ p.stripe + 1) pieces)

-- blocks that the cleaner holds are the bytes at their pointers, which lie in what is held
abbrev pub CopiesAreCurrent : Contents → List HeldUse → List (Ptr × List ℕ) → Type 0
CopiesAreCurrent contents held blocks = AllByRecursion (λ e. (e.1 ≡ bytes_at contents e.0) × LiesIn held e.0) blocks
