-- What the images of all platters say, as a crash may leave them.
use Rattle.std.specs.Prelude.{ℕ, List, Option}
use Rattle.zb_types.specs.Tree.{Tree}

-- what images say; each part is to be a definition over images alone
pub record Sight : Type 1 where
  -- this server may be missing, or none may
  pub may_miss : (ℕ → List ℕ) → Option ℕ → Type 0
  -- with this server missing, or none, they recover to this tree
  pub recovers : (ℕ → List ℕ) → Option ℕ → Tree → Type 0
  -- this server isn't fit to be read
  pub unfit : (ℕ → List ℕ) → ℕ → Type 0
  -- the members name this server as out or mending; as mending, with this generation; their generation is this
  pub names : (ℕ → List ℕ) → ℕ → Type 0
  pub mends : (ℕ → List ℕ) → ℕ → ℕ → Type 0
  pub generation : (ℕ → List ℕ) → ℕ → Type 0
  -- this platter has so many free slots
  pub free : (ℕ → List ℕ) → ℕ → ℕ → Type 0
  -- this stripe of a log is held; may be cleaned; has no live pointer and an entry since the checkpoint that names it
  pub holds : (ℕ → List ℕ) → ℕ → ℕ → Type 0
  pub candidate : (ℕ → List ℕ) → ℕ → ℕ → Type 0
  pub cited : (ℕ → List ℕ) → ℕ → ℕ → Type 0
