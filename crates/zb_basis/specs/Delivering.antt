-- The stripes that requests change.
use Rattle.std.specs.Prelude.{ℕ, ◌≤◌}
use Rattle.zb_types.specs.declared.requests.Request.{Request}
use Rattle.zb_types.specs.declared.requests.Request.TheVariants as ask

-- the stripe of the fragment that a request changes, 0 for one that changes none
abbrev pub stripe_of : Request → ℕ
stripe_of (ask.Store id bytes class) = id.stripe
stripe_of (ask.Append id place bytes) = id.stripe
stripe_of (ask.Parity id lengths bytes class) = id.stripe
stripe_of (ask.Retrieve id place len) = 0
stripe_of (ask.Delete id) = id.stripe
stripe_of (ask.Identify after) = 0
stripe_of (ask.Fence generation) = 0

-- a request changes a fragment of a stripe from the one to the other, both included
pub record IsAbout (first last : ℕ) (request : Request) : Type 0 where
  pub above : first ≤ stripe_of request
  pub below : stripe_of request ≤ last
