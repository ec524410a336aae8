-- What is new of the stripes of a flush.
use Rattle.std.specs.Prelude.{◌≡◌, ℕ, ◌+◌, ◌<◌, ◌≤◌, List, length, drop}
use Rattle.std.specs.List.{AllZip}
use Rattle.zb_stripe.specs.declared.flush.Part.{Part}
use Rattle.zb_stripe.specs.declared.flush.Flush.{Flush}
use Rattle.zb_stripe.specs.declared.flush.Fresh.{Fresh}
use Rattle.zb_stripe.specs.declared.flush.FreshFlush.{FreshFlush}
use Rattle.zb_stripe.specs.Writing.{parity_bytes}

-- the new bytes of a part, with the parity of all its bytes
pub record IsFresh (n f : ℕ) (part : Part) (fresh : Fresh) : Type 0 where
  pub stripe : fresh.stripe ≡ part.stripe
  pub begin : fresh.begin ≡ part.begin
  pub bytes : fresh.bytes ≡ drop part.begin part.bytes
  pub parity : fresh.parity ≡ parity_bytes n f part

-- each is what is new of its part
abbrev pub AreFresh : ℕ → ℕ → List Part → List Fresh → Type 0
AreFresh n f parts fresh = AllZip (IsFresh n f) parts fresh

-- what is new of a flush
pub record IsFreshFlush (n f : ℕ) (flush : Flush) (fresh : FreshFlush) : Type 0 where
  pub log : fresh.log ≡ flush.log
  pub parts : AreFresh n f flush.parts fresh.parts

-- there are new bytes, within a stripe with room for so many
pub record HasRoom (most : ℕ) (fresh : Fresh) : Type 0 where
  pub new : 0 < length fresh.bytes
  pub room : fresh.begin + length fresh.bytes ≤ most
