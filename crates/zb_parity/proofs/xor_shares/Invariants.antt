use Rattle.std.proofs.Common.{◌≡◌, ℕ, ◌<◌, length, slice_index, bit_xor}
use Rattle.zb_holding.specs.Exclusive.{xor_at, list_at}
use Rattle.zb_parity.proofs.xor_shares.Given as goal

abbrev pub invariant-loop-share : goal.invariant-loop-share
invariant-loop-share l = (y : ℕ) → y < length l.into → slice_index l.into y ≡ bit_xor (slice_index l.fn.into y) (xor_at (list_at l.shares) l.share-index y)
