-- A stripe that is held to its last byte.
use Rattle.std.proofs.Common.{◌≡◌, ℕ, ◌≤◌, List, length, Option, Some, None, ap, ◌∙◌, arith}
use Rattle.std.proofs.lemmas.List.{length-take}
use Rattle.zb_types.specs.declared.ids.LogId.{LogId}
use Rattle.zb_holding.specs.Fragments.{Fragment, share_fragment, parity_fragment}
use Rattle.zb_holding.specs.Placing.{share_length, share_of}
use Rattle.zb_holding.specs.Holding.{View, share_bytes, Begins, StripeHolds, standing}
use Rattle.zb_holding.proofs.Shares.{length-share_of}
use Rattle.zb_stripe_laws.specs.PartAtWork.{HasBytes, StandsUpTo}

-- a share that begins as it should and reaches its end has just its bytes
has_bytes : (o : Option Fragment) (bytes : List ℕ) (n : ℕ) → Begins o bytes → n ≤ length (share_bytes o) → length bytes ≡ n → HasBytes o n
has_bytes None bytes n b le long = omega (arith, le)
has_bytes (Some (share_fragment stands)) bytes n b le long =
    let short = ap length b.1 ∙ length-take (length stands) bytes in
    let some = b.0 in
    (omega arith, omega arith)
has_bytes (Some (parity_fragment lengths parity)) bytes n b le long = absurd b

-- it stands up to there
pub stands_whole : (v : View) (log : LogId) (stripe : ℕ) (bytes : List ℕ) → StripeHolds v log stripe (length bytes) bytes → StandsUpTo v log stripe (length bytes)
stands_whole v log stripe bytes h k below looked =
    let s = h.shares k below looked in
    has_bytes (standing v.servers v.maps log stripe k) (share_of v.fragment bytes k) (share_length v.fragment (length bytes) k) s.begins s.reaches (length-share_of v.fragment bytes k)
