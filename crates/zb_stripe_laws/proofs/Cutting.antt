-- Shares of a stripe's first bytes.
use Rattle.std.proofs.Common.{◌≡◌, ℕ, ◌≤◌, List, length, take, get_or, Option, Some, None, ap, ◌∙◌, arith}
use Rattle.std.proofs.lemmas.List.{length-take, take-take}
use Rattle.zb_holding.specs.Fragments.{Fragment}
use Rattle.zb_holding.specs.Fragments.{share_fragment, parity_fragment}
use Rattle.zb_holding.proofs.Shares.{share_of-take}
use Rattle.zb_holding.specs.Placing.{share_length, share_of}
use Rattle.zb_holding.specs.Holding.{Begins, covered}

-- what begins a beginning begins the whole
pub begins_longer : (stands : Option Fragment) (bytes : List ℕ) (s : ℕ) → Begins stands (take s bytes) → Begins stands bytes
begins_longer None bytes s b = tt
begins_longer (Some (share_fragment old)) bytes s b =
    let len = ap length b.1 in
    let a = length-take (length old) (take s bytes) in
    let c = length-take s bytes in
    (b.0, b.1 ∙ take-take (length old) s bytes (omega arith))
begins_longer (Some (parity_fragment lengths parity)) bytes s b = b

-- what a parity covers of a share's beginning it covers of the share
pub covered-take : (f : ℕ) (bytes lengths : List ℕ) (b k : ℕ) → get_or lengths k 0 ≤ length (share_of f (take b bytes) k) → covered f (take b bytes) lengths k ≡ covered f bytes lengths k
covered-take f bytes lengths b k le =
    let e = share_of-take f bytes b k in
    let a = ap length e in
    let c = length-take (share_length f b k) (share_of f bytes k) in
    ap (take (get_or lengths k 0)) e ∙ take-take (get_or lengths k 0) (share_length f b k) (share_of f bytes k) (omega arith)
