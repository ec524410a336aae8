-- The bytes that the servers give of a stripe.
use Rattle.std.specs.Prelude.{ℕ, ◌-◌, ◌/◌, ◌%◌, Bool, ◌==◌, if◌then◌else◌, List, [], slice_index, bit_xor, Option, Some, None}
use Rattle.zb_types.specs.declared.ids.LogId.{LogId}
use Rattle.zb_types.specs.Bytes.{first_bytes}
use Rattle.zb_holding.specs.Fragments.{Fragment, share_fragment, parity_fragment}
use Rattle.zb_holding.specs.Exclusive.{xor_at}
use Rattle.zb_holding.specs.Holding.{View, standing, away_at, share_bytes}
use Rattle.zb_stripe_laws.specs.Restoring.{cut_to, lengths_in}

-- the bytes of a parity, none where there is no parity
abbrev pub parity_bytes : Option Fragment → List ℕ
parity_bytes None = []
parity_bytes (Some (share_fragment bytes)) = []
parity_bytes (Some (parity_fragment lengths bytes)) = bytes

-- of the shares of a stripe all but one, as far as its parity covers them
abbrev pub others_covered : (stands : ℕ → Option Fragment) → (parity k : ℕ) → ℕ → List ℕ
others_covered stands parity k j = if j == k then [] else cut_to stands (lengths_in (stands parity)) j

-- byte y of share k, as the parity and the other shares give it
abbrev pub restored_byte : (stands : ℕ → Option Fragment) → (parity k y : ℕ) → ℕ
restored_byte stands parity k y = bit_xor (slice_index (parity_bytes (stands parity)) y) (xor_at (others_covered stands parity k) parity y)

-- byte y of share k, from its own server, or by the parity where that doesn't serve
abbrev pub given_byte : (stands : ℕ → Option Fragment) → (away : ℕ → Bool) → (parity k y : ℕ) → ℕ
given_byte stands away parity k y = if away k then restored_byte stands parity k y else slice_index (share_bytes (stands k)) y

-- the first `end` bytes of a stripe, as the servers in view give them
abbrev pub given_bytes : View → LogId → (stripe end : ℕ) → List ℕ
given_bytes v log stripe end =
    first_bytes end (λ i. given_byte (standing v.servers v.maps log stripe) (away_at v.servers v.away log stripe) (v.servers - 1) (i / v.fragment) (i % v.fragment))
