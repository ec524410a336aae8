-- What a rebuild puts on a server that lacks its fragments.
use Rattle.std.specs.Prelude.{ℕ, ◌+◌, ◌-◌, ◌++◌, ◌==◌, if◌then◌else◌, List, [], length, take, map, slice_index, Option, Some, None}
use Rattle.std.specs.List.{range_with_len}
use Rattle.zb_holding.specs.Fragments.{Fragment}
use Rattle.zb_holding.specs.Fragments.{share_fragment, parity_fragment}
use Rattle.zb_holding.specs.Exclusive.{xor_at, greatest}
use Rattle.zb_holding.specs.Holding.{share_bytes}
use Rattle.zb_holding.specs.Placing.{share_of, share_length}

-- a share of these bytes, and no fragment where there are none
abbrev pub share_or_none : List ℕ → Option Fragment
share_or_none bytes = if length bytes == 0 then None else Some (share_fragment bytes)

-- the lengths of the shares up to the committed end
abbrev pub end_lengths : ℕ → ℕ → ℕ → List ℕ
end_lengths n f end = map (share_length f end) (range_with_len 0 n)

-- the parity of the shares up to the committed end
abbrev pub end_parity : ℕ → ℕ → ℕ → List ℕ → Option Fragment
end_parity n f end bytes =
    Some (parity_fragment (end_lengths n f end) (map (xor_at (λ k. take (slice_index (end_lengths n f end) k) (share_of f bytes k)) n) (range_with_len 0 (greatest (end_lengths n f end)))))

-- the view of a stripe with this at one index
abbrev pub with_index : (ℕ → Option Fragment) → ℕ → Option Fragment → ℕ → Option Fragment
with_index view j o k = if j == k then o else view k

-- the lengths that a parity covers
abbrev pub lengths_in : Option Fragment → List ℕ
lengths_in None = []
lengths_in (Some (share_fragment bytes)) = []
lengths_in (Some (parity_fragment lengths bytes)) = lengths

-- what stands of share k, as far as a parity with these lengths covers it
abbrev pub cut_to : (ℕ → Option Fragment) → List ℕ → ℕ → List ℕ
cut_to stands lengths k = take (slice_index lengths k) (share_bytes (stands k))

-- the lists of all m shares but share j, by index
abbrev pub others_of : (ℕ → List ℕ) → ℕ → ℕ → List (List ℕ)
others_of lists m j = map lists (range_with_len 0 j) ++ map lists (range_with_len (j + 1) (m - (j + 1)))
