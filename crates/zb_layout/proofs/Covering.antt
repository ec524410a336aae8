-- The ranges of a pointer give its bytes in order.
use Rattle.std.proofs.Common.{◌≡◌, ◌≢◌, ℕ, zero, suc, ◌+◌, ◌-◌, ◌*◌, ◌/◌, ◌%◌, ◌<◌, ◌≤◌, min, ◌⊎◌, List, ◌++◌, length, map, take, drop, get_or, refl, sym, ap, ◌∙◌, subst, inl, inr, arith}
use Rattle.std.specs.List.{range_with_len, flat_map}
use Rattle.std.proofs.lemmas.Nat.{div-add-mod', mod_below, mul-le}
use Rattle.std.proofs.lemmas.Bool.{cases_lt}
use Rattle.std.proofs.lemmas.List.{append-nil}
use Rattle.std.proofs.lemmas.List.FromFn.{get_or-map-range_with_len}
use Rattle.zb_holding.proofs.Shares.{share_range, range_join}
use Rattle.zb_layout.specs.declared.span_list.Span.{Span}
use Rattle.zb_layout.specs.Ranges.{from_in, to_in, span_of, span_count, spans_of, bytes_in, Covers, LiesWithin}
use Rattle.zb_layout.proofs.Reaching.{count_some, length-spans_of, counted, span_begins, span_reaches, index_below}

-- a range, and what lies right behind it or is empty
join_or_end : (xs : List ℕ) (o a b p c : ℕ) → (p ≡ o + a) ⊎ (b ≡ 0) → a + b ≡ c → take a (drop o xs) ++ take b (drop p xs) ≡ take c (drop o xs)
join_or_end xs o a b p c (inl behind) sum = ap (λ (m : ℕ). take a (drop o xs) ++ take b (drop m xs)) behind ∙ range_join xs o a b ∙ ap (λ (m : ℕ). take m (drop o xs)) sum
join_or_end xs o a b p c (inr none) sum =
    let whole : a ≡ c = omega arith in
    ap (λ (m : ℕ). take a (drop o xs) ++ take m (drop p xs)) none ∙ append-nil (take a (drop o xs)) ∙ ap (λ (m : ℕ). take m (drop o xs)) whole

module _ (f offset n : ℕ) (bytes : List ℕ) where
  -- the bytes in the range of share k, which the pointer's bytes reach
  bytes_of_span : (k : ℕ) → offset ≤ k * f + f → k * f ≤ offset + n
      → bytes_in f bytes (span_of f offset n k) ≡ take (to_in f offset n k - from_in f offset k) (drop (from_in f offset k) bytes)
  bytes_of_span k low high =
      let at : k * f + (from_in f offset k - k * f) ≡ from_in f offset k = omega arith in
      share_range f bytes k (from_in f offset k - k * f) (to_in f offset n k - from_in f offset k) (omega arith)
      ∙ ap (λ (m : ℕ). take (to_in f offset n k - from_in f offset k) (drop m bytes)) at

  -- the ranges of count shares from share k on
  bytes_from : (count k : ℕ) → offset ≤ k * f + f → (k + count) * f ≤ offset + n + f
      → flat_map (bytes_in f bytes) (map (span_of f offset n) (range_with_len k count)) ≡ take (min (offset + n) ((k + count) * f) - from_in f offset k) (drop (from_in f offset k) bytes)
  bytes_from zero k low high =
      let none : min (offset + n) ((k + 0) * f) - from_in f offset k ≡ 0 = omega arith in
      ap (λ (m : ℕ). take m (drop (from_in f offset k) bytes)) (sym none)
  bytes_from (suc count) k low high =
      let begins : k * f ≤ offset + n = omega (arith, mul-le 0 f count f (omega arith) (omega arith)) in
      let next = bytes_from count (k + 1) (omega arith) (omega arith) in
      let split : (from_in f offset (k + 1) ≡ from_in f offset k + (to_in f offset n k - from_in f offset k)) ⊎ (min (offset + n) ((k + 1 + count) * f) - from_in f offset (k + 1) ≡ 0) =
      elim (cases_lt (offset + n) (k * f + f)) [ inl ends ↦ inr (omega arith) | inr goes_on ↦ inl (omega arith) ] in
      ap (λ (z : List ℕ). z ++ flat_map (bytes_in f bytes) (map (span_of f offset n) (range_with_len (k + 1) count))) (bytes_of_span k low begins)
      ∙ ap (λ (z : List ℕ). take (to_in f offset n k - from_in f offset k) (drop (from_in f offset k) bytes) ++ z) next
      ∙ join_or_end bytes (from_in f offset k) (to_in f offset n k - from_in f offset k) (min (offset + n) ((k + 1 + count) * f) - from_in f offset (k + 1)) (from_in f offset (k + 1)) (min (offset + n) ((k + suc count) * f) - from_in f offset k) split (omega arith)

-- the ranges of some bytes reach just their end
reach_end : (f offset n : ℕ) → 0 < f → n ≢ 0 → (offset + n ≤ (offset / f + span_count f offset n) * f) × ((offset / f + span_count f offset n) * f ≤ offset + n + f)
reach_end f offset n pos some =
    let first = div-add-mod' offset f in
    let last = div-add-mod' (offset % f + n - 1) f in
    let rest = mod_below (offset % f + n - 1) f pos in
    let count = ap (λ (m : ℕ). (offset / f + m) * f) (count_some f offset n some) in
    (omega arith, omega arith)

-- the ranges of a pointer
pub covers : (f offset n : ℕ) → 0 < f → Covers f offset n (spans_of f offset n)
covers f offset zero pos bytes = refl
covers f offset (suc m) pos bytes =
    let n = suc m in
    let ends = reach_end f offset n pos (λ e. omega arith) in
    let first = div-add-mod' offset f in
    let rest = mod_below offset f pos in
    let from : from_in f offset (offset / f) ≡ offset = omega arith in
    let len : min (offset + n) ((offset / f + span_count f offset n) * f) - from_in f offset (offset / f) ≡ n = omega arith in
    bytes_from f offset n bytes (span_count f offset n) (offset / f) (omega arith) ends.1
    ∙ ap (λ (k : ℕ). take k (drop (from_in f offset (offset / f)) bytes)) len
    ∙ ap (λ (p : ℕ). take n (drop p bytes)) from

pub lies_within : (servers f offset n k : ℕ) (d : Span) → 0 < f → offset + n ≤ (servers - 1) * f → k < length (spans_of f offset n) → LiesWithin servers f (get_or (spans_of f offset n) k d)
lies_within servers f offset n k d pos room l =
    let l2 : k < span_count f offset n = omega (arith, length-spans_of f offset n) in
    let c = counted f offset n k l2 in
    let begins = span_begins f offset n k c.0 c.1 in
    let reaches = span_reaches f offset k pos in
    let here : LiesWithin servers f (span_of f offset n (offset / f + k)) = record {
      some = omega arith;
      room = omega arith;
      is_share = index_below (offset / f + k) f (servers - 1) (omega arith);
    } in
    subst (LiesWithin servers f) (sym (get_or-map-range_with_len (span_of f offset n) (offset / f) (span_count f offset n) k (offset / f + k) d l2 (omega arith))) here
