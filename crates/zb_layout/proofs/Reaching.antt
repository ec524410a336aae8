-- The ranges of a pointer, and turns.
use Rattle.std.proofs.Common.{◌≡◌, ◌≢◌, ℕ, ◌+◌, ◌-◌, ◌*◌, ◌/◌, ◌%◌, ◌<◌, ◌≤◌, length, ap, ◌∙◌, cond, Some, slice_get, subst, inl, inr, arith}
use Rattle.std.proofs.Math.Nat.{mod-add-mod}
use Rattle.std.proofs.lemmas.Nat.{div-add-mod', mul-le}
use Rattle.std.proofs.lemmas.Bool.{ne_eqb, cases_lt}
use Rattle.std.proofs.lemmas.List.FromFn.{length-map-range_with_len, get_or-map-range_with_len}
use Rattle.std.proofs.lemmas.Option.{slice_get-get_or}
use Rattle.zb_types.specs.declared.ids.ServerId.{ServerId}
use Rattle.zb_layout.specs.Ranges.{span_of, span_count, spans_of}

-- a sum modulo n, of rests
pub rests : (a b k n : ℕ) → (a % n + b % n + k) % n ≡ (a + b + k) % n
rests a b k n =
    ap (λ z. z % n) (omega arith) ∙ mod-add-mod a n (b % n + k)
    ∙ ap (λ z. z % n) (omega arith) ∙ mod-add-mod b n (a + k)
    ∙ ap (λ z. z % n) (omega arith)

abbrev pub numbered : ℕ → ServerId
numbered z = record { 0 = z + 1 }

pub count_some : (f offset n : ℕ) → n ≢ 0 → span_count f offset n ≡ (offset % f + n - 1) / f + 1
count_some f offset n h = ap (λ b. cond b 0 ((offset % f + n - 1) / f + 1)) (ne_eqb n 0 h)

pub length-spans_of : (f offset n : ℕ) → length (spans_of f offset n) ≡ span_count f offset n
length-spans_of f offset n = length-map-range_with_len (span_of f offset n) (offset / f) (span_count f offset n)

-- each share that is counted has a byte
pub span_begins : (f offset n i : ℕ) → n ≢ 0 → i < (offset % f + n - 1) / f + 1 → (offset / f + i) * f < offset + n
span_begins f offset n i h l =
    omega (arith, div-add-mod' offset f, div-add-mod' (offset % f + n - 1) f, mul-le i f ((offset % f + n - 1) / f) f (omega arith) (omega arith))

-- and the offset doesn't lie behind it
pub span_reaches : (f offset i : ℕ) → 0 < f → offset < (offset / f + i) * f + f
span_reaches f offset i pos = omega (arith, div-add-mod' offset f, mul-le 0 f i f (omega arith) (omega arith))

-- fewer bytes lie in fewer shares
pub index_below : (k f m : ℕ) → k * f < m * f → k < m
index_below k f m l = elim (cases_lt k m) [ inl below ↦ below | inr above ↦ absurd (omega (arith, mul-le m f k f above (omega arith))) ]

pub at_span : (f offset n i : ℕ) → i < span_count f offset n → slice_get (spans_of f offset n) i ≡ Some (span_of f offset n (offset / f + i))
at_span f offset n i l =
    slice_get-get_or (spans_of f offset n) i (span_of f offset n 0) (omega (arith, length-spans_of f offset n))
    ∙ ap Some (get_or-map-range_with_len (span_of f offset n) (offset / f) (span_count f offset n) i (offset / f + i) (span_of f offset n 0) l (omega arith))

pub counted : (f offset n i : ℕ) → i < span_count f offset n → (n ≢ 0) × (i < (offset % f + n - 1) / f + 1)
counted f offset n i l =
    let some : n ≢ 0 = λ e. absurd (omega (arith, subst (λ m. i < span_count f offset m) e l)) in
    (some, subst (λ m. i < m) (count_some f offset n some) l)

-- what is known of a range that is counted
pub record Reaches (f offset n i : ℕ) : Type 0 where
  pub begins : (offset / f + i) * f < offset + n
  pub reaches : offset < (offset / f + i) * f + f
  pub index : offset / f + i < 15
  pub at : slice_get (spans_of f offset n) i ≡ Some (span_of f offset n (offset / f + i))

pub reaches_at : (f offset n i : ℕ) → 256 ≤ f → offset + n ≤ 15 * f → i < length (spans_of f offset n) → Reaches f offset n i
reaches_at f offset n i big room l =
    let l2 : i < span_count f offset n = omega (arith, length-spans_of f offset n) in
    let c = counted f offset n i l2 in
    let b = span_begins f offset n i c.0 c.1 in
    record {
      begins = b;
      reaches = span_reaches f offset i (omega arith);
      index = index_below (offset / f + i) f 15 (omega arith);
      at = at_span f offset n i l2;
    }
