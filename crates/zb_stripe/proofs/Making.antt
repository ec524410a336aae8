-- The bytes of requests.
use Rattle.std.proofs.Common.{◌≡◌, ℕ, zero, suc, ◌+◌, ◌-◌, ◌*◌, ◌<◌, ◌≤◌, true, false, cond, eqb, List, [], ◌∷◌, ◌++◌, length, take, drop, map, get_or, bit_xor, Option, refl, sym, ap, subst, ◌∙◌, inl, inr, arith}
use Rattle.std.specs.Prelude.{replicate}
use Rattle.std.specs.List.{flat_map, range_with_len}
use Rattle.std.specs.Int.Bits.{xor_zero_l, xor_zero_r, xor_assoc}
use Rattle.std.proofs.lemmas.Bool.{ne_eqb, eq-eqb, cond_both, cases_lt}
use Rattle.std.proofs.lemmas.Nat.{xor_comm}
use Rattle.std.proofs.lemmas.List.{nil_from_length, length-append, length-drop, length-replicate, length-take-le, get_or-replicate, get_or_past, get_or-take, get_or-drop, take_min, take_at, drop_at, drop-take, drop-drop, take-append-drop, ext_get_or, flat_map_more, take_more}
use Rattle.std.proofs.lemmas.List.FromFn.{length-map-range_with_len, get_or-map-range_with_len}
use Rattle.zb_types.specs.declared.ids.LogId.{LogId}
use Rattle.zb_types.specs.declared.ids.ServerId.{ServerId}
use Rattle.zb_types.specs.declared.nodes.Class.{Class}
use Rattle.zb_types.specs.declared.requests.Request.{Request}
use Rattle.zb_types.specs.declared.requests.Request.TheVariants as ask
use Rattle.zb_holding.specs.Exclusive.{xored, xor_at, greatest}
use Rattle.zb_holding.specs.Placing.{share_length, share_of, frag_id, server_of}
use Rattle.zb_holding.specs.Holding.{is_away}
use Rattle.zb_holding.proofs.Exclusives.{xor_more, xor_past, xor_cancel_left, le_greatest, greatest_le, get_or-xored_shorter}
use Rattle.zb_holding.proofs.Shares.{length-share_of, share_of-take}
use Rattle.zb_stripe.specs.declared.flush.Part.{Part}
use Rattle.zb_stripe.specs.declared.flush.Fresh.{Fresh}
use Rattle.zb_stripe.specs.Writing.{grow, unless_out, new_bytes, share_request, lengths_of, parity_upto, parity_bytes, parity_request}
use Rattle.zb_stripe.specs.Fresh.{IsFresh, AreFresh}

-- the new bytes of a share as a slice of all bytes
new_slice : (f : ℕ) (bytes : List ℕ) (begin k : ℕ) → take (k * f + share_length f (length bytes) k - (k * f + share_length f begin k)) (drop (k * f + share_length f begin k) bytes) ≡ drop (share_length f begin k) (share_of f bytes k)
new_slice f bytes begin k =
    let had = share_length f begin k in
    let rest = drop (k * f + had) bytes in
    let len = length-drop (k * f + had) bytes in
    ap (λ m. take m rest) (omega arith)
    ∙ take_min (f - had) rest
    ∙ sym (ap (λ m. drop had (take m (drop (k * f) bytes))) (omega arith)
    ∙ drop-take had (f - had) (drop (k * f) bytes)
    ∙ ap (take (f - had)) (drop-drop had (k * f) bytes))

-- the new bytes behind those before
module _ (f : ℕ) (before new : List ℕ) (begin k : ℕ) (long : length before ≡ begin) where
  abbrev bytes : List ℕ
  bytes = before ++ new

  abbrev had : ℕ
  had = share_length f begin k

  both : length bytes ≡ begin + length new
  both = omega (arith, length-append before new)

  -- none are new where the share had as many
  pub none_new : share_length f (begin + length new) k ≤ had → [] ≡ drop had (share_of f bytes k)
  none_new le = sym (nil_from_length (drop had (share_of f bytes k)) (omega (arith, both, length-drop had (share_of f bytes k), length-share_of f bytes k)))

  -- and else a slice of the new ones
  pub some_new : (all from : ℕ) → all ≡ share_length f (begin + length new) k → had < all → from ≡ k * f + had - begin
      → take (from + (all - had) - from) (drop from new) ≡ drop had (share_of f bytes k)
  some_new all from is lt at =
      let start : begin + from ≡ k * f + had = omega arith in
      let many : from + (all - had) - from ≡ k * f + share_length f (length bytes) k - (k * f + had) = omega (arith, both) in
      ap (λ (m : ℕ). take m (drop from new)) many
      ∙ ap (λ (z : List ℕ). take (k * f + share_length f (length bytes) k - (k * f + had)) (drop from z)) (sym (drop_at before new begin long))
      ∙ ap (take (k * f + share_length f (length bytes) k - (k * f + had))) (drop-drop from begin bytes ∙ ap (λ (m : ℕ). drop m bytes) start)
      ∙ new_slice f bytes begin k

  pub new_range : (all : ℕ) → all ≡ share_length f (begin + length new) k → had < all → (begin ≤ k * f + had) × (k * f + had - begin + (all - had) ≤ length new)
  new_range all is lt = (omega arith, omega arith)

  share_before : share_of f before k ≡ take had (share_of f bytes k)
  share_before = ap (λ (z : List ℕ). share_of f z k) (sym (take_at before new begin long)) ∙ share_of-take f bytes begin k

  -- a byte of a share and the one that it had
  share_at : (into now : List ℕ) (y : ℕ) → ((y : ℕ) → y < had → get_or now y 0 ≡ get_or into y 0)
      → ((y : ℕ) → get_or now (had + y) 0 ≡ bit_xor (get_or into (had + y) 0) (get_or (drop had (share_of f bytes k)) y 0))
      → bit_xor (get_or now y 0) (get_or (share_of f before k) y 0) ≡ bit_xor (get_or into y 0) (get_or (share_of f bytes k) y 0)
  share_at into now y front behind =
      elim (cases_lt y had) as (λ _. bit_xor (get_or now y 0) (get_or (share_of f before k) y 0) ≡ bit_xor (get_or into y 0) (get_or (share_of f bytes k) y 0)) [
        | inl below ↦
            ap (λ (z : ℕ). bit_xor z (get_or (share_of f before k) y 0)) (front y below)
            ∙ ap (λ (z : List ℕ). bit_xor (get_or into y 0) (get_or z y 0)) share_before
            ∙ ap (bit_xor (get_or into y 0)) (get_or-take had (share_of f bytes k) y 0 below)
        | inr past ↦
            let split : had + (y - had) ≡ y = omega (arith, past) in
            let there = behind (y - had) in
            let none : get_or (share_of f before k) y 0 ≡ 0 = get_or_past (share_of f before k) y 0 (omega (arith, past, length-share_of f before k)) in
            let new : get_or (drop had (share_of f bytes k)) (y - had) 0 ≡ get_or (share_of f bytes k) y 0 =
            get_or-drop had (share_of f bytes k) (y - had) 0 ∙ ap (λ (m : ℕ). get_or (share_of f bytes k) m 0) split in
            ap (bit_xor (get_or now y 0)) none ∙ xor_zero_r (get_or now y 0)
            ∙ ap (λ (m : ℕ). get_or now m 0) (sym split) ∙ there
            ∙ ap (λ (m : ℕ). bit_xor (get_or into m 0) (get_or (drop had (share_of f bytes k)) (y - had) 0)) split
            ∙ ap (bit_xor (get_or into y 0)) new
      ]

-- numbers put together in another order
swapped : (a b c : ℕ) → bit_xor a (bit_xor b c) ≡ bit_xor (bit_xor a c) b
swapped a b c = ap (bit_xor a) (xor_comm b c) ∙ sym (xor_assoc a c b)

-- one share more
pub share_put : (f : ℕ) (before new : List ℕ) (begin k next : ℕ) (old into now : List ℕ) (y : ℕ) → length before ≡ begin → next ≡ k + 1
    → ((y : ℕ) → y < share_length f begin k → get_or now y 0 ≡ get_or into y 0)
    → ((y : ℕ) → get_or now (share_length f begin k + y) 0 ≡ bit_xor (get_or into (share_length f begin k + y) 0) (get_or (drop (share_length f begin k) (share_of f (before ++ new) k)) y 0))
    → bit_xor (get_or into y 0) (xor_at (share_of f before) k y) ≡ bit_xor (get_or old y 0) (xor_at (share_of f (before ++ new)) k y)
    → bit_xor (get_or now y 0) (xor_at (share_of f before) next y) ≡ bit_xor (get_or old y 0) (xor_at (share_of f (before ++ new)) next y)
share_put f before new begin k next old into now y long is front behind was =
    let bytes = before ++ new in
    let a = get_or (share_of f before k) y 0 in
    let b = get_or (share_of f bytes k) y 0 in
    let A = xor_at (share_of f before) k y in
    let B = xor_at (share_of f bytes) k y in
    ap (λ (m : ℕ). bit_xor (get_or now y 0) (xor_at (share_of f before) m y)) is
    ∙ ap (bit_xor (get_or now y 0)) (xor_more (share_of f before) k y)
    ∙ swapped (get_or now y 0) A a
    ∙ ap (λ (z : ℕ). bit_xor z A) (share_at f before new begin k long into now y front behind)
    ∙ sym (swapped (get_or into y 0) A b)
    ∙ sym (xor_assoc (get_or into y 0) A b)
    ∙ ap (λ (z : ℕ). bit_xor z b) was
    ∙ xor_assoc (get_or old y 0) B b
    ∙ ap (bit_xor (get_or old y 0)) (sym (xor_more (share_of f bytes) k y))
    ∙ ap (λ (m : ℕ). bit_xor (get_or old y 0) (xor_at (share_of f bytes) m y)) (sym is)

-- ---- parities

pub greatest_length : (n f m : ℕ) → 2 ≤ n → greatest (map (share_length f m) (range_with_len 0 (n - 1))) ≡ share_length f m 0
greatest_length n f m two =
    let at = λ (k : ℕ) (l : k < n - 1). get_or-map-range_with_len (share_length f m) 0 (n - 1) k k 0 l (omega arith) in
    let len = length-map-range_with_len (share_length f m) 0 (n - 1) in
    let lengths = map (share_length f m) (range_with_len 0 (n - 1)) in
    omega (arith, at 0 (omega arith), le_greatest lengths 0, greatest_le lengths (share_length f m 0) (λ k l. omega (arith, at k (omega arith))))

pub length-parity : (n f : ℕ) (bytes : List ℕ) → 2 ≤ n → length (parity_upto n f bytes) ≡ share_length f (length bytes) 0
length-parity n f bytes two =
    length-map-range_with_len (xor_at (share_of f bytes) (n - 1)) 0 (greatest (map (share_length f (length bytes)) (range_with_len 0 (n - 1)))) ∙ greatest_length n f (length bytes) two

-- the parity of no bytes
pub parity_none : (n f : ℕ) → 2 ≤ n → [] ≡ parity_upto n f []
parity_none n f two = sym (nil_from_length (parity_upto n f []) (omega (arith, length-parity n f [] two)))

-- a parity has each byte of the exclusive or of the shares
pub parity_at : (n f : ℕ) (bytes : List ℕ) (y : ℕ) → 2 ≤ n → get_or (parity_upto n f bytes) y 0 ≡ xor_at (share_of f bytes) (n - 1) y
parity_at n f bytes y two =
    let top = greatest (map (share_length f (length bytes)) (range_with_len 0 (n - 1))) in
    let long = length-parity n f bytes two in
    let g = greatest_length n f (length bytes) two in
    elim (cases_lt y top) as (λ _. get_or (parity_upto n f bytes) y 0 ≡ xor_at (share_of f bytes) (n - 1) y) [
      | inl below ↦ get_or-map-range_with_len (xor_at (share_of f bytes) (n - 1)) 0 top y y 0 below (omega arith)
      | inr past ↦ get_or_past (parity_upto n f bytes) y 0 (omega (arith, past)) ∙ sym (xor_past (share_of f bytes) (n - 1) y (λ k l. omega (arith, past, length-share_of f bytes k)))
    ]

-- and is what has them, as long as the longest
parity_is : (n f : ℕ) (bytes parity : List ℕ) → 2 ≤ n → length parity ≡ share_length f (length bytes) 0 → ((y : ℕ) → get_or parity y 0 ≡ xor_at (share_of f bytes) (n - 1) y) → parity ≡ parity_upto n f bytes
parity_is n f bytes parity two len at =
    ext_get_or 0 parity (parity_upto n f bytes) (omega (arith, length-parity n f bytes two)) (λ y l. at y ∙ sym (parity_at n f bytes y two))

zero_at : (n y : ℕ) → get_or (replicate {A = ℕ} n 0) y 0 ≡ 0
zero_at n y = elim (cases_lt y n) as (λ _. get_or (replicate {A = ℕ} n 0) y 0 ≡ 0) [ inl here ↦ get_or-replicate n y 0 0 here | inr past ↦ get_or_past (replicate {A = ℕ} n 0) y 0 (omega (arith, length-replicate {A = ℕ} n 0)) ]

-- the parity of more bytes
pub grown_is : (n f : ℕ) (before new parity into grown : List ℕ) (begin : ℕ) → 2 ≤ n → length before ≡ begin → parity ≡ parity_upto n f before
    → into ≡ xored (replicate (share_length f (begin + length new) 0) 0) parity
    → length grown ≡ share_length f (begin + length new) 0
    → ((y : ℕ) → bit_xor (get_or grown y 0) (xor_at (share_of f before) (n - 1) y) ≡ bit_xor (get_or into y 0) (xor_at (share_of f (before ++ new)) (n - 1) y))
    → grown ≡ parity_upto n f (before ++ new)
grown_is n f before new parity into grown begin two long is made len put =
    let top = share_length f (begin + length new) 0 in
    let both = length-append before new in
    let fits : length parity ≤ length (replicate {A = ℕ} top 0) = omega (arith, ap length is, length-parity n f before two, length-replicate {A = ℕ} top 0) in
    parity_is n f (before ++ new) grown two (omega arith) (λ y.
    let A = xor_at (share_of f before) (n - 1) y in
    let start : get_or into y 0 ≡ A =
    ap (λ (z : List ℕ). get_or z y 0) made ∙ get_or-xored_shorter (replicate top 0) parity y fits
    ∙ ap (λ (z : ℕ). bit_xor z (get_or parity y 0)) (zero_at top y) ∙ xor_zero_l (get_or parity y 0)
    ∙ ap (λ (z : List ℕ). get_or z y 0) is ∙ parity_at n f before y two in
    xor_cancel_left A (get_or grown y 0) (xor_at (share_of f (before ++ new)) (n - 1) y)
    (xor_comm A (get_or grown y 0) ∙ put y ∙ ap (λ (z : ℕ). bit_xor z (xor_at (share_of f (before ++ new)) (n - 1) y)) start))

-- ---- the requests of what is new of a part

module _ (n f : ℕ) (out : Option ServerId) (class : Class) (log : LogId) (part : Part) (fresh : Fresh) (is : IsFresh n f part fresh) (some : 0 < length fresh.bytes) where
  pub part_long : length part.bytes ≡ fresh.begin + length fresh.bytes
  part_long = omega (arith, ap length is.bytes, is.begin, length-drop part.begin part.bytes)

  abbrev pub before : List ℕ
  before = take part.begin part.bytes

  pub before_long : length before ≡ fresh.begin
  before_long = length-take-le part.begin part.bytes (omega (arith, part_long, is.begin)) ∙ sym is.begin

  pub before_new : before ++ fresh.bytes ≡ part.bytes
  before_new = ap (λ (z : List ℕ). before ++ z) is.bytes ∙ take-append-drop part.begin part.bytes

  -- the new bytes of a share
  share_new : (k : ℕ) (new : List ℕ) → ((before : List ℕ) → length before ≡ fresh.begin → new ≡ drop (share_length f fresh.begin k) (share_of f (before ++ fresh.bytes) k)) → new ≡ new_bytes f part k
  share_new k new each =
      each before before_long
      ∙ ap (λ (z : List ℕ). drop (share_length f fresh.begin k) (share_of f z k)) before_new
      ∙ ap (λ (m : ℕ). drop (share_length f m k) (share_of f part.bytes k)) is.begin

  pub no_share : (k : ℕ) (new : List ℕ) → ((before : List ℕ) → length before ≡ fresh.begin → new ≡ drop (share_length f fresh.begin k) (share_of f (before ++ fresh.bytes) k)) → length new ≡ 0
      → share_request n f out class log part k ≡ []
  no_share k new each none =
      ap (λ b. cond b [] (unless_out n out (frag_id log part.stripe k) (grow (frag_id log part.stripe k) class (share_length f part.begin k) (new_bytes f part k))))
      (eq-eqb (length (new_bytes f part k)) 0 (ap length (sym (share_new k new each)) ∙ none))

  pub gone_share : (k : ℕ) (server : ServerId) → server ≡ server_of n (frag_id log fresh.stripe k) → is_away out server ≡ true → share_request n f out class log part k ≡ []
  gone_share k server at gone =
      let id = frag_id log part.stripe k in
      let request = grow id class (share_length f part.begin k) (new_bytes f part k) in
      let there = ap (is_away out) (sym (at ∙ ap (λ (s : ℕ). server_of n (frag_id log s k)) is.stripe)) ∙ gone in
      cond_both (eqb (length (new_bytes f part k)) 0) [] (unless_out n out id request) (λ rs. rs ≡ []) (λ e. refl) (λ e. ap (λ b. cond b [] ((server_of n id, request) ∷ [])) there)

  -- the request that is made for a share
  pub made_share : (k : ℕ) (server : ServerId) (request : Request) (had : ℕ) (new : List ℕ)
      → server ≡ server_of n (frag_id log fresh.stripe k) → had ≡ share_length f fresh.begin k
      → ((before : List ℕ) → length before ≡ fresh.begin → new ≡ drop (share_length f fresh.begin k) (share_of f (before ++ fresh.bytes) k))
      → 0 < length new → request ≡ grow (frag_id log fresh.stripe k) class had new → is_away out server ≡ false → (server, request) ∷ [] ≡ share_request n f out class log part k
  made_share k server request had new s h each many r here =
      let id = frag_id log part.stripe k in
      let full = new_bytes f part k in
      let e = share_new k new each in
      let at : server ≡ server_of n id = s ∙ ap (λ (z : ℕ). server_of n (frag_id log z k)) is.stripe in
      let req : request ≡ grow id class (share_length f part.begin k) full =
      r ∙ ap (λ (z : ℕ). grow (frag_id log z k) class had new) is.stripe
      ∙ ap (λ (m : ℕ). grow id class m new) (h ∙ ap (λ (m : ℕ). share_length f m k) is.begin)
      ∙ ap (grow id class (share_length f part.begin k)) e in
      ap (λ (z : Request). (server, z) ∷ []) req ∙ ap (λ (z : ServerId). (z, grow id class (share_length f part.begin k) full) ∷ []) at
      ∙ sym (ap (λ b. cond b [] (unless_out n out id (grow id class (share_length f part.begin k) full))) (ne_eqb (length full) 0 (λ z. omega (arith, ap length e)))
      ∙ ap (λ b. cond b [] ((server_of n id, grow id class (share_length f part.begin k) full) ∷ [])) (ap (is_away out) (sym at) ∙ here))

  pub gone_parity : (server : ServerId) → server ≡ server_of n (frag_id log fresh.stripe (n - 1)) → is_away out server ≡ true → parity_request n f out class log part ≡ []
  gone_parity server at gone =
      let there = ap (is_away out) (sym (at ∙ ap (λ (s : ℕ). server_of n (frag_id log s (n - 1))) is.stripe)) ∙ gone in
      ap (λ b. cond b [] ((server_of n (frag_id log part.stripe (n - 1)), ask.Parity (frag_id log part.stripe (n - 1)) (lengths_of n f part) (parity_bytes n f part) class) ∷ [])) there

  -- and for the parity
  pub made_parity : (server : ServerId) (lengths : List ℕ) → server ≡ server_of n (frag_id log fresh.stripe (n - 1))
      → lengths ≡ map (share_length f (fresh.begin + length fresh.bytes)) (range_with_len 0 (n - 1))
      → is_away out server ≡ false → (server, ask.Parity (frag_id log fresh.stripe (n - 1)) lengths fresh.parity class) ∷ [] ≡ parity_request n f out class log part
  made_parity server lengths s l here =
      let id = frag_id log part.stripe (n - 1) in
      let at : server ≡ server_of n id = s ∙ ap (λ (z : ℕ). server_of n (frag_id log z (n - 1))) is.stripe in
      let all : lengths ≡ lengths_of n f part = l ∙ ap (λ (m : ℕ). map (share_length f m) (range_with_len 0 (n - 1))) (sym part_long) in
      ap (λ (z : ServerId). (z, ask.Parity (frag_id log fresh.stripe (n - 1)) lengths fresh.parity class) ∷ []) at
      ∙ ap (λ (z : ℕ). (server_of n id, ask.Parity (frag_id log z (n - 1)) lengths fresh.parity class) ∷ []) is.stripe
      ∙ ap (λ (z : List ℕ). (server_of n id, ask.Parity id z fresh.parity class) ∷ []) all
      ∙ ap (λ (z : List ℕ). (server_of n id, ask.Parity id (lengths_of n f part) z class) ∷ []) is.parity
      ∙ sym (ap (λ b. cond b [] ((server_of n id, ask.Parity id (lengths_of n f part) (parity_bytes n f part) class) ∷ [])) (ap (is_away out) (sym at) ∙ here))

-- the part that is new at an index
pub record PartAt (n f : ℕ) (parts : List Part) (i : ℕ) (fresh : Fresh) : Type 0 where
  pub part : Part
  pub below : i < length parts
  pub at : part ≡ get_or parts i part
  pub is : IsFresh n f part fresh

pub part_at : (n f : ℕ) (parts : List Part) (all : List Fresh) (i : ℕ) (fresh : Fresh) → AreFresh n f parts all → i < length all → fresh ≡ get_or all i fresh → PartAt n f parts i fresh
part_at n f [] [] i fresh a lt e = absurd (omega arith)
part_at n f [] (x ∷ all) i fresh a lt e = absurd a
part_at n f (p ∷ parts) [] i fresh a lt e = absurd a
part_at n f (p ∷ parts) (x ∷ all) zero fresh a lt e = record { part = p; below = omega arith; at = refl; is = subst (IsFresh n f p) (sym e) a.0 }
part_at n f (p ∷ parts) (x ∷ all) (suc i) fresh a lt e =
    let rest = part_at n f parts all i fresh a.1 (omega arith) e in
    let below = rest.below in
    record { part = rest.part; below = omega arith; at = rest.at; is = rest.is }

pub fresh_long : (n f : ℕ) (parts : List Part) (all : List Fresh) → AreFresh n f parts all → length parts ≡ length all
fresh_long n f [] [] a = refl
fresh_long n f [] (x ∷ all) a = absurd a
fresh_long n f (p ∷ parts) [] a = absurd a
fresh_long n f (p ∷ parts) (x ∷ all) a = omega (arith, fresh_long n f parts all a.1)

-- one more part
pub plan_more : {P R : Type 0} (requests : P → List R) (parts : List P) (i : ℕ) (x : P) (old new : List R)
    → i < length parts → x ≡ get_or parts i x → old ≡ flat_map requests (take i parts) → new ≡ old ++ requests x → new ≡ flat_map requests (take (i + 1) parts)
plan_more {R = R} requests parts i x old new l e o n =
    n ∙ ap (λ (z : List R). z ++ requests x) o ∙ flat_map_more requests [] (take i parts) x
    ∙ ap (λ z. flat_map requests (take i parts ++ z ∷ [])) e ∙ ap (flat_map requests) (sym (take_more parts i x l))
