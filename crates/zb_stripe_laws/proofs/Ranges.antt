-- Ranges of shares, and what servers answer for them.
use Rattle.std.proofs.Common.{◌≡◌, ◌⊎◌, ℕ, ◌+◌, ◌-◌, ◌*◌, ◌/◌, ◌%◌, ◌<◌, ◌≤◌, Bool, true, cond, List, ◌++◌, length, take, drop, get_or, Option, Some, None, refl, sym, ap, ◌∙◌, inl, inr, arith}
use Rattle.std.specs.Prelude.{replicate}
use Rattle.std.proofs.lemmas.Bool.{cases_lt, le-leb, eqb-true, false≢true}
use Rattle.std.proofs.lemmas.Nat.{div-add-mod', mod_below}
use Rattle.std.proofs.lemmas.List.{length-drop, length-append, length-take-le, get_or-take, get_or-drop, get_or_past, get_or_append_left, get_or-append_right, get_or-replicate, length-replicate, take-take, drop-take, drop-drop}
use Rattle.zb_types.specs.declared.ids.ServerId.{ServerId}
use Rattle.zb_holding.specs.Fragments.{Fragment}
use Rattle.zb_holding.specs.Fragments.{share_fragment, parity_fragment}
use Rattle.zb_types.specs.declared.requests.Response.TheVariants as told
use Rattle.zb_types.specs.declared.requests.StoreFault.TheVariants as fault
use Rattle.zb_holding.specs.Placing.{share_of}
use Rattle.zb_holding.specs.Holding.{share_bytes, Begins, IsGoneOrReaches, is_away}
use Rattle.zb_holding.specs.Carrying.{found}

-- a range within one share is that range of the stripe
pub range_is : (f pos len : ℕ) (bytes : List ℕ) → 0 < f → len ≤ f - pos % f → take len (drop (pos % f) (share_of f bytes (pos / f))) ≡ take len (drop pos bytes)
range_is f pos len bytes some le =
    let m = mod_below pos f some in
    let d = drop (pos / f * f) bytes in
    let fits : f ≡ pos % f + (f - pos % f) = omega arith in
    ap (take len) (ap (λ (j : ℕ). drop (pos % f) (take j d)) fits ∙ drop-take (pos % f) (f - pos % f) d)
    ∙ take-take len (f - pos % f) (drop (pos % f) d) le
    ∙ ap (take len) (drop-drop (pos % f) (pos / f * f) bytes ∙ ap (λ (j : ℕ). drop j bytes) (div-add-mod' pos f))

-- what a server answers for a range of a share that begins as it should
pub found_in_share : (stands : Option Fragment) (bytes : List ℕ) (place len : ℕ) → Begins stands bytes → 0 < len → place + len ≤ length (share_bytes stands) → found stands place len ≡ told.Bytes (take len (drop place bytes))
found_in_share None bytes place len b some le = absurd (omega arith)
found_in_share (Some (share_fragment old)) bytes place len b some le =
    ap (λ (t : Bool). cond t (told.Bytes (take len (drop place old))) (told.Refused (fault.Short (length old)))) (le-leb (place + len) (length old) le)
    ∙ ap (λ (z : List ℕ). told.Bytes (take len z)) (ap (drop place) b.1 ∙ ap (λ (m : ℕ). drop place (take m bytes)) (omega arith) ∙ drop-take place (length old - place) bytes)
    ∙ ap told.Bytes (take-take len (length old - place) (drop place bytes) (omega arith))
found_in_share (Some (parity_fragment lengths parity)) bytes place len b some le = absurd b

-- what a server answers for a range of a share that is gone, or begins as it should and reaches past the range
pub found_or_none : (stands : Option Fragment) (bytes : List ℕ) (place len reach : ℕ) → Begins stands bytes → IsGoneOrReaches reach stands → 0 < len → place + len ≤ reach
    → ((stands ≡ None) × (found stands place len ≡ told.Refused fault.NoFragment)) ⊎ (found stands place len ≡ told.Bytes (take len (drop place bytes)))
found_or_none None bytes place len reach b r some le = inl (refl, refl)
found_or_none (Some (share_fragment old)) bytes place len reach b r some le = inr (found_in_share (Some (share_fragment old)) bytes place len b some (omega arith))
found_or_none (Some (parity_fragment lengths parity)) bytes place len reach b r some le = absurd b

-- the range of a parity, zeros past its end
abbrev pub parity_range : List ℕ → ℕ → ℕ → List ℕ
parity_range parity place len = take len (drop place parity ++ replicate len 0)

pub length-parity_range : (parity : List ℕ) (place len : ℕ) → length (parity_range parity place len) ≡ len
length-parity_range parity place len = length-take-le len (drop place parity ++ replicate len 0) (omega (arith, length-append (drop place parity) (replicate len 0), length-replicate {A = ℕ} len 0))

pub parity_range_at : (parity : List ℕ) (place len y : ℕ) → y < len → get_or (parity_range parity place len) y 0 ≡ get_or parity (place + y) 0
parity_range_at parity place len y l =
    get_or-take len (drop place parity ++ replicate len 0) y 0 l
    ∙ elim (cases_lt y (length (drop place parity))) as (λ _. get_or (drop place parity ++ replicate len 0) y 0 ≡ get_or parity (place + y) 0) [
      | inl here ↦ get_or_append_left (drop place parity) (replicate len 0) 0 y here ∙ get_or-drop place parity y 0
      | inr past ↦
          get_or-append_right (drop place parity) (replicate len 0) (length (drop place parity)) y 0 refl past
          ∙ get_or-replicate len (y - length (drop place parity)) 0 0 (omega arith)
          ∙ sym (get_or_past parity (place + y) 0 (omega (arith, length-drop place parity)))
    ]

-- the server that is away is that one
pub away_is : (z : Option ServerId) (server : ServerId) → is_away z server ≡ true → z ≡ Some server
away_is None server h = absurd (false≢true h)
away_is (Some a) server h = ap (λ (m : ℕ). Some (record { 0 = m })) (eqb-true a.0 server.0 h)
