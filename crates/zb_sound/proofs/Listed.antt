-- Parts of a flush, by their places and by their stripes.
use Rattle.std.proofs.Common.{◌≡◌, ◌⊎◌, ℕ, zero, suc, ◌<◌, List, [], ◌∷◌, ◌++◌, length, get_or, refl, ap, subst, inl, inr, arith}
use Rattle.std.specs.Prelude.{All}
use Rattle.std.proofs.lemmas.Bool.{cases_eq}
use Rattle.zb_stripe.specs.declared.flush.Part.{Part}
use Rattle.zb_stripe_laws.specs.PartAtWork.{AreElsewhere}

-- a part with the parts before and behind it
pub record Among (parts : List Part) (part : Part) : Type 0 where
  pub before : List Part
  pub after : List Part
  pub is : parts ≡ before ++ part ∷ after

-- a part among others is so with one more before them
pub among_more : (q part : Part) (qs : List Part) → Among qs part → Among (q ∷ qs) part
among_more q part qs a = record { before = q ∷ a.before; after = a.after; is = ap (λ ps. q ∷ ps) a.is }

-- the first part
pub among_here : (q : Part) (qs : List Part) → Among (q ∷ qs) q
among_here q qs = record { before = []; after = qs; is = refl }

-- the part at a place
pub among_at : (parts : List Part) (i : ℕ) (d : Part) → i < length parts → Among parts (get_or parts i d)
among_at [] i d l = absurd (omega arith)
among_at (q ∷ qs) zero d l = record { before = []; after = qs; is = refl }
among_at (q ∷ qs) (suc i) d l = among_more q (get_or qs i d) qs (among_at qs i d (omega arith))

-- what holds of all parts holds of one
pub at_part : (parts : List Part) (P : Part → Type 0) (part : Part) → Among parts part → All P parts → P part
at_part parts P part a all = middle a.before a.after (subst (All P) a.is all) where
  middle : (before after : List Part) → All P (before ++ part ∷ after) → P part
  middle [] after all = all 0 part (omega arith)
  middle (q ∷ before) after all = middle before after (λ i d l. all (suc i) d (omega arith))

-- a part of this stripe
pub record OfStripe (parts : List Part) (stripe : ℕ) : Type 0 where
  pub part : Part
  pub among : Among parts part
  pub stripe_is : part.stripe ≡ stripe

-- a part is of this stripe, or none is
pub find_part : (parts : List Part) (stripe : ℕ) → OfStripe parts stripe ⊎ AreElsewhere stripe parts
find_part [] stripe = inr tt
find_part (q ∷ qs) stripe = elim (cases_eq q.stripe stripe) as (λ _. OfStripe (q ∷ qs) stripe ⊎ AreElsewhere stripe (q ∷ qs)) [
  | inl e ↦ inl (record { part = q; among = record { before = []; after = qs; is = refl }; stripe_is = e })
  | inr ne ↦ elim (find_part qs stripe) as (λ _. OfStripe (q ∷ qs) stripe ⊎ AreElsewhere stripe (q ∷ qs)) [
    | inl f ↦ inl (record { part = f.part; among = among_more q f.part qs f.among; stripe_is = f.stripe_is })
    | inr away ↦ inr (ne, away)
  ]
]
