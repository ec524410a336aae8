-- How many stripes are begun up to a place that a log comes to.
use Rattle.std.proofs.Common.{◌≡◌, ℕ, zero, suc, ◌+◌, ◌≤◌, leb, List, [], ◌∷◌, sym, subst, arith, ◌∙◌, inl, inr}
use Rattle.std.specs.List.{AllByRecursion}
use Rattle.std.proofs.lemmas.Bool.{cases_eq, cond_both}
use Rattle.zb_log.specs.declared.places.Place.{Place}
use Rattle.zb_log.specs.declared.placed.Placed.{Placed}
use Rattle.zb_log.specs.Places.{IsUpTo, behind, place}
use Rattle.zb_log.specs.Placing.{behind_room, blocks_end, meta_end}
use Rattle.zb_log.specs.Logs.{IsPlaced, SeenLog}
use Rattle.zb_log.proofs.Ends.{next_end}
use Rattle.zb_basis.proofs.Each.{each-of}
use Rattle.zb_need.specs.Filling.{stripes_begun}

-- a later place has as many stripes begun, or more
pub begun_more : (from to : Place) → IsUpTo from to → stripes_begun from ≤ stripes_begun to
begun_more from to up =
    let stripe = up.stripe in
    elim (cases_eq from.stripe to.stripe) [
      | inl same ↦ let offset = up.offset same in omega (arith, same, offset)
      | inr other ↦ omega (arith, stripe, other)
    ]

-- bytes lie before the place behind a batch
step_some : (room : ℕ) (at : Place) (n : ℕ) → 1 ≤ n → 1 ≤ (behind_room room at n).offset
step_some room at n some =
    cond_both (leb (at.offset + n) room) at (place (at.stripe + 1) 0) (λ (z : Place). 1 ≤ (behind z n).offset) (λ _. omega (arith, some)) (λ _. omega (arith, some))

meta_on : (room n : ℕ) (at : Place) → 1 ≤ at.offset → 1 ≤ (meta_end room at n).offset
meta_on room zero at some = some
meta_on room (suc n) at some = meta_on room n (behind_room room at 1) (step_some room at 1 (omega arith))

meta_some : (room n : ℕ) (at : Place) → 1 ≤ n → 1 ≤ (meta_end room at n).offset
meta_some room zero at many = absurd (omega (arith, many))
meta_some room (suc n) at many = meta_on room n (behind_room room at 1) (step_some room at 1 (omega arith))

blocks_some : (room block : ℕ) (lens : List ℕ) (at : Place) → AllByRecursion (λ (n : ℕ). (1 ≤ n) × (n ≤ block)) lens → 1 ≤ at.offset → 1 ≤ (blocks_end room at lens).offset
blocks_some room block [] at all some = some
blocks_some room block (n ∷ lens) at all some = blocks_some room block lens (behind_room room at n) all.1 (step_some room at n all.0.0)

pub placed_some : (seen : SeenLog) (meta : ℕ) (blocks : List ℕ) (placed : Placed) → 1 ≤ meta → IsPlaced seen meta blocks placed → 1 ≤ placed.next.offset
placed_some seen meta blocks placed some is =
    subst (λ (z : Place). 1 ≤ z.offset) (sym (is.next ∙ next_end seen meta blocks))
    (blocks_some seen.room seen.block blocks (meta_end seen.room seen.next meta) (each-of (λ (n : ℕ). (1 ≤ n) × (n ≤ seen.block)) blocks is.lens)
    (meta_some seen.room meta seen.next some))

-- the stripe that is at work counts then
pub own_counts : (at : Place) → 1 ≤ at.offset → stripes_begun at ≡ at.stripe + 1
own_counts at some = omega (arith, some)
