-- A log stays half full, byte after byte of a meta part and block after block.
use Rattle.std.proofs.Common.{ℕ, zero, suc, ◌+◌, ◌<◌, ◌≤◌, leb, List, [], ◌∷◌, sym, subst, arith, ◌∙◌}
use Rattle.std.specs.List.{AllByRecursion, sum}
use Rattle.std.proofs.lemmas.Bool.{cond_both, leb-true, leb-false}
use Rattle.std.proofs.lemmas.List.Sums.{sum_by-cons}
use Rattle.zb_log.specs.declared.places.Place.{Place}
use Rattle.zb_log.specs.declared.placed.Placed.{Placed}
use Rattle.zb_log.specs.Places.{place, behind}
use Rattle.zb_log.specs.Placing.{behind_room, meta_end, blocks_end}
use Rattle.zb_log.specs.Logs.{SeenLog, IsPlaced}
use Rattle.zb_log.proofs.Ends.{next_end}
use Rattle.zb_basis.proofs.Each.{each-of}
use Rattle.zb_need.specs.Filling.{HalfFull}

-- ---- half full

step-half : (room : ℕ) (at : Place) (n bytes : ℕ) → HalfFull room at bytes → HalfFull room (behind_room room at n) (bytes + n)
step-half room at n bytes half =
    cond_both (leb (at.offset + n) room) at (place (at.stripe + 1) 0) (λ (z : Place). HalfFull room (behind z n) (bytes + n))
    (λ _. omega arith)
    (λ e. let over = leb-false (at.offset + n) room e in omega arith)

meta-half : (room n : ℕ) (at : Place) (bytes : ℕ) → HalfFull room at bytes → HalfFull room (meta_end room at n) (bytes + n)
meta-half room zero at bytes half = omega arith
meta-half room (suc n) at bytes half = let more = meta-half room n (behind_room room at 1) (bytes + 1) (step-half room at 1 bytes half) in omega arith

blocks-half : (room : ℕ) (lens : List ℕ) (at : Place) (bytes : ℕ) → HalfFull room at bytes → HalfFull room (blocks_end room at lens) (bytes + sum lens)
blocks-half room [] at bytes half = omega arith
blocks-half room (n ∷ lens) at bytes half =
    let more = blocks-half room lens (behind_room room at n) (bytes + n) (step-half room at n bytes half) in
    let all = sum_by-cons (λ (x : ℕ). x) n lens in
    omega arith

pub placed-half : (seen : SeenLog) (meta : ℕ) (blocks : List ℕ) (placed : Placed) (bytes : ℕ) → IsPlaced seen meta blocks placed → HalfFull seen.room seen.next bytes → HalfFull seen.room placed.next (bytes + (meta + sum blocks))
placed-half seen meta blocks placed bytes is half =
    let all = blocks-half seen.room blocks (meta_end seen.room seen.next meta) (bytes + meta) (meta-half seen.room meta seen.next bytes half) in
    subst (λ (z : Place). HalfFull seen.room z (bytes + (meta + sum blocks))) (sym (is.next ∙ next_end seen meta blocks)) (omega arith)

-- ---- within a stripe

step-within : (room : ℕ) (at : Place) (n : ℕ) → n ≤ room → (behind_room room at n).offset ≤ room
step-within room at n fits =
    cond_both (leb (at.offset + n) room) at (place (at.stripe + 1) 0) (λ (z : Place). (behind z n).offset ≤ room)
    (λ e. leb-true (at.offset + n) room e)
    (λ _. omega arith)

meta-within : (room n : ℕ) (at : Place) → 0 < room → at.offset ≤ room → (meta_end room at n).offset ≤ room
meta-within room zero at some within = within
meta-within room (suc n) at some within = meta-within room n (behind_room room at 1) some (step-within room at 1 some)

blocks-within : (room block : ℕ) (lens : List ℕ) (at : Place) → block ≤ room → AllByRecursion (λ (n : ℕ). (1 ≤ n) × (n ≤ block)) lens → at.offset ≤ room → (blocks_end room at lens).offset ≤ room
blocks-within room block [] at fits all within = within
blocks-within room block (n ∷ lens) at fits all within = blocks-within room block lens (behind_room room at n) fits all.1 (step-within room at n (let few = all.0.1 in omega arith))

pub placed-within : (seen : SeenLog) (meta : ℕ) (blocks : List ℕ) (placed : Placed) → 0 < seen.room → seen.block ≤ seen.room → IsPlaced seen meta blocks placed → seen.next.offset ≤ seen.room → placed.next.offset ≤ seen.room
placed-within seen meta blocks placed some fits is within =
    subst (λ (z : Place). z.offset ≤ seen.room) (sym (is.next ∙ next_end seen meta blocks))
    (blocks-within seen.room seen.block blocks (meta_end seen.room seen.next meta) fits (each-of (λ (n : ℕ). (1 ≤ n) × (n ≤ seen.block)) blocks is.lens)
    (meta-within seen.room meta seen.next some within))
