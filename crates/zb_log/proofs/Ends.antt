-- The place behind a batch, with no list of what was placed.
use Rattle.std.proofs.Common.{◌≡◌, true, false, subst, ℕ, zero, suc, ◌+◌, ◌<◌, ◌≤◌, Bool, cond, leb, List, [], ◌∷◌, length, get_or, drop, fold, refl, sym, ap, ◌∙◌, arith}
use Rattle.std.proofs.lemmas.Bool.{cond_both, le-leb}
use Rattle.std.proofs.lemmas.List.{at_drop_more}
use Rattle.zb_log.specs.declared.places.Place.{Place}
use Rattle.zb_log.specs.Places.{place, behind}
use Rattle.zb_log.specs.Placing.{Laid, begun, turned, ready, added, with_meta, with_block, room_at, behind_room, meta_end, blocks_end, last_stripe}
use Rattle.zb_log.specs.Logs.{SeenLog, IsSound, laid_next}
use Rattle.zb_log.proofs.Steps.{ready_room, meta_room}

ready_next : (laid : Laid) (n : ℕ) → (ready laid n).next ≡ room_at laid.room laid.next n
ready_next laid n = both (leb (laid.next.offset + n) laid.room)
  where
    both : (b : Bool) → (cond b laid (turned laid)).next ≡ cond b laid.next (place (laid.next.stripe + 1) 0)
    both true = refl
    both false = refl

added_next : (laid : Laid) (n : ℕ) → (added laid n).next ≡ behind_room laid.room laid.next n
added_next laid n = ap (λ (z : Place). behind z n) (ready_next laid n)

pub meta_next : (laid : Laid) (n : ℕ) → (with_meta laid n).next ≡ meta_end laid.room laid.next n
meta_next laid zero = refl
meta_next laid (suc n) =
    meta_next (added laid 1) n ∙ ap (λ (r : ℕ). meta_end r (added laid 1).next n) (ready_room laid 1) ∙ ap (λ (z : Place). meta_end laid.room z n) (added_next laid 1)

pub blocks_next : (laid : Laid) (lens : List ℕ) → (fold with_block laid lens).next ≡ blocks_end laid.room laid.next lens
blocks_next laid [] = refl
blocks_next laid (n ∷ lens) =
    blocks_next (with_block laid n) lens ∙ ap (λ (r : ℕ). blocks_end r (added laid n).next lens) (ready_room laid n) ∙ ap (λ (z : Place). blocks_end laid.room z lens) (added_next laid n)

-- ---- stripes rise

room_rises : (room : ℕ) (at : Place) (n : ℕ) → at.stripe ≤ (room_at room at n).stripe
room_rises room at n = cond_both (leb (at.offset + n) room) at (place (at.stripe + 1) 0) (λ (z : Place). at.stripe ≤ z.stripe) (λ e. omega arith) (λ e. omega arith)

pub meta_above : (room : ℕ) (at : Place) (n : ℕ) → at.stripe ≤ (meta_end room at n).stripe
meta_above room at zero = omega arith
meta_above room at (suc n) = let one = room_rises room at 1 in let more = meta_above room (behind_room room at 1) n in omega arith

pub blocks_above : (room : ℕ) (at : Place) (lens : List ℕ) → at.stripe ≤ (blocks_end room at lens).stripe
blocks_above room at [] = omega arith
blocks_above room at (n ∷ lens) = let one = room_rises room at n in let more = blocks_above room (behind_room room at n) lens in omega arith

-- a meta part ends above where its first byte lies
pub meta_first : (room : ℕ) (at : Place) (n : ℕ) → 0 < n → (room_at room at 1).stripe ≤ (meta_end room at n).stripe
meta_first room at zero lt = absurd (omega arith)
meta_first room at (suc n) lt = meta_above room (behind_room room at 1) n

-- blocks end above where the first of them lies
pub blocks_first : (room : ℕ) (at : Place) (lens : List ℕ) (i d : ℕ) → i < length lens → (room_at room at (get_or lens i d)).stripe ≤ (blocks_end room at (drop i lens)).stripe
blocks_first room at lens i d lt =
    let n = get_or lens i d in
    let more = blocks_above room (behind_room room at n) (drop (i + 1) lens) in
    let same = ap (λ (z : Place). z.stripe) (at_drop_more (blocks_end room at) lens i d lt) in
    omega arith

-- ---- as many bytes of a meta part as fit go at once

room_here : (room : ℕ) (at : Place) (n : ℕ) → at.offset + n ≤ room → room_at room at n ≡ at
room_here room at n fits = ap (λ (b : Bool). cond b at (place (at.stripe + 1) 0)) (le-leb (at.offset + n) room fits)

meta_chunk : (room : ℕ) (at : Place) (n m k : ℕ) → k ≡ n + m → at.offset + n ≤ room → meta_end room at k ≡ meta_end room (behind at n) m
meta_chunk room at zero m k e fits =
    let same : k ≡ m = omega arith in
    let here : at.offset + 0 ≡ at.offset = omega arith in
    ap (meta_end room at) same ∙ sym (ap (λ (o : ℕ). meta_end room (place at.stripe o) m) here)
meta_chunk room at (suc n) m zero e fits = absurd (omega arith)
meta_chunk room at (suc n) m (suc k) e fits =
    let one : at.offset + 1 + n ≡ at.offset + suc n = omega arith in
    ap (λ (z : Place). meta_end room (behind z 1) k) (room_here room at 1 (omega arith))
    ∙ meta_chunk room (behind at 1) n m k (omega arith) (omega arith)
    ∙ ap (λ (o : ℕ). meta_end room (place at.stripe o) m) one

meta_ready : (room : ℕ) (at : Place) (k : ℕ) → 0 < k → (room_at room at 1).offset + 1 ≤ room → meta_end room (room_at room at 1) k ≡ meta_end room at k
meta_ready room at zero lt fits = absurd (omega arith)
meta_ready room at (suc k) lt fits = ap (λ (z : Place). meta_end room (behind z 1) k) (room_here room (room_at room at 1) 1 fits)

pub meta_filled : (room : ℕ) (at there : Place) (n m k : ℕ) → there ≡ room_at room at 1 → 0 < k → k ≡ n + m → there.offset + 1 ≤ room → there.offset + n ≤ room → meta_end room (behind there n) m ≡ meta_end room at k
meta_filled room at there n m k e lt sum one fits =
    sym (meta_chunk room there n m k sum fits) ∙ ap (λ (z : Place). meta_end room z k) e ∙ meta_ready room at k lt (subst (λ (z : Place). z.offset + 1 ≤ room) e one)

-- ---- the place behind a batch that goes next

pub next_end : (seen : SeenLog) (meta : ℕ) (blocks : List ℕ) → (laid_next seen meta blocks).next ≡ blocks_end seen.room (meta_end seen.room seen.next meta) blocks
next_end seen meta blocks =
    let first = begun seen.log seen.room seen.next in
    blocks_next (with_meta first meta) blocks
    ∙ ap (λ (r : ℕ). blocks_end r (with_meta first meta).next blocks) (meta_room first meta)
    ∙ ap (λ (z : Place). blocks_end seen.room z blocks) (meta_next first meta)

pub ends_below : (seen : SeenLog) → IsSound seen → (meta : ℕ) (blocks : List ℕ) → (blocks_end seen.room (meta_end seen.room seen.next meta) blocks).stripe ≤ last_stripe → (laid_next seen meta blocks).next.stripe ≤ last_stripe
ends_below seen s meta blocks low = let e = ap (λ (z : Place). z.stripe) (next_end seen meta blocks) in omega arith

pub ends_above : (seen : SeenLog) → IsSound seen → (meta : ℕ) (blocks : List ℕ) → last_stripe < (blocks_end seen.room (meta_end seen.room seen.next meta) blocks).stripe → last_stripe < (laid_next seen meta blocks).next.stripe
ends_above seen s meta blocks high = let e = ap (λ (z : Place). z.stripe) (next_end seen meta blocks) in omega arith
