-- Placing, step by step.
use Rattle.std.proofs.Common.{◌≡◌, ℕ, zero, suc, ◌+◌, ◌<◌, ◌≤◌, Bool, cond, leb, List, [], ◌∷◌, length, drop, get_or, fold, refl, sym, ap, subst, ◌∙◌, arith}
use Rattle.std.proofs.lemmas.Bool.{leb-true, le-leb, cond_both}
use Rattle.std.proofs.lemmas.List.{at_drop_more}
use Rattle.zb_log.specs.Places.{place}
use Rattle.zb_log.specs.Placing.{Laid, turned, ready, moved, added, with_meta, with_block}

-- what holds of a state and of the one where its stripe was left, holds when bytes are made room for
pub ready_both : (P : Laid → Type 0) (laid : Laid) (n : ℕ) → (laid.next.offset + n ≤ laid.room → P laid) → P (turned laid) → P (ready laid n)
ready_both P laid n here left = cond_both (leb (laid.next.offset + n) laid.room) laid (turned laid) P (λ e. here (leb-true (laid.next.offset + n) laid.room e)) (λ e. left)

pub ready_here : (laid : Laid) (n : ℕ) → laid.next.offset + n ≤ laid.room → ready laid n ≡ laid
ready_here laid n fits = ap (λ (b : Bool). cond b laid (turned laid)) (le-leb (laid.next.offset + n) laid.room fits)

pub ready_room : (laid : Laid) (n : ℕ) → (ready laid n).room ≡ laid.room
ready_room laid n = ready_both (λ (z : Laid). z.room ≡ laid.room) laid n (λ h. refl) refl

pub ready_fits : (laid : Laid) (n : ℕ) → n ≤ laid.room → (ready laid n).next.offset + n ≤ (ready laid n).room
ready_fits laid n le = ready_both (λ (z : Laid). z.next.offset + n ≤ z.room) laid n (λ h. h) (omega arith)

-- stripes rise
pub ready_rises : (laid : Laid) (n : ℕ) → laid.next.stripe ≤ (ready laid n).next.stripe
ready_rises laid n = ready_both (λ (z : Laid). laid.next.stripe ≤ z.next.stripe) laid n (λ h. omega arith) (omega arith)

pub meta_rises : (laid : Laid) (n : ℕ) → laid.next.stripe ≤ (with_meta laid n).next.stripe
meta_rises laid zero = omega arith
meta_rises laid (suc n) = let here = ready_rises laid 1 in let more = meta_rises (added laid 1) n in omega arith

pub blocks_rise : (laid : Laid) (lens : List ℕ) → laid.next.stripe ≤ (fold with_block laid lens).next.stripe
blocks_rise laid [] = omega arith
blocks_rise laid (n ∷ lens) = let here = ready_rises laid n in let more = blocks_rise (with_block laid n) lens in omega arith

pub blocks_room : (laid : Laid) (lens : List ℕ) → (fold with_block laid lens).room ≡ laid.room
blocks_room laid [] = refl
blocks_room laid (n ∷ lens) = blocks_room (with_block laid n) lens ∙ ready_room laid n

pub meta_room : (laid : Laid) (n : ℕ) → (with_meta laid n).room ≡ laid.room
meta_room laid zero = refl
meta_room laid (suc n) = meta_room (added laid 1) n ∙ ready_room laid 1

-- as many bytes of a meta part as fit go at once
pub meta_chunk : (laid : Laid) (n m k : ℕ) → k ≡ n + m → laid.next.offset + n ≤ laid.room → with_meta laid k ≡ with_meta (moved laid n) m
meta_chunk laid zero m k e fits =
    let same : k ≡ m = omega arith in
    let here : laid.next.offset + 0 ≡ laid.next.offset = omega arith in
    ap (with_meta laid) same ∙ sym (ap (λ (o : ℕ). with_meta (record laid { next = place laid.next.stripe o }) m) here)
meta_chunk laid (suc n) m zero e fits = absurd (omega arith)
meta_chunk laid (suc n) m (suc k) e fits =
    let one : laid.next.offset + 1 + n ≡ laid.next.offset + suc n = omega arith in
    ap (λ (z : Laid). with_meta (moved z 1) k) (ready_here laid 1 (omega arith))
    ∙ meta_chunk (moved laid 1) n m k (omega arith) (omega arith)
    ∙ ap (λ (o : ℕ). with_meta (record laid { next = place laid.next.stripe o }) m) one

-- a stripe that is full may be left before
pub meta_ready : (laid : Laid) (k : ℕ) → 0 < k → (ready laid 1).next.offset + 1 ≤ (ready laid 1).room → with_meta (ready laid 1) k ≡ with_meta laid k
meta_ready laid zero lt fits = absurd (omega arith)
meta_ready laid (suc k) lt fits = ap (λ (z : Laid). with_meta (moved z 1) k) (ready_here (ready laid 1) 1 fits)

-- a meta part rises above where its first byte lies
pub meta_first : (laid : Laid) (k : ℕ) → 0 < k → (added laid 1).next.stripe ≤ (with_meta laid k).next.stripe
meta_first laid zero lt = absurd (omega arith)
meta_first laid (suc k) lt = meta_rises (added laid 1) k

-- blocks rise above where the first of them lies
pub blocks_first : (laid : Laid) (lens : List ℕ) (i d : ℕ) → i < length lens → (with_block laid (get_or lens i d)).next.stripe ≤ (fold with_block laid (drop i lens)).next.stripe
blocks_first laid lens i d lt =
    let n = get_or lens i d in
    let more = blocks_rise (with_block laid n) (drop (i + 1) lens) in
    let e = at_drop_more (fold with_block laid) lens i d lt in
    let same = ap (λ (z : Laid). z.next.stripe) e in
    omega arith

-- as many bytes of a meta part as the stripe at hand has room for
pub meta_filled : (laid here : Laid) (n m k : ℕ) → here ≡ ready laid 1 → 0 < k → k ≡ n + m → here.next.offset + 1 ≤ here.room → here.next.offset + n ≤ here.room
    → with_meta (moved here n) m ≡ with_meta laid k
meta_filled laid here n m k e lt sum one fits =
    subst (λ (z : Laid). z.next.offset + 1 ≤ z.room → z.next.offset + n ≤ z.room → with_meta (moved z n) m ≡ with_meta laid k) (sym e)
    (λ one fits. sym (meta_chunk (ready laid 1) n m k sum fits) ∙ meta_ready laid k lt one) one fits
