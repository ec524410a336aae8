-- What reads of a slot's pages give.
use Rattle.std.proofs.Common.{◌≡◌, inl, inr, ℕ, ◌+◌, ◌-◌, ◌*◌, ◌<◌, ◌≤◌, List, ◌++◌, length, slice_index, Result, refl, sym, ◌∙◌, ap, subst, arith, length-append}
use Rattle.std.proofs.lemmas.List.{get_or_append_left, get_or-append_right}
use Rattle.std.proofs.lemmas.Bool.{cases_lt}
use Rattle.zb_outside.specs.Meaning.{Meaning}
use Rattle.zb_outside.specs.Platters.{ReadTold}
use Rattle.zb_outside.specs.Ranges.{Reads}
use Rattle.zb_outside.specs.Runs.{Held}
use Rattle.zb_outside.proofs.Runs.{started, then_run, weaker_run}
use Rattle.zb_ckpt.specs.Reading.{LeftAlone}
use Rattle.zb_ckpt.specs.Says.{place_of, BytesStand}
use Rattle.zb_ckpt.proofs.Places.{page_at, place_at}

pub left_same : (a : Meaning) → LeftAlone a a
left_same a = record { run = started 0 (a.now.may_leave 0) a (λ c h. h); seen = refl; left = λ i h. h }

pub left_then : {a b c : Meaning} → LeftAlone a b → LeftAlone b c → LeftAlone a c
left_then f g = record { run = then_run f.run g.run f.left; seen = g.seen ∙ f.seen; left = λ i h. f.left i (g.left i h) }

-- one read
pub left_read : {T E : Type 0} {at : ℕ} {bytes : List ℕ} {r : Result T E} {a b : Meaning} → ReadTold 0 at bytes r a b → LeftAlone a b
left_read read = record { run = weaker_run read.ticks read.crash; seen = read.seen; left = read.crash }

pub left_held : {a b : Meaning} → Held 0 a b → LeftAlone a b
left_held held = record { run = weaker_run held.ticks held.left; seen = held.seen; left = held.left }

-- one page more
pub page_more : (slot page : ℕ) (bytes part image : List ℕ) → length bytes ≡ 65536 * page → length part ≤ 65536 → BytesStand image slot bytes → Reads image (page_at slot page) part → BytesStand image slot (bytes ++ part)
page_more slot page bytes part image size few stand reads i lt =
    elim (cases_lt i (length bytes)) [
      | inl before ↦ stand i before ∙ sym (get_or_append_left bytes part 0 i before)
      | inr ge ↦ (let j : ℕ = i - 65536 * page in behind i j (omega arith) (omega (arith, lt, length-append bytes part)))
    ]
  where
    behind : (i j : ℕ) → i ≡ 65536 * page + j → j < length part → slice_index image (place_of slot i) ≡ slice_index (bytes ++ part) i
    behind i j e low =
        ap (λ (k : ℕ). slice_index image (place_of slot k)) e ∙ ap (slice_index image) (place_at slot page j (omega arith)) ∙ sym (reads j low)
        ∙ sym (ap (slice_index (bytes ++ part)) e ∙ get_or-append_right bytes part (65536 * page) (65536 * page + j) 0 size (omega arith) ∙ ap (slice_index part) (omega arith))

-- the same bytes, read from an image that is the same
pub stand_seen : (slot : ℕ) (bytes image other : List ℕ) → other ≡ image → BytesStand other slot bytes → BytesStand image slot bytes
stand_seen slot bytes image other same h = subst (λ (s : List ℕ). BytesStand s slot bytes) same h

pub reads_seen : (at : ℕ) (bytes image other : List ℕ) → other ≡ image → Reads other at bytes → Reads image at bytes
reads_seen at bytes image other same h = subst (λ (s : List ℕ). Reads s at bytes) same h

-- one page more, as it is read
pub page_read : (slot page at : ℕ) (bytes part slice more image other : List ℕ) → length bytes ≡ 65536 * page → length part ≤ 65536 → BytesStand image slot bytes → Reads other at part → other ≡ image → at ≡ page_at slot page → slice ≡ part → more ≡ bytes ++ slice → BytesStand image slot more
page_read slot page at bytes part slice more image other size few stand reads seen place same is_more =
    subst (BytesStand image slot) (sym (is_more ∙ ap (λ (l : List ℕ). bytes ++ l) same))
    (page_more slot page bytes part image size few stand (subst (λ (s : List ℕ). Reads s (page_at slot page) part) seen (subst (λ (k : ℕ). Reads other k part) place reads)))
