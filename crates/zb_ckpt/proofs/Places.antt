-- Where the bytes of a checkpoint stand.
use Rattle.std.proofs.Common.{◌≡◌, ◌≢◌, ◌⊎◌, inl, inr, ℕ, zero, suc, ◌+◌, ◌*◌, ◌<◌, ◌≤◌, refl, arith}
use Rattle.std.proofs.lemmas.Bool.{cases_lt}
use Rattle.std.proofs.lemmas.Bool.Decides.{nat_tests}
use Rattle.zb_ckpt.specs.Says.{place_of}
use Rattle.zb_ckpt.specs.Write.{other_slot}

-- where page p of a slot begins
abbrev pub page_at : (slot page : ℕ) → ℕ
page_at slot page = 1048576 + (2 * page + slot) * 65536

pub place_at : (slot page j : ℕ) → j < 65536 → place_of slot (65536 * page + j) ≡ page_at slot page + j
place_at slot page j lt = omega arith

-- what is in no page before this one stands below it
pub place_below : (slot page i : ℕ) → i < 65536 * page → place_of slot i < page_at slot page
place_below slot page i lt = omega arith

-- no byte of one slot stands in a page of the other
pub place_apart : (kept slot page k n : ℕ) → kept < 2 → slot < 2 → kept ≢ slot → n ≤ 65536 → (place_of kept k < page_at slot page) ⊎ (page_at slot page + n ≤ place_of kept k)
place_apart kept slot page k n a b apart few =
    elim (cases_lt (place_of kept k) (page_at slot page)) [
      | inl lt ↦ inl lt
      | inr ge ↦ inr (behind ge)
    ]
  where
    behind : page_at slot page ≤ place_of kept k → page_at slot page + n ≤ place_of kept k
    behind ge = omega arith

pub place_high : (slot i : ℕ) → 1048576 ≤ place_of slot i
place_high slot i = omega arith

pub other_low : (slot : ℕ) → other_slot slot < 2
other_low slot = grind (arith, nat_tests)

pub other_apart : (slot : ℕ) → slot < 2 → other_slot slot ≢ slot
other_apart zero lt e = omega (arith, e)
other_apart (suc zero) lt e = omega (arith, e)
other_apart (suc (suc n)) lt e = omega (arith, lt)

pub other_twice : (slot : ℕ) → slot < 2 → other_slot (other_slot slot) ≡ slot
other_twice zero lt = refl
other_twice (suc zero) lt = refl
other_twice (suc (suc n)) lt = absurd (omega arith)
