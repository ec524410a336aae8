-- What callers see of fuses, and what calls may do to them.
use Rattle.std.specs.Prelude.{◌≡◌, ◌⊎◌, ◌+◌, ◌-◌, ◌^◌, ◌≤◌, ◌<◌, ◌==◌, if◌then◌else◌, min, ℕ, Bool, true, IsTrue, List, slice_index}
use Rattle.std.proofs.Common.{refl, ◌∙◌, inl, inr, ⊎_elim, arith}
use Rattle.std.proofs.lemmas.Bool.{cases_lt}
use Rattle.zb_outside.specs.Meaning.{Meaning}
use Rattle.zb_outside.specs.Ranges.{Written}
use Rattle.zb_outside.specs.Counts.{Counts, HasFault, HasWritten, Touches, at_last}
use Rattle.zb_outside.specs.declared.fused.Fused.{Fused}

-- the device behind the fuses
abbrev pub inner_of : {B : Type 0} → Fused B → B
inner_of f = f.inner

-- 0 where platter p isn't armed, 1 where its fuse has blown, and n + 1 where its n-th write from now blows it
abbrev pub left_of : {B : Type 0} → Fused B → ℕ → ℕ
left_of f p = slice_index f.left p

-- how many calls of platter p a fuse has failed
abbrev pub raised_of : {B : Type 0} → Fused B → ℕ → ℕ
raised_of f p = slice_index f.raised p

-- how many writes of platter p a fuse has held back
abbrev pub held_of : {B : Type 0} → Fused B → ℕ → ℕ
held_of f p = slice_index f.held p

-- One that isn't armed stays so and fails nothing; one that is armed burns down by no more than the writes that came,
-- and fails nothing before it has blown.
pub record FuseFollows {B : Type 0} (counts : B → Counts) (leads : B → B → Type 0) (old new : Fused B) : Type 0 where
  pub inner : leads old.inner new.inner
  pub off : (p : ℕ) → left_of old p ≡ 0 → (left_of new p ≡ 0) × (raised_of new p ≡ raised_of old p)
  pub on : (p : ℕ) → 1 ≤ left_of old p → (1 ≤ left_of new p) × (left_of new p ≤ left_of old p)
  pub rises : (p : ℕ) → (counts old.inner).writes p ≤ (counts new.inner).writes p
  pub burns : (p : ℕ) → 1 ≤ left_of old p → (left_of old p + (counts old.inner).writes p ≤ left_of new p + (counts new.inner).writes p) ⊎ (2 ^ 64 - 1 ≤ (counts new.inner).writes p)
  pub blown : (p : ℕ) → 1 < left_of new p → raised_of new p ≡ raised_of old p

-- 1 where the fuse of platter p has blown and the calls that it failed are counted to the last value, and else 0
abbrev pub full_of : {B : Type 0} → Fused B → ℕ → ℕ
full_of f p = if left_of f p == 1 then at_last (raised_of f p) else 0

-- what is counted of the device and of its fuses: calls that failed at either, writes that the device was asked for or that
-- were held back, up to the last value of a u64, and the streams of the device
abbrev pub all_counts : {B : Type 0} → (B → Counts) → Fused B → Counts
all_counts counts f = record {
  faults = λ p. (counts f.inner).faults p + raised_of f p;
  full = λ p. (counts f.inner).full p + full_of f p;
  writes = λ p. min ((counts f.inner).writes p + held_of f p) (2 ^ 64 - 1);
  streams = (counts f.inner).streams;
}

-- where a run of calls tells that platter p failed behind its fuse, the device failed there, or the fuse has blown
abbrev pub FailsByDeviceOrFuse : {B : Type 0} → (B → Counts) → (B → B → Type 0) → Type 0
FailsByDeviceOrFuse {B} counts leads = (p most : ℕ) (old new : Fused B) → Touches (all_counts counts) (FuseFollows counts leads) p most true old new
    → HasFault p (counts old.inner) (counts new.inner) ⊎ (left_of new p ≡ 1)

-- the device was asked to write these bytes, and wrote them where it didn't fail itself
pub record PassesWrite {B : Type 0} (tells : Bool) (p at : ℕ) (bytes : List ℕ) (meaning : B → Meaning) (counts : B → Counts) (old new : B) : Type 0 where
  pub counted : HasWritten p 1 (counts old) (counts new)
  pub written : IsTrue tells → Written at bytes ((meaning old).now.seen p) ((meaning new).now.seen p) ⊎ HasFault p (counts old) (counts new)

-- what no calls do
pub fuse_same : {B : Type 0} (counts : B → Counts) (leads : B → B → Type 0) → ((b : B) → leads b b) → (a : Fused B) → FuseFollows counts leads a a
fuse_same counts leads same a = record {
  inner = same a.inner;
  off = λ p h. (h, refl);
  on = λ p h. (h, omega arith);
  rises = λ p. omega arith;
  burns = λ p h. inl (omega arith);
  blown = λ p h. refl;
}

-- one run after another
pub fuse_then : {B : Type 0} (counts : B → Counts) (leads : B → B → Type 0) → ((a b c : B) → leads a b → leads b c → leads a c) → (a b c : Fused B) → FuseFollows counts leads a b → FuseFollows counts leads b c → FuseFollows counts leads a c
fuse_then counts leads join a b c f g = record {
  inner = join a.inner b.inner c.inner f.inner g.inner;
  off = λ p h. let k = f.off p h in let m = g.off p k.0 in (m.0, m.1 ∙ k.1);
  on = λ p h. let k = f.on p h in let m = g.on p k.0 in (m.0, omega (arith, k.1, m.1));
  rises = λ p. omega (arith, f.rises p, g.rises p);
  burns = λ p h. let k = f.on p h in
      ⊎_elim (λ x. ⊎_elim (λ y. inl (omega (arith, x, y))) (λ y. inr y) (g.burns p k.0)) (λ x. inr (omega (arith, x, g.rises p))) (f.burns p h);
  blown = λ p h. g.blown p h ∙ f.blown p (elim (cases_lt 0 (left_of b p)) [
    | inl some ↦ omega (arith, (g.on p some).1, h)
    | inr none ↦ absurd (omega (arith, (g.off p (omega arith)).0, h))
  ]);
}
