-- Where a platter failed behind its fuse, the device did or the fuse has blown.
use Rattle.std.proofs.Common.{◌≡◌, inl, inr, ℕ, ◌==◌, if◌then◌else◌, arith}
use Rattle.std.proofs.lemmas.Bool.{cases_eq, cases_lt}
use Rattle.std.proofs.lemmas.Bool.Decides.{nat_tests}
use Rattle.zb_outside.specs.Counts.{Counts, at_last}
use Rattle.zb_outside.specs.Fuse.{FuseFollows, FailsByDeviceOrFuse, left_of, raised_of}
use Rattle.zb_outside.specs.declared.fused.Fused.{Fused}

-- of a fuse that hasn't blown no part counts as full
not_full : (left count : ℕ) → (left ≡ 1 → ⊥) → (if left == 1 then at_last count else 0) ≡ 0
not_full left count not = grind (arith, nat_tests)

-- a fuse that hasn't blown has failed no call in between
unblown : {B : Type 0} (counts : B → Counts) (leads : B → B → Type 0) (p : ℕ) (old new : Fused B) → FuseFollows counts leads old new → (left_of new p ≡ 1 → ⊥) → raised_of new p ≡ raised_of old p
unblown counts leads p old new f not = elim (cases_lt 1 (left_of new p)) [
  | inl armed ↦ f.blown p armed
  | inr low ↦ elim (cases_lt 0 (left_of old p)) [
    | inl was ↦ absurd (not (omega (arith, low, (f.on p was).0)))
    | inr off ↦ (f.off p (omega arith)).1
  ]
]

pub device_or_fuse : {B : Type 0} (counts : B → Counts) (leads : B → B → Type 0) → FailsByDeviceOrFuse counts leads
device_or_fuse counts leads p most old new h = elim (cases_eq (left_of new p) 1) [
  | inl blown ↦ inr blown
  | inr not ↦ inl (omega (arith, h.failed, unblown counts leads p old new h.follows not, not_full (left_of new p) (raised_of new p) not))
]
