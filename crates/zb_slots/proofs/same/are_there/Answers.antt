use Rattle.std.proofs.Common.{rules, ◌+◌, ◌-◌, ◌≤◌, ℕ, IsTrue, List, length, take, drop, refl, sym, subst, arith}
use Rattle.zb_outside.specs.Ranges.{Reads}
use Rattle.zb_slots.proofs.Leaving.{left_then}
use Rattle.zb_slots.proofs.Chunks.{more_there, not_there}
use Rattle.zb_slots.proofs.same.are_there.Goals as goal

pub returns-in_err-is_there-clause-told : goal.returns-in_err-is_there-clause-told
returns-in_err-is_there-clause-told g c told = left_then (c.loop-at.invariant.told told) (c.is_there.ensures.told told)

pub returns-then-not-branch-clause-told : goal.returns-then-not-branch-clause-told
returns-then-not-branch-clause-told g c told = left_then (c.loop-at.invariant.told told) (c.is_there.ensures.told told)

pub returns-then-not-branch-clause-same : goal.returns-then-not-branch-clause-same
returns-then-not-branch-clause-same g c told =
    let image : List ℕ = (g.B.Bay.meaning c.args.bay.now).now.seen c.args.platter in
    let bytes : List ℕ = c.args.bytes.now in
    let at : ℕ = c.loop-at.at in
    let end : ℕ = c.min-end.result in
    let chunk : List ℕ = take (end - at) (drop at bytes) in
    let there : ℕ = c.args.place + at in
    let seen = (c.loop-at.invariant.told told).seen in (
      λ f. absurd (cc f),
      λ reads. subst IsTrue c.if-not-branch.true ((c.in_ok-is_there.ensures.same told).1
          (subst (λ (s : List ℕ). Reads s there chunk) (sym seen)
          (not_there image bytes chunk c.args.place at end refl (omega (arith, c.min-end.ensures, c.loop-at-test.true)) (omega (arith, c.min-end.ensures)) reads))),
    )

pub loop-at-preserved : goal.loop-at-preserved
loop-at-preserved g c =
    let h = c.loop-at.invariant in
    let image : List ℕ = (g.B.Bay.meaning c.args.bay.now).now.seen c.args.platter in
    let bytes : List ℕ = c.args.bytes.now in
    let at : ℕ = c.loop-at.at in
    let end : ℕ = c.min-end.result in
    let chunk : List ℕ = take (end - at) (drop at bytes) in
    let there : ℕ = c.args.place + at in
    let within : end ≤ length bytes = omega (arith, c.min-end.ensures) in
    record {
      told = λ told. left_then (h.told told) (c.is_there.ensures.told told);
      within = within;
      same = λ told. more_there image bytes chunk c.args.place at end refl (omega (arith, c.min-end.ensures, c.loop-at-test.true)) within (h.same told)
          (subst (λ (s : List ℕ). Reads s there chunk) (h.told told).seen ((c.in_ok-is_there.ensures.same told).0 c.if-not-branch.false));
      touches = search rules;
    }
