use Rattle.std.proofs.Common.{◌≡◌, ℕ, length, subst, inl, inr, arith}
use Rattle.std.proofs.lemmas.Bool.{cases_lt}
use Rattle.zb_slots.specs.Holding.{IsBad}
use Rattle.zb_index.proofs.Twinning.{says_at}
use Rattle.zb_index.proofs.build.first_bad.Goals as goal

pub returns-then-is_bad-clause-bad : goal.returns-then-is_bad-clause-bad
returns-then-is_bad-clause-bad c slots shown all =
    let headers = c.args.headers.now in
    let slot = c.loop-slot.slot in
    let tells = c.is_bad.ensures slots shown all c.loop-slot-test.true (says_at headers slots shown slot _ c.loop-slot-test.true) in
    record {
      within = c.loop-slot-test.true;
      bad = tells.bad c.if-is_bad.true;
      first = c.loop-slot.invariant slots shown all;
    }

pub loop-slot-preserved : goal.loop-slot-preserved
loop-slot-preserved c slots shown all i lt bad =
    let headers = c.args.headers.now in
    let slot = c.loop-slot.slot in
    let tells = c.is_bad.ensures slots shown all c.loop-slot-test.true (says_at headers slots shown slot _ c.loop-slot-test.true) in
    elim (cases_lt i slot) [
      | inl less ↦ c.loop-slot.invariant slots shown all i less bad
      | inr past ↦
          let e : i ≡ slot = omega (arith, past, lt) in
          tells.good c.if-is_bad.false (subst (λ (k : ℕ). IsBad slots (length headers) k) e bad)
    ]

pub returns-clause-good : goal.returns-clause-good
returns-clause-good c slots shown all j lt bad = c.loop-slot.invariant slots shown all j (omega (arith, lt, c.loop-slot-test.false)) bad
