-- When a call of an outside in memory fails, and what it leaves of the platters.
use Rattle.std.specs.Prelude.{◌≡◌, ◌≢◌, ◌⊎◌, ℕ, Bool, IsTrue, Result, IsErr, OnOk, OnErr}
use Rattle.zb_outside.specs.Streams.{Rose}
use Rattle.zb_devices.specs.Record.{PlatterState}

-- A call of platter p fails exactly where it is due to fail or memory ran out in it; the count of the latter rises only there.
-- It leaves the platter done or, where there was memory to note it, failed, and the others as they were.
pub record Answers {T E : Type 0} (p : ℕ) (is_due records : Bool) (result : Result T E) (starved starved_now : ℕ) (before now : ℕ → PlatterState) (done undone : PlatterState) : Type 0 where
  pub due : IsTrue is_due → IsErr result
  pub fed : OnOk result (starved_now ≡ starved)
  pub noted : IsTrue is_due → IsTrue records → starved_now ≡ starved
  pub starves : OnErr result (IsTrue is_due ⊎ Rose starved starved_now)
  pub does : OnOk result (now p ≡ done)
  pub fails : OnErr result (Rose starved starved_now ⊎ (now p ≡ undone))
  pub others : (q : ℕ) → q ≢ p → now q ≡ before q

-- the same of a call that fails
pub record Refuses (p : ℕ) (is_due records : Bool) (starved starved_now : ℕ) (before now : ℕ → PlatterState) (undone : PlatterState) : Type 0 where
  pub noted : IsTrue is_due → IsTrue records → starved_now ≡ starved
  pub starves : IsTrue is_due ⊎ Rose starved starved_now
  pub fails : Rose starved starved_now ⊎ (now p ≡ undone)
  pub others : (q : ℕ) → q ≢ p → now q ≡ before q

-- a call of a stream fails exactly where it is due to fail or memory ran out in it, and leaves the platters as they were
pub record StreamAnswers {T E : Type 0} (is_due records : Bool) (result : Result T E) (starved starved_now : ℕ) (before now : ℕ → PlatterState) : Type 0 where
  pub due : IsTrue is_due → IsErr result
  pub fed : OnOk result (starved_now ≡ starved)
  pub noted : IsTrue is_due → IsTrue records → starved_now ≡ starved
  pub starves : OnErr result (IsTrue is_due ⊎ Rose starved starved_now)
  pub same : (p : ℕ) → now p ≡ before p
