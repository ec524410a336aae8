-- What each write of a put leaves.
use Rattle.std.proofs.Common.{◌≡◌, ◌≢◌, ◌⊎◌, inl, inr, ⊎_elim, ℕ, ◌+◌, ◌<◌, ◌≤◌, ◌==◌, List, [], ◌∷◌, length, slice_index, Result, Ok, Err, IsErr, OnOk, sym, ◌∙◌, ap, subst, arith}
use Rattle.std.proofs.lemmas.Bool.{cases_eq}
use Rattle.zb_outside.specs.Meaning.{Meaning}
use Rattle.zb_outside.specs.Platters.{ReadTold, WriteSyncedTold}
use Rattle.zb_outside.specs.Ranges.{Written, Reads, SameBeside}
use Rattle.zb_outside.specs.Runs.{Run}
use Rattle.zb_outside.proofs.Runs.{started, then_run, then_call, torn_outside, written_outside, outside_wider, outside_then, outside_same}
use Rattle.zb_cell.specs.Set.{Closing, CloseTold, IsReady}
use Rattle.zb_journal.specs.Putting.{PutReady, IsPut, Putting, PutTold}

module _ (at : ℕ) (bytes s : List ℕ) where
  pub unchanged : (c : List ℕ) → c ≡ s → Putting at bytes s c
  unchanged c is = subst (λ (d : List ℕ). Putting at bytes s d) (sym is) (record { outside = outside_same at (1 + length bytes) s; either = inl (outside_same at 0 s) })

  pub shut : (c : List ℕ) → SameBeside at (1 + length bytes) s c → slice_index c at ≢ 1 → Putting at bytes s c
  shut c o gate = record { outside = o; either = inr (inl gate) }

  -- only the gate may differ
  pub closing : (c : List ℕ) → Closing at s c → Putting at bytes s c
  closing c h = ⊎_elim
      (λ same. record {
        outside = outside_wider (omega arith) (omega arith) h.outside;
        either = inl (record {
          same_length = h.outside.same_length;
          same = λ i side. elim (cases_eq i at) [
            | inl is ↦ ap (slice_index c) is ∙ same ∙ sym (ap (slice_index s) is)
            | inr not ↦ h.outside.same i (beside i not side)
          ];
        });
      })
      (λ closed. shut c (outside_wider (omega arith) (omega arith) h.outside) closed)
      h.gate
    where
      beside : (i : ℕ) → i ≢ at → (i < at) ⊎ (at + 0 ≤ i) → (i < at) ⊎ (at + 1 ≤ i)
      beside i not (inl lt) = inl lt
      beside i not (inr ge) = inr (omega arith)

  pub filling : (d c : List ℕ) → SameBeside at 1 s d → slice_index d at ≢ 1 → SameBeside (at + 1) (length bytes) d c → Putting at bytes s c
  filling d c o gate p = shut c (outside_then (outside_wider (omega arith) (omega arith) o) (outside_wider (omega arith) (omega arith) p)) (λ one. gate (sym (p.same at (inl (omega arith))) ∙ one))

  pub opening : (d c : List ℕ) → SameBeside at (1 + length bytes) s d → Reads d (at + 1) bytes → SameBeside at 1 d c → Putting at bytes s c
  opening d c o reads p =
      let wide : SameBeside at (1 + length bytes) s c = outside_then o (outside_wider (omega arith) (omega arith) p) in
      elim (cases_eq (slice_index c at) 1) [
        | inl one ↦ record { outside = wide; either = inr (inr (one, λ i lt. reads i lt ∙ sym (p.same (at + 1 + i) (inr (omega arith))))) }
        | inr closed ↦ shut c wide closed
      ]

pub reads_back : (at : ℕ) (bytes s t : List ℕ) → Written (at + 1) bytes s t → Reads t (at + 1) bytes
reads_back at bytes s t w i lt = sym (w.within i lt)

pub is_closed : (at : ℕ) (was s t : List ℕ) → s ≡ was → SameBeside at 1 s t → SameBeside at 1 was t
is_closed at was s t seen o = subst (λ (u : List ℕ). SameBeside at 1 u t) seen o

pub is_filled : (at : ℕ) (bytes was s t : List ℕ) → at + 1 + length bytes ≤ length was → SameBeside at 1 was s → Written (at + 1) bytes s t → SameBeside at (1 + length bytes) was t
is_filled at bytes was s t le o w = outside_then (outside_wider (omega arith) (omega arith) o) (outside_wider (omega arith) (omega arith) (written_outside (omega (arith, o.same_length, le)) w))

pub is_put : (at : ℕ) (bytes s t : List ℕ) → Reads s (at + 1) bytes → Written at (1 ∷ []) s t → IsPut at bytes t
is_put at bytes s t reads w = (ap (slice_index t) (omega arith) ∙ w.within 0 (omega arith), λ i lt. reads i lt ∙ sym (w.above (at + 1 + i) (omega arith)))

pub put_failed : {T E : Type 0} {at : ℕ} {bytes : List ℕ} (r : Result T E) {a b : Meaning} → IsErr r → Run 0 (Putting at bytes (a.now.seen 0)) a b → PutTold at bytes r a b
put_failed (Ok x) err run = absurd (cc err)
put_failed (Err e) err run = record { run = run; settled = tt; put = tt }

-- The device calls of a put, one after another.
module _ {at : ℕ} {bytes : List ℕ} {a : Meaning} (ready : PutReady at bytes a.now) where
  pub to_read : {T E : Type 0} {r : Result T E} {buf : List ℕ} {b : Meaning} → ReadTold 0 at buf r a b → Run 0 (Putting at bytes (a.now.seen 0)) a b
  to_read {b = b} read =
      let here : (c : List ℕ) → a.now.may_leave 0 c → Putting at bytes (a.now.seen 0) c = λ c h. unchanged at bytes (a.now.seen 0) c (ready.settled.only c h) in
      then_call (started 0 (Putting at bytes (a.now.seen 0)) a here) read.ticks (λ c h. here c (read.crash c h))

  pub is_ready : {T E : Type 0} {r : Result T E} {buf : List ℕ} {b : Meaning} → ReadTold 0 at buf r a b → Reads (a.now.seen 0) at buf → length buf ≡ 1 → IsReady 0 at (slice_index buf 0 == 1) b.now
  is_ready {buf = buf} {b = b} read reads long = record {
    settled = record { only = λ image h. ready.settled.only image (read.crash image h) ∙ sym read.seen };
    within = omega (arith, ready.within, ap (length {A = ℕ}) read.seen);
    gate = ap (λ (n : ℕ). n == 1) (reads 0 (omega (arith, long)) ∙ ap (slice_index (a.now.seen 0)) (omega arith) ∙ sym (ap (λ (l : List ℕ). slice_index l at) read.seen));
  }

  pub to_close : {T E : Type 0} {r : Result T E} {b c : Meaning} → b.now.seen 0 ≡ a.now.seen 0 → Run 0 (Putting at bytes (a.now.seen 0)) a b → CloseTold 0 at r b c → Run 0 (Putting at bytes (a.now.seen 0)) a c
  to_close seen run call = then_run run call.run (λ i h. closing at bytes (a.now.seen 0) i (subst (λ (s : List ℕ). Closing at s i) seen h))

  pub to_fill : {T E : Type 0} {r : Result T E} {b c : Meaning} → SameBeside at 1 (a.now.seen 0) (b.now.seen 0) → slice_index (b.now.seen 0) at ≢ 1 → Run 0 (Putting at bytes (a.now.seen 0)) a b → WriteSyncedTold 0 (at + 1) bytes r b c → Run 0 (Putting at bytes (a.now.seen 0)) a c
  to_fill {b = b} o gate run call =
      then_run run call.run (λ i h. filling at bytes (a.now.seen 0) (b.now.seen 0) i o gate (torn_outside (omega (arith, o.same_length, ready.within)) h))

  pub to_open : {T E : Type 0} {r : Result T E} {b c : Meaning} → SameBeside at (1 + length bytes) (a.now.seen 0) (b.now.seen 0) → Reads (b.now.seen 0) (at + 1) bytes → Run 0 (Putting at bytes (a.now.seen 0)) a b → WriteSyncedTold 0 at (1 ∷ []) r b c → Run 0 (Putting at bytes (a.now.seen 0)) a c
  to_open {b = b} o reads run call =
      then_run run call.run (λ i h. opening at bytes (a.now.seen 0) (b.now.seen 0) i o reads (torn_outside (omega (arith, o.same_length, ready.within)) h))

-- the byte that was read is the gate
pub gate_ext : (bytes s : List ℕ) (at : ℕ) → Reads s at bytes → length bytes ≡ 1 → (slice_index bytes 0 == 1) ≡ (slice_index s at == 1)
gate_ext bytes s at reads long = ap (λ (n : ℕ). n == 1) (reads 0 (omega (arith, long)) ∙ ap (slice_index s) (omega arith))

-- what holds in any case holds where it is answered Ok
pub on_ok_of : {T E P : Type 0} (r : Result T E) → P → OnOk r P
on_ok_of (Ok x) p = p
on_ok_of (Err e) p = tt
