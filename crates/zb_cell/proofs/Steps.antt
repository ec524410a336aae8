-- What each write of a change leaves.
use Rattle.std.proofs.Common.{◌≡◌, ◌≢◌, ◌⊎◌, inl, inr, ⊎_elim, ℕ, ◌+◌, ◌<◌, ◌≤◌, ◌==◌, Bool, true, false, if◌then◌else◌, List, [], ◌∷◌, length, slice_index, Result, Ok, Err, IsErr, OnOk, Some, refl, sym, ◌∙◌, ap, subst, arith}
use Rattle.std.proofs.lemmas.Result.{on_ok_weaker}
use Rattle.std.proofs.lemmas.Bool.{cases_eq, cases_lt}
use Rattle.zb_outside.specs.Counts.{Counts, Touches, raised, raised_by}
use Rattle.zb_outside.specs.Meaning.{Meaning}
use Rattle.zb_outside.specs.Platters.{ReadTold, WriteSyncedTold}
use Rattle.zb_outside.specs.Ranges.{Torn, Written, Reads, SameBeside}
use Rattle.zb_outside.specs.Runs.{Run, IsSettled}
use Rattle.zb_outside.proofs.Runs.{started, then_run, then_call, weaker_run, torn_outside, written_outside, outside_wider, outside_then, outside_same}
use Rattle.zb_cell.specs.Cell.{counts, following, bytes_at, value, first_holds, copy_for, turn_for, IsBody}
use Rattle.zb_cell.specs.Work.{IsFree, Works}
use Rattle.zb_cell.specs.declared.cell.Work.{Work}
use Rattle.zb_cell.specs.Set.{FormerOrNew, HoldsCopy, Closing, CloseTold, SetTold, IsReady}
use Rattle.zb_cell.proofs.Values.{AreCopies, copies_apart, free_ext, window_is, counts_ext, alone_ext, value_ext, closed, opened, open_counts}

-- the free copy is shut, and the rest is as in s
pub record IsShut (place at : ℕ) (s c : List ℕ) : Type 0 where
  pub outside : SameBeside (place + at) 64 s c
  pub shut : bytes_at c place at ≢ 1

-- and what stands behind its gate is new
pub record IsFilled (place at turn : ℕ) (payload s c : List ℕ) : Type 0 where
  pub is_shut : IsShut place at s c
  pub body : IsBody turn payload (bytes_at c (place + at + 1))

-- bytes that are written give their body
pub written_body : (at turn : ℕ) (payload body c d : List ℕ) → 63 ≡ length body → IsBody turn payload (slice_index body) → Written at body c d → IsBody turn payload (bytes_at d at)
written_body at turn payload body c d size b w = record {
  turn_is = w.within 0 (omega arith) ∙ b.turn_is;
  front = λ i le lt. w.within i (omega arith) ∙ b.front i le lt;
  payload_is = λ i lt. w.within (7 + i) (omega arith) ∙ b.payload_is i lt;
  back = λ i le lt. w.within i (omega arith) ∙ b.back i le lt;
}

-- a body stays where its bytes do
pub same_body : (at turn : ℕ) (payload c d : List ℕ) → ((i : ℕ) → i < 63 → slice_index d (at + i) ≡ slice_index c (at + i)) → IsBody turn payload (bytes_at c at) → IsBody turn payload (bytes_at d at)
same_body at turn payload c d same b = record {
  turn_is = same 0 (omega arith) ∙ b.turn_is;
  front = λ i le lt. same i (omega arith) ∙ b.front i le lt;
  payload_is = λ i lt. same (7 + i) (omega arith) ∙ b.payload_is i lt;
  back = λ i le lt. same i lt ∙ b.back i le lt;
}

module _ (place at other turn : ℕ) (payload s : List ℕ) (two : AreCopies at other) (free : IsFree (bytes_at s place) at other turn) (long : 40 ≡ length payload) where
  -- the other copy is as in s
  other_same : (c : List ℕ) → SameBeside (place + at) 64 s c → (i : ℕ) → other ≤ i → i < other + 64 → bytes_at c place i ≡ bytes_at s place i
  other_same c o i le lt = o.same (place + i) (⊎_elim (λ h. inr (omega arith)) (λ h. inl (omega arith)) (copies_apart at other two).apart)

  within_cell : (c : List ℕ) → SameBeside (place + at) 64 s c → SameBeside place 128 s c
  within_cell c o = let a = copies_apart at other two in outside_wider (omega arith) (omega (arith, a.low)) o

  pub shut_former : (c : List ℕ) → IsShut place at s c → FormerOrNew place payload s c
  shut_former c h = record {
    outside = within_cell c h.outside;
    either = inl (closed (bytes_at c place) at other two h.shut ∙ alone_ext (bytes_at c place) (bytes_at s place) other (other_same c h.outside) ∙ sym free.value);
  }

  gate_range : (c : List ℕ) → SameBeside (place + at) 1 s c → SameBeside (place + at) 64 s c
  gate_range c o = outside_wider (omega arith) (omega arith) o

  pub closing_former : (c : List ℕ) → Closing (place + at) s c → FormerOrNew place payload s c
  closing_former c h =
      ⊎_elim
      (λ same. record {
        outside = within_cell c (gate_range c h.outside);
        either = inl (value_ext (bytes_at c place) (bytes_at s place) (λ i lt. elim (cases_eq i at) [
          | inl is ↦ ap (λ (k : ℕ). slice_index c (place + k)) is ∙ same ∙ sym (ap (λ (k : ℕ). slice_index s (place + k)) is)
          | inr not ↦ h.outside.same (place + i) (beside i not)
        ]));
      })
      (λ shut. shut_former c (record { outside = gate_range c h.outside; shut = shut }))
      h.gate
    where
      beside : (i : ℕ) → i ≢ at → (place + i < place + at) ⊎ (place + at + 1 ≤ place + i)
      beside i not = elim (cases_lt i at) [ inl lt ↦ inl (omega arith) | inr ge ↦ inr (omega arith) ]

  pub filling_shut : (c d : List ℕ) → IsShut place at s c → SameBeside (place + at + 1) 63 c d → IsShut place at s d
  filling_shut c d h o = record {
    outside = outside_then h.outside (outside_wider (omega arith) (omega arith) o);
    shut = λ e. h.shut (sym (o.same (place + at) (inl (omega arith))) ∙ e);
  }

  pub filled : (c d body : List ℕ) → IsShut place at s c → Written (place + at + 1) body c d → place + at + 1 + 63 ≤ length c → 63 ≡ length body → IsBody turn payload (slice_index body) → IsFilled place at turn payload s d
  filled c d body h w fits size is_body = record {
    is_shut = filling_shut c d h (subst (λ (n : ℕ). SameBeside (place + at + 1) n c d) (sym size) (written_outside (omega arith) w));
    body = written_body (place + at + 1) turn payload body c d size is_body w;
  }

  pub still_filled : (c d : List ℕ) → IsFilled place at turn payload s c → SameBeside (place + at) 1 c d → IsBody turn payload (bytes_at d (place + at + 1))
  still_filled c d h o = same_body (place + at + 1) turn payload c d (λ i lt. o.same (place + at + 1 + i) (inr (omega arith))) h.body

  pub now_open : (c d : List ℕ) → IsFilled place at turn payload s c → SameBeside (place + at) 1 c d → bytes_at d place at ≡ 1 → value d place ≡ Some payload
  now_open c d h o gate =
      let o64 : SameBeside (place + at) 64 s d = outside_then h.is_shut.outside (outside_wider (omega arith) (omega arith) o) in
      let b = still_filled c d h o in
      let turn_is : bytes_at d place (at + 1) ≡ turn = ap (slice_index d) (omega arith) ∙ b.turn_is in
      let others = other_same d o64 in
      let same_counts : counts (bytes_at d place) other ≡ counts (bytes_at s place) other = counts_ext (bytes_at d place) (bytes_at s place) other (others other (omega arith) (omega arith)) (others (other + 1) (omega arith) (omega arith)) in
      let same_turn : bytes_at d place (other + 1) ≡ bytes_at s place (other + 1) = others (other + 1) (omega arith) (omega arith) in
      opened (bytes_at d place) at other two (open_counts (bytes_at d place) at gate (omega (arith, turn_is, free.small)))
      (λ c1. turn_is ∙ free.follows (sym same_counts ∙ c1) ∙ ap following (sym same_turn))
      ∙ ap (λ (xs : List ℕ). Some xs) (window_is (bytes_at d place) payload (at + 8) 40 long (λ i lt. ap (slice_index d) (omega arith) ∙ b.payload_is i lt))

  pub opening : (c d : List ℕ) → IsFilled place at turn payload s c → SameBeside (place + at) 1 c d → FormerOrNew place payload s d
  opening c d h o =
      let o64 : SameBeside (place + at) 64 s d = outside_then h.is_shut.outside (outside_wider (omega arith) (omega arith) o) in
      elim (cases_eq (bytes_at d place at) 1) [
        | inl gate ↦ record { outside = within_cell d o64; either = inr (now_open c d h o gate) }
        | inr shut ↦ shut_former d (record { outside = o64; shut = shut })
      ]

-- a gate that was open is closed
pub closed_gate : {T E : Type 0} {p at : ℕ} {r : Result T E} {a b : Meaning} → at + 1 ≤ length (a.now.seen p) → slice_index (a.now.seen p) at ≡ 1 → WriteSyncedTold p at (0 ∷ []) r a b → CloseTold p at r a b
closed_gate {T} {E} {p} {at} {r} {a} {b} within gate put = record {
  run = weaker_run put.run (λ c torn. record {
    outside = torn_outside within torn;
    gate = elim (cases_eq (slice_index c at) 1) [ inl one ↦ inl (one ∙ sym gate) | inr shut ↦ inr shut ];
  });
  settled = put.settled;
  shut = on_ok_weaker r (λ w. let e : slice_index (b.now.seen p) at ≡ 0 = ap (slice_index (b.now.seen p)) (omega arith) ∙ w.within 0 (omega arith) in λ one. absurd (omega (arith, e, one))) put.written;
  outside = on_ok_weaker r (λ w. written_outside within w) put.written;
}

-- and is 0 then
pub zero_gate : {T E : Type 0} {p at : ℕ} (r : Result T E) {a b : Meaning} → WriteSyncedTold p at (0 ∷ []) r a b → OnOk r (slice_index (b.now.seen p) at ≡ 0)
zero_gate {p = p} {at = at} r {b = b} put = on_ok_weaker r (λ w. ap (slice_index (b.now.seen p)) (omega arith) ∙ w.within 0 (omega arith)) put.written

-- which copy a change is written to, by the bytes that were read
pub record Chosen (f : ℕ → ℕ) (at turn : ℕ) : Type 0 where
  pub other : ℕ
  pub two : AreCopies at other
  pub free : IsFree f at other turn

-- a change of the cell at this place, before its first call
pub record Change (p place at turn : ℕ) (payload : List ℕ) (a : Meaning) : Type 0 where
  pub copy : Chosen (bytes_at (a.now.seen p) place) at turn
  pub long : 40 ≡ length payload
  pub within : place + 128 ≤ length (a.now.seen p)
  pub settled : IsSettled p a.now

-- The device calls of a change, one after another.
module _ {p place at turn : ℕ} {payload : List ℕ} {a : Meaning} (ch : Change p place at turn payload a) where
  pub to_read : {T E : Type 0} {r : Result T E} {bytes : List ℕ} {b : Meaning} → ReadTold p place bytes r a b → Run p (FormerOrNew place payload (a.now.seen p)) a b
  to_read {b = b} read =
      let Q : List ℕ → Type 0 = FormerOrNew place payload (a.now.seen p) in
      let here : (c : List ℕ) → a.now.may_leave p c → Q c = λ c h. subst Q (sym (ch.settled.only c h)) (record { outside = outside_same place 128 (a.now.seen p); either = inl refl }) in
      then_call (started p Q a here) read.ticks (λ c h. here c (read.crash c h))

  pub to_close : {T E : Type 0} {r : Result T E} {b c : Meaning} → b.now.seen p ≡ a.now.seen p → Run p (FormerOrNew place payload (a.now.seen p)) a b → CloseTold p (place + at) r b c → Run p (FormerOrNew place payload (a.now.seen p)) a c
  to_close seen run call = then_run run call.run (λ i h. closing_former place at ch.copy.other turn payload (a.now.seen p) ch.copy.two ch.copy.free ch.long i (subst (λ (s : List ℕ). Closing (place + at) s i) seen h))

  pub is_shut : (s t : List ℕ) → s ≡ a.now.seen p → SameBeside (place + at) 1 s t → slice_index t (place + at) ≢ 1 → IsShut place at (a.now.seen p) t
  is_shut s t seen outside shut = record { outside = subst (λ (u : List ℕ). SameBeside (place + at) 64 u t) seen (outside_wider (omega arith) (omega arith) outside); shut = shut }

  fits : (s : List ℕ) → SameBeside (place + at) 64 (a.now.seen p) s → place + at + 64 ≤ length s
  fits s o = let h = copies_apart at ch.copy.other ch.copy.two in omega (arith, o.same_length, h.low, ch.within)

  pub to_fill : {T E : Type 0} {r : Result T E} {body : List ℕ} {b c : Meaning} → 63 ≡ length body → IsShut place at (a.now.seen p) (b.now.seen p) → Run p (FormerOrNew place payload (a.now.seen p)) a b → WriteSyncedTold p (place + at + 1) body r b c → Run p (FormerOrNew place payload (a.now.seen p)) a c
  to_fill {body = body} {b = b} size shut run call =
      then_run run call.run (λ i h.
      shut_former place at ch.copy.other turn payload (a.now.seen p) ch.copy.two ch.copy.free ch.long i
      (filling_shut place at ch.copy.other turn payload (a.now.seen p) ch.copy.two ch.copy.free ch.long (b.now.seen p) i shut
      (torn_outside (omega (arith, fits (b.now.seen p) shut.outside)) (subst (λ (n : ℕ). Torn (place + at + 1) n (b.now.seen p) i) (sym size) h))))

  pub is_filled : (body s t : List ℕ) → 63 ≡ length body → IsBody turn payload (slice_index body) → IsShut place at (a.now.seen p) s → Written (place + at + 1) body s t → IsFilled place at turn payload (a.now.seen p) t
  is_filled body s t size is_body shut w =
      filled place at ch.copy.other turn payload (a.now.seen p) ch.copy.two ch.copy.free ch.long s t body shut w (omega (arith, fits s shut.outside)) size is_body

  pub to_open : {T E : Type 0} {r : Result T E} {b c : Meaning} → IsFilled place at turn payload (a.now.seen p) (b.now.seen p) → Run p (FormerOrNew place payload (a.now.seen p)) a b → WriteSyncedTold p (place + at) (1 ∷ []) r b c → Run p (FormerOrNew place payload (a.now.seen p)) a c
  to_open {b = b} full run call =
      then_run run call.run (λ i h.
      opening place at ch.copy.other turn payload (a.now.seen p) ch.copy.two ch.copy.free ch.long (b.now.seen p) i full (torn_outside (omega (arith, fits (b.now.seen p) full.is_shut.outside)) h))

  pub is_new : (s t : List ℕ) → IsFilled place at turn payload (a.now.seen p) s → Written (place + at) (1 ∷ []) s t → value t place ≡ Some payload
  is_new s t full w =
      now_open place at ch.copy.other turn payload (a.now.seen p) ch.copy.two ch.copy.free ch.long s t full (written_outside (omega (arith, fits s full.is_shut.outside)) w)
      (ap (slice_index t) (omega arith) ∙ w.within 0 (omega arith))

  -- the copy that was written is open, and every other byte is as before
  pub is_written : (s t : List ℕ) → at ≡ copy_for (bytes_at (a.now.seen p) place) → turn ≡ turn_for (bytes_at (a.now.seen p) place) → IsFilled place at turn payload (a.now.seen p) s → Written (place + at) (1 ∷ []) s t → HoldsCopy place payload (a.now.seen p) t
  is_written s t at_is turn_is full w =
      let one : SameBeside (place + at) 1 s t = written_outside (omega (arith, fits s full.is_shut.outside)) w in
      let b : IsBody turn payload (bytes_at t (place + at + 1)) = still_filled place at ch.copy.other turn payload (a.now.seen p) ch.copy.two ch.copy.free ch.long s t full one in
      record {
        gate = ap (λ (k : ℕ). slice_index t (place + k)) (sym at_is) ∙ ap (slice_index t) (omega arith) ∙ w.within 0 (omega arith);
        body = subst (λ (k : ℕ). IsBody k payload (bytes_at t (place + copy_for (bytes_at (a.now.seen p) place) + 1))) turn_is (subst (λ (k : ℕ). IsBody turn payload (bytes_at t (place + k + 1))) at_is b);
        beside = subst (λ (k : ℕ). SameBeside (place + k) 64 (a.now.seen p) t) at_is (outside_then full.is_shut.outside (outside_wider (omega arith) (omega arith) one));
      }

pub set_failed : {T E : Type 0} {p place : ℕ} {payload : List ℕ} (r : Result T E) {a b : Meaning} → IsErr r → Run p (FormerOrNew place payload (a.now.seen p)) a b → SetTold p place payload r a b
set_failed (Ok x) err run = absurd (cc err)
set_failed (Err e) err run = record { run = run; settled = tt; value = tt; copy = tt }

pub chosen : (bytes s : List ℕ) (place : ℕ) (w : Work) → length bytes ≡ 128 → Reads s place bytes → Works (slice_index bytes) w → Chosen (bytes_at s place) w.at w.turn
chosen bytes s place w long reads works =
    let same : (i : ℕ) → i < 128 → slice_index bytes i ≡ bytes_at s place i = λ i lt. reads i (omega (arith, long)) in
    ⊎_elim
    (λ h. record { other = 64; two = inl (h.0, refl); free = free_ext (slice_index bytes) (bytes_at s place) w.at 64 w.turn (inl (h.0, refl)) same (subst (λ (o : ℕ). IsFree (slice_index bytes) o 64 w.turn) (sym h.0) h.1) })
    (λ h. record { other = 0; two = inr (h.0, refl); free = free_ext (slice_index bytes) (bytes_at s place) w.at 0 w.turn (inr (h.0, refl)) same (subst (λ (o : ℕ). IsFree (slice_index bytes) o 0 w.turn) (sym h.0) h.1) })
    works.1

-- the gate of the copy that the bytes name is as they say
pub to_ready : {T E : Type 0} {r : Result T E} {p place : ℕ} {bytes : List ℕ} {a b : Meaning} (w : Work) → ReadTold p place bytes r a b → Reads (a.now.seen p) place bytes → length bytes ≡ 128 → Works (slice_index bytes) w → IsSettled p a.now → place + 128 ≤ length (a.now.seen p) → IsReady p (place + w.at) w.is_open b.now
to_ready {p = p} {place = place} {bytes = bytes} {a = a} {b = b} w read reads long works settled within =
    let low : w.at ≤ 64 = ⊎_elim (λ h. omega (arith, h.0)) (λ h. omega (arith, h.0)) works.1 in
    record {
      settled = record { only = λ image h. settled.only image (read.crash image h) ∙ sym read.seen };
      within = omega (arith, within, low, ap length read.seen);
      gate = works.0 ∙ ap (λ (n : ℕ). n == 1) (reads w.at (omega (arith, low, long)) ∙ sym (ap (λ (l : List ℕ). slice_index l (place + w.at)) read.seen));
    }

-- the bytes that were read say where a change goes, which turn it has, and how many writes it takes
module _ (f g : ℕ → ℕ) (same : (i : ℕ) → i < 128 → f i ≡ g i) where
  holds_ext : first_holds f ≡ first_holds g
  holds_ext = let a : f 0 ≡ g 0 = same 0 (omega arith) in let b : f 1 ≡ g 1 = same 1 (omega arith) in let c : f 64 ≡ g 64 = same 64 (omega arith) in let d : f 65 ≡ g 65 = same 65 (omega arith) in rw (a, b, c, d) refl

  pub copy_ext : copy_for f ≡ copy_for g
  copy_ext = ap (λ (b : Bool). if b then 64 else 0) holds_ext

  pub turn_ext : turn_for f ≡ turn_for g
  turn_ext = let b : f 1 ≡ g 1 = same 1 (omega arith) in let c : f 64 ≡ g 64 = same 64 (omega arith) in let d : f 65 ≡ g 65 = same 65 (omega arith) in rw (holds_ext, b, c, d) refl

pub copy_low : (f : ℕ → ℕ) → copy_for f ≤ 64
copy_low f = grind arith

pub read_same : (bytes s : List ℕ) (place : ℕ) → length bytes ≡ 128 → Reads s place bytes → (i : ℕ) → i < 128 → slice_index bytes i ≡ bytes_at s place i
read_same bytes s place long reads i lt = reads i (omega (arith, long))

-- the writes of a change: one that closes the gate where it is open, one of the body and one that opens the gate
pub all_writes : (is_open : Bool) (w x y z : ℕ) → x ≡ raised_by (if is_open then 1 else 0) w → y ≡ raised x → z ≡ raised y → z ≡ raised_by (if is_open then 3 else 2) w
all_writes false w x y z a b c = omega (arith, a, b, c)
all_writes true w x y z a b c = omega (arith, a, b, c)

pub no_writes : {B : Type 0} {counts : B → Counts} {leads : B → B → Type 0} {p : ℕ} {f : Bool} {a b : B} → Touches counts leads p 0 f a b → (counts b).writes p ≡ (counts a).writes p
no_writes h = omega (arith, h.writes, h.most_writes)

-- the gate of the copy is open in the platter as it is in the bytes that were read
pub gate_ext : (bytes s : List ℕ) (place at : ℕ) (is_open : Bool) → ((i : ℕ) → i < 128 → slice_index bytes i ≡ bytes_at s place i) → at ≡ copy_for (slice_index bytes) → is_open ≡ (slice_index bytes at == 1) → is_open ≡ (bytes_at s place (copy_for (bytes_at s place)) == 1)
gate_ext bytes s place at is_open same at_is is =
    let low : copy_for (slice_index bytes) ≤ 64 = copy_low (slice_index bytes) in
    is ∙ ap (λ (k : ℕ). slice_index bytes k == 1) at_is ∙ ap (λ (k : ℕ). k == 1) (same (copy_for (slice_index bytes)) (omega arith)) ∙ ap (λ (k : ℕ). bytes_at s place k == 1) (copy_ext (slice_index bytes) (bytes_at s place) same)
