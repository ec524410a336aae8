-- What a read of a platter gives is one of its images, by its record.
use Rattle.std.specs.Prelude.{◌≡◌, ℕ, ◌+◌, ◌-◌, ◌==◌, Bool, true, false, if◌then◌else◌, List, [], ◌∷◌, ◌++◌, length, replicate, take, drop, slice_index, refl}
use Rattle.std.proofs.Common.{inl, inr, sym, ◌∙◌, ap, subst, arith, length-append, length-drop, length-take}
use Rattle.std.proofs.lemmas.List.{length-replicate, get_or-take, get_or-drop, get_or_append_left, get_or-append_right, get_or_past}
use Rattle.std.proofs.lemmas.Bool.{cases_lt}
use Rattle.zb_outside.specs.Ranges.{Torn, Written, torn_same, zeros}
use Rattle.zb_devices.specs.Record.{padded, overlaid, PlatterState, fresh, changed, step, after, stands, TornBy, MayLeave}
use Rattle.zb_devices.specs.declared.device.Change.{Change}
use Rattle.zb_devices.specs.declared.device.Change.TheVariants.{Wrote, Synced, Restarted, Blanked, Fault, WriteFault}
use Rattle.zb_devices.specs.declared.device.Event.{Event}
use Rattle.zb_devices.specs.declared.device.Event.TheVariants.{Took, Printed, TakeFault, PutFault, At}

-- the three parts of an image that is written over
module _ (at : ℕ) (bytes old : List ℕ) where
  abbrev end : ℕ
  end = at + length bytes

  abbrev whole : List ℕ
  whole = padded old end

  whole_long : length whole ≡ length old + (end - length old)
  whole_long = omega (arith, length-append old (replicate (end - length old) 0), length-replicate {A = ℕ} (end - length old) 0)

  front_long : length (take at whole) ≡ at
  front_long = omega (arith, length-take at whole, whole_long)

  two_long : length (take at whole ++ bytes) ≡ end
  two_long = omega (arith, length-append (take at whole) bytes, front_long)

  overlaid_long : length (overlaid old at bytes) ≡ end + (length old - end)
  overlaid_long = omega (arith, length-append (take at whole ++ bytes) (drop end whole), two_long, length-drop end whole, whole_long)

  whole_at : (i : ℕ) → slice_index whole i ≡ slice_index old i
  whole_at i = elim (cases_lt i (length old)) [
    | inl lt ↦ get_or_append_left old (replicate (end - length old) 0) 0 i lt
    | inr ge ↦ get_or-append_right old (replicate (end - length old) 0) (length old) i 0 refl ge ∙ zeros (end - length old) (i - length old) ∙ sym (get_or_past old i 0 ge)
  ]

  pub overlaid_written : Written at bytes old (overlaid old at bytes)
  overlaid_written = record {
    size = omega (arith, overlaid_long);
    within = λ i lt. get_or_append_left (take at whole ++ bytes) (drop end whole) 0 (at + i) (omega (arith, two_long))
        ∙ get_or-append_right (take at whole) bytes at (at + i) 0 front_long (omega arith) ∙ ap (slice_index bytes) (omega arith);
    below = λ i lt. get_or_append_left (take at whole ++ bytes) (drop end whole) 0 i (omega (arith, two_long))
        ∙ get_or_append_left (take at whole) bytes 0 i (omega (arith, front_long)) ∙ get_or-take at whole i 0 lt ∙ whole_at i;
    above = λ i le. get_or-append_right (take at whole ++ bytes) (drop end whole) end i 0 two_long le
        ∙ get_or-drop end whole (i - end) 0 ∙ ap (slice_index whole) (omega arith) ∙ whole_at i;
  }

-- what was written may be torn so
pub torn_written : {at : ℕ} {bytes old new : List ℕ} → Written at bytes old new → Torn at (length bytes) old new
torn_written w = record { no_shorter = omega (arith, w.size); no_longer = omega (arith, w.size); below = λ i lt h. w.below i h; above = λ i lt h. w.above i h }

-- one range more
pub torn_more : (rs : List (ℕ × ℕ)) (r : ℕ × ℕ) (base d c : List ℕ) → TornBy rs base d → Torn r.0 r.1 d c → TornBy (rs ++ r ∷ []) base c
torn_more [] r base d c is torn = (c, subst (λ (b : List ℕ). Torn r.0 r.1 b c) is torn, refl)
torn_more (q ∷ rs) r base d c is torn = (is.0, is.1, torn_more rs r is.0 d c is.2 torn)

-- what a read gives is an image
change_keeps : (x : Change) (s : PlatterState) → MayLeave s s.seen → MayLeave (changed x s) (changed x s).seen
change_keeps (Wrote at bytes) s h = torn_more s.ranges (at, length bytes.items) s.base s.seen (overlaid s.seen at bytes.items) h (torn_written (overlaid_written at bytes.items s.seen))
change_keeps Synced s h = refl
change_keeps (Restarted choice) s h = refl
change_keeps Blanked s h = refl
change_keeps Fault s h = h
change_keeps (WriteFault at n) s h = torn_more s.ranges (at, n) s.base s.seen s.seen h (torn_same at n s.seen)

-- an event keeps what a read gives among the images
step_keeps : (p : ℕ) (e : Event) (s : PlatterState) → MayLeave s s.seen → MayLeave (step p e s) (step p e s).seen
step_keeps p (At q x) s h = either (q == p)
  where
    either : (b : Bool) → MayLeave (if b then changed x s else s) (if b then changed x s else s).seen
    either true = change_keeps x s h
    either false = h
step_keeps p (Took n) s h = h
step_keeps p (Printed bytes) s h = h
step_keeps p TakeFault s h = h
step_keeps p PutFault s h = h

-- and so do events
after_keeps : (p : ℕ) (es : List Event) (s : PlatterState) → MayLeave s s.seen → MayLeave (after p es s) (after p es s).seen
after_keeps p [] s h = h
after_keeps p (e ∷ es) s h = after_keeps p es (step p e s) (step_keeps p e s h)

-- a crash may leave what a read gives
pub seen_may_be_left : (es : List Event) (p : ℕ) → MayLeave (stands es p) (stands es p).seen
seen_may_be_left es p = after_keeps p es fresh refl
