-- What is written behind all that a header counts, and a header that is set then.
use Rattle.std.proofs.Common.{◌≡◌, inl, inr, ⊎_elim, ℕ, zero, suc, ◌+◌, ◌<◌, ◌≤◌, List, length, slice_index, Result, Ok, Err, IsErr, Option, None, Some, refl, ◌∙◌, ap, arith}
use Rattle.std.proofs.lemmas.Result.{on_ok_weaker}
use Rattle.zb_outside.specs.Meaning.{Meaning}
use Rattle.zb_outside.specs.Platters.{WriteSyncedTold}
use Rattle.zb_outside.specs.Ranges.{Torn, Written, SameBeside}
use Rattle.zb_outside.specs.Runs.{Run}
use Rattle.zb_outside.proofs.Runs.{then_run, weaker_run, torn_outside, written_outside, outside_wider, outside_then}
use Rattle.zb_cell.specs.Cell.{window, bytes_at, value}
use Rattle.zb_cell.specs.Set.{FormerOrNew, SetTold}
use Rattle.zb_cell.proofs.Values.{value_ext}
use Rattle.zb_slots.specs.declared.header.Header.{Header}
use Rattle.zb_slots.specs.declared.header.Header.TheVariants.{Free, Share, Parity}
use Rattle.zb_slots.specs.Headers.{header_text, HasRoom}
use Rattle.zb_slots.specs.Slots.{shown, header_in, slot_of}
use Rattle.zb_slots.proofs.Placed.{counted_to, shown_ext}
use Rattle.zb_slots.proofs.Texts.{reads_back}
use Rattle.zb_slots.specs.Changing.{IsReady}
use Rattle.zb_slots.specs.Filling.{end_of, MayFill, Filled, FormerOrFilled, FillTold}

pub length-window : (f : ℕ → ℕ) (at n : ℕ) → length (window f at n) ≡ n
unfolding window
length-window f at zero = refl
length-window f at (suc n) = let h = length-window f (at + 1) n in omega (arith, h)

pub end_is : (n : ℕ) (byte : ℕ → ℕ) (h : Option Header) → end_of (shown n byte h) ≡ counted_to h
end_is n byte None = refl
end_is n byte (Some Free) = refl
end_is n byte (Some (Share id len)) = let h = length-window byte 192 len in omega (arith, h)
end_is n byte (Some (Parity id turn len)) = let h = length-window byte 192 len in omega (arith, h)

-- where the cell's value and what it counts are the same, so is the slot
pub same_slot : (n f place : ℕ) (s c : List ℕ) → n ≤ 16 → value c place ≡ value s place
    → ((i : ℕ) → 128 ≤ i → i < end_of (slot_of n f s place) → bytes_at c place i ≡ bytes_at s place i) → slot_of n f c place ≡ slot_of n f s place
same_slot n f place s c few v same =
    let h : Option Header = header_in n f (value s place) in
    ap (λ (w : Option (List ℕ)). shown n (bytes_at c place) (header_in n f w)) v
    ∙ shown_ext n (bytes_at c place) (bytes_at s place) few h (λ i le lt. same i le (omega (arith, lt, end_is n (bytes_at s place) h)))

module _ (n f place at : ℕ) (bytes : List ℕ) (header : Header) (s : List ℕ) (may : MayFill n f place at bytes header s) (within : place + (192 + f) ≤ length s) where
  before_same : (c : List ℕ) → SameBeside (place + at) (length bytes) s c → (i : ℕ) → i < at → bytes_at c place i ≡ bytes_at s place i
  before_same c o i lt = o.same (place + i) (inl (omega arith))

  value_same : (c : List ℕ) → SameBeside (place + at) (length bytes) s c → value c place ≡ value s place
  value_same c o = value_ext (bytes_at c place) (bytes_at s place) (λ i lt. before_same c o i (omega (arith, may.behind)))

  within_slot : (c : List ℕ) → SameBeside (place + at) (length bytes) s c → SameBeside place (192 + f) s c
  within_slot c o = outside_wider (omega arith) (omega (arith, may.within)) o

  pub body_torn : (c : List ℕ) → Torn (place + at) (length bytes) s c → FormerOrFilled n f place at bytes header s c
  body_torn c torn =
      let o : SameBeside (place + at) (length bytes) s c = torn_outside (omega (arith, may.within, within)) torn in
      record {
        outside = within_slot c o;
        either = inl (same_slot n f place s c may.few (value_same c o) (λ i le lt. before_same c o i (omega (arith, lt, may.uncounted))));
      }

  beside : (t : List ℕ) → Written (place + at) bytes s t → SameBeside (place + at) (length bytes) s t
  beside t w = written_outside (omega (arith, may.within, within)) w

  pub filled : (t c : List ℕ) → HasRoom header → Written (place + at) bytes s t → SameBeside place 128 t c → value c place ≡ Some (header_text header) → Filled n f place at bytes header s c
  filled t c room w o new = record {
    slot = ap (λ (v : Option (List ℕ)). shown n (bytes_at c place) (header_in n f v)) new ∙ ap (shown n (bytes_at c place)) (reads_back n f header room may.stands);
    below = λ i le lt. o.same (place + i) (inr (omega arith)) ∙ w.below (place + i) (omega arith);
    put = λ i lt. o.same (place + (at + i)) (inr (omega (arith, may.behind))) ∙ ap (slice_index t) (omega arith) ∙ w.within i lt;
  }

  pub header_set : (t c : List ℕ) → HasRoom header → Written (place + at) bytes s t → FormerOrNew place (header_text header) t c → FormerOrFilled n f place at bytes header s c
  header_set t c room w h = record {
    outside = outside_then (within_slot t (beside t w)) (outside_wider (omega arith) (omega arith) h.outside);
    either = ⊎_elim
        (λ former. inl (same_slot n f place s c may.few (former ∙ value_same t (beside t w))
        (λ i le lt. h.outside.same (place + i) (inr (omega arith)) ∙ before_same t (beside t w) i (omega (arith, lt, may.uncounted)))))
        (λ new. inr (filled t c room w h.outside new))
        h.either;
  }

pub fill_failed : {T E : Type 0} {n f p place at : ℕ} {bytes : List ℕ} {header : Header} (r : Result T E) {a b : Meaning} → IsErr r
    → Run p (FormerOrFilled n f place at bytes header (a.now.seen p)) a b → FillTold n f p place at bytes header r a b
fill_failed (Ok x) err run = absurd (cc err)
fill_failed (Err e) err run = record { run = run; settled = tt; filled = tt }

module _ {n f p place at : ℕ} {bytes : List ℕ} {header : Header} {a : Meaning} (may : MayFill n f place at bytes header (a.now.seen p)) (ready : IsReady p place f a.now) where
  pub to_body : {T E : Type 0} {r : Result T E} {b : Meaning} → WriteSyncedTold p (place + at) bytes r a b → Run p (FormerOrFilled n f place at bytes header (a.now.seen p)) a b
  to_body put = weaker_run put.run (λ c torn. body_torn n f place at bytes header (a.now.seen p) may ready.within c torn)

  pub to_header : {T E U F : Type 0} {x : T} {r : Result U F} {b c : Meaning} → HasRoom header → WriteSyncedTold {E = E} p (place + at) bytes (Ok x) a b → SetTold p place (header_text header) r b c → FillTold n f p place at bytes header r a c
  to_header {r = r} {b = b} {c = c} room put set = record {
    run = then_run (to_body put) set.run (λ i h. header_set n f place at bytes header (a.now.seen p) may ready.within (b.now.seen p) i room put.written h);
    settled = set.settled;
    filled = on_ok_weaker r (λ new. filled n f place at bytes header (a.now.seen p) may ready.within (b.now.seen p) (c.now.seen p) room put.written (set.run.here (c.now.seen p) (c.seen_now p)).outside new) set.value;
  }

  -- the cell lies within the platter also after the body is written
  pub still_within : {T E : Type 0} {x : T} {b : Meaning} → WriteSyncedTold {E = E} p (place + at) bytes (Ok x) a b → place + 128 ≤ length (b.now.seen p)
  still_within {b = b} put = let size = (written_outside {at = place + at} (omega (arith, may.within, ready.within)) put.written).same_length in omega (arith, size, ready.within)
