-- What each event in the record of an outside in memory tells of its call.
use Rattle.std.proofs.Common.{◌≡◌, ◌≢◌, ◌⊎◌, inl, inr, ⊎_elim, ℕ, Bool, true, false, not, IsTrue, List, [], ◌∷◌, ◌++◌, length, drop, Result, Ok, Err, OnOk, Vec, refl, sym, ◌∙◌, ap, subst}
use Rattle.std.proofs.lemmas.Bool.{false≢true}
use Rattle.std.specs.declared.alloc.Global.{Global}
use Rattle.zb_outside.specs.Meaning.{Meaning}
use Rattle.zb_outside.specs.Ranges.{Torn, Written, torn_same}
use Rattle.zb_outside.specs.Runs.{Held}
use Rattle.zb_outside.specs.Platters.{WriteTold, SyncTold, RestartTold, BlankTold}
use Rattle.zb_outside.specs.Streams.{Rose}
use Rattle.zb_devices.specs.Answers.{Answers, Refuses}
use Rattle.zb_devices.specs.Record.{PlatterState, changed, written, becomes, chosen, stands, MayLeave}
use Rattle.zb_devices.specs.Images.{torn_written, overlaid_written, seen_may_be_left}
use Rattle.zb_devices.specs.Memory.{told, Noted, Same, Leaves, Spoils, meaning_of_device, streams_of_device, platter_of_device}
use Rattle.zb_devices.specs.declared.device.Change.{Change}
use Rattle.zb_devices.specs.declared.device.Change.TheVariants.{Wrote, Synced, Restarted, Blanked, Fault, WriteFault}
use Rattle.zb_devices.specs.declared.device.Event.{Event}
use Rattle.zb_devices.specs.declared.device.Event.TheVariants.{At}
use Rattle.zb_devices.specs.declared.device.Device.{Device}
use Rattle.zb_devices.proofs.Chosen.{torn_last, chosen_may_be_left}
use Rattle.zb_devices.proofs.Recorded.{stands_here, stands_there, ticks, frozen_ticks}

on_ok : {T E P : Type 0} (r : Result T E) → P → OnOk r P
on_ok (Ok x) h = h
on_ok (Err e) h = tt

module _ {T E : Type 0} (script : List ℕ) (es : List Event) (p : ℕ) (works still_works : Bool) (on : still_works ≡ true → works ≡ true) where
  write_told : (at : ℕ) (bytes : Vec ℕ Global) (r : Result T E) → WriteTold p at bytes.items r (told script es works) (told script (es ++ At p (Wrote at bytes) ∷ []) still_works)
  write_told at bytes r =
      let e = At p (Wrote at bytes) in
      let written : Written at bytes.items (stands es p).seen (stands (es ++ e ∷ []) p).seen = subst (λ (s : PlatterState). Written at bytes.items (stands es p).seen s.seen) (sym (stands_here es p (Wrote at bytes))) (overlaid_written at bytes.items (stands es p).seen) in
      record {
        ticks = ticks script es p (Wrote at bytes) works still_works on;
        crash = λ image h. torn_last (stands es p).ranges (at, length bytes.items) (stands es p).base image (subst (λ (s : PlatterState). MayLeave s image) (stands_here es p (Wrote at bytes)) h);
        torn = torn_written written;
        written = on_ok r written;
      }

  -- it has become one of its images
  became : (x : Change) (i : List ℕ) → changed x (stands es p) ≡ becomes i (stands es p) → MayLeave (stands es p) i → (r : Result T E) → RestartTold p r (told script es works) (told script (es ++ At p x ∷ []) still_works)
  became x i is left_i r =
      let e = At p x in
      let here : stands (es ++ e ∷ []) p ≡ becomes i (stands es p) = stands_here es p x ∙ is in
      let seen : (stands (es ++ e ∷ []) p).seen ≡ i = ap (λ (s : PlatterState). s.seen) here in
      let left : (image : List ℕ) → MayLeave (stands (es ++ e ∷ []) p) image → image ≡ i = λ image h. subst (λ (s : PlatterState). MayLeave s image) here h in
      record {
        ticks = ticks script es p x works still_works on;
        crash = λ image h. subst (MayLeave (stands es p)) (sym (left image h)) left_i;
        seen = subst (MayLeave (stands es p)) (sym seen) left_i;
        ok = on_ok r (record { only = λ image h. left image h ∙ sym seen });
      }

  sync_told : (r : Result T E) → SyncTold p r (told script es works) (told script (es ++ At p Synced ∷ []) still_works)
  sync_told r =
      let e = At p Synced in
      let left : (image : List ℕ) → MayLeave (stands (es ++ e ∷ []) p) image → image ≡ (stands es p).seen = λ image h. subst (λ (s : PlatterState). MayLeave s image) (stands_here es p Synced) h in
      record {
        ticks = ticks script es p Synced works still_works on;
        seen = ap (λ (s : PlatterState). s.seen) (stands_here es p Synced);
        crash = λ image h. subst (MayLeave (stands es p)) (sym (left image h)) (seen_may_be_left es p);
        durable = on_ok r left;
      }

  blank_told : (r : Result T E) → BlankTold p r (told script es works) (told script (es ++ At p Blanked ∷ []) still_works)
  blank_told r =
      let e = At p Blanked in
      let seen : (stands (es ++ e ∷ []) p).seen ≡ [] = ap (λ (s : PlatterState). s.seen) (stands_here es p Blanked) in
      let left : (image : List ℕ) → MayLeave (stands (es ++ e ∷ []) p) image → image ≡ [] = λ image h. subst (λ (s : PlatterState). MayLeave s image) (stands_here es p Blanked) h in
      record {
        ticks = ticks script es p Blanked works still_works on;
        crash = λ image h. inl (left image h);
        seen = inl seen;
        ok = on_ok r (record { seen = seen; only = left });
      }

module _ (script : List ℕ) (es : List Event) (p : ℕ) (works still_works : Bool) (on : still_works ≡ true → works ≡ true) where
  fault_held : Held p (told script es works) (told script (es ++ At p Fault ∷ []) still_works)
  fault_held = record {
    ticks = ticks script es p Fault works still_works on;
    seen = ap (λ (s : PlatterState). s.seen) (stands_here es p Fault);
    left = λ image h. subst (λ (s : PlatterState). MayLeave s image) (stands_here es p Fault) h;
  }

  fault_spoils : (at : ℕ) (bytes : List ℕ) → Spoils p at bytes (told script es works) (told script (es ++ At p (WriteFault at (length bytes)) ∷ []) still_works)
  fault_spoils at bytes =
      let x = WriteFault at (length bytes) in
      record {
        ticks = ticks script es p x works still_works on;
        seen = ap (λ (s : PlatterState). s.seen) (stands_here es p x);
        crash = λ image h. torn_last (stands es p).ranges (at, length bytes) (stands es p).base image (subst (λ (s : PlatterState). MayLeave s image) (stands_here es p x) h);
      }

-- the same of a device
module _ (old new : Device) where
  module _ {e : Event} (n : Noted e old new) where
    pub on : not new.is_frozen ≡ true → not old.is_frozen ≡ true
    on _ = ap not n.thawed

    pub meaning_is : meaning_of_device new ≡ told old.script.items (old.events.items ++ e ∷ []) (not new.is_frozen)
    meaning_is = λ i. told (n.script i) (n.events i) (not new.is_frozen)

  pub state_is : {p : ℕ} {x : Change} → Noted (At p x) old new → platter_of_device new p ≡ changed x (platter_of_device old p)
  state_is {p} {x} n = ap (λ (l : List Event). stands l p) n.events ∙ stands_here old.events.items p x

  pub wrote : {T E : Type 0} (p at : ℕ) (bytes : List ℕ) (copy : Vec ℕ Global) (r : Result T E) → copy.items ≡ bytes → Noted (At p (Wrote at copy)) old new → WriteTold p at bytes r (meaning_of_device old) (meaning_of_device new)
  wrote p at bytes copy r copied n = subst (λ (m : Meaning). WriteTold p at bytes r (meaning_of_device old) m) (sym (meaning_is n))
      (subst (λ (b : List ℕ). WriteTold p at b r (meaning_of_device old) (told old.script.items (old.events.items ++ At p (Wrote at copy) ∷ []) (not new.is_frozen))) copied
      (write_told old.script.items old.events.items p (not old.is_frozen) (not new.is_frozen) (on n) at copy r))

  pub synced : {T E : Type 0} (p : ℕ) (r : Result T E) → Noted (At p Synced) old new → SyncTold p r (meaning_of_device old) (meaning_of_device new)
  synced p r n = subst (λ (m : Meaning). SyncTold p r (meaning_of_device old) m) (sym (meaning_is n)) (sync_told old.script.items old.events.items p (not old.is_frozen) (not new.is_frozen) (on n) r)

  pub restarted : {T E : Type 0} (p choice : ℕ) (r : Result T E) → Noted (At p (Restarted choice)) old new → RestartTold p r (meaning_of_device old) (meaning_of_device new)
  restarted p choice r n = subst (λ (m : Meaning). RestartTold p r (meaning_of_device old) m) (sym (meaning_is n))
      (became old.script.items old.events.items p (not old.is_frozen) (not new.is_frozen) (on n) (Restarted choice) (chosen choice (stands old.events.items p)) refl (chosen_may_be_left choice old.events.items p) r)

  pub blanked : {T E : Type 0} (p : ℕ) (r : Result T E) → Noted (At p Blanked) old new → BlankTold p r (meaning_of_device old) (meaning_of_device new)
  blanked p r n = subst (λ (m : Meaning). BlankTold p r (meaning_of_device old) m) (sym (meaning_is n)) (blank_told old.script.items old.events.items p (not old.is_frozen) (not new.is_frozen) (on n) r)

  pub held : (p : ℕ) → Noted (At p Fault) old new → Held p (meaning_of_device old) (meaning_of_device new)
  held p n = subst (λ (m : Meaning). Held p (meaning_of_device old) m) (sym (meaning_is n)) (fault_held old.script.items old.events.items p (not old.is_frozen) (not new.is_frozen) (on n))

  pub spoils : (p at : ℕ) (bytes : List ℕ) → Noted (At p (WriteFault at (length bytes))) old new → Spoils p at bytes (meaning_of_device old) (meaning_of_device new)
  spoils p at bytes n = subst (λ (m : Meaning). Spoils p at bytes (meaning_of_device old) m) (sym (meaning_is n)) (fault_spoils old.script.items old.events.items p (not old.is_frozen) (not new.is_frozen) (on n) at bytes)

-- the other platters
pub other_states : (old new : Device) (p : ℕ) (x : Change) → Noted (At p x) old new → (q : ℕ) → q ≢ p → platter_of_device new q ≡ platter_of_device old q
other_states old new p x n q ne = ap (λ (l : List Event). stands l q) n.events ∙ stands_there old.events.items p x q ne

pub same_meaning : (old new : Device) → Same old new → meaning_of_device new ≡ meaning_of_device old
same_meaning old new s = λ i. told (s.script i) (s.events i) (not (s.frozen i))

pub same_streams : (old new : Device) → new.script.items ≡ old.script.items → Leaves old new → streams_of_device new ≡ streams_of_device old
same_streams old new script l = λ i. record { left = drop (l.taken i) (script i); read_faults = l.read_faults i; write_faults = l.write_faults i }

-- a call of a device failed after nothing had happened, and there is no memory left to note it
module _ (old mid : Device) (same : Same old mid) where
  pub frozen_on : false ≡ true → not old.is_frozen ≡ true
  frozen_on h = absurd (false≢true h)

  pub frozen_is : told mid.script.items mid.events.items false ≡ told old.script.items old.events.items false
  frozen_is = λ i. told (same.script i) (same.events i) false

  pub frozen_held : (p : ℕ) → Held p (meaning_of_device old) (told mid.script.items mid.events.items false)
  frozen_held p = subst (λ (m : Meaning). Held p (meaning_of_device old) m) (sym frozen_is)
      (record { ticks = frozen_ticks old.script.items old.events.items (not old.is_frozen) false frozen_on p; seen = refl; left = λ image h. h })

  pub frozen_spoils : (p at : ℕ) (bytes : List ℕ) → Spoils p at bytes (meaning_of_device old) (told mid.script.items mid.events.items false)
  frozen_spoils p at bytes = subst (λ (m : Meaning). Spoils p at bytes (meaning_of_device old) m) (sym frozen_is)
      (record { ticks = frozen_ticks old.script.items old.events.items (not old.is_frozen) false frozen_on p; seen = refl; crash = λ image h. (image, h, torn_same at (length bytes) image) })

-- a call failed after nothing had happened
pub held_after : (p : ℕ) (old mid new : Device) → Same old mid → Held p (meaning_of_device mid) (meaning_of_device new) → Held p (meaning_of_device old) (meaning_of_device new)
held_after p old mid new same h = subst (λ (m : Meaning). Held p m (meaning_of_device new)) (same_meaning old mid same) h

pub spoils_after : (p at : ℕ) (bytes : List ℕ) (old mid new : Device) → Same old mid → Spoils p at bytes (meaning_of_device mid) (meaning_of_device new) → Spoils p at bytes (meaning_of_device old) (meaning_of_device new)
spoils_after p at bytes old mid new same h = subst (λ (m : Meaning). Spoils p at bytes m (meaning_of_device new)) (same_meaning old mid same) h

pub spoils_write : {T E : Type 0} (p at : ℕ) (bytes : List ℕ) (e : E) (a b : Meaning) → Spoils p at bytes a b → WriteTold {T = T} p at bytes (Err e) a b
spoils_write p at bytes e a b h = record {
  ticks = h.ticks;
  crash = h.crash;
  torn = subst (Torn at (length bytes) (a.now.seen p)) (sym h.seen) (torn_same at (length bytes) (a.now.seen p));
  written = tt;
}

-- how a call answers
pub answers_done : {T E : Type 0} (p : ℕ) (is_due records : Bool) (works : is_due ≡ false) (x : T) (old new : Device) (change : Change) (undone : PlatterState) → Noted (At p change) old new
    → Answers {E = E} p is_due records (Ok x) old.starved new.starved (platter_of_device old) (platter_of_device new) (changed change (platter_of_device old p)) undone
answers_done p is_due records works x old new change undone n = record {
  due = λ yes. absurd (false≢true (sym works ∙ yes));
  fed = n.starved;
  noted = λ yes _. n.starved;
  starves = tt;
  does = state_is old new n;
  fails = tt;
  others = other_states old new p change n;
}

pub answers_wrote : {T E : Type 0} (p : ℕ) (is_due records : Bool) (works : is_due ≡ false) (x : T) (old new : Device) (at : ℕ) (bytes : List ℕ) (copy : Vec ℕ Global) (undone : PlatterState) → copy.items ≡ bytes → Noted (At p (Wrote at copy)) old new
    → Answers {E = E} p is_due records (Ok x) old.starved new.starved (platter_of_device old) (platter_of_device new) (written at bytes (platter_of_device old p)) undone
answers_wrote {T} {E} p is_due records works x old new at bytes copy undone copied n =
    subst (λ (b : List ℕ). Answers {E = E} p is_due records (Ok x) old.starved new.starved (platter_of_device old) (platter_of_device new) (written at b (platter_of_device old p)) undone) copied
    (answers_done p is_due records works x old new (Wrote at copy) undone n)

pub answers_refused : {T E : Type 0} (p : ℕ) (is_due records : Bool) (e : E) (old new : Device) (done undone : PlatterState) → Refuses p is_due records old.starved new.starved (platter_of_device old) (platter_of_device new) undone
    → Answers {T = T} p is_due records (Err e) old.starved new.starved (platter_of_device old) (platter_of_device new) done undone
answers_refused p is_due records e old new done undone r = record { due = λ _. refl; fed = tt; noted = r.noted; starves = r.starves; does = tt; fails = r.fails; others = r.others }

pub refuses_after : (p : ℕ) (is_due records : Bool) (old mid new : Device) (change : Change) → Same old mid → Refuses p is_due records mid.starved new.starved (platter_of_device mid) (platter_of_device new) (changed change (platter_of_device mid p))
    → Refuses p is_due records old.starved new.starved (platter_of_device old) (platter_of_device new) (changed change (platter_of_device old p))
refuses_after p is_due records old mid new change same r = record {
  noted = λ yes on. r.noted yes on ∙ same.starved;
  starves = subst (λ (n : ℕ). IsTrue is_due ⊎ Rose n new.starved) same.starved r.starves;
  fails = ⊎_elim (λ rose. inl (subst (λ (n : ℕ). Rose n new.starved) same.starved rose)) (λ state. inr (state ∙ ap (λ (l : List Event). changed change (stands l p)) same.events)) r.fails;
  others = λ q ne. r.others q ne ∙ ap (λ (l : List Event). stands l q) same.events;
}
