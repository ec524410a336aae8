-- What stands in memory follows the record.
use Rattle.std.proofs.Common.{◌≡◌, ◌≢◌, inl, inr, ℕ, zero, suc, ◌<◌, ◌≤◌, false, List, [], ◌∷◌, ◌++◌, length, slice_index, slice_set, slice_index_or, Vec, refl, sym, ◌∙◌, ap, subst, arith, length-set, get_or-set_same, get_or-set_other}
use Rattle.std.proofs.lemmas.Bool.{cases_eq}
use Rattle.std.specs.declared.alloc.Global.{Global}
use Rattle.zb_outside.specs.Counts.{Raises, raised}
use Rattle.zb_devices.specs.Record.{PlatterState, fresh, changed, stands, Flow, flowed, flows, step, Tally, IsTallied}
use Rattle.zb_devices.specs.Plates.{Shows, undone, ranges_of}
use Rattle.zb_devices.specs.Memory.{IsKept, AllEmpty, tally}
use Rattle.zb_devices.specs.declared.device.Change.{Change}
use Rattle.zb_devices.specs.declared.device.Change.TheVariants.{Wrote, Fault, WriteFault}
use Rattle.zb_devices.specs.declared.device.Event.{Event}
use Rattle.zb_devices.specs.declared.device.Event.TheVariants.{At}
use Rattle.zb_devices.specs.declared.device.Device.{Device}
use Rattle.zb_devices.specs.declared.plate.Plate.{Plate}
use Rattle.zb_devices.specs.declared.unsynced.Unsynced.{Unsynced}
use Rattle.zb_devices.proofs.Recorded.{stands_here, stands_there, stands_on, flows_on}

abbrev pub AllShow : List Plate → List Event → Type 0
AllShow plates es = (p : ℕ) (x : Plate) → p < length plates → Shows (slice_index_or plates p x) (stands es p)

-- one platter of the list has changed
module _ (plates : List Plate) (p : ℕ) (plate : Plate) (low : p < length plates) where
  set_same : (d : Plate) → slice_index_or (slice_set plates p plate) p d ≡ plate
  set_same d = rw get_or-set_same

  set_other : (q : ℕ) (d : Plate) → q ≢ p → slice_index_or (slice_set plates p plate) q d ≡ slice_index_or plates q d
  set_other q d ne = rw get_or-set_other

  pub shows_at : (es : List Event) (x : Change) → AllShow plates es → Shows plate (changed x (stands es p)) → AllShow (slice_set plates p plate) (es ++ At p x ∷ [])
  shows_at es x all here q d lt = elim (cases_eq q p) [
    | inl is ↦ subst (λ (k : ℕ). Shows (slice_index_or (slice_set plates p plate) k d) (stands (es ++ At p x ∷ []) k)) (sym is)
        (subst (λ (s : PlatterState). Shows (slice_index_or (slice_set plates p plate) p d) s) (sym (stands_here es p x))
        (subst (λ (r : Plate). Shows r (changed x (stands es p))) (sym (set_same d)) here))
    | inr ne ↦ subst (λ (s : PlatterState). Shows (slice_index_or (slice_set plates p plate) q d) s) (sym (stands_there es p x q ne))
        (subst (λ (r : Plate). Shows r (stands es q)) (sym (set_other q d ne)) (all q d (omega (arith, lt, length-set plates p plate))))
  ]

  -- its bytes are the same
  pub shows_same : (es : List Event) → AllShow plates es → Shows plate (stands es p) → AllShow (slice_set plates p plate) es
  shows_same es all here q d lt = elim (cases_eq q p) [
    | inl is ↦ subst (λ (k : ℕ). Shows (slice_index_or (slice_set plates p plate) k d) (stands es k)) (sym is) (subst (λ (r : Plate). Shows r (stands es p)) (sym (set_same d)) here)
    | inr ne ↦ subst (λ (r : Plate). Shows r (stands es q)) (sym (set_other q d ne)) (all q d (omega (arith, lt, length-set plates p plate)))
  ]

-- a call failed, and its bytes are the same
pub shows_fault : (plates : List Plate) (p : ℕ) (es : List Event) → AllShow plates es → AllShow plates (es ++ At p Fault ∷ [])
shows_fault plates p es all q d lt = elim (cases_eq q p) [
  | inl is ↦ subst (λ (k : ℕ). Shows (slice_index_or plates k d) (stands (es ++ At p Fault ∷ []) k)) (sym is)
      (subst (λ (s : PlatterState). Shows (slice_index_or plates p d) s) (sym (stands_here es p Fault)) (let h = all p d (subst (λ (k : ℕ). k < length plates) is lt) in record { seen = h.seen; base = h.base; ranges = h.ranges }))
  | inr ne ↦ subst (λ (s : PlatterState). Shows (slice_index_or plates q d) s) (sym (stands_there es p Fault q ne)) (all q d lt)
]

pub shows_on : (plates : List Plate) (es : List Event) (e : Event) → ((q : ℕ) → step q e (stands es q) ≡ stands es q) → AllShow plates es → AllShow plates (es ++ e ∷ [])
shows_on plates es e same all q d lt = subst (λ (s : PlatterState). Shows (slice_index_or plates q d) s) (sym (stands_on es e q (same q))) (all q d lt)

-- the counts follow
pub tallied_at : (es : List Event) (p : ℕ) (x : Change) (c d : Tally) → IsTallied es c → d.faults p ≡ (changed x (stands es p)).faults → d.writes p ≡ (changed x (stands es p)).writes
    → ((q : ℕ) → q ≢ p → d.faults q ≡ c.faults q) → ((q : ℕ) → q ≢ p → d.writes q ≡ c.writes q) → d.read_faults ≡ c.read_faults → d.write_faults ≡ c.write_faults → IsTallied (es ++ At p x ∷ []) d
tallied_at es p x c d before is_f is_w same_f same_w same_r same_p = record {
  faults = λ q. elim (cases_eq q p) [
    | inl is ↦ subst (λ (k : ℕ). d.faults k ≡ (stands (es ++ At p x ∷ []) k).faults) (sym is) (is_f ∙ ap (λ (s : PlatterState). s.faults) (sym (stands_here es p x)))
    | inr ne ↦ same_f q ne ∙ before.faults q ∙ ap (λ (s : PlatterState). s.faults) (sym (stands_there es p x q ne))
  ];
  writes = λ q. elim (cases_eq q p) [
    | inl is ↦ subst (λ (k : ℕ). d.writes k ≡ (stands (es ++ At p x ∷ []) k).writes) (sym is) (is_w ∙ ap (λ (s : PlatterState). s.writes) (sym (stands_here es p x)))
    | inr ne ↦ same_w q ne ∙ before.writes q ∙ ap (λ (s : PlatterState). s.writes) (sym (stands_there es p x q ne))
  ];
  read_faults = same_r ∙ before.read_faults ∙ ap (λ (f : Flow). f.read_faults) (sym (flows_on es (At p x)));
  write_faults = same_p ∙ before.write_faults ∙ ap (λ (f : Flow). f.write_faults) (sym (flows_on es (At p x)));
}

pub tallied_quiet : (es : List Event) (p : ℕ) (x : Change) (c : Tally) → IsTallied es c → (changed x (stands es p)).faults ≡ (stands es p).faults → (changed x (stands es p)).writes ≡ (stands es p).writes → IsTallied (es ++ At p x ∷ []) c
tallied_quiet es p x c before f w = tallied_at es p x c c before (before.faults p ∙ sym f) (before.writes p ∙ sym w) (λ q ne. refl) (λ q ne. refl) refl refl

pub tallied_write : (es : List Event) (p at : ℕ) (copy : Vec ℕ Global) (c d : Tally) → IsTallied es c → Raises p c.writes d.writes → ((q : ℕ) → d.faults q ≡ c.faults q) → d.read_faults ≡ c.read_faults → d.write_faults ≡ c.write_faults → IsTallied (es ++ At p (Wrote at copy) ∷ []) d
tallied_write es p at copy c d before w f r s = tallied_at es p (Wrote at copy) c d before (f p ∙ before.faults p) (w.one ∙ ap raised (before.writes p)) (λ q ne. f q) w.others r s

pub tallied_fault : (es : List Event) (p : ℕ) (c d : Tally) → IsTallied es c → Raises p c.faults d.faults → ((q : ℕ) → d.writes q ≡ c.writes q) → d.read_faults ≡ c.read_faults → d.write_faults ≡ c.write_faults → IsTallied (es ++ At p Fault ∷ []) d
tallied_fault es p c d before f w r s = tallied_at es p Fault c d before (f.one ∙ ap raised (before.faults p)) (w p ∙ before.writes p) f.others (λ q ne. w q) r s

pub tallied_write_fault : (es : List Event) (p at n : ℕ) (c d : Tally) → IsTallied es c → Raises p c.faults d.faults → Raises p c.writes d.writes → d.read_faults ≡ c.read_faults → d.write_faults ≡ c.write_faults → IsTallied (es ++ At p (WriteFault at n) ∷ []) d
tallied_write_fault es p at n c d before f w r s = tallied_at es p (WriteFault at n) c d before (f.one ∙ ap raised (before.faults p)) (w.one ∙ ap raised (before.writes p)) f.others w.others r s

pub tallied_on : (es : List Event) (e : Event) (c d : Tally) → IsTallied es c → ((q : ℕ) → step q e (stands es q) ≡ stands es q) → ((q : ℕ) → d.faults q ≡ c.faults q) → ((q : ℕ) → d.writes q ≡ c.writes q)
    → d.read_faults ≡ (flowed e (flows es)).read_faults → d.write_faults ≡ (flowed e (flows es)).write_faults → IsTallied (es ++ e ∷ []) d
tallied_on es e c d before same f w r s = record {
  faults = λ q. f q ∙ before.faults q ∙ ap (λ (t : PlatterState). t.faults) (sym (stands_on es e q (same q)));
  writes = λ q. w q ∙ before.writes q ∙ ap (λ (t : PlatterState). t.writes) (sym (stands_on es e q (same q)));
  read_faults = r ∙ ap (λ (t : Flow). t.read_faults) (sym (flows_on es e));
  write_faults = s ∙ ap (λ (t : Flow). t.write_faults) (sym (flows_on es e));
}

-- what stands in memory after an event of a platter
module _ (old new : Device) (p : ℕ) (x : Change) (kept : IsKept old) (events : new.events.items ≡ old.events.items ++ At p x ∷ []) (script : new.script.items ≡ old.script.items) (taken : new.taken ≡ old.taken) (printed : new.printed.items ≡ old.printed.items) (thawed : old.is_frozen ≡ false) (counted : IsTallied (old.events.items ++ At p x ∷ []) (tally new)) where
  pub kept_as : (plates : List Plate) → new.plates.items ≡ plates → length plates ≡ length old.plates.items → AllShow plates (old.events.items ++ At p x ∷ []) → IsKept new
  kept_as plates is long all = record {
    keeps = record {
      long = ap length is ∙ long ∙ kept.keeps.long;
      shown = subst (λ (l : List Event). AllShow new.plates.items l) (sym events) (subst (λ (l : List Plate). AllShow l (old.events.items ++ At p x ∷ [])) (sym is) all);
      taken = taken ∙ kept.keeps.taken ∙ ap (λ (f : Flow). f.taken) (sym (flows_on old.events.items (At p x))) ∙ ap (λ (l : List Event). (flows l).taken) (sym events);
      within = omega (arith, kept.keeps.within, taken, ap length script);
      printed = printed ∙ kept.keeps.printed ∙ ap (λ (f : Flow). f.printed) (sym (flows_on old.events.items (At p x))) ∙ ap (λ (l : List Event). (flows l).printed) (sym events);
    };
    tallied = λ _. subst (λ (l : List Event). IsTallied l (tally new)) (sym events) counted;
  }

  pub kept_set : (plate : Plate) → p ≤ 255 → new.plates.items ≡ slice_set old.plates.items p plate → Shows plate (changed x (stands old.events.items p)) → IsKept new
  kept_set plate low is here = kept_as (slice_set old.plates.items p plate) is (length-set old.plates.items p plate)
      (shows_at old.plates.items p plate (omega (arith, kept.keeps.long)) old.events.items x kept.keeps.shown here)

-- a platter was tried, and is as it was
pub kept_same : (old new : Device) (p : ℕ) (plate : Plate) → IsKept old → p ≤ 255 → new.events.items ≡ old.events.items → new.script.items ≡ old.script.items → new.taken ≡ old.taken → new.printed.items ≡ old.printed.items → new.is_frozen ≡ old.is_frozen → new.counts ≡ old.counts
    → new.plates.items ≡ slice_set old.plates.items p plate → Shows plate (stands old.events.items p) → IsKept new
kept_same old new p plate kept low events script taken printed frozen counts is here = record {
  keeps = record {
    long = ap length is ∙ length-set old.plates.items p plate ∙ kept.keeps.long;
    shown = subst (λ (l : List Event). AllShow new.plates.items l) (sym events) (subst (λ (l : List Plate). AllShow l old.events.items) (sym is) (shows_same old.plates.items p plate (omega (arith, kept.keeps.long)) old.events.items kept.keeps.shown here));
    taken = taken ∙ kept.keeps.taken ∙ ap (λ (l : List Event). (flows l).taken) (sym events);
    within = omega (arith, kept.keeps.within, taken, ap length script);
    printed = printed ∙ kept.keeps.printed ∙ ap (λ (l : List Event). (flows l).printed) (sym events);
  };
  tallied = λ thawed. subst (λ (l : List Event). IsTallied l (tally new)) (sym events) (same_counts (kept.tallied (sym frozen ∙ thawed)));
}
  where
    same_counts : IsTallied old.events.items (tally old) → IsTallied old.events.items (tally new)
    same_counts h = record {
      faults = λ q. ap (λ c. slice_index c.faults q) counts ∙ h.faults q;
      writes = λ q. ap (λ c. slice_index c.writes q) counts ∙ h.writes q;
      read_faults = ap (λ c. c.read_faults) counts ∙ h.read_faults;
      write_faults = ap (λ c. c.write_faults) counts ∙ h.write_faults;
    }

-- what stands in memory after an event of the streams
pub kept_on : (old new : Device) (e : Event) → IsKept old → new.events.items ≡ old.events.items ++ e ∷ [] → ((q : ℕ) (s : PlatterState) → step q e s ≡ s) → new.plates.items ≡ old.plates.items
    → new.taken ≡ (flowed e (flows old.events.items)).taken → new.taken ≤ length new.script.items → new.printed.items ≡ (flowed e (flows old.events.items)).printed → IsTallied (old.events.items ++ e ∷ []) (tally new) → IsKept new
kept_on old new e kept events quiet plates taken within printed counted = record {
  keeps = record {
    long = ap length plates ∙ kept.keeps.long;
    shown = subst (λ (l : List Event). AllShow new.plates.items l) (sym events) (subst (λ (l : List Plate). AllShow l (old.events.items ++ e ∷ [])) (sym plates) (shows_on old.plates.items old.events.items e (λ q. quiet q (stands old.events.items q)) kept.keeps.shown));
    taken = taken ∙ ap (λ (f : Flow). f.taken) (sym (flows_on old.events.items e)) ∙ ap (λ (l : List Event). (flows l).taken) (sym events);
    within = within;
    printed = printed ∙ ap (λ (f : Flow). f.printed) (sym (flows_on old.events.items e)) ∙ ap (λ (l : List Event). (flows l).printed) (sym events);
  };
  tallied = λ _. subst (λ (l : List Event). IsTallied l (tally new)) (sym events) counted;
}

-- the platter that is found there holds what the record says
pub plate_there : (old : Device) (p : ℕ) (plate : Plate) → IsKept old → p ≤ 255 → plate ≡ slice_index_or old.plates.items p plate → Shows plate (stands old.events.items p)
plate_there old p plate kept low is = subst (λ (r : Plate). Shows r (stands old.events.items p)) (sym is) (kept.keeps.shown p plate (omega (arith, kept.keeps.long)))

-- platters that were never written
pub empty_plate : (plate : Plate) → plate.seen.items ≡ [] → plate.unsynced.items ≡ [] → Shows plate fresh
empty_plate plate seen unsynced = record { seen = seen; base = ap (λ (us : List Unsynced). undone us plate.seen.items) unsynced ∙ seen; ranges = ap ranges_of unsynced }

pub empty_push : (xs : List Plate) (y : Plate) → AllEmpty xs → Shows y fresh → AllEmpty (xs ++ y ∷ [])
empty_push [] y all here zero d lt = here
empty_push [] y all here (suc p) d lt = absurd (omega arith)
empty_push (x ∷ xs) y all here zero d lt = all 0 d (omega arith)
empty_push (x ∷ xs) y all here (suc p) d lt = empty_push xs y (λ q e h. all (suc q) e (omega arith)) here p d (omega arith)

-- nothing has happened yet
pub kept_first : (d : Device) → length d.plates.items ≡ 256 → AllEmpty d.plates.items → d.events.items ≡ [] → d.taken ≡ 0 → d.printed.items ≡ [] → ((q : ℕ) → slice_index d.counts.faults q ≡ 0) → ((q : ℕ) → slice_index d.counts.writes q ≡ 0) → d.counts.read_faults ≡ 0 → d.counts.write_faults ≡ 0 → IsKept d
kept_first d long empty events taken printed faults writes read_faults write_faults = record {
  keeps = record {
    long = long;
    shown = subst (λ (l : List Event). AllShow d.plates.items l) (sym events) empty;
    taken = taken ∙ ap (λ (l : List Event). (flows l).taken) (sym events);
    within = omega (arith, taken);
    printed = printed ∙ ap (λ (l : List Event). (flows l).printed) (sym events);
  };
  tallied = λ _. subst (λ (l : List Event). IsTallied l (tally d)) (sym events) (record { faults = faults; writes = writes; read_faults = read_faults; write_faults = write_faults });
}
