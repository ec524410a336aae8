-- How what calls leave alone goes on.
use Rattle.std.proofs.Common.{◌≡◌, inl, inr, ℕ, ◌+◌, ◌≤◌, Bool, true, false, ◌||◌, refl, ◌∙◌, ap, arith}
use Rattle.std.proofs.lemmas.Bool.{cases_eq}
use Rattle.zb_outside.specs.Streams.{Streams}
use Rattle.std.specs.Bool.{OnTrue}
use Rattle.zb_outside.specs.Counts.{Counts, HasFault, SameAt, Touches, TouchesScript, TouchesReport, GoesOn}

pub same_at : (q : ℕ) (a : Counts) → SameAt q a a
same_at q a = record { faults = refl; full = refl; writes = refl }

pub same_at_then : (q : ℕ) (a b c : Counts) → SameAt q a b → SameAt q b c → SameAt q a c
same_at_then q a b c f g = record { faults = g.faults ∙ f.faults; full = g.full ∙ f.full; writes = g.writes ∙ f.writes }

module _ {B : Type 0} (counts : B → Counts) (leads : B → B → Type 0) where
  -- what no call touches
  pub touches_none : ((a : B) → leads a a) → (p : ℕ) (a : B) → Touches counts leads p 0 false a a
  touches_none same p a = record {
    failed = tt;
    faults = omega arith;
    full = omega arith;
    writes = omega arith;
    most_writes = omega arith;
    others = λ q ne. same_at q (counts a);
    streams = refl;
    follows = same a;
  }

  fault_of_both : (p : ℕ) (f g : Bool) (a b c : Counts) → OnTrue f (HasFault p a b) → OnTrue g (HasFault p b c) → a.faults p ≤ b.faults p → b.faults p ≤ c.faults p → b.full p ≤ c.full p → OnTrue (f || g) (HasFault p a c)
  fault_of_both p false false a b c f g x y z = tt
  fault_of_both p false true a b c f g x y z = omega (arith, g)
  fault_of_both p true g a b c f h x y z = omega (arith, f)

  -- one run after another
  pub touches_then : ((a b c : B) → leads a b → leads b c → leads a c) → {p m n : ℕ} {f g : Bool} {a b c : B} → Touches counts leads p m f a b → Touches counts leads p n g b c → Touches counts leads p (m + n) (f || g) a c
  touches_then join {p} {m} {n} {f} {g} {a} {b} {c} first second = record {
    failed = fault_of_both p f g (counts a) (counts b) (counts c) first.failed second.failed first.faults second.faults second.full;
    faults = omega (arith, first.faults, second.faults);
    full = omega (arith, first.full, second.full);
    writes = omega (arith, first.writes, second.writes);
    most_writes = omega (arith, first.most_writes, second.most_writes);
    others = λ q ne. same_at_then q (counts a) (counts b) (counts c) (first.others q ne) (second.others q ne);
    streams = second.streams ∙ first.streams;
    follows = join a b c first.follows second.follows;
  }

  fewer : (p : ℕ) (f g : Bool) (a b : Counts) → (g ≡ true → f ≡ true) → OnTrue f (HasFault p a b) → OnTrue g (HasFault p a b)
  fewer p f false a b less h = tt
  fewer p true true a b less h = h
  fewer p false true a b less h = absurd (cc (less refl))

  -- the same with more writes allowed, or told of fewer faults
  pub touches_less : {p m n : ℕ} {f g : Bool} {a b : B} → m ≤ n → (g ≡ true → f ≡ true) → Touches counts leads p m f a b → Touches counts leads p n g a b
  touches_less {p} {m} {n} {f} {g} {a} {b} le less h = record {
    failed = fewer p f g (counts a) (counts b) less h.failed;
    faults = h.faults;
    full = h.full;
    writes = h.writes;
    most_writes = omega (arith, h.most_writes);
    others = h.others;
    streams = h.streams;
    follows = h.follows;
  }

  pub nothing_goes_on : ((a : B) → leads a a) → (a : B) → GoesOn counts leads a a
  nothing_goes_on same a = record { faults = λ q. omega arith; full = λ q. omega arith; writes = λ q. omega arith; read_faults = omega arith; write_faults = omega arith; follows = same a }

  pub goes_on_then : ((a b c : B) → leads a b → leads b c → leads a c) → {a b c : B} → GoesOn counts leads a b → GoesOn counts leads b c → GoesOn counts leads a c
  goes_on_then join {a} {b} {c} f g = record {
    faults = λ q. omega (arith, f.faults q, g.faults q);
    full = λ q. omega (arith, f.full q, g.full q);
    writes = λ q. omega (arith, f.writes q, g.writes q);
    read_faults = omega (arith, f.read_faults, g.read_faults);
    write_faults = omega (arith, f.write_faults, g.write_faults);
    follows = join a b c f.follows g.follows;
  }

  -- a run on a platter, takes and puts are calls
  pub touches_go_on : {p n : ℕ} {f : Bool} {a b : B} → Touches counts leads p n f a b → GoesOn counts leads a b
  touches_go_on {p} {n} {f} {a} {b} h = record {
    faults = λ q. elim (cases_eq q p) [ inl is ↦ rw is h.faults | inr ne ↦ omega (arith, (h.others q ne).faults) ];
    full = λ q. elim (cases_eq q p) [ inl is ↦ rw is h.full | inr ne ↦ omega (arith, (h.others q ne).full) ];
    writes = λ q. elim (cases_eq q p) [ inl is ↦ rw is h.writes | inr ne ↦ omega (arith, (h.others q ne).writes) ];
    read_faults = omega (arith, ap (λ (s : Streams). s.read_faults) h.streams);
    write_faults = omega (arith, ap (λ (s : Streams). s.write_faults) h.streams);
    follows = h.follows;
  }

  pub script_goes_on : {f : Bool} {a b : B} → TouchesScript counts leads f a b → GoesOn counts leads a b
  script_goes_on h = record {
    faults = λ q. omega (arith, (h.platters q).faults);
    full = λ q. omega (arith, (h.platters q).full);
    writes = λ q. omega (arith, (h.platters q).writes);
    read_faults = h.read_faults;
    write_faults = omega (arith, h.write_faults);
    follows = h.follows;
  }

  pub report_goes_on : {f : Bool} {a b : B} → TouchesReport counts leads f a b → GoesOn counts leads a b
  report_goes_on h = record {
    faults = λ q. omega (arith, (h.platters q).faults);
    full = λ q. omega (arith, (h.platters q).full);
    writes = λ q. omega (arith, (h.platters q).writes);
    read_faults = omega (arith, h.read_faults);
    write_faults = h.write_faults;
    follows = h.follows;
  }

  -- a fault of a part of a run is one of the whole
  pub fault_then : (p : ℕ) (a b c : B) → HasFault p (counts a) (counts b) → GoesOn counts leads b c → HasFault p (counts a) (counts c)
  fault_then p a b c fault h = omega (arith, fault, h.faults p, h.full p)

  pub then_fault : (p : ℕ) (a b c : B) → GoesOn counts leads a b → HasFault p (counts b) (counts c) → HasFault p (counts a) (counts c)
  then_fault p a b c h fault = omega (arith, h.faults p, fault)
