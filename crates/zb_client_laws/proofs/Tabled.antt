-- What the tables have of a file may be found, and lies in what is held.
use Rattle.std.proofs.Common.{◌≡◌, ◌≢◌, ℕ, zero, suc, ◌+◌, ◌<◌, ◌≤◌, Bool, true, false, List, [], ◌∷◌, Option, Some, None, refl, sym, ap, ◌∙◌, inl, inr, arith}
use Rattle.std.specs.Prelude.{◌⊎◌, ◌&&◌, if◌then◌else◌, nat_le, nat_lt}
use Rattle.std.specs.List.{AllByRecursion}
use Rattle.std.proofs.lemmas.Bool.{and_parts, cases_eq, eq-eqb, ne_eqb, leb-true, ltb-true}
use Rattle.zb_types.specs.declared.ids.Ptr.{Ptr}
use Rattle.zb_types.specs.declared.tables.Found.{Found}
use Rattle.zb_types.specs.Keyed.{look}
use Rattle.zb_types.proofs.KeyedLists.{IsRising, IsRising-from_ordered, KeysAbove, KeysAbove-lower, look-below}
use Rattle.zb_tables.specs.Checkpoint.{AreTables, IsPlace}
use Rattle.zb_tables.specs.Finding.{among, found, found_in}
use Rattle.zb_tables.specs.Tables.{EachFile, FileState, LiesIn, PointsIn, Tables}
use Rattle.zb_tables.specs.Taking.{IsPointer, Sizes, stripe_room}
use Rattle.zb_tables.proofs.Each.{each_look}
use Rattle.zb_sound.proofs.Saying.{file_form}
use Rattle.zb_basis.specs.declared.asks.Ask.{Ask}
use Rattle.zb_basis.specs.Looking.{AreFoundFor, IsFoundBlock, MayFind}
use Rattle.zb_basis.proofs.Each.{all-of, each-weaker}
use Rattle.zb_work.specs.Finding.{RisesFrom}
use Rattle.zb_work.proofs.Rising.{rise_pairs}
use Rattle.zb_client_laws.specs.Current.{FoundLies}
use Rattle.zb_client_laws.specs.Effects.{founds}

abbrev Pairs : Type 0
Pairs = List (ℕ × Ptr)

-- what holds of whatever is found under a number holds of each block
module _ (P : Ptr → Type 0) where
  pub looked_each : (es : Pairs) → IsRising es → ((k : ℕ) (p : Ptr) → look k es ≡ Some p → P p) → AllByRecursion (λ (e : ℕ × Ptr). P e.1) es
  looked_each [] rises at = tt
  looked_each (e ∷ es) rises at = (
    at e.0 e.1 (ap (λ (t : Bool). if t then Some e.1 else look e.0 es) (eq-eqb e.0 e.0 refl)),
    looked_each es rises.1 (λ k p is. at k p (behind k p is (cases_eq e.0 k))),
  ) where
    behind : (k : ℕ) (p : Ptr) → look k es ≡ Some p → (e.0 ≡ k) ⊎ (e.0 ≢ k) → look k (e ∷ es) ≡ Some p
    behind k p is (inl same) = absurd (nothing (sym (look-below k e.0 es (omega (arith, same)) rises.0) ∙ is)) where
      nothing : None ≡ Some p → ⊥
      nothing c = cc
    behind k p is (inr ne) = ap (λ (t : Bool). if t then Some e.1 else look k es) (ne_eqb e.0 k ne) ∙ is

-- those of some numbers
module _ (first count : ℕ) where
  record Within (e : ℕ × Ptr) : Type 0 where
    pub low : first ≤ e.0
    pub high : e.0 < first + count

  within_by : (Q : ℕ × Ptr → Type 0) (e : ℕ × Ptr) (rest : Pairs) (t : Bool) → (nat_le first e.0 && nat_lt e.0 (first + count)) ≡ t → Q e → AllByRecursion (λ (e : ℕ × Ptr). Within e × Q e) rest
      → AllByRecursion (λ (e : ℕ × Ptr). Within e × Q e) (if t then e ∷ rest else rest)
  within_by Q e rest true is own all =
      let two = and_parts (nat_le first e.0) (nat_lt e.0 (first + count)) is in ((record { low = leb-true first e.0 two.0; high = ltb-true e.0 (first + count) two.1 }, own), all)
  within_by Q e rest false is own all = all

  among_each : (Q : ℕ × Ptr → Type 0) (es : Pairs) → AllByRecursion Q es → AllByRecursion (λ (e : ℕ × Ptr). Within e × Q e) (among first count es)
  among_each Q [] all = tt
  among_each Q (e ∷ es) all = within_by Q e (among first count es) (nat_le first e.0 && nat_lt e.0 (first + count)) refl all.0 (among_each Q es all.1)

  above_by : (least : ℕ) (e : ℕ × Ptr) (rest : Pairs) (t : Bool) → least ≤ e.0 → RisesFrom (e.0 + 1) rest → RisesFrom least rest → RisesFrom least (if t then e ∷ rest else rest)
  above_by least e rest true le up all = (le, up)
  above_by least e rest false le up all = all

  among_rises : (least : ℕ) (es : Pairs) → IsRising es → ((k : ℕ) → k + 1 ≤ least → KeysAbove k es) → RisesFrom least (among first count es)
  among_rises least [] rises low = tt
  among_rises least (e ∷ es) rises low =
      above_by least e (among first count es) (nat_le first e.0 && nat_lt e.0 (first + count)) (least_of least low)
      (among_rises (e.0 + 1) es rises.1 (λ k le. lower k es (omega arith) rises.0))
      (among_rises least es rises.1 (λ k le. (low k le).1)) where
        least_of : (least : ℕ) → ((k : ℕ) → k + 1 ≤ least → KeysAbove k (e ∷ es)) → least ≤ e.0
        least_of zero low = omega arith
        least_of (suc n) low = let l = (low n (omega arith)).0 in omega (arith, l)

        lower : (k : ℕ) (es : Pairs) → k ≤ e.0 → KeysAbove e.0 es → KeysAbove k es
        lower k es le above = KeysAbove-lower k e.0 es le above

module _ (z : Sizes) (t : Tables) (f : AreTables z t) (points : EachFile (PointsIn t.held) t.files) where
  -- one lookup
  pub record Tabled (ask : Ask) (x : Found) : Type 0 where
    pub may : MayFind z.block (stripe_room z) ask x
    pub lies : FoundLies t.held x
    pub members : x.members ≡ t.members

  tabled_file : (ask : Ask) (file : FileState) → look (ask.fid).0 t.files ≡ Some file → Tabled ask (found_in t.members ask.first ask.count (Some file))
  tabled_file ask file at =
      let form = file_form z t f (ask.fid).0 file at in
      let rises : IsRising file.blocks = IsRising-from_ordered file.blocks form.rising in
      let lie : AllByRecursion (λ (e : ℕ × Ptr). LiesIn t.held e.1) file.blocks = looked_each (LiesIn t.held) file.blocks rises (each_look (PointsIn t.held) t.files (ask.fid).0 file points at) in
      record {
        may = record {
          version = form.version.1;
          blocks = all-of (IsFoundBlock z.block (stripe_room z) ask) (among ask.first ask.count file.blocks)
              (each-weaker (λ (e : ℕ × Ptr). Within ask.first ask.count e × (IsPointer z e.1 × IsPlace e.1)) (IsFoundBlock z.block (stripe_room z) ask) (among ask.first ask.count file.blocks)
              (λ e h. record { begins = h.0.low; ends = h.0.high; some = h.1.0.some; fits = h.1.0.block; within = h.1.0.within })
              (among_each ask.first ask.count (λ (e : ℕ × Ptr). IsPointer z e.1 × IsPlace e.1) file.blocks form.pointers));
          rise = rise_pairs 0 (among ask.first ask.count file.blocks) (among_rises ask.first ask.count 0 file.blocks rises (λ k le. absurd (omega (arith, le))));
          long = form.short;
        };
        lies = each-weaker (λ (e : ℕ × Ptr). Within ask.first ask.count e × LiesIn t.held e.1) (λ (e : ℕ × Ptr). LiesIn t.held e.1) (among ask.first ask.count file.blocks) (λ e h. h.1)
            (among_each ask.first ask.count (λ (e : ℕ × Ptr). LiesIn t.held e.1) file.blocks lie);
        members = refl;
      }

  tabled_none : (ask : Ask) → Tabled ask (found_in t.members ask.first ask.count None)
  tabled_none ask = record {
    may = record { version = omega arith; blocks = λ i d l. absurd (omega (arith, l)); rise = λ i j d l m. absurd (omega (arith, m)); long = omega arith };
    lies = tt;
    members = refl;
  }

  pub tabled : (ask : Ask) → Tabled ask (found t (ask.fid).0 ask.first ask.count)
  tabled ask = by (look (ask.fid).0 t.files) refl where
    by : (o : Option FileState) → look (ask.fid).0 t.files ≡ o → Tabled ask (found_in t.members ask.first ask.count o)
    by None e = tabled_none ask
    by (Some file) e = tabled_file ask file e

  pub may_all : (asks : List Ask) → AreFoundFor z.block (stripe_room z) asks (founds t asks)
  may_all [] = tt
  may_all (ask ∷ asks) = ((tabled ask).may, may_all asks)

  pub lie_all : (asks : List Ask) → AllByRecursion (FoundLies t.held) (founds t asks)
  lie_all [] = tt
  lie_all (ask ∷ asks) = ((tabled ask).lies, lie_all asks)
