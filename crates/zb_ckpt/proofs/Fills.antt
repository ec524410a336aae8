-- What the writes of a slot's pages leave, and the root cell behind them.
use Rattle.std.proofs.Common.{◌≡◌, inl, inr, ⊎_elim, ℕ, ◌+◌, ◌*◌, ◌<◌, ◌≤◌, ◌^◌, ◌==◌, if◌then◌else◌, List, ◌++◌, length, slice_index, take, drop, min, ◌-◌, Result, Ok, Err, IsErr, Some, refl, sym, ◌∙◌, ap, subst, arith}
use Rattle.std.proofs.lemmas.Bool.{cases_lt}
use Rattle.std.proofs.lemmas.List.{get_or_append_left, get_or-drop, take-append-drop}
use Rattle.std.proofs.lemmas.Result.{on_ok_weaker}
use Rattle.zb_outside.specs.Meaning.{Meaning}
use Rattle.zb_outside.specs.Counts.{raised_by}
use Rattle.zb_outside.specs.Platters.{WriteTold, SyncTold}
use Rattle.zb_outside.specs.Ranges.{Torn, Written}
use Rattle.zb_outside.specs.Runs.{Run, IsSettled}
use Rattle.zb_outside.proofs.Runs.{started, then_run, then_call, weaker_run}
use Rattle.zb_cell.specs.Cell.{bytes_at, value, copy_for, writes_for}
use Rattle.zb_cell.specs.Set.{SetTold, FormerOrNew as CellFormerOrNew}
use Rattle.zb_cell.proofs.Values.{value_ext}
use Rattle.zb_cell.proofs.Steps.{copy_ext, copy_low}
use Rattle.zb_ckpt.specs.declared.root.Root.{Root}
use Rattle.zb_ckpt.specs.Root.{IsRoot, root_text}
use Rattle.zb_ckpt.specs.Says.{place_of, BytesStand, Reaches, Holds}
use Rattle.zb_ckpt.specs.Write.{other_slot, next_root, KeepsSlot, KeepsFormer, FormerOrNew, WriteTold as CheckpointTold, FillTold, FillSyncedTold, StandUpTo}
use Rattle.zb_ckpt.proofs.Places.{page_at, place_at, place_below, place_apart, place_high, other_low, other_apart, other_twice}

pub keeps_same : (slot : ℕ) (s : List ℕ) → KeepsSlot slot s s
keeps_same slot s = record { no_shorter = omega arith; front = λ i low lt. refl; pages = λ i lt. refl }

keeps_then : (slot : ℕ) (a b c : List ℕ) → KeepsSlot slot a b → KeepsSlot slot b c → KeepsSlot slot a c
keeps_then slot a b c f g = record {
  no_shorter = omega (arith, f.no_shorter, g.no_shorter);
  front = λ i low lt. g.front i low (omega (arith, lt, f.no_shorter)) ∙ f.front i low lt;
  pages = λ i lt. g.pages i (omega (arith, lt, f.no_shorter)) ∙ f.pages i lt;
}

-- a write into a page of the other slot
keeps_torn : (slot page n : ℕ) (a b : List ℕ) → slot < 2 → n ≤ 65536 → Torn (page_at slot page) n a b → KeepsSlot (other_slot slot) a b
keeps_torn slot page n a b low few t = record {
  no_shorter = t.no_shorter;
  front = λ i below lt. t.below i lt (omega (arith, below));
  pages = λ i lt. ⊎_elim (λ under. t.below (place_of (other_slot slot) i) lt under) (λ over. t.above (place_of (other_slot slot) i) lt over) (place_apart (other_slot slot) slot page i n (other_low slot) low (other_apart slot low) few);
}

-- before the first write
pub fill_start : (slot : ℕ) (a : Meaning) → IsSettled 0 a.now → Run 0 (KeepsSlot slot (a.now.seen 0)) a a
fill_start slot a settled =
    started 0 (KeepsSlot slot (a.now.seen 0)) a (λ c h. subst (KeepsSlot slot (a.now.seen 0)) (sym (settled.only c h)) (keeps_same slot (a.now.seen 0)))

-- one write more
pub fill_more : {T E : Type 0} {r : Result T E} {a b c : Meaning} (slot page : ℕ) (part : List ℕ) → slot < 2 → length part ≤ 65536 → Run 0 (KeepsSlot (other_slot slot) (a.now.seen 0)) a b → WriteTold 0 (page_at slot page) part r b c → Run 0 (KeepsSlot (other_slot slot) (a.now.seen 0)) a c
fill_more {a = a} slot page part low few run w =
    then_call run w.ticks (λ i h. let from = w.crash i h in keeps_then (other_slot slot) (a.now.seen 0) from.0 i (run.here from.0 from.1) (keeps_torn slot page (length part) from.0 i low few from.2))

-- a part is the page of the bytes, or what is left of them
pub record IsPart (page : ℕ) (bytes part : List ℕ) : Type 0 where
  pub few : length part ≤ 65536
  pub all : (j : ℕ) → j < 65536 → 65536 * page + j < length bytes → j < length part
  pub same : (j : ℕ) → j < length part → slice_index part j ≡ slice_index bytes (65536 * page + j)

pub is_part : (page : ℕ) (bytes rest part : List ℕ) → rest ≡ drop (page * 65536) bytes → part ≡ take (min (length rest) 65536) rest → length part ≡ min (length rest) 65536 → length rest + page * 65536 ≡ length bytes → IsPart page bytes part
is_part page bytes rest part behind front long whole = record {
  few = omega arith;
  all = λ j lt within. omega arith;
  same = λ j lt.
      sym (get_or_append_left part (drop (min (length rest) 65536) rest) 0 j lt)
      ∙ ap (λ (l : List ℕ). slice_index l j) (ap (λ (l : List ℕ). l ++ drop (min (length rest) 65536) rest) front ∙ take-append-drop (min (length rest) 65536) rest ∙ behind)
      ∙ get_or-drop (page * 65536) bytes j 0 ∙ ap (slice_index bytes) (omega arith);
}

pub stand_more : (slot page : ℕ) (bytes part a b : List ℕ) → IsPart page bytes part → Written (page_at slot page) part a b → StandUpTo (65536 * page) slot bytes a → StandUpTo (65536 * (page + 1)) slot bytes b
stand_more slot page bytes part a b is w h = record {
  stand = λ i lt within. elim (cases_lt i (65536 * page)) [
    | inl before ↦ w.below (place_of slot i) (place_below slot page i before) ∙ h.stand i before within
    | inr ge ↦ (let j : ℕ = i - 65536 * page in stands i j (omega arith) (omega arith) within)
  ];
  reaches = λ i lt within. elim (cases_lt i (65536 * page)) [
    | inl before ↦ (let le = h.reaches i before within in omega (arith, le, w.size))
    | inr ge ↦ (let j : ℕ = i - 65536 * page in reaches i j (omega arith) (omega arith) within)
  ];
}
  where
    stands : (i j : ℕ) → i ≡ 65536 * page + j → j < 65536 → i < length bytes → slice_index b (place_of slot i) ≡ slice_index bytes i
    stands i j e lt within =
        let in_part = is.all j lt (omega arith) in
        ap (λ (k : ℕ). slice_index b (place_of slot k)) e ∙ ap (slice_index b) (place_at slot page j lt) ∙ w.within j in_part ∙ is.same j in_part ∙ ap (slice_index bytes) (sym e)

    reaches : (i j : ℕ) → i ≡ 65536 * page + j → j < 65536 → i < length bytes → place_of slot i < length b
    reaches i j e lt within =
        let in_part = is.all j lt (omega arith) in
        let at = ap (place_of slot) e ∙ place_at slot page j lt in
        omega (arith, at, in_part, w.size)

pub fill_failed : {T E : Type 0} {slot : ℕ} {bytes : List ℕ} (r : Result T E) {a b : Meaning} → IsErr r → Run 0 (KeepsSlot (other_slot slot) (a.now.seen 0)) a b → FillTold slot bytes r a b
fill_failed (Ok x) err run = absurd (cc err)
fill_failed (Err e) err run = record { run = run; stand = tt; reaches = tt }

pub synced_failed : {T E : Type 0} {slot : ℕ} {bytes : List ℕ} (r : Result T E) {a b : Meaning} → IsErr r → Run 0 (KeepsSlot (other_slot slot) (a.now.seen 0)) a b → FillSyncedTold slot bytes r a b
synced_failed (Ok x) err run = absurd (cc err)
synced_failed (Err e) err run = record { filled = record { run = run; stand = tt; reaches = tt }; settled = tt }

-- a sync behind the writes
pub fill_synced : {T E F G : Type 0} {slot : ℕ} {bytes : List ℕ} {x : T} {r : Result F G} {a b c : Meaning} → FillTold {E = E} slot bytes (Ok x) a b → SyncTold 0 r b c → FillSyncedTold slot bytes r a c
fill_synced {slot = slot} {bytes = bytes} {r = r} {a = a} {b = b} {c = c} f h =
    record {
      filled = record {
        run = then_call f.run h.ticks (λ i left. f.run.here i (h.crash i left));
        stand = on_ok_weaker r (λ only. subst (λ (s : List ℕ). BytesStand s slot bytes) (sym h.seen) f.stand) h.durable;
        reaches = on_ok_weaker r (λ only. subst (λ (s : List ℕ). Reaches s slot bytes) (sym h.seen) f.reaches) h.durable;
      };
      settled = on_ok_weaker r (λ only. record { only = λ i left. only i left ∙ sym h.seen }) h.durable;
    }

-- a write of a checkpoint, from a platter that shows s
module _ (root : Root) (bytes s : List ℕ) (long : 128 ≤ length s) where
  abbrev slot : ℕ
  slot = other_slot root.slot

  pub same_cell : (c : List ℕ) → KeepsSlot (other_slot slot) s c → (i : ℕ) → i < 128 → bytes_at c 0 i ≡ bytes_at s 0 i
  same_cell c k i lt = k.front (0 + i) (omega arith) (omega arith)

  former : (c : List ℕ) → KeepsSlot (other_slot slot) s c → KeepsFormer root.slot s c
  former c k = record {
    cell = value_ext (bytes_at c 0) (bytes_at s 0) (same_cell c k);
    holds = λ was old same h. let e : other_slot slot ≡ was.slot = ap (λ (n : ℕ). other_slot (other_slot n)) (sym same) ∙ other_twice was.slot h.says.is.slot in record {
      says = record {
        is = h.says.is;
        cell = value_ext (bytes_at c 0) (bytes_at s 0) (same_cell c k) ∙ h.says.cell;
        size = h.says.size;
        stand = λ i lt. subst (λ (n : ℕ). place_of n i < length s → slice_index c (place_of n i) ≡ slice_index s (place_of n i)) e (k.pages i) (h.reaches i lt) ∙ h.says.stand i lt;
      };
      reaches = λ i lt. let le = h.reaches i lt in omega (arith, le, k.no_shorter);
    };
  }

  pub filling : (c : List ℕ) → KeepsSlot (other_slot slot) s c → FormerOrNew root.slot (next_root root bytes) bytes s c
  filling c k = record { no_shorter = k.no_shorter; between = λ i above below lt. k.front i below lt; either = inl (former c k) }

  -- the new root names the bytes that stand
  pub holds : (d c : List ℕ) → IsRoot (next_root root bytes) → BytesStand d slot bytes → Reaches d slot bytes → length c ≡ length d → ((i : ℕ) → 128 ≤ i → slice_index c i ≡ slice_index d i) → value c 0 ≡ Some (root_text (next_root root bytes)) → Holds c (next_root root bytes) bytes
  holds d c is stand reaches size same cell = record {
    says = record { is = is; cell = cell; size = refl; stand = λ i lt. same (place_of slot i) (omega (arith, place_high slot i)) ∙ stand i lt };
    reaches = λ i lt. let le = reaches i lt in omega (arith, le, size);
  }

  -- the cell is set once the bytes stand
  pub setting : (d c : List ℕ) → IsRoot (next_root root bytes) → KeepsSlot (other_slot slot) s d → BytesStand d slot bytes → Reaches d slot bytes → CellFormerOrNew 0 (root_text (next_root root bytes)) d c → FormerOrNew root.slot (next_root root bytes) bytes s c
  setting d c is k stand reaches h = record {
    no_shorter = omega (arith, k.no_shorter, h.outside.same_length);
    between = λ i above below lt. h.outside.same i (inr (omega arith)) ∙ k.front i below lt;
    either = ⊎_elim (λ same. inl (still same)) (λ new. inr (holds d c is stand reaches h.outside.same_length (λ i high. h.outside.same i (inr (omega arith))) new)) h.either;
  }
    where
      still : value c 0 ≡ value d 0 → KeepsFormer root.slot s c
      still same =
          let f = former d k in
          record {
            cell = same ∙ f.cell;
            holds = λ was old is_slot w. let g = f.holds was old is_slot w in record {
              says = record { is = g.says.is; cell = same ∙ g.says.cell; size = g.says.size; stand = λ i lt. h.outside.same (place_of was.slot i) (inr (omega (arith, place_high was.slot i))) ∙ g.says.stand i lt };
              reaches = λ i lt. let le = g.reaches i lt in omega (arith, le, h.outside.same_length);
            };
          }

-- a write where a page begins
pub told_at : {T E : Type 0} {at place : ℕ} {bytes : List ℕ} {r : Result T E} {a b : Meaning} → at ≡ place → WriteTold 0 at bytes r a b → WriteTold 0 place bytes r a b
told_at {bytes = bytes} {r = r} {a = a} {b = b} same w = subst (λ (k : ℕ). WriteTold 0 k bytes r a b) same w

pub written_at : {at place : ℕ} {bytes old new : List ℕ} → at ≡ place → Written at bytes old new → Written place bytes old new
written_at {bytes = bytes} {old = old} {new = new} same w = subst (λ (k : ℕ). Written k bytes old new) same w

pub fill_as : {T E : Type 0} {r : Result T E} {slot other : ℕ} {bytes others : List ℕ} {a b : Meaning} → slot ≡ other → bytes ≡ others → FillSyncedTold slot bytes r a b → FillSyncedTold other others r a b
fill_as {r = r} {other = other} {bytes = bytes} {a = a} {b = b} same same_bytes f =
    subst (λ (l : List ℕ). FillSyncedTold other l r a b) same_bytes (subst (λ (n : ℕ). FillSyncedTold n bytes r a b) same f)

pub set_as : {T E : Type 0} {r : Result T E} {root other : Root} {a b : Meaning} → root ≡ other → SetTold 0 0 (root_text root) r a b → SetTold 0 0 (root_text other) r a b
set_as {r = r} {a = a} {b = b} same h = subst (λ (x : Root). SetTold 0 0 (root_text x) r a b) same h

pub write_failed : {T E : Type 0} {slot : ℕ} {root : Root} {bytes : List ℕ} (r : Result T E) {a b : Meaning} → IsErr r → Run 0 (FormerOrNew slot root bytes (a.now.seen 0)) a b → CheckpointTold slot root bytes r a b
write_failed (Ok x) err run = absurd (cc err)
write_failed (Err e) err run = record { run = run; settled = tt; holds = tt }

-- the root that is written may stand
pub is_next : (root : Root) (bytes : List ℕ) → length bytes ≤ 2 ^ 40 → 1 ≤ root.first → root.first ≤ 2 ^ 48 → IsRoot (next_root root bytes)
is_next root bytes size low high = record { slot = other_low root.slot; size = size; low = low; high = high }

-- The calls of a write, one after another.
module _ (root : Root) (bytes : List ℕ) {a : Meaning} (long : 128 ≤ length (a.now.seen 0)) where
  pub to_fill : {T E : Type 0} {r : Result T E} {b : Meaning} → FillSyncedTold (other_slot root.slot) bytes r a b → Run 0 (FormerOrNew root.slot (next_root root bytes) bytes (a.now.seen 0)) a b
  to_fill f = weaker_run f.filled.run (λ c k. filling root bytes (a.now.seen 0) long c k)

  keeps : {T E : Type 0} {r : Result T E} {b : Meaning} → FillSyncedTold (other_slot root.slot) bytes r a b → KeepsSlot (other_slot (other_slot root.slot)) (a.now.seen 0) (b.now.seen 0)
  keeps {b = b} f = f.filled.run.here (b.now.seen 0) (b.seen_now 0)

  pub still_long : {T E : Type 0} {r : Result T E} {b : Meaning} → FillSyncedTold (other_slot root.slot) bytes r a b → 128 ≤ length (b.now.seen 0)
  still_long f = let k = keeps f in omega (arith, k.no_shorter)

  module _ (is : IsRoot (next_root root bytes)) {T E : Type 0} {x : T} {b : Meaning} (f : FillSyncedTold {E = E} (other_slot root.slot) bytes (Ok x) a b) where
    pub to_set : {F G : Type 0} {r : Result F G} {c : Meaning} → SetTold 0 0 (root_text (next_root root bytes)) r b c → Run 0 (FormerOrNew root.slot (next_root root bytes) bytes (a.now.seen 0)) a c
    to_set h = then_run (to_fill f) h.run (λ i k. setting root bytes (a.now.seen 0) long (b.now.seen 0) i is (keeps f) f.filled.stand f.filled.reaches k)

    pub is_written : {F G : Type 0} {y : F} {c : Meaning} → SetTold {E = G} 0 0 (root_text (next_root root bytes)) (Ok y) b c → Holds (c.now.seen 0) (next_root root bytes) bytes
    is_written {c = c} h =
        let at_end = h.run.here (c.now.seen 0) (c.seen_now 0) in
        holds root bytes (a.now.seen 0) long (b.now.seen 0) (c.now.seen 0) is f.filled.stand f.filled.reaches at_end.outside.same_length (λ i high. at_end.outside.same i (inr (omega arith))) h.value

  -- the cell that is set has the bytes that it had
  pub same_writes : {T E : Type 0} {r : Result T E} {b : Meaning} → FillSyncedTold (other_slot root.slot) bytes r a b → writes_for (bytes_at (b.now.seen 0) 0) ≡ writes_for (bytes_at (a.now.seen 0) 0)
  same_writes {b = b} f =
      let same = same_cell root bytes (a.now.seen 0) long (b.now.seen 0) (keeps f) in
      let low = copy_low (bytes_at (b.now.seen 0) 0) in
      let gate : bytes_at (b.now.seen 0) 0 (copy_for (bytes_at (b.now.seen 0) 0)) ≡ bytes_at (a.now.seen 0) 0 (copy_for (bytes_at (a.now.seen 0) 0)) =
      same (copy_for (bytes_at (b.now.seen 0) 0)) (omega arith) ∙ ap (bytes_at (a.now.seen 0) 0) (copy_ext (bytes_at (b.now.seen 0) 0) (bytes_at (a.now.seen 0) 0) same) in
      ap (λ (k : ℕ). if k == 1 then 3 else 2) gate

pub both_writes : (p q w v x y z : ℕ) → p ≡ q → y ≡ raised_by p x → z ≡ raised_by w y → w ≡ v → z ≡ raised_by (q + v) x
both_writes p q w v x y z d a b e = omega arith

-- the root that the code makes is the next
pub root_as : (root : Root) (bytes : List ℕ) {slot long : ℕ} → slot ≡ other_slot root.slot → long ≡ length bytes → ◌≡◌ {A = Root} (record { slot = slot; geo = root.geo; length = long; first = root.first }) (next_root root bytes)
root_as root bytes a b = λ i. record { slot = a i; geo = root.geo; length = b i; first = root.first }

pub set_ok : {T E F G : Type 0} {x : T} {y : F} {payload text : List ℕ} {a b : Meaning} → payload ≡ text → SetTold {E = E} 0 0 payload (Ok x) a b → SetTold {E = G} 0 0 text (Ok y) a b
set_ok {E = E} {G = G} {x = x} {y = y} {a = a} {b = b} same h =
    subst (λ (l : List ℕ). SetTold {E = G} 0 0 l (Ok y) a b) same (record { run = h.run; settled = h.settled; value = h.value; copy = h.copy })
