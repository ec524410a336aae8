-- What comes and goes by the notes of deltas, and what blocks and files name then.
use Rattle.std.proofs.Common.{◌≡◌, ℕ, ◌+◌, Bool, true, false, eqb, List, [], ◌∷◌, ◌++◌, map, Option, Some, None, refl, sym, ap, ◌∙◌, inl, inr, arith}
use Rattle.std.specs.Prelude.{if◌then◌else◌, ◌==◌, ◌&&◌, nat_lt}
use Rattle.std.specs.List.{AllByRecursion}
use Rattle.std.proofs.lemmas.Bool.{cases_Bool, cases_order, and_parts, eqb-true, eq-eqb, le-leb, true≢false, false≢true}
use Rattle.std.proofs.lemmas.Bool.Decides.{nat_tests}
use Rattle.std.proofs.lemmas.Option.{none-some, same_Some}
use Rattle.zb_types.specs.declared.ids.Fid.{Fid}
use Rattle.zb_types.specs.declared.ids.LogId.{LogId}
use Rattle.zb_types.specs.declared.ids.Ptr.{Ptr}
use Rattle.zb_types.specs.Keyed.{look, put, replaced, without}
use Rattle.zb_types.proofs.KeyedLists.{IsRising, IsRising-put, look-below, without_absent}
use Rattle.zb_delta.specs.declared.delta.Delta.{Delta}
use Rattle.zb_delta.specs.declared.delta.Delta.TheVariants.{Update, Clean, Reject}
use Rattle.zb_delta.specs.Spelling.{body_of}
use Rattle.zb_batch.specs.Batches.{IsUpdateOf, IsCleanDelta}
use Rattle.zb_tables.specs.Tables.{FileState}
use Rattle.zb_tables.specs.Fold.{Files, below, new_file, same_place, same_ptr, set_all}
use Rattle.zb_usage.specs.Uses.{bytes_in}
use Rattle.zb_usage.specs.Noting.{come, gone}
use Rattle.zb_usage.proofs.Named.{blocks_use, files_use}
use Rattle.zb_notes.specs.Notes.{drop_note, from, gone_notes, reject_over, set_note, set_notes, vain_note}
use Rattle.zb_notes.specs.Notable.{AreNotable, IsNotable, all_come, all_gone}

abbrev pub Blocks : Type 0
Blocks = List (ℕ × Ptr)

-- an update, or a move by the cleaner
abbrev pub IsChange : Delta → Type 0
IsChange (Update body) = Unit {0}
IsChange (Clean body) = Unit {0}
IsChange (Reject body table) = ⊥

pub update_changes : (fid : Fid) (version : ℕ) (ds : List Delta) → AllByRecursion (IsUpdateOf fid version) ds → AllByRecursion IsChange ds
update_changes fid version [] all = tt
update_changes fid version (d ∷ ds) all = (one d all.0, update_changes fid version ds all.1)
  where
    one : (d : Delta) → IsUpdateOf fid version d → IsChange d
    one (Update body) is = tt
    one (Clean body) is = absurd is
    one (Reject body table) is = absurd is

pub clean_changes : (ds : List Delta) → AllByRecursion IsCleanDelta ds → AllByRecursion IsChange ds
clean_changes [] all = tt
clean_changes (d ∷ ds) all = (one d all.0, clean_changes ds all.1)
  where
    one : (d : Delta) → IsCleanDelta d → IsChange d
    one (Update body) is = absurd is
    one (Clean body) is = tt
    one (Reject body table) is = absurd is

-- ---- pointers

pub same_self : (p : Ptr) → same_ptr p p ≡ true
same_self p = λ i. eq-eqb p.log.0 p.log.0 refl i && eq-eqb p.stripe p.stripe refl i && eq-eqb p.offset p.offset refl i && eq-eqb p.len p.len refl i

pub ptr_is : (p q : Ptr) → same_ptr p q ≡ true → p ≡ q
ptr_is p q e =
    let last = and_parts (p.log.0 == q.log.0 && p.stripe == q.stripe && p.offset == q.offset) (p.len == q.len) e in
    let third = and_parts (p.log.0 == q.log.0 && p.stripe == q.stripe) (p.offset == q.offset) last.0 in
    let second = and_parts (p.log.0 == q.log.0) (p.stripe == q.stripe) third.0 in
    let l : p.log ≡ q.log = ap (λ (n : ℕ). record { 0 = n }) (eqb-true p.log.0 q.log.0 second.0) in
    let s = eqb-true p.stripe q.stripe second.1 in
    let o = eqb-true p.offset q.offset third.1 in
    let n = eqb-true p.len q.len last.1 in
    λ i. record { log = l i; stripe = s i; offset = o i; len = n i }

pub place_is : (table was : Option Ptr) → same_place table was ≡ true → table ≡ was
place_is None None e = refl
place_is None (Some q) e = absurd (false≢true e)
place_is (Some p) None e = absurd (false≢true e)
place_is (Some p) (Some q) e = ap Some (ptr_is p q e)

module _ (log : LogId) (stripe : ℕ) where
  abbrev bytes : Option Ptr → ℕ
  bytes o = bytes_in log stripe o

  abbrev use_in : Blocks → ℕ
  use_in ks = blocks_use log stripe ks

  abbrev comes : List Delta → ℕ
  comes ds = all_come log stripe ds

  abbrev goes : List Delta → ℕ
  goes ds = all_gone log stripe ds

  pub come-append : (xs ys : List Delta) → comes (xs ++ ys) ≡ comes xs + comes ys
  come-append [] ys = omega arith
  come-append (x ∷ xs) ys = omega (arith, come-append xs ys)

  pub gone-append : (xs ys : List Delta) → goes (xs ++ ys) ≡ goes xs + goes ys
  gone-append [] ys = omega arith
  gone-append (x ∷ xs) ys = omega (arith, gone-append xs ys)

  -- ---- one delta

  pub come_is : (d : Delta) → IsChange d → come d ≡ Some (body_of d).now
  come_is (Update body) is = refl
  come_is (Clean body) is = refl
  come_is (Reject body table) is = absurd is

  pub gone_is : (d : Delta) → IsChange d → gone d ≡ (body_of d).was
  gone_is (Update body) is = refl
  gone_is (Clean body) is = refl
  gone_is (Reject body table) is = absurd is

  -- what comes to the place of the tables' pointer and what goes from it
  note_sum : (d : Delta) → IsChange d → (table : Option Ptr) → IsNotable d table → comes (set_note d table) + bytes table ≡ goes (set_note d table) + bytes (Some (body_of d).now)
  note_sum d is table may = by (same_place table (body_of d).was) refl table refl
    where
      by : (known : Bool) → same_place table (body_of d).was ≡ known → (o : Option Ptr) → table ≡ o
          → comes (d ∷ (if known then [] else reject_over d o)) + bytes table ≡ goes (d ∷ (if known then [] else reject_over d o)) + bytes (Some (body_of d).now)
      by true e o at =
          let c = ap bytes (come_is d is) in
          let g = ap bytes (gone_is d is) in
          let t = ap bytes (place_is table (body_of d).was e) in
          omega (arith, c, g, t)
      by false e None at = absurd (true≢false (sym (ap (λ (w : Option Ptr). same_place None w) (may.old at)) ∙ ap (λ (t : Option Ptr). same_place t (body_of d).was) (sym at) ∙ e))
      by false e (Some dead) at =
          let c = ap bytes (come_is d is) in
          let g = ap bytes (gone_is d is) in
          let t = ap bytes at in
          let rc = ap (λ (b : Bool). bytes (if b then (body_of d).was else None)) (same_self dead) in
          let rg = ap (λ (b : Bool). bytes (if b then Some dead else None)) (same_self dead) in
          omega (arith, c, g, t, rc, rg)

  -- a block is put
  pub use_put : (k : ℕ) (p : Ptr) (ks : Blocks) → IsRising ks → use_in (put k p ks) + bytes (look k ks) ≡ use_in ks + bytes (Some p)
  use_put k p [] rising = omega arith
  use_put k p (e ∷ es) rising = elim (cases_order k e.0) as (λ _. use_in (put k p (e ∷ es)) + bytes (look k (e ∷ es)) ≡ use_in (e ∷ es) + bytes (Some p)) [
    | inl same ↦
        let t = eq-eqb e.0 k (sym same) in
        let now = ap (λ (b : Bool). use_in (if b then (k, p) ∷ es else (if nat_lt k e.0 then (k, p) ∷ e ∷ es else e ∷ put k p es))) t in
        let was = ap (λ (b : Bool). bytes (if b then Some e.1 else look k es)) t in
        omega (arith, now, was)
    | inr (inl low) ↦ grind (arith, nat_tests, look-below k e.0 es (omega arith) rising.0)
    | inr (inr high) ↦ grind (arith, nat_tests, use_put k p es rising.1)
  ]

  -- a delta is set
  pub set_sum : (d : Delta) → IsChange d → (ks : Blocks) → IsRising ks → IsNotable d (look (body_of d).block ks)
      → use_in (put (body_of d).block (body_of d).now ks) + goes (set_note d (look (body_of d).block ks)) ≡ use_in ks + comes (set_note d (look (body_of d).block ks))
  set_sum d is ks rising may =
      let n = note_sum d is (look (body_of d).block ks) may in
      let u = use_put (body_of d).block (body_of d).now ks rising in
      omega (arith, n, u)

  -- deltas are set one behind the other
  pub set_sums : (ds : List Delta) → AllByRecursion IsChange ds → (ks : Blocks) → IsRising ks → AreNotable ds ks → use_in (set_all ds ks) + goes (set_notes ds ks) ≡ use_in ks + comes (set_notes ds ks)
  set_sums [] all ks rising may = refl
  set_sums (d ∷ ds) all ks rising may =
      let one = set_sum d all.0 ks rising may.0 in
      let rest = set_sums ds all.1 (put (body_of d).block (body_of d).now ks) (IsRising-put (body_of d).block (body_of d).now ks rising) may.1 in
      let c = come-append (set_note d (look (body_of d).block ks)) (set_notes ds (put (body_of d).block (body_of d).now ks)) in
      let g = gone-append (set_note d (look (body_of d).block ks)) (set_notes ds (put (body_of d).block (body_of d).now ks)) in
      omega (arith, one, rest, c, g)

  -- ---- deltas that set nothing

  pub gone_sums : (ds : List Delta) → (comes (gone_notes ds) ≡ 0) × (goes (gone_notes ds) ≡ 0)
  gone_sums [] = (refl, refl)
  gone_sums (d ∷ ds) =
      let rest = gone_sums ds in
      let c = rest.0 in
      let g = rest.1 in
      (omega (arith, c), omega (arith, g))

  pub vain_sums : (d : Delta) (table : Option Ptr) → same_place table (Some (body_of d).now) ≡ false → (bytes (come (vain_note table d)) ≡ 0) × (bytes (gone (vain_note table d)) ≡ 0)
  vain_sums d table other = (ap (λ (b : Bool). bytes (if b then (body_of d).was else None)) other, ap (λ (b : Bool). bytes (if b then Some (body_of d).now else None)) other)

  -- ---- blocks that are dropped

  pub drop_sums : (fid version : ℕ) (ks : Blocks) → (comes (map (drop_note fid version) ks) ≡ 0) × (goes (map (drop_note fid version) ks) ≡ use_in ks)
  drop_sums fid version [] = (refl, refl)
  drop_sums fid version (k ∷ ks) =
      let rest = drop_sums fid version ks in
      let c = ap (λ (b : Bool). bytes (if b then None else None)) (same_self k.1) in
      let g = ap (λ (b : Bool). bytes (if b then Some k.1 else None)) (same_self k.1) in
      (omega (arith, rest.0, c), omega (arith, rest.1, g))

  -- the blocks below a number and those from it on are all
  pub use_split : (n : ℕ) (ks : Blocks) → use_in (below n ks) + use_in (from n ks) ≡ use_in ks
  use_split n [] = refl
  use_split n (k ∷ ks) = elim (cases_Bool (nat_lt k.0 n)) as (λ _. use_in (below n (k ∷ ks)) + use_in (from n (k ∷ ks)) ≡ use_in (k ∷ ks)) [
    | inl t ↦ grind (arith, nat_tests, use_split n ks)
    | inr f ↦ grind (arith, nat_tests, use_split n ks)
  ]

  pub use_from_first : (ks : Blocks) → use_in (from 0 ks) ≡ use_in ks
  use_from_first [] = refl
  use_from_first (k ∷ ks) =
      let all = ap (λ (b : Bool). use_in (if b then k ∷ from 0 ks else from 0 ks)) (le-leb 0 k.0 (omega arith)) in
      omega (arith, all, use_from_first ks)

  -- ---- files

  abbrev use_of : Files → ℕ
  use_of files = files_use log stripe files

  pub use_replaced : (fid : ℕ) (new file : FileState) (files : Files) → look fid files ≡ Some file → use_of (replaced fid new files) + use_in file.blocks ≡ use_of files + use_in new.blocks
  use_replaced fid new file [] at = absurd (none-some file at)
  use_replaced fid new file (e ∷ es) at = elim (cases_Bool (eqb e.0 fid)) as (λ _. use_of (replaced fid new (e ∷ es)) + use_in file.blocks ≡ use_of (e ∷ es) + use_in new.blocks) [
    | inl t ↦
        let now = ap (λ (b : Bool). use_of (if b then (fid, new) ∷ es else e ∷ replaced fid new es)) t in
        let own = same_Some e.1 file (sym (ap (λ (b : Bool). if b then Some e.1 else look fid es) t) ∙ at) in
        let was = ap (λ (f : FileState). use_in f.blocks) own in
        omega (arith, now, was)
    | inr f ↦
        let now = ap (λ (b : Bool). use_of (if b then (fid, new) ∷ es else e ∷ replaced fid new es)) f in
        let rest = use_replaced fid new file es (sym (ap (λ (b : Bool). if b then Some e.1 else look fid es) f) ∙ at) in
        omega (arith, now, rest)
  ]

  pub use_made : (fid : ℕ) (files : Files) → look fid files ≡ None → use_of (put fid new_file files) ≡ use_of files
  use_made fid [] none = refl
  use_made fid (e ∷ es) none = elim (cases_Bool (eqb e.0 fid)) as (λ _. use_of (put fid new_file (e ∷ es)) ≡ use_of (e ∷ es)) [
    | inl t ↦ absurd (none-some e.1 (sym none ∙ ap (λ (b : Bool). if b then Some e.1 else look fid es) t))
    | inr f ↦
        let rest = use_made fid es (sym (ap (λ (b : Bool). if b then Some e.1 else look fid es) f) ∙ none) in
        grind (arith, f, rest)
  ]

  pub use_dropped : (fid : ℕ) (file : FileState) (files : Files) → IsRising files → look fid files ≡ Some file → use_of (without fid files) + use_in file.blocks ≡ use_of files
  use_dropped fid file [] rising at = absurd (none-some file at)
  use_dropped fid file (e ∷ es) rising at = elim (cases_Bool (eqb e.0 fid)) as (λ _. use_of (without fid (e ∷ es)) + use_in file.blocks ≡ use_of (e ∷ es)) [
    | inl t ↦
        let same = eqb-true e.0 fid t in
        let none = look-below fid e.0 es (omega (arith, same)) rising.0 in
        let less = ap (λ (b : Bool). use_of (if b then without fid es else e ∷ without fid es)) t ∙ ap use_of (without_absent fid es none) in
        let own = same_Some e.1 file (sym (ap (λ (b : Bool). if b then Some e.1 else look fid es) t) ∙ at) in
        let was = ap (λ (f : FileState). use_in f.blocks) own in
        omega (arith, less, was)
    | inr f ↦
        let less = ap (λ (b : Bool). use_of (if b then without fid es else e ∷ without fid es)) f in
        let rest = use_dropped fid file es rising.1 (sym (ap (λ (b : Bool). if b then Some e.1 else look fid es) f) ∙ at) in
        omega (arith, less, rest)
  ]
