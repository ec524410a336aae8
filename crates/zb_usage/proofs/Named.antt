-- How many bytes of a stripe lists of pointers name.
use Rattle.std.proofs.Common.{◌≡◌, ℕ, ◌+◌, Bool, true, false, List, [], ◌∷◌, ◌++◌, map, Option, Some, None, refl, sym, ap, ◌∙◌, inl, inr, arith}
use Rattle.std.specs.Prelude.{if◌then◌else◌, ◌==◌, ◌&&◌, filter}
use Rattle.std.specs.List.{AllByRecursion, flat_map}
use Rattle.std.proofs.lemmas.Bool.{cases_Bool, cases_lt, and_parts, eqb-true, eq-eqb, ne_eqb}
use Rattle.std.proofs.lemmas.Option.{none-some}
use Rattle.std.proofs.lemmas.Bool.Decides.{nat_tests}
use Rattle.zb_types.specs.declared.ids.LogId.{LogId}
use Rattle.zb_types.specs.declared.ids.Ptr.{Ptr}
use Rattle.zb_types.specs.declared.tables.HeldUse.{HeldUse}
use Rattle.zb_types.specs.Keyed.{look}
use Rattle.zb_types.proofs.KeyedLists.{IsRising, look-below, IsRising-from_ordered}
use Rattle.zb_delta.specs.declared.delta.Body.{Body}
use Rattle.zb_tables.specs.Tables.{FileState, Tables, EachFile, LiesIn, PointsIn, is_of, held_at, end_at, end_of}
use Rattle.zb_tables.specs.Fold.{Files}
use Rattle.zb_tables.specs.Taking.{Sizes}
use Rattle.zb_tables.specs.Checkpoint.{IsFile, AreTables}
use Rattle.zb_tables.specs.Finding.{is_into, live_in}
use Rattle.zb_tables.proofs.Ordered.{Rising, AllAfter, rising_from}
use Rattle.zb_usage.specs.Uses.{bytes_in, named_bytes, stripe_use, all_live}
use Rattle.zb_usage.specs.Seen.{if_held}

abbrev Blocks : Type 0
Blocks = List (ℕ × Ptr)

-- the pointer of a block as a file lists it
abbrev body_at : ℕ → ℕ → ℕ × Ptr → Body
body_at fid version k = record { fid = record { 0 = fid }; version = version; block = k.0; was = None; now = k.1 }

-- each block of a list whose numbers rise is found
each_found : (P : Ptr → Type 0) (ks : Blocks) → IsRising ks → ((k : ℕ) (p : Ptr) → look k ks ≡ Some p → P p) → AllByRecursion (λ k. P k.1) ks
each_found P [] rising each = tt
each_found P (k ∷ ks) rising each =
    (each k.0 k.1 (ap (λ (b : Bool). if b then Some k.1 else look k.0 ks) (eq-eqb k.0 k.0 refl)), each_found P ks rising.1 (λ j p e. each j p (later j p e)))
  where
    later : (j : ℕ) (p : Ptr) → look j ks ≡ Some p → look j (k ∷ ks) ≡ Some p
    later j p e = elim (cases_lt k.0 j) as (λ _. look j (k ∷ ks) ≡ Some p) [
      | inl l ↦ ap (λ (b : Bool). if b then Some k.1 else look j ks) (ne_eqb k.0 j (λ (same : k.0 ≡ j). omega arith)) ∙ e
      | inr l ↦ absurd (none-some p (sym (look-below j k.0 ks l rising.0) ∙ e))
    ]

module _ (log : LogId) (stripe : ℕ) where
  pub named-append : (xs ys : List Body) → named_bytes log stripe (xs ++ ys) ≡ named_bytes log stripe xs + named_bytes log stripe ys
  named-append [] ys = omega arith
  named-append (x ∷ xs) ys = omega (arith, named-append xs ys)

  -- the bytes of the stripe that blocks name
  abbrev pub blocks_use : Blocks → ℕ
  blocks_use [] = 0
  blocks_use (k ∷ ks) = bytes_in log stripe (Some k.1) + blocks_use ks

  -- and those that files do
  abbrev pub files_use : Files → ℕ
  files_use [] = 0
  files_use (e ∷ es) = blocks_use (e.1).blocks + files_use es

  -- a file's pointers into the stripe name what all its blocks do
  into_here : (fid version : ℕ) (ks : Blocks) → named_bytes log stripe (map (body_at fid version) (filter (λ k. is_into log stripe k.1) ks)) ≡ blocks_use ks
  into_here fid version [] = refl
  into_here fid version (k ∷ ks) = elim (cases_Bool (is_into log stripe k.1)) as (λ _. named_bytes log stripe (map (body_at fid version) (filter (λ k. is_into log stripe k.1) (k ∷ ks))) ≡ blocks_use (k ∷ ks)) [
    | inl t ↦ grind (arith, into_here fid version ks)
    | inr f ↦ grind (arith, into_here fid version ks)
  ]

  -- the use of a stripe is what the blocks of all files name of it
  pub use_of_files : (files : Files) → named_bytes log stripe (flat_map (live_in log stripe) files) ≡ files_use files
  use_of_files [] = refl
  use_of_files (e ∷ es) =
      named-append (live_in log stripe e) (flat_map (live_in log stripe) es)
      ∙ (λ i. into_here e.0 (e.1).version (e.1).blocks i + use_of_files es i)

  -- pointers into another stripe name nothing of it
  elsewhere : (h : HeldUse) → is_of log stripe h ≡ false → (p : Ptr) → is_into h.log h.stripe p ≡ true → is_into log stripe p ≡ false
  elsewhere h other p into = grind (arith, nat_tests)

  into_other : (h : HeldUse) → is_of log stripe h ≡ false → (fid version : ℕ) (ks : Blocks) → named_bytes log stripe (map (body_at fid version) (filter (λ k. is_into h.log h.stripe k.1) ks)) ≡ 0
  into_other h other fid version [] = refl
  into_other h other fid version (k ∷ ks) = elim (cases_Bool (is_into h.log h.stripe k.1)) as (λ _. named_bytes log stripe (map (body_at fid version) (filter (λ k. is_into h.log h.stripe k.1) (k ∷ ks))) ≡ 0) [
    | inl t ↦ grind (arith, into_other h other fid version ks, elsewhere h other k.1 t)
    | inr f ↦ grind (arith, into_other h other fid version ks)
  ]

  files_other : (h : HeldUse) → is_of log stripe h ≡ false → (files : Files) → named_bytes log stripe (flat_map (live_in h.log h.stripe) files) ≡ 0
  files_other h other [] = refl
  files_other h other (e ∷ es) =
      named-append (live_in h.log h.stripe e) (flat_map (live_in h.log h.stripe) es)
      ∙ (λ i. into_other h other e.0 (e.1).version (e.1).blocks i + files_other h other es i)

  -- pointers into the stripe itself are those of its use
  files_same : (h : HeldUse) → is_of log stripe h ≡ true → (files : Files) → flat_map (live_in h.log h.stripe) files ≡ flat_map (live_in log stripe) files
  files_same h same files =
      let parts = and_parts (h.log.0 == log.0) (h.stripe == stripe) same in
      let number = eqb-true h.log.0 log.0 parts.0 in
      let place = eqb-true h.stripe stripe parts.1 in
      λ i. flat_map (λ (e : ℕ × FileState). map (body_at e.0 (e.1).version) (filter (λ (k : ℕ × Ptr). (k.1).log.0 == number i && (k.1).stripe == place i) (e.1).blocks)) files

  -- a stripe is held once
  held_once : (h : HeldUse) (hs : List HeldUse) → is_of log stripe h ≡ true → AllAfter h hs → held_at log stripe hs ≡ None
  held_once h [] same all = refl
  held_once h (g ∷ gs) same all = grind (arith, nat_tests, all.0, held_once h gs same all.1)

  -- what the pointers into held stripes name of one of them
  held_use : (files : Files) (held : List HeldUse) → Rising held
      → named_bytes log stripe (flat_map (λ h. flat_map (live_in h.log h.stripe) files) held) ≡ if_held (held_at log stripe held) (files_use files)
  held_use files [] rising = refl
  held_use files (h ∷ hs) rising = elim (cases_Bool (is_of log stripe h)) as (λ _. named_bytes log stripe (flat_map (λ h. flat_map (live_in h.log h.stripe) files) (h ∷ hs)) ≡ if_held (held_at log stripe (h ∷ hs)) (files_use files)) [
    | inl t ↦
        named-append (flat_map (live_in h.log h.stripe) files) (flat_map (λ h. flat_map (live_in h.log h.stripe) files) hs)
        ∙ (λ i. (ap (named_bytes log stripe) (files_same h t files) ∙ use_of_files files) i + (held_use files hs rising.1 ∙ ap (λ o. if_held o (files_use files)) (held_once h hs t rising.0)) i)
        ∙ grind arith
    | inr f ↦
        named-append (flat_map (live_in h.log h.stripe) files) (flat_map (λ h. flat_map (live_in h.log h.stripe) files) hs)
        ∙ (λ i. files_other h f files i + held_use files hs rising.1 i)
        ∙ grind arith
  ]

  -- ---- a stripe that isn't held

  -- no pointer into held stripes lies in it
  not_there : (held : List HeldUse) → held_at log stripe held ≡ None → (p : Ptr) → LiesIn held p → is_into log stripe p ≡ false
  not_there held gone p lies = elim (cases_Bool (is_into log stripe p)) as (λ _. is_into log stripe p ≡ false) [
    | inr f ↦ f
    | inl t ↦
        let parts = and_parts (p.log.0 == log.0) (p.stripe == stripe) t in
        let number = eqb-true p.log.0 log.0 parts.0 in
        let place = eqb-true p.stripe stripe parts.1 in
        let same : held_at p.log p.stripe held ≡ held_at log stripe held = λ i. held_at (record { 0 = number i }) (place i) held in
        let end : end_at held p.log p.stripe ≡ 0 = ap end_of (same ∙ gone) in
        absurd (omega (arith, lies.0, lies.1, end))
  ]

  blocks_none : (held : List HeldUse) → held_at log stripe held ≡ None → (ks : Blocks) → AllByRecursion (λ k. LiesIn held k.1) ks → blocks_use ks ≡ 0
  blocks_none held gone [] all = refl
  blocks_none held gone (k ∷ ks) all = grind (arith, not_there held gone k.1 all.0, blocks_none held gone ks all.1)

  -- neither do files name any of it
  pub files_none : (z : Sizes) (next : ℕ) (held : List HeldUse) → held_at log stripe held ≡ None → (files : Files) → AllByRecursion (IsFile z next) files → EachFile (PointsIn held) files → files_use files ≡ 0
  files_none z next held gone [] are points = refl
  files_none z next held gone (e ∷ es) are points =
      let rising = IsRising-from_ordered (e.1).blocks (are.0).rising in
      (λ i. blocks_none held gone (e.1).blocks (each_found (LiesIn held) (e.1).blocks rising points.0) i + files_none z next held gone es are.1 points.1 i)

  -- ---- the tables

  -- the pointers into held stripes name of each stripe what all pointers do
  pub held_tells : (z : Sizes) (t : Tables) → AreTables z t → EachFile (PointsIn t.held) t.files → named_bytes log stripe (all_live t) ≡ stripe_use t log stripe
  held_tells z t are points = held_use t.files t.held (rising_from t.held are.held_rise) ∙ by_held (held_at log stripe t.held) refl
    where
      by_held : (o : Option HeldUse) → held_at log stripe t.held ≡ o → if_held o (files_use t.files) ≡ stripe_use t log stripe
      by_held (Some h) e = sym (use_of_files t.files)
      by_held None e = sym (use_of_files t.files ∙ files_none z t.names.next t.held e t.files are.files points)

  -- of a stripe that isn't held no byte is named
  pub none_named : (z : Sizes) (t : Tables) → AreTables z t → EachFile (PointsIn t.held) t.files → held_at log stripe t.held ≡ None → stripe_use t log stripe ≡ 0
  none_named z t are points gone = use_of_files t.files ∙ files_none z t.names.next t.held gone t.files are.files points
