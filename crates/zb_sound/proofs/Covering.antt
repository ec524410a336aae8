-- What a rebuild has covered stays so.
use Rattle.std.proofs.Common.{◌≡◌, ◌⊎◌, ℕ, ◌+◌, ◌-◌, max, Bool, true, false, not, eqb, List, [], ◌∷◌, get_or, take, Option, Some, None, refl, sym, ap, ◌∙◌, subst, inl, inr}
use Rattle.std.specs.Prelude.{All, ◌&&◌, filter, if◌then◌else◌, is_some, slice_get}
use Rattle.std.proofs.lemmas.Bool.{and_parts, cases_Bool, cond_both, eqb-true, false≢true}
use Rattle.std.proofs.lemmas.Option.{none-some}
use Rattle.zb_types.specs.declared.ids.LogId.{LogId}
use Rattle.zb_types.specs.declared.ids.Piece.{Piece}
use Rattle.zb_types.specs.declared.ids.ServerId.{ServerId}
use Rattle.zb_types.specs.declared.nodes.Class.{Class}
use Rattle.zb_types.specs.declared.requests.Request.{Request}
use Rattle.zb_types.specs.declared.tables.HeldUse.{HeldUse}
use Rattle.zb_types.specs.Tree.{Tree}
use Rattle.zb_holding.specs.Holding.{StripeHolds, standing, away_at}
use Rattle.zb_stripe.specs.declared.flush.Flush.{Flush}
use Rattle.zb_stripe_laws.specs.PartAtWork.{StripesDiffer}
use Rattle.zb_stripe_laws.specs.PlanAtWork.{IsBeside}
use Rattle.zb_stripe_laws.proofs.Beside.{beside}
use Rattle.zb_stripe_laws.proofs.Mended.{holds_away}
use Rattle.zb_tables.specs.Tables.{Contents, SameIn, Tables, end_of, held_at, is_of}
use Rattle.zb_tables.specs.Fold.{born_of, held_with, held_with_all}
use Rattle.zb_tables.specs.Replay.{Platter}
use Rattle.zb_tables.specs.Taking.{Sizes}
use Rattle.zb_tables.proofs.Holding.{held_at-put_other, held_at-put_same, same_log}
use Rattle.zb_recovery.specs.Missing.{Servers}
use Rattle.zb_recovery.specs.Agreeing.{ViewAgrees}
use Rattle.zb_sound.specs.Standing.{StandFor, seen}
use Rattle.zb_sound.specs.Delivering.{FlushWorks, PartFits, PartsStand, after_asked, any_one, with_parts}
use Rattle.zb_sound.specs.Committing.{AreInFlush}
use Rattle.zb_sound.specs.Rebuilding.{RebuildIsCovered, StandsWhole}
use Rattle.zb_sound.proofs.Delivering.{next_one, stripe_same}
use Rattle.zb_sound.proofs.Flushing.{flushed_stand}
use Rattle.zb_sound.proofs.Saying.{said_some}

module _ (z : Sizes) (contents : Contents) (st : Servers) (held left : List HeldUse) (covered : RebuildIsCovered z contents st held left) where
  same_stripe : (log l : LogId) (stripe s : ℕ) (P : LogId → ℕ → Type 0) → l.0 ≡ log.0 → s ≡ stripe → P log stripe → P l s
  same_stripe log l stripe s P el es p = subst (λ (m : LogId). P m s) (same_log log l (sym el)) (subst (P log) (sym es) p)

  pub restored_covers : (later : List HeldUse) (log : LogId) (stripe : ℕ) → ((h : HeldUse) → held_at log stripe held ≡ Some h → StandsWhole z contents st log stripe h.end)
      → ((l : LogId) (s : ℕ) → held_at l s later ≡ None → (held_at l s left ≡ None) ⊎ ((l.0 ≡ log.0) × (s ≡ stripe))) → RebuildIsCovered z contents st held later
  restored_covers later log stripe whole less l s h e none = elim (less l s none) as (λ _. StandsWhole z contents st l s h.end) [
    | inl before ↦ covered l s h e before
    | inr here ↦ same_stripe log l stripe s (λ m k. held_at m k held ≡ Some h → StandsWhole z contents st m k h.end) here.0 here.1 (whole h) e
  ]

  pub beside_covers : (asked : ServerId × Request) → ((l : LogId) (s : ℕ) (h : HeldUse) → held_at l s held ≡ Some h → held_at l s left ≡ None → IsBeside asked.1 l s)
      → RebuildIsCovered z contents (after_asked st asked) held left
  beside_covers asked away l s h e none x may =
      stripe_same z.servers z.fragment st.maps (after_asked st asked).maps x contents l s h.end (λ k a. beside z.servers st.maps asked l s k (away l s h e none)) (covered l s h e none x may)

  pub fewer_cover : (less : List HeldUse) → ((l : LogId) (s : ℕ) (h : HeldUse) → held_at l s less ≡ Some h → held_at l s held ≡ Some h) → RebuildIsCovered z contents st less left
  fewer_cover less had l s h e none = covered l s h (had l s h e) none

  pub contents_cover : (new : Contents) → SameIn held contents new → RebuildIsCovered z new st held left
  contents_cover new same l s h e none x may =
      let stands = covered l s h e none x may in
      let at : take h.end (contents l s) ≡ take h.end (new l s) = subst (λ (o : Option HeldUse). take (end_of o) (contents l s) ≡ take (end_of o) (new l s)) e (same l s) in
      record { bytes = stands.bytes; held = stands.held; first = sym at ∙ stands.first }

-- a request of a flush that no server need be missing for
pub flush_covers : (z : Sizes) (contents : Contents) (p : Platter) (st : Servers) (tables : Tables) (tree : Tree) (left : List HeldUse) (out : Option ServerId) (class : Class) (flush : Flush)
    (requests : List (ServerId × Request)) (asked : ServerId × Request) → StandFor z contents p st tables tree → FlushWorks z contents st tables.held any_one out class flush requests
    → slice_get requests 0 ≡ Some asked → RebuildIsCovered z contents st tables.held left → RebuildIsCovered z contents (after_asked st asked) tables.held left
flush_covers z contents p st tables tree left out class flush requests asked s w is covered l t h e none x may =
    next_one z contents out class flush st tables.held any_one requests asked is w x may (said_some z contents p tables tree s.says) l t h e (covered l t h e none x may)

-- ---- a commit

-- the held stripes that aren't left
abbrev without : List HeldUse → List HeldUse → List HeldUse
without left held = filter (λ h. not (is_some (held_at h.log h.stripe left))) held

without_had : (left held : List HeldUse) (l : LogId) (s : ℕ) (h : HeldUse) → held_at l s left ≡ None → held_at l s (without left held) ≡ held_at l s held
without_had left [] l s h none = refl
without_had left (g ∷ gs) l s h none = elim (cases_Bool (is_of l s g)) as (λ _. held_at l s (without left (g ∷ gs)) ≡ held_at l s (g ∷ gs)) [
  | inl here ↦
      let parts = and_parts (eqb g.log.0 l.0) (eqb g.stripe s) here in
      let out : held_at g.log g.stripe left ≡ None =
      subst (λ (m : LogId). held_at m g.stripe left ≡ None) (sym (same_log g.log l (eqb-true g.log.0 l.0 parts.0))) (subst (λ (k : ℕ). held_at l k left ≡ None) (sym (eqb-true g.stripe s parts.1)) none) in
      ap (λ (b : Bool). held_at l s (if b then g ∷ without left gs else without left gs)) (ap (λ (o : Option HeldUse). not (is_some o)) out)
      ∙ ap (λ (b : Bool). if b then Some g else held_at l s (without left gs)) here ∙ sym (ap (λ (b : Bool). if b then Some g else held_at l s gs) here)
  | inr other ↦
      cond_both (not (is_some (held_at g.log g.stripe left))) (g ∷ without left gs) (without left gs) (λ hs. held_at l s hs ≡ held_at l s (g ∷ gs))
      (λ _. ap (λ (b : Bool). if b then Some g else held_at l s (without left gs)) other ∙ without_had left gs l s h none ∙ sym (ap (λ (b : Bool). if b then Some g else held_at l s gs) other))
      (λ _. without_had left gs l s h none ∙ sym (ap (λ (b : Bool). if b then Some g else held_at l s gs) other))
]

-- what is found among them isn't left
without_none : (left held : List HeldUse) (l : LogId) (s : ℕ) (h : HeldUse) → held_at l s (without left held) ≡ Some h → held_at l s left ≡ None
without_none left [] l s h e = absurd (none-some h e)
without_none left (g ∷ gs) l s h e = elim (cases_Bool (not (is_some (held_at g.log g.stripe left)))) as (λ _. held_at l s left ≡ None) [
  | inr out ↦ without_none left gs l s h (sym (ap (λ (b : Bool). held_at l s (if b then g ∷ without left gs else without left gs)) out) ∙ e)
  | inl kept ↦
      let e' : (if is_of l s g then Some g else held_at l s (without left gs)) ≡ Some h = sym (ap (λ (b : Bool). held_at l s (if b then g ∷ without left gs else without left gs)) kept) ∙ e in
      elim (cases_Bool (is_of l s g)) as (λ _. held_at l s left ≡ None) [
        | inr other ↦ without_none left gs l s h (sym (ap (λ (b : Bool). if b then Some g else held_at l s (without left gs)) other) ∙ e')
        | inl here ↦
            let parts = and_parts (eqb g.log.0 l.0) (eqb g.stripe s) here in
            subst (λ (m : LogId). held_at m s left ≡ None) (same_log g.log l (eqb-true g.log.0 l.0 parts.0))
            (subst (λ (k : ℕ). held_at g.log k left ≡ None) (eqb-true g.stripe s parts.1) (is_none (held_at g.log g.stripe left) kept))
      ]
] where
  is_none : (o : Option HeldUse) → not (is_some o) ≡ true → o ≡ None
  is_none None t = refl
  is_none (Some k) t = absurd (false≢true t)

-- what pieces make of a stripe depends on what was held of it
raised_same : (log : LogId) (born : ℕ) (pieces : List Piece) (l : LogId) (s : ℕ) (one other : List HeldUse) → held_at l s one ≡ held_at l s other
    → held_at l s (held_with_all log born pieces one) ≡ held_at l s (held_with_all log born pieces other)
raised_same log born [] l s one other same = same
raised_same log born (p ∷ ps) l s one other same = raised_same log born ps l s (held_with log born p one) (held_with log born p other) (first (cases_Bool (eqb log.0 l.0 && eqb p.stripe s))) where
  first : ((eqb log.0 l.0 && eqb p.stripe s) ≡ true) ⊎ ((eqb log.0 l.0 && eqb p.stripe s) ≡ false) → held_at l s (held_with log born p one) ≡ held_at l s (held_with log born p other)
  first (inr f) = held_at-put_other _ l s one f ∙ same ∙ sym (held_at-put_other _ l s other f)
  first (inl t) =
      let parts = and_parts (eqb log.0 l.0) (eqb p.stripe s) t in
      let el : log ≡ l = same_log log l (eqb-true log.0 l.0 parts.0) in
      let es : p.stripe ≡ s = eqb-true p.stripe s parts.1 in
      let here : held_at log p.stripe one ≡ held_at log p.stripe other =
      subst (λ (m : LogId). held_at m p.stripe one ≡ held_at m p.stripe other) (sym el) (subst (λ (k : ℕ). held_at l k one ≡ held_at l k other) (sym es) same) in
      let raised : held_at log p.stripe (held_with log born p one) ≡ held_at log p.stripe (held_with log born p other) =
      held_at-put_same _ one ∙ ap (λ (o : Option HeldUse). Some (record { log = log; stripe = p.stripe; end = max (end_of o) (p.offset + p.len); born = born_of born o })) here ∙ sym (held_at-put_same _ other) in
      subst (λ (m : LogId). held_at m s (held_with log born p one) ≡ held_at m s (held_with log born p other)) el
      (subst (λ (k : ℕ). held_at log k (held_with log born p one) ≡ held_at log k (held_with log born p other)) es raised)

module _ (z : Sizes) (contents : Contents) (st : Servers) (held left : List HeldUse) (flush : Flush) (born : ℕ) (pieces : List Piece) (differ : StripesDiffer flush.parts)
    (fits : All (PartFits z contents held flush.log) flush.parts) (stand : PartsStand z st any_one flush.log flush.parts) (are : AreInFlush flush pieces) (covered : RebuildIsCovered z contents st held left) where
  abbrev Some_held : List HeldUse
  Some_held = without left held

  had : (l : LogId) (s : ℕ) (h : HeldUse) → held_at l s Some_held ≡ Some h → held_at l s held ≡ Some h
  had l s h e = sym (without_had left held l s h (without_none left held l s h e)) ∙ e

  fits_some : All (PartFits z contents Some_held flush.log) flush.parts
  fits_some i d l = let fit = fits i d l in record {
    writable = fit.writable;
    before = λ h e. fit.before h (had flush.log (get_or flush.parts i d).stripe h e);
    same = λ h e. fit.same h (had flush.log (get_or flush.parts i d).stripe h e);
  }

  pub commit_covers_rebuild : RebuildIsCovered z (with_parts contents flush.log flush.parts) st (held_with_all flush.log born pieces held) left
  commit_covers_rebuild l s h e none x may =
      let before : ViewAgrees (seen z st x) contents Some_held = λ m k g found. covered m k g (had m k g found) (without_none left held m k g found) x may in
      let after = flushed_stand z contents Some_held flush differ fits_some (seen z st x) (stand x may) before born pieces are in
      after l s h (raised_same flush.log born pieces l s Some_held held (without_had left held l s h none) ∙ e)

-- what all servers hold stands whichever may be missing
pub whole_stands : (z : Sizes) (contents : Contents) (st : Servers) (log : LogId) (stripe end : ℕ) (bytes : List ℕ) → StripeHolds (seen z st None) log stripe end bytes
    → take end (contents log stripe) ≡ take end bytes → StandsWhole z contents st log stripe end
whole_stands z contents st log stripe end bytes holds same x may = record {
  bytes = bytes;
  held = holds_away (z.servers - 1) z.fragment (standing z.servers st.maps log stripe) (away_at z.servers None log stripe) end bytes (away_at z.servers x log stripe) (λ k a. refl) holds;
  first = same;
}
