-- The form of logs and held stripes is kept by a commit.
use Rattle.std.proofs.Common.{◌≡◌, ℕ, ◌+◌, ◌^◌, ◌<◌, ◌≤◌, Bool, true, eqb, List, [], ◌∷◌, Option, Some, None, refl, sym, ap, ◌∙◌, subst, inl, inr, arith}
use Rattle.std.specs.Prelude.{if◌then◌else◌, is_some, IsSome, IfSome}
use Rattle.std.specs.List.{AllByRecursion}
use Rattle.std.proofs.lemmas.Bool.{cases_Bool, cases_eq, cond_both, eqb-true, and_parts}
use Rattle.std.proofs.lemmas.Option.{none-some, same_Some}
use Rattle.zb_types.specs.declared.ids.LogId.{LogId}
use Rattle.zb_types.specs.declared.ids.Piece.{Piece}
use Rattle.zb_types.specs.declared.calls.Reply.{Reply}
use Rattle.zb_types.specs.declared.tables.HeldUse.{HeldUse}
use Rattle.zb_types.specs.Keyed.{look, replaced}
use Rattle.zb_types.proofs.KeyedLists.{IsRising, IsRising-replaced, look-replaced_same, look-replaced_other}
use Rattle.zb_tables.specs.Tables.{LogState, last_value, is_of, held_at, end_of, end_at}
use Rattle.zb_tables.specs.Fold.{born_of, held_with, held_with_all, is_before, last_of, later, put_held, with_batch}
use Rattle.zb_tables.specs.Taking.{IsPiece, Sizes, stripe_room}
use Rattle.zb_tables.specs.Checkpoint.{IsHeld, IsLog, IsUpdateReply}
use Rattle.zb_tables.proofs.Holding.{held_at-put_same, held_at-put_other, same_log}
use Rattle.zb_tables.proofs.Alls.{all_keyed, all_map, all_replaced}
use Rattle.zb_tables.proofs.LogsForm.{Held, Kept, Logs, OneLive, held_on, one_from, some_replaced}

-- ---- what is held only grows

held_put : (l : LogId) (s : ℕ) (h : HeldUse) (gs : Held) → IsSome (held_at l s gs) → IsSome (held_at l s (put_held h gs))
held_put l s h gs some = elim (cases_Bool (is_of l s h)) as (λ _. IsSome (held_at l s (put_held h gs))) [
  | inr f ↦ subst IsSome (sym (held_at-put_other h l s gs f)) some
  | inl t ↦
      let parts = and_parts (eqb h.log.0 l.0) (eqb h.stripe s) t in
      subst (λ (m : LogId). IsSome (held_at m s (put_held h gs))) (same_log h.log l (eqb-true h.log.0 l.0 parts.0))
      (subst (λ (k : ℕ). IsSome (held_at h.log k (put_held h gs))) (eqb-true h.stripe s parts.1) (ap is_some (held_at-put_same h gs)))
]

held_grows : (log : LogId) (born : ℕ) (pieces : List Piece) (l : LogId) (s : ℕ) (held : Held) → IsSome (held_at l s held) → IsSome (held_at l s (held_with_all log born pieces held))
held_grows log born [] l s held some = some
held_grows log born (p ∷ ps) l s held some = held_grows log born ps l s (held_with log born p held) (held_put l s _ held some)

kept_grows : (log : LogId) (born : ℕ) (pieces : List Piece) (held : Held) (e : ℕ × LogState) → Kept held e → Kept (held_with_all log born pieces held) e
kept_grows log born pieces held e (inl live) = inl live
kept_grows log born pieces held e (inr some) = inr (some.0, held_grows log born pieces (record { 0 = e.0 }) some.0 held some.1)

-- ---- held stripes with pieces

all_put_held : (P : HeldUse → Type 0) (h : HeldUse) (gs : Held) → P h → AllByRecursion P gs → AllByRecursion P (put_held h gs)
all_put_held P h [] this all = (this, tt)
all_put_held P h (g ∷ gs) this all =
    cond_both (is_of h.log h.stripe g) (h ∷ gs) (if is_before h g then h ∷ g ∷ gs else g ∷ put_held h gs) (AllByRecursion P) (λ _. (this, all.1))
    (λ _. cond_both (is_before h g) (h ∷ g ∷ gs) (g ∷ put_held h gs) (AllByRecursion P) (λ _. (this, all)) (λ _. (all.0, all_put_held P h gs this all.1)))

pub all_held : (P : HeldUse → Type 0) (l : LogId) (s : ℕ) (gs : Held) → AllByRecursion P gs → (h : HeldUse) → held_at l s gs ≡ Some h → P h
all_held P l s [] all h at = absurd (none-some h at)
all_held P l s (g ∷ gs) all h at = elim (cases_Bool (is_of l s g)) as (λ _. P h) [
  | inl t ↦ subst P (same_Some g h (sym (ap (λ (b : Bool). if b then Some g else held_at l s gs) t) ∙ at)) all.0
  | inr f ↦ all_held P l s gs all.1 h (sym (ap (λ (b : Bool). if b then Some g else held_at l s gs) f) ∙ at)
]

module _ (z : Sizes) (logs : Logs) (log : LogId) (there : IsSome (look log.0 logs)) (born : ℕ) (from : 1 ≤ born) (most : born ≤ last_value) where
  abbrev Form : HeldUse → Type 0
  Form = IsHeld z logs

  end_most : (held : Held) (s : ℕ) → AllByRecursion Form held → end_at held log s ≤ stripe_room z
  end_most held s all = by (held_at log s held) refl where
    by : (o : Option HeldUse) → held_at log s held ≡ o → end_at held log s ≤ stripe_room z
    by None e = let none = ap end_of e in omega (arith, none)
    by (Some h) e = let i = all_held Form log s held all h e in let some = ap end_of e in let most = i.end.1 in omega (arith, some, most)

  born_form : (held : Held) (s : ℕ) → AllByRecursion Form held → (1 ≤ born_of born (held_at log s held)) × (born_of born (held_at log s held) ≤ last_value)
  born_form held s all = by (held_at log s held) refl where
    by : (o : Option HeldUse) → held_at log s held ≡ o → (1 ≤ born_of born (held_at log s held)) × (born_of born (held_at log s held) ≤ last_value)
    by None e = let none = ap (born_of born) e in (omega (arith, none), omega (arith, none))
    by (Some h) e = let i = all_held Form log s held all h e in let some = ap (born_of born) e in let b = i.born in (omega (arith, some, b.0), omega (arith, some, b.1))

  with_form : (p : Piece) (held : Held) → IsPiece z p → AllByRecursion Form held → AllByRecursion Form (held_with log born p held)
  with_form p held is all = all_put_held Form _ held (record {
    log = there;
    stripe = let s = is.stripe in omega (arith, s);
    end = (let some = is.some in omega (arith, some), let w = is.within in let m = end_most held p.stripe all in omega (arith, w, m));
    born = born_form held p.stripe all;
  }) all

  pub with_all_form : (pieces : List Piece) (held : Held) → AllByRecursion (IsPiece z) pieces → AllByRecursion Form held → AllByRecursion Form (held_with_all log born pieces held)
  with_all_form [] held are all = all
  with_all_form (p ∷ ps) held are all = with_all_form ps (held_with log born p held) are.1 (with_form p held are.0 all)

-- ---- the log of the batch

short_later : (p : Piece) (last : Option ℕ) → p.stripe ≤ last_value → IfSome last (λ stripe. stripe + 1 < 2 ^ 64) → later p.stripe last + 1 < 2 ^ 64
short_later p None le short = omega (arith, le)
short_later p (Some stripe) le short = omega (arith, le, short)

last_short : (z : Sizes) (pieces : List Piece) (last : Option ℕ) → AllByRecursion (IsPiece z) pieces → IfSome last (λ stripe. stripe + 1 < 2 ^ 64) → IfSome (last_of last pieces) (λ stripe. stripe + 1 < 2 ^ 64)
last_short z [] last are short = short
last_short z (p ∷ ps) last are short = last_short z ps (Some (later p.stripe last)) are.1 (short_later p last (are.0).stripe short)

module _ (z : Sizes) (next : ℕ) (held : Held) (logs : Logs) (log : LogId) (l : LogState) (at : look log.0 logs ≡ Some l) (born number : ℕ) (pieces : List Piece) (replies : List Reply) where
  abbrev After : LogState
  After = record l { batch = number; replies = replies; last = last_of l.last pieces }

  abbrev New : Logs
  New = replaced log.0 After logs

  new_log_form : number ≤ last_value → AllByRecursion IsUpdateReply replies → AllByRecursion (IsPiece z) pieces → AllByRecursion (IsLog z next held) logs
      → AllByRecursion (IsLog z next (held_with_all log born pieces held)) New
  new_log_form small are within all =
      let grown = all_map (IsLog z next held) (IsLog z next (held_with_all log born pieces held))
      (λ e f. record { numbered = f.numbered; owner = f.owner; batch = f.batch; last = f.last; mark = f.mark; replies = f.replies; kept = kept_grows log born pieces held e f.kept }) logs all in
      let own = all_keyed (IsLog z next (held_with_all log born pieces held)) log.0 l logs grown at in
      all_replaced (IsLog z next (held_with_all log born pieces held)) log.0 After
      (record { numbered = own.numbered; owner = own.owner; batch = small; last = last_short z pieces l.last within own.last; mark = own.mark; replies = are; kept = own.kept }) logs grown

  new_held : AllByRecursion (IsHeld z logs) held → AllByRecursion (IsHeld z New) held
  new_held all = all_map (IsHeld z logs) (IsHeld z New) (λ h f. held_on z logs New h (some_replaced log.0 h.log.0 After logs) f) held all

  lived : (k : ℕ) (m : LogState) → look k New ≡ Some m → m.live ≡ true → (o : LogState) × (look k logs ≡ Some o) × (o.live ≡ true) × (o.owner ≡ m.owner)
  lived k m now live = elim (cases_eq log.0 k) as (λ _. (o : LogState) × (look k logs ≡ Some o) × (o.live ≡ true) × (o.owner ≡ m.owner)) [
    | inr other ↦ (m, sym (look-replaced_other k log.0 After logs other) ∙ now, live, refl)
    | inl same ↦
        let here : After ≡ m = same_Some After m (sym (subst (λ (j : ℕ). look j New ≡ Some After) same (look-replaced_same log.0 After logs (ap is_some at))) ∙ now) in
        (l, subst (λ (j : ℕ). look j logs ≡ Some l) same at, ap (λ (x : LogState). x.live) here ∙ live, ap (λ (x : LogState). x.owner) here)
  ]

  abbrev pub CommitLogs : Logs → Type 0
  CommitLogs new = IsRising new × AllByRecursion (IsLog z next (held_with_all log born pieces held)) new × AllByRecursion (IsHeld z new) (held_with_all log born pieces held) × OneLive new

  pub commit_logs : IsRising logs → 1 ≤ born → born ≤ last_value → number ≤ last_value → AllByRecursion IsUpdateReply replies → AllByRecursion (IsPiece z) pieces
      → AllByRecursion (IsLog z next held) logs → AllByRecursion (IsHeld z logs) held → OneLive logs → CommitLogs (with_batch log number pieces replies logs (look log.0 logs))
  commit_logs rising from most small are within all held_all one = subst (λ (o : Option LogState). CommitLogs (with_batch log number pieces replies logs o)) (sym at) (
    IsRising-replaced log.0 After logs rising,
    new_log_form small are within all,
    with_all_form z New log (some_replaced log.0 log.0 After logs (ap is_some at)) born from most pieces held within (new_held held_all),
    one_from logs New lived one,
  )
