-- The form of logs and held stripes is kept by entries.
use Rattle.std.proofs.Common.{◌≡◌, ◌⊎◌, ℕ, ◌+◌, ◌^◌, ◌<◌, ◌≤◌, Bool, true, false, eqb, List, [], ◌∷◌, Option, Some, None, refl, sym, ap, ◌∙◌, subst, inl, inr, arith}
use Rattle.std.specs.Prelude.{◌==◌, ◌&&◌, ◌||◌, if◌then◌else◌, is_some, IsSome, IfSome}
use Rattle.std.specs.List.{AllByRecursion, list_any}
use Rattle.std.proofs.lemmas.Bool.{cases_eq, cond_both, eq-eqb, false≢true, or_cases}
use Rattle.std.proofs.lemmas.Option.{none-some, same_Some}
use Rattle.zb_types.specs.declared.nodes.State.{State}
use Rattle.zb_types.specs.declared.nodes.State.TheVariants.{Whole, Out, Mending}
use Rattle.zb_types.specs.declared.tables.HeldUse.{HeldUse}
use Rattle.zb_types.specs.Keyed.{look, put, replaced, changed}
use Rattle.zb_types.proofs.KeyedLists.{IsRising, IsRising-changed, look-changed, look-put, look-put_same, look-put_other, look-replaced_same, look-replaced_other, over}
use Rattle.zb_tables.specs.Tables.{LogState, last_value, is_of, held_at}
use Rattle.zb_tables.specs.Fold.{all_marked, ended, following, kept_logs, marked, new_log}
use Rattle.zb_tables.specs.Taking.{Sizes}
use Rattle.zb_tables.specs.Checkpoint.{IsHeld, IsLog, IsUpdateReply}
use Rattle.zb_tables.proofs.Logs.{attach_before, attach_ends, kept_from, look-filter_kept}
use Rattle.zb_tables.proofs.Alls.{all_changed, all_filter, all_map, all_put, all_two, some_is}

abbrev pub Logs : Type 0
Logs = List (ℕ × LogState)

abbrev pub Held : Type 0
Held = List HeldUse

-- does a log with this number hold a stripe?
abbrev pub holds : Held → ℕ → Bool
holds held k = list_any (λ h. h.log.0 == k) held

abbrev pub keeps : Held → ℕ × LogState → Bool
keeps held e = e.1.live || holds held e.0

-- ---- logs that live or hold a stripe

record LogForm (z : Sizes) (next : ℕ) (e : ℕ × LogState) : Type 0 where
  numbered : (1 ≤ e.0) × (e.0 < next)
  owner : (e.1).owner ≤ z.clients
  batch : (e.1).batch ≤ last_value
  last : IfSome (e.1).last (λ stripe. stripe + 1 < 2 ^ 64)
  mark : (e.1).mark < 2 ^ 64
  replies : AllByRecursion IsUpdateReply (e.1).replies

abbrev pub Kept : Held → ℕ × LogState → Type 0
Kept held e = ((e.1).live ≡ true) ⊎ ((stripe : ℕ) × IsSome (held_at (record { 0 = e.0 }) stripe held))

form_of : (z : Sizes) (next more : ℕ) (held : Held) (e : ℕ × LogState) → next ≤ more → IsLog z next held e → LogForm z more e
form_of z next more held e le f = record { numbered = (f.numbered.0, let lt = f.numbered.1 in omega arith); owner = f.owner; batch = f.batch; last = f.last; mark = f.mark; replies = f.replies }

log_of : (z : Sizes) (next : ℕ) (held : Held) (e : ℕ × LogState) → LogForm z next e → Kept held e → IsLog z next held e
log_of z next held e f kept = record { numbered = f.numbered; owner = f.owner; batch = f.batch; last = f.last; mark = f.mark; replies = f.replies; kept = kept }

found_any : (k : ℕ) (hs : Held) → holds hs k ≡ true → (stripe : ℕ) × IsSome (held_at (record { 0 = k }) stripe hs)
found_any k [] any = absurd (false≢true any)
found_any k (h ∷ hs) any = elim (or_cases (eqb h.log.0 k) (holds hs k) any) as (λ _. (stripe : ℕ) × IsSome (held_at (record { 0 = k }) stripe (h ∷ hs))) [
  | inl here ↦ (h.stripe, subst IsSome (sym (ap (λ (b : Bool). if b then Some h else held_at (record { 0 = k }) h.stripe hs) (ap (λ (b : Bool). b && eqb h.stripe h.stripe) here ∙ eq-eqb h.stripe h.stripe refl))) refl)
  | inr there ↦
      let rest = found_any k hs there in
      (rest.0, cond_both (is_of (record { 0 = k }) rest.0 h) (Some h) (held_at (record { 0 = k }) rest.0 hs) IsSome (λ _. refl) (λ _. rest.1))
]

kept_by : (held : Held) (e : ℕ × LogState) → keeps held e ≡ true → Kept held e
kept_by held e t = elim (or_cases (e.1).live (holds held e.0) t) as (λ _. Kept held e) [
  | inl live ↦ inl live
  | inr any ↦ inr (found_any e.0 held any)
]

-- each held stripe's log holds one
or_right : (a b : Bool) → b ≡ true → (a || b) ≡ true
or_right true b e = refl
or_right false b e = e

any_more : (g : HeldUse) (all hs : Held) → AllByRecursion (λ (h : HeldUse). holds all h.log.0 ≡ true) hs → AllByRecursion (λ (h : HeldUse). holds (g ∷ all) h.log.0 ≡ true) hs
any_more g all [] a = tt
any_more g all (h ∷ hs) a = (or_right (eqb g.log.0 h.log.0) (holds all h.log.0) a.0, any_more g all hs a.1)

all_there : (hs : Held) → AllByRecursion (λ (h : HeldUse). holds hs h.log.0 ≡ true) hs
all_there [] = tt
all_there (h ∷ hs) = (ap (λ (b : Bool). b || holds hs h.log.0) (eq-eqb h.log.0 h.log.0 refl), any_more h hs hs (all_there hs))

-- a log that holds a stripe is kept
some_kept : (held : Held) (k : ℕ) (logs : Logs) → holds held k ≡ true → IsSome (look k logs) → IsSome (look k (kept_logs held logs))
some_kept held k logs any some =
    let l = some_is (look k logs) some in
    ap is_some (look-filter_kept (keeps held) k l.0 logs l.1 (or_right (l.0).live (holds held k) any))

some_changed : (f : LogState → LogState) (k : ℕ) (logs : Logs) → IsSome (look k logs) → IsSome (look k (changed f logs))
some_changed f k logs some = let l = some_is (look k logs) some in ap is_some (look-changed f k logs ∙ ap (over f) l.1)

some_put : (n k : ℕ) (a : LogState) (logs : Logs) → IsSome (look k logs) → IsSome (look k (put n a logs))
some_put n k a logs some = subst IsSome (sym (look-put k n a logs)) (cond_both (eqb n k) (Some a) (look k logs) IsSome (λ _. refl) (λ _. some))

pub some_replaced : (n k : ℕ) (a : LogState) (logs : Logs) → IsSome (look k logs) → IsSome (look k (replaced n a logs))
some_replaced n k a logs some = elim (cases_eq n k) as (λ _. IsSome (look k (replaced n a logs))) [
  | inl same ↦ subst (λ (j : ℕ). IsSome (look j (replaced n a logs))) same (ap is_some (look-replaced_same n a logs (subst (λ (j : ℕ). IsSome (look j logs)) (sym same) some)))
  | inr other ↦ subst IsSome (sym (look-replaced_other k n a logs other)) some
]

pub held_on : (z : Sizes) (logs new : Logs) (h : HeldUse) → (IsSome (look h.log.0 logs) → IsSome (look h.log.0 new)) → IsHeld z logs h → IsHeld z new h
held_on z logs new h f i = record { log = f i.log; stripe = i.stripe; end = i.end; born = i.born }

-- ---- one live log an owner

abbrev pub OneLive : Logs → Type 0
OneLive logs = (k j : ℕ) (l m : LogState) → look k logs ≡ Some l → look j logs ≡ Some m → l.live ≡ true → m.live ≡ true → l.owner ≡ m.owner → k ≡ j

-- what lives in the new list lived in the old one, with this owner
abbrev pub LivedIn : Logs → Logs → Type 0
LivedIn old new = (k : ℕ) (l : LogState) → look k new ≡ Some l → l.live ≡ true → (o : LogState) × (look k old ≡ Some o) × (o.live ≡ true) × (o.owner ≡ l.owner)

pub one_from : (old new : Logs) → LivedIn old new → OneLive old → OneLive new
one_from old new lived one k j l m at_k at_j live_l live_m same =
    let a = lived k l at_k live_l in
    let c = lived j m at_j live_m in
    one k j a.0 c.0 a.1 c.1 a.2 c.2 (a.3 ∙ same ∙ sym c.3)

-- ---- an attach

ended_form : (z : Sizes) (next : ℕ) (owner : ℕ) (e : ℕ × LogState) → LogForm z next e → LogForm z next (e.0, ended owner e.1)
ended_form z next owner e f = cond_both (eqb (e.1).owner owner) (record e.1 { live = false }) e.1 (λ (l : LogState). LogForm z next (e.0, l))
    (λ _. record { numbered = f.numbered; owner = f.owner; batch = f.batch; last = f.last; mark = f.mark; replies = f.replies }) (λ _. f)

module _ (z : Sizes) (next : ℕ) (held : Held) (logs : Logs) (owner : ℕ) (log : ℕ) where
  abbrev pub Attached : Logs
  Attached = put log (new_log owner) (kept_logs held (changed (ended owner) logs))

  pub attach_form : 1 ≤ log → log < next + 1 → owner ≤ z.clients → AllByRecursion (IsLog z next held) logs → AllByRecursion (IsLog z (next + 1) held) Attached
  attach_form from below few all = all_put (IsLog z (next + 1) held) log (new_log owner)
      (record { numbered = (from, below); owner = few; batch = omega arith; last = tt; mark = omega arith; replies = tt; kept = inl refl })
      (kept_logs held (changed (ended owner) logs))
      (all_filter (keeps held) (LogForm z (next + 1)) (IsLog z (next + 1) held) (λ e t f. log_of z (next + 1) held e f (kept_by held e t)) (changed (ended owner) logs)
      (all_changed (IsLog z next held) (LogForm z (next + 1)) (ended owner) (λ e f. ended_form z (next + 1) owner e (form_of z next (next + 1) held e (omega arith) f)) logs all))

  pub attach_held : AllByRecursion (IsHeld z logs) held → AllByRecursion (IsHeld z Attached) held
  attach_held all = all_two (λ (h : HeldUse). holds held h.log.0 ≡ true) (IsHeld z logs) (IsHeld z Attached)
      (λ h any f. held_on z logs Attached h (λ some. some_put log h.log.0 (new_log owner) (kept_logs held (changed (ended owner) logs))
      (some_kept held h.log.0 (changed (ended owner) logs) any (some_changed (ended owner) h.log.0 logs some))) f)
      held (all_there held) all

  -- whose log this is, and that no other of this owner's lives
  others_live : (k : ℕ) (l : LogState) → (log ≡ k → ⊥) → look k Attached ≡ Some l → l.live ≡ true → l.owner ≡ owner → ⊥
  others_live k l ne at live own = attach_ends held owner k l logs (sym (look-put_other k log (new_log owner) (kept_logs held (changed (ended owner) logs)) ne) ∙ at) live own

  mine : (k : ℕ) (l : LogState) → log ≡ k → look k Attached ≡ Some l → l.owner ≡ owner
  mine k l e at = ap (λ (m : LogState). m.owner)
      (sym (same_Some (new_log owner) l (sym (look-put_same log (new_log owner) (kept_logs held (changed (ended owner) logs))) ∙ subst (λ (j : ℕ). look j Attached ≡ Some l) (sym e) at)))

  lived_before : IsRising logs → (k : ℕ) (l : LogState) → (log ≡ k → ⊥) → look k Attached ≡ Some l → l.live ≡ true → look k logs ≡ Some l
  lived_before rising k l ne at live = attach_before held owner k l logs rising (sym (look-put_other k log (new_log owner) (kept_logs held (changed (ended owner) logs)) ne) ∙ at) live

  pub attach_one : IsRising logs → OneLive logs → OneLive Attached
  attach_one rising one k j l m at_k at_j live_l live_m same = elim (cases_eq log k) as (λ _. k ≡ j) [
    | inl ek ↦ elim (cases_eq log j) as (λ _. k ≡ j) [
      | inl ej ↦ sym ek ∙ ej
      | inr nj ↦ absurd (others_live j m nj at_j live_m (sym same ∙ mine k l ek at_k))
    ]
    | inr nk ↦ elim (cases_eq log j) as (λ _. k ≡ j) [
      | inl ej ↦ absurd (others_live k l nk at_k live_l (same ∙ mine j m ej at_j))
      | inr nj ↦ one k j l m (lived_before rising k l nk at_k live_l) (lived_before rising j m nj at_j live_m) live_l live_m same
    ]
  ]

-- ---- a stripe is given up

module _ (z : Sizes) (next : ℕ) (held less : Held) (logs : Logs) where
  pub retire_form : AllByRecursion (IsLog z next held) logs → AllByRecursion (IsLog z next less) (kept_logs less logs)
  retire_form all = all_filter (keeps less) (IsLog z next held) (IsLog z next less) (λ e t f. log_of z next less e (form_of z next next held e (omega arith) f) (kept_by less e t)) logs all

  pub retire_held : AllByRecursion (IsHeld z logs) less → AllByRecursion (IsHeld z (kept_logs less logs)) less
  retire_held all = all_two (λ (h : HeldUse). holds less h.log.0 ≡ true) (IsHeld z logs) (IsHeld z (kept_logs less logs))
      (λ h any f. held_on z logs (kept_logs less logs) h (some_kept less h.log.0 logs any) f) less (all_there less) all

  pub retire_one : IsRising logs → OneLive logs → OneLive (kept_logs less logs)
  retire_one rising one = one_from logs (kept_logs less logs) (λ k l at live. (l, kept_from less k l logs rising at, live, refl)) one

-- ---- a mark

following_short : (last : Option ℕ) → IfSome last (λ stripe. stripe + 1 < 2 ^ 64) → following last < 2 ^ 64
following_short None short = omega arith
following_short (Some stripe) short = short

mark_log : (z : Sizes) (next : ℕ) (held : Held) (e : ℕ × LogState) → IsLog z next held e → IsLog z next held (e.0, marked e.1)
mark_log z next held e f = cond_both (e.1).live (record e.1 { mark = following (e.1).last }) e.1 (λ (l : LogState). IsLog z next held (e.0, l))
    (λ _. record { numbered = f.numbered; owner = f.owner; batch = f.batch; last = f.last; mark = following_short (e.1).last f.last; replies = f.replies; kept = f.kept }) (λ _. f)

mark_lives : (l : LogState) → ((marked l).live ≡ l.live) × ((marked l).owner ≡ l.owner)
mark_lives l = cond_both l.live (record l { mark = following l.last }) l (λ (m : LogState). (m.live ≡ l.live) × (m.owner ≡ l.owner)) (λ _. (refl, refl)) (λ _. (refl, refl))

over_some : (f : LogState → LogState) (o : Option LogState) (l : LogState) → over f o ≡ Some l → (m : LogState) × (o ≡ Some m) × (f m ≡ l)
over_some f None l e = absurd (none-some l e)
over_some f (Some m) l e = (m, refl, same_Some (f m) l e)

module _ (z : Sizes) (next : ℕ) (held : Held) (logs : Logs) where
  abbrev MarkForm : Logs → Type 0
  MarkForm new = IsRising new × AllByRecursion (IsLog z next held) new × AllByRecursion (IsHeld z new) held × OneLive new

  all_marks : IsRising logs → AllByRecursion (IsLog z next held) logs → AllByRecursion (IsHeld z logs) held → OneLive logs → MarkForm (changed marked logs)
  all_marks rising all are one = (
    IsRising-changed marked logs rising,
    all_changed (IsLog z next held) (IsLog z next held) marked (mark_log z next held) logs all,
    all_map (IsHeld z logs) (IsHeld z (changed marked logs)) (λ h f. held_on z logs (changed marked logs) h (some_changed marked h.log.0 logs) f) held are,
    one_from logs (changed marked logs) (λ k l at live.
        let o = over_some marked (look k logs) l (sym (look-changed marked k logs) ∙ at) in
        let same = mark_lives o.0 in
        (o.0, o.1, sym same.0 ∙ ap (λ (m : LogState). m.live) o.2 ∙ live, sym same.1 ∙ ap (λ (m : LogState). m.owner) o.2)) one,
  )

  pub mark_form : (state : State) → IsRising logs → AllByRecursion (IsLog z next held) logs → AllByRecursion (IsHeld z logs) held → OneLive logs → MarkForm (all_marked state logs)
  mark_form Whole rising all are one = (rising, all, are, one)
  mark_form (Out a) rising all are one = all_marks rising all are one
  mark_form (Mending a) rising all are one = all_marks rising all are one
