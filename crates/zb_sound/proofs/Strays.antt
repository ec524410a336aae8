-- Stray stripes stay so, and nothing is at them.
use Rattle.std.proofs.Common.{◌≡◌, ◌≢◌, ℕ, ◌+◌, ◌<◌, ◌≤◌, true, eqb, List, [], ◌∷◌, get_or, Option, Some, None, refl, sym, ap, ◌∙◌, subst, inl, inr, arith}
use Rattle.std.specs.Prelude.{All, ◌&&◌}
use Rattle.std.specs.List.{AllByRecursion}
use Rattle.std.proofs.lemmas.Bool.{cases_eq, cases_Bool, cond_both, and_right, ne_eqb}
use Rattle.std.proofs.lemmas.Option.{none-some}
use Rattle.zb_types.specs.declared.ids.LogId.{LogId}
use Rattle.zb_types.specs.declared.ids.ServerId.{ServerId}
use Rattle.zb_types.specs.declared.ids.FragId.{FragId}
use Rattle.zb_types.specs.declared.ids.Piece.{Piece}
use Rattle.zb_types.specs.declared.ids.Ptr.{Ptr}
use Rattle.zb_types.specs.declared.nodes.Members.{Members}
use Rattle.zb_types.specs.declared.nodes.State.{State}
use Rattle.zb_types.specs.declared.nodes.State.TheVariants.{Whole, Out, Mending}
use Rattle.zb_types.specs.declared.requests.Request.TheVariants as ask
use Rattle.zb_types.specs.declared.tables.HeldUse.{HeldUse}
use Rattle.zb_types.specs.Keyed.{look, changed}
use Rattle.zb_types.specs.Tree.{Tree}
use Rattle.zb_types.proofs.KeyedLists.{IsRising-from_ordered, look-changed, look-put_other, over}
use Rattle.zb_stripe.specs.declared.flush.Part.{Part}
use Rattle.zb_stripe_laws.specs.PlanAtWork.{IsBeside, IsBesideEach}
use Rattle.zb_tables.specs.Tables.{Contents, LogState, SameIn, Tables, end_of, held_at}
use Rattle.zb_tables.specs.Fold.{Shelf, after_retire, all_marked, attached, committed, ended, following, held_with, held_with_all, kept_logs, marked, new_log, retired, with_members}
use Rattle.zb_tables.specs.Replay.{Platter}
use Rattle.zb_tables.specs.Taking.{IsOther, Sizes}
use Rattle.zb_tables.specs.Checkpoint.{AreTables}
use Rattle.zb_tables.proofs.Growing.{same_bytes}
use Rattle.zb_tables.proofs.Holding.{held_at-put_other, held_at-retired_other, held_at-retired_same, with_all_on}
use Rattle.zb_tables.proofs.Retiring.{gone}
use Rattle.zb_tables.proofs.Logs.{attach_before, commit_log, commit_other, kept_from}
use Rattle.zb_recovery.specs.Missing.{Servers}
use Rattle.zb_sound.specs.Standing.{StandFor}
use Rattle.zb_sound.specs.Delivering.{after_asked}
use Rattle.zb_sound.specs.LogsCurrent.{LogIsCurrent}
use Rattle.zb_sound.specs.OldStripes.{CopiesAreCurrent, IsBehind, IsStray, NoneBehind}
use Rattle.zb_sound.proofs.Currents.{last_on}
use Rattle.zb_sound.proofs.Delivering.{beside_stands}
use Rattle.zb_sound.proofs.Staying.{commit_leaves, retire_leaves}

-- what lives in the new list lived in the old one, with a last stripe that isn't later
behind_from : (stripe : ℕ) (old new : Option LogState) → ((l : LogState) → new ≡ Some l → l.live ≡ true → (o : LogState) × (old ≡ Some o) × (o.live ≡ true) × (following o.last ≤ following l.last))
    → IsBehind stripe old → IsBehind stripe new
behind_from stripe old None was behind = tt
behind_from stripe old (Some l) was behind = λ live.
    let o = was l refl live in
    let low = subst (IsBehind stripe) o.1 behind o.2 in
    let on = o.3 in
    omega arith

-- ---- commits

not_raised : (log : LogId) (born : ℕ) (stripe last : ℕ) (pieces : List Piece) (held : List HeldUse) → stripe + 1 < last → AllByRecursion (λ (p : Piece). last ≤ p.stripe + 1) pieces
    → held_at log stripe (held_with_all log born pieces held) ≡ held_at log stripe held
not_raised log born stripe last [] held low all = refl
not_raised log born stripe last (p ∷ ps) held low all =
    not_raised log born stripe last ps (held_with log born p held) low all.1
    ∙ held_at-put_other _ log stripe held (and_right (eqb log.0 log.0) (eqb p.stripe stripe) (ne_eqb p.stripe stripe (λ e. let up = all.0 in absurd (omega (arith, e, up, low)))))

same_log_id : (a b : LogId) → a.0 ≡ b.0 → a ≡ b
same_log_id a b e = ap (λ (n : ℕ). record { 0 = n }) e

module _ (t : Tables) (log : LogId) (number : ℕ) (pieces : List Piece) (s : Shelf) (stripe : ℕ) where
  own_stray : (o : Option LogState) → look log.0 t.logs ≡ o → NoneBehind o pieces → IsStray t log stripe → IsStray (committed t log number pieces s) log stripe
  own_stray None at none stray = absurd none
  own_stray (Some l) at none stray =
      let low = subst (IsBehind stripe) at stray.behind none.0 in
      record {
        given = stray.given;
        not_held = not_raised log t.next_entry stripe (following l.last) pieces t.held low none.1 ∙ stray.not_held;
        behind = subst (IsBehind stripe) (sym (commit_log log number pieces s.replies t.logs l at)) (λ live. let on = last_on pieces l.last in omega arith);
      }

  other_stray : (of : LogId) → of.0 ≢ log.0 → IsStray t of stripe → IsStray (committed t log number pieces s) of stripe
  other_stray of ne stray = record {
    given = stray.given;
    not_held = commit_leaves log t.next_entry pieces t.held of stripe ne ∙ stray.not_held;
    behind = subst (IsBehind stripe) (sym (commit_other log number pieces s.replies t.logs (look log.0 t.logs) of.0 (λ e. ne (sym e)))) stray.behind;
  }

  pub commit_stray : (of : LogId) → NoneBehind (look log.0 t.logs) pieces → IsStray t of stripe → IsStray (committed t log number pieces s) of stripe
  commit_stray of none stray = elim (cases_eq of.0 log.0) as (λ _. IsStray (committed t log number pieces s) of stripe) [
    | inr ne ↦ other_stray of ne stray
    | inl e ↦
        let same = same_log_id of log e in
        subst (λ (l : LogId). IsStray (committed t log number pieces s) l stripe) (sym same)
        (own_stray (look log.0 t.logs) refl none (subst (λ (l : LogId). IsStray t l stripe) same stray))
  ]

-- ---- other entries

pub attach_stray : (z : Sizes) (t : Tables) (owner : ℕ) (log of : LogId) (stripe : ℕ) → AreTables z t → log.0 ≡ t.next_log → IsStray t of stripe → IsStray (attached t owner log) of stripe
attach_stray z t owner log of stripe f is stray =
    let given = stray.given in
    record {
      given = omega arith;
      not_held = stray.not_held;
      behind = behind_from stripe (look of.0 t.logs) (look of.0 (attached t owner log).logs) (λ l at live. (
        l,
        attach_before t.held owner of.0 l t.logs (IsRising-from_ordered t.logs f.logs_rise)
            (sym (look-put_other of.0 log.0 (new_log owner) (kept_logs t.held (changed (ended owner) t.logs)) (λ e. absurd (omega (arith, e, is, given)))) ∙ at) live,
        live,
        omega arith,
      )) stray.behind;
    }

mark_same : (l : LogState) → ((marked l).live ≡ l.live) × ((marked l).last ≡ l.last)
mark_same l = cond_both l.live (record l { mark = following l.last }) l (λ (m : LogState). (m.live ≡ l.live) × (m.last ≡ l.last)) (λ _. (refl, refl)) (λ _. (refl, refl))

marked_behind : (stripe : ℕ) (o : Option LogState) → IsBehind stripe o → IsBehind stripe (over marked o)
marked_behind stripe None behind = tt
marked_behind stripe (Some l) behind = λ live.
    let same = mark_same l in
    let low = behind (sym same.0 ∙ live) in
    let last = ap following same.1 in
    omega (arith, low, last)

pub mark_stray : (t : Tables) (members : Members) (of : LogId) (stripe : ℕ) → IsStray t of stripe → IsStray (with_members t members) of stripe
mark_stray t members of stripe stray = record { given = stray.given; not_held = stray.not_held; behind = by members.state } where
  all : IsBehind stripe (look of.0 (changed marked t.logs))
  all = subst (IsBehind stripe) (sym (look-changed marked of.0 t.logs)) (marked_behind stripe (look of.0 t.logs) stray.behind)

  by : (state : State) → IsBehind stripe (look of.0 (all_marked state t.logs))
  by Whole = stray.behind
  by (Out a) = all
  by (Mending a) = all

module _ (z : Sizes) (t : Tables) (log : LogId) (at : ℕ) (f : AreTables z t) where
  kept_behind : (k stripe : ℕ) → IsBehind stripe (look k t.logs) → IsBehind stripe (look k (after_retire t log at).logs)
  kept_behind k stripe behind = behind_from stripe (look k t.logs) (look k (after_retire t log at).logs)
      (λ l now live. (l, kept_from (retired log at t.held) k l t.logs (IsRising-from_ordered t.logs f.logs_rise) now, live, omega arith)) behind

  pub retire_stray : (of : LogId) (stripe : ℕ) → IsStray t of stripe → IsStray (after_retire t log at) of stripe
  retire_stray of stripe stray = record {
    given = stray.given;
    not_held = elim (cases_Bool (eqb of.0 log.0 && eqb stripe at)) as (λ _. held_at of stripe (retired log at t.held) ≡ None) [
      | inr other ↦ held_at-retired_other log at of stripe t.held other ∙ stray.not_held
      | inl same ↦ gone t.held log at of stripe same
    ];
    behind = kept_behind of.0 stripe stray.behind;
  }

  pub given_up_stray : log.0 < t.next_log → IsBehind at (look log.0 t.logs) → IsStray (after_retire t log at) log at
  given_up_stray given behind = record { given = given; not_held = held_at-retired_same log at t.held; behind = kept_behind log.0 at behind }

-- ---- deletes

pub delete_stands : (z : Sizes) (contents : Contents) (p : Platter) (st : Servers) (tables : Tables) (tree : Tree) (server : ServerId) (id : FragId) → StandFor z contents p st tables tree → IsStray tables id.log id.stripe
    → StandFor z contents p (after_asked st (server, ask.Delete id)) tables tree
delete_stands z contents p st tables tree server id s stray = beside_stands z contents p st tables tree (server, ask.Delete id) s tt beside where
  beside : (l : LogId) (t : ℕ) (h : HeldUse) → held_at l t tables.held ≡ Some h → IsBeside (ask.Delete id) l t
  beside l t h e = elim (cases_eq id.log.0 l.0) as (λ _. IsBeside (ask.Delete id) l t) [
    | inr ne ↦ inl ne
    | inl same ↦ inr (λ stripe. absurd (none-some h (
        sym stray.not_held ∙ ap (λ (m : LogId). held_at m id.stripe tables.held) (same_log_id id.log l same) ∙ ap (λ (k : ℕ). held_at l k tables.held) stripe ∙ e)))
  ]

pub delete_beside : (t : Tables) (log : LogId) (owner batch : ℕ) (last : Option ℕ) (generation at front : ℕ) (parts : List Part) (id : FragId) → LogIsCurrent t log owner batch last generation at front
    → IsStray t id.log id.stripe → All (λ (part : Part). at ≤ part.stripe) parts → IsBesideEach (ask.Delete id) log parts
delete_beside t log owner batch last generation at front parts id w stray all i d l = elim (cases_eq id.log.0 log.0) as (λ _. IsBeside (ask.Delete id) log (get_or parts i d).stripe) [
  | inr ne ↦ inl ne
  | inl same ↦
      let low = subst (IsBehind id.stripe) (ap (λ (k : ℕ). look k t.logs) same ∙ w.is.there) stray.behind w.is.lives in
      let last_is = ap following w.is.last_is in
      let lasting = w.lasting in
      let part = all i d l in
      inr (λ e. absurd (omega (arith, e, low, last_is, lasting, part)))
]

-- ---- what the cleaner holds

pub copies_grown : (contents new : Contents) (held : List HeldUse) (blocks : List (Ptr × List ℕ)) → SameIn held contents new → CopiesAreCurrent contents held blocks → CopiesAreCurrent new held blocks
copies_grown contents new held [] same are = tt
copies_grown contents new held (e ∷ es) same are = ((are.0.0 ∙ same_bytes held contents new same e.0 are.0.1.1, are.0.1), copies_grown contents new held es same are.1)

pub copies_committed : (contents : Contents) (log : LogId) (born : ℕ) (pieces : List Piece) (held : List HeldUse) (blocks : List (Ptr × List ℕ)) → CopiesAreCurrent contents held blocks
    → CopiesAreCurrent contents (held_with_all log born pieces held) blocks
copies_committed contents log born pieces held [] are = tt
copies_committed contents log born pieces held (e ∷ es) are =
    let lies = are.0.1.1 in
    let on = with_all_on log born pieces held (e.0).log (e.0).stripe in
    ((are.0.0, (are.0.1.0, omega (arith, lies, on))), copies_committed contents log born pieces held es are.1)

pub copies_kept : (contents : Contents) (log : LogId) (stripe : ℕ) (held : List HeldUse) (blocks : List (Ptr × List ℕ)) → AllByRecursion (λ (e : Ptr × List ℕ). IsOther log stripe (e.0).log (e.0).stripe) blocks
    → CopiesAreCurrent contents held blocks → CopiesAreCurrent contents (retired log stripe held) blocks
copies_kept contents log stripe held [] others are = tt
copies_kept contents log stripe held (e ∷ es) others are =
    let lies = are.0.1.1 in
    let same = ap end_of (retire_leaves log stripe held (e.0).log (e.0).stripe others.0) in
    ((are.0.0, (are.0.1.0, omega (arith, lies, same))), copies_kept contents log stripe held es others.1 are.1)
