-- A log stays current, whatever entry comes.
use Rattle.std.proofs.Common.{◌≡◌, ◌≢◌, ◌⊎◌, ℕ, ◌+◌, ◌<◌, ◌≤◌, Bool, true, List, [], ◌∷◌, Option, Some, None, refl, sym, ap, ◌∙◌, subst, inl, inr, arith}
use Rattle.std.specs.Prelude.{if◌then◌else◌, IsSomeAnd}
use Rattle.std.specs.List.{AllByRecursion}
use Rattle.std.proofs.lemmas.Bool.{eq-eqb, le-ltb}
use Rattle.zb_types.specs.declared.ids.LogId.{LogId}
use Rattle.zb_types.specs.declared.ids.Piece.{Piece}
use Rattle.zb_types.specs.declared.nodes.Members.{Members}
use Rattle.zb_types.specs.declared.nodes.State.{State}
use Rattle.zb_types.specs.declared.nodes.State.TheVariants.{Whole, Out, Mending}
use Rattle.zb_types.specs.declared.tables.CommitFault.TheVariants.{Regen}
use Rattle.zb_types.specs.Keyed.{look, changed}
use Rattle.zb_types.proofs.KeyedLists.{look-put_same, look-put_other}
use Rattle.zb_tables.specs.Tables.{LogState, Tables}
use Rattle.zb_tables.specs.Fold.{Shelf, after_retire, all_marked, attached, committed, ended, following, kept_logs, last_of, later, new_log, retired, with_members}
use Rattle.zb_tables.specs.Taking.{below_mark, mark_of, regen_of}
use Rattle.zb_tables.proofs.Logs.{attach_other, commit_log, commit_other, live_kept, mark_live}
use Rattle.zb_sound.specs.Owning.{LogIs}
use Rattle.zb_sound.specs.LogsCurrent.{LogIsCurrent}
use Rattle.zb_sound.proofs.Owned.{attach_owned, commit_owned, mark_owned, new_owned, other_owned, out_whole, mending_whole, retire_owned}

-- ---- the last stripe

one_below : (front stripe : ℕ) (last : Option ℕ) → following last ≤ front → stripe < front → following (Some (later stripe last)) ≤ front
one_below front stripe None le lt = omega arith
one_below front stripe (Some s) le lt = omega arith

one_on : (stripe : ℕ) (last : Option ℕ) → following last ≤ following (Some (later stripe last))
one_on stripe None = omega arith
one_on stripe (Some s) = omega arith

-- it stays below an end that all pieces are below
last_below : (front : ℕ) (pieces : List Piece) (last : Option ℕ) → following last ≤ front → AllByRecursion (λ (p : Piece). p.stripe < front) pieces → following (last_of last pieces) ≤ front
last_below front [] last le all = le
last_below front (p ∷ ps) last le all = last_below front ps (Some (later p.stripe last)) (one_below front p.stripe last le all.0) all.1

-- and never falls
pub last_on : (pieces : List Piece) (last : Option ℕ) → following last ≤ following (last_of last pieces)
last_on [] last = omega arith
last_on (p ∷ ps) last = let a = one_on p.stripe last in let b = last_on ps (Some (later p.stripe last)) in omega arith

firsts : (P Q : Piece → Type 0) (pieces : List Piece) → AllByRecursion (λ (p : Piece). P p × Q p) pieces → AllByRecursion P pieces
firsts P Q [] all = tt
firsts P Q (p ∷ ps) all = (all.0.0, firsts P Q ps all.1)

seconds : (n : ℕ) (P : Piece → Type 0) (pieces : List Piece) → AllByRecursion (λ (p : Piece). P p × (p.stripe ≤ n)) pieces → AllByRecursion (λ (p : Piece). p.stripe < n + 1) pieces
seconds n P [] all = tt
seconds n P (p ∷ ps) all = (let le = all.0.1 in omega arith, seconds n P ps all.1)

pub new_current : (t : Tables) (owner : ℕ) (log : LogId) → LogIsCurrent (attached t owner log) log owner 0 None t.members.generation 0 0
new_current t owner log =
    let mark : mark_of (look log.0 (attached t owner log).logs) ≡ 0 = ap mark_of (look-put_same log.0 (new_log owner) (kept_logs t.held (changed (ended owner) t.logs))) in
    record {
      is = new_owned t owner log;
      ahead = omega arith;
      lasting = omega arith;
      marked = omega (arith, mark);
      former = omega arith;
      unmarked = λ e. omega (arith, mark);
    }

module _ (t : Tables) (log : LogId) (owner batch : ℕ) (last : Option ℕ) (generation at front : ℕ) (w : LogIsCurrent t log owner batch last generation at front) where
  pub moved_current : (further more : ℕ) → at ≤ further → front ≤ more → LogIsCurrent t log owner batch last generation further more
  moved_current further more a b = record {
    is = w.is;
    ahead = let c = w.ahead in omega arith;
    lasting = let c = w.lasting in omega arith;
    marked = w.marked;
    former = w.former;
    unmarked = λ e. let c = w.unmarked e in omega arith;
  }

  pub anew_current : (further : ℕ) → front ≤ further → LogIsCurrent t log owner batch last t.members.generation further front
  anew_current further le =
      let a = w.ahead in
      let m = w.marked in
      record {
        is = w.is;
        ahead = a;
        lasting = omega arith;
        marked = m;
        former = omega arith;
        unmarked = λ e. omega arith;
      }

  pub commit_current : (further number : ℕ) (pieces : List Piece) (s : Shelf) → AllByRecursion (λ (p : Piece). (p.stripe < front) × (p.stripe ≤ further)) pieces → at ≤ further
      → LogIsCurrent (committed t log number pieces s) log owner number (last_of last pieces) generation further front
  commit_current further number pieces s all le =
      let state = w.is.state in
      let new : mark_of (look log.0 (committed t log number pieces s).logs) ≡ state.mark = ap mark_of (commit_log log number pieces s.replies t.logs state w.is.there) in
      let old : mark_of (look log.0 t.logs) ≡ state.mark = ap mark_of w.is.there in
      let lasting = w.lasting in
      record {
        is = commit_owned t log owner batch last number pieces s w.is;
        ahead = last_below front pieces last w.ahead (firsts (λ p. p.stripe < front) (λ p. p.stripe ≤ further) pieces all);
        lasting = last_below (further + 1) pieces last (omega arith) (seconds further (λ p. p.stripe < front) pieces all);
        marked = let m = w.marked in let on = last_on pieces last in omega (arith, new, old);
        former = w.former;
        unmarked = λ e. let m = w.unmarked e in omega (arith, new, old);
      }

  -- the log's state is as it was
  record IsSame (new : Tables) : Type 0 where
    own : LogIs new log owner batch last
    mark : mark_of (look log.0 new.logs) ≡ mark_of (look log.0 t.logs)
    same_generation : new.members.generation ≡ t.members.generation

  same_current : (new : Tables) → IsSame new → LogIsCurrent new log owner batch last generation at front
  same_current new same = record {
    is = same.own;
    ahead = w.ahead;
    lasting = w.lasting;
    marked = let m = w.marked in let e = same.mark in omega (arith, e);
    former = let f = w.former in let e = same.same_generation in omega (arith, e);
    unmarked = λ g. let m = w.unmarked (g ∙ same.same_generation) in let e = same.mark in omega (arith, e);
  }

  pub other_current : (other : LogId) (number : ℕ) (pieces : List Piece) (s : Shelf) → log.0 ≢ other.0 → LogIsCurrent (committed t other number pieces s) log owner batch last generation at front
  other_current other number pieces s ne = same_current (committed t other number pieces s) (record {
    own = other_owned t log owner batch last other number pieces s ne w.is;
    mark = ap mark_of (commit_other other number pieces s.replies t.logs (look other.0 t.logs) log.0 (λ e. ne (sym e)));
    same_generation = refl;
  })

  pub attach_current : (new : LogId) (who : ℕ) → log.0 ≢ new.0 → owner ≢ who → LogIsCurrent (attached t who new) log owner batch last generation at front
  attach_current new who ne other =
      let there = look-put_other log.0 new.0 (new_log who) (kept_logs t.held (changed (ended who) t.logs)) (λ e. ne (sym e))
      ∙ attach_other t.held who log.0 w.is.state t.logs w.is.there w.is.lives (λ e. other (sym w.is.owner_is ∙ e)) in
      same_current (attached t who new) (record {
        own = attach_owned t log owner batch last new who ne other w.is;
        mark = ap mark_of (there ∙ sym w.is.there);
        same_generation = refl;
      })

  pub retire_current : (of : LogId) (stripe : ℕ) → LogIsCurrent (after_retire t of stripe) log owner batch last generation at front
  retire_current of stripe = same_current (after_retire t of stripe) (record {
    own = retire_owned t log owner batch last of stripe w.is;
    mark = ap mark_of (live_kept (retired of stripe t.held) log.0 w.is.state t.logs w.is.there w.is.lives ∙ sym w.is.there);
    same_generation = refl;
  })

  whole_current : (members : Members) → members.state ≡ Whole → t.members.generation ≤ members.generation → LogIsCurrent (with_members t members) log owner batch last generation at front
  whole_current members whole le =
      let same : mark_of (look log.0 (with_members t members).logs) ≡ mark_of (look log.0 t.logs) = ap (λ (state : State). mark_of (look log.0 (all_marked state t.logs))) whole in
      let f = w.former in
      record {
        is = mark_owned t log owner batch last members w.is;
        ahead = w.ahead;
        lasting = w.lasting;
        marked = let m = w.marked in omega (arith, same);
        former = omega arith;
        unmarked = λ g. let m = w.unmarked (omega (arith, g)) in omega (arith, same);
      }

  marked_current : (members : Members) → (members.state ≡ Whole → ⊥) → t.members.generation < members.generation → LogIsCurrent (with_members t members) log owner batch last generation at front
  marked_current members some lt =
      let new : mark_of (look log.0 (with_members t members).logs) ≡ following w.is.state.last = ap mark_of (mark_live members.state t.logs log.0 w.is.state some w.is.there w.is.lives) in
      let own : following w.is.state.last ≡ following last = ap following w.is.last_is in
      let f = w.former in
      record {
        is = mark_owned t log owner batch last members w.is;
        ahead = w.ahead;
        lasting = w.lasting;
        marked = omega (arith, new, own);
        former = omega arith;
        unmarked = λ g. absurd (omega (arith, g));
      }

  pub mark_current : (members : Members) → t.members.generation ≤ members.generation → (members.state ≡ Whole) ⊎ (t.members.generation < members.generation)
      → LogIsCurrent (with_members t members) log owner batch last generation at front
  mark_current members le (inl whole) = whole_current members whole le
  mark_current members le (inr lt) = by_state members.state refl where
    by_state : (state : State) → members.state ≡ state → LogIsCurrent (with_members t members) log owner batch last generation at front
    by_state Whole e = whole_current members e le
    by_state (Out a) e = marked_current members (λ whole. absurd (out_whole a (sym e ∙ whole))) lt
    by_state (Mending a) e = marked_current members (λ whole. absurd (mending_whole a (sym e ∙ whole))) lt

  -- its next batch is taken by the log
  pub next_taken : IsSomeAnd (look log.0 t.logs) (λ (l : LogState). (l.live ≡ true) × (batch + 1 ≡ l.batch + 1))
  next_taken = subst (λ (o : Option LogState). IsSomeAnd o (λ (l : LogState). (l.live ≡ true) × (batch + 1 ≡ l.batch + 1))) (sym w.is.there)
      (w.is.lives, ap (λ (n : ℕ). n + 1) (sym w.is.batch_is))

  not_below : (mark : ℕ) (pieces : List Piece) → mark ≤ at → AllByRecursion (λ (p : Piece). at ≤ p.stripe) pieces → below_mark mark pieces ≡ None
  not_below mark [] le all = refl
  not_below mark (p ∷ ps) le all =
      ap (λ (b : Bool). if b then Some (Regen p.stripe mark) else below_mark mark ps) (le-ltb p.stripe mark (let a = all.0 in omega arith)) ∙ not_below mark ps le all.1

  pub not_regen : (pieces : List Piece) → generation ≡ t.members.generation → AllByRecursion (λ (p : Piece). at ≤ p.stripe) pieces → regen_of t log pieces generation ≡ None
  not_regen pieces e all =
      ap (λ (b : Bool). if b then below_mark (mark_of (look log.0 t.logs)) pieces else Some (Regen generation t.members.generation)) (eq-eqb generation t.members.generation e)
      ∙ not_below (mark_of (look log.0 t.logs)) pieces (w.unmarked e) all
