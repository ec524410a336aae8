-- What a step leaves of the history that a ledger keeps.
use Rattle.std.proofs.Common.{◌≡◌, ◌≢◌, ℕ, ◌+◌, ◌≤◌, true, false, List, [], ◌∷◌, ◌++◌, append-nil, Option, Some, None, refl, sym, ap, ◌∙◌, subst, inl, inr}
use Rattle.std.specs.Prelude.{◌⊎◌, is_some}
use Rattle.std.proofs.lemmas.Bool.{cases_eq}
use Rattle.std.proofs.lemmas.Option.{same_Some}
use Rattle.zb_types.specs.declared.lines.Kind.{Kind}
use Rattle.zb_types.specs.declared.lines.Kind.TheVariants as kind
use Rattle.zb_types.specs.declared.lines.Outcome.{Outcome}
use Rattle.zb_given.specs.Given.{Given}
use Rattle.zb_given.specs.Calls.{LookedUp}
use Rattle.zb_given.specs.Telling.{IsOfNow}
use Rattle.zb_ledger.specs.Seen.{SeenLedger, looked_now}
use Rattle.zb_ledger.specs.Keeps.{AreOthersReads, IsCounted, KeepsHistory, LooksBehind}
use Rattle.zb_ledger.proofs.Looking.{counts_read, keeps_look}
use Rattle.zb_basis.specs.declared.calls.Numbered.{Numbered}
use Rattle.zb_work.specs.declared.work.Step.{Step}
use Rattle.zb_work.specs.declared.work.Step.TheVariants as step
use Rattle.zb_work.specs.declared.work.Task.{Task}
use Rattle.zb_work.specs.Steps.{kind_of_step, step_of}
use Rattle.zb_client.specs.Seen.{SeenClient, kind_of, kind_of_task}
use Rattle.zb_system.specs.Looking.{HasLookedUp, is_fetch}
use Rattle.zb_system.specs.Sound.{ReadStays}
use Rattle.zb_system.proofs.FirstReads.{not_fetch, not_looked}
use Rattle.zb_course.specs.Steps.{LooksAt}

-- a read's block is read, or not
pub is_fetching : (k : Kind) → (k ≡ kind.Fetch) ⊎ (k ≢ kind.Fetch)
is_fetching kind.Fetch = inl refl
is_fetching kind.Idle = inr (λ e. absurd (cc e))
is_fetching kind.Call = inr (λ e. absurd (cc e))
is_fetching kind.Lookup = inr (λ e. absurd (cc e))
is_fetching kind.Store = inr (λ e. absurd (cc e))
is_fetching kind.Mark = inr (λ e. absurd (cc e))
is_fetching kind.Commit = inr (λ e. absurd (cc e))
is_fetching kind.Pick = inr (λ e. absurd (cc e))
is_fetching kind.Retire = inr (λ e. absurd (cc e))
is_fetching kind.Sweep = inr (λ e. absurd (cc e))
is_fetching kind.Delete = inr (λ e. absurd (cc e))
is_fetching kind.Begin = inr (λ e. absurd (cc e))
is_fetching kind.Fence = inr (λ e. absurd (cc e))
is_fetching kind.Wipe = inr (λ e. absurd (cc e))
is_fetching kind.Finish = inr (λ e. absurd (cc e))

-- files or names are looked up, or not
pub is_looking : (k : Kind) → (k ≡ kind.Lookup) ⊎ (k ≢ kind.Lookup)
is_looking kind.Lookup = inl refl
is_looking kind.Fetch = inr (λ e. absurd (cc e))
is_looking kind.Idle = inr (λ e. absurd (cc e))
is_looking kind.Call = inr (λ e. absurd (cc e))
is_looking kind.Store = inr (λ e. absurd (cc e))
is_looking kind.Mark = inr (λ e. absurd (cc e))
is_looking kind.Commit = inr (λ e. absurd (cc e))
is_looking kind.Pick = inr (λ e. absurd (cc e))
is_looking kind.Retire = inr (λ e. absurd (cc e))
is_looking kind.Sweep = inr (λ e. absurd (cc e))
is_looking kind.Delete = inr (λ e. absurd (cc e))
is_looking kind.Begin = inr (λ e. absurd (cc e))
is_looking kind.Fence = inr (λ e. absurd (cc e))
is_looking kind.Wipe = inr (λ e. absurd (cc e))
is_looking kind.Finish = inr (λ e. absurd (cc e))

looking_not_fetching : (k : Kind) → k ≡ kind.Fetch → k ≢ kind.Lookup
looking_not_fetching k e other = absurd (cc (sym e ∙ other))

-- where no block is read, no read was looked up
no_block : (s : Step) → kind_of_step s ≢ kind.Fetch → is_fetch s ≡ false
no_block step.Lookup ne = refl
no_block (step.Fetch basis at ptr plan) ne = absurd (ne refl)
no_block (step.Store basis formed) ne = refl
no_block (step.Mark server generation) ne = refl
no_block (step.Commit basis sealed) ne = refl

no_block_at : (t : Option Task) (queue : List Numbered) → kind_of_task t queue ≢ kind.Fetch → is_fetch (step_of t) ≡ false
no_block_at (Some task) queue ne = no_block task.step ne
no_block_at None queue ne = refl

pub unread : (given : Given) (lines : List Outcome) (c : SeenClient) (read : Option LookedUp) → HasLookedUp given lines c read → kind_of c ≢ kind.Fetch → read ≡ None
unread given lines c read has ne = not_looked given lines c read has (not_fetch c.kept (step_of c.task) (no_block_at c.task c.queue ne))

of_none : (read : Option LookedUp) (lines : List Outcome) → read ≡ None → IsOfNow read lines
of_none None lines e = tt
of_none (Some read) lines e = absurd (cc e)

-- where no block is read, a read that is looked up behind the step is so now
pub of_now : (k : Kind) (old new : Option LookedUp) (lines : List Outcome) → ReadStays k old new lines [] → old ≡ None → IsOfNow new (lines ++ [])
of_now k old new lines r none = by (is_looking k) where
  by : (k ≡ kind.Lookup) ⊎ (k ≢ kind.Lookup) → IsOfNow new (lines ++ [])
  by (inl e) = r.looked e
  by (inr ne) = of (r.goes_on ne) where
    of : (new ≡ old) ⊎ (new ≡ None) → IsOfNow new (lines ++ [])
    of (inl same) = of_none new (lines ++ []) (same ∙ none)
    of (inr gone) = of_none new (lines ++ []) gone

-- fewer reads are at work
pub with_reads : (given : Given) (lines : List Outcome) (old new : ℕ → Option LookedUp) (ledger : SeenLedger) → ((i : ℕ) → (new i ≡ old i) ⊎ (new i ≡ None)) → KeepsHistory given lines old ledger → KeepsHistory given lines new ledger
with_reads given lines old new ledger fewer k = record {
  counts = k.counts;
  waiting = k.waiting;
  updates = k.updates;
  answers = k.answers;
  seen = k.seen;
  looked = λ i read e. k.looked i read (still i read e (fewer i));
  count_places = k.count_places;
  look_places = k.look_places;
} where
  still : (i : ℕ) (read : LookedUp) → new i ≡ Some read → (new i ≡ old i) ⊎ (new i ≡ None) → old i ≡ Some read
  still i read e (inl same) = sym same ∙ e
  still i read e (inr gone) = absurd (cc (sym gone ∙ e))

-- so it is where only one changes
pub one_fewer : (i : ℕ) (old new : ℕ → Option LookedUp) → AreOthersReads i old new → (new i ≡ old i) ⊎ (new i ≡ None) → (j : ℕ) → (new j ≡ old j) ⊎ (new j ≡ None)
one_fewer i old new others own j = by (cases_eq j i) where
  by : (j ≡ i) ⊎ (j ≢ i) → (new j ≡ old j) ⊎ (new j ≡ None)
  by (inl e) = subst (λ (k : ℕ). (new k ≡ old k) ⊎ (new k ≡ None)) (sym e) own
  by (inr ne) = inl (others j ne)

-- the lines behind which a ledger has the history are the same list
pub at_lines : (given : Given) (lines after : List Outcome) (reads : ℕ → Option LookedUp) (ledger : SeenLedger) → lines ≡ after → KeepsHistory given lines reads ledger → KeepsHistory given after reads ledger
at_lines given lines after reads ledger e k = subst (λ (l : List Outcome). KeepsHistory given l reads ledger) e k

-- room for lines changes nothing of the history
pub with_room : (given : Given) (lines : List Outcome) (reads : ℕ → Option LookedUp) (ledger : SeenLedger) (room : ℕ) → KeepsHistory given lines reads ledger → KeepsHistory given lines reads (record ledger { room = room })
with_room given lines reads ledger room k = record {
  counts = k.counts;
  waiting = k.waiting;
  updates = k.updates;
  answers = k.answers;
  seen = k.seen;
  looked = λ i read e. record { stood = (k.looked i read e).stood; counted = (k.looked i read e).counted };
  count_places = k.count_places;
  look_places = k.look_places;
}

-- A step was made behind these lines: its client's read at work is looked up now, or the updates at its lookup are counted.
module _ (given : Given) (lines : List Outcome) (old : ℕ → Option LookedUp) (i : ℕ) (c : SeenClient) (has : HasLookedUp given lines c (old i))
    (before ledger : SeenLedger) (keeps : KeepsHistory given lines old before) (low : i + 1 ≤ before.clients) (at : LooksAt (Some (kind_of c)) before ledger (i + 1)) where
  same_at : kind_of c ≡ kind.Fetch → ledger ≡ before
  same_at e = at.reads (ap Some e)

  looked_at : kind_of c ≢ kind.Fetch → ledger ≡ looked_now before (i + 1)
  looked_at ne = at.looks (λ e. ne (same_Some (kind_of c) kind.Fetch e))

  now_at : (new : ℕ → Option LookedUp) → kind_of c ≢ kind.Fetch → AreOthersReads i old new → IsOfNow (new i) lines → KeepsHistory given lines new ledger × IsCounted given lines ledger (i + 1) None
  now_at new ne others now =
      subst (λ (l : SeenLedger). KeepsHistory given lines new l × IsCounted given lines l (i + 1) None) (sym (looked_at ne))
      (keeps_look given lines old new before i low others now keeps)

  -- nothing is told
  pub quiet : (new : ℕ → Option LookedUp) → AreOthersReads i old new → ReadStays (kind_of c) (old i) (new i) lines [] → KeepsHistory given (lines ++ []) new ledger
  quiet new others stays = at_lines given lines (lines ++ []) new ledger (sym (append-nil lines)) (by (is_fetching (kind_of c))) where
    by : (kind_of c ≡ kind.Fetch) ⊎ (kind_of c ≢ kind.Fetch) → KeepsHistory given lines new ledger
    by (inl e) =
        subst (KeepsHistory given lines new) (sym (same_at e))
        (with_reads given lines old new before (one_fewer i old new others (stays.goes_on (looking_not_fetching (kind_of c) e))) keeps)
    by (inr ne) =
        (now_at new ne others
        (subst (IsOfNow (new i)) (append-nil lines) (of_now (kind_of c) (old i) (new i) lines stays (unread given lines c (old i) has ne)))).0

  -- lines are told, which are still to come
  pub waiting : (answers : kind_of c ≡ kind.Fetch → is_some (old i) ≡ true) → KeepsHistory given lines old ledger × IsCounted given lines ledger (i + 1) (old i)
  waiting answers = by (is_fetching (kind_of c)) where
    counted : (read : Option LookedUp) → old i ≡ read → is_some read ≡ true → IsCounted given lines before (i + 1) (old i)
    counted None e some = absurd (cc some)
    counted (Some read) e some = subst (IsCounted given lines before (i + 1)) (sym e) (counts_read given lines old before i read e keeps)

    by : (kind_of c ≡ kind.Fetch) ⊎ (kind_of c ≢ kind.Fetch) → KeepsHistory given lines old ledger × IsCounted given lines ledger (i + 1) (old i)
    by (inl e) =
        subst (λ (l : SeenLedger). KeepsHistory given lines old l × IsCounted given lines l (i + 1) (old i)) (sym (same_at e))
        (keeps, counted (old i) refl (answers e))
    by (inr ne) =
        let none : old i ≡ None = unread given lines c (old i) has ne in
        let r = now_at old ne (λ j other. refl) (of_none (old i) lines none) in
        (r.0, subst (IsCounted given lines ledger (i + 1)) (sym none) r.1)

-- where lines are told, its read is looked up behind the last of them
pub looks_behind : (lines more : List Outcome) (old new : Option LookedUp) → more ≢ [] → ((more ≡ []) × (new ≡ old)) ⊎ IsOfNow new (lines ++ more) → LooksBehind lines more old new
looks_behind lines [] old new some looks = absurd (some refl)
looks_behind lines (line ∷ more) old new some (inl (none, same)) = absurd (some none)
looks_behind lines (line ∷ more) old new some (inr now) = now
