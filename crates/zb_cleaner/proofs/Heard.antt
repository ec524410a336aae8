-- What may answer the work, and what it makes of it.
use Rattle.std.proofs.Common.{◌≡◌, ℕ, ◌<◌, Option, Some, None, refl, ap, sym, subst, ◌∙◌}
use Rattle.std.specs.List.{AllByRecursion}
use Rattle.zb_types.specs.declared.nodes.Members.{Members}
use Rattle.zb_types.specs.declared.requests.Response.{Response}
use Rattle.zb_types.specs.declared.tables.Status.{Status}
use Rattle.zb_delta.specs.declared.delta.Body.{Body}
use Rattle.zb_basis.specs.Looking.{room_of}
use Rattle.std.specs.Prelude.{List}
use Rattle.std.proofs.lemmas.Option.{same_Some}
use Rattle.zb_types.specs.declared.lines.Ended.{Ended}
use Rattle.zb_types.specs.declared.lines.Ended.TheVariants.{Retired as IsRetired}
use Rattle.zb_pass.specs.Going.{end_of}
use Rattle.zb_pass.specs.Turning.{retired}
use Rattle.zb_pass.specs.declared.work.Cleaning.{Cleaning}
use Rattle.zb_pass.specs.declared.work.Next.{Next}
use Rattle.zb_pass.specs.declared.work.Next.TheVariants as next
use Rattle.zb_pass.specs.declared.work.Work.{Work}
use Rattle.zb_pass.specs.declared.work.Work.TheVariants.{Lookup, Fetch, Store, Mark, Commit, Retire, Sweep, Delete}
use Rattle.zb_pass.specs.Copying.{IsBlock}
use Rattle.zb_pass.specs.Fitting.{Fits, NextFits, WorkFits}
use Rattle.zb_pass.specs.Going.{Onward, GoesOn, PickGives, ServerGives, with_members, works}
use Rattle.zb_pass.specs.Seen.{SeenWriter}
use Rattle.zb_pass.specs.Serving.{CanServe}
use Rattle.zb_cleaner.specs.declared.steps.Answer.{Answer}
use Rattle.zb_cleaner.specs.declared.steps.Answer.TheVariants as answer
use Rattle.zb_cleaner.specs.Answering.{Answers, AnswersAt, AnswersWork}
use Rattle.zb_cleaner.specs.Hearing.{Hears, HearsAt, HearsWork}
use Rattle.zb_cleaner.specs.Seen.{SeenCleaner, Heard, IsFor, goes_so}
use Rattle.zb_cleaner.specs.Turned.{IsTurn, looked_for, turned, turned_work}

-- an answer is for a job
pub has_job : (w : SeenWriter) (jobs : ℕ) (work : Option Work) (a : Answer) → IsFor jobs work → AnswersAt w jobs work a → 0 < jobs
has_job w jobs None a job h = h.0
has_job w jobs (Some work) a job h = job

-- a pick is answered where there is no work
pub record IsPicked (w : SeenWriter) (work : Option Work) (live : List Body) : Type 0 where
  pub none : work ≡ None
  pub blocks : AllByRecursion (IsBlock (room_of w.servers w.fragment) w.block) live

no_pick : (work : Work) (status : Status) (live : List Body) → AnswersWork work (answer.Picked status live) → ⊥
no_pick (Lookup cleaning) status live h = h
no_pick (Fetch cleaning plan) status live h = h
no_pick (Store cleaning formed) status live h = h
no_pick (Mark cleaning server generation) status live h = h
no_pick (Commit cleaning sealed) status live h = h
no_pick (Retire target copied rejected) status live h = h
no_pick (Sweep sweep after) status live h = h
no_pick (Delete sweep left again) status live h = h

pub picked : (w : SeenWriter) (jobs : ℕ) (work : Option Work) (status : Status) (live : List Body) → AnswersAt w jobs work (answer.Picked status live) → IsPicked w work live
picked w jobs None status live h = record { none = refl; blocks = h.1 }
picked w jobs (Some work) status live h = absurd (no_pick work status live h)

pub picked_hears : (w : SeenWriter) (work : Option Work) (status : Status) (live : List Body) (begun : Work) → work ≡ None → PickGives w status live begun
    → HearsAt w work (answer.Picked status live) (works w begun)
picked_hears w work status live begun none h = subst (λ (k : Option Work). HearsAt w k (answer.Picked status live) (works w begun)) (sym none) (record { work = begun; gives = h; is = refl })

-- what is seen is for the lookup that stands
pub record IsSeen (work : Option Work) : Type 0 where
  pub cleaning : Cleaning
  pub looks : work ≡ Some (Lookup cleaning)

seen_work : (work : Work) (members : Members) → AnswersWork work (answer.Seen members) → IsSeen (Some work)
seen_work (Lookup cleaning) members h = record { cleaning = cleaning; looks = refl }
seen_work (Fetch cleaning plan) members h = absurd h
seen_work (Store cleaning formed) members h = absurd h
seen_work (Mark cleaning server generation) members h = absurd h
seen_work (Commit cleaning sealed) members h = absurd h
seen_work (Retire target copied rejected) members h = absurd h
seen_work (Sweep sweep after) members h = absurd h
seen_work (Delete sweep left again) members h = absurd h

pub seen : (w : SeenWriter) (jobs : ℕ) (work : Option Work) (members : Members) → AnswersAt w jobs work (answer.Seen members) → IsSeen work
seen w jobs None members h = absurd h.1
seen w jobs (Some work) members h = seen_work work members h

-- the pass that a lookup is for
pub record IsLooked (work : Option Work) (cleaning : Cleaning) : Type 0 where
  pub is : work ≡ Some (Lookup cleaning)

looked_work : (work : Work) (cleaning : Cleaning) → looked_for (Some work) ≡ Some cleaning → IsLooked (Some work) cleaning
looked_work (Lookup found) cleaning e = record { is = ap (λ (c : Cleaning). Some (Lookup c)) (same_Some found cleaning e) }
looked_work (Fetch found plan) cleaning e = absurd cc
looked_work (Store found formed) cleaning e = absurd cc
looked_work (Mark found server generation) cleaning e = absurd cc
looked_work (Commit found sealed) cleaning e = absurd cc
looked_work (Retire target copied rejected) cleaning e = absurd cc
looked_work (Sweep sweep after) cleaning e = absurd cc
looked_work (Delete sweep left again) cleaning e = absurd cc

pub looked : (work : Option Work) (cleaning : Cleaning) → looked_for work ≡ Some cleaning → IsLooked work cleaning
looked None cleaning e = absurd cc
looked (Some work) cleaning e = looked_work work cleaning e

-- a response is for the work
pub served_hears : (w : SeenWriter) (work : Work) (response : Response) (serving : ℕ) (on : Onward) → CanServe work response → ServerGives w work response serving on → HearsWork w work (answer.Server response serving) on
served_hears w (Lookup cleaning) response serving on can h = absurd can
served_hears w (Fetch cleaning plan) response serving on can h = h
served_hears w (Store cleaning formed) response serving on can h = h
served_hears w (Mark cleaning server generation) response serving on can h = absurd can
served_hears w (Commit cleaning sealed) response serving on can h = absurd can
served_hears w (Retire target copied rejected) response serving on can h = absurd can
served_hears w (Sweep sweep after) response serving on can h = h
served_hears w (Delete sweep left again) response serving on can h = h

-- ---- a turn

turned_hears_work : (w : SeenWriter) (work : Work) (a : Answer) → IsTurn a → AnswersWork work a → HearsWork w work a (record { writer = w; next = turned_work work a })
turned_hears_work w (Lookup cleaning) (answer.Picked status live) t h = absurd t
turned_hears_work w (Lookup cleaning) (answer.Server response serving) t h = absurd t
turned_hears_work w (Lookup cleaning) (answer.Seen members) t h = absurd t
turned_hears_work w (Lookup cleaning) answer.Marked t h = absurd h
turned_hears_work w (Lookup cleaning) (answer.NotMarked fault) t h = absurd h
turned_hears_work w (Lookup cleaning) (answer.Committed some vain) t h = absurd h
turned_hears_work w (Lookup cleaning) (answer.NotCommitted fault) t h = absurd h
turned_hears_work w (Lookup cleaning) (answer.Retired status) t h = absurd h
turned_hears_work w (Lookup cleaning) (answer.NotRetired fault status) t h = absurd h
turned_hears_work w (Lookup cleaning) answer.Down t h = refl
turned_hears_work w (Lookup cleaning) answer.Doubt t h = refl
turned_hears_work w (Fetch cleaning plan) (answer.Picked status live) t h = absurd t
turned_hears_work w (Fetch cleaning plan) (answer.Server response serving) t h = absurd t
turned_hears_work w (Fetch cleaning plan) (answer.Seen members) t h = absurd t
turned_hears_work w (Fetch cleaning plan) answer.Marked t h = absurd h
turned_hears_work w (Fetch cleaning plan) (answer.NotMarked fault) t h = absurd h
turned_hears_work w (Fetch cleaning plan) (answer.Committed some vain) t h = absurd h
turned_hears_work w (Fetch cleaning plan) (answer.NotCommitted fault) t h = absurd h
turned_hears_work w (Fetch cleaning plan) (answer.Retired status) t h = absurd h
turned_hears_work w (Fetch cleaning plan) (answer.NotRetired fault status) t h = absurd h
turned_hears_work w (Fetch cleaning plan) answer.Down t h = absurd h
turned_hears_work w (Fetch cleaning plan) answer.Doubt t h = absurd h
turned_hears_work w (Store cleaning formed) (answer.Picked status live) t h = absurd t
turned_hears_work w (Store cleaning formed) (answer.Server response serving) t h = absurd t
turned_hears_work w (Store cleaning formed) (answer.Seen members) t h = absurd t
turned_hears_work w (Store cleaning formed) answer.Marked t h = absurd h
turned_hears_work w (Store cleaning formed) (answer.NotMarked fault) t h = absurd h
turned_hears_work w (Store cleaning formed) (answer.Committed some vain) t h = absurd h
turned_hears_work w (Store cleaning formed) (answer.NotCommitted fault) t h = absurd h
turned_hears_work w (Store cleaning formed) (answer.Retired status) t h = absurd h
turned_hears_work w (Store cleaning formed) (answer.NotRetired fault status) t h = absurd h
turned_hears_work w (Store cleaning formed) answer.Down t h = absurd h
turned_hears_work w (Store cleaning formed) answer.Doubt t h = absurd h
turned_hears_work w (Mark cleaning server generation) (answer.Picked status live) t h = absurd t
turned_hears_work w (Mark cleaning server generation) (answer.Server response serving) t h = absurd t
turned_hears_work w (Mark cleaning server generation) (answer.Seen members) t h = absurd t
turned_hears_work w (Mark cleaning server generation) answer.Marked t h = refl
turned_hears_work w (Mark cleaning server generation) (answer.NotMarked fault) t h = refl
turned_hears_work w (Mark cleaning server generation) (answer.Committed some vain) t h = absurd h
turned_hears_work w (Mark cleaning server generation) (answer.NotCommitted fault) t h = absurd h
turned_hears_work w (Mark cleaning server generation) (answer.Retired status) t h = absurd h
turned_hears_work w (Mark cleaning server generation) (answer.NotRetired fault status) t h = absurd h
turned_hears_work w (Mark cleaning server generation) answer.Down t h = refl
turned_hears_work w (Mark cleaning server generation) answer.Doubt t h = refl
turned_hears_work w (Commit cleaning sealed) (answer.Picked status live) t h = absurd t
turned_hears_work w (Commit cleaning sealed) (answer.Server response serving) t h = absurd t
turned_hears_work w (Commit cleaning sealed) (answer.Seen members) t h = absurd t
turned_hears_work w (Commit cleaning sealed) answer.Marked t h = absurd h
turned_hears_work w (Commit cleaning sealed) (answer.NotMarked fault) t h = absurd h
turned_hears_work w (Commit cleaning sealed) (answer.Committed some vain) t h = refl
turned_hears_work w (Commit cleaning sealed) (answer.NotCommitted fault) t h = refl
turned_hears_work w (Commit cleaning sealed) (answer.Retired status) t h = absurd h
turned_hears_work w (Commit cleaning sealed) (answer.NotRetired fault status) t h = absurd h
turned_hears_work w (Commit cleaning sealed) answer.Down t h = refl
turned_hears_work w (Commit cleaning sealed) answer.Doubt t h = refl
turned_hears_work w (Retire target copied rejected) (answer.Picked status live) t h = absurd t
turned_hears_work w (Retire target copied rejected) (answer.Server response serving) t h = absurd t
turned_hears_work w (Retire target copied rejected) (answer.Seen members) t h = absurd t
turned_hears_work w (Retire target copied rejected) answer.Marked t h = absurd h
turned_hears_work w (Retire target copied rejected) (answer.NotMarked fault) t h = absurd h
turned_hears_work w (Retire target copied rejected) (answer.Committed some vain) t h = absurd h
turned_hears_work w (Retire target copied rejected) (answer.NotCommitted fault) t h = absurd h
turned_hears_work w (Retire target copied rejected) (answer.Retired status) t h = refl
turned_hears_work w (Retire target copied rejected) (answer.NotRetired fault status) t h = refl
turned_hears_work w (Retire target copied rejected) answer.Down t h = refl
turned_hears_work w (Retire target copied rejected) answer.Doubt t h = refl
turned_hears_work w (Sweep sweep after) (answer.Picked status live) t h = absurd t
turned_hears_work w (Sweep sweep after) (answer.Server response serving) t h = absurd t
turned_hears_work w (Sweep sweep after) (answer.Seen members) t h = absurd t
turned_hears_work w (Sweep sweep after) answer.Marked t h = absurd h
turned_hears_work w (Sweep sweep after) (answer.NotMarked fault) t h = absurd h
turned_hears_work w (Sweep sweep after) (answer.Committed some vain) t h = absurd h
turned_hears_work w (Sweep sweep after) (answer.NotCommitted fault) t h = absurd h
turned_hears_work w (Sweep sweep after) (answer.Retired status) t h = absurd h
turned_hears_work w (Sweep sweep after) (answer.NotRetired fault status) t h = absurd h
turned_hears_work w (Sweep sweep after) answer.Down t h = absurd h
turned_hears_work w (Sweep sweep after) answer.Doubt t h = absurd h
turned_hears_work w (Delete sweep left again) (answer.Picked status live) t h = absurd t
turned_hears_work w (Delete sweep left again) (answer.Server response serving) t h = absurd t
turned_hears_work w (Delete sweep left again) (answer.Seen members) t h = absurd t
turned_hears_work w (Delete sweep left again) answer.Marked t h = absurd h
turned_hears_work w (Delete sweep left again) (answer.NotMarked fault) t h = absurd h
turned_hears_work w (Delete sweep left again) (answer.Committed some vain) t h = absurd h
turned_hears_work w (Delete sweep left again) (answer.NotCommitted fault) t h = absurd h
turned_hears_work w (Delete sweep left again) (answer.Retired status) t h = absurd h
turned_hears_work w (Delete sweep left again) (answer.NotRetired fault status) t h = absurd h
turned_hears_work w (Delete sweep left again) answer.Down t h = absurd h
turned_hears_work w (Delete sweep left again) answer.Doubt t h = absurd h

turned_hears_none : (w : SeenWriter) (jobs : ℕ) (a : Answer) → IsTurn a → AnswersAt w jobs None a → HearsAt w None a (record { writer = w; next = turned None a })
turned_hears_none w jobs answer.Down t h = refl
turned_hears_none w jobs answer.Doubt t h = refl
turned_hears_none w jobs (answer.Picked status live) t h = absurd t
turned_hears_none w jobs (answer.Server response serving) t h = absurd t
turned_hears_none w jobs (answer.Seen members) t h = absurd t
turned_hears_none w jobs answer.Marked t h = absurd h.1
turned_hears_none w jobs (answer.NotMarked fault) t h = absurd h.1
turned_hears_none w jobs (answer.Committed copied rejected) t h = absurd h.1
turned_hears_none w jobs (answer.NotCommitted fault) t h = absurd h.1
turned_hears_none w jobs (answer.Retired status) t h = absurd h.1
turned_hears_none w jobs (answer.NotRetired fault status) t h = absurd h.1

pub turned_hears : (w : SeenWriter) (jobs : ℕ) (work : Option Work) (a : Answer) → IsTurn a → AnswersAt w jobs work a → HearsAt w work a (record { writer = w; next = turned work a })
turned_hears w jobs None a t h = turned_hears_none w jobs a t h
turned_hears w jobs (Some work) a t h = turned_hears_work w work a t h

looks_fit : (w : SeenWriter) (work : Work) → WorkFits w (Some work) → NextFits w (turned_work work answer.Marked)
looks_fit w (Lookup cleaning) h = h
looks_fit w (Fetch cleaning plan) h = h
looks_fit w (Store cleaning formed) h = h
looks_fit w (Mark cleaning server generation) h = h
looks_fit w (Commit cleaning sealed) h = h.0
looks_fit w (Retire target copied rejected) h = h
looks_fit w (Sweep sweep after) h = h
looks_fit w (Delete sweep left again) h = h

commit_fits : (w : SeenWriter) (work : Work) (copied rejected : ℕ) → WorkFits w (Some work) → NextFits w (turned_work work (answer.Committed copied rejected))
commit_fits w (Lookup cleaning) copied rejected h = h
commit_fits w (Fetch cleaning plan) copied rejected h = h
commit_fits w (Store cleaning formed) copied rejected h = h
commit_fits w (Mark cleaning server generation) copied rejected h = h
commit_fits w (Commit cleaning sealed) copied rejected h = tt
commit_fits w (Retire target some vain) copied rejected h = h
commit_fits w (Sweep sweep after) copied rejected h = h
commit_fits w (Delete sweep left again) copied rejected h = h

retire_fits : (w : SeenWriter) (work : Work) (end : Ended) (status : Status) → WorkFits w (Some work) → Fits w.servers w.fragment w.block w.log (retired end status work)
retire_fits w (Lookup cleaning) end status h = h
retire_fits w (Fetch cleaning plan) end status h = h
retire_fits w (Store cleaning formed) end status h = h
retire_fits w (Mark cleaning server generation) end status h = h
retire_fits w (Commit cleaning sealed) end status h = h
retire_fits w (Retire target copied rejected) end status h = tt
retire_fits w (Sweep sweep after) end status h = h
retire_fits w (Delete sweep left again) end status h = h

turned_fits_work : (w : SeenWriter) (work : Work) (a : Answer) → WorkFits w (Some work) → NextFits w (turned_work work a)
turned_fits_work w work answer.Marked h = looks_fit w work h
turned_fits_work w work (answer.NotMarked fault) h = tt
turned_fits_work w work (answer.Committed copied rejected) h = commit_fits w work copied rejected h
turned_fits_work w work (answer.NotCommitted fault) h = looks_fit w work h
turned_fits_work w work (answer.Retired status) h = retire_fits w work IsRetired status h
turned_fits_work w work (answer.NotRetired fault status) h = retire_fits w work (end_of fault) status h
turned_fits_work w work (answer.Picked status live) h = tt
turned_fits_work w work (answer.Server response serving) h = tt
turned_fits_work w work (answer.Seen members) h = tt
turned_fits_work w work answer.Down h = tt
turned_fits_work w work answer.Doubt h = tt

-- what is true of the work as it goes on behind a turn
pub turned_fits : (w : SeenWriter) (work : Option Work) (a : Answer) → WorkFits w work → NextFits w (turned work a)
turned_fits w None a h = tt
turned_fits w (Some work) a h = turned_fits_work w work a h

-- an answer that is no other is a turn
pub turn_by : (a : Answer) → ((status : Status) (live : List Body) → answer.Picked status live ≡ a → ⊥) → ((response : Response) (serving : ℕ) → answer.Server response serving ≡ a → ⊥)
    → ((members : Members) → answer.Seen members ≡ a → ⊥) → IsTurn a
turn_by (answer.Picked status live) p s m = p status live refl
turn_by (answer.Server response serving) p s m = s response serving refl
turn_by (answer.Seen members) p s m = m members refl
turn_by answer.Marked p s m = tt
turn_by (answer.NotMarked fault) p s m = tt
turn_by (answer.Committed copied rejected) p s m = tt
turn_by (answer.NotCommitted fault) p s m = tt
turn_by (answer.Retired status) p s m = tt
turn_by (answer.NotRetired fault status) p s m = tt
turn_by answer.Down p s m = tt
turn_by answer.Doubt p s m = tt

-- ---- the step of the cleaner

-- the work that was taken out doesn't matter
so_again : (c : SeenCleaner) (n : Next) → goes_so (record c { work = None }) n ≡ goes_so c n
so_again c (next.Work work) = refl
so_again c (next.End line) = refl

pub turn_fits : (c taken : SeenCleaner) (a : Answer) (n : Next) → taken ≡ record c { work = None } → n ≡ turned c.work a → WorkFits c.writer c.work → NextFits taken.writer n
turn_fits c taken a n e f h =
    subst (λ (z : SeenCleaner). NextFits z.writer n) (sym e) (subst (NextFits c.writer) (sym f) (turned_fits c.writer c.work a h))

pub turn_heard : (c taken : SeenCleaner) (a : Answer) (n : Next) (heard : Heard) → IsTurn a → Answers c a → taken ≡ record c { work = None } → n ≡ turned c.work a → goes_so taken n ≡ heard → Hears c a heard
turn_heard c taken a n heard t h e f told = record {
  on = record { writer = c.writer; next = n };
  gives = subst (λ (m : Next). HearsAt c.writer c.work a (record { writer = c.writer; next = m })) (sym f) (turned_hears c.writer c.jobs c.work a t h);
  is = sym told ∙ (ap (λ (z : SeenCleaner). goes_so z n) e ∙ so_again c n);
}

can_of : (work : Work) (response : Response) (serving : ℕ) → AnswersWork work (answer.Server response serving) → CanServe work response
can_of (Lookup cleaning) response serving h = h
can_of (Fetch cleaning plan) response serving h = h
can_of (Store cleaning formed) response serving h = h
can_of (Mark cleaning server generation) response serving h = h
can_of (Commit cleaning sealed) response serving h = h
can_of (Retire target copied rejected) response serving h = h
can_of (Sweep sweep after) response serving h = h
can_of (Delete sweep left again) response serving h = h

pub served_heard : (c mid : SeenCleaner) (work : Work) (response : Response) (serving : ℕ) (on : Onward) (heard : Heard) → mid ≡ record c { work = None } → c.work ≡ Some work → Answers c (answer.Server response serving)
    → ServerGives mid.writer work response serving on → goes_so (record mid { writer = on.writer }) on.next ≡ heard → Hears c (answer.Server response serving) heard
served_heard c mid work response serving on heard e k h gives told =
    let at : AnswersAt c.writer c.jobs (Some work) (answer.Server response serving) = subst (λ (o : Option Work). AnswersAt c.writer c.jobs o (answer.Server response serving)) k h in
    record {
      on = on;
      gives = subst (λ (o : Option Work). HearsAt c.writer o (answer.Server response serving) on) (sym k)
          (served_hears c.writer work response serving on (can_of work response serving at) (subst (λ (z : SeenCleaner). ServerGives z.writer work response serving on) e gives));
      is = sym told ∙ (ap (λ (z : SeenCleaner). goes_so (record z { writer = on.writer }) on.next) e ∙ so_again (record c { writer = on.writer }) on.next);
    }

pub seen_heard : (c mid : SeenCleaner) (cleaning : Cleaning) (members : Members) (new : SeenWriter) (work : Work) (heard : Heard) → mid ≡ record c { work = None } → looked_for c.work ≡ Some cleaning
    → GoesOn mid.writer (with_members cleaning members) (works new work) → goes_so (record mid { writer = new }) (next.Work work) ≡ heard → Hears c (answer.Seen members) heard
seen_heard c mid cleaning members new work heard e k gives told = record {
  on = works new work;
  gives = subst (λ (o : Option Work). HearsAt c.writer o (answer.Seen members) (works new work)) (sym (looked c.work cleaning k).is)
      (subst (λ (z : SeenCleaner). GoesOn z.writer (with_members cleaning members) (works new work)) e gives);
  is = sym told ∙ (ap (λ (z : SeenCleaner). goes_so (record z { writer = new }) (next.Work work)) e ∙ so_again (record c { writer = new }) (next.Work work));
}

pub picked_heard : (c mid : SeenCleaner) (status : Status) (live given : List Body) (work : Work) (heard : Heard) → mid ≡ c → given ≡ live → Answers c (answer.Picked status live)
    → PickGives mid.writer status given work → goes_so c (next.Work work) ≡ heard → Hears c (answer.Picked status live) heard
picked_heard c mid status live given work heard e f h gives told = record {
  on = works c.writer work;
  gives = picked_hears c.writer c.work status live work (picked c.writer c.jobs c.work status live h).none
      (subst (λ (bodies : List Body). PickGives c.writer status bodies work) f (subst (λ (z : SeenCleaner). PickGives z.writer status given work) e gives));
  is = sym told;
}
