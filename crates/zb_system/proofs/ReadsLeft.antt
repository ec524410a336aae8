-- What a step makes of its client's read at work.
use Rattle.std.proofs.Common.{◌≡◌, ◌≢◌, true, false, Bool, List, [], ◌∷◌, ◌++◌, Option, Some, None, refl, ap, ◌∙◌, inl, inr}
use Rattle.std.specs.Prelude.{is_some}
use Rattle.zb_types.specs.declared.lines.Kind.{Kind}
use Rattle.zb_types.specs.declared.lines.Kind.TheVariants as kind
use Rattle.zb_types.specs.declared.lines.Outcome.{Outcome}
use Rattle.zb_given.specs.Given.{Given}
use Rattle.zb_given.specs.Calls.{LookedUp}
use Rattle.zb_basis.specs.declared.calls.Numbered.{Numbered}
use Rattle.zb_work.specs.declared.work.Step.{Step}
use Rattle.zb_work.specs.declared.work.Step.TheVariants.{Lookup, Fetch, Store, Mark, Commit}
use Rattle.zb_work.specs.declared.work.Task.{Task}
use Rattle.zb_work.specs.Steps.{kind_of_step, step_of}
use Rattle.zb_client.specs.Seen.{SeenClient, kind_of, kind_of_task}
use Rattle.zb_given.specs.Telling.{IsOfNow}
use Rattle.zb_system.specs.Looking.{HasLookedUp, is_fetch, reads_with}
use Rattle.zb_system.specs.Sound.{ReadStays}
use Rattle.zb_system.proofs.FirstReads.{not_fetch, not_looked}

pub none_left : (k : Kind) (old : Option LookedUp) (lines more : List Outcome) → (k ≡ kind.Fetch → more ≢ [] → is_some old ≡ true) → ReadStays k old None lines more
none_left k old lines more answers = record { looked = λ e. tt; goes_on = λ ne. inr refl; answers = answers }

-- nothing is told
abbrev pub Nothing_told : List Outcome
Nothing_told = []

pub silent : (k : Kind) (old : Option LookedUp) → k ≡ kind.Fetch → Nothing_told ≢ [] → is_some old ≡ true
silent k old e some = absurd (some refl)

-- does a client's task read a block?
abbrev pub reads_step : Option Task → Bool
reads_step t = is_fetch (step_of t)

-- steps that read no block
pub no_fetch : (step : Step) → is_fetch step ≡ false → kind_of_step step ≡ kind.Fetch → ⊥
no_fetch Lookup other e = absurd (cc e)
no_fetch (Fetch basis at ptr plan) other e = absurd (cc other)
no_fetch (Store basis formed) other e = absurd (cc e)
no_fetch (Mark server generation) other e = absurd (cc e)
no_fetch (Commit basis sealed) other e = absurd (cc e)

no_fetch_task : (t : Option Task) (queue : List Numbered) → reads_step t ≡ false → kind_of_task t queue ≡ kind.Fetch → ⊥
no_fetch_task (Some task) queue other e = no_fetch task.step other e
no_fetch_task None [] other e = absurd (cc e)
no_fetch_task None (call ∷ calls) other e = absurd (cc e)

-- so it is with the client's next step, and its lines answer no read
pub not_reading : (c : SeenClient) (more : List Outcome) (old : Option LookedUp) → reads_step c.task ≡ false → kind_of c ≡ kind.Fetch → more ≢ [] → is_some old ≡ true
not_reading c more old other e some = absurd (no_fetch_task c.task c.queue other e)

-- the kind of a step tells the step
looks_up : (step : Step) → kind_of_step step ≡ kind.Lookup → step ≡ Lookup
looks_up Lookup e = refl
looks_up (Fetch basis at ptr plan) e = absurd (cc e)
looks_up (Store basis formed) e = absurd (cc e)
looks_up (Mark server generation) e = absurd (cc e)
looks_up (Commit basis sealed) e = absurd (cc e)

at_lookup : (task : Option Task) (queue : List Numbered) → kind_of_task task queue ≡ kind.Lookup → step_of task ≡ Lookup
at_lookup (Some task) queue e = looks_up task.step e
at_lookup None [] e = absurd (cc e)
at_lookup None (call ∷ calls) e = absurd (cc e)

-- nothing was looked up before a lookup
pub lookup_unread : (given : Given) (lines : List Outcome) (c : SeenClient) (read : Option LookedUp) → HasLookedUp given lines c read → kind_of c ≡ kind.Lookup → read ≡ None
lookup_unread given lines c read has e = not_looked given lines c read has (ap (reads_with c.kept) (at_lookup c.task c.queue e) ∙ not_fetch c.kept Lookup refl)

now_none : (read : Option LookedUp) (lines : List Outcome) → read ≡ None → IsOfNow read lines
now_none None lines e = tt
now_none (Some read) lines e = absurd (cc e)

pub as_looked : (given : Given) (lines : List Outcome) (c : SeenClient) (read : Option LookedUp) → HasLookedUp given lines c read → ReadStays (kind_of c) read read lines []
as_looked given lines c read has = record {
  looked = λ e. now_none read (lines ++ []) (lookup_unread given lines c read has e);
  goes_on = λ ne. inl refl;
  answers = silent (kind_of c) read;
}
