-- What a step does to a client that is at work, and to the one that holds the file manager.
use Rattle.std.proofs.Common.{◌≡◌, ◌≢◌, ℕ, zero, suc, ◌+◌, ◌<◌, true, false, Bool, List, [], ◌∷◌, length, Option, Some, None, refl, sym, ap, ◌∙◌, subst, arith, inl, inr}
use Rattle.std.specs.Prelude.{◌⊎◌, ◌==◌, if◌then◌else◌, is_some, slice_get, slice_set, IfSome}
use Rattle.std.proofs.lemmas.Bool.{cases_eq, eq-eqb}
use Rattle.std.proofs.lemmas.Option.{none-some, same_Some}
use Rattle.zb_types.specs.declared.lines.Kind.TheVariants as kind
use Rattle.zb_turns.specs.Turns.{other_holder}
use Rattle.zb_basis.specs.declared.calls.Numbered.{Numbered}
use Rattle.zb_work.specs.declared.work.Aim.{Aim}
use Rattle.zb_work.specs.declared.work.Step.{Step}
use Rattle.zb_work.specs.declared.work.Step.TheVariants as step
use Rattle.zb_work.specs.declared.work.Task.{Task}
use Rattle.zb_work.specs.Steps.{aim_of, kind_of_step}
use Rattle.zb_client.specs.Seen.{SeenClient, kind_of, kind_of_task}
use Rattle.zb_client_laws.specs.Effects.{SameCalls}
use Rattle.zb_system.specs.Nodes.{IsClient, SeenNodes}
use Rattle.zb_system.proofs.Joining.{elsewhere}
use Rattle.zb_ending.specs.Holding.{ClientWorks, HolderWorks, IsAtWork}

-- ---- the holder, as an equation

pub holder_of : (n : SeenNodes) → HolderWorks n → (h : ℕ) → n.manager.holder ≡ Some h → ClientWorks n h
holder_of n works h e = subst (λ (o : Option ℕ). IfSome o (ClientWorks n)) e works

pub holder_all : (n : SeenNodes) → ((h : ℕ) → n.manager.holder ≡ Some h → ClientWorks n h) → HolderWorks n
holder_all n each = by n.manager.holder refl where
  by : (o : Option ℕ) → n.manager.holder ≡ o → IfSome o (ClientWorks n)
  by None e = tt
  by (Some h) e = each h e

pub none_holds : (n : SeenNodes) → n.manager.holder ≡ None → HolderWorks n
none_holds n e = subst (λ (o : Option ℕ). IfSome o (ClientWorks n)) (sym e) tt

-- ---- a client at work

some_aim : (t : Option Task) → is_some t ≡ is_some (aim_of t)
some_aim None = refl
some_aim (Some task) = refl

-- a client that keeps its calls, and what its work is for, stays at work
pub stays_at_work : (c d : SeenClient) → SameCalls c d → IsAtWork c → IsAtWork d
stays_at_work c d same works = record {
  keeps = subst (λ (k : List Numbered). 0 < length k) (sym same.kept) works.keeps;
  works = some_aim d.task ∙ ap (λ (a : Option Aim). is_some a) same.aim ∙ sym (some_aim c.task) ∙ works.works;
}

pub without_work : (c : SeenClient) → c.task ≡ None → IsAtWork c → ⊥
without_work c none works = off (sym (ap (λ (t : Option Task). is_some t) none) ∙ works.works) where
  off : false ≡ true → ⊥
  off e = cc e

pub without_calls : (c : SeenClient) → c.kept ≡ [] → IsAtWork c → ⊥
without_calls c none works = let more = works.keeps in let long = ap (λ (k : List Numbered). length k) none in absurd (omega (arith, more, long))

step_not_idle : (st : Step) → kind_of_step st ≡ kind.Idle → ⊥
step_not_idle step.Lookup e = cc e
step_not_idle (step.Fetch basis at ptr plan) e = cc e
step_not_idle (step.Store basis formed) e = cc e
step_not_idle (step.Mark server generation) e = cc e
step_not_idle (step.Commit basis sealed) e = cc e

pub not_idle : (c : SeenClient) → IsAtWork c → kind_of c ≢ kind.Idle
not_idle c works = by c.task works.works where
  off : false ≡ true → ⊥
  off e = cc e

  by : (t : Option Task) → is_some t ≡ true → kind_of_task t c.queue ≡ kind.Idle → ⊥
  by None is e = absurd (off is)
  by (Some task) is e = step_not_idle task.step e

-- ---- another holder

-- a client doesn't block itself
pub own_free : (h : ℕ) (o : Option ℕ) → o ≡ Some h → other_holder h o ≡ None
own_free h o e = ap (other_holder h) e ∙ ap (λ (b : Bool). if b then None else Some h) (eq-eqb h h refl)

-- the other client that holds is another, and holds
pub other_is : (own : ℕ) (o : Option ℕ) (h : ℕ) → other_holder own o ≡ Some h → (o ≡ Some h) × (h ≢ own)
other_is own None h e = absurd (none-some h e)
other_is own (Some holder) h e = by (holder == own) refl e where
  by : (b : Bool) → (holder == own) ≡ b → (if b then None else Some holder) ≡ Some h → (Some holder ≡ Some h) × (h ≢ own)
  by true same e = absurd (none-some h e)
  by false other e = (e, λ z. off (sym other ∙ eq-eqb holder own (same_Some holder h e ∙ z))) where
    off : false ≡ true → ⊥
    off x = cc x

-- ---- one client is another

set_here : (c d : SeenClient) (cs : List SeenClient) (k : ℕ) → slice_get cs k ≡ Some c → slice_get (slice_set cs k d) k ≡ Some d
set_here c d [] k e = absurd (none-some c e)
set_here c d (x ∷ cs) zero e = refl
set_here c d (x ∷ cs) (suc k) e = set_here c d cs k e

module _ (old new : SeenNodes) (i : ℕ) (c d : SeenClient) (is : IsClient old i c) (clients_are : new.clients ≡ slice_set old.clients i d) where
  here : IsClient new i d
  here = ap (λ (cs : List SeenClient). slice_get cs i) clients_are ∙ set_here c d old.clients i is

  -- one that stays at work, and holds
  pub works_here : IsAtWork d → (h : ℕ) → h ≡ i + 1 → ClientWorks new h
  works_here works h number = record { place = i; numbered = number; client = d; is = here; works = works }

  -- whoever held is at work still
  pub works_still : (IsAtWork c → IsAtWork d) → (h : ℕ) → ClientWorks old h → ClientWorks new h
  works_still still h works = by (cases_eq works.place i) where
    same : works.place ≡ i → works.client ≡ c
    same e = same_Some works.client c (sym works.is ∙ ap (slice_get old.clients) e ∙ is)

    by : (works.place ≡ i) ⊎ (works.place ≢ i) → ClientWorks new h
    by (inl e) = works_here (still (subst IsAtWork (same e) works.works)) h (works.numbered ∙ ap (λ (n : ℕ). n + 1) e)
    by (inr ne) = record {
      place = works.place;
      numbered = works.numbered;
      client = works.client;
      is = ap (λ (cs : List SeenClient). slice_get cs works.place) clients_are ∙ elsewhere old.clients i d old.clients i works.place ne ∙ works.is;
      works = works.works;
    }

  -- and one that isn't this client, whatever became of it
  pub works_elsewhere : (h : ℕ) → h ≢ i + 1 → ClientWorks old h → ClientWorks new h
  works_elsewhere h ne works = record {
    place = works.place;
    numbered = works.numbered;
    client = works.client;
    is = ap (λ (cs : List SeenClient). slice_get cs works.place) clients_are ∙ elsewhere old.clients i d old.clients i works.place (λ e. ne (works.numbered ∙ ap (λ (n : ℕ). n + 1) e)) ∙ works.is;
    works = works.works;
  }

  -- the same one holds
  pub holds_still : new.manager.holder ≡ old.manager.holder → (IsAtWork c → IsAtWork d) → HolderWorks old → HolderWorks new
  holds_still same still works = holder_all new (λ h e. works_still still h (holder_of old works h (sym same ∙ e)))
