-- What the work at hand rests on is at the versions of the tables, as long as nobody else commits.
use Rattle.std.proofs.Common.{◌≡◌, ℕ, true, false, Bool, List, [], ◌∷◌, length, drop, Option, Some, None, refl, sym, ap, ◌∙◌, subst, inl, inr}
use Rattle.std.specs.Prelude.{◌⊎◌, if◌then◌else◌, nat_lt}
use Rattle.std.specs.Bool.{MatchBool}
use Rattle.zb_types.specs.declared.ids.Ptr.{Ptr}
use Rattle.zb_types.specs.declared.lines.Said.{Said}
use Rattle.zb_types.specs.declared.lines.Said.TheVariants as said
use Rattle.zb_types.specs.declared.nodes.Cause.{Cause}
use Rattle.zb_types.specs.declared.nodes.Cause.TheVariants.{Unreachable}
use Rattle.zb_types.specs.declared.requests.Response.TheVariants as told
use Rattle.zb_stripe.specs.declared.read_plan.Got.{Got}
use Rattle.zb_stripe.specs.declared.read_plan.Got.TheVariants as got
use Rattle.zb_stripe.specs.declared.write_plan.Fed.{Fed}
use Rattle.zb_stripe.specs.declared.write_plan.Fed.TheVariants as fed
use Rattle.zb_stripe.specs.Reading.{Reading, start}
use Rattle.zb_tables.specs.Tables.{Tables}
use Rattle.zb_basis.specs.declared.asks.Ask.{Ask}
use Rattle.zb_basis.specs.declared.basis.Basis.{Basis}
use Rattle.zb_basis.specs.declared.basis.Formed.{Formed}
use Rattle.zb_basis.specs.declared.basis.Sealed.{Sealed}
use Rattle.zb_basis.specs.declared.calls.Numbered.{Numbered}
use Rattle.zb_basis.specs.Forming.{readers_out}
use Rattle.zb_work.specs.declared.work.Aim.{Aim}
use Rattle.zb_work.specs.declared.work.Aim.TheVariants.{Finish, Read, Update}
use Rattle.zb_work.specs.declared.work.Step.{Step}
use Rattle.zb_work.specs.declared.work.Step.TheVariants.{Commit, Fetch, Lookup, Store}
use Rattle.zb_work.specs.declared.work.Task.{Task}
use Rattle.zb_work.specs.Steps.{aim_of, first_members, next_task, step_of, with_step}
use Rattle.zb_client.specs.declared.steps.Lookup.TheVariants.{Files, Names}
use Rattle.zb_client.specs.declared.steps.Lookup.{Lookup as Wanted}
use Rattle.zb_client.specs.Hearing.{GoesOn, GoesOnAt, HasAll, HearsGot, RepliesFirst, caches, goes_on_storing, is_whole, left, notes, with_block}
use Rattle.zb_client.specs.Seen.{SeenClient, at_step, leaves}
use Rattle.zb_client.specs.Telling.{Heard, answers_first, gives_up, gives_up_aim, gives_up_for, looks_anew, silent}
use Rattle.zb_client.specs.Wishing.{lookup_of}
use Rattle.zb_client_laws.specs.Effects.{founds}
use Rattle.zb_progress.specs.Fresh.{is_fresh, is_fresh_at, same_numbers, versions_of}
use Rattle.zb_progress.proofs.Ongoing.{fetch-now, found-now}
use Rattle.zb_progress.proofs.Versions.{same-numbers}

pub at_lookup : (t : Tables) (b : ℕ) (kept : List Numbered) → is_fresh_at t b kept Lookup ≡ true
at_lookup t b [] = refl
at_lookup t b (first ∷ others) = refl

store_as : (t : Tables) (b : ℕ) (kept : List Numbered) (basis : Basis) (formed : Formed) → is_fresh_at t b kept (Store basis formed) ≡ found-now t b kept basis.found
store_as t b [] basis formed = refl
store_as t b (first ∷ others) basis formed = refl

commit_as : (t : Tables) (b : ℕ) (kept : List Numbered) (basis : Basis) (sealed : Sealed) → is_fresh_at t b kept (Commit basis sealed) ≡ found-now t b kept basis.found
commit_as t b [] basis sealed = refl
commit_as t b (first ∷ others) basis sealed = refl

-- what was found now is fresh
found_fresh : (t : Tables) (c : SeenClient) (tries : ℕ) (kept : List Numbered) (hold : Bool) (asks : List Ask) → lookup_of c tries kept ≡ Files hold asks → found-now t c.block kept (founds t asks) ≡ true
found_fresh t c tries [] hold asks e = refl
found_fresh t c tries (first ∷ others) hold asks e =
    ap (λ (them : List Ask). same_numbers (versions_of (founds t asks)) (versions_of (founds t them))) (sym (asks_are (lookup_of c tries (first ∷ others)) e)) ∙ same-numbers (versions_of (founds t asks)) where
      asks_in : Wanted → List Ask
      asks_in (Files h them) = them
      asks_in (Names call) = []

      asks_are : (l : Wanted) → l ≡ Files hold asks → asks ≡ asks_in l
      asks_are l same = sym (ap asks_in same)

module _ (t : Tables) where
  -- a client at a lookup is fresh
  pub lookup_fresh : (c : SeenClient) → step_of c.task ≡ Lookup → is_fresh t c ≡ true
  lookup_fresh c e = ap (is_fresh_at t c.block c.kept) e ∙ at_lookup t c.block c.kept

  at_new : (c : SeenClient) (st : Step) → is_fresh_at t c.block c.kept st ≡ true → (task : Option Task) → is_fresh_at t c.block c.kept (step_of (with_step st task)) ≡ true
  at_new c st now None = at_lookup t c.block c.kept
  at_new c st now (Some task) = now

  step_fresh : (c : SeenClient) (st : Step) → is_fresh_at t c.block c.kept st ≡ true → is_fresh t (silent (at_step c st)).client ≡ true
  step_fresh c st now = at_new c st now c.task

  pub answers_fresh : (c : SeenClient) (queue : List Numbered) (what : Said) → is_fresh t (answers_first c queue what).client ≡ true
  answers_fresh c [] what = at_lookup t c.block c.kept
  answers_fresh c (read ∷ rest) what = at_lookup t c.block c.kept

  aim_fresh : (c : SeenClient) (aim : Aim) (cause : Cause) → is_fresh t (gives_up_aim c aim cause).client ≡ true
  aim_fresh c (Update number) cause = at_lookup t c.block c.kept
  aim_fresh c Read cause = answers_fresh c c.queue (said.Failed cause)
  aim_fresh c Finish cause = at_lookup t c.block _

  up_fresh : (c : SeenClient) (task : Option Task) (cause : Cause) → c.task ≡ task → is_fresh t (gives_up_for c task cause).client ≡ true
  up_fresh c None cause e = lookup_fresh c (ap step_of e)
  up_fresh c (Some task) cause e = aim_fresh c task.aim cause

  -- ---- the work goes on
  module _ (c : SeenClient) (basis : Basis) (now : found-now t c.block c.kept basis.found ≡ true) where
    replied : (queue : List Numbered) (heard : Heard) → RepliesFirst c basis queue heard → is_fresh t heard.client ≡ true
    replied [] heard h = absurd h
    replied (read ∷ rest) heard h = subst (λ (x : Heard). is_fresh t x.client ≡ true) (sym h.is) (answers_fresh c c.queue (said.Reply h.reply))

    has_all : (kept : List Numbered) (heard : Heard) → HasAll c basis kept heard → is_fresh t heard.client ≡ true
    has_all [] heard h = replied c.queue heard h
    has_all (first ∷ others) heard h =
        subst (λ (x : Heard). is_fresh t x.client ≡ true) (sym h.is)
        (at_new c (Store basis h.formed) (store_as t c.block c.kept basis h.formed ∙ now) c.task)

    goes_at : (missing : Option (ℕ × Ptr)) (heard : Heard) → GoesOnAt c basis missing heard → is_fresh t heard.client ≡ true
    goes_at None heard h = has_all c.kept heard h
    goes_at (Some (at, ptr)) heard h =
        subst (λ (x : Heard). is_fresh t x.client ≡ true) (sym h)
        (step_fresh c _ (fetch-now t c.block c.kept basis at ptr (start c.servers c.fragment ptr (readers_out (first_members basis.found).state)) ∙ now))

    pub goes_fresh : (heard : Heard) → GoesOn c basis heard → is_fresh t heard.client ≡ true
    goes_fresh heard h = goes_at _ heard h

  pub found_goes_fresh : (c : SeenClient) (basis : Basis) (tries : ℕ) (hold : Bool) (asks : List Ask) → lookup_of c tries c.kept ≡ Files hold asks → basis.found ≡ founds t asks
      → (d : SeenClient) → d.block ≡ c.block → d.kept ≡ c.kept → (heard : Heard) → GoesOn d basis heard → is_fresh t heard.client ≡ true
  found_goes_fresh c basis tries hold asks e found d block kept heard h =
      goes_fresh d basis
      (ap (λ (b : ℕ). found-now t b d.kept basis.found) block ∙ ap (λ (k : List Numbered). found-now t c.block k basis.found) kept
      ∙ ap (found-now t c.block c.kept) found ∙ found_fresh t c tries c.kept hold asks e) heard h

  -- ---- a block is read
  anew : (c : SeenClient) (heard : Heard) → heard ≡ looks_anew c → is_fresh t heard.client ≡ true
  anew c heard e = subst (λ (x : Heard). is_fresh t x.client ≡ true) (sym e) (step_fresh c Lookup (at_lookup t c.block c.kept))

  unreached : (c : SeenClient) (again : Bool) (cause : Cause) → is_fresh t (if again then looks_anew c else gives_up c cause).client ≡ true
  unreached c true cause = step_fresh c Lookup (at_lookup t c.block c.kept)
  unreached c false cause = up_fresh c c.task cause refl

  whole_or : (c : SeenClient) (basis : Basis) → found-now t c.block c.kept basis.found ≡ true → (at : ℕ) (ptr : Ptr) (bytes : List ℕ) (whole : Bool) (heard : Heard)
      → MatchBool whole (GoesOn (caches c ptr bytes) (with_block basis at ptr bytes) heard) (heard ≡ looks_anew c) → is_fresh t heard.client ≡ true
  whole_or c basis now at ptr bytes true heard h = goes_fresh (caches c ptr bytes) (with_block basis at ptr bytes) now heard h
  whole_or c basis now at ptr bytes false heard h = anew c heard h

  pub got_fresh : (c : SeenClient) (basis : Basis) → found-now t c.block c.kept basis.found ≡ true → (at : ℕ) (ptr : Ptr) (plan : Reading) (serving : ℕ) (came : Got) (heard : Heard)
      → HearsGot c basis at ptr plan serving came heard → is_fresh t heard.client ≡ true
  got_fresh c basis now at ptr plan serving got.More heard h =
      subst (λ (x : Heard). is_fresh t x.client ≡ true) (sym h) (step_fresh c (Fetch basis at ptr plan) (fetch-now t c.block c.kept basis at ptr plan ∙ now))
  got_fresh c basis now at ptr plan serving (got.Bytes bytes) heard h = whole_or c basis now at ptr bytes (is_whole ptr bytes) heard h
  got_fresh c basis now at ptr plan serving (got.Unreachable a b) heard h = subst (λ (x : Heard). is_fresh t x.client ≡ true) (sym h) (unreached c _ (Unreachable a b))
  got_fresh c basis now at ptr plan serving got.Gone heard h = anew c heard h
  got_fresh c basis now at ptr plan serving (got.Old now_is) heard h = anew c heard h

  -- ---- a request is carried out
  pub batch_fresh : (c : SeenClient) (basis : Basis) (formed : Formed) → is_fresh_at t c.block c.kept (Store basis formed) ≡ true → (came : Fed) → came ≡ fed.More ⊎ came ≡ fed.Done
      → is_fresh t (goes_on_storing (notes c formed came) basis formed told.Done came).client ≡ true
  batch_fresh c basis formed now came (inl more) =
      subst (λ (x : Fed). is_fresh t (goes_on_storing (notes c formed x) basis formed told.Done x).client ≡ true) (sym more)
      (at_new c (Store basis (left formed told.Done)) (store_as t c.block c.kept basis (left formed told.Done) ∙ sym (store_as t c.block c.kept basis formed) ∙ now) c.task)
  batch_fresh c basis formed now came (inr done) =
      subst (λ (x : Fed). is_fresh t (goes_on_storing (notes c formed x) basis formed told.Done x).client ≡ true) (sym done)
      (at_new c (Commit basis formed.sealed) (commit_as t c.block c.kept basis formed.sealed ∙ sym (store_as t c.block c.kept basis formed) ∙ now) c.task)

  -- ---- a batch is committed
  pub leaves_fresh : (c : SeenClient) (n : ℕ) → is_fresh t (record (leaves c n) { is_ready = false }) ≡ true
  leaves_fresh c n = lookup_fresh (record (leaves c n) { is_ready = false }) (by (aim_of c.task) (nat_lt 0 (length (drop n c.kept)))) where
    by : (aim : Option Aim) (some : Bool) → step_of (next_task aim some) ≡ Lookup
    by None true = refl
    by None false = refl
    by (Some (Update number)) true = refl
    by (Some (Update number)) false = refl
    by (Some Read) true = refl
    by (Some Read) false = refl
    by (Some Finish) true = refl
    by (Some Finish) false = refl
