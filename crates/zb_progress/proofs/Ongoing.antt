-- How the next batch or the read goes on with what is there, with fewer steps.
use Rattle.std.proofs.Common.{◌≡◌, ℕ, ◌+◌, ◌-◌, ◌*◌, ◌<◌, Bool, true, List, [], ◌∷◌, length, Option, Some, None, refl, sym, ap, ◌∙◌, subst, arith}
use Rattle.zb_types.specs.declared.ids.Ptr.{Ptr}
use Rattle.zb_types.specs.declared.lines.Said.{Said}
use Rattle.zb_types.specs.declared.lines.Said.TheVariants as said
use Rattle.zb_types.specs.declared.tables.Found.{Found}
use Rattle.zb_types.specs.Tree.{Tree}
use Rattle.zb_cache.specs.Entries.{SeenCache}
use Rattle.zb_stripe.specs.Reading.{Reading, start}
use Rattle.zb_log.specs.Logs.{SeenLog}
use Rattle.zb_tables.specs.Tables.{Tables}
use Rattle.zb_tables.specs.Taking.{Sizes, stripe_room}
use Rattle.zb_basis.specs.declared.basis.Basis.{Basis}
use Rattle.zb_basis.specs.declared.basis.Formed.{Formed}
use Rattle.zb_basis.specs.declared.calls.Numbered.{Numbered}
use Rattle.zb_basis.specs.Forming.{log_from, readers_out}
use Rattle.zb_basis.specs.Looking.{asks_of}
use Rattle.zb_basis.specs.Runs.{run_of}
use Rattle.zb_work.specs.Blocks.{next_missing}
use Rattle.zb_work.specs.declared.work.Step.TheVariants as step
use Rattle.zb_work.specs.declared.work.Task.{Task}
use Rattle.zb_work.specs.Steps.{first_members, step_of}
use Rattle.zb_client.specs.Seen.{SeenClient, at_step}
use Rattle.zb_client.specs.Hearing.{GoesOn, GoesOnAt, HasAll, RepliesFirst, behind, log_for}
use Rattle.zb_client.specs.Telling.{Heard, answers_first, silent}
use Rattle.zb_client_laws.specs.Around.{Around, IsAround}
use Rattle.zb_client_laws.specs.Known.{HasSizes, IsKnown}
use Rattle.zb_client_laws.specs.Sound.{ClientIsSound}
use Rattle.zb_progress.specs.Fresh.{is_fresh, is_fresh_at, is_now}
use Rattle.zb_progress.specs.Left.{missing_bytes, most_requests, stage, stale_steps, steps_left}
use Rattle.zb_progress.proofs.Falling.{at-new, rank-falls, step-falls}
use Rattle.zb_progress.proofs.Requests.{requests-few}

-- is what was found for the next batch at the versions of the tables?
abbrev pub found-now : Tables → ℕ → List Numbered → List Found → Bool
found-now t b [] found = true
found-now t b (first ∷ others) found = is_now t (asks_of b (run_of (first ∷ others))) (Some found)

pub fetch-now : (t : Tables) (b : ℕ) (kept : List Numbered) (basis : Basis) (at : ℕ) (ptr : Ptr) (plan : Reading) → is_fresh_at t b kept (step.Fetch basis at ptr plan) ≡ found-now t b kept basis.found
fetch-now t b [] basis at ptr plan = refl
fetch-now t b (first ∷ others) basis at ptr plan = refl

store-now : (t : Tables) (b : ℕ) (kept : List Numbered) (basis : Basis) (formed : Formed) → is_fresh_at t b kept (step.Store basis formed) ≡ found-now t b kept basis.found
store-now t b [] basis formed = refl
store-now t b (first ∷ others) basis formed = refl

-- the first queued call is answered
pub answer-falls : (z : Sizes) (t : Tables) (c : SeenClient) (cache : SeenCache) (task : Task) → c.task ≡ Some task → (call : Numbered) (rest : List Numbered) → c.queue ≡ call ∷ rest → (what : Said)
    → steps_left z t (answers_first (record c { cache = cache }) (call ∷ rest) what).client < steps_left z t c
answer-falls z t c cache task is call rest queue what =
    let long = ap (λ (xs : List Numbered). length xs) queue in
    rank-falls z t t c (answers_first (record c { cache = cache }) (call ∷ rest) what).client (omega (arith, long)) refl

log_room : (log : SeenLog) (o : Option ℕ) → (log_from log o).room ≡ log.room
log_room log None = refl
log_room log (Some stripe) = refl

log_block : (log : SeenLog) (o : Option ℕ) → (log_from log o).block ≡ log.block
log_block log None = refl
log_block log (Some stripe) = refl

module _ (slots : ℕ) (w : Around) (a : IsAround slots w) (seen : Tree) (c : SeenClient) (known : IsKnown c) (sizes : HasSizes w.z c) (task : Task) (is_task : c.task ≡ Some task)
    (cache : SeenCache) (basis : Basis)
    (budget : missing_bytes basis.fetched + most_requests w.z + 3 + stale_steps w.z (found-now w.tables c.block c.kept basis.found) < stage w.z (step_of c.task) + stale_steps w.z (is_fresh w.tables c)) where
  abbrev C : SeenClient
  C = record c { cache = cache }

  abbrev Fewer : Heard → Type 0
  Fewer heard = steps_left w.z w.tables heard.client < steps_left w.z w.tables c

  room : c.log.room ≡ stripe_room w.z
  room = known.log.room ∙ ap (λ (n : ℕ). (n - 1) * c.fragment) sizes.servers ∙ ap (λ (f : ℕ). (w.z.servers - 1) * f) sizes.fragment

  block : c.log.block ≡ w.z.block
  block = known.log.block ∙ sizes.block

  -- ---- a batch is formed

  stores : (formed : Formed) → ClientIsSound w seen (silent (record (at_step C (step.Store basis formed)) { log = log_for C basis })).client
      → Fewer (silent (record (at_step C (step.Store basis formed)) { log = log_for C basis }))
  stores formed sound =
      let d = (silent (record (at_step C (step.Store basis formed)) { log = log_for C basis })).client in
      let from = behind c.flushed (first_members basis.found).generation in
      let few = requests-few slots w a seen d sound basis formed (at-new (step.Store basis formed) task c.task is_task) (log_room c.log from ∙ room) (log_block c.log from ∙ block) in
      let now = ap (stale_steps w.z) (store-now w.tables c.block c.kept basis formed) in
      step-falls w.z w.tables c d task (step.Store basis formed) is_task refl refl refl refl (omega (arith, few, now, budget))

  -- ---- a block is read

  fetches : (at : ℕ) (ptr : Ptr) → Fewer (silent (at_step C (step.Fetch basis at ptr (start c.servers c.fragment ptr (readers_out (first_members basis.found).state)))))
  fetches at ptr =
      let plan = start c.servers c.fragment ptr (readers_out (first_members basis.found).state) in
      let new = step.Fetch basis at ptr plan in
      let now = ap (stale_steps w.z) (fetch-now w.tables c.block c.kept basis at ptr plan) in
      step-falls w.z w.tables c (silent (at_step C new)).client task new is_task refl refl refl refl (omega (arith, now, budget))

  -- ---- however it goes on

  replied : (queue : List Numbered) (heard : Heard) → c.queue ≡ queue → RepliesFirst C basis queue heard → Fewer heard
  replied [] heard e r = absurd r
  replied (call ∷ rest) heard e r =
      subst Fewer (sym (r.is ∙ ap (λ (q : List Numbered). answers_first C q (said.Reply r.reply)) e)) (answer-falls w.z w.tables c cache task is_task call rest e (said.Reply r.reply))

  all_had : (kept : List Numbered) (heard : Heard) → HasAll C basis kept heard → ClientIsSound w seen heard.client → Fewer heard
  all_had [] heard all sound = replied c.queue heard refl all
  all_had (first ∷ others) heard all sound = subst Fewer (sym all.is) (stores all.formed (subst (λ (h : Heard). ClientIsSound w seen h.client) all.is sound))

  goes_at : (missing : Option (ℕ × Ptr)) (heard : Heard) → GoesOnAt C basis missing heard → ClientIsSound w seen heard.client → Fewer heard
  goes_at None heard on sound = all_had c.kept heard on sound
  goes_at (Some (at, ptr)) heard on sound = subst Fewer (sym on) (fetches at ptr)

  pub goes-falls : (heard : Heard) → GoesOn C basis heard → ClientIsSound w seen heard.client → Fewer heard
  goes-falls heard on sound = goes_at (next_missing basis.fetched) heard on sound
