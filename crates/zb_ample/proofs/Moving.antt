-- What a step leaves of a client's log.
use Rattle.std.proofs.Common.{◌≡◌, ℕ, ◌+◌, ◌<◌, ◌≤◌, true, false, ◌++◌, length, drop, Option, Some, None, refl, sym, ap, ◌∙◌, subst, arith, inl, inr}
use Rattle.std.specs.Prelude.{◌⊎◌, IfSome, All}
use Rattle.zb_types.specs.declared.geometry.Geometry.{Geometry}
use Rattle.zb_types.specs.declared.requests.Response.TheVariants as told
use Rattle.zb_types.specs.Apply.{is_update}
use Rattle.zb_types.specs.Tree.{Tree}
use Rattle.zb_stripe.specs.declared.write_plan.Fed.{Fed}
use Rattle.zb_stripe.specs.declared.write_plan.Fed.TheVariants as fed
use Rattle.zb_log.specs.declared.places.Place.{Place}
use Rattle.zb_log.specs.Logs.{SeenLog}
use Rattle.zb_log.proofs.Order.{order_rises}
use Rattle.zb_given.specs.Given.{Given, calls_of}
use Rattle.zb_need.specs.Filling.{HalfFull, stripes_begun}
use Rattle.zb_basis.specs.declared.basis.Basis.{Basis}
use Rattle.zb_basis.specs.declared.basis.Formed.{Formed}
use Rattle.zb_basis.specs.declared.basis.Sealed.{Sealed}
use Rattle.zb_basis.specs.Runs.{run_of}
use Rattle.zb_work.specs.declared.work.Flushed.{Flushed}
use Rattle.zb_work.specs.declared.work.Step.{Step}
use Rattle.zb_work.specs.declared.work.Step.TheVariants.{Commit, Fetch, Lookup, Mark, Store}
use Rattle.zb_work.specs.declared.work.Task.{Task}
use Rattle.zb_work.specs.Steps.{step_of, with_step}
use Rattle.zb_client.specs.Hearing.{goes_on_storing, left, notes}
use Rattle.zb_client.specs.Seen.{SeenClient, leaves}
use Rattle.zb_client.specs.Telling.{Heard}
use Rattle.zb_client_laws.specs.Around.{Around}
use Rattle.zb_client_laws.specs.Sound.{ClientIsSound}
use Rattle.zb_ample.specs.Reaching.{IsPaid, LogGoesOn, ahead, ahead_at, behind_run, loads, numbered_loads, reached, reached_at}
use Rattle.zb_ample.proofs.Paying.{stays_paid}
use Rattle.zb_ample.proofs.Placed.{begun_more}
use Rattle.zb_ample.proofs.Resting.{Rests, is_resting, leaving_rests, resting_ahead, resting_ended, resting_goes, resting_reached}
use Rattle.zb_ample.proofs.Storing.{D, Is, place_is, stored_paid}

-- the client's log is the same, has come as far or further, goes on where it is, and is paid
pub record Moves (geo : Geometry) (given : Given) (generation : ℕ) (c d : SeenClient) : Type 0 where
  pub log_id : d.log.log ≡ c.log.log
  pub room : d.log.room ≡ c.log.room
  pub client : d.client ≡ c.client
  pub begun : stripes_begun (reached c) ≤ stripes_begun (reached d)
  pub goes_on : LogGoesOn generation d.flushed (step_of d.task)
  pub paid : IsPaid geo given d

module _ (geo : Geometry) (given : Given) (generation : ℕ) (c : SeenClient) (goes : LogGoesOn generation c.flushed (step_of c.task)) (paid : IsPaid geo given c) where
  -- a client whose log rests, and whose step leaves it so
  module _ (rests : is_resting (step_of c.task) ≡ true) where
    pub rests_moves : (d : SeenClient) → Rests geo c d → Moves geo given generation c d
    rests_moves d r =
        let place : reached d ≡ reached c = resting_reached d.log (step_of d.task) r.step ∙ ap (λ (l : SeenLog). l.next) r.log ∙ sym (resting_reached c.log (step_of c.task) rests) in
        let now : ahead d ≡ d.kept ++ d.queue = resting_ahead d.kept d.queue (step_of d.task) r.step in
        let then : ahead c ≡ c.kept ++ c.queue = resting_ahead c.kept c.queue (step_of c.task) rests in
        record {
          log_id = ap (λ (l : SeenLog). l.log) r.log;
          room = ap (λ (l : SeenLog). l.room) r.log;
          client = r.client;
          begun = let same = ap stripes_begun place in omega (arith, same);
          goes_on = resting_goes generation d.flushed (step_of d.task)
              (subst (λ (f : Option Flushed). IfSome f (λ last. (last.ended ≡ true) × (last.generation ≡ generation))) (sym r.flushed) (resting_ended generation c.flushed (step_of c.task) rests goes));
          paid = stays_paid geo given c d (ap (λ (l : SeenLog). l.room) r.log) place r.client
              (let less = r.less in let a = ap (numbered_loads geo) now in let b = ap (numbered_loads geo) then in omega (arith, less, a, b)) paid;
        }

    -- the next batch is formed, and goes next in the log as it is
    module _ (w : Around) (seen : Tree) (d : SeenClient) (s : ClientIsSound w seen d) (basis : Basis) (formed : Formed) (e : step_of d.task ≡ Store basis formed)
        (log : d.log ≡ c.log) (client : d.client ≡ c.client) (kept : d.kept ≡ c.kept) (queue : d.queue ≡ c.queue)
        (size : geo.block ≡ d.block) (some : 0 < d.block) (own : d.log.block ≡ d.block) (room : 0 < d.log.room) (fits : d.log.block ≤ d.log.room)
        (updates : All (λ k. is_update k.call ≡ true) d.kept) where
      here : reached c ≡ d.log.next
      here = resting_reached c.log (step_of c.task) rests ∙ ap (λ (l : SeenLog). l.next) (sym log)

      same_room : c.log.room ≡ d.log.room
      same_room = ap (λ (l : SeenLog). l.room) (sym log)

      half : HalfFull d.log.room d.log.next paid.bytes
      half = subst (λ (n : ℕ). HalfFull n d.log.next paid.bytes) same_room (subst (λ (at : Place). HalfFull c.log.room at paid.bytes) here paid.half)

      low : d.log.next.offset ≤ d.log.room
      low = subst (λ (n : ℕ). d.log.next.offset ≤ n) same_room (subst (λ (at : Place). at.offset ≤ c.log.room) here paid.within)

      all : paid.bytes + numbered_loads geo (d.kept ++ d.queue) ≤ loads geo (calls_of given d.client)
      all =
          let then : ahead c ≡ c.kept ++ c.queue = resting_ahead c.kept c.queue (step_of c.task) rests in
          let calls : d.kept ++ d.queue ≡ c.kept ++ c.queue = λ i. kept i ++ queue i in
          let a = ap (numbered_loads geo) then in
          let b = ap (numbered_loads geo) calls in
          let g = ap (λ (n : ℕ). loads geo (calls_of given n)) client in
          let was = paid.paid in
          omega (arith, a, b, g, was)

      pub forms_moves : Moves geo given generation c d
      forms_moves = record {
        log_id = ap (λ (l : SeenLog). l.log) log;
        room = ap (λ (l : SeenLog). l.room) log;
        client = client;
        begun =
            subst (λ (at : Place). stripes_begun (reached c) ≤ stripes_begun at) (sym (ap (reached_at d.log) e ∙ place_is w seen d s basis formed e))
            (subst (λ (at : Place). stripes_begun at ≤ stripes_begun (D w seen d s basis formed e).was.whole.sealed.placed.next) (sym here)
            (begun_more d.log.next (D w seen d s basis formed e).was.whole.sealed.placed.next
            (order_rises d.log.room (D w seen d s basis formed e).was.whole.sealed.placed.pieces d.log.next (D w seen d s basis formed e).was.whole.sealed.placed.next (Is w seen d s basis formed e).laid.order)));
        goes_on = subst (LogGoesOn generation d.flushed) (sym e) tt;
        paid = stored_paid w seen d s basis formed e geo given paid.bytes size some own room fits updates half low all;
      }

  -- ---- a request of a batch is carried out
  module _ (basis : Basis) (formed : Formed) (e : step_of c.task ≡ Store basis formed) (same_generation : formed.sealed.members.generation ≡ generation) where
    there : reached c ≡ formed.sealed.placed.next
    there = ap (reached_at c.log) e

    behind : ahead c ≡ behind_run c.kept ++ c.queue
    behind = ap (ahead_at c.kept c.queue) e

    -- a step of the same batch, or its commit
    batch_moves : (d : SeenClient) → d.log.log ≡ c.log.log → d.log.room ≡ c.log.room → d.client ≡ c.client → reached d ≡ formed.sealed.placed.next → ahead d ≡ behind_run c.kept ++ c.queue
        → LogGoesOn generation d.flushed (step_of d.task) → Moves geo given generation c d
    batch_moves d log room client at calls goes = record {
      log_id = log;
      room = room;
      client = client;
      begun = let same = ap stripes_begun (at ∙ sym there) in omega (arith, same);
      goes_on = goes;
      paid = stays_paid geo given c d room (at ∙ sym there) client (let same = ap (numbered_loads geo) (calls ∙ sym behind) in omega (arith, same)) paid;
    }

    -- the task stands
    new_step : (st : Step) → step_of (with_step st c.task) ≡ st
    new_step st = by c.task e where
      by : (task : Option Task) → step_of task ≡ Store basis formed → step_of (with_step st task) ≡ st
      by None none = absurd (no_store none) where
        is_lookup : Step → Type 0
        is_lookup Lookup = Unit {0}
        is_lookup (Fetch b at ptr plan) = ⊥
        is_lookup (Store b f) = ⊥
        is_lookup (Mark server of) = ⊥
        is_lookup (Commit b sealed) = ⊥

        no_store : Lookup ≡ Store basis formed → ⊥
        no_store n = subst is_lookup n tt
      by (Some task) some = refl

    abbrev Heard_of : Fed → Heard
    Heard_of came = goes_on_storing (notes c formed came) basis formed told.Done came

    pub more_moves : (came : Fed) → came ≡ fed.More ⊎ came ≡ fed.Done → Moves geo given generation c (Heard_of came).client
    more_moves came (inl more) = subst (λ (x : Fed). Moves geo given generation c (Heard_of x).client) (sym more) on where
      d : SeenClient
      d = (goes_on_storing (notes c formed fed.More) basis formed told.Done fed.More).client

      st : step_of (with_step (Store basis (left formed told.Done)) c.task) ≡ Store basis (left formed told.Done)
      st = new_step (Store basis (left formed told.Done))

      on : Moves geo given generation c (Heard_of fed.More).client
      on =
          batch_moves (Heard_of fed.More).client refl refl refl (ap (reached_at (Heard_of fed.More).client.log) st) (ap (ahead_at c.kept c.queue) st)
          (subst (LogGoesOn generation (Heard_of fed.More).client.flushed) (sym st) tt)
    more_moves came (inr done) = subst (λ (x : Fed). Moves geo given generation c (Heard_of x).client) (sym done) on where
      st : step_of (with_step (Commit basis formed.sealed) c.task) ≡ Commit basis formed.sealed
      st = new_step (Commit basis formed.sealed)

      on : Moves geo given generation c (Heard_of fed.Done).client
      on =
          batch_moves (Heard_of fed.Done).client refl refl refl (ap (reached_at (Heard_of fed.Done).client.log) st) (ap (ahead_at c.kept c.queue) st)
          (subst (LogGoesOn generation (Heard_of fed.Done).client.flushed) (sym st) (refl, same_generation))

  -- ---- a batch is committed
  module _ (basis : Basis) (sealed : Sealed) (e : step_of c.task ≡ Commit basis sealed) (n : ℕ) (count : n ≡ length (run_of c.kept)) where
    pub leaves_moves : Moves geo given generation c (record (leaves c n) { is_ready = false })
    leaves_moves =
        let d : SeenClient = record (leaves c n) { is_ready = false } in
        let st : is_resting (step_of d.task) ≡ true = leaving_rests geo c n in
        let place : reached d ≡ reached c = resting_reached d.log (step_of d.task) st ∙ sym (ap (reached_at c.log) e) in
        let calls : ahead d ≡ ahead c = resting_ahead d.kept d.queue (step_of d.task) st ∙ ap (λ (m : ℕ). drop m c.kept ++ c.queue) count ∙ sym (ap (ahead_at c.kept c.queue) e) in
        record {
          log_id = refl;
          room = refl;
          client = refl;
          begun = let same = ap stripes_begun place in omega (arith, same);
          goes_on = resting_goes generation d.flushed (step_of d.task) (subst (LogGoesOn generation c.flushed) e goes);
          paid = stays_paid geo given c d refl place refl (let same = ap (numbered_loads geo) calls in omega (arith, same)) paid;
        }
