-- How a pass goes on with the blocks that have come, and what is true of it then.
use Rattle.std.proofs.Common.{◌≡◌, ℕ, ◌≤◌, Bool, true, false, List, [], ◌∷◌, ◌++◌, length, Option, Some, None, refl, ap, sym, subst, ◌∙◌}
use Rattle.std.specs.List.{AllByRecursion, concat}
use Rattle.zb_types.specs.declared.nodes.Members.{Members}
use Rattle.zb_stripe.specs.Reading.{Reading}
use Rattle.zb_log.specs.Logs.{SeenLog, renewed}
use Rattle.zb_delta.specs.declared.delta.Body.{Body}
use Rattle.zb_batch.specs.Spelling.{spelling_of_batch}
use Rattle.zb_basis.specs.declared.basis.Formed.{Formed}
use Rattle.zb_basis.specs.Forming.{log_from, readers_out, writers_out}
use Rattle.zb_basis.specs.Looking.{room_of}
use Rattle.zb_tables.specs.Finding.{is_into}
use Rattle.zb_steps.specs.Desks.{HasGiven}
use Rattle.zb_steps.specs.Going.{behind}
use Rattle.zb_log.proofs.Parting.{none_given}
use Rattle.zb_steps.proofs.Standing.{start_stands}
use Rattle.zb_pass.specs.declared.work.Ahead.{Ahead}
use Rattle.zb_pass.specs.declared.work.Ahead.TheVariants as ahead
use Rattle.zb_pass.specs.declared.work.Cleaning.{Cleaning}
use Rattle.zb_pass.specs.declared.work.Target.{Target}
use Rattle.zb_pass.specs.declared.work.Work.{Work}
use Rattle.zb_pass.specs.declared.work.Work.TheVariants.{Fetch}
use Rattle.zb_pass.specs.Ahead.{IsAhead, IsAheadAt, goes_on}
use Rattle.zb_pass.specs.Copying.{IsBlock, IsLive, next_body}
use Rattle.zb_pass.specs.Fitting.{Fits, IsCleaning, IsStoring, NextFits}
use Rattle.zb_pass.specs.Forming.{IsFormed}
use Rattle.zb_pass.specs.Going.{Onward, GoesOn, GoesOnAt, begins, works}
use Rattle.zb_pass.specs.Picking.{live_of}
use Rattle.zb_pass.specs.Seen.{SeenWriter, log_for}
use Rattle.zb_pass.proofs.Asked.{stored_asked}
use Rattle.zb_pass.proofs.Moved.{copied_all, copied_more, each_at}
use Rattle.std.specs.Bool.{MatchBool}
use Rattle.zb_types.specs.declared.ids.Ptr.{Ptr}
use Rattle.zb_steps.specs.Going.{is_whole}
use Rattle.zb_steps.proofs.Finding.{whole_long}
use Rattle.zb_pass.specs.declared.work.Copies.{Copies}
use Rattle.zb_pass.specs.declared.work.Work.TheVariants.{Lookup}
use Rattle.zb_pass.specs.Fitting.{IsFetching}
use Rattle.zb_pass.specs.Going.{BytesGive, with_block}

goes_at : (w : SeenWriter) (cleaning : Cleaning) (m : Option Body) (a : Ahead) (on : Onward) → IsAheadAt w cleaning m a → goes_on w cleaning a ≡ on → GoesOnAt w cleaning m on
goes_at w cleaning None (ahead.Store formed) on h e = record { formed = formed; is_formed = h; is = sym e }
goes_at w cleaning None (ahead.Fetch plan) on h e = absurd h
goes_at w cleaning (Some body) (ahead.Fetch plan) on h e = sym e ∙ ap (λ (z : Reading). works w (Fetch cleaning z)) h
goes_at w cleaning (Some body) (ahead.Store formed) on h e = absurd h

-- the pass goes on with what lies ahead
pub goes : (w : SeenWriter) (cleaning : Cleaning) (a : Ahead) (on : Onward) → IsAhead w cleaning a → goes_on w cleaning a ≡ on → GoesOn w cleaning on
goes w cleaning a on h e = goes_at w cleaning (next_body cleaning.copies) a on h e

from_given : (log : SeenLog) (last : Option ℕ) → 2 ≤ log.servers → HasGiven log → HasGiven (log_from log last)
from_given log None two h = h
from_given log (Some last) two h = record { given = []; are = none_given (renewed log last) two refl refl }

from_room : (log : SeenLog) (last : Option ℕ) → (log_from log last).room ≡ log.room
from_room log None = refl
from_room log (Some last) = refl

-- a batch that is formed may be stored
may_store : (w : SeenWriter) (cleaning : Cleaning) (formed : Formed) → 2 ≤ w.log.servers → w.log.room ≡ room_of w.servers w.fragment → HasGiven w.log
    → IsCleaning w.servers w.fragment w.block cleaning → next_body cleaning.copies ≡ None
    → IsFormed w.servers w.fragment (log_for w cleaning.members.generation) cleaning.target.number cleaning.members cleaning.copies formed
    → IsStoring w.servers w.fragment (log_for w cleaning.members.generation) cleaning formed
may_store w cleaning formed two room has is none f =
    let last = behind w.flushed cleaning.members.generation in
    let given = from_given w.log last two has in
    record {
      moves = f.moves;
      all = copied_all cleaning.copies.live cleaning.copies.blocks is.copied none;
      sealed = f.is_sealed;
      some = stored_asked w.servers w.fragment (log_for w cleaning.members.generation) formed cleaning.copies.blocks (writers_out cleaning.members.state) given.given (from_room w.log last ∙ room) (f.stored given.given given.are);
      about = λ given are. (f.stored given are).about;
      flush = λ given are. record {
        new = spelling_of_batch formed.sealed.batch ++ concat cleaning.copies.blocks;
        is_fresh = (f.stored given are).is_fresh;
        end = (f.stored given are).end;
      };
    }

fits_at : (w : SeenWriter) (cleaning : Cleaning) (m : Option Body) (on : Onward) → next_body cleaning.copies ≡ m → 2 ≤ w.log.servers → w.log.room ≡ room_of w.servers w.fragment → HasGiven w.log
    → IsCleaning w.servers w.fragment w.block cleaning → GoesOnAt w cleaning m on → NextFits on.writer on.next
fits_at w cleaning None on e two room has is h =
    subst (λ (o : Onward). NextFits o.writer o.next) (sym h.is) (is, may_store w cleaning h.formed two room has is e h.is_formed)
fits_at w cleaning (Some body) on e two room has is h =
    let live : IsLive (room_of w.servers w.fragment) w.block cleaning.target body = each_at _ cleaning.copies.live (length cleaning.copies.blocks) body is.live e in
    subst (λ (o : Onward). NextFits o.writer o.next) (sym h)
    (is, record { body = body; first = e; of_block = refl; stands = start_stands w.servers w.fragment body.now (readers_out cleaning.members.state) live.block.some })

-- what is true of the pass as it goes on
pub fits : (w : SeenWriter) (cleaning : Cleaning) (on : Onward) → 2 ≤ w.log.servers → w.log.room ≡ room_of w.servers w.fragment → HasGiven w.log
    → IsCleaning w.servers w.fragment w.block cleaning → GoesOn w cleaning on → NextFits on.writer on.next
fits w cleaning on two room has is h = fits_at w cleaning (next_body cleaning.copies) on refl two room has is h

-- what lies ahead of a pass fits
pub ahead_fits : (w new : SeenWriter) (cleaning : Cleaning) (a : Ahead) (work : Work) → 2 ≤ w.log.servers → w.log.room ≡ room_of w.servers w.fragment → HasGiven w.log
    → IsCleaning w.servers w.fragment w.block cleaning → IsAhead w cleaning a → goes_on w cleaning a ≡ works new work → Fits new.servers new.fragment new.block new.log work
ahead_fits w new cleaning a work two room has is h e = fits w cleaning (works new work) two room has is (goes w cleaning a (works new work) h e)

-- ---- a block that came

-- the pass with one more block
pub with_fits : (n f b : ℕ) (cleaning : Cleaning) (plan : Reading) (bytes : List ℕ) → IsCleaning n f b cleaning → IsFetching cleaning.copies plan → is_whole plan.ptr bytes ≡ true
    → IsCleaning n f b (with_block cleaning bytes)
with_fits n f b cleaning plan bytes is at whole = record {
  live = is.live;
  copied = copied_more cleaning.copies.live cleaning.copies.blocks at.body bytes is.copied at.first (whole_long plan.ptr bytes whole ∙ ap (λ (p : Ptr). p.len) at.of_block);
}

-- the bytes are all of the block that is read
pub whole_by : (copies : Copies) (plan : Reading) (bytes : List ℕ) (t : Bool) → IsFetching copies plan → ((body : Body) → next_body copies ≡ Some body → t ≡ is_whole body.now bytes) → t ≡ is_whole plan.ptr bytes
whole_by copies plan bytes t at is = is at.body at.first ∙ ap (λ (p : Ptr). is_whole p bytes) (sym at.of_block)

-- what a block that came makes of the pass
pub block_gives : (w : SeenWriter) (cleaning with : Cleaning) (plan : Reading) (bytes : List ℕ) (a : Ahead) (on : Onward) → is_whole plan.ptr bytes ≡ true → with ≡ with_block cleaning bytes
    → IsAhead w (with_block cleaning bytes) a → goes_on w with a ≡ on → BytesGive w cleaning plan bytes on
block_gives w cleaning with plan bytes a on whole e h told =
    let same : goes_on w (with_block cleaning bytes) a ≡ on = subst (λ (z : Cleaning). goes_on w z a ≡ on) e told in
    subst (λ (t : Bool). MatchBool t (GoesOn w (with_block cleaning bytes) on) (on ≡ works w (Lookup cleaning))) (sym whole) (goes w (with_block cleaning bytes) a on h same)

pub block_lacks : (w : SeenWriter) (cleaning : Cleaning) (plan : Reading) (bytes : List ℕ) (on : Onward) → is_whole plan.ptr bytes ≡ false → on ≡ works w (Lookup cleaning) → BytesGive w cleaning plan bytes on
block_lacks w cleaning plan bytes on lacks e = subst (λ (t : Bool). MatchBool t (GoesOn w (with_block cleaning bytes) on) (on ≡ works w (Lookup cleaning))) (sym lacks) e

-- ---- the begin of a pass

of_stripe_at : (room most : ℕ) (target : Target) (body : Body) (bodies : List Body) (t : Bool) → is_into target.log target.stripe body.now ≡ t → IsBlock room most body
    → AllByRecursion (IsLive room most target) (live_of target.log target.stripe bodies) → AllByRecursion (IsLive room most target) (live_of target.log target.stripe (body ∷ bodies))
of_stripe_at room most target body bodies true e is rest = rw e (record { block = is; into = e }, rest)
of_stripe_at room most target body bodies false e is rest = rw e rest

-- the pointers into a stripe
pub of_stripe : (room most : ℕ) (target : Target) (live : List Body) → AllByRecursion (IsBlock room most) live → AllByRecursion (IsLive room most target) (live_of target.log target.stripe live)
of_stripe room most target [] h = tt
of_stripe room most target (body ∷ bodies) h = of_stripe_at room most target body bodies (is_into target.log target.stripe body.now) refl h.0 (of_stripe room most target bodies h.1)

pub begin_fits : (n f b : ℕ) (log : SeenLog) (target : Target) (members : Members) (live : List Body) (work : Work) → AllByRecursion (IsLive (room_of n f) b target) live
    → work ≡ begins n f target members live → Fits n f b log work
begin_fits n f b log target members [] work h e = rw e tt
begin_fits n f b log target members (body ∷ bodies) work h e =
    rw e (
      record { live = h; copied = tt },
      record { body = body; first = refl; of_block = refl; stands = start_stands n f body.now (readers_out members.state) h.0.block.some },
    )
