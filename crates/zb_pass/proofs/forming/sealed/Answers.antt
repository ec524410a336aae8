use Rattle.std.proofs.Common.{◌≡◌, ℕ, ◌∙◌, ◌++◌, refl, sym, subst, ap, List, length, map}
use Rattle.std.specs.Prelude.{All}
use Rattle.std.specs.List.{concat}
use Rattle.zb_types.specs.declared.ids.ServerId.{ServerId}
use Rattle.zb_types.specs.declared.nodes.Class.TheVariants.{Cleaner}
use Rattle.zb_types.specs.declared.requests.Request.{Request}
use Rattle.zb_stripe.specs.Fresh.{IsFreshFlush}
use Rattle.zb_stripe.specs.Writing.{plan_requests}
use Rattle.zb_log.specs.Logs.{IsPlaced, ForGiven, flush_of}
use Rattle.zb_basis.specs.Delivering.{IsAbout}
use Rattle.zb_basis.specs.Forming.{writers_out}
use Rattle.zb_forming.proofs.Abouts.{all-ask}
use Rattle.zb_pass.specs.Forming.{IsStored}
use Rattle.zb_pass.proofs.forming.sealed.Goals as goal

pub seal-requires : goal.seal-requires
seal-requires c =
    subst (λ (m : ℕ). IsPlaced c.args.log.now m (map length c.args.blocks.now) c.args.placed)
    (sym (ap length c.in_ok-text.ensures.text ∙ c.batches_have_their_length.ensures.spelled c.args.batch)) c.requires.placed

pub returns-clause-made : goal.returns-clause-made
returns-clause-made c = record {
  same_members = refl;
  same_batch = refl;
  same_place = refl;
  is_sealed = c.in_ok-fresh.ensures.sealed;
  log_is = c.in_ok-fresh.ensures.log;
  room = c.in_ok-fresh.ensures.room;
  ahead = c.in_ok-fresh.ensures.ahead;
  stored =
      subst (λ (meta : List ℕ). ForGiven c.args.log.now (IsStored c.args.to.now.geo.servers c.args.to.now.geo.fragment c.args.log.now c.args.placed (meta ++ concat c.args.blocks.now) c.args.blocks.now (writers_out c.args.to.now.members.state) c.in_ok-fresh.fresh c.in_ok-plan.plan)) c.in_ok-text.ensures.text
      (λ given are.
      let flush = flush_of c.args.log.now given c.args.placed (c.in_ok-text.text ++ concat c.args.blocks.now) in
      let fresh : IsFreshFlush c.args.to.now.geo.servers c.args.to.now.geo.fragment flush c.in_ok-fresh.fresh =
      subst (λ (n : ℕ). IsFreshFlush n c.args.to.now.geo.fragment flush c.in_ok-fresh.fresh) c.requires.servers
      (subst (λ (f : ℕ). IsFreshFlush c.args.log.now.servers f flush c.in_ok-fresh.fresh) c.requires.fragment (c.in_ok-fresh.ensures.fresh given are)) in
      let plan : c.in_ok-plan.plan ≡ plan_requests c.args.to.now.geo.servers c.args.to.now.geo.fragment (writers_out c.args.to.now.members.state) Cleaner flush =
      c.in_ok-plan.ensures flush fresh ∙ ap (λ out. plan_requests c.args.to.now.geo.servers c.args.to.now.geo.fragment out Cleaner flush) c.writers_out-out.ensures in
      record {
        is_fresh = fresh;
        whole = c.in_ok-fresh.ensures.whole given are;
        pieces = c.in_ok-fresh.ensures.pieces given are;
        stand = c.in_ok-fresh.ensures.blocks given are;
        next = c.in_ok-fresh.ensures.next given are;
        rise = c.in_ok-fresh.ensures.rise given are;
        end = c.in_ok-fresh.ensures.end given are;
        requests = plan;
        about =
            subst (λ (requests : List (ServerId × Request)). All (λ (asked : ServerId × Request). IsAbout c.args.log.now.next.stripe c.args.placed.next.stripe asked.1) requests) (sym plan)
            (all-ask c.args.to.now.geo.servers c.args.to.now.geo.fragment c.args.log.now.room (writers_out c.args.to.now.members.state) Cleaner c.args.log.now.next c.args.placed.next c.args.placed.pieces flush c.requires.order
            (c.in_ok-fresh.ensures.pieces given are));
      });
}
