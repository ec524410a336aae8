use Rattle.std.proofs.Common.{◌+◌, Option, Some, sym, ◌∙◌, subst, arith}
use Rattle.std.specs.Prelude.{if◌then◌else◌}
use Rattle.zb_holding.specs.Carrying.{same_frag}
use Rattle.zb_slots.specs.declared.header.Header.{Header}
use Rattle.zb_index.specs.Drafting.{AreOlderBelow, tidied}
use Rattle.zb_index.specs.Free.{times}
use Rattle.zb_index.specs.Indexed.{spot_at}
use Rattle.zb_index.specs.Seen.{spot_in}
use Rattle.zb_slots.specs.Shown.{Says}
use Rattle.zb_index.proofs.Following.{Put, not_free}
use Rattle.zb_holding.proofs.Keys.{put_by}
use Rattle.zb_index.proofs.Settling.{more_free, more_full, tidied_free, tidied_newest, tidied_older, tidied_once, newest_not_older, older_past, older_more}
use Rattle.zb_index.proofs.build.Draft.settle.Goals as goal

pub returns-in_default-holder_of-clause-draft : goal.returns-in_default-holder_of-clause-draft
returns-in_default-holder_of-clause-draft c n slots all good lt says draft =
    let slot = c.args.slot in
    let free = c.in_default-holder_of.ensures (slots slot) (subst (λ (o : Option Header). Says o (slots slot)) c.in-Some.is says) in
    record {
      agree = more_free (spot_in c.args.self.now.spots.entries) (λ k. times k c.args.self.now.free.slots) slot (tidied slots n) draft.agree (λ k. times k c.give.new.self.slots)
          (tidied_free slots n slot free) c.give.ensures.given.more;
      older = older_past slots n slot c.args.self.now.older draft.older (λ o. not_free o.stored (sym o.full ∙ free));
    }

pub returns-in_ok-insert-clause-draft : goal.returns-in_ok-insert-clause-draft
returns-in_ok-insert-clause-draft c n slots all good lt says draft =
    let slot = c.args.slot in
    let id = c.in-Some-holder_of.id in
    let old = c.args.self.now.spots.entries in
    let new = c.insert.new.self.entries in
    let h = c.in-Some-holder_of.ensures (slots slot) (subst (λ (o : Option Header). Says o (slots slot)) c.in-Some.is says) in
    let tells = c.is_newest.ensures n slots h.stored all good lt h.full h.name in
    let newest = tells.newest c.if-is_newest.true in
    let here = tidied_newest slots n slot h.stored h.full newest in
    let put = put_by old new id (Some c.in-Some-holder_of.holder.spot) c.in_ok-insert.ensures.updates.0 in
    let puts : Put (spot_in old) (spot_in new) h.stored.id (Some (spot_at slot h.stored)) = λ q. put q ∙ (λ i. if same_frag (sym h.name i) q then Some ((h.is i).spot) else spot_in old q) in
    record {
      agree = more_full (spot_in old) (λ k. times k c.args.self.now.free.slots) slot (tidied slots n) draft.agree (spot_in new) h.stored here
          (λ k other less e same. tidied_once slots n good k slot other h.stored (omega (arith, less, lt)) lt (λ x. omega (arith, x, less)) e here same) puts;
      older = older_past slots n slot c.args.self.now.older draft.older (newest_not_older slots n slot h.stored h.full newest);
    }

pub returns-in_ok-push-clause-draft : goal.returns-in_ok-push-clause-draft
returns-in_ok-push-clause-draft c n slots all good lt says draft =
    let slot = c.args.slot in
    let h = c.in-Some-holder_of.ensures (slots slot) (subst (λ (o : Option Header). Says o (slots slot)) c.in-Some.is says) in
    let tells = c.is_newest.ensures n slots h.stored all good lt h.full h.name in
    let o = tells.older c.if-is_newest.false in
    record {
      agree = more_free (spot_in c.args.self.now.spots.entries) (λ k. times k c.args.self.now.free.slots) slot (tidied slots n) draft.agree (λ k. times k c.give-else-is_newest.new.self.slots)
          (tidied_older slots n slot o) c.give-else-is_newest.ensures.given.more;
      older = subst (AreOlderBelow slots n (slot + 1)) (sym c.in_ok-push.ensures.ok) (older_more slots n slot c.args.self.now.older draft.older o);
    }
