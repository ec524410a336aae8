use Rattle.std.proofs.Common.{◌≡◌, ◌<◌, subst, sym, arith}
use Rattle.std.specs.Result.{IfOk}
use Rattle.std.proofs.lemmas.Result.{IfOk-weaker}
use Rattle.zb_stripe.specs.declared.read_plan.Got.{Got}
use Rattle.zb_stripe.specs.Reading.{Reading, read_of, asked, fed, Answers, CanRead, NamesLost, is_gone, lacks_bytes}
use Rattle.zb_stripe.proofs.Ending.{right_in, can_read}
use Rattle.zb_stripe.proofs.read_plan.ReadPlan.feed.Goals as goal

pub hear-requires : goal.hear-requires
hear-requires c =
    let inside = c.self.inside in
    let r = read_of inside.source inside.lost.items inside.progress in
    let response = c.args.response.now in
    let low = inside.source.geo.limits.fragment_low in
    let some : 0 < inside.source.geo.fragment = omega arith in
    let answers : Answers r.servers (asked r) response = subst (λ (z : Reading). Answers z.servers (asked z) response) (sym c.self.view_is) c.requires in
    subst (λ (z : Reading). CanRead z response) c.self.view_is (can_read r inside.source.room some response c.self.invariant.1.phase answers)

right : (c : goal.After-hear) → IfOk c.hear.result (λ g. NamesLost c.args.self.now (asked c.args.self.now) c.args.response.now g × (is_gone g ≡ lacks_bytes c.args.response.now))
right c =
    let inside = c.self.inside in
    let r = read_of inside.source inside.lost.items inside.progress in
    let response = c.args.response.now in
    let low = inside.source.geo.limits.fragment_low in
    let some : 0 < inside.source.geo.fragment = omega arith in
    let answers : Answers r.servers (asked r) response = subst (λ (z : Reading). Answers z.servers (asked z) response) (sym c.self.view_is) c.requires in
    let can = can_read r inside.source.room some response c.self.invariant.1.phase answers in
    let fact = right_in r inside.source.room some can.stands r.phase response c.self.invariant.1.phase c.self.invariant.2 can.answers in
    let there = subst (λ (z : Reading). NamesLost z (asked z) response (fed z response).1 × (is_gone (fed z response).1 ≡ lacks_bytes response)) c.self.view_is fact in
    IfOk-weaker c.hear.result _ _ (λ g e. subst (λ (h : Got). NamesLost c.args.self.now (asked c.args.self.now) response h × (is_gone h ≡ lacks_bytes response)) (sym e) there) c.hear.ensures.got

pub returns-clause-two : goal.returns-clause-two
returns-clause-two c = IfOk-weaker c.hear.result _ _ (λ g p. p.0) (right c)

pub returns-clause-gone : goal.returns-clause-gone
returns-clause-gone c = IfOk-weaker c.hear.result _ _ (λ g p. p.1) (right c)
