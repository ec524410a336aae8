use Rattle.std.proofs.Common.{◌≡◌, sym, subst}
use Rattle.std.specs.List.{AllByRecursion}
use Rattle.zb_basis.specs.Looking.{room_of}
use Rattle.zb_forming.proofs.Asked.{ok-more}
use Rattle.zb_pass.specs.declared.work.Target.{Target}
use Rattle.zb_pass.specs.declared.work.Work.{Work}
use Rattle.zb_pass.specs.Copying.{IsLive}
use Rattle.zb_pass.specs.Fitting.{Fits}
use Rattle.zb_pass.specs.Going.{begins}
use Rattle.zb_pass.specs.Picking.{target_of}
use Rattle.zb_pass.proofs.Goings.{begin_fits, of_stripe}
use Rattle.zb_pass.proofs.writer.Writer.pick.Goals as goal

pub begins-requires : goal.begins-requires
begins-requires g c =
    let live = rw (← c.self.view_is) at c.requires in
    let room = room_of c.self.inside.geo.servers c.self.inside.geo.fragment in
    let most = c.self.inside.geo.block in
    let target : Target = target_of c.self.inside.id c.args.status c.in-Some.chosen in
    subst (λ (z : Target). AllByRecursion (IsLive room most z) c.in_ok-found.found) (sym c.target_of-target.ensures)
    (subst (AllByRecursion (IsLive room most target)) (sym c.in_ok-found.ensures) (of_stripe room most target c.args.live.now live))

pub returns-clause-fits : goal.returns-clause-fits
returns-clause-fits g c =
    let live = rw (← c.self.view_is) at c.requires in
    let n = c.self.inside.geo.servers in
    let f = c.self.inside.geo.fragment in
    let most = c.self.inside.geo.block in
    let target : Target = target_of c.self.inside.id c.args.status c.in-Some.chosen in
    let found = subst (λ (z : Target). AllByRecursion (IsLive (room_of n f) most z) c.in_ok-found.found) (sym c.target_of-target.ensures)
    (subst (AllByRecursion (IsLive (room_of n f) most target)) (sym c.in_ok-found.ensures) (of_stripe (room_of n f) most target c.args.live.now live)) in
    rw (← c.self.view_is)
    (ok-more (λ (work : Work). work ≡ begins n f c.target_of-target.result c.args.status.members c.in_ok-found.found) (Fits n f most c.self.inside.log) c.begins.result
    (λ work e. begin_fits n f most c.self.inside.log c.target_of-target.result c.args.status.members c.in_ok-found.found work found e) c.begins.ensures)
