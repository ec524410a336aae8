use Rattle.std.proofs.Common.{refl}
use Rattle.zb_work.specs.Fitting.{Rests}
use Rattle.zb_steps.specs.contracts.desk.Desk.{the_view}
use Rattle.zb_steps.proofs.Finding.{rests_first}
use Rattle.zb_steps.proofs.Goings.{found_gives, found_fits}
use Rattle.zb_steps.proofs.desk.Desk.found.Goals as goal

pub ahead-requires-clause-rests : goal.ahead-requires-clause-rests
ahead-requires-clause-rests c =
    let exact = rw c.slice.ensures at c.in_ok-wanted.ensures.exact in
    let cached = rw c.slice-2.ensures at c.in_ok-fetched.ensures in
    let found = rw (← c.self.view_is) at c.requires.found in
    rw (← c.self.view_is) (rw cached (rests_first _ _ _ _ _ _ c.args.found c.in_ok-wanted.wanted c.self.inside.cache refl found exact c.in_ok-wanted.ensures.within))

pub returns-clause-ok : goal.returns-clause-ok
returns-clause-ok c =
    let exact = rw c.slice.ensures at c.in_ok-wanted.ensures.exact in
    let cached = rw c.slice-2.ensures at c.in_ok-fetched.ensures in
    let asked = rw c.slice-3.ensures at c.ask_for_each.ensures in
    let ahead = rw (← c.self.view_is) at c.in_ok-ahead.ensures.ok in
    rw (← c.self.view_is)
    (found_gives (the_view c.self.inside) c.args.kept.now c.args.queue.now.items c.args.found c.in_ok-wanted.wanted c.in_ok-fetched.fetched c.ask_for_each.new.cache c.in_ok-ahead.ahead (record { desk = c.go_on.new.self; next = c.go_on.result })
    exact cached asked ahead c.go_on.ensures)

pub returns-clause-fits : goal.returns-clause-fits
returns-clause-fits c =
    let exact = rw c.slice.ensures at c.in_ok-wanted.ensures.exact in
    let cached = rw c.slice-2.ensures at c.in_ok-fetched.ensures in
    let ahead = rw (← c.self.view_is) at c.in_ok-ahead.ensures.ok in
    let found = rw (← c.self.view_is) at c.requires.found in
    let rests : Rests c.self.inside.geo.servers c.self.inside.geo.fragment c.self.inside.geo.block c.args.kept.now c.args.queue.now.items 0 (record {
      found = c.args.found;
      wanted = c.in_ok-wanted.wanted;
      fetched = c.in_ok-fetched.fetched;
    }) = rw cached (rests_first _ _ _ _ _ _ c.args.found c.in_ok-wanted.wanted c.self.inside.cache refl found exact c.in_ok-wanted.ensures.within) in
    let two = rw (← c.self.view_is) at c.knows.ensures.servers in
    found_fits (the_view c.self.inside) c.args.kept.now c.args.queue.now.items _ c.ask_for_each.new.cache c.in_ok-ahead.ahead (record { desk = c.go_on.new.self; next = c.go_on.result })
    two c.self.invariant.0.room c.self.invariant.2 rests ahead c.go_on.ensures
