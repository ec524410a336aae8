use Rattle.std.proofs.Common.{◌≡◌, ◌-◌, sym, ap, subst, arith}
use Rattle.zb_system.specs.Nodes.{IsClient, SeenNodes}
use Rattle.zb_nodes.specs.contracts.nodes.Nodes.{the_view}
use Rattle.zb_nodes.specs.Seen.{IsSound}
use Rattle.zb_nodes.proofs.Places.{numbered_at}
use Rattle.zb_nodes.proofs.Steps.{sound_among, sound_number, step_blocked, step_cause, step_err, step_idle, step_still, step_told}
use Rattle.zb_nodes.proofs.nodes.Nodes.step.Goals as goal

pub step-requires-clause-among : goal.step-requires-clause-among
step-requires-clause-among c =
    let n = the_view c.self.inside in
    let here = numbered_at n.clients c.args.self.now.clients c.from-at.result c.args.client c.index_mut.result.now (ap (λ (x : SeenNodes). x.clients) c.self.view_is) c.from-at.ensures c.requires.first c.requires.last c.index_mut.ensures.value in
    sound_among n (c.from-at.result - 1) c.index_mut.result.now here (subst IsSound (sym c.self.view_is) c.requires.sound)

pub step-requires-clause-number : goal.step-requires-clause-number
step-requires-clause-number c =
    let n = the_view c.self.inside in
    let here = numbered_at n.clients c.args.self.now.clients c.from-at.result c.args.client c.index_mut.result.now (ap (λ (x : SeenNodes). x.clients) c.self.view_is) c.from-at.ensures c.requires.first c.requires.last c.index_mut.ensures.value in
    let number = sound_number n (c.from-at.result - 1) c.index_mut.result.now here (subst IsSound (sym c.self.view_is) c.requires.sound) in
    omega (arith, number, c.from-at.ensures, c.requires.first)

-- the client stands at its place
there : (c : goal.After-self-1) → IsClient (the_view c.self.inside) (c.from-at.result - 1) c.index_mut.result.now
there c =
    numbered_at (the_view c.self.inside).clients c.args.self.now.clients c.from-at.result c.args.client c.index_mut.result.now (ap (λ (x : SeenNodes). x.clients) c.self.view_is) c.from-at.ensures c.requires.first c.requires.last
    c.index_mut.ensures.value

-- with its number
own : (c : goal.After-self-1) → c.index_mut.result.now.client ≡ c.args.client
own c =
    let number = sound_number (the_view c.self.inside) (c.from-at.result - 1) c.index_mut.result.now (there c) (subst IsSound (sym c.self.view_is) c.requires.sound) in
    omega (arith, number, c.from-at.ensures, c.requires.first)

pub returns-clause-told : goal.returns-clause-told
returns-clause-told c =
    rw (← c.self.view_is, ← c.from-at.ensures) (step_told (the_view c.self.inside) (c.from-at.result - 1) c.index_mut.result.now (there c) c.step.new.manager c.step.new.servers c.step.new.client c.step.result c.step.ensures.came)

pub returns-clause-still : goal.returns-clause-still
returns-clause-still c =
    rw (← c.self.view_is, ← c.from-at.ensures) (step_still (the_view c.self.inside) (c.from-at.result - 1) c.index_mut.result.now (there c) c.step.new.manager c.step.new.servers c.step.new.client c.step.result c.step.ensures.came)

pub returns-clause-idle : goal.returns-clause-idle
returns-clause-idle c =
    rw (← c.self.view_is, ← c.from-at.ensures) (step_idle (the_view c.self.inside) (c.from-at.result - 1) c.index_mut.result.now (there c) c.step.new.manager c.step.new.servers c.step.new.client c.args.client c.step.result
    c.step.ensures.came c.step.ensures.blocked)

pub returns-clause-blocked : goal.returns-clause-blocked
returns-clause-blocked c =
    rw (← c.self.view_is, ← c.from-at.ensures) (step_blocked (the_view c.self.inside) (c.from-at.result - 1) c.index_mut.result.now (there c) c.step.new.manager c.step.new.servers c.step.new.client c.args.client (own c) c.step.result
    c.step.ensures.blocked)

pub returns-clause-err : goal.returns-clause-err
returns-clause-err c =
    rw (← c.self.view_is, ← c.from-at.ensures) (step_err (the_view c.self.inside) (c.from-at.result - 1) c.index_mut.result.now (there c) c.step.new.manager c.step.new.servers c.step.new.client c.step.result c.step.ensures.err)

pub returns-clause-cause : goal.returns-clause-cause
returns-clause-cause c =
    rw (← c.self.view_is, ← c.from-at.ensures) (step_cause (the_view c.self.inside) (c.from-at.result - 1) c.index_mut.result.now (there c) c.step.result c.step.ensures.cause)
