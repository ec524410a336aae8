use Rattle.std.proofs.Common.{◌≡◌, suc, ◌<◌, ◌-◌, length, sym, subst, arith, IfOk}
use Rattle.std.proofs.lemmas.Result.{on_ok_weaker, IfOk-weaker}
use Rattle.zb_holding.specs.Rules.{IsAnswer}
use Rattle.zb_plain.specs.Standing.{Entries, IsAfter, IsInOrder}
use Rattle.zb_plain.specs.Answering.{holdings_of, answer_of}
use Rattle.zb_plain.proofs.Ruling.{by_rules}
use Rattle.zb_plain.proofs.Serving.{maps-carried, entries-read}
use Rattle.zb_plain.proofs.servers.PlainServers.serve.Goals as goal

pub returns-clause-carried : goal.returns-clause-carried
returns-clause-carried c =
    let servers = c.self.inside.servers.items in
    let at = c.from.result - 1 in
    let place : c.args.server.0 ≡ suc at = omega (arith, c.from.ensures, c.requires.first) in
    let below : at < length servers = rw c.self.view_is (omega (arith, c.from.ensures, c.requires.first, c.requires.last)) in
    let read = entries-read servers c.args.server at c.index_mut.result.now place below c.index_mut.ensures.value in
    let request = c.args.request.now in
    rw (← c.self.view_is) (on_ok_weaker c.serve.result (λ after. maps-carried servers c.args.server request c.serve.new.self at place below (subst (λ (entries : Entries). IsAfter entries c.serve.new.self request) read after)) c.serve.ensures.carried)

pub returns-clause-order : goal.returns-clause-order
returns-clause-order c =
    let servers = c.self.inside.servers.items in
    let at = c.from.result - 1 in
    let place : c.args.server.0 ≡ suc at = omega (arith, c.from.ensures, c.requires.first) in
    let below : at < length servers = rw c.self.view_is (omega (arith, c.from.ensures, c.requires.first, c.requires.last)) in
    rw (← c.self.view_is) (subst IsInOrder (entries-read servers c.args.server at c.index_mut.result.now place below c.index_mut.ensures.value) c.serve.ensures.order)

pub returns-clause-rules : goal.returns-clause-rules
returns-clause-rules c =
    let servers = c.self.inside.servers.items in
    let at = c.from.result - 1 in
    let place : c.args.server.0 ≡ suc at = omega (arith, c.from.ensures, c.requires.first) in
    let below : at < length servers = rw c.self.view_is (omega (arith, c.from.ensures, c.requires.first, c.requires.last)) in
    let read = entries-read servers c.args.server at c.index_mut.result.now place below c.index_mut.ensures.value in
    let request = c.args.request.now in
    let rules = by_rules c.index_mut.result.now c.serve.ensures.order request in
    rw (← c.self.view_is) (subst (λ (entries : Entries). IfOk c.serve.result (IsAnswer (holdings_of entries) 0 request)) read
    (IfOk-weaker c.serve.result _ _ (λ answer is. subst (IsAnswer (holdings_of c.index_mut.result.now) 0 request) (sym is) rules) c.serve.ensures.answer))

pub returns-clause-answer : goal.returns-clause-answer
returns-clause-answer c =
    let servers = c.self.inside.servers.items in
    let at = c.from.result - 1 in
    let place : c.args.server.0 ≡ suc at = omega (arith, c.from.ensures, c.requires.first) in
    let below : at < length servers = rw c.self.view_is (omega (arith, c.from.ensures, c.requires.first, c.requires.last)) in
    let read = entries-read servers c.args.server at c.index_mut.result.now place below c.index_mut.ensures.value in
    rw (← c.self.view_is) (subst (λ (entries : Entries). IfOk c.serve.result (λ answer. answer ≡ answer_of entries c.args.request.now)) read c.serve.ensures.answer)
