use Rattle.std.proofs.Common.{cond, sym, ◌∙◌}
use Rattle.zb_manager.specs.Seen.{held_by}
use Rattle.zb_turns.specs.Turns.{other_holder}
use Rattle.zb_nodes.proofs.Stores.{store_answers, store_does, store_may_ask, store_taken}
use Rattle.zb_nodes.proofs.asking.store.Goals as goal

pub serve-requires : goal.serve-requires
serve-requires c = store_may_ask c.args.manager.now c.args.servers.now c.args.client.now c.requires.may c.args.generation (c.args.server, c.args.request.now) c.requires.at

pub hear-requires-clause-answers : goal.hear-requires-clause-answers
hear-requires-clause-answers c =
    store_answers c.args.manager.now c.args.servers.now c.args.client.now c.requires.may c.args.generation (c.args.server, c.args.request.now) c.requires.at
    c.serve.new.servers c.in_ok-response.response c.serving-serving.result c.in_ok-response.ensures.served

pub returns-clause-told : goal.returns-clause-told
returns-clause-told c =
    let m = c.args.manager.now in
    store_does m c.args.servers.now c.args.client.now c.requires.may c.args.generation (c.args.server, c.args.request.now) c.requires.at
    c.serve.new.servers c.in_ok-response.response c.serving-serving.result c.in_ok-response.ensures.served (record { client = c.hear.new.client; told = c.in_ok-told.told }) c.give_up_if.new.manager
    c.in_ok-told.ensures.ok
    (c.give_up_if.ensures ∙ (λ i. cond (c.is_refused-refused.ensures i) (held_by (other_holder (sym c.requires.number i) m.holder) m) m))

pub returns-in_err-told-clause-err : goal.returns-in_err-told-clause-err
returns-in_err-told-clause-err c =
    absurd (store_taken c.args.manager.now c.args.servers.now c.args.client.now c.requires.may c.args.generation (c.args.server, c.args.request.now) c.requires.at
    c.serve.new.servers c.in_ok-response.response c.serving-serving.result c.in_ok-response.ensures.served c.in_err-told.field-0.0 c.in_err-told.ensures.cause)
