use Rattle.std.proofs.lemmas.Result.{IfErr-weaker, IfOk-weaker}
use Rattle.zb_nodes.proofs.Fetches.{fetch_answers, fetch_does, fetch_halts, fetch_may_ask, fetch_reads}
use Rattle.zb_nodes.proofs.Rows.{on_err_too}
use Rattle.zb_nodes.proofs.asking.fetch.Goals as goal

pub serve-requires : goal.serve-requires
serve-requires c = fetch_may_ask c.requires.may.0 c.args.servers.now c.args.client.now c.requires.may.1 c.args.generation (c.args.server, c.args.request.now) c.requires.at

pub hear-requires-clause-answers : goal.hear-requires-clause-answers
hear-requires-clause-answers c =
    fetch_answers c.requires.may.0 c.args.servers.now c.args.client.now c.requires.may.1 c.args.generation (c.args.server, c.args.request.now) c.requires.at
    c.serve.new.servers c.in_ok-response.response c.serving-serving.result c.in_ok-response.ensures.served

pub returns-clause-told : goal.returns-clause-told
returns-clause-told c =
    IfOk-weaker c.hear.result _ _
    (λ told hears. fetch_does c.requires.may.0 c.args.servers.now c.args.client.now c.requires.may.1 c.args.generation (c.args.server, c.args.request.now) c.requires.at
    c.serve.new.servers c.in_ok-response.response c.serving-serving.result c.in_ok-response.ensures.served (record { client = c.hear.new.client; told = told }) hears) c.hear.ensures.ok

pub returns-clause-servers : goal.returns-clause-servers
returns-clause-servers c =
    on_err_too c.hear.result
    (c.serve.ensures.read (fetch_reads c.requires.may.0 c.args.servers.now c.args.client.now c.requires.may.1 c.args.generation (c.args.server, c.args.request.now) c.requires.at))

pub returns-clause-cause : goal.returns-clause-cause
returns-clause-cause c =
    IfErr-weaker c.hear.result _ _
    (fetch_halts c.requires.may.0 c.args.servers.now c.args.client.now c.requires.may.1 c.args.generation (c.args.server, c.args.request.now) c.requires.at
    c.serve.new.servers c.in_ok-response.response c.serving-serving.result c.in_ok-response.ensures.served) c.hear.ensures.cause
