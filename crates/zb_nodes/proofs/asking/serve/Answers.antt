use Rattle.zb_system.specs.Steps.{IsServed}
use Rattle.zb_nodes.proofs.Serves.{read_leaves}
use Rattle.zb_nodes.proofs.asking.serve.Goals as goal

pub returns-clause-read : goal.returns-clause-read
returns-clause-read c = λ reads.
    let served : IsServed c.args.servers.now c.serve.new.self c.args.generation (c.args.server, c.args.request.now) c.in_ok-response.response = record {
      answer = c.in_ok-response.ensures.rules;
      left = c.in_ok-response.ensures.left;
      carried_out = c.in_ok-response.ensures.carried;
      refused = c.in_ok-response.ensures.refused;
      others = c.serve.ensures.others;
      slots = c.serve.ensures.slots;
      count = c.serve.ensures.count;
    } in
    read_leaves c.args.servers.now c.serve.new.self c.args.generation (c.args.server, c.args.request.now) c.in_ok-response.response reads served c.know_order.ensures c.know_order-2.ensures
