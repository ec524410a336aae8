use Rattle.zb_client_laws.specs.Known.{IsKnown}
use Rattle.zb_nodes.proofs.Steps.{readied_may}
use Rattle.zb_nodes.proofs.carrying.step.Goals as goal

pub carry_out-requires-clause-may : goal.carry_out-requires-clause-may
carry_out-requires-clause-may c =
    let k = c.knows.ensures in
    let known : IsKnown c.ready.new.self = record {
      log = k.log;
      given = k.given;
      behind = k.behind;
      numbered = k.numbered;
      updates = k.updates;
      in_doubt = k.in_doubt;
      work = k.work;
      aim = k.aim;
    } in
    readied_may c.args.manager.now c.args.servers.now c.args.client.now c.requires.among c.ready.new.self c.in_ok-ready.ensures.ok known
