use Rattle.std.proofs.Common.{rules, ◌-◌}
use Rattle.zb_finishing.proofs.Alone.{seen_idle}
use Rattle.zb_running.proofs.Ended.{all_idle_then, none_kept_here, none_kept_there}
use Rattle.zb_running.proofs.Reported.{flush_given, in_system}
use Rattle.zb_running.proofs.Runs.{tells_behind, tells_none, tells_until_behind}
use Rattle.zb_running.proofs.finishing.flush_client.Goals as goal

pub run_client-requires-clause-telling : goal.run_client-requires-clause-telling
run_client-requires-clause-telling c =
    let t = c.requires.telling in
    record { geo = t.geo; given = t.given; lines = t.lines; report = (flush_given t.report c.flush.new.self c.args.client c.requires.first (in_system t.report c.args.client c.requires.last) c.requires.idle t.finishing c.flush.ensures).report }

pub returns-in_err-run_client-clause-err : goal.returns-in_err-run_client-clause-err
returns-in_err-run_client-clause-err c geo given lines r finishing =
    let h = tells_until_behind {old = c.args.course.now} c.flush.ensures.text (c.in_err-run_client.ensures.err geo given lines (flush_given r c.flush.new.self c.args.client c.requires.first (in_system r c.args.client c.requires.last) c.requires.idle finishing c.flush.ensures).report) in
    search rules

pub returns-in_ok-run_client-clause-idle : goal.returns-in_ok-run_client-clause-idle
returns-in_ok-run_client-clause-idle c = all_idle_then c.args.course.now.nodes c.flush.new.self.nodes c.run_client.new.course.nodes (c.args.client - 1) c.flush.ensures.nodes c.requires.idle c.run_client.ensures.others (seen_idle c.run_client.new.course.nodes (c.args.client - 1) c.in_ok-run_client.ensures.idle)

pub returns-in_ok-run_client-clause-none_kept : goal.returns-in_ok-run_client-clause-none_kept
returns-in_ok-run_client-clause-none_kept c = none_kept_here c.args.course.now.nodes c.flush.new.self.nodes c.run_client.new.course.nodes (c.args.client - 1) c.flush.ensures.nodes c.requires.idle c.run_client.ensures.others (seen_idle c.run_client.new.course.nodes (c.args.client - 1) c.in_ok-run_client.ensures.idle)

pub returns-in_ok-run_client-clause-others : goal.returns-in_ok-run_client-clause-others
returns-in_ok-run_client-clause-others c j none = none_kept_there c.args.course.now.nodes c.flush.new.self.nodes c.run_client.new.course.nodes (c.args.client - 1) c.flush.ensures.nodes c.requires.idle c.run_client.ensures.others (seen_idle c.run_client.new.course.nodes (c.args.client - 1) c.in_ok-run_client.ensures.idle) j none

pub returns-in_ok-run_client-clause-ok : goal.returns-in_ok-run_client-clause-ok
returns-in_ok-run_client-clause-ok c geo given lines r finishing = tells_behind c.flush.ensures.text (c.in_ok-run_client.ensures.ok geo given lines (flush_given r c.flush.new.self c.args.client c.requires.first (in_system r c.args.client c.requires.last) c.requires.idle finishing c.flush.ensures).report)

pub returns-else-keeps-clause-ok : goal.returns-else-keeps-clause-ok
returns-else-keeps-clause-ok c geo given lines r finishing = tells_none r
