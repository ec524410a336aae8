use Rattle.zb_servers.proofs.kept.Form.append.Goals as goal

pub returns-in-Share-clause-carried : goal.returns-in-Share-clause-carried
returns-in-Share-clause-carried c = rw c.in-Share.is c.append_to_share.ensures.carried

pub returns-in-Parity-clause-answer : goal.returns-in-Parity-clause-answer
returns-in-Parity-clause-answer c = rw c.in-Parity.is (c.append_to_parity.ensures c.in-Parity.lengths)
