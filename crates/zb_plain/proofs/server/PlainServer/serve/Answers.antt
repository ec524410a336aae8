use Rattle.zb_plain.proofs.server.PlainServer.serve.Goals as goal

pub returns-in_ok-put_parity-in-Parity-clause-carried :
    goal.returns-in_ok-put_parity-in-Parity-clause-carried
returns-in_ok-put_parity-in-Parity-clause-carried c =
    rw (c.in-Parity.is, ← c.slice-in-Parity.ensures) (c.in_ok-put_parity-in-Parity.ensures.carried c.in-Parity.class)
