use Rattle.zebra.proofs.run.run_rows.Goals as goal

pub returns-in-Some-clause-told : goal.returns-in-Some-clause-told
returns-in-Some-clause-told g c tells start h = rw c.in-Some.is at c.in_ok-ending.ensures.told tells start (c.rows.invariant.3 tells start h)
