use Rattle.zb_basis.proofs.calls.+company.Given as goal

abbrev pub decreases-company : goal.decreases-company
decreases-company l = l.most
