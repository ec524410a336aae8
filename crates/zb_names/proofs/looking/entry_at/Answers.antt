use Rattle.std.proofs.Common.{sym}
use Rattle.zb_names.specs.Shown.{seen}
use Rattle.zb_names.proofs.Refusals.{refusal_at-absent, refusal_at-found}
use Rattle.zb_names.proofs.looking.entry_at.Goals as goal

pub returns-in-None-clause-refused : goal.returns-in-None-clause-refused
returns-in-None-clause-refused c = refusal_at-absent c.args.path.now c.args.kept.now.entries (sym c.in_default.ensures) (sym c.in-None.ensures)

pub returns-in-Some-find-clause-refused : goal.returns-in-Some-find-clause-refused
returns-in-Some-find-clause-refused c =
    refusal_at-found c.args.path.now c.args.kept.now.entries (sym c.in_default.ensures) (seen c.in-Some-find.entry) (sym c.in-Some-find.ensures)
