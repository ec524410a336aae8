use Rattle.std.proofs.Common.{Some, sym, ◌∙◌, subst}
use Rattle.zb_index.specs.declared.holders.Holders.{Holders}
use Rattle.zb_index.specs.Gathering.{AreHolders}
use Rattle.zb_index.proofs.Twinning.{newest_one, newest_first, newest_second}
use Rattle.zb_index.proofs.holders.Holders.newest.Goals as goal

pub returns-in-One : goal.returns-in-One
returns-in-One c n slots id are good =
    newest_one n slots id c.in-One.first (subst (λ (h : Holders). AreHolders n slots id (Some h)) c.in-One.is are)

pub returns-then-second-following : goal.returns-then-second-following
returns-then-second-following c n slots id are good =
    newest_second n slots id c.in-Two.first c.in-Two.second (subst (λ (h : Holders). AreHolders n slots id (Some h)) c.in-Two.is are) (c.if-second-following.true ∙ c.following.ensures)

pub returns-else-second-following : goal.returns-else-second-following
returns-else-second-following c n slots id are good =
    newest_first n slots id c.in-Two.first c.in-Two.second (subst (λ (h : Holders). AreHolders n slots id (Some h)) c.in-Two.is are) (λ e. c.if-second-following.false (e ∙ sym c.following.ensures))
