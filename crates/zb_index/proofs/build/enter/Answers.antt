use Rattle.std.proofs.Common.{◌+◌, Some, sym, ◌∙◌, subst}
use Rattle.zb_index.specs.declared.holders.Holders.{Holders}
use Rattle.zb_index.specs.Gathering.{AreHolders}
use Rattle.zb_holding.proofs.Keys.{found_is, put_by}
use Rattle.zb_index.proofs.Twinning.{next_one, gathered_next}
use Rattle.zb_index.proofs.build.enter.Goals as goal
use Rattle.zb_index.proofs.build.enter.Goals.{in-None, in-Some}

pub returns : goal.returns
returns c n slots all held =
    let old = c.args.names.now.entries in
    let new = c.insert.new.self.entries in
    let id = c.args.id in
    let holder = c.args.holder in
    let holders = c.match-get.holders in
    let put = put_by old new id (Some holders) c.in_ok-insert.ensures.updates.0 in
    let are : AreHolders (n + 1) slots id (Some holders) = elim c.match-get.branch [
      | in-None w ↦
          let none = subst (AreHolders n slots id) (sym (w.in-None.ensures.value ∙ found_is old id)) (all id) in
          subst (λ (h : Holders). AreHolders (n + 1) slots id (Some h)) (sym w.holders-is) (next_one n slots id holder none held)
      | in-Some w ↦
          let some = subst (AreHolders n slots id) (sym (w.in-Some.ensures.value ∙ found_is old id)) (all id) in
          subst (λ (h : Holders). AreHolders (n + 1) slots id (Some h)) (sym w.holders-is) (w.joined-holders.ensures n slots id some held)
    ] in
    gathered_next n slots old new id holder holders put held are all
