use Rattle.std.proofs.Common.{◌∙◌, ap}
use Rattle.zb_types.specs.Tree.{Tree, listing}
use Rattle.zb_finishing.proofs.trees.tables_show_the_tree.Goals as goal

pub returns-clause-shown : goal.returns-clause-shown
returns-clause-shown c given lines n s = ap (λ (t : Tree). listing t) s.stands.stands.says.shows

pub returns-clause-listed : goal.returns-clause-listed
returns-clause-listed c given lines n entries s list = list s.contents ∙ ap (λ (t : Tree). listing t) s.stands.stands.says.shows
