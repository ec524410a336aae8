use Rattle.std.proofs.Common.{ap, ◌∙◌}
use Rattle.zb_types.specs.Keyed.{look}
use Rattle.zb_types.proofs.KeyedLists.{lookup-numbers}
use Rattle.zb_history.proofs.FileLists.{short-lent}
use Rattle.zb_history.proofs.tree.Tree.file.Goals as goal

pub returns-clause-found : goal.returns-clause-found
returns-clause-found c = c.get.ensures.value ∙ lookup-numbers c.args.fid.0 c.self.inside.files.entries ∙ ap (λ tree. look c.args.fid.0 tree.files) c.self.view_is

pub returns-clause-short : goal.returns-clause-short
returns-clause-short c = short-lent c.args.fid.0 c.get.result c.self.inside.files.entries c.self.invariant (c.get.ensures.value ∙ lookup-numbers c.args.fid.0 c.self.inside.files.entries)
