use Rattle.std.proofs.Common.{◌≡◌, sym, ap, ◌∙◌}
use Rattle.zb_types.specs.declared.calls.Call.TheVariants.{Remove}
use Rattle.zb_types.specs.Names.{drops, name_change}
use Rattle.zb_types.specs.Apply.{applied}
use Rattle.zb_names.specs.Shown.{change_of}
use Rattle.zb_history.proofs.FileLists.{removed-without, AreFiles-removed}
use Rattle.zb_history.proofs.Steps.{tree_removed}
use Rattle.zb_history.proofs.tree.Tree.remove.Goals as goal

pub invariant_of-self-in-Ok-Some : goal.invariant_of-self-in-Ok-Some
invariant_of-self-in-Ok-Some c = AreFiles-removed c.in-Ok-Some.fid.0 c.self.inside.files.entries c.remove-in-Ok-Some.new.self.entries c.self.invariant c.remove-in-Ok-Some.ensures.entries c.remove-in-Ok-Some.ensures.ordered

pub returns-in-Ok-Some-clause-tree : goal.returns-in-Ok-Some-clause-tree
returns-in-Ok-Some-clause-tree c =
    let path = c.args.path.now in
    let change : drops c.in-Ok-Some.fid.0 ≡ name_change c.self.inside.names (Remove path) = ap change_of (sym c.in-Ok-Some.field-0-is) ∙ c.in-Ok-Some.ensures.file in
    tree_removed _ path c.remove.new.self c.remove-in-Ok-Some.new.self.entries c.in-Ok-Some.fid c.in-Ok-Some.ensures.refused c.in-Ok-Some.ensures.ok change
    (removed-without c.in-Ok-Some.fid.0 c.self.inside.files.entries c.remove-in-Ok-Some.new.self.entries c.self.invariant c.remove-in-Ok-Some.ensures.entries)
    ∙ ap (λ tree. applied tree (Remove path)) c.self.view_is
