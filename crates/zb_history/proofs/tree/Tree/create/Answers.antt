use Rattle.std.proofs.Common.{◌≡◌, [], None, ap, ◌∙◌, lit≤}
use Rattle.zb_types.specs.declared.calls.Call.TheVariants.{Create}
use Rattle.zb_types.specs.declared.calls.Reply.TheVariants.{Made}
use Rattle.zb_types.specs.declared.ids.Fid.{Fid}
use Rattle.zb_types.specs.Keyed.{put}
use Rattle.zb_types.specs.Names.{name_refusal, name_effect, name_reply}
use Rattle.zb_types.specs.Apply.{applied}
use Rattle.zb_types.proofs.KeyedLists.{insert_entry-numbers}
use Rattle.zb_history.proofs.FileLists.{AreFiles-inserted}
use Rattle.zb_history.proofs.Steps.{tree_created}
use Rattle.zb_history.proofs.tree.Tree.create.Goals as goal

pub invariant_of-self-in-Ok : goal.invariant_of-self-in-Ok
invariant_of-self-in-Ok c =
    AreFiles-inserted c.next.result [] c.self.inside.files.entries c.insert.new.self.entries c.self.invariant (lit≤ tt)
    (rw (← c.in_ok-empty-in-Ok.ensures) c.in_ok-insert-in-Ok.ensures.entries) c.in_ok-insert-in-Ok.ensures.ordered

pub returns-in_ok-insert-in-Ok-clause-ok : goal.returns-in_ok-insert-in-Ok-clause-ok
returns-in_ok-insert-in-Ok-clause-ok c =
    let path = c.args.path.now in
    let free : name_refusal c.self.inside.names (Create path) ≡ None = c.in-Ok.ensures.refused in
    let names : c.apply.new.self ≡ name_effect c.self.inside.names (Create path) = c.apply.ensures ∙ c.in-Ok.ensures.leads in
    let fid : Fid = record { 0 = c.next.result } in
    let number : Made fid ≡ name_reply c.self.inside.names (Create path) = ap (λ n. Made (record { 0 = n })) c.next.ensures in
    let files : c.insert.new.self.entries ≡ put c.next.result [] c.self.inside.files.entries =
    rw (← c.in_ok-empty-in-Ok.ensures) c.in_ok-insert-in-Ok.ensures.entries ∙ insert_entry-numbers c.next.result [] c.self.inside.files.entries in
    tree_created _ path c.apply.new.self c.insert.new.self.entries fid free names number files ∙ ap (λ tree. applied tree (Create path)) c.self.view_is
