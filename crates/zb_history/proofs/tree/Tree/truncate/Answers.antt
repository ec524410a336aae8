use Rattle.std.proofs.Common.{◌≡◌, ◌≤◌, length, Some, is_some, sym, ap, ◌∙◌, arith}
use Rattle.std.specs.BTreeMap.{insert_entry}
use Rattle.std.specs.Ordering.{nat_cmp}
use Rattle.zb_types.specs.declared.calls.Call.TheVariants.{Truncate}
use Rattle.zb_types.specs.Keyed.{look}
use Rattle.zb_types.specs.Bytes.{resized}
use Rattle.zb_types.specs.Apply.{max_file, applied}
use Rattle.zb_history.proofs.FileLists.{AreFiles-inserted, inserted-replaced, length-resized}
use Rattle.zb_history.proofs.Steps.{tree_resized}
use Rattle.zb_history.proofs.tree.Tree.truncate.Goals as goal

pub invariant_of-self-2 : goal.invariant_of-self-2
invariant_of-self-2 c =
    let old = c.in-Some.old.now in
    let bytes : c.in_ok-new.new ≡ resized old c.args.length = c.in_ok-new.ensures ∙ ap (λ b. resized b c.args.length) c.slice.ensures in
    let short : length (resized old c.args.length) ≤ max_file = omega (arith, length-resized old c.args.length, c.if-length-gt-MAX_FILE.false) in
    let made : c.insert.new.self.entries ≡ insert_entry nat_cmp c.self.inside.files.entries c.args.fid.0 (resized old c.args.length) = rw (← bytes) c.in_ok-insert.ensures.entries in
    AreFiles-inserted c.args.fid.0 (resized old c.args.length) c.self.inside.files.entries c.insert.new.self.entries c.self.invariant short made c.in_ok-insert.ensures.ordered

pub returns-clause-ok : goal.returns-clause-ok
returns-clause-ok c =
    let old = c.in-Some.old.now in
    let found : look c.args.fid.0 c.self.inside.files.entries ≡ Some old = ap (λ tree. look c.args.fid.0 tree.files) c.self.view_is ∙ sym c.in-Some.ensures.found in
    let bytes : c.in_ok-new.new ≡ resized old c.args.length = c.in_ok-new.ensures ∙ ap (λ b. resized b c.args.length) c.slice.ensures in
    let made : c.insert.new.self.entries ≡ insert_entry nat_cmp c.self.inside.files.entries c.args.fid.0 (resized old c.args.length) = rw (← bytes) c.in_ok-insert.ensures.entries in
    let files = inserted-replaced c.args.fid.0 (resized old c.args.length) c.self.inside.files.entries c.insert.new.self.entries c.self.invariant (ap is_some found) made in
    tree_resized _ c.args.fid old found c.insert.new.self.entries c.args.length c.if-length-gt-MAX_FILE.false files ∙ ap (λ tree. applied tree (Truncate c.args.fid c.args.length)) c.self.view_is
