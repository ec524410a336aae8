use Rattle.std.proofs.Common.{◌≡◌, ◌+◌, ◌≤◌, length, Some, is_some, sym, ap, ◌∙◌, arith}
use Rattle.std.specs.BTreeMap.{insert_entry}
use Rattle.std.specs.Ordering.{nat_cmp}
use Rattle.zb_types.specs.declared.calls.Call.TheVariants.{Write}
use Rattle.zb_types.specs.Keyed.{look}
use Rattle.zb_types.specs.Bytes.{written}
use Rattle.zb_types.specs.Apply.{max_file, applied}
use Rattle.zb_history.proofs.FileLists.{AreFiles-inserted, inserted-replaced, length-written}
use Rattle.zb_history.proofs.Steps.{tree_written}
use Rattle.zb_history.proofs.tree.Tree.write.Goals as goal

pub invariant_of-self-2 : goal.invariant_of-self-2
invariant_of-self-2 c =
    let old = c.in-Some.old.now in
    let bytes : c.in_ok-new.new ≡ written old c.args.offset c.args.bytes.now =
    c.in_ok-new.ensures ∙ (λ i. written (c.slice.ensures i) c.args.offset (c.slice-2.ensures i)) in
    let short : length (written old c.args.offset c.args.bytes.now) ≤ max_file =
    omega (arith, length-written old c.args.offset c.args.bytes.now, c.in-Some.ensures.short, c.if-place-len-gt-MAX_FILE.false, c.len-else-len-gt-MAX_FILE.ensures) in
    let made : c.insert.new.self.entries ≡ insert_entry nat_cmp c.self.inside.files.entries c.args.fid.0 (written old c.args.offset c.args.bytes.now) = rw (← bytes) c.in_ok-insert.ensures.entries in
    AreFiles-inserted c.args.fid.0 (written old c.args.offset c.args.bytes.now) c.self.inside.files.entries c.insert.new.self.entries c.self.invariant short made c.in_ok-insert.ensures.ordered

pub returns-clause-ok : goal.returns-clause-ok
returns-clause-ok c =
    let old = c.in-Some.old.now in
    let found : look c.args.fid.0 c.self.inside.files.entries ≡ Some old = ap (λ tree. look c.args.fid.0 tree.files) c.self.view_is ∙ sym c.in-Some.ensures.found in
    let fits : c.args.offset + length c.args.bytes.now ≤ max_file = omega (arith, c.if-place-len-gt-MAX_FILE.false, c.len-else-len-gt-MAX_FILE.ensures) in
    let bytes : c.in_ok-new.new ≡ written old c.args.offset c.args.bytes.now =
    c.in_ok-new.ensures ∙ (λ i. written (c.slice.ensures i) c.args.offset (c.slice-2.ensures i)) in
    let made : c.insert.new.self.entries ≡ insert_entry nat_cmp c.self.inside.files.entries c.args.fid.0 (written old c.args.offset c.args.bytes.now) = rw (← bytes) c.in_ok-insert.ensures.entries in
    let files = inserted-replaced c.args.fid.0 (written old c.args.offset c.args.bytes.now) c.self.inside.files.entries c.insert.new.self.entries c.self.invariant (ap is_some found) made in
    tree_written _ c.args.fid old found c.insert.new.self.entries c.args.offset c.args.bytes.now fits files ∙ ap (λ tree. applied tree (Write c.args.fid c.args.offset c.args.bytes.now)) c.self.view_is
