use Rattle.std.proofs.Common.{◌≡◌, ◌++◌, ap, ◌∙◌}
use Rattle.zb_names.specs.Shown.{listed as entries_of}
use Rattle.zb_tables.specs.Tables.{shown_tree}
use Rattle.zb_nodes.proofs.Lists.{all_shown, listing_shown, more_shown, shown_entries}
use Rattle.zb_nodes.proofs.listing.list.Goals as goal

pub loop-path-init : goal.loop-path-init
loop-path-init c contents =
    let m = c.args.manager.now in
    let tree = shown_tree m.sizes.block m.tables contents in
    let items = c.entries-path-items.result.now in
    let names : entries_of items ≡ m.tables.names.entries = c.entries-path-items.ensures ∙ ap (λ t. t.entries) c.names.ensures in
    ap (λ es. es ++ shown_entries tree.files items) c.new-entries.ensures.items ∙ listing_shown tree.names tree.files items names

pub loop-path-preserved : goal.loop-path-preserved
loop-path-preserved c contents =
    let m = c.args.manager.now in
    rw c.in_ok-push.ensures.items
    (more_shown (shown_tree m.sizes.block m.tables contents).files c.entries-path-items.result.now c.loop-path.path-index c.loop-path-item.result c.loop-path.entries.items c.in_ok-copy.field-0 c.in_ok-listed.field-0
    c.loop-path-test.true c.loop-path-item.is c.in_ok-copy.ensures (c.in_ok-listed.ensures contents) ∙ c.loop-path.invariant contents)

pub returns : goal.returns
returns c contents =
    let m = c.args.manager.now in
    c.of.ensures ∙ all_shown (shown_tree m.sizes.block m.tables contents).files c.entries-path-items.result.now c.loop-path.path-index c.loop-path.entries.items c.loop-path-test.false ∙ c.loop-path.invariant contents
