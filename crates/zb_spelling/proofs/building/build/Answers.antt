use Rattle.std.proofs.Common.{refl}
use Rattle.zb_spelling.specs.Unspelling.{sizes_of}
use Rattle.zb_spelling.proofs.Uniting.{agreed, blocks_rise, built, lasts, not_kept, not_named, not_there}
use Rattle.zb_spelling.proofs.building.build.Goals as goal

pub returns-then-not-named-clause-tables : goal.returns-then-not-named-clause-tables
returns-then-not-named-clause-tables c =
    let test = rw (c.deref.ensures.value, c.deref-2.ensures.value) at c.in_ok-named.ensures in
    not_named c.args.rows c.in_ok-named.named test.1 c.if-not-named.true

pub returns-then-not-all_kept-clause-tables : goal.returns-then-not-all_kept-clause-tables
returns-then-not-all_kept-clause-tables c =
    let test = rw c.deref-3.ensures.value at c.all_kept.ensures in
    not_kept c.args.rows c.of-held.result.stripes c.of-held.ensures c.all_kept.result test.1 c.if-not-all_kept.true

pub of-logs-requires-clause-last : goal.of-logs-requires-clause-last
of-logs-requires-clause-last c = lasts c.args.rows c.requires.room

pub returns-then-not-all_there-clause-tables : goal.returns-then-not-all_there-clause-tables
returns-then-not-all_there-clause-tables c =
    not_there c.args.rows c.of-held.result.stripes c.of-held.ensures c.of-logs.result.logs c.of-logs.ensures c.all_there.result c.all_there.ensures.1 c.if-not-all_there.true

pub pointers_of-requires-clause-blocks : goal.pointers_of-requires-clause-blocks
pointers_of-requires-clause-blocks c = rw c.deref-5.ensures.value (blocks_rise c.args.rows (sizes_of c.args.geo.now) c.requires.within)

pub returns-clause-tables : goal.returns-clause-tables
returns-clause-tables c =
    let named = rw (c.deref.ensures.value, c.deref-2.ensures.value) at c.in_ok-named.ensures in
    let kept = rw c.deref-3.ensures.value at c.all_kept.ensures in
    let same = rw (c.in-Some.is, c.deref-4.ensures.value) at c.in_ok-names.ensures.same in
    let tree = rw (c.in-Some.is, c.deref-4.ensures.value) at c.in_ok-names.ensures.exact in
    let files = rw c.deref-5.ensures.value at c.in_ok-pointers.ensures.files in (
      built c.args.rows c.in-Some.names c.in_ok-pointers.pointers.files c.of-logs.result.logs c.of-held.result.stripes same files c.of-logs.ensures c.of-held.ensures,
      agreed c.args.rows c.of-held.result.stripes c.of-held.ensures c.of-logs.result.logs c.of-logs.ensures (named.0 c.if-not-named.false) (kept.0 c.if-not-all_kept.false) (c.all_there.ensures.0 c.if-not-all_there.false) (tree.0 refl),
    )
