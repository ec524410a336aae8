use Rattle.std.proofs.Common.{List, length, get_or, sym, ap, subst, arith}
use Rattle.zb_layout.specs.declared.span_list.Span.{Span}
use Rattle.zb_layout.specs.Ranges.{Covers, LiesWithin}
use Rattle.zb_layout.proofs.Covering.{covers, lies_within}
use Rattle.zb_layout.proofs.spans.Goals as goal

pub returns-clause-cover : goal.returns-clause-cover
returns-clause-cover c =
    let geo = c.args.geo.now in
    let ptr = c.args.ptr.now in
    subst (Covers geo.fragment ptr.offset ptr.len) (sym c.of.ensures) (covers geo.fragment ptr.offset ptr.len (omega arith))

pub returns-clause-within : goal.returns-clause-within
returns-clause-within c k d l =
    let geo = c.args.geo.now in
    let ptr = c.args.ptr.now in
    let here = lies_within geo.servers geo.fragment ptr.offset ptr.len k d (omega arith) c.requires (omega (arith, ap length c.of.ensures)) in
    subst (λ (spans : List Span). LiesWithin geo.servers geo.fragment (get_or spans k d)) (sym c.of.ensures) here
