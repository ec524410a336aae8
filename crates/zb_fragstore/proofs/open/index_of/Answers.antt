use Rattle.zb_fragstore.proofs.Building.{is_built}
use Rattle.zb_fragstore.proofs.Ranging.{built_in_range, older_within}
use Rattle.zb_fragstore.proofs.open.index_of.Goals as goal

pub returns-clause-built : goal.returns-clause-built
returns-clause-built c slots shown =
    let h = c.in_ok-build.ensures in
    is_built c.args.geo.now c.args.headers.now c.requires.count slots _ _ (h.good slots shown) (h.older slots shown) (λ now. h.index slots now shown)

pub returns-clause-range : goal.returns-clause-range
returns-clause-range c = built_in_range c.args.geo.now c.args.headers.now c.requires.count c.requires.stand _ c.in_ok-build.field-0.older c.in_ok-build.ensures.index

pub returns-clause-within : goal.returns-clause-within
returns-clause-within c = older_within c.args.geo.now c.args.headers.now _ c.requires.count c.in_ok-build.ensures.older
