use Rattle.std.proofs.Common.{◌++◌, drop, sym, ap, subst, ◌∙◌}
use Rattle.std.specs.Map.{keys_of}
use Rattle.zb_names.specs.Shown.{listed}
use Rattle.zb_names.specs.Placing.{SeenEntries, IsPlace, from_start}
use Rattle.zb_names.proofs.Places.{listed-drop, drop-place}
use Rattle.zb_names.proofs.entries.EntryList.from_path.Goals as goal

pub returns-clause-rest : goal.returns-clause-rest
returns-clause-rest c =
    let items = c.self.inside.items.items in
    let key = c.args.head.now ++ c.args.tail.now in
    let i = c.place-i.result in
    let place : IsPlace key (keys_of (listed items)) i = subst (λ (s : SeenEntries). IsPlace key (keys_of s.entries) i) (sym c.self.view_is) c.place-i.ensures.place in
    ap listed (c.split_at.ensures.back ∙ ap (drop i) c.deref.ensures.value) ∙ listed-drop i items ∙ drop-place key (listed items) i place.before place.behind
    ∙ ap (λ (s : SeenEntries). from_start key s.entries) c.self.view_is
