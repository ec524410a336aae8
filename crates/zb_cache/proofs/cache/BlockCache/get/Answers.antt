use Rattle.std.proofs.Common.{ap, ◌∙◌, refl, List, ℕ}
use Rattle.zb_types.specs.declared.ids.Ptr.{Ptr}
use Rattle.zb_cache.specs.Entries.{SeenCache}
use Rattle.zb_cache.proofs.Using.{use_is}
use Rattle.zb_cache.proofs.cache.BlockCache.get.Goals as goal

pub returns : goal.returns
returns c =
    let held = c.self.inside.held in
    let seen : List (Ptr × List ℕ) → SeenCache = λ entries. record { entries = entries; room = held.cap } in
    rw (← c.self.view_is) (
      (refl, λ _. tt, ap (λ now. record { entries = now.entries; room = now.cap }) c.get.follows.holds-at-none ∙ ap seen (use_is c.args.ptr.now held.entries)),
      record { used = tt; value = c.get.ensures.value },
    )
