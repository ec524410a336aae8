use Rattle.std.proofs.Common.{◌≡◌, drop}
use Rattle.std.specs.Prelude.{fold}
use Rattle.zb_cache.specs.Entries.{after_use}
use Rattle.zb_work.proofs.blocks.ask_for_each.Given as goal

abbrev pub invariant-loop-ptr : goal.invariant-loop-ptr
invariant-loop-ptr l = record {
  entries : fold (λ entries p. after_use p entries) l.cache.entries (drop l.ptr-index l.wanted) ≡ fold (λ entries p. after_use p entries) l.initial.cache.entries l.wanted;
  room : l.cache.room ≡ l.initial.cache.room;
}
