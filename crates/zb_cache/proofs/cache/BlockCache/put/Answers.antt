use Rattle.std.proofs.Common.{ap, ◌∙◌, sym, subst, true≢false, IsSome, IsOk}
use Rattle.zb_cache.specs.Entries.{SeenCache, bytes_under}
use Rattle.zb_cache.proofs.Using.{put_is}
use Rattle.zb_cache.proofs.cache.BlockCache.put.Goals as goal

pub returns-in_err-put-clause-known : goal.returns-in_err-put-clause-known
returns-in_err-put-clause-known c there =
    absurd (true≢false (sym (subst IsOk c.in_err-put.was (c.put.ensures.succeeds (subst (λ (v : SeenCache). IsSome (bytes_under c.args.ptr v.entries)) (sym c.self.view_is) there)))))

pub returns-clause-ok : goal.returns-clause-ok
returns-clause-ok c =
    rw (← c.self.view_is) (ap (λ cache. cache.entries) c.in_ok-put.ensures.entries ∙ put_is c.self.inside.held.cap c.args.ptr c.args.bytes c.self.inside.held.entries)
