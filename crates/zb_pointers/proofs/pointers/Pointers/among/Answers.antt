use Rattle.std.proofs.Common.{◌≡◌, IfOk, Some, None, sym, subst}
use Rattle.zb_types.proofs.KeyedLists.{IsRising-from_ordered}
use Rattle.zb_tables.specs.Finding.{among}
use Rattle.zb_pointers.specs.Seen.{blocks_of}
use Rattle.zb_pointers.proofs.Keeping.{file_found}
use Rattle.zb_pointers.proofs.pointers.Pointers.among.Goals as goal

pub returns-in-None : goal.returns-in-None
returns-in-None c =
    let es = c.self.inside.kept.entries in
    let rising = IsRising-from_ordered es c.self.invariant.1 in
    rw (← c.self.view_is) (subst (λ f. IfOk c.new.result (λ list. list ≡ among c.args.first c.args.count (blocks_of f))) (sym (file_found es rising c.args.fid.0 None c.in-None.ensures.value)) c.new.ensures)

pub returns-in-Some : goal.returns-in-Some
returns-in-Some c =
    let es = c.self.inside.kept.entries in
    let rising = IsRising-from_ordered es c.self.invariant.1 in
    rw (← c.self.view_is) (subst (λ f. IfOk c.among.result (λ list. list ≡ among c.args.first c.args.count (blocks_of f))) (sym (file_found es rising c.args.fid.0 (Some c.in-Some.kept.now) c.in-Some.ensures.value)) c.among.ensures)
