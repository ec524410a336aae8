use Rattle.std.proofs.Common.{◌≡◌, ◌+◌, ◌≤◌, sym, subst, List}
use Rattle.std.specs.Prelude.{All}
use Rattle.zb_types.specs.declared.ids.Ptr.{Ptr}
use Rattle.zb_basis.specs.Looking.{asks_of, room_of}
use Rattle.zb_basis.specs.Wanting.{Holds, wanted_by}
use Rattle.zb_basis.proofs.Found.{batch-found, batch-within}
use Rattle.zb_forming.proofs.Wanted.{wanted-batch}
use Rattle.zb_forming.proofs.Asked.{ordered, ok-more}
use Rattle.zb_forming.proofs.wanting.wanted_blocks.Goals as goal

pub wanted_after-requires-clause-found : goal.wanted_after-requires-clause-found
wanted_after-requires-clause-found c = ordered c.args.geo.now.block (room_of c.args.geo.now.servers c.args.geo.now.fragment) (asks_of c.args.geo.now.block c.args.calls.now) c.args.found.now c.requires

pub returns-clause-exact : goal.returns-clause-exact
returns-clause-exact c =
    ok-more (λ (all : List Ptr). all ≡ _) (λ (all : List Ptr). all ≡ wanted_by c.args.geo.now.block c.args.calls.now c.args.found.now) _
    (λ all is. wanted-batch c.args.geo.now.block c.args.calls.now c.args.found.now c.in_ok-ptrs.ptrs all c.in_ok-s.s c.in_ok-ptrs.ensures c.in_ok-s.ensures is) c.wanted_after.ensures

pub returns-clause-found : goal.returns-clause-found
returns-clause-found c =
    ok-more (λ (all : List Ptr). all ≡ _) (λ (all : List Ptr). All (Holds c.args.found.now) all) _
    (λ all is. subst (λ (ptrs : List Ptr). All (Holds c.args.found.now) ptrs)
    (sym (wanted-batch c.args.geo.now.block c.args.calls.now c.args.found.now c.in_ok-ptrs.ptrs all c.in_ok-s.s c.in_ok-ptrs.ensures c.in_ok-s.ensures is))
    (batch-found c.args.geo.now.block c.args.calls.now c.args.found.now)) c.wanted_after.ensures

pub returns-clause-within : goal.returns-clause-within
returns-clause-within c =
    let room = room_of c.args.geo.now.servers c.args.geo.now.fragment in
    let b = c.args.geo.now.block in
    ok-more (λ (all : List Ptr). all ≡ _) (λ (all : List Ptr). All (λ (p : Ptr). p.offset + p.len ≤ room) all) _
    (λ all is. subst (λ (ptrs : List Ptr). All (λ (p : Ptr). p.offset + p.len ≤ room) ptrs)
    (sym (wanted-batch b c.args.calls.now c.args.found.now c.in_ok-ptrs.ptrs all c.in_ok-s.s c.in_ok-ptrs.ensures c.in_ok-s.ensures is))
    (batch-within b room c.args.calls.now c.args.found.now c.requires)) c.wanted_after.ensures
