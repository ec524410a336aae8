use Rattle.std.proofs.Common.{◌≡◌, ◌++◌, List, ℕ, length, map, sym, ap, subst, ◌∙◌, arith}
use Rattle.std.specs.List.{concat}
use Rattle.std.proofs.lemmas.Grind.{common_steps}
use Rattle.std.proofs.lemmas.List.Elements.{All-from_recursion}
use Rattle.zb_stripe.specs.declared.flush.Fresh.{Fresh}
use Rattle.zb_stripe.specs.Fresh.{AreFresh}
use Rattle.zb_types.specs.declared.ids.Piece.{Piece}
use Rattle.zb_stripe.specs.Writing.{parity_upto}
use Rattle.zb_log.specs.Sealing.{parts_of, HaveBytes, GoesNext}
use Rattle.zb_log.specs.Logs.{SeenLog, AreGiven, IsSound, IsPlaced, ForGiven}
use Rattle.zb_log.proofs.Parting.{can_seal, goes_behind, all_room, all_ahead}
use Rattle.zb_log.proofs.log.LogBuf.seal.Goals as goal

pub fresh_parts-requires : goal.fresh_parts-requires
fresh_parts-requires c =
    let placed = subst (λ (z : SeenLog). IsPlaced z (length c.args.meta.now) (map length c.args.blocks.now) c.args.placed.now) (sym c.self.view_is) c.requires in
    let behind = goes_behind _ c.args.meta.now c.args.blocks.now c.args.placed.now c.self.invariant placed in
    grind (arith, common_steps)

-- what is told of the fields, of the log
told : (v seen : SeenLog) (given parity new bytes : List ℕ) (pieces all : List Piece) (parts made : List Fresh) → v ≡ seen → parity ≡ v.parity → pieces ≡ all → bytes ≡ new → made ≡ parts
    → (parity ≡ parity_upto v.servers v.fragment given → HaveBytes v.next.stripe given pieces bytes → AreFresh v.servers v.fragment (parts_of v.next.stripe given pieces bytes) parts)
    → AreGiven seen given → HaveBytes seen.next.stripe given all new → AreFresh seen.servers seen.fragment (parts_of seen.next.stripe given all new) made
told v seen given parity new bytes pieces all parts made is p q b m each are have =
    subst (AreFresh seen.servers seen.fragment (parts_of seen.next.stripe given all new)) (sym m)
    (subst (λ (z : SeenLog). AreGiven z given → HaveBytes z.next.stripe given all new → AreFresh z.servers z.fragment (parts_of z.next.stripe given all new) parts) is
    (λ are have.
    subst (λ (zs : List Piece). AreFresh v.servers v.fragment (parts_of v.next.stripe given zs new) parts) q
    (subst (λ (bs : List ℕ). AreFresh v.servers v.fragment (parts_of v.next.stripe given pieces bs) parts) b
    (each (p ∙ are.parity) (subst (λ (zs : List Piece). HaveBytes v.next.stripe given zs bytes) (sym q) (subst (λ (bs : List ℕ). HaveBytes v.next.stripe given all bs) (sym b) have)))))
    are have)

pub returns : goal.returns
returns c =
    let seen = c.args.self.now in
    let meta = c.args.meta.now in
    let blocks = c.args.blocks.now in
    let placed = c.args.placed.now in
    let s = subst IsSound c.self.view_is c.self.invariant in
    let can = λ (given : List ℕ) (are : AreGiven seen given). can_seal seen given meta blocks placed s are.long c.requires in
    let new = meta ++ concat blocks in
    let log_is = ap (λ (z : SeenLog). z.log) c.self.view_is in
    let fresh : ForGiven seen (λ given. AreFresh seen.servers seen.fragment (parts_of seen.next.stripe given placed.pieces new) c.of.result) =
    λ given are. told _ seen given c.deref.result.now new c.deref-2.result.now c.slice.result.now placed.pieces c.in_ok-parts.parts.items c.of.result c.self.view_is c.deref.ensures.value c.slice.ensures
    (c.deref-2.ensures.value ∙ c.in_ok-new.ensures) c.of.ensures (c.in_ok-parts.ensures given) are (can given are).have in
    record {
      sealed = record { meta = meta; blocks = blocks; is_placed = c.requires; parts = λ given are. record { log = log_is; parts = fresh given are } };
      log = log_is;
      fresh = λ given are. record { log = log_is; parts = fresh given are };
      room = all_room seen meta blocks placed s c.requires c.of.result fresh;
      ahead = all_ahead seen meta blocks placed s c.requires c.of.result fresh;
      whole = λ given are. (can given are).reads;
      pieces = λ given are. (can given are).are;
      blocks = λ given are. (can given are).stand;
      next = λ given are. All-from_recursion (GoesNext seen.room seen.next.stripe given) (parts_of seen.next.stripe given placed.pieces new) (can given are).each;
      rise = λ given are. (can given are).rise;
      end = λ given are. (can given are).ends;
    }
