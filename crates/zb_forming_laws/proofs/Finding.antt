-- A formed batch is found behind its flush.
use Rattle.std.proofs.Common.{◌≡◌, ℕ, zero, suc, ◌+◌, ◌<◌, ◌≤◌, List, [], ◌∷◌, ◌++◌, length, map, get_or, length-append, sym, ap, ◌∙◌, subst, arith}
use Rattle.std.specs.List.{AllByRecursion, AllZip, concat, flat_map}
use Rattle.zb_types.specs.declared.ids.LogId.{LogId}
use Rattle.zb_types.specs.declared.ids.Piece.{Piece}
use Rattle.zb_types.specs.declared.ids.Ptr.{Ptr}
use Rattle.zb_types.specs.declared.nodes.Members.{Members}
use Rattle.zb_types.specs.declared.tables.HeldUse.{HeldUse}
use Rattle.zb_stripe.specs.declared.flush.Part.{Part}
use Rattle.zb_stripe_laws.specs.PartAtWork.{StripesDiffer}
use Rattle.zb_stripe_laws.proofs.Plans.{rise_differ}
use Rattle.zb_log.specs.declared.places.Place.{Place}
use Rattle.zb_log.specs.Places.{InOrder, IsWithin, end_of, range_of}
use Rattle.zb_log.specs.Logs.{AreGiven, IsPtrIn, SeenLog}
use Rattle.zb_log.specs.Sealing.{GoesNext, IsPartOf, StandEach, read_at}
use Rattle.zb_delta.specs.Spelling.{body_of}
use Rattle.zb_batch.specs.declared.batch.Op.{Op}
use Rattle.zb_batch.specs.Spelling.{deltas_of, spelling_of_batch}
use Rattle.zb_batch.proofs.Whole.{length-spelling_of_batch}
use Rattle.zb_tables.specs.Tables.{Contents, LiesIn, bytes_at}
use Rattle.zb_tables.specs.Fold.{held_with_all}
use Rattle.zb_tables.specs.Pointing.{AllNow, OpsLie}
use Rattle.zb_tables.specs.Replay.{IsBatchIn, joined}
use Rattle.zb_tables.specs.Taking.{IsPiece, IsPointer, Sizes, stripe_room}
use Rattle.zb_sound.specs.Delivering.{with_parts}
use Rattle.zb_sound.specs.Committing.{AreInFlush}
use Rattle.zb_sound.proofs.Sealings.{block_found, joins, piece_in, ptr_lies}
use Rattle.zb_basis.specs.declared.calls.Numbered.{Numbered}
use Rattle.zb_basis.specs.declared.basis.Basis.{Basis}
use Rattle.zb_basis.specs.declared.basis.Formed.{Formed}
use Rattle.zb_basis.specs.Forming.{IsFormed, IsStored, writers_out}
use Rattle.zb_basis.specs.Operations.{new_ptrs}
use Rattle.zb_basis.proofs.Each.{each-of}
use Rattle.zb_forming_laws.specs.Flushing.{contents_with, flush_with}
use Rattle.zb_forming_laws.proofs.Updating.{each-back, each-front, each-now}

zip-each : {A B : Type 0} (R : A → B → Type 0) (Q : B → Type 0) (P : A → Type 0) (xs : List A) (ys : List B) → ((x : A) (y : B) → R x y → Q y → P x) → AllZip R xs ys → AllByRecursion Q ys → AllByRecursion P xs
zip-each R Q P [] [] f zip all = tt
zip-each R Q P [] (y ∷ ys) f zip all = absurd zip
zip-each R Q P (x ∷ xs) [] f zip all = absurd zip
zip-each R Q P (x ∷ xs) (y ∷ ys) f zip all = (f x y zip.0 all.0, zip-each R Q P xs ys f zip.1 all.1)

-- what holds of each new pointer, operation by operation
each-op : (P : Ptr → Type 0) (os : List Op) → AllByRecursion P (new_ptrs os) → AllByRecursion (λ (o : Op). AllNow P (deltas_of o)) os
each-op P [] all = tt
each-op P (o ∷ os) all = (
  each-now P (deltas_of o) (each-front P (flat_map (λ d. (body_of d).now ∷ []) (deltas_of o)) (new_ptrs os) all),
  each-op P os (each-back P (flat_map (λ d. (body_of d).now ∷ []) (deltas_of o)) (new_ptrs os) all),
)

stand-by : (contents : Contents) (log : LogId) (parts : List Part) (differ : StripesDiffer parts) (pieces : List Piece) (ptrs : List Ptr) (blocks : List (List ℕ))
    → AllZip (IsPtrIn log pieces) ptrs (map length blocks) → StandEach parts ptrs blocks → AllZip (λ p block. bytes_at (with_parts contents log parts) p ≡ block) ptrs blocks
stand-by contents log parts differ pieces [] [] are stand = tt
stand-by contents log parts differ pieces [] (block ∷ blocks) are stand = absurd stand
stand-by contents log parts differ pieces (p ∷ ps) [] are stand = absurd stand
stand-by contents log parts differ pieces (p ∷ ps) (block ∷ blocks) are stand = (block_found contents log parts differ p block are.0.log_is stand.0, stand-by contents log parts differ pieces ps blocks are.1 stand.1)

piece-at : (P : Piece → Type 0) (pieces : List Piece) (k : ℕ) (p : Piece) → AllByRecursion P pieces → k < length pieces → get_or pieces k p ≡ p → P p
piece-at P [] k p all l e = absurd (omega arith)
piece-at P (q ∷ qs) zero p all l e = subst P e all.0
piece-at P (q ∷ qs) (suc k) p all l e = piece-at P qs k p all.1 (omega arith) e

-- pieces in order lie within their stripes
in-order : (room : ℕ) (from : Place) (pieces : List Piece) (to : Place) → InOrder room from pieces to → AllByRecursion (λ (p : Piece). p.offset + p.len ≤ room) pieces
in-order room from [] to order = tt
in-order room from (piece ∷ pieces) to order = (order.0.within, in-order room (end_of piece) pieces to order.1)

module _ (n f b : ℕ) (log : SeenLog) (number : ℕ) (members : Members) (calls : List Numbered) (basis : Basis) (formed : Formed) (is : IsFormed n f b log number members calls basis formed) where
  abbrev Pieces : List Piece
  Pieces = formed.sealed.placed.pieces

  -- what holds of a pointer into the pieces to a block of so many bytes holds of each new pointer
  ptrs-are : (P : Ptr → Type 0) → ((p : Ptr) (n : ℕ) → IsPtrIn log.log Pieces p n → (1 ≤ n) × (n ≤ log.block) → P p) → AllByRecursion (λ (o : Op). AllNow P (deltas_of o)) formed.sealed.batch.ops
  ptrs-are P g =
      each-op P formed.sealed.batch.ops (subst (AllByRecursion P) (sym is.is_batch.new)
      (zip-each (IsPtrIn log.log Pieces) (λ (n : ℕ). (1 ≤ n) × (n ≤ log.block)) P formed.sealed.placed.ptrs (map length is.blocks) g is.laid.ptrs
      (each-of (λ (n : ℕ). (1 ≤ n) × (n ≤ log.block)) (map length is.blocks) is.laid.exact.lens)))

  pub ops-lie : (born : ℕ) (held : List HeldUse) → OpsLie (held_with_all log.log born Pieces held) formed.sealed.batch.ops
  ops-lie born held = ptrs-are (LiesIn (held_with_all log.log born Pieces held)) (λ p n in_pieces some. ptr_lies held log.log born Pieces p n some.0 in_pieces)

  module _ (given : List ℕ) (are : AreGiven log given) where
    abbrev Parts : List Part
    Parts = (flush_with log given formed is.blocks).parts

    abbrev Stored : IsStored n f log formed.sealed.placed (spelling_of_batch formed.sealed.batch ++ concat is.blocks) is.blocks (writers_out members.state) formed.fresh formed.plan given
    Stored = is.stored given are

    differ : StripesDiffer Parts
    differ = rise_differ Parts Stored.rise

    pub blocks-stand : (contents : Contents) → AllZip (λ p block. bytes_at (contents_with contents log given formed is.blocks) p ≡ block) formed.sealed.placed.ptrs is.blocks
    blocks-stand contents = stand-by contents log.log Parts differ Pieces formed.sealed.placed.ptrs is.blocks is.laid.ptrs Stored.stand

    pub batch-spelled : (contents : Contents) → 1 ≤ number → IsBatchIn (joined (contents_with contents log given formed is.blocks) log.log Pieces) log.log number formed.sealed.batch
    batch-spelled contents some = record {
      log_is = is.is_batch.of_log;
      number_is = is.is_batch.numbered;
      valid = is.whole some;
      rest = concat is.blocks;
      begins = sym (joins contents log.log Parts differ Pieces Parts (λ q a. a) Stored.pieces ∙ Stored.whole);
    }

    pub pieces-in : AreInFlush (flush_with log given formed is.blocks) Pieces
    pieces-in i d l = piece_in log.log Pieces Parts Stored.pieces i d l

    pub pieces-fit : (z : Sizes) → log.room ≡ stripe_room z → AllByRecursion (IsPiece z) Pieces
    pieces-fit z room =
        zip-each IsPartOf (GoesNext log.room log.next.stripe given) (IsPiece z) Pieces Parts
        (λ piece part same goes.
        let stripe = same.stripe in
        let end = same.end in
        let lasting = goes.lasting in
        let new = goes.writable.new in
        let within = goes.writable.room in
        record { stripe = omega arith; some = omega arith; within = omega arith })
        Stored.pieces (each-of (GoesNext log.room log.next.stripe given) Parts Stored.next)

    -- the pieces are of the stripe at work or of later ones
    pub pieces-ahead : AllByRecursion (λ (p : Piece). log.next.stripe ≤ p.stripe) Pieces
    pieces-ahead =
        zip-each IsPartOf (GoesNext log.room log.next.stripe given) (λ (p : Piece). log.next.stripe ≤ p.stripe) Pieces Parts
        (λ piece part same goes. let stripe = same.stripe in let above = goes.above in omega arith)
        Stored.pieces (each-of (GoesNext log.room log.next.stripe given) Parts Stored.next)

    pub some-piece : 1 ≤ length Pieces
    some-piece = by Pieces Parts Stored.whole where
      by : (pieces : List Piece) (parts : List Part) → read_at pieces parts ≡ spelling_of_batch formed.sealed.batch ++ concat is.blocks → 1 ≤ length pieces
      by [] parts e =
          let n = ap length e in
          let whole = length-append (spelling_of_batch formed.sealed.batch) (concat is.blocks) in
          let meta = length-spelling_of_batch formed.sealed.batch in
          absurd (omega arith)
      by (piece ∷ pieces) parts e = omega arith

module _ (z : Sizes) (log : SeenLog) (number : ℕ) (members : Members) (calls : List Numbered) (basis : Basis) (formed : Formed) (is : IsFormed z.servers z.fragment z.block log number members calls basis formed)
    (room : log.room ≡ stripe_room z) (size : log.block ≡ z.block) where
  in-room : (pieces : List Piece) → AllByRecursion (λ (p : Piece). p.offset + p.len ≤ log.room) pieces → (p : Ptr) (n : ℕ) → IsPtrIn log.log pieces p n → (1 ≤ n) × (n ≤ log.block) → IsPointer z p
  in-room pieces fit p n into some =
      let piece = into.in_piece.1 in
      let within : IsWithin piece (range_of p) = into.in_piece.4 in
      let end = piece-at (λ (p : Piece). p.offset + p.len ≤ log.room) pieces into.in_piece.0 piece fit into.in_piece.2 into.in_piece.3 in
      let ends = within.ends in
      let len = into.len_is in
      record { some = omega (arith, some.0); block = omega (arith, some.1); within = omega arith }

  pub pointers-fit : AllByRecursion (λ (o : Op). AllNow (IsPointer z) (deltas_of o)) formed.sealed.batch.ops
  pointers-fit = ptrs-are z.servers z.fragment z.block log number members calls basis formed is (IsPointer z) (in-room formed.sealed.placed.pieces (in-order log.room log.next formed.sealed.placed.pieces formed.sealed.placed.next is.laid.order))
