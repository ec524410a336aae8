-- What a log has sealed is found behind its flush.
use Rattle.std.proofs.Common.{◌≡◌, ℕ, zero, suc, ◌+◌, ◌<◌, ◌≤◌, List, [], ◌∷◌, ◌++◌, length, get_or, take, drop, refl, sym, ap, ◌∙◌, subst, arith}
use Rattle.std.specs.Prelude.{Any}
use Rattle.std.specs.List.{AllByRecursion, AllZip}
use Rattle.zb_types.specs.declared.ids.LogId.{LogId}
use Rattle.zb_types.specs.declared.ids.Piece.{Piece}
use Rattle.zb_types.specs.declared.ids.Ptr.{Ptr}
use Rattle.zb_types.specs.declared.tables.HeldUse.{HeldUse}
use Rattle.zb_stripe.specs.declared.flush.Part.{Part}
use Rattle.zb_stripe_laws.specs.PartAtWork.{StripesDiffer}
use Rattle.zb_log.specs.Places.{IsWithin, range_of}
use Rattle.zb_log.specs.Logs.{IsPtrIn}
use Rattle.zb_log.specs.Sealing.{IsPartOf, StandsIn, read_at}
use Rattle.zb_tables.specs.Tables.{Contents, LiesIn, bytes_at, end_at}
use Rattle.zb_tables.specs.Fold.{held_with_all}
use Rattle.zb_tables.specs.Replay.{joined}
use Rattle.zb_tables.proofs.Holding.{with_all_in}
use Rattle.zb_sound.specs.Delivering.{with_parts}
use Rattle.zb_sound.specs.Committing.{IsInFlush}
use Rattle.zb_sound.proofs.Flushing.{parts_bytes}
use Rattle.zb_sound.proofs.Listed.{Among, among_at, among_here, among_more}

-- each piece lies in its part
pub piece_in : (log : LogId) (pieces : List Piece) (parts : List Part) → AllZip IsPartOf pieces parts → (i : ℕ) (d : Piece) → i < length pieces → IsInFlush (record { log = log; parts = parts }) (get_or pieces i d)
piece_in log [] parts zip i d l = absurd (omega arith)
piece_in log (p ∷ ps) [] zip i d l = absurd zip
piece_in log (p ∷ ps) (q ∷ qs) zip zero d l = record {
  before = [];
  after = qs;
  part = q;
  is = refl;
  stripe_is = sym zip.0.stripe;
  within = let end = zip.0.end in omega arith;
}
piece_in log (p ∷ ps) (q ∷ qs) zip (suc i) d l =
    let rest = piece_in log ps qs zip.1 i d (omega arith) in
    record { before = q ∷ rest.before; after = rest.after; part = rest.part; is = ap (λ (xs : List Part). q ∷ xs) rest.is; stripe_is = rest.stripe_is; within = rest.within }

module _ (contents : Contents) (log : LogId) (all : List Part) (differ : StripesDiffer all) where
  abbrev New : Contents
  New = with_parts contents log all

  -- the pieces join to what is read at them
  pub joins : (pieces : List Piece) (parts : List Part) → ((q : Part) → Among parts q → Among all q) → AllZip IsPartOf pieces parts → joined New log pieces ≡ read_at pieces parts
  joins [] parts among zip = refl
  joins (p ∷ ps) [] among zip = absurd zip
  joins (p ∷ ps) (q ∷ qs) among zip =
      let here : New log p.stripe ≡ q.bytes = ap (New log) (sym zip.0.stripe) ∙ parts_bytes contents log all differ q (among q (among_here q qs)) in
      ap (λ (bytes : List ℕ). take p.len (drop p.offset bytes) ++ joined New log ps) here
      ∙ ap (λ (rest : List ℕ). take p.len (drop p.offset q.bytes) ++ rest) (joins ps qs (λ r a. among r (among_more q r qs a)) zip.1)

  -- a pointer names the block that stands there
  pub block_found : (ptr : Ptr) (block : List ℕ) → ptr.log ≡ log → Any (StandsIn ptr block) all → bytes_at New ptr ≡ block
  block_found ptr block is any =
      let part = any.1 in
      let among = subst (Among all) any.3 (among_at all any.0 part any.2) in
      let stands = any.4 in
      let here : New ptr.log ptr.stripe ≡ part.bytes = ap (λ (l : LogId). New l ptr.stripe) is ∙ ap (New log) (sym stands.stripe) ∙ parts_bytes contents log all differ part among in
      ap (λ (bytes : List ℕ). take ptr.len (drop ptr.offset bytes)) here ∙ stands.bytes

at_all : (P : Piece → Type 0) (pieces : List Piece) (k : ℕ) (p : Piece) → AllByRecursion P pieces → k < length pieces → get_or pieces k p ≡ p → P p
at_all P [] k p all l e = absurd (omega arith)
at_all P (q ∷ qs) zero p all l e = subst P e all.0
at_all P (q ∷ qs) (suc k) p all l e = at_all P qs k p all.1 (omega arith) e

-- a pointer into a piece lies in what is then held
pub ptr_lies : (held : List HeldUse) (log : LogId) (born : ℕ) (pieces : List Piece) (ptr : Ptr) (n : ℕ) → 0 < n → IsPtrIn log pieces ptr n → LiesIn (held_with_all log born pieces held) ptr
ptr_lies held log born pieces ptr n some is =
    let piece = is.in_piece.1 in
    let within : IsWithin piece (range_of ptr) = is.in_piece.4 in
    let more = held_with_all log born pieces held in
    let end = at_all (λ (p : Piece). p.offset + p.len ≤ end_at more log p.stripe) pieces is.in_piece.0 piece (with_all_in log born pieces held) is.in_piece.2 is.in_piece.3 in
    let end_here : piece.offset + piece.len ≤ end_at more ptr.log ptr.stripe =
    subst (λ (l : LogId). piece.offset + piece.len ≤ end_at more l ptr.stripe) (sym is.log_is)
    (subst (λ (s : ℕ). piece.offset + piece.len ≤ end_at more log s) (sym within.stripe) end) in
    let len = is.len_is in
    let ends = within.ends in
    (omega arith, omega arith)
