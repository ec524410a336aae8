-- A plan that writes new bytes has a request, whichever server is left away.
use Rattle.std.proofs.Common.{◌≡◌, ℕ, zero, suc, ◌+◌, ◌-◌, ◌*◌, ◌<◌, ◌≤◌, Bool, true, false, eqb, List, [], ◌∷◌, ◌++◌, length, take, drop, get_or, Option, Some, None, refl, sym, ap, subst, ◌∙◌, inl, inr, arith}
use Rattle.std.specs.Prelude.{All, codes}
use Rattle.std.specs.List.{flat_map, concat}
use Rattle.std.proofs.Math.Nat.{suc-mul}
use Rattle.std.proofs.lemmas.Bool.{cond_both, cases_lt, cases_Bool, eqb-true}
use Rattle.std.proofs.lemmas.List.{length-append, length-drop}
use Rattle.zb_types.specs.declared.ids.LogId.{LogId}
use Rattle.zb_types.specs.declared.ids.Piece.{Piece}
use Rattle.zb_types.specs.declared.ids.ServerId.{ServerId}
use Rattle.zb_types.specs.declared.ids.FragId.{FragId}
use Rattle.zb_types.specs.declared.nodes.Class.{Class}
use Rattle.zb_types.specs.declared.nodes.Class.TheVariants.{Client}
use Rattle.zb_types.specs.declared.requests.Request.{Request}
use Rattle.zb_types.specs.declared.requests.Request.TheVariants as ask
use Rattle.zb_holding.specs.Placing.{share_length, share_of, frag_id, server_of}
use Rattle.zb_holding.specs.Holding.{is_away}
use Rattle.zb_holding.proofs.Placings.{one_index}
use Rattle.zb_holding.proofs.Shares.{length-share_of}
use Rattle.zb_stripe.specs.declared.flush.Part.{Part}
use Rattle.zb_stripe.specs.Writing.{grow, unless_out, new_bytes, share_request, share_requests, lengths_of, parity_bytes, parity_request, part_requests, plan_requests, IsWritable}
use Rattle.zb_log.specs.Logs.{SeenLog, AreGiven, flush_of}
use Rattle.zb_log.specs.Sealing.{GoesNext, read_at}
use Rattle.zb_batch.specs.declared.batch.Batch.{Batch}
use Rattle.zb_batch.specs.Spelling.{spelling_of_batch}
use Rattle.zb_basis.specs.declared.calls.Numbered.{Numbered}
use Rattle.zb_basis.specs.declared.basis.Basis.{Basis}
use Rattle.zb_basis.specs.declared.basis.Formed.{Formed}
use Rattle.zb_types.specs.declared.nodes.Members.{Members}
use Rattle.zb_basis.specs.Forming.{IsFormed, IsStored, writers_out}
use Rattle.zb_basis.specs.Looking.{room_of}

-- a share that has more of the first `long` bytes than of the first `begin`
pub record Grows (f begin long m : ℕ) : Type 0 where
  pub at : ℕ
  pub below : at < m
  pub more : share_length f begin at < share_length f long at

-- where bytes are added to m shares, one of them grows
pub grows : (f begin long m : ℕ) → begin < long → long ≤ m * f → Grows f begin long m
grows f begin long zero some room = absurd (omega arith)
grows f begin long (suc j) some room =
    let split = suc-mul j f in
    elim (cases_lt (j * f) long) [
      | inl over ↦ record { at = j; below = omega arith; more = omega arith }
      | inr within ↦ let one = grows f begin long j some within in record { at = one.at; below = omega (arith, one.below); more = one.more }
    ]

module _ (n f : ℕ) (out : Option ServerId) (class : Class) (log : LogId) (part : Part) where
  Id : ℕ → FragId
  Id k = frag_id log part.stripe k

  asked : (k : ℕ) (request : Request) → is_away out (server_of n (frag_id log part.stripe k)) ≡ false → 0 < length (unless_out n out (frag_id log part.stripe k) request)
  asked k request here =
      cond_both (is_away out (server_of n (frag_id log part.stripe k))) [] ((server_of n (frag_id log part.stripe k), request) ∷ []) (λ rs. 0 < length rs)
      (λ e. absurd (cc (e, here))) (λ e. omega arith)

  -- a share that grows is asked for, where its server isn't left away
  share_asked : (k : ℕ) → share_length f part.begin k < share_length f (length part.bytes) k → is_away out (server_of n (frag_id log part.stripe k)) ≡ false
      → 0 < length (share_request n f out class log part k)
  share_asked k more here =
      let id = frag_id log part.stripe k in
      let long = length-drop (share_length f part.begin k) (share_of f part.bytes k) in
      let all = length-share_of f part.bytes k in
      cond_both (eqb (length (new_bytes f part k)) 0) [] (unless_out n out id (grow id class (share_length f part.begin k) (new_bytes f part k))) (λ rs. 0 < length rs)
      (λ e. absurd (let none = eqb-true (length (new_bytes f part k)) 0 e in omega arith)) (λ e. asked k (grow id class (share_length f part.begin k) (new_bytes f part k)) here)

  shares_asked : (m k : ℕ) → k < m → 0 < length (share_request n f out class log part k) → 0 < length (share_requests n f out class log part m)
  shares_asked zero k below some = absurd (omega arith)
  shares_asked (suc j) k below some =
      let long = length-append (share_requests n f out class log part j) (share_request n f out class log part j) in
      elim (cases_lt k j) [
        | inl earlier ↦ let those = shares_asked j k earlier some in omega arith
        | inr last ↦ let here = subst (λ (i : ℕ). 0 < length (share_request n f out class log part i)) (let e : k ≡ j = omega arith in e) some in omega arith
      ]

  parity_asked : is_away out (server_of n (frag_id log part.stripe (n - 1))) ≡ false → 0 < length (parity_request n f out class log part)
  parity_asked here = asked (n - 1) (ask.Parity (frag_id log part.stripe (n - 1)) (lengths_of n f part) (parity_bytes n f part) class) here

-- of two fragments of a stripe one at most is on the server that is left away
one_away : (n : ℕ) (out : Option ServerId) (log : LogId) (stripe k : ℕ) → k < n - 1 → is_away out (server_of n (frag_id log stripe k)) ≡ true
    → is_away out (server_of n (frag_id log stripe (n - 1))) ≡ true → ⊥
one_away n None log stripe k below one other = absurd (cc one)
one_away n (Some x) log stripe k below one other =
    let a = eqb-true x.0 (server_of n (frag_id log stripe k)).0 one in
    let b = eqb-true x.0 (server_of n (frag_id log stripe (n - 1))).0 other in
    let same : server_of n (frag_id log stripe k) ≡ server_of n (frag_id log stripe (n - 1)) = ap (λ (s : ℕ). let server : ServerId = record { 0 = s } in server) (sym a ∙ b) in
    let index = one_index n log stripe k (n - 1) (omega arith) (omega arith) same in
    omega arith

-- new bytes are asked for
pub part_asked : (n f : ℕ) (out : Option ServerId) (class : Class) (log : LogId) (part : Part) → IsWritable ((n - 1) * f) part → 0 < length (part_requests n f out class log part)
part_asked n f out class log part w =
    let one = grows f part.begin (length part.bytes) (n - 1) w.new w.room in
    let long = length-append (share_requests n f out class log part (n - 1)) (parity_request n f out class log part) in
    elim (cases_Bool (is_away out (server_of n (frag_id log part.stripe one.at)))) [
      | inl gone ↦
          elim (cases_Bool (is_away out (server_of n (frag_id log part.stripe (n - 1))))) [
            | inl both ↦ absurd (one_away n out log part.stripe one.at one.below gone both)
            | inr here ↦ let asked = parity_asked n f out class log part here in omega arith
          ]
      | inr here ↦
          let asked = shares_asked n f out class log part (n - 1) one.at one.below (share_asked n f out class log part one.at one.more here) in
          omega arith
    ]

parts_asked : (n f : ℕ) (out : Option ServerId) (class : Class) (log : LogId) (pieces : List Piece) (parts : List Part) (new : List ℕ) → read_at pieces parts ≡ new → 0 < length new
    → All (IsWritable ((n - 1) * f)) parts → 0 < length (flat_map (part_requests n f out class log) parts)
parts_asked n f out class log [] [] new e some each = absurd (let none = ap length e in omega arith)
parts_asked n f out class log (piece ∷ pieces) [] new e some each = absurd (let none = ap length e in omega arith)
parts_asked n f out class log pieces (part ∷ parts) new e some each =
    let first = part_asked n f out class log part (each 0 part (omega arith)) in
    let long = length-append (part_requests n f out class log part) (flat_map (part_requests n f out class log) parts) in
    omega arith

-- a batch has a meta part
spelled_some : (batch : Batch) (blocks : List ℕ) → 0 < length (spelling_of_batch batch ++ blocks)
unfolding spelling_of_batch
spelled_some batch blocks = omega arith

pub stored_asked : (n f : ℕ) (log : SeenLog) (formed : Formed) (blocks : List (List ℕ)) (out : Option ServerId) (given : List ℕ) → log.room ≡ room_of n f
    → IsStored n f log formed.sealed.placed (spelling_of_batch formed.sealed.batch ++ concat blocks) blocks out formed.fresh formed.plan given → 0 < length formed.plan
stored_asked n f log formed blocks out given room s =
    let parts = (flush_of log given formed.sealed.placed (spelling_of_batch formed.sealed.batch ++ concat blocks)).parts in
    let each : All (IsWritable ((n - 1) * f)) parts = λ k part below. subst (λ (most : ℕ). IsWritable most (get_or parts k part)) room (s.next k part below).writable in
    let some = parts_asked n f out Client log.log formed.sealed.placed.pieces parts (spelling_of_batch formed.sealed.batch ++ concat blocks) s.whole (spelled_some formed.sealed.batch (concat blocks)) each in
    subst (λ (rs : List (ServerId × Request)). 0 < length rs) (sym s.requests) some

-- a batch that is formed has a request
pub formed_asked : (n f b : ℕ) (log : SeenLog) (number : ℕ) (members : Members) (calls : List Numbered) (basis : Basis) (formed : Formed) (given : List ℕ) → log.room ≡ room_of n f → AreGiven log given
    → IsFormed n f b log number members calls basis formed → 0 < length formed.plan
formed_asked n f b log number members calls basis formed given room are is = stored_asked n f log formed is.blocks (writers_out members.state) given room (is.stored given are)
