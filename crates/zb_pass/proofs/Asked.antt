-- A plan that writes a batch for the cleaner has a request.
use Rattle.std.proofs.Common.{◌≡◌, ℕ, ◌-◌, ◌*◌, ◌<◌, List, [], ◌∷◌, ◌++◌, length, get_or, Option, sym, ap, subst, arith}
use Rattle.std.specs.Prelude.{All}
use Rattle.std.specs.List.{flat_map, concat}
use Rattle.std.proofs.lemmas.List.{length-append}
use Rattle.zb_types.specs.declared.ids.LogId.{LogId}
use Rattle.zb_types.specs.declared.ids.Piece.{Piece}
use Rattle.zb_types.specs.declared.ids.ServerId.{ServerId}
use Rattle.zb_types.specs.declared.nodes.Class.{Class}
use Rattle.zb_types.specs.declared.nodes.Class.TheVariants.{Cleaner}
use Rattle.zb_types.specs.declared.requests.Request.{Request}
use Rattle.zb_stripe.specs.declared.flush.Part.{Part}
use Rattle.zb_stripe.specs.Writing.{part_requests, IsWritable}
use Rattle.zb_log.specs.Logs.{SeenLog, flush_of}
use Rattle.zb_log.specs.Sealing.{read_at}
use Rattle.zb_batch.specs.declared.batch.Batch.{Batch}
use Rattle.zb_batch.specs.Spelling.{spelling_of_batch}
use Rattle.zb_basis.specs.declared.basis.Formed.{Formed}
use Rattle.zb_basis.specs.Looking.{room_of}
use Rattle.zb_steps.proofs.Planned.{part_asked}
use Rattle.zb_pass.specs.Forming.{IsStored}

parts_asked : (n f : ℕ) (out : Option ServerId) (class : Class) (log : LogId) (pieces : List Piece) (parts : List Part) (new : List ℕ) → read_at pieces parts ≡ new → 0 < length new
    → All (IsWritable ((n - 1) * f)) parts → 0 < length (flat_map (part_requests n f out class log) parts)
parts_asked n f out class log [] [] new e some each = absurd (let none = ap length e in omega arith)
parts_asked n f out class log (piece ∷ pieces) [] new e some each = absurd (let none = ap length e in omega arith)
parts_asked n f out class log pieces (part ∷ parts) new e some each =
    let first = part_asked n f out class log part (each 0 part (omega arith)) in
    let long = length-append (part_requests n f out class log part) (flat_map (part_requests n f out class log) parts) in
    omega arith

-- a batch has a meta part
spelled_some : (batch : Batch) (blocks : List ℕ) → 0 < length (spelling_of_batch batch ++ blocks)
unfolding spelling_of_batch
spelled_some batch blocks = omega arith

pub stored_asked : (n f : ℕ) (log : SeenLog) (formed : Formed) (blocks : List (List ℕ)) (out : Option ServerId) (given : List ℕ) → log.room ≡ room_of n f
    → IsStored n f log formed.sealed.placed (spelling_of_batch formed.sealed.batch ++ concat blocks) blocks out formed.fresh formed.plan given → 0 < length formed.plan
stored_asked n f log formed blocks out given room s =
    let parts = (flush_of log given formed.sealed.placed (spelling_of_batch formed.sealed.batch ++ concat blocks)).parts in
    let each : All (IsWritable ((n - 1) * f)) parts = λ k part below. subst (λ (most : ℕ). IsWritable most (get_or parts k part)) room (s.next k part below).writable in
    let some = parts_asked n f out Cleaner log.log formed.sealed.placed.pieces parts (spelling_of_batch formed.sealed.batch ++ concat blocks) s.whole (spelled_some formed.sealed.batch (concat blocks)) each in
    subst (λ (rs : List (ServerId × Request)). 0 < length rs) (sym s.requests) some
