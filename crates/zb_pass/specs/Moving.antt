-- The batch that moves blocks.
use Rattle.std.specs.Prelude.{ℕ, List, [], ◌∷◌, map, Some}
use Rattle.zb_types.specs.declared.ids.LogId.{LogId}
use Rattle.zb_types.specs.declared.ids.Ptr.{Ptr}
use Rattle.zb_delta.specs.declared.delta.Body.{Body}
use Rattle.zb_delta.specs.declared.delta.Delta.{Delta}
use Rattle.zb_delta.specs.declared.delta.Delta.TheVariants.{Clean}
use Rattle.zb_batch.specs.declared.batch.Batch.{Batch}
use Rattle.zb_batch.specs.declared.batch.Op.TheVariants.{Clean as CleanOp}

-- the delta that moves a block from where it is to this pointer, at the file's version
abbrev pub moved : Body → Ptr → Delta
moved body ptr = Clean (record body { was = Some body.now; now = ptr })

-- the deltas that move blocks to these pointers, in order
abbrev pub moves : List Body → List Ptr → List Delta
moves [] ptrs = []
moves (body ∷ bodies) [] = []
moves (body ∷ bodies) (ptr ∷ ptrs) = moved body ptr ∷ moves bodies ptrs

-- the batch with these deltas
abbrev pub clean_batch : LogId → ℕ → List Delta → Batch
clean_batch log number deltas = record { log = log; number = number; ops = CleanOp deltas ∷ [] }

-- where blocks are
abbrev pub old_ptrs : List Body → List Ptr
old_ptrs live = map (λ body. body.now) live

-- how many bytes blocks have
abbrev pub old_lengths : List Body → List ℕ
old_lengths live = map (λ body. body.now.len) live
