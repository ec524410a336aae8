-- Behind a formed batch a log stays half full.
use Rattle.std.proofs.Common.{◌≡◌, ℕ, ◌+◌, ◌<◌, List, [], ◌∷◌, ◌++◌, length, map, arith}
use Rattle.std.proofs.lemmas.List.Sums.{sum_by-cons}
use Rattle.zb_types.specs.declared.geometry.Geometry.{Geometry}
use Rattle.zb_types.specs.declared.calls.Call.{Call}
use Rattle.zb_types.specs.declared.nodes.Members.{Members}
use Rattle.zb_headline.specs.Need.{weight}
use Rattle.zb_log.specs.Logs.{SeenLog}
use Rattle.zb_batch.specs.Spelling.{meta_length}
use Rattle.zb_basis.specs.declared.calls.Numbered.{Numbered}
use Rattle.zb_basis.specs.declared.basis.Basis.{Basis}
use Rattle.zb_basis.specs.declared.basis.Formed.{Formed}
use Rattle.zb_basis.specs.Forming.{IsFormed, Stand}
use Rattle.zb_basis.specs.Operations.{Bytes}
use Rattle.zb_need.specs.Filling.{HalfFull}
use Rattle.zb_need.specs.Weights.{updates_of, weights}
use Rattle.zb_need.proofs.Turning.{placed-half}
use Rattle.zb_need.proofs.Weighing.{formed-light}

weights-append : (geo : Geometry) (us more : List Call) → weights geo (us ++ more) ≡ weights geo us + weights geo more
weights-append geo [] more = omega arith
weights-append geo (u ∷ us) more =
    let rest = weights-append geo us more in
    let here = sum_by-cons (λ (n : ℕ). n) (weight geo u) (map (weight geo) us) in
    let all = sum_by-cons (λ (n : ℕ). n) (weight geo u) (map (weight geo) (us ++ more)) in
    omega arith

module _ (geo : Geometry) (n f b : ℕ) (log : SeenLog) (number : ℕ) (members : Members) (calls : List Numbered) (basis : Basis) (formed : Formed) (bytes : Bytes) where
  pub formed-half : (before : ℕ) → geo.block ≡ b → 0 < b → log.block ≡ b → (is : IsFormed n f b log number members calls basis formed) → Stand bytes basis.fetched formed.sealed.placed.ptrs is.blocks
      → HalfFull log.room log.next before → HalfFull log.room formed.sealed.placed.next (before + weights geo (updates_of calls))
  formed-half before same pos size is stand half =
      let light = formed-light geo n f b log number members calls basis formed bytes same pos size is stand in
      let placed = placed-half log (meta_length formed.sealed.batch) (map length is.blocks) formed.sealed.placed before is.laid.exact half in
      omega arith

  pub formed-half_more : (stored : List Call) → geo.block ≡ b → 0 < b → log.block ≡ b → (is : IsFormed n f b log number members calls basis formed) → Stand bytes basis.fetched formed.sealed.placed.ptrs is.blocks
      → HalfFull log.room log.next (weights geo stored) → HalfFull log.room formed.sealed.placed.next (weights geo (stored ++ updates_of calls))
  formed-half_more stored same pos size is stand half =
      let all = formed-half (weights geo stored) same pos size is stand half in
      let both = weights-append geo stored (updates_of calls) in
      omega arith
