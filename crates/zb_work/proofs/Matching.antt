-- What is found stands for each call.
use Rattle.std.proofs.Common.{◌≡◌, ℕ, suc, List, [], ◌∷◌, length, refl, ap}
use Rattle.zb_types.specs.declared.tables.Found.{Found}
use Rattle.zb_basis.specs.declared.calls.Numbered.{Numbered}
use Rattle.zb_basis.specs.Looking.{asks_of, AreFoundFor}

-- there are as many as calls
pub as_many : (b room : ℕ) (calls : List Numbered) (found : List Found) → AreFoundFor b room (asks_of b calls) found → length calls ≡ length found
as_many b room [] [] h = refl
as_many b room [] (f ∷ fs) h = absurd h
as_many b room (k ∷ ks) [] h = absurd h
as_many b room (k ∷ ks) (f ∷ fs) h = ap suc (as_many b room ks fs h.1)
