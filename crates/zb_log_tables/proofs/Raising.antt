-- Raising the ends of stripes one behind the other.
use Rattle.std.proofs.Common.{◌≡◌, ℕ, ◌+◌, ◌≤◌, List, ◌∷◌, length, ap, ◌∙◌, arith}
use Rattle.std.specs.List.{AllByRecursion}
use Rattle.zb_types.specs.declared.ids.LogId.{LogId}
use Rattle.zb_types.specs.declared.ids.Piece.{Piece}
use Rattle.zb_tables.specs.Fold.{held_with, held_with_all}
use Rattle.zb_log_tables.specs.HeldStripes.{SeenHeld, EndFits}

pub record Raising (log : LogId) (born : ℕ) (rest all : List Piece) (now start : SeenHeld) : Type 0 where
  pub stripes : held_with_all log born rest now.stripes ≡ held_with_all log born all start.stripes
  pub room : length rest ≤ now.room
  pub ends : AllByRecursion EndFits rest

pub raising_on : (log : LogId) (born : ℕ) (p : Piece) (rest all : List Piece) (now new start : SeenHeld) → Raising log born (p ∷ rest) all now start
    → new.stripes ≡ held_with log born p now.stripes → now.room ≤ new.room + 1 → Raising log born rest all new start
raising_on log born p rest all now new start r stripes room = record {
  stripes = ap (held_with_all log born rest) stripes ∙ r.stripes;
  room = let le = r.room in omega arith;
  ends = r.ends.1;
}
