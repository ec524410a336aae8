-- What is found of tables in form fits what was asked.
use Rattle.std.proofs.Common.{◌≡◌, ℕ, ◌+◌, ◌<◌, true, ◌&&◌, List, [], ◌∷◌, Option, Some, None, refl, arith}
use Rattle.std.specs.Prelude.{nat_le, nat_lt, All, AllPairs}
use Rattle.std.specs.List.{AllByRecursion}
use Rattle.std.proofs.lemmas.Bool.{and_parts, leb-true, ltb-true}
use Rattle.std.proofs.lemmas.List.Kept.{AllPairs-cons, AllPairs-filter}
use Rattle.std.proofs.lemmas.List.Elements.{All-nil, All-cons}
use Rattle.zb_types.specs.declared.ids.Ptr.{Ptr}
use Rattle.zb_types.specs.declared.nodes.Members.{Members}
use Rattle.zb_types.specs.Keyed.{look}
use Rattle.zb_types.proofs.KeyedLists.{IsRising, IsRising-from_ordered}
use Rattle.zb_basis.specs.declared.asks.Ask.{Ask}
use Rattle.zb_basis.specs.Looking.{IsFoundBlock, MayFind, AreFoundFor}
use Rattle.zb_tables.specs.Tables.{FileState, Tables}
use Rattle.zb_tables.specs.Taking.{Sizes, IsPointer, stripe_room}
use Rattle.zb_tables.specs.Finding.{among, found_in}
use Rattle.zb_tables.specs.Checkpoint.{AreTables, IsFile, IsPlace}
use Rattle.zb_tables.proofs.Alls.{all_filter, all_keyed}
use Rattle.zb_turns.specs.Turns.{all_found}

-- what holds of each element, by places
by_places : {A : Type 0} (P : A → Type 0) (xs : List A) → AllByRecursion P xs → All P xs
by_places P [] all = All-nil P
by_places P (x ∷ xs) all = All-cons P x xs all.0 (by_places P xs all.1)

abbrev Blocks : Type 0
Blocks = List (ℕ × Ptr)

-- blocks in the order of their numbers
blocks_rise : (blocks : Blocks) → IsRising blocks → AllPairs (λ (one other : ℕ × Ptr). one.0 < other.0) blocks
blocks_rise [] rising = λ i j d lt below. absurd (omega (arith, below))
blocks_rise (e ∷ es) rising = AllPairs-cons (λ (one other : ℕ × Ptr). one.0 < other.0) e es (by_places (λ (other : ℕ × Ptr). e.0 < other.0) es rising.0) (blocks_rise es rising.1)

module _ (z : Sizes) (members : Members) (ask : Ask) where
  one_found : (k : ℕ × Ptr) → (nat_le ask.first k.0 && nat_lt k.0 (ask.first + ask.count)) ≡ true → IsPointer z k.1 × IsPlace k.1 → IsFoundBlock z.block (stripe_room z) ask k
  one_found k test is =
      let parts = and_parts (nat_le ask.first k.0) (nat_lt k.0 (ask.first + ask.count)) test in
      record { begins = leb-true _ _ parts.0; ends = ltb-true _ _ parts.1; some = is.0.some; fits = is.0.block; within = is.0.within }

  file_found : (next : ℕ) (e : ℕ × FileState) → IsFile z next e → MayFind z.block (stripe_room z) ask (found_in members ask.first ask.count (Some e.1))
  file_found next e is =
      let test = λ (k : ℕ × Ptr). nat_le ask.first k.0 && nat_lt k.0 (ask.first + ask.count) in
      record {
        version = is.version.1;
        blocks = by_places (IsFoundBlock z.block (stripe_room z) ask) (among ask.first ask.count (e.1).blocks)
            (all_filter test (λ k. IsPointer z k.1 × IsPlace k.1) (IsFoundBlock z.block (stripe_room z) ask) one_found (e.1).blocks is.pointers);
        rise = AllPairs-filter (λ (one other : ℕ × Ptr). one.0 < other.0) test (e.1).blocks (blocks_rise (e.1).blocks (IsRising-from_ordered (e.1).blocks is.rising));
        long = is.short;
      }

  in_files : (next fid : ℕ) (files : List (ℕ × FileState)) → AllByRecursion (IsFile z next) files → (o : Option FileState) → look fid files ≡ o
      → MayFind z.block (stripe_room z) ask (found_in members ask.first ask.count o)
  in_files next fid files all None is = record {
    version = omega arith;
    blocks = All-nil (IsFoundBlock z.block (stripe_room z) ask);
    rise = blocks_rise [] tt;
    long = omega arith;
  }
  in_files next fid files all (Some file) is = file_found next (fid, file) (all_keyed (IsFile z next) fid file files all is)

pub all_may_be_found : (z : Sizes) (t : Tables) (asks : List Ask) → AreTables z t → AreFoundFor z.block (stripe_room z) asks (all_found t asks)
all_may_be_found z t [] are = tt
all_may_be_found z t (ask ∷ asks) are = (in_files z t.members ask t.names.next ask.fid.0 t.files are.files (look ask.fid.0 t.files) refl, all_may_be_found z t asks are)
