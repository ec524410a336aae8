-- The lookups of a batch stay current, one by one.
use Rattle.std.proofs.Common.{◌≡◌, ℕ, false, List, [], ◌∷◌, refl, sym}
use Rattle.std.specs.Prelude.{Ok}
use Rattle.std.specs.List.{AllByRecursion, AllZip}
use Rattle.zb_types.specs.declared.ids.LogId.{LogId}
use Rattle.zb_types.specs.declared.ids.Piece.{Piece}
use Rattle.zb_types.specs.declared.tables.Found.{Found}
use Rattle.zb_delta.specs.declared.delta.Delta.{Delta}
use Rattle.zb_batch.specs.declared.batch.Op.{Op}
use Rattle.zb_batch.specs.declared.batch.Op.TheVariants.{Clean}
use Rattle.zb_tables.specs.Tables.{Contents, EachFile, PointsIn, SameIn, Tables}
use Rattle.zb_tables.specs.Fold.{Shelf, all_moved, committed, done_ops, shelf_of}
use Rattle.zb_tables.specs.Checkpoint.{AreTables}
use Rattle.zb_tables.specs.Leaving.{IsOfUpdate}
use Rattle.zb_tables.specs.Pointing.{AllCopies}
use Rattle.zb_tables.specs.Taking.{Sizes, any_wears}
use Rattle.zb_sound.specs.LookupsCurrent.{SameFound}
use Rattle.zb_sound.proofs.Looked.{beside_current, copies_current, grown_current, opened, updates_current}
use Rattle.zb_sound.proofs.Saying.{file_form}
use Rattle.zb_basis.specs.declared.asks.Ask.{Ask}
use Rattle.zb_basis.specs.declared.calls.Numbered.{Numbered}
use Rattle.zb_basis.specs.Looking.{asks_of}
use Rattle.zb_forming_laws.specs.Resting.{AreCurrent, IsCurrentFor}

zip-map : {A B : Type 0} (R S : A → B → Type 0) (Q : B → Type 0) (xs : List A) (ys : List B) → ((x : A) (y : B) → Q y → R x y → S x y) → AllByRecursion Q ys → AllZip R xs ys → AllZip S xs ys
zip-map R S Q [] [] f all zip = tt
zip-map R S Q [] (y ∷ ys) f all zip = absurd zip
zip-map R S Q (x ∷ xs) [] f all zip = absurd zip
zip-map R S Q (x ∷ xs) (y ∷ ys) f all zip = (f x y all.0 zip.0, zip-map R S Q xs ys f all.1 zip.1)

each-unit : {B : Type 0} (ys : List B) → AllByRecursion (λ (y : B). Unit {0}) ys
each-unit [] = tt
each-unit (y ∷ ys) = (tt, each-unit ys)

module _ (b : ℕ) (calls : List Numbered) (founds : List Found) where
  pub all-grown : (contents new : Contents) (t : Tables) → AllByRecursion (SameFound contents new) founds → SameIn t.held contents new → EachFile (PointsIn t.held) t.files
      → AreCurrent b contents t calls founds → AreCurrent b new t calls founds
  all-grown contents new t looked same points current =
      zip-map (IsCurrentFor contents t) (IsCurrentFor new t) (SameFound contents new) (asks_of b calls) founds
      (λ ask found same_found w. grown_current t ask.fid.0 ask.first ask.count found contents new same_found same points w) looked current

  all-pass : (contents : Contents) (t new : Tables) → ((ask : Ask) (found : Found) → IsCurrentFor contents t ask found → IsCurrentFor contents new ask found) → AreCurrent b contents t calls founds → AreCurrent b contents new calls founds
  all-pass contents t new f current = zip-map (IsCurrentFor contents t) (IsCurrentFor contents new) (λ (found : Found). Unit {0}) (asks_of b calls) founds (λ ask found u w. f ask found w) (each-unit founds) current

  pub all-updated : (z : Sizes) (contents : Contents) (t : Tables) (log : LogId) (number : ℕ) (pieces : List Piece) (ops : List Op) (after : Shelf)
      → done_ops b ops (shelf_of t) ≡ Ok after → AllByRecursion IsOfUpdate ops → any_wears b ops (shelf_of t) ≡ false → AreTables z t
      → AreCurrent b contents t calls founds → AreCurrent b contents (committed t log number pieces after) calls founds
  all-updated z contents t log number pieces ops after e are worn form current =
      all-pass contents t (committed t log number pieces after)
      (λ ask found w some.
      let now = updates_current t ask.fid.0 ask.first ask.count found contents w some b ops after e are worn (λ file at. (file_form z t form ask.fid.0 file at).version.1) in
      record { given = now.given; rises = now.rises; same = now.same })
      current

  pub all-copied : (contents : Contents) (t : Tables) (log : LogId) (number : ℕ) (pieces : List Piece) (deltas : List Delta) (after : Shelf)
      → done_ops b (Clean deltas ∷ []) (shelf_of t) ≡ Ok after → AllCopies contents deltas
      → AreCurrent b contents t calls founds → AreCurrent b contents (committed t log number pieces after) calls founds
  all-copied contents t log number pieces deltas after e copies current =
      all-pass contents t (committed t log number pieces after)
      (λ ask found w some.
      let now = copies_current t ask.fid.0 ask.first ask.count found contents w some deltas copies in
      let left = opened (done_ops b (Clean deltas ∷ []) (shelf_of t)) after (λ u. (t.names ≡ u.names) × (all_moved deltas t.files ≡ u.files)) e (refl, refl) in
      beside_current (record t { files = all_moved deltas t.files }) ask.fid.0 ask.first ask.count found contents (committed t log number pieces after) (sym left.0) (sym left.1) (λ _. now) some)
      current

  pub all-beside : (contents : Contents) (t new : Tables) → new.names ≡ t.names → new.files ≡ t.files → AreCurrent b contents t calls founds → AreCurrent b contents new calls founds
  all-beside contents t new names files current =
      all-pass contents t new (λ ask found w. beside_current t ask.fid.0 ask.first ask.count found contents new names files w) current
