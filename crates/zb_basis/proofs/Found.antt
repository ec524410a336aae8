-- The old blocks that are wanted were found by lookups.
use Rattle.std.proofs.Common.{◌≡◌, ℕ, zero, suc, ◌+◌, ◌/◌, ◌<◌, ◌≤◌, Bool, true, false, min, List, [], ◌∷◌, length, map, Option, Some, None, refl, arith}
use Rattle.std.specs.Prelude.{if◌then◌else◌, not, ◌&&◌, ◌||◌, ◌==◌, filter, All, Any}
use Rattle.std.specs.List.{AllByRecursion, range_with_len, flat_map}
use Rattle.zb_types.specs.declared.ids.Ptr.{Ptr}
use Rattle.zb_types.specs.declared.calls.Call.{Call}
use Rattle.zb_types.specs.declared.calls.Call.TheVariants.{Create, Mkdir, Remove, Rename, Write, Truncate, Sync, Read, List as ListOf, Stat, Find}
use Rattle.zb_types.specs.declared.tables.Found.{Found}
use Rattle.zb_types.specs.Keyed.{look}
use Rattle.zb_basis.specs.declared.asks.Ask.{Ask}
use Rattle.zb_basis.specs.declared.calls.Numbered.{Numbered}
use Rattle.zb_basis.specs.Looking.{ask_of, asks_of, IsFoundBlock, AreFoundFor}
use Rattle.zb_basis.specs.Operations.{is_done, is_longer}
use Rattle.zb_basis.specs.Wanting.{touches, has_other, wanted_at, wanted_of_write, wanted_of, wanted_behind, wanted_by, reaches, wanted_in, wanted_by_read, Holds}
use Rattle.zb_basis.proofs.Each.{each-append, each-weaker, each-of, all-of, look-each}

-- a pointer to bytes of a block, within its stripe
pub record IsFine (b room : ℕ) (p : Ptr) : Type 0 where
  pub some : 0 < p.len
  pub fits : p.len ≤ b
  pub within : p.offset + p.len ≤ room

-- each block that was found has such a pointer
pub fine : (b room : ℕ) (asks : List Ask) (founds : List Found) → AreFoundFor b room asks founds → AllByRecursion (λ (found : Found). AllByRecursion (λ (e : ℕ × Ptr). IsFine b room e.1) found.blocks) founds
fine b room [] [] are = tt
fine b room [] (found ∷ founds) are = absurd are
fine b room (ask ∷ asks) [] are = absurd are
fine b room (ask ∷ asks) (found ∷ founds) are = (
  each-weaker (IsFoundBlock b room ask) (λ (e : ℕ × Ptr). IsFine b room e.1) found.blocks (λ e is. record { some = is.some; fits = is.fits; within = is.within }) (each-of (IsFoundBlock b room ask) found.blocks are.0.blocks),
  fine b room asks founds are.1,
)

pub any-here : {A : Type 0} (P : A → Type 0) (x : A) (xs : List A) → P x → Any P (x ∷ xs)
any-here P x xs p = (0, x, omega arith, refl, p)

pub any-there : {A : Type 0} (P : A → Type 0) (y : A) (xs : List A) → Any P xs → Any P (y ∷ xs)
any-there P y xs (k, x, l, e, p) = (suc k, x, omega (arith, l), e, p)

-- each pointer that was found is held
entries-held : (es : List (ℕ × Ptr)) → AllByRecursion (λ (e : ℕ × Ptr). Any (λ (entry : ℕ × Ptr). entry.1 ≡ e.1) es) es
entries-held [] = tt
entries-held (e ∷ es) = (
  any-here (λ (entry : ℕ × Ptr). entry.1 ≡ e.1) e es refl,
  each-weaker (λ (x : ℕ × Ptr). Any (λ (entry : ℕ × Ptr). entry.1 ≡ x.1) es) (λ (x : ℕ × Ptr). Any (λ (entry : ℕ × Ptr). entry.1 ≡ x.1) (e ∷ es)) es (λ x any. any-there (λ (entry : ℕ × Ptr). entry.1 ≡ x.1) e es any) (entries-held es),
)

pub held : (founds : List Found) → AllByRecursion (λ (found : Found). AllByRecursion (λ (e : ℕ × Ptr). Holds founds e.1) found.blocks) founds
held [] = tt
held (found ∷ founds) = (
  each-weaker (λ (x : ℕ × Ptr). Any (λ (entry : ℕ × Ptr). entry.1 ≡ x.1) found.blocks) (λ (x : ℕ × Ptr). Holds (found ∷ founds) x.1) found.blocks
      (λ x any. any-here (λ (f : Found). Any (λ (entry : ℕ × Ptr). entry.1 ≡ x.1) f.blocks) found founds any) (entries-held found.blocks),
  each-weaker (λ (f : Found). AllByRecursion (λ (e : ℕ × Ptr). Holds founds e.1) f.blocks) (λ (f : Found). AllByRecursion (λ (e : ℕ × Ptr). Holds (found ∷ founds) e.1) f.blocks) founds
      (λ f each. each-weaker (λ (e : ℕ × Ptr). Holds founds e.1) (λ (e : ℕ × Ptr). Holds (found ∷ founds) e.1) f.blocks (λ e any. any-there (λ (g : Found). Any (λ (entry : ℕ × Ptr). entry.1 ≡ e.1) g.blocks) found founds any) each) (held founds),
)

-- ---- each wanted block was found

module _ (Q : Ptr → Type 0) where
  wanted-at_each : (t w : Bool) (o : Option Ptr) → ((p : Ptr) → o ≡ Some p → Q p) → AllByRecursion Q (wanted_at t w o)
  wanted-at_each t w None is = tt
  wanted-at_each t w (Some p) is = each-if (not t && w) where
    each-if : (c : Bool) → AllByRecursion Q (if c then p ∷ [] else [])
    each-if true = (is p refl, tt)
    each-if false = tt

  flat-each : (h : ℕ → List Ptr) (a n : ℕ) → ((x : ℕ) → AllByRecursion Q (h x)) → AllByRecursion Q (flat_map h (range_with_len a n))
  flat-each h a zero each = tt
  flat-each h a (suc n) each = each-append Q (h a) (flat_map h (range_with_len (a + 1) n)) (each a) (flat-each h (a + 1) n each)

  each-done : (done : Bool) (xs : List Ptr) → AllByRecursion Q xs → AllByRecursion Q (if done then xs else [])
  each-done true xs each = each
  each-done false xs each = tt

  wanted-of_each : (b : ℕ) (call : Call) (found : Found) (touched : ℕ → ℕ → Bool) → AllByRecursion (λ (e : ℕ × Ptr). Q e.1) found.blocks → AllByRecursion Q (wanted_of b call found touched)
  wanted-of_each b (Write fid offset text) found touched each =
      each-done (is_done found.version (offset + length text)) _
      (flat-each (wanted_of_write b (touched fid.0) offset (offset + length text) found) (ask_of b (Write fid offset text)).first (ask_of b (Write fid offset text)).count
      (λ k. wanted-at_each (touched fid.0 k) (has_other b offset (offset + length text) k (look k found.blocks)) (look k found.blocks) (λ p e. look-each Q k p found.blocks each e)))
  wanted-of_each b (Truncate fid n) found touched each =
      each-done (is_done found.version n) _
      (wanted-at_each (touched fid.0 (n / b)) (is_longer b n (look (n / b) found.blocks)) (look (n / b) found.blocks) (λ p e. look-each Q (n / b) p found.blocks each e))
  wanted-of_each b (Create path) found touched each = tt
  wanted-of_each b (Mkdir path) found touched each = tt
  wanted-of_each b (Remove path) found touched each = tt
  wanted-of_each b (Rename path to) found touched each = tt
  wanted-of_each b Sync found touched each = tt
  wanted-of_each b (Read fid offset len) found touched each = tt
  wanted-of_each b (ListOf path) found touched each = tt
  wanted-of_each b (Stat path) found touched each = tt
  wanted-of_each b (Find path) found touched each = tt

  pub wanted-each : (b : ℕ) (calls : List Numbered) (founds : List Found) (touched : ℕ → ℕ → Bool)
      → AllByRecursion (λ (found : Found). AllByRecursion (λ (e : ℕ × Ptr). Q e.1) found.blocks) founds → AllByRecursion Q (wanted_behind b calls founds touched)
  wanted-each b [] founds touched each = tt
  wanted-each b (call ∷ calls) [] touched each = tt
  wanted-each b (call ∷ calls) (found ∷ founds) touched each =
      each-append Q (wanted_of b call.call found touched) (wanted_behind b calls founds (λ g k. touched g k || touches b call.call found g k))
      (wanted-of_each b call.call found touched each.0) (wanted-each b calls founds (λ g k. touched g k || touches b call.call found g k) each.1)

filter-each_if : (Q : Ptr → Type 0) (x : ℕ × Ptr) (es : List (ℕ × Ptr)) (t : Bool) → Q x.1 → AllByRecursion Q (map (λ (e : ℕ × Ptr). e.1) es) → AllByRecursion Q (map (λ (e : ℕ × Ptr). e.1) (if t then x ∷ es else es))
filter-each_if Q x es true q each = (q, each)
filter-each_if Q x es false q each = each

-- each that is wanted was found
pub filter-each : (Q : Ptr → Type 0) (test : ℕ × Ptr → Bool) (es : List (ℕ × Ptr)) → AllByRecursion (λ (e : ℕ × Ptr). Q e.1) es → AllByRecursion Q (map (λ (e : ℕ × Ptr). e.1) (filter test es))
filter-each Q test [] each = tt
filter-each Q test (x ∷ es) each = filter-each_if Q x (filter test es) (test x) each.0 (filter-each Q test es each.1)

-- ---- what is wanted for a batch, and for a read

abbrev pub EachIs : (Ptr → Type 0) → List Found → Type 0
EachIs Q founds = AllByRecursion (λ (found : Found). AllByRecursion (λ (e : ℕ × Ptr). Q e.1) found.blocks) founds

wanted-batch_each : (Q : Ptr → Type 0) (b : ℕ) (calls : List Numbered) (founds : List Found) → EachIs Q founds → All Q (wanted_by b calls founds)
wanted-batch_each Q b calls founds each = all-of Q (wanted_by b calls founds) (wanted-each Q b calls founds (λ g k. false) each)

each-there : (Q : Ptr → Type 0) (absent : Bool) (xs : List Ptr) → AllByRecursion Q xs → AllByRecursion Q (if absent then [] else xs)
each-there Q true xs each = tt
each-there Q false xs each = each

read-each : (Q : Ptr → Type 0) (b : ℕ) (call : Call) (founds : List Found) → EachIs Q founds → AllByRecursion Q (wanted_by_read b call founds)
read-each Q b (Read fid offset len) [] each = tt
read-each Q b (Read fid offset len) (found ∷ []) each =
    each-there Q (found.version == 0) (wanted_in b (min offset found.length) (min (offset + len) found.length) found)
    (filter-each Q (reaches b (min offset found.length) (min (offset + len) found.length)) found.blocks each.0)
read-each Q b (Read fid offset len) (found ∷ (other ∷ founds)) each = tt
read-each Q b (Write fid offset text) founds each = tt
read-each Q b (Truncate fid n) founds each = tt
read-each Q b (Create path) founds each = tt
read-each Q b (Mkdir path) founds each = tt
read-each Q b (Remove path) founds each = tt
read-each Q b (Rename path to) founds each = tt
read-each Q b Sync founds each = tt
read-each Q b (ListOf path) founds each = tt
read-each Q b (Stat path) founds each = tt
read-each Q b (Find path) founds each = tt

pub batch-found : (b : ℕ) (calls : List Numbered) (founds : List Found) → All (Holds founds) (wanted_by b calls founds)
batch-found b calls founds = wanted-batch_each (Holds founds) b calls founds (held founds)

pub read-found : (b : ℕ) (call : Call) (founds : List Found) → All (Holds founds) (wanted_by_read b call founds)
read-found b call founds = all-of (Holds founds) (wanted_by_read b call founds) (read-each (Holds founds) b call founds (held founds))

pub batch-within : (b room : ℕ) (calls : List Numbered) (founds : List Found) → AreFoundFor b room (asks_of b calls) founds → All (λ (p : Ptr). p.offset + p.len ≤ room) (wanted_by b calls founds)
batch-within b room calls founds are =
    all-of (λ (p : Ptr). p.offset + p.len ≤ room) (wanted_by b calls founds)
    (each-weaker (IsFine b room) (λ (p : Ptr). p.offset + p.len ≤ room) (wanted_by b calls founds) (λ p is. is.within)
    (wanted-each (IsFine b room) b calls founds (λ g k. false) (fine b room (asks_of b calls) founds are)))

pub read-within : (b room : ℕ) (call : Call) (founds : List Found) → AreFoundFor b room (ask_of b call ∷ []) founds → All (λ (p : Ptr). p.offset + p.len ≤ room) (wanted_by_read b call founds)
read-within b room call founds are =
    all-of (λ (p : Ptr). p.offset + p.len ≤ room) (wanted_by_read b call founds)
    (each-weaker (IsFine b room) (λ (p : Ptr). p.offset + p.len ≤ room) (wanted_by_read b call founds) (λ p is. is.within)
    (read-each (IsFine b room) b call founds (fine b room (ask_of b call ∷ []) founds are)))
