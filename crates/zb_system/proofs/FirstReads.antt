-- The read that a client has looked up, as its steps go.
use Rattle.std.proofs.Common.{◌≡◌, ℕ, suc, true, false, List, [], ◌∷◌, ◌++◌, length, Option, Some, None, refl, sym, ap, ◌∙◌, subst, arith, inl, inr}
use Rattle.std.specs.Prelude.{◌⊎◌, take}
use Rattle.std.specs.List.{list_any}
use Rattle.std.proofs.lemmas.Bool.{false≢true}
use Rattle.zb_types.specs.Apply.{is_update}
use Rattle.zb_types.specs.declared.lines.Outcome.{Outcome}
use Rattle.zb_claims.specs.Points.{call_of, is_of_client, tree_at}
use Rattle.zb_given.specs.Given.{FitGiven, Given, script_of}
use Rattle.zb_given.specs.Calls.{IsLookedUp, IsOpen, LookedUp}
use Rattle.zb_given.specs.Queues.{CallsStand, EndsNext}
use Rattle.zb_given.proofs.Standing.{ends_queued}
use Rattle.zb_given.proofs.Staying.{lookup_over, looks_up, seen_over}
use Rattle.zb_basis.specs.declared.calls.Numbered.{Numbered}
use Rattle.zb_work.specs.declared.work.Aim.{Aim}
use Rattle.zb_work.specs.declared.work.Aim.TheVariants.{Update, Read, Finish}
use Rattle.zb_work.specs.declared.work.Step.{Step}
use Rattle.zb_work.specs.Fitting.{AimFits, BeginsRead}
use Rattle.zb_work.specs.Steps.{aim_of}
use Rattle.zb_client.specs.Seen.{SeenClient}
use Rattle.zb_client_laws.specs.Effects.{SameCalls}
use Rattle.zb_line_laws.specs.Calls.{AimHas, AreGivenBehind, HasItsCalls, IsGiven, numbers_of}
use Rattle.zb_system.specs.Looking.{FirstIsLookedUp, HasLookedUp, is_fetch, is_reading, reads_with, tree_for}

-- a step that reads no block is for no read
pub not_fetch : (kept : List Numbered) (st : Step) → is_fetch st ≡ false → reads_with kept st ≡ false
not_fetch [] st e = e
not_fetch (k ∷ ks) st e = refl

pub none_kept : (kept : List Numbered) (st : Step) → reads_with kept st ≡ true → kept ≡ []
none_kept [] st e = refl
none_kept (k ∷ ks) st e = absurd (cc e)

take-all : {T : Type 0} (xs : List T) → take (length xs) xs ≡ xs
take-all [] = refl
take-all (x ∷ xs) = ap (λ (l : List _). x ∷ l) (take-all xs)

pub seen_now : (given : Given) (lines : List Outcome) (n : ℕ) → tree_for given lines (Some (record { number = n; at = length lines })) ≡ tree_at (script_of given) lines
seen_now given lines n = ap (tree_at (script_of given)) (take-all lines)

-- work where no call is kept is for a read
aim_reads : (aim : Option Aim) (kept queue : List Numbered) → kept ≡ [] → AimFits kept queue aim → (aim ≡ None) ⊎ ((aim ≡ Some Read) × BeginsRead queue)
aim_reads None kept queue none fits = inl refl
aim_reads (Some (Update number)) [] queue none fits = absurd (cc fits)
aim_reads (Some (Update number)) (k ∷ ks) queue none fits = absurd (cc none)
aim_reads (Some Read) kept queue none fits = inr (refl, fits)
aim_reads (Some Finish) [] queue none fits = absurd (omega (arith, fits))
aim_reads (Some Finish) (k ∷ ks) queue none fits = absurd (cc none)

module _ (given : Given) (lines : List Outcome) where
  -- nothing was looked up where no block is read
  pub not_looked : (c : SeenClient) (read : Option LookedUp) → HasLookedUp given lines c read → is_reading c ≡ false → read ≡ None
  not_looked c None has not = refl
  not_looked c (Some read) has not = absurd (false≢true (sym not ∙ has.0))

  -- it is the first queued call
  pub record Looked (c : SeenClient) (read : Option LookedUp) : Type 0 where
    pub one : LookedUp
    pub is : read ≡ Some one
    pub first : FirstIsLookedUp given lines c.client one c.queue

  pub looked_up : (c : SeenClient) (read : Option LookedUp) → HasLookedUp given lines c read → is_reading c ≡ true → Looked c read
  looked_up c None has reads = absurd (false≢true (sym has ∙ reads))
  looked_up c (Some read) has reads = record { one = read; is = refl; first = has.1 }

  -- lines of others change nothing of it
  first_over : (more : List Outcome) (client : ℕ) (read : LookedUp) (queue : List Numbered) → list_any (is_of_client client) more ≡ false → FirstIsLookedUp given lines client read queue → FirstIsLookedUp given (lines ++ more) client read queue
  first_over more client read [] none f = elim f [ ]
  first_over more client read (first ∷ others) none f = (f.0, lookup_over given lines more client read first.call none f.1)

  pub looked_over : (more : List Outcome) (c : SeenClient) (read : Option LookedUp) → list_any (is_of_client c.client) more ≡ false → HasLookedUp given lines c read → HasLookedUp given (lines ++ more) c read
  looked_over more c None none has = has
  looked_over more c (Some read) none has = (has.0, first_over more c.client read c.queue none has.1)

  -- nor of the tree that it sees
  first_stood : (more : List Outcome) (client : ℕ) (read : LookedUp) (queue : List Numbered) → FirstIsLookedUp given lines client read queue → tree_for given (lines ++ more) (Some read) ≡ tree_for given lines (Some read)
  first_stood more client read [] f = elim f [ ]
  first_stood more client read (first ∷ others) f = seen_over given lines more read f.1.stood

  pub seen_same : (more : List Outcome) (c : SeenClient) (read : LookedUp) → HasLookedUp given lines c (Some read) → tree_for given (lines ++ more) (Some read) ≡ tree_for given lines (Some read)
  seen_same more c read has = first_stood more c.client read c.queue has.1

  -- a client with the same calls that reads blocks still, or begins to
  first_same : (c d : SeenClient) (read : LookedUp) → SameCalls c d → FirstIsLookedUp given lines c.client read c.queue → FirstIsLookedUp given lines d.client read d.queue
  first_same c d read same f =
      subst (λ (n : ℕ). FirstIsLookedUp given lines n read d.queue) (sym same.client) (subst (FirstIsLookedUp given lines c.client read) (sym same.queue) f)

  pub looked_still : (c d : SeenClient) (read : LookedUp) → SameCalls c d → is_reading d ≡ true → FirstIsLookedUp given lines c.client read c.queue → HasLookedUp given lines d (Some read)
  looked_still c d read same reads f = (reads, first_same c d read same f)

  -- ---- the first queued call, where nothing is kept and there is work

  module _ (c : SeenClient) (h : HasItsCalls given lines c) (aim : aim_of c.task ≡ Some Read) (read : Numbered) (rest : List Numbered) (queue : c.queue ≡ read ∷ rest) where
    behind : AreGivenBehind given c.client h.taken (read ∷ rest)
    behind = subst (AreGivenBehind given c.client h.taken) queue h.queue

    pub is_given : IsGiven given c.client read
    is_given = behind.1

    number_is : read.number ≡ suc h.taken
    number_is = let e = behind.0 in omega (arith, e)

    lined_is : h.lined ≡ h.taken
    lined_is = subst (λ (a : Option Aim). AimHas a h.taken h.lined) aim h.work

    ends : EndsNext given lines c.client (numbers_of c.kept) h.taken read.call
    ends =
        ends_queued given lines c.client (numbers_of c.kept) h.taken read.call
        (subst (λ (n : ℕ). call_of (script_of given) c.client n ≡ Some read.call) number_is behind.1)
        (subst (λ (n : ℕ). CallsStand given lines c.client (numbers_of c.kept) h.taken n) lined_is h.stand)

    pub is_open : IsOpen given lines c.client read.number read.call
    is_open = subst (λ (n : ℕ). IsOpen given lines c.client n read.call) (sym number_is) ends.is_open

    pub looked_now : FitGiven given lines → is_update read.call ≡ false → IsLookedUp given lines c.client (record { number = read.number; at = length lines }) read.call
    looked_now fit reads = looks_up given lines c.client read.number read.call fit is_open reads

-- the first queued call of a client with work that keeps nothing: a read
pub record Reads (given : Given) (lines : List Outcome) (c : SeenClient) : Type 0 where
  pub aim : aim_of c.task ≡ Some Read
  pub read : Numbered
  pub rest : List Numbered
  pub queue : c.queue ≡ read ∷ rest
  pub is_read : is_update read.call ≡ false

-- the first of these calls, a read
pub record Begun (queue : List Numbered) : Type 0 where
  pub read : Numbered
  pub rest : List Numbered
  pub is : queue ≡ read ∷ rest
  pub reads : is_update read.call ≡ false

pub begun : (queue : List Numbered) → BeginsRead queue → Begun queue
begun [] b = absurd b
begun (read ∷ rest) b = record { read = read; rest = rest; is = refl; reads = b }

pub first_read : (given : Given) (lines : List Outcome) (c : SeenClient) (aim : Aim) → aim_of c.task ≡ Some aim → c.kept ≡ [] → AimFits c.kept c.queue (aim_of c.task) → Reads given lines c
first_read given lines c aim some none fits = elim (aim_reads (aim_of c.task) c.kept c.queue none fits) as (λ _. Reads given lines c) [
  | inl e ↦ absurd (cc (sym some ∙ e))
  | inr e ↦ let b = begun c.queue e.1 in record { aim = e.0; read = b.read; rest = b.rest; queue = b.is; is_read = b.reads }
]

-- the same was looked up where calls are the same, and blocks are read as before
pub same_looked : (given : Given) (lines : List Outcome) (c d : SeenClient) (read : Option LookedUp) → SameCalls c d → is_reading d ≡ is_reading c → HasLookedUp given lines c read → HasLookedUp given lines d read
same_looked given lines c d None same reads has = reads ∙ has
same_looked given lines c d (Some read) same reads has = looked_still given lines c d read same (reads ∙ has.0) has.1
