-- The replies of a batch that was committed.
use Rattle.std.proofs.Common.{◌≡◌, ℕ, zero, suc, ◌+◌, ◌<◌, Bool, true, false, List, [], ◌∷◌, ◌++◌, length, Option, Some, None, refl, sym, ap, ◌∙◌, subst, arith}
use Rattle.std.specs.Prelude.{if◌then◌else◌, drop, nat_lt}
use Rattle.std.proofs.lemmas.Bool.{lt-ltb}
use Rattle.std.specs.List.{AllByRecursion}
use Rattle.zb_types.specs.Apply.{applied, reply_to}
use Rattle.zb_types.specs.History.{AreReplies, tree_after, tree_from}
use Rattle.zb_types.specs.Limits.{most_kept}
use Rattle.zb_types.specs.Tree.{Tree, first_tree}
use Rattle.zb_types.specs.declared.calls.Reply.{Reply}
use Rattle.zb_types.specs.declared.history.Did.{Did}
use Rattle.zb_types.specs.declared.lines.Outcome.{Outcome}
use Rattle.zb_types.specs.declared.lines.Outcome.TheVariants.{Call as OfCall}
use Rattle.zb_types.specs.declared.lines.Said.TheVariants as said
use Rattle.zb_claims.specs.Points.{dids, tree_at}
use Rattle.zb_given.specs.Batches.{BatchReplied, IsUpdateOf, numbers_in, reply_lines as lines_of}
use Rattle.zb_given.specs.Given.{FitGiven, Given, place_of, script_of}
use Rattle.zb_given.specs.Queues.{CallsStand}
use Rattle.zb_given.proofs.Batching.{over_longer, replies_batch}
use Rattle.zb_given.proofs.Crashing.{no_crash}
use Rattle.zb_tables.specs.Shown.{replies_through, tree_through}
use Rattle.zb_basis.specs.declared.calls.Numbered.{Numbered}
use Rattle.zb_basis.specs.Runs.{company, is_alone, run_of}
use Rattle.zb_forming_laws.specs.Resting.{updates_of}
use Rattle.zb_work.specs.declared.work.Aim.{Aim}
use Rattle.zb_work.specs.declared.work.Aim.TheVariants.{Update, Read, Finish}
use Rattle.zb_work.specs.Steps.{aim_of, next_task}
use Rattle.zb_client.specs.Seen.{SeenClient}
use Rattle.zb_client.specs.Hearing.{commits}
use Rattle.zb_client.specs.Telling.{reply_lines}
use Rattle.zb_line_laws.specs.Calls.{AimHas, HasItsCalls, IsCalm, IsFinishing, IsGiven, dids_of, lines_in, numbers_of}
use Rattle.zb_line_laws.proofs.Taking.{numbers-append}

-- ---- the first kept calls form a run

record Front (calls front : List Numbered) : Type 0 where
  rest : List Numbered
  is : calls ≡ front ++ rest

more_front : (call : Numbered) (calls front : List Numbered) → Front calls front → Front (call ∷ calls) (call ∷ front)
more_front call calls front f = record { rest = f.rest; is = ap (λ (ks : List Numbered). call ∷ ks) f.is }

company_front : (most : ℕ) (calls : List Numbered) → Front calls (company most calls)
company_front zero [] = record { rest = []; is = refl }
company_front (suc most) [] = record { rest = []; is = refl }
company_front zero (call ∷ calls) = record { rest = call ∷ calls; is = refl }
company_front (suc most) (call ∷ calls) = by (is_alone call.call) (company_front most calls) where
  by : (alone : Bool) → Front calls (company most calls) → Front (call ∷ calls) (if alone then [] else call ∷ company most calls)
  by true f = record { rest = call ∷ calls; is = refl }
  by false f = more_front call calls (company most calls) f

run_front : (calls : List Numbered) → Front calls (run_of calls)
run_front [] = record { rest = []; is = refl }
run_front (call ∷ calls) = by (is_alone call.call) (company_front most_kept (call ∷ calls)) where
  by : (alone : Bool) → Front (call ∷ calls) (company most_kept (call ∷ calls)) → Front (call ∷ calls) (if alone then call ∷ [] else company most_kept (call ∷ calls))
  by true f = record { rest = calls; is = refl }
  by false f = f

drop-front : (xs ys : List Numbered) → drop (length xs) (xs ++ ys) ≡ ys
drop-front [] ys = refl
drop-front (x ∷ xs) ys = drop-front xs ys

-- ---- a run with the replies of a tree

module _ (given : Given) (lines : List Outcome) (client : ℕ) where
  abbrev Through : Tree → List Numbered → List Reply
  Through tree run = replies_through tree (updates_of run)

  through-length : (tree : Tree) (run : List Numbered) → length (Through tree run) ≡ length run
  through-length tree [] = refl
  through-length tree (k ∷ ks) = ap suc (through-length (applied tree k.call) ks)

  lines_same : (tree : Tree) (run rest : List Numbered) → reply_lines client (run ++ rest) (Through tree run) ≡ lines_of client (dids_of client run (Through tree run))
  lines_same tree [] [] = refl
  lines_same tree [] (k ∷ rest) = refl
  lines_same tree (k ∷ ks) rest = ap (λ (ls : List Outcome). OfCall client k.number (said.Reply (reply_to tree k.call)) ∷ ls) (lines_same (applied tree k.call) ks rest)

  numbers_same : (tree : Tree) (run : List Numbered) → numbers_in (dids_of client run (Through tree run)) ≡ numbers_of run
  numbers_same tree [] = refl
  numbers_same tree (k ∷ ks) = ap (λ (ns : List ℕ). k.number ∷ ns) (numbers_same (applied tree k.call) ks)

  are_updates : (calm : IsCalm lines) (tree : Tree) (run : List Numbered) → AllByRecursion (IsGiven given client) run → AllByRecursion (IsUpdateOf given lines client) (dids_of client run (Through tree run))
  are_updates calm tree [] all = tt
  are_updates calm tree (k ∷ ks) all =
      (record { client_is = refl; call_is = all.0; manager = no_crash (script_of given) lines (place_of given client k.number) calm }, are_updates calm (applied tree k.call) ks all.1)

  are_replies : (tree : Tree) (run : List Numbered) → AreReplies tree (dids_of client run (Through tree run))
  are_replies tree [] = tt
  are_replies tree (k ∷ ks) = (refl, are_replies (applied tree k.call) ks)

  tree_same : (tree : Tree) (run : List Numbered) → tree_from tree (dids_of client run (Through tree run)) ≡ tree_through tree (updates_of run)
  tree_same tree [] = refl
  tree_same tree (k ∷ ks) = tree_same (applied tree k.call) ks

tree_behind : (tree : Tree) (one two : List Did) → tree_from tree (one ++ two) ≡ tree_from (tree_from tree one) two
tree_behind tree [] two = refl
tree_behind tree (did ∷ one) two = tree_behind (applied tree did.call) one two

front_each : (P : Numbered → Type 0) (xs ys : List Numbered) → AllByRecursion P (xs ++ ys) → AllByRecursion P xs × AllByRecursion P ys
front_each P [] ys all = (tt, all)
front_each P (x ∷ xs) ys all = let r = front_each P xs ys all.1 in ((all.0, r.0), r.1)

-- ---- what work is left

clash : false ≡ true → ⊥
clash c = cc

update_later : (n taken after : ℕ) (left : Bool) → left ≡ true → (n ≡ taken) × (taken ≡ after + 1) → AimHas (aim_of (next_task (Some (Update n)) left)) taken after
update_later n taken after true e h = h
update_later n taken after false e h = absurd (clash e)

finish_later : (taken after : ℕ) (left : Bool) → left ≡ true → after ≡ taken → AimHas (aim_of (next_task (Some Finish) left)) taken after
finish_later taken after true e h = h
finish_later taken after false e h = absurd (clash e)

aim_later : (aim : Option Aim) (rest : List Numbered) (taken lined after : ℕ) → AimHas aim taken lined → (0 < length (numbers_of rest) → after ≡ lined) → (numbers_of rest ≡ [] → after ≡ taken)
    → AimHas (aim_of (next_task aim (nat_lt 0 (length rest)))) taken after
aim_later None [] taken lined after h same all = all refl
aim_later None (k ∷ ks) taken lined after h same all = same (omega arith) ∙ h
aim_later (Some (Update n)) [] taken lined after h same all = all refl
aim_later (Some (Update n)) (k ∷ ks) taken lined after h same all =
    update_later n taken after (nat_lt 0 (length (k ∷ ks))) (lt-ltb 0 (length (k ∷ ks)) (omega arith)) (h.0, h.1 ∙ ap (λ (m : ℕ). m + 1) (sym (same (omega arith))))
aim_later (Some Read) [] taken lined after h same all = all refl
aim_later (Some Read) (k ∷ ks) taken lined after h same all = same (omega arith) ∙ h
aim_later (Some Finish) [] taken lined after h same all = all refl
aim_later (Some Finish) (k ∷ ks) taken lined after h same all =
    finish_later taken after (nat_lt 0 (length (k ∷ ks))) (lt-ltb 0 (length (k ∷ ks)) (omega arith)) (same (omega arith) ∙ h)

module _ (given : Given) (lines : List Outcome) (c : SeenClient) (fit : FitGiven given lines) (h : HasItsCalls given lines c) (calm : IsCalm lines) where
  abbrev Now : Tree
  Now = tree_at (script_of given) lines

  abbrev Run : List Numbered
  Run = run_of c.kept

  abbrev Replies : List Reply
  Replies = replies_through Now (updates_of Run)

  abbrev Batch : List Did
  Batch = dids_of c.client Run Replies

  front : Front c.kept Run
  front = run_front c.kept

  left_is : drop (length Replies) c.kept ≡ front.rest
  left_is = ap (λ (n : ℕ). drop n c.kept) (through-length given lines c.client Now Run) ∙ ap (drop (length Run)) front.is ∙ drop-front Run front.rest

  parts : AllByRecursion (IsGiven given c.client) Run × AllByRecursion (IsGiven given c.client) front.rest
  parts = front_each (IsGiven given c.client) Run front.rest (subst (AllByRecursion (IsGiven given c.client)) front.is h.kept)

  stands : CallsStand given lines c.client (numbers_in Batch ++ numbers_of front.rest) h.taken h.lined
  stands =
      subst (λ (ns : List ℕ). CallsStand given lines c.client ns h.taken h.lined)
      (ap numbers_of front.is ∙ numbers-append Run front.rest ∙ ap (λ (ns : List ℕ). ns ++ numbers_of front.rest) (sym (numbers_same given lines c.client Now Run))) h.stand

  replied : BatchReplied given lines c.client Batch (numbers_of front.rest) h.taken h.lined
  replied = replies_batch given lines c.client Batch (numbers_of front.rest) h.taken h.lined fit stands (are_updates given lines c.client calm Now Run parts.0) (are_replies given lines c.client Now Run)

  told_is : lines_in (commits c Replies).told ≡ lines_of c.client Batch
  told_is = ap (λ (ks : List Numbered). reply_lines c.client ks Replies) front.is ∙ lines_same given lines c.client Now Run front.rest

  abbrev Lines : List Outcome
  Lines = lines ++ lines_of c.client Batch

  finishing : (aim : Option Aim) (left : Bool) → (aim ≡ Some Finish → IsFinishing given lines) → aim_of (next_task aim left) ≡ Some Finish → IsFinishing given Lines
  finishing None left was e = absurd (cc e)
  finishing (Some (Update n)) true was e = absurd (cc e)
  finishing (Some (Update n)) false was e = absurd (cc e)
  finishing (Some Read) left was e = absurd (cc e)
  finishing (Some Finish) left was e = over_longer lines (lines_of c.client Batch) given.finishes (was refl)

  has : HasItsCalls given Lines (commits c Replies).client
  has = record {
    taken = h.taken;
    lined = replied.after;
    stand = subst (λ (ks : List Numbered). CallsStand given Lines c.client (numbers_of ks) h.taken replied.after) (sym left_is) replied.stand;
    kept = subst (AllByRecursion (IsGiven given c.client)) (sym left_is) parts.1;
    queue = h.queue;
    all = h.all;
    work = subst (λ (ks : List Numbered). AimHas (aim_of (next_task (aim_of c.task) (nat_lt 0 (length ks)))) h.taken replied.after) (sym left_is)
        (aim_later (aim_of c.task) front.rest h.taken h.lined replied.after h.work replied.same replied.all);
    finishing = finishing (aim_of c.task) (nat_lt 0 (length (drop (length Replies) c.kept))) h.finishing;
  }

  tree_later : tree_at (script_of given) Lines ≡ tree_through Now (updates_of Run)
  tree_later = ap tree_after replied.told ∙ tree_behind first_tree (dids (script_of given) lines) Batch ∙ tree_same given lines c.client Now Run

  pub record Right (more : List Outcome) : Type 0 where
    pub fits : FitGiven given (lines ++ more)
    pub has : HasItsCalls given (lines ++ more) (commits c Replies).client
    pub told : dids (script_of given) (lines ++ more) ≡ dids (script_of given) lines ++ Batch
    pub tree : tree_at (script_of given) (lines ++ more) ≡ tree_through Now (updates_of Run)

  pub right : Right (lines_in (commits c Replies).told)
  right = subst Right (sym told_is) (record { fits = replied.fits; has = has; told = replied.told; tree = tree_later })

abbrev pub ReplyFits : Given → List Outcome → SeenClient → List Reply → Type 0
ReplyFits given lines c replies =
    FitGiven given (lines ++ lines_in (commits c replies).told)
    × HasItsCalls given (lines ++ lines_in (commits c replies).told) (commits c replies).client
    × (dids (script_of given) (lines ++ lines_in (commits c replies).told) ≡ dids (script_of given) lines ++ dids_of c.client (run_of c.kept) replies)
    × (tree_at (script_of given) (lines ++ lines_in (commits c replies).told) ≡ tree_through (tree_at (script_of given) lines) (updates_of (run_of c.kept)))

pub replied_fits : (given : Given) (lines : List Outcome) (c : SeenClient) (replies : List Reply) → FitGiven given lines → HasItsCalls given lines c → IsCalm lines
    → replies ≡ replies_through (tree_at (script_of given) lines) (updates_of (run_of c.kept)) → ReplyFits given lines c replies
replied_fits given lines c replies fit h calm e =
    let r = right given lines c fit h calm in
    subst (ReplyFits given lines c) (sym e) (r.fits, r.has, r.told, r.tree)
