-- Nodes stay sound where more is given.
use Rattle.std.proofs.Common.{◌≡◌, ◌≢◌, ℕ, suc, ◌+◌, Bool, true, false, List, [], ◌∷◌, ◌++◌, length, length-set, Option, Some, None, refl, sym, ap, ◌∙◌, subst, arith}
use Rattle.std.specs.Prelude.{if◌then◌else◌, slice_set}
use Rattle.std.proofs.lemmas.Bool.{false≢true, ne_eqb}
use Rattle.zb_types.specs.declared.calls.Call.{Call}
use Rattle.zb_types.specs.declared.lines.Line.{Line}
use Rattle.zb_types.specs.declared.lines.Line.TheVariants.{Call as CallLine}
use Rattle.zb_types.specs.declared.lines.Outcome.{Outcome}
use Rattle.zb_types.specs.Tree.{Tree}
use Rattle.zb_claims.specs.Points.{tree_at}
use Rattle.zb_given.specs.Given.{FitGiven, Given, call_by, calls_of, script_of, with_finish, with_item}
use Rattle.zb_given.specs.Calls.{IsLookedUp, LookedUp}
use Rattle.zb_given.specs.Lifts.{SameHistory}
use Rattle.zb_given.proofs.MoreGiving.{more_finished, more_given}
use Rattle.zb_given.proofs.Staying.{lookup_stays, open_finish, seen_stays}
use Rattle.zb_basis.specs.declared.calls.Numbered.{Numbered}
use Rattle.zb_forming_laws.specs.Resting.{IsShort}
use Rattle.zb_work.specs.declared.work.Aim.TheVariants.{Finish}
use Rattle.zb_work.specs.declared.work.Step.TheVariants.{Lookup}
use Rattle.zb_work.specs.declared.work.Task.{Task}
use Rattle.zb_work.specs.Steps.{new_task, step_of}
use Rattle.zb_client.specs.Seen.{SeenClient, unready}
use Rattle.zb_client_laws.specs.Around.{Around, IsAround}
use Rattle.zb_client_laws.specs.Sound.{ClientIsSound, ClientsAreSound}
use Rattle.zb_client_laws.proofs.Joined.{all_sound}
use Rattle.zb_client_laws.proofs.Moves.{begin_sound, push_sound}
use Rattle.zb_line_laws.specs.Calls.{HasItsCalls, IsFinishing, queues}
use Rattle.zb_line_laws.proofs.Staying as staying
use Rattle.zb_system.specs.Looking.{FirstIsLookedUp, HasLookedUp, is_reading, reads_with, tree_for}
use Rattle.zb_system.specs.Nodes.{IsClient, SeenNodes, around, with_client}
use Rattle.zb_system.specs.Sound.{AreSound, ClientsHaveCalls, StaysWith}
use Rattle.zb_system.proofs.Changed.{each_place}

-- ---- what was given changes, and the trees of the lines don't

module _ (given more : Given) (lines : List Outcome) (n : SeenNodes) (s : AreSound given lines n) (fit : FitGiven more lines)
    (trees : (read : Option LookedUp) → tree_for more lines read ≡ tree_for given lines read) where
  abbrev Old : Around
  Old = around n s.contents (tree_at (script_of given) lines)

  abbrev New : Around
  New = around n s.contents (tree_at (script_of more) lines)

  abbrev seen : ℕ → Tree
  seen i = tree_for given lines (s.reads i)

  abbrev later : ℕ → Tree
  later i = tree_for more lines (s.reads i)

  same_around : Old ≡ New
  same_around = ap (around n s.contents) (sym (trees None))

  anew : (i : ℕ) (d : SeenClient) → ClientIsSound Old (seen i) d → ClientIsSound New (later i) d
  anew i d own = subst (λ (w : Around). ClientIsSound w (later i) d) same_around (subst (λ (t : Tree). ClientIsSound Old t d) (sym (trees (s.reads i))) own)

  stays : (clients : List SeenClient) → ClientsAreSound New later clients → length clients ≡ n.manager.sizes.clients → ClientsHaveCalls more lines s.reads clients
      → StaysWith s more (record n { clients = clients })
  stays clients all count calls = record {
    sound = record {
      contents = s.contents;
      reads = s.reads;
      stands = subst (λ (w : Around). IsAround n.servers.slots w) same_around s.stands;
      clients = all;
      count = count;
      calls = calls;
      servers = record { count = s.servers.count; index = s.servers.index; fences = s.servers.fences };
      told = record { fit = fit; calm = s.told.calm };
      rose = s.rose;
    };
    reads = λ i. refl;
  }

  -- with the clients as they are
  pub all_stay : ClientsHaveCalls more lines s.reads n.clients → StaysWith s more n
  all_stay calls = stays n.clients (λ i c is. (anew i c (s.clients i c is).0, (s.clients i c is).1)) s.count calls

  -- with another in place of one
  module _ (i : ℕ) (c after : SeenClient) (is : IsClient n i c) (same : after.client ≡ c.client) (own : ClientIsSound Old (seen i) after)
      (calls : HasItsCalls more lines after) (looked : HasLookedUp more lines after (s.reads i))
      (others : (j : ℕ) (d : SeenClient) → j ≢ i → IsClient n j d → HasItsCalls more lines d × HasLookedUp more lines d (s.reads j)) where
    pub one_other : StaysWith s more (with_client n i after)
    one_other =
        stays (slice_set n.clients i after)
        (all_sound Old New seen later n.clients s.clients i c after is same (anew i after own) (λ j d ne at. anew j d (s.clients j d at).0))
        (length-set n.clients i after ∙ s.count)
        (record {
          calls = each_place (λ j d. HasItsCalls more lines d) n.clients i after (λ d at. calls) (λ j d ne at. (others j d ne at).0);
          looked = each_place (λ j d. HasLookedUp more lines d (s.reads j)) n.clients i after (λ d at. looked) (λ j d ne at. (others j d ne at).1);
        })

-- ---- a call

module _ (given : Given) (lines : List Outcome) (line : Line) (client : ℕ) (read : LookedUp) where
  first_stays : (queue : List Numbered) → FirstIsLookedUp given lines client read queue → FirstIsLookedUp (with_item given line (length lines)) lines client read queue
  first_stays [] h = absurd h
  first_stays (first ∷ others) h = (h.0, lookup_stays given lines line (length lines) client read first.call h.1)

first_on : (given : Given) (lines : List Outcome) (client : ℕ) (read : LookedUp) (last : Numbered) (queue : List Numbered)
    → FirstIsLookedUp given lines client read queue → FirstIsLookedUp given lines client read (queue ++ last ∷ [])
first_on given lines client read last [] h = absurd h
first_on given lines client read last (first ∷ others) h = h

apart : (i j a b : ℕ) → a ≡ j + 1 → b ≡ i + 1 → j ≢ i → a ≢ b
apart i j a b p q ne e = ne (omega (arith, p, q, e))

module _ (given : Given) (lines : List Outcome) (n : SeenNodes) (i : ℕ) (c : SeenClient) (call : Call) (s : AreSound given lines n) (is : IsClient n i c) (short : IsShort call) where
  abbrev Given_line : Line
  Given_line = CallLine true (i + 1) call

  abbrev More : Given
  More = with_item given (CallLine true (i + 1) call) (length lines)

  abbrev Last : Numbered
  Last = record { number = suc (length (calls_of given c.client)); call = call }

  both : FitGiven More lines × SameHistory (script_of More) (script_of given) lines
  both = more_given given lines Given_line (length lines) (omega arith) s.told.fit

  trees : (read : Option LookedUp) → tree_for More lines read ≡ tree_for given lines read
  trees None = both.1.tree
  trees (Some read) = seen_stays given lines Given_line (length lines) read s.told.fit

  looked_stays : (d : SeenClient) (read : Option LookedUp) → HasLookedUp given lines d read → HasLookedUp More lines d read
  looked_stays d None h = h
  looked_stays d (Some read) h = (h.0, first_stays given lines Given_line d.client read d.queue h.1)

  looked_on : (read : Option LookedUp) → HasLookedUp given lines c read → HasLookedUp More lines (queues given c call) read
  looked_on None h = h
  looked_on (Some read) h = (h.0, first_on More lines c.client read Last c.queue (first_stays given lines Given_line c.client read c.queue h.1))

  own_calls : HasItsCalls More lines (queues given c call)
  own_calls =
      subst (λ (k : ℕ). HasItsCalls (with_item given (CallLine true k call) (length lines)) lines (queues given c call)) (s.clients i c is).1
      (staying.own given lines call (length lines) c (s.calls.calls i c is))

  other_calls : (j : ℕ) (d : SeenClient) → j ≢ i → IsClient n j d → HasItsCalls More lines d
  other_calls j d ne at =
      let none : call_by d.client Given_line ≡ [] = ap (λ (b : Bool). if b then call ∷ [] else []) (ne_eqb d.client (i + 1) (apart i j d.client (i + 1) (s.clients j d at).1 refl ne)) in
      staying.others given lines Given_line (length lines) d none (s.calls.calls j d at)

  pub call_stays_sound : StaysWith s More (with_client n i (queues given c call))
  call_stays_sound =
      one_other given More lines n s both.0 trees i c (queues given c call) is refl
      (push_sound (around n s.contents (tree_at (script_of given) lines)) (tree_for given lines (s.reads i)) c (s.clients i c is).0 Last short)
      own_calls (looked_on (s.reads i) (s.calls.looked i c is))
      (λ j d ne at. (other_calls j d ne at, looked_stays d (s.reads j) (s.calls.looked j d at)))

-- ---- a finish

module _ (given : Given) (lines : List Outcome) (at : ℕ) where
  looked_finish : (client : ℕ) (read : LookedUp) (call : Call) → IsLookedUp given lines client read call → IsLookedUp (with_finish given at) lines client read call
  looked_finish client read call l = record {
    is_open = open_finish given lines at client read.number call l.is_open;
    is_read = l.is_read;
    stood = l.stood;
    after_given = l.after_given;
    after_own = l.after_own;
  }

  first_finish : (client : ℕ) (read : LookedUp) (queue : List Numbered) → FirstIsLookedUp given lines client read queue → FirstIsLookedUp (with_finish given at) lines client read queue
  first_finish client read [] h = absurd h
  first_finish client read (first ∷ others) h = (h.0, looked_finish client read first.call h.1)

  has_finish : (d : SeenClient) (read : Option LookedUp) → HasLookedUp given lines d read → HasLookedUp (with_finish given at) lines d read
  has_finish d None h = h
  has_finish d (Some read) h = (h.0, first_finish d.client read d.queue h.1)

pub finish_stays_sound : (given : Given) (lines : List Outcome) (n : SeenNodes) (s : AreSound given lines n) → StaysWith s (with_finish given (length lines)) n
finish_stays_sound given lines n s =
    all_stay given (with_finish given (length lines)) lines n s (more_finished given lines (length lines) s.told.fit) (λ read. refl)
    (record {
      calls = λ i c is. staying.finish given lines (length lines) c (s.calls.calls i c is);
      looked = λ i c is. has_finish given lines (length lines) c (s.reads i) (s.calls.looked i c is);
    })

-- ---- all that is kept is to be committed

no_lookup_reads : (kept : List Numbered) → reads_with kept Lookup ≡ false
no_lookup_reads [] = refl
no_lookup_reads (first ∷ others) = refl

module _ (given : Given) (lines : List Outcome) (c : SeenClient) (none : c.task ≡ None) where
  rests : is_reading c ≡ false
  rests = ap (λ (t : Option Task). reads_with c.kept (step_of t)) none ∙ no_lookup_reads c.kept

  looked_finishes : (read : Option LookedUp) → HasLookedUp given lines c read → HasLookedUp given lines (record (unready c) { task = new_task Finish }) read
  looked_finishes None h = no_lookup_reads c.kept
  looked_finishes (Some read) h = absurd (false≢true (sym rests ∙ h.0))

pub finishes_stay_sound : (given : Given) (lines : List Outcome) (n : SeenNodes) (i : ℕ) (c : SeenClient) (s : AreSound given lines n) → IsClient n i c → c.task ≡ None → IsFinishing given lines
    → StaysWith s given (with_client n i (record (unready c) { task = new_task Finish }))
finishes_stay_sound given lines n i c s is none over =
    one_other given given lines n s s.told.fit (λ read. refl) i c (record (unready c) { task = new_task Finish }) is refl
    (begin_sound (around n s.contents (tree_at (script_of given) lines)) (tree_for given lines (s.reads i)) c (s.clients i c is).0 none Finish)
    (staying.finishes given lines c none over (s.calls.calls i c is)) (looked_finishes given lines c none (s.reads i) (s.calls.looked i c is))
    (λ j d ne at. (s.calls.calls j d at, s.calls.looked j d at))
