-- A step of a client leaves a course sound.
use Rattle.std.proofs.Common.{◌≡◌, ◌≢◌, ℕ, zero, suc, ◌+◌, ◌-◌, ◌≤◌, true, Bool, List, [], ◌∷◌, ◌++◌, append-nil, length, Option, Some, None, refl, sym, ap, ◌∙◌, subst, inl, inr, arith}
use Rattle.std.specs.Prelude.{◌⊎◌, ◌||◌, IfSome, is_some, option_map, slice_get, slice_set}
use Rattle.std.specs.List.{list_any}
use Rattle.std.proofs.lemmas.List.Folds.{list_any-append}
use Rattle.zb_claims.specs.Runs.{is_unfinished}
use Rattle.zb_types.specs.declared.lines.Kind.{Kind}
use Rattle.zb_types.specs.declared.lines.Kind.TheVariants as kind
use Rattle.zb_types.specs.declared.lines.Outcome.{Outcome}
use Rattle.zb_given.specs.Given.{Given}
use Rattle.zb_given.specs.Calls.{LookedUp}
use Rattle.zb_given.specs.Telling.{StepTells}
use Rattle.zb_ledger.specs.Seen.{SeenLedger}
use Rattle.zb_ledger.specs.Keeps.{IsCounted, KeepsHistory}
use Rattle.zb_ledger.proofs.Telling.{keeps_lines}
use Rattle.zb_client.specs.declared.steps.Told.{Told}
use Rattle.zb_client.specs.Seen.{SeenClient, kind_of}
use Rattle.zb_line_laws.specs.Calls.{lines_in}
use Rattle.zb_system.specs.Nodes.{IsClient, SeenNodes}
use Rattle.zb_system.specs.Looking.{HasLookedUp}
use Rattle.zb_system.specs.Sound.{AreSound, StaysSound}
use Rattle.zb_system.specs.Steps.{HasStepped}
use Rattle.zb_system.proofs.EachStep.{has_stepped}
use Rattle.zb_system.proofs.Inside.{ready_stays}
use Rattle.zb_system.proofs.Joining.{set_length}
use Rattle.zb_system.proofs.ReadsLeft.{lookup_unread}
use Rattle.zb_ending.specs.Entries.{entries_ahead}
use Rattle.zb_ending.specs.Holding.{HolderWorks}
use Rattle.zb_ending.proofs.Ahead.{ready_ahead, steps_few}
use Rattle.zb_ending.proofs.Keeping.{ready_keeps, steps_keep}
use Rattle.zb_nodes.specs.Seen.{IsSound, kind_at}
use Rattle.zb_course.specs.Seen.{SeenCourse, lines_behind}
use Rattle.zb_course.specs.Steps.{HasAnswered, HasMoved, HasWaited, IsBehind, LooksAt, OwnsRest, Tells, TellsRest, TellsWaiting, told_lines}
use Rattle.zb_course.specs.Sound.{Goes, GoesWell, HasWaiting, IsSettled, IsSoundCourse, IsSoundWith}
use Rattle.zb_course.specs.declared.lines.Untold.{Untold}
use Rattle.zb_course.proofs.Going.{at_lines, is_looking, looks_behind, one_fewer, quiet, waiting as still_to_come, with_reads, with_room}
use Rattle.zb_course.proofs.Clients.{looked_clients, told_clients}

-- a place, and the client's number
pub numbered : (client : ℕ) → 1 ≤ client → client ≡ client - 1 + 1
numbered client low = omega (arith, low)

pub kind_here : (n : SeenNodes) (i : ℕ) (c : SeenClient) → IsClient n i c → kind_at n i ≡ Some (kind_of c)
kind_here n i c is = ap (option_map kind_of) is

pub set_here : {A : Type 0} (xs : List A) (i : ℕ) (x after : A) → slice_get xs i ≡ Some x → slice_get (slice_set xs i after) i ≡ Some after
set_here [] i x after e = absurd (cc e)
set_here (y ∷ xs) zero x after e = refl
set_here (y ∷ xs) (suc i) x after e = set_here xs i x after e

-- a course goes as well behind a step of its nodes
module _ (given : Given) (lines : List Outcome) (old : SeenNodes) (s : AreSound given lines old) (new : SeenNodes) (i : ℕ) (clients calls : ℕ) where
  pub well_after : (told : Told) → HasStepped old new i told → (a : SeenCourse) → a.nodes ≡ old → GoesWell a → (b : SeenCourse) → b.nodes ≡ new → b.ledger.clients ≡ a.ledger.clients → b.calls ≡ a.calls → GoesWell b
  well_after told h a a_is w b b_is same_clients same_calls =
      let n : entries_ahead new ≤ entries_ahead old = steps_few new i told s h in
      record {
        works = subst HolderWorks (sym b_is) (steps_keep new i told s (subst HolderWorks a_is w.works) h);
        clients = ap (λ (n : SeenNodes). length n.clients) b_is ∙ ap length h.clients ∙ set_length old.clients i h.heard.client ∙ ap (λ (n : SeenNodes). length n.clients) (sym a_is) ∙ w.clients ∙ sym same_clients;
        few = omega (arith, n, w.few, ap entries_ahead a_is, ap entries_ahead b_is, same_clients, same_calls);
        calls = omega (arith, w.calls, same_calls);
      }

module _ {given : Given} {lines : List Outcome} {old : SeenCourse} (s : IsSettled given lines old) (new : SeenCourse) (client : ℕ) (low : 1 ≤ client) where
  abbrev i : ℕ
  i = client - 1

  client_is : client ≡ i + 1
  client_is = numbered client low

  -- a step was made
  module _ (told : Told) (h : HasStepped old.nodes new.nodes i told) (own : client ≤ old.ledger.clients) where
    g : StaysSound s.sound new.nodes i (lines_in told)
    g = has_stepped s.sound new.nodes i told h

    has : HasLookedUp given lines h.client (s.sound.reads i)
    has = s.sound.calls.looked i h.client h.is

    within : i + 1 ≤ old.ledger.clients
    within = subst (λ (n : ℕ). n ≤ old.ledger.clients) client_is own

    module _ (ledger : SeenLedger) (looks : LooksAt (kind_at old.nodes i) old.ledger ledger client) where
      at : LooksAt (Some (kind_of h.client)) old.ledger ledger (i + 1)
      at =
          subst (λ (n : ℕ). LooksAt (Some (kind_of h.client)) old.ledger ledger n) client_is
          (subst (λ (k : Option Kind). LooksAt k old.ledger ledger client) (kind_here old.nodes i h.client h.is) looks)

      clients_same : ledger.clients ≡ old.ledger.clients
      clients_same = looked_clients (kind_of h.client) old.ledger ledger (i + 1) at

      -- it told nothing
      pub moves : lines_in told ≡ [] → new.ledger ≡ ledger → new.untold ≡ old.untold → new.unfinished ≡ old.unfinished → new.calls ≡ old.calls → Goes s new client []
      moves silent ledger_is untold unfinished calls =
          let q : StaysSound s.sound new.nodes i [] = subst (StaysSound s.sound new.nodes i) silent g in
          record {
            place = i;
            client_is = client_is;
            settled = record {
              sound = q.sound;
              keeps =
                  subst (KeepsHistory given (lines ++ []) q.sound.reads) (sym ledger_is)
                  (quiet given lines s.sound.reads i h.client has old.ledger ledger s.keeps within at q.sound.reads q.others (q.read h.client h.is));
              well = well_after given lines old.nodes s.sound new.nodes i 0 0 told h old refl s.well new refl (ap (λ (l : SeenLedger). l.clients) ledger_is ∙ clients_same) calls;
              unfinished = unfinished ∙ s.unfinished ∙ ap (list_any is_unfinished) (sym (append-nil lines));
              told = untold ∙ s.told;
            };
            tells = subst (λ (n : ℕ). StepTells given lines n (s.sound.reads i) (q.sound.reads i) []) (sym client_is) q.tells;
            others = q.others;
          }

      -- its lines wait
      pub waits : lines_in told ≢ [] → (b : SeenCourse) → b.nodes ≡ new.nodes → b.ledger ≡ ledger → b.unfinished ≡ old.unfinished → b.calls ≡ old.calls → HasWaiting given lines b (record { client = client; lines = lines_in told })
      waits some b nodes_are ledger_is unfinished calls =
          let answers : kind_of h.client ≡ kind.Fetch → is_some (s.sound.reads i) ≡ true = λ e. (g.read h.client h.is).answers e some in
          let w : KeepsHistory given lines s.sound.reads ledger × IsCounted given lines ledger (i + 1) (s.sound.reads i) = still_to_come given lines s.sound.reads i h.client has old.ledger ledger s.keeps within at answers in
          let same : b.ledger.clients ≡ old.ledger.clients = ap (λ (l : SeenLedger). l.clients) ledger_is ∙ clients_same in
          let p : StaysSound s.sound b.nodes i (lines_in told) = subst (λ (n : SeenNodes). StaysSound s.sound n i (lines_in told)) (sym nodes_are) g in
          record {
            place = i;
            client = client_is;
            own = subst (λ (n : ℕ). client ≤ n) (sym same) own;
            some = some;
            fit = s.sound.told.fit;
            before = s.sound.reads;
            keeps = subst (KeepsHistory given lines s.sound.reads) (sym ledger_is) w.0;
            counted = subst (λ (l : SeenLedger). IsCounted given lines l (i + 1) (s.sound.reads i)) (sym ledger_is) w.1;
            sound = p.sound;
            tells = p.tells;
            others = p.others;
            well = well_after given lines old.nodes s.sound new.nodes i 0 0 told h old refl s.well b nodes_are same calls;
            unfinished = unfinished ∙ s.unfinished;
          }

-- sound nodes, with these reads at work
record SoundReads (given : Given) (lines : List Outcome) (reads : ℕ → Option LookedUp) (n : SeenNodes) : Type 0 where
  sound : AreSound given lines n
  same : (i : ℕ) → sound.reads i ≡ reads i

-- a settled course, with these reads at work
pub record HasSettled (given : Given) (lines : List Outcome) (reads : ℕ → Option LookedUp) (c : SeenCourse) : Type 0 where
  pub settled : IsSettled given lines c
  pub same : (i : ℕ) → settled.sound.reads i ≡ reads i

-- The lines that wait are told.
module _ {given : Given} {lines : List Outcome} {old : SeenCourse} {untold : Untold} (w : HasWaiting given lines old untold) (new : SeenCourse) where
  abbrev Lines : List Outcome
  Lines = untold.lines

  abbrev Roomy : SeenLedger
  Roomy = record old.ledger { room = length Lines }

  keeps : KeepsHistory given (lines ++ Lines) w.sound.reads (told_lines old.ledger untold.client Lines)
  keeps =
      subst (λ (n : ℕ). KeepsHistory given (lines ++ Lines) w.sound.reads (told_lines old.ledger n Lines)) (sym w.client)
      (keeps_lines given lines Lines w.before w.sound.reads Roomy w.place
      (subst (λ (n : ℕ). n ≤ old.ledger.clients) w.client w.own)
      w.tells.own w.tells.reads w.others
      (looks_behind lines Lines (w.before w.place) (w.sound.reads w.place) w.some w.tells.looks)
      w.sound.told.fit w.counted
      (with_room given lines w.before old.ledger (length Lines) w.keeps))

  pub settles : new.nodes ≡ old.nodes → Tells old new old.ledger untold.client Lines → HasSettled given (lines ++ Lines) w.sound.reads new
  settles nodes_are t =
      let p : SoundReads given (lines ++ Lines) w.sound.reads new.nodes = subst (SoundReads given (lines ++ Lines) w.sound.reads) (sym nodes_are) (record { sound = w.sound; same = λ i. refl }) in
      record {
        settled = record {
          sound = p.sound;
          keeps =
              subst (KeepsHistory given (lines ++ Lines) p.sound.reads) (sym t.ledger)
              (with_reads given (lines ++ Lines) w.sound.reads p.sound.reads (told_lines old.ledger untold.client Lines) (λ i. inl (p.same i)) keeps);
          well = record {
            works = subst HolderWorks (sym nodes_are) w.well.works;
            clients = ap (λ (n : SeenNodes). length n.clients) nodes_are ∙ w.well.clients ∙ sym (ap (λ (l : SeenLedger). l.clients) t.ledger ∙ told_clients old.ledger untold.client Lines);
            few = omega (arith, w.well.few, ap entries_ahead nodes_are, ap (λ (l : SeenLedger). l.clients) t.ledger ∙ told_clients old.ledger untold.client Lines, t.calls);
            calls = omega (arith, w.well.calls, t.calls);
          };
          unfinished = t.unfinished ∙ ap (λ (b : Bool). b || list_any is_unfinished Lines) w.unfinished ∙ sym (list_any-append is_unfinished lines Lines);
          told = t.told;
        };
        same = p.same;
      }

-- ---- the laws

pub rest_told : (given : Given) (lines : List Outcome) (old new : SeenCourse) → IsSoundCourse given lines old → TellsRest old new → IsSettled given (lines ++ lines_behind old.untold) new
rest_told given lines old new s t = by old.untold refl s t where
  by : (u : Option Untold) → old.untold ≡ u → IsSoundWith given lines old u → TellsWaiting old new u → IsSettled given (lines ++ lines_behind old.untold) new
  by None e s same = subst (λ (u : Option Untold). IsSettled given (lines ++ lines_behind u) new) (sym e) (subst (λ (l : List Outcome). IsSettled given l new) (sym (append-nil lines)) (subst (IsSettled given lines) (sym same) s))
  by (Some untold) e w tells = subst (λ (u : Option Untold). IsSettled given (lines ++ lines_behind u) new) (sym e) (settles w new tells.0 tells.1).settled

module _ {given : Given} {lines : List Outcome} {old : SeenCourse} (s : IsSettled given lines old) (new : SeenCourse) (client : ℕ) (low : 1 ≤ client) where
  pub answers_so : client ≤ old.ledger.clients → (a : HasAnswered old new client) → Goes s new client (lines_in a.told)
  unfolding waits
  answers_so own a =
      let mid : SeenCourse = record old { nodes = new.nodes; ledger = a.ledger; untold = Some (record { client = client; lines = lines_in a.told }) } in
      let w : HasWaiting given lines mid (record { client = client; lines = lines_in a.told }) = waits s new client low a.told a.stepped own a.ledger a.looked a.some mid refl refl refl refl in
      let t : Tells mid new a.ledger client (lines_in a.told) = record { ledger = a.tells.ledger; text = a.tells.text; values = a.tells.values; told = a.tells.told; unfinished = a.tells.unfinished; calls = a.tells.calls } in
      let r : HasSettled given (lines ++ lines_in a.told) w.sound.reads new = settles w new refl t in
      record {
        place = client - 1;
        client_is = numbered client low;
        settled = r.settled;
        tells =
            subst (λ (read : Option LookedUp). StepTells given lines client (s.sound.reads (client - 1)) read (lines_in a.told)) (sym (r.same (client - 1)))
            (subst (λ (n : ℕ). StepTells given lines n (s.sound.reads (client - 1)) (w.sound.reads (client - 1)) (lines_in a.told)) (sym (numbered client low)) w.tells);
        others = λ j ne. r.same j ∙ w.others j ne;
      }

  pub behind_so : client ≤ old.ledger.clients → IsBehind old new client → IsSoundCourse given lines new
  behind_so own b =
      subst (IsSoundWith given lines new) (sym b.untold)
      (waits s new client low b.told b.stepped own new.ledger b.ledger b.some new refl refl b.unfinished b.calls)

  pub moves_so : client ≤ old.ledger.clients → HasMoved old new client → Goes s new client []
  moves_so own m = moves s new client low m.told m.stepped own new.ledger m.ledger m.silent refl m.untold m.unfinished m.calls

  -- no step was made
  module _ (h : HasWaited old new client) where
    i_here : ℕ
    i_here = client - 1

    q : StaysSound s.sound new.nodes (client - 1) []
    q = ready_stays s.sound new.nodes (client - 1) h.nodes

    abbrev Ready : SeenClient
    Ready = record h.nodes.client { is_ready = h.nodes.ready }

    there : IsClient new.nodes (client - 1) Ready
    there = ap (λ (cs : List SeenClient). slice_get cs (client - 1)) h.nodes.clients ∙ set_here old.nodes.clients (client - 1) h.nodes.client Ready h.nodes.is

    read_is : (q.sound.reads (client - 1) ≡ s.sound.reads (client - 1)) ⊎ (q.sound.reads (client - 1) ≡ None)
    read_is = by (is_looking (kind_of h.nodes.client)) where
      by : (kind_of h.nodes.client ≡ kind.Lookup) ⊎ (kind_of h.nodes.client ≢ kind.Lookup) → (q.sound.reads (client - 1) ≡ s.sound.reads (client - 1)) ⊎ (q.sound.reads (client - 1) ≡ None)
      by (inl e) = inr (lookup_unread given (lines ++ []) Ready (q.sound.reads (client - 1)) (q.sound.calls.looked (client - 1) Ready there) e)
      by (inr ne) = (q.read h.nodes.client h.nodes.is).goes_on ne

    pub waited_so : Goes s new client []
    waited_so = record {
      place = client - 1;
      client_is = numbered client low;
      settled = record {
        sound = q.sound;
        keeps =
            subst (KeepsHistory given (lines ++ []) q.sound.reads) (sym h.ledger)
            (at_lines given lines (lines ++ []) q.sound.reads old.ledger (sym (append-nil lines))
            (with_reads given lines s.sound.reads q.sound.reads old.ledger (one_fewer (client - 1) s.sound.reads q.sound.reads q.others read_is) s.keeps));
        well = record {
          works = ready_keeps old.nodes new.nodes (client - 1) s.well.works h.nodes;
          clients = ap length h.nodes.clients ∙ set_length old.nodes.clients (client - 1) Ready ∙ s.well.clients ∙ sym (ap (λ (l : SeenLedger). l.clients) h.ledger);
          few = omega (arith, s.well.few, ready_ahead old.nodes new.nodes (client - 1) h.nodes, ap (λ (l : SeenLedger). l.clients) h.ledger, h.calls);
          calls = omega (arith, s.well.calls, h.calls);
        };
        unfinished = h.unfinished ∙ s.unfinished ∙ ap (list_any is_unfinished) (sym (append-nil lines));
        told = h.untold ∙ s.told;
      };
      tells = subst (λ (n : ℕ). StepTells given lines n (s.sound.reads (client - 1)) (q.sound.reads (client - 1)) []) (sym (numbered client low)) q.tells;
      others = q.others;
    }

pub owns_rest : (given : Given) (lines : List Outcome) (c : SeenCourse) → IsSoundCourse given lines c → OwnsRest c
owns_rest given lines c s = by c.untold s where
  by : (u : Option Untold) → IsSoundWith given lines c u → IfSome u (λ untold. untold.client ≤ c.ledger.clients)
  by None s = tt
  by (Some untold) w = w.own

pub nodes_sound : (given : Given) (lines : List Outcome) (c : SeenCourse) → IsSoundCourse given lines c → IsSound c.nodes
nodes_sound given lines c s = by c.untold s where
  by : (u : Option Untold) → IsSoundWith given lines c u → IsSound c.nodes
  by None s = record { given = given; lines = lines; sound = s.sound }
  by (Some untold) w = record { given = given; lines = lines ++ untold.lines; sound = w.sound }
