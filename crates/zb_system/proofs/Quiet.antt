-- A step of a client that leaves servers and tables as they stand.
use Rattle.std.proofs.Common.{◌≡◌, ◌≢◌, ℕ, true, false, List, [], ◌∷◌, ◌++◌, append-nil, Option, Some, None, refl, sym, ap, ◌∙◌, subst, inl, inr}
use Rattle.std.specs.Prelude.{◌⊎◌, ◌==◌, is_some, slice_set}
use Rattle.std.specs.List.{AllByRecursion, list_any}
use Rattle.zb_types.specs.Apply.{reply_to}
use Rattle.zb_types.specs.Tree.{Tree}
use Rattle.zb_types.specs.declared.lines.Kind.TheVariants.{Fetch}
use Rattle.zb_types.specs.declared.lines.Outcome.{Outcome}
use Rattle.zb_types.specs.declared.lines.Said.TheVariants as said
use Rattle.zb_holding.specs.Holding.{Maps}
use Rattle.zb_claims.specs.Points.{dids, is_of_client, tree_at}
use Rattle.zb_given.specs.Given.{FitGiven, Given, script_of}
use Rattle.zb_given.specs.Calls.{IsLookedUp, LookedUp, tree_seen}
use Rattle.zb_given.specs.Telling.{AreOfLookups, IsOfNow, is_number, seen_by}
use Rattle.zb_tables.specs.Tables.{Contents, Tables}
use Rattle.zb_tables.specs.Taking.{Sizes}
use Rattle.zb_servers.specs.Standing.{maps_of}
use Rattle.zb_basis.specs.declared.calls.Numbered.{Numbered}
use Rattle.zb_work.specs.declared.work.Aim.{Aim}
use Rattle.zb_work.specs.declared.work.Task.{Task}
use Rattle.zb_work.specs.declared.work.Step.TheVariants.{Lookup}
use Rattle.zb_work.specs.Fitting.{AimFits}
use Rattle.zb_work.specs.Steps.{aim_of}
use Rattle.zb_client.specs.declared.steps.Told.TheVariants.{Nothing}
use Rattle.zb_client.specs.Seen.{SeenClient, kind_of}
use Rattle.zb_client.specs.Telling.{Heard, answers_first}
use Rattle.zb_client_laws.specs.Around.{Around, IsAround}
use Rattle.zb_client_laws.specs.Effects.{AnswersRead, IsReplyIn, SameCalls}
use Rattle.zb_client_laws.specs.Known.{IsKnown}
use Rattle.zb_client_laws.specs.Sound.{ClientIsSound}
use Rattle.zb_client_laws.proofs.Moves.{ready_sound}
use Rattle.zb_line_laws.specs.Calls.{FitsAfter, HasItsCalls, IsGiven, TellsOwn, lines_in}
use Rattle.zb_line_laws.proofs.Answering.{read_replied}
use Rattle.zb_line_laws.proofs.Owning.{answered}
use Rattle.zb_line_laws.proofs.Staying.{quiet_step}
use Rattle.zb_progress.specs.Fresh.{RoseBy}
use Rattle.zb_system.specs.Nodes.{IsClient, SeenNodes, around, readied}
use Rattle.zb_system.specs.Looking.{HasLookedUp, is_reading, tree_for}
use Rattle.zb_system.specs.Sound.{AreSound, ReadStays, ServersAreSound, StaysSound}
use Rattle.zb_system.proofs.ReadsLeft.{none_left}
use Rattle.zb_system.proofs.AnyTree.{any_tree}
use Rattle.zb_system.proofs.Joining.{joined}
use Rattle.zb_system.proofs.FirstReads.{Reads, first_read, is_given, not_fetch, same_looked}
use Rattle.zb_system.proofs.Telling.{answered_looks, answered_none, tree_same}

-- servers and tables stand as they stood
pub record StandsStill (old new : SeenNodes) : Type 0 where
  pub tables : new.manager.tables ≡ old.manager.tables
  pub sizes : new.manager.sizes ≡ old.manager.sizes
  pub maps : maps_of new.servers ≡ maps_of old.servers
  pub slots : new.servers.slots ≡ old.servers.slots
  pub servers : ServersAreSound new

abbrev pub with_parts : Sizes → Contents → Maps → Tables → Tree → Around
with_parts z contents maps tables tree = record { z = z; contents = contents; st = record { maps = maps; blank = λ server. false }; tables = tables; tree = tree }

pub same_around : (old new : SeenNodes) (contents : Contents) (tree after : Tree) → StandsStill old new → after ≡ tree → around new contents after ≡ around old contents tree
same_around old new contents tree after still same = λ k. with_parts (still.sizes k) contents (still.maps k) (still.tables k) (same k)

pub known_ready : (c : SeenClient) → IsKnown c → IsKnown (readied c)
known_ready c k = record { log = k.log; given = k.given; behind = k.behind; numbered = k.numbered; updates = k.updates; in_doubt = k.in_doubt; work = k.work; aim = k.aim }

ready_same : (c : SeenClient) → SameCalls c (readied c)
ready_same c = record { client = refl; kept = refl; queue = refl; aim = refl }

pub own_of : (c d : SeenClient) (heard : Heard) → d.client ≡ c.client → TellsOwn d heard → TellsOwn c heard
own_of c d heard same own = record {
  own = subst (λ (n : ℕ). AllByRecursion (λ line. is_of_client n line ≡ true) (lines_in heard.told)) same own.own;
  others = subst (λ (n : ℕ). (other : ℕ) → (other == n) ≡ false → list_any (is_of_client other) (lines_in heard.told) ≡ false) same own.others;
}

module _ {given : Given} {lines : List Outcome} {old : SeenNodes} (s : AreSound given lines old) (i : ℕ) (c : SeenClient) (is : IsClient old i c) where
  abbrev pub Tree_now : Tree
  Tree_now = tree_at (script_of given) lines

  abbrev pub World : Around
  World = around old s.contents Tree_now

  pub sound_ready : ClientIsSound World (tree_for given lines (s.reads i)) (readied c)
  sound_ready = ready_sound World (tree_for given lines (s.reads i)) c (s.clients i c is).0 true

  pub calls_ready : HasItsCalls given lines (readied c)
  calls_ready = quiet_step given lines c (readied c) (ready_same c) (s.calls.calls i c is)

  pub looked_ready : HasLookedUp given lines (readied c) (s.reads i)
  looked_ready = same_looked given lines c (readied c) (s.reads i) (ready_same c) refl (s.calls.looked i c is)

  module _ (new : SeenNodes) (still : StandsStill old new) where
    stands : IsAround new.servers.slots World
    stands = subst (λ (n : ℕ). IsAround n World) (sym still.slots) s.stands

    rose : RoseBy new.manager.tables.next_entry new.manager.tables
    rose = subst (λ (t : Tables). RoseBy t.next_entry t) (sym still.tables) s.rose

    -- lines that tell of no update
    pub tells_lines : (heard : Heard) → new.clients ≡ slice_set old.clients i heard.client → heard.client.client ≡ c.client → TellsOwn c heard
        → tree_at (script_of given) (lines ++ lines_in heard.told) ≡ Tree_now → FitsAfter given lines heard
        → (read : Option LookedUp) → HasLookedUp given (lines ++ lines_in heard.told) heard.client read
        → ClientIsSound World (tree_for given (lines ++ lines_in heard.told) read) heard.client
        → AreOfLookups given lines (s.reads i) (lines_in heard.told)
        → ((lines_in heard.told ≡ []) × (read ≡ s.reads i)) ⊎ IsOfNow read (lines ++ lines_in heard.told)
        → ReadStays (kind_of c) (s.reads i) read lines (lines_in heard.told) → StaysSound s new i (lines_in heard.told)
    tells_lines heard clients_are same owns tree fits read looked own =
        joined s new i c is heard clients_are same owns World s.contents
        (same_around old new s.contents Tree_now (tree_at (script_of given) (lines ++ lines_in heard.told)) still tree)
        stands read own (λ j d ne at. (s.clients j d at).0) fits looked still.servers (ap (λ (z : Sizes). z.clients) still.sizes) rose

    -- nothing is told
    module _ (d : SeenClient) (clients_are : new.clients ≡ slice_set old.clients i d) (same : SameCalls (readied c) d) where
      as_before : lines ++ [] ≡ lines
      as_before = append-nil lines

      pub quiet_stays : (read : Option LookedUp) → HasLookedUp given lines d read → ClientIsSound World (tree_for given lines read) d → (read ≡ s.reads i) ⊎ IsOfNow read lines → ReadStays (kind_of c) (s.reads i) read lines [] → StaysSound s new i []
      quiet_stays read looked own looks stays =
          tells_lines (record { client = d; told = Nothing }) clients_are same.client (record { own = tt; others = λ other ne. refl })
          (ap (tree_at (script_of given)) as_before)
          (subst (FitGiven given) (sym as_before) s.told.fit, subst (λ (ls : List Outcome). HasItsCalls given ls d) (sym as_before) (quiet_step given lines (readied c) d same calls_ready))
          read
          (subst (λ (ls : List Outcome). HasLookedUp given ls d read) (sym as_before) looked)
          (subst (λ (ls : List Outcome). ClientIsSound World (tree_for given ls read) d) (sym as_before) own)
          tt
          (by looks)
          stays where
            by : (read ≡ s.reads i) ⊎ IsOfNow read lines → ((lines_in Nothing ≡ []) × (read ≡ s.reads i)) ⊎ IsOfNow read (lines ++ [])
            by (inl e) = inl (refl, e)
            by (inr now) = inr (subst (λ (ls : List Outcome). IsOfNow read ls) (sym as_before) now)

    -- a read is answered
    module _ (heard : Heard) (clients_are : new.clients ≡ slice_set old.clients i heard.client) (known : IsKnown c) (task : Task) (work : c.task ≡ Some task) (seen : Tree) (d : SeenClient)
        (ans : AnswersRead seen d (readied c) heard) where
      none : d.kept ≡ []
      none = ans.same.kept ∙ ans.none_kept

      aim_is : aim_of d.task ≡ Some task.aim
      aim_is = ans.same.aim ∙ ap aim_of work

      aim_fits : AimFits d.kept d.queue (aim_of d.task)
      aim_fits =
          subst (λ (a : Option Aim). AimFits d.kept d.queue a) (sym ans.same.aim)
          (subst (λ (q : List Numbered). AimFits d.kept q (aim_of c.task)) (sym ans.same.queue)
          (subst (λ (k : List Numbered). AimFits k c.queue (aim_of c.task)) (sym ans.same.kept) known.aim))

      pub calls : HasItsCalls given lines d
      calls = quiet_step given lines (readied c) d ans.same calls_ready

      pub at : Reads given lines d
      at = first_read given lines d task.aim aim_is none aim_fits

      right : ans.reply ≡ reply_to seen at.read.call
      right = subst (λ (q : List Numbered). IsReplyIn seen q ans.reply) (sym ans.same.queue ∙ at.queue) ans.right

      rests : (q : List Numbered) → is_reading (answers_first d q (said.Reply ans.reply)).client ≡ false
      rests [] = not_fetch d.kept Lookup refl
      rests (first ∷ more) = not_fetch d.kept Lookup refl

      not : is_reading heard.client ≡ false
      not = ap (λ (h : Heard). is_reading h.client) ans.is ∙ rests d.queue

      same_client : (q : List Numbered) → (answers_first d q (said.Reply ans.reply)).client.client ≡ d.client
      same_client [] = refl
      same_client (first ∷ more) = refl

      pub answer_stays : (place : ℕ) → IsLookedUp given lines d.client (record { number = at.read.number; at = place }) at.read.call
          → seen ≡ tree_seen given lines (record { number = at.read.number; at = place })
          → is_number (s.reads i) at.read.number ≡ true → seen ≡ tree_at (script_of given) (seen_by (s.reads i) lines)
          → (tree : Tree) → ClientIsSound World tree heard.client → (kind_of c ≡ Fetch → lines_in heard.told ≢ [] → is_some (s.reads i) ≡ true) → StaysSound s new i (lines_in heard.told)
      answer_stays place looked sees number sees_as tree own answers =
          tells_lines heard clients_are
          (ap (λ (h : Heard). h.client.client) ans.is ∙ same_client d.queue ∙ ans.same.client)
          (own_of c d heard ans.same.client (subst (TellsOwn d) (sym ans.is) (answered d (said.Reply ans.reply))))
          (tree_same (script_of given) lines (lines_in heard.told) (ap (λ (h : Heard). dids (script_of given) (lines_in h.told)) ans.is ∙ answered_none given lines d at.read at.rest at.queue ans.reply given_read at.is_read))
          (subst (FitsAfter given lines) (sym ans.is) (read_replied given lines d at.read at.rest place ans.reply s.told.fit calls s.told.calm aim_fits at.queue none looked (right ∙ ap (λ (t : Tree). reply_to t at.read.call) sees)))
          None
          not
          (any_tree World tree (tree_for given (lines ++ lines_in heard.told) None) heard.client not own)
          (subst (λ (h : Heard). AreOfLookups given lines (s.reads i) (lines_in h.told)) (sym ans.is) (answered_looks given lines d at.read at.rest at.queue ans.reply given_read at.is_read (s.reads i) number (right ∙ ap (λ (t : Tree). reply_to t at.read.call) sees_as)))
          (inr tt)
          (none_left (kind_of c) (s.reads i) lines (lines_in heard.told) answers) where
            given_read : IsGiven given d.client at.read
            given_read = is_given given lines d calls at.aim at.read at.rest at.queue
