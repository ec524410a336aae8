-- From one client's step to all nodes.
use Rattle.std.proofs.Common.{◌≡◌, ◌≢◌, ℕ, zero, suc, ◌+◌, true, false, Bool, List, [], ◌∷◌, ◌++◌, length, Option, Some, None, refl, sym, ap, ◌∙◌, subst, arith}
use Rattle.std.specs.Prelude.{◌⊎◌, ◌==◌, if◌then◌else◌, slice_get, slice_set}
use Rattle.std.specs.List.{AllByRecursion, list_any}
use Rattle.std.proofs.lemmas.Bool.{eq-eqb, ne_eqb}
use Rattle.std.proofs.lemmas.Option.{same_Some}
use Rattle.zb_types.specs.Tree.{Tree}
use Rattle.zb_types.specs.declared.lines.Outcome.{Outcome}
use Rattle.zb_claims.specs.Points.{is_of_client, tree_at}
use Rattle.zb_given.specs.Given.{Given, script_of}
use Rattle.zb_given.specs.Calls.{LookedUp}
use Rattle.zb_given.specs.Telling.{AreOfLookups, IsOfNow}
use Rattle.zb_tables.specs.Tables.{Contents}
use Rattle.zb_client.specs.Seen.{SeenClient, kind_of}
use Rattle.zb_client.specs.Telling.{Heard}
use Rattle.zb_client_laws.specs.Around.{Around, IsAround}
use Rattle.zb_client_laws.specs.Sound.{ClientIsSound, ClientsAreSound}
use Rattle.zb_client_laws.proofs.Joined.{all_sound}
use Rattle.zb_line_laws.specs.Calls.{FitsAfter, HasItsCalls, TellsOwn, lines_in}
use Rattle.zb_line_laws.proofs.Staying.{beside}
use Rattle.zb_progress.specs.Fresh.{RoseBy}
use Rattle.zb_system.specs.Nodes.{IsClient, SeenNodes, around}
use Rattle.zb_system.specs.Looking.{HasLookedUp, tree_for}
use Rattle.zb_system.specs.Sound.{AreSound, ClientsHaveCalls, ReadStays, ServersAreSound, StaysSound}
use Rattle.zb_system.proofs.AnyTree.{any_tree}
use Rattle.zb_system.proofs.Changed.{each_place}
use Rattle.zb_system.proofs.FirstReads.{looked_over, seen_same}
use Rattle.zb_system.proofs.Telling.{calm_more}

-- the reads, with another one at a place
abbrev pub reads_with_one : (ℕ → Option LookedUp) → ℕ → Option LookedUp → ℕ → Option LookedUp
reads_with_one reads i read j = if j == i then read else reads j

pub at_one : (reads : ℕ → Option LookedUp) (i : ℕ) (read : Option LookedUp) → reads_with_one reads i read i ≡ read
at_one reads i read = ap (λ (b : Bool). if b then read else reads i) (eq-eqb i i refl)

pub at_other : (reads : ℕ → Option LookedUp) (i : ℕ) (read : Option LookedUp) (j : ℕ) → j ≢ i → reads_with_one reads i read j ≡ reads j
at_other reads i read j ne = ap (λ (b : Bool). if b then read else reads j) (ne_eqb j i ne)

-- a list of which one element is another
module _ (clients : List SeenClient) (i : ℕ) (after : SeenClient) where
  pub elsewhere : (cs : List SeenClient) (k j : ℕ) → j ≢ k → slice_get (slice_set cs k after) j ≡ slice_get cs j
  elsewhere [] k j ne = refl
  elsewhere (x ∷ cs) zero zero ne = absurd (ne refl)
  elsewhere (x ∷ cs) zero (suc j) ne = refl
  elsewhere (x ∷ cs) (suc k) zero ne = refl
  elsewhere (x ∷ cs) (suc k) (suc j) ne = elsewhere cs k j (λ e. ne (ap suc e))

  pub set_length : length (slice_set clients i after) ≡ length clients
  set_length = of clients i where
    of : (cs : List SeenClient) (k : ℕ) → length (slice_set cs k after) ≡ length cs
    of [] k = refl
    of (x ∷ cs) zero = refl
    of (x ∷ cs) (suc k) = ap suc (of cs k)

-- the numbers that are looked at
not_own : (i j : ℕ) → j ≢ i → (j + 1 == i + 1) ≡ false
not_own i j ne = ne_eqb (j + 1) (i + 1) (λ e. ne (omega (arith, e)))

module _ {given : Given} {lines : List Outcome} {old : SeenNodes} (s : AreSound given lines old) (new : SeenNodes) (i : ℕ) (c : SeenClient) (is : IsClient old i c) (heard : Heard)
    (clients_are : new.clients ≡ slice_set old.clients i heard.client) (same : heard.client.client ≡ c.client) where
  abbrev More : List Outcome
  More = lines_in heard.told

  abbrev After : List SeenClient
  After = slice_set old.clients i heard.client

  abbrev pub Now : Around
  Now = around old s.contents (tree_at (script_of given) lines)

  number_of : (j : ℕ) (d : SeenClient) → IsClient old j d → d.client ≡ j + 1
  number_of j d at = (s.clients j d at).1

  module _ (owns : TellsOwn c heard) where
    none_of : (j : ℕ) (d : SeenClient) → j ≢ i → IsClient old j d → list_any (is_of_client d.client) More ≡ false
    none_of j d ne at =
        owns.others d.client
        (ap (λ (n : ℕ). n == c.client) (number_of j d at) ∙ ap (λ (n : ℕ). j + 1 == n) (number_of i c is) ∙ not_own i j ne)

    own_lines : AllByRecursion (λ line. is_of_client (i + 1) line ≡ true) More
    own_lines = subst (λ (n : ℕ). AllByRecursion (λ line. is_of_client n line ≡ true) More) (number_of i c is) owns.own

    module _ (w : Around) (contents : Contents) (at : around new contents (tree_at (script_of given) (lines ++ More)) ≡ w)
        (stands : IsAround new.servers.slots w) (read : Option LookedUp)
        (own : ClientIsSound w (tree_for given (lines ++ More) read) heard.client)
        (others : (j : ℕ) (d : SeenClient) → j ≢ i → IsClient old j d → ClientIsSound w (tree_for given lines (s.reads j)) d)
        (fits : FitsAfter given lines heard) (looked : HasLookedUp given (lines ++ More) heard.client read)
        (servers : ServersAreSound new) (count : new.manager.sizes.clients ≡ old.manager.sizes.clients) (rose : RoseBy new.manager.tables.next_entry new.manager.tables) where
      abbrev Reads : ℕ → Option LookedUp
      Reads = reads_with_one s.reads i read

      -- what another client sees stays the same, if it sees any
      sees : (j : ℕ) (d : SeenClient) (r : Option LookedUp) → HasLookedUp given lines d r → ClientIsSound w (tree_for given lines r) d → ClientIsSound w (tree_for given (lines ++ More) r) d
      sees j d None has sound = any_tree w (tree_for given lines None) (tree_for given (lines ++ More) None) d has sound
      sees j d (Some r) has sound = subst (λ (t : Tree). ClientIsSound w t d) (sym (seen_same given lines More d r has)) sound

      abbrev later : ℕ → Tree
      later j = tree_for given (lines ++ More) (Reads j)

      own_later : ClientIsSound w (later i) heard.client
      own_later = subst (λ (r : Option LookedUp). ClientIsSound w (tree_for given (lines ++ More) r) heard.client) (sym (at_one s.reads i read)) own

      other_later : (j : ℕ) (d : SeenClient) → j ≢ i → IsClient old j d → ClientIsSound w (later j) d
      other_later j d ne at_j =
          subst (λ (r : Option LookedUp). ClientIsSound w (tree_for given (lines ++ More) r) d) (sym (at_other s.reads i read j ne))
          (sees j d (s.reads j) (s.calls.looked j d at_j) (others j d ne at_j))

      all_later : ClientsAreSound w later After
      all_later = all_sound Now w (λ j. tree_for given lines (s.reads j)) later old.clients s.clients i c heard.client is same own_later other_later

      calls_after : ClientsHaveCalls given (lines ++ More) Reads After
      calls_after = record {
        calls = each_place (λ j d. HasItsCalls given (lines ++ More) d) old.clients i heard.client (λ x at. fits.1)
            (λ j d ne at_j. beside given lines More d (none_of j d ne at_j) (s.calls.calls j d at_j));
        looked = each_place (λ j d. HasLookedUp given (lines ++ More) d (Reads j)) old.clients i heard.client
            (λ x at. subst (HasLookedUp given (lines ++ More) heard.client) (sym (at_one s.reads i read)) looked)
            (λ j d ne at_j. subst (HasLookedUp given (lines ++ More) d) (sym (at_other s.reads i read j ne)) (looked_over given lines More d (s.reads j) (none_of j d ne at_j) (s.calls.looked j d at_j)));
      }

      abbrev sound : AreSound given (lines ++ More) new
      sound = record {
        contents = contents;
        reads = Reads;
        stands = subst (IsAround new.servers.slots) (sym at) stands;
        clients = subst (λ (x : Around). ClientsAreSound x later new.clients) (sym at) (subst (ClientsAreSound w later) (sym clients_are) all_later);
        count = ap length clients_are ∙ set_length old.clients i heard.client ∙ s.count ∙ sym count;
        calls = subst (ClientsHaveCalls given (lines ++ More) Reads) (sym clients_are) calls_after;
        servers = servers;
        told = record { fit = fits.0; calm = calm_more (i + 1) lines More own_lines s.told.calm };
        rose = rose;
      }

      pub joined : AreOfLookups given lines (s.reads i) More → ((More ≡ []) × (read ≡ s.reads i)) ⊎ IsOfNow read (lines ++ More)
          → ReadStays (kind_of c) (s.reads i) read lines More → StaysSound s new i More
      joined replies looks stays = record {
        sound = sound;
        tells = record {
          own = own_lines;
          reads = replies;
          looks = subst (λ (r : Option LookedUp). ((More ≡ []) × (r ≡ s.reads i)) ⊎ IsOfNow r (lines ++ More)) (sym (at_one s.reads i read)) looks;
        };
        read = λ d at_i.
            subst (λ (x : SeenClient). ReadStays (kind_of x) (s.reads i) (Reads i) lines More) (same_Some c d (sym is ∙ at_i))
            (subst (λ (r : Option LookedUp). ReadStays (kind_of c) (s.reads i) r lines More) (sym (at_one s.reads i read)) stays);
        others = at_other s.reads i read;
      }
