-- What entries other than commits, and changes of one server, leave.
use Rattle.std.proofs.Common.{◌≡◌, ◌⊎◌, ℕ, Bool, true, eqb, List, [], Option, Some, refl, sym, ap, ◌∙◌, subst, inl, inr}
use Rattle.std.specs.Prelude.{◌&&◌, ◌||◌}
use Rattle.std.proofs.lemmas.Bool.{cases_eq, cases_Bool, eqb-true, eqb-false, eq-eqb, or_cases}
use Rattle.std.proofs.lemmas.Option.{none-some}
use Rattle.zb_types.specs.declared.ids.LogId.{LogId}
use Rattle.zb_types.specs.declared.ids.ServerId.{ServerId}
use Rattle.zb_types.specs.declared.nodes.Members.{Members}
use Rattle.zb_types.specs.declared.nodes.State.{State}
use Rattle.zb_types.specs.declared.nodes.State.TheVariants.{Out, Mending}
use Rattle.zb_types.specs.declared.tables.HeldUse.{HeldUse}
use Rattle.zb_types.specs.Tree.{Tree}
use Rattle.zb_holding.specs.Placing.{frag_id, server_of}
use Rattle.zb_stripe_laws.specs.PartAtWork.{HasNoEmptyShare}
use Rattle.zb_entries.specs.declared.entry.Entry.TheVariants.{Attach, Mark, Retire}
use Rattle.zb_tables.specs.Tables.{Tables, Contents}
use Rattle.zb_tables.specs.Fold.{attached, after_retire, with_members}
use Rattle.zb_tables.specs.Replay.{Platter, with_entry}
use Rattle.zb_tables.specs.Taking.{Sizes, IsServer, CanTake, no_batch}
use Rattle.zb_recovery.specs.Missing.{Servers, MayMiss, OneUnfit, is_unfit, names_server}
use Rattle.zb_recovery.specs.Agreeing.{StripeAgrees, ViewAgrees}
use Rattle.zb_tables.proofs.Holding.{held_at-retired_other}
use Rattle.zb_sound.specs.Standing.{StandFor, seen}
use Rattle.zb_sound.specs.Changing.{OthersFit, OthersSame}
use Rattle.zb_tables.proofs.Retiring.{Less, both_points, gone}
use Rattle.zb_tables.proofs.Taken.{taken_then}
use Rattle.zb_sound.proofs.Delivering.{stripe_same}
use Rattle.zb_sound.proofs.Saying.{said_tables}

pub same_server : (a b : ServerId) → a.0 ≡ b.0 → a ≡ b
same_server a b e = ap (λ (n : ℕ). record { 0 = n }) e

-- where all others are fit, a server may be missing
pub others_may : (z : Sizes) (st : Servers) (members : Members) (a : ServerId) → IsServer z.servers a → OthersFit z members st a → MayMiss z.servers members st.blank (Some a)
others_may z st members a is others = record { covers = λ t server unfit. ap Some (sym (others t server unfit)); among = is }

-- of the state that names a server, the test of names
pub names_only : (state : State) (a : ServerId) → (state ≡ Out a) ⊎ (state ≡ Mending a) → (t : ServerId) → names_server state t ≡ eqb a.0 t.0
names_only state a (inl e) t = ap (λ (y : State). names_server y t) e
names_only state a (inr e) t = ap (λ (y : State). names_server y t) e

-- the server that is out or mending isn't fit
pub mark_unfit : (members : Members) (st : Servers) (a : ServerId) → (members.state ≡ Out a) ⊎ (members.state ≡ Mending a) → is_unfit members st.blank a ≡ true
mark_unfit members st a state = elim (cases_Bool (st.blank a)) as (λ _. is_unfit members st.blank a ≡ true) [
  | inl t ↦ ap (λ (y : Bool). y || names_server members.state a) t
  | inr f ↦ ap (λ (y : Bool). y || names_server members.state a) f ∙ names_only members.state a state a ∙ eq-eqb a.0 a.0 refl
]

module _ (z : Sizes) (contents : Contents) (p : Platter) (st : Servers) (T : Tables) (tree : Tree) (s : StandFor z contents p st T tree) where
  abbrev AllAgree : Servers → Option ServerId → List HeldUse → Type 0
  AllAgree servers x held = ViewAgrees (seen z servers x) contents held

  -- a new log
  pub attach_keeps : (owner : ℕ) (log : LogId) → CanTake z p T (Attach owner log) → StandFor z contents (with_entry p (Attach owner log)) st (attached T owner log) tree
  attach_keeps owner log can =
      let says = s.says in
      record {
        says = record {
          taken = taken_then z contents p.entries p.tables T _ (Attach owner log) no_batch says.taken tt can refl;
          shows = says.shows;
          points = says.points;
          ends = says.ends;
          spelled = says.spelled;
        };
        agree = record { one_unfit = s.agree.one_unfit; agree = s.agree.agree };
        none_empty = s.none_empty;
      }

  -- other members, where the stripes hold for whichever may then be missing
  pub mark_keeps : (members : Members) → CanTake z p T (Mark members) → OneUnfit z.servers members st.blank
      → ((x : Option ServerId) → MayMiss z.servers members st.blank x → AllAgree st x T.held)
      → StandFor z contents (with_entry p (Mark members)) st (with_members T members) tree
  mark_keeps members can one stand =
      let says = s.says in
      record {
        says = record {
          taken = taken_then z contents p.entries p.tables T _ (Mark members) no_batch says.taken tt can refl;
          shows = says.shows;
          points = says.points;
          ends = says.ends;
          spelled = says.spelled;
        };
        agree = record { one_unfit = one; agree = stand };
        none_empty = s.none_empty;
      }

  -- a server is marked out or mending where all others are fit
  pub mark_one_keeps : (members : Members) (a : ServerId) → CanTake z p T (Mark members) → IsServer z.servers a → (members.state ≡ Out a) ⊎ (members.state ≡ Mending a) → OthersFit z T.members st a
      → StandFor z contents (with_entry p (Mark members)) st (with_members T members) tree
  mark_one_keeps members a can is state others =
      let named = names_only members.state a state in
      let only : (t : ServerId) → IsServer z.servers t → is_unfit members st.blank t ≡ true → t ≡ a = λ t server unfit.
      elim (or_cases (st.blank t) (names_server members.state t) unfit) as (λ _. t ≡ a) [
        | inl blank ↦ others t server (ap (λ (y : Bool). y || names_server T.members.state t) blank)
        | inr n ↦ sym (same_server a t (eqb-true a.0 t.0 (sym (named t) ∙ n)))
      ] in
      let unfit = mark_unfit members st a state in
      mark_keeps members can (λ t u server server' unfit_t unfit_u. only t server unfit_t ∙ sym (only u server' unfit_u))
      (λ x may. subst (λ (y : Option ServerId). AllAgree st y T.held) (sym (may.covers a is unfit)) (s.agree.agree (Some a) (others_may z st T.members a is others)))

  module _ (log : LogId) (stripe : ℕ) where
    less_stand : (x : Option ServerId) → AllAgree st x T.held → AllAgree st x (Less T.held log stripe)
    less_stand x all l t h e = elim (cases_Bool (eqb l.0 log.0 && eqb t stripe)) as (λ _. StripeAgrees (seen z st x) contents l t h.end) [
      | inr f ↦ all l t h (sym (held_at-retired_other log stripe l t T.held f) ∙ e)
      | inl same ↦ absurd (none-some h (sym (gone T.held log stripe l t same) ∙ e))
    ]

    -- a stripe that no pointer and no entry since the checkpoint names is let go
    pub retire_keeps : CanTake z p T (Retire log stripe) → StandFor z contents (with_entry p (Retire log stripe)) st (after_retire T log stripe) tree
    retire_keeps can =
        let says = s.says in
        record {
          says = record {
            taken = taken_then z contents p.entries p.tables T _ (Retire log stripe) no_batch says.taken tt can refl;
            shows = says.shows;
            points = both_points T.held log stripe T.files can.0 says.points;
            ends = says.ends;
            spelled = says.spelled;
          };
          agree = record { one_unfit = s.agree.one_unfit; agree = λ x may. less_stand x (s.agree.agree x may) };
          none_empty = s.none_empty;
        }

  -- a checkpoint of the tables
  pub checkpoint_keeps : StandFor z contents (record { tables = T; entries = [] }) st T tree
  checkpoint_keeps =
      let says = s.says in
      record {
        says = record { taken = refl; shows = says.shows; points = says.points; ends = says.ends; spelled = said_tables z contents p T tree says };
        agree = s.agree;
        none_empty = s.none_empty;
      }

  -- whatever becomes of one server that isn't fit, where all others are
  pub away_keeps : (new : Servers) (a : ServerId) → IsServer z.servers a → is_unfit T.members new.blank a ≡ true → OthersFit z T.members st a → OthersSame st new a → HasNoEmptyShare new.maps → StandFor z contents p new T tree
  away_keeps new a is unfit others same none =
      let only : (t : ServerId) → IsServer z.servers t → is_unfit T.members new.blank t ≡ true → t ≡ a = λ t server u.
      elim (cases_eq t.0 a.0) as (λ _. t ≡ a) [
        | inl e ↦ same_server t a e
        | inr ne ↦ others t server (ap (λ (y : Bool). y || names_server T.members.state t) (sym (same.blank t ne)) ∙ u)
      ] in
      record {
        says = s.says;
        agree = record {
          one_unfit = λ t u server server' unfit_t unfit_u. only t server unfit_t ∙ sym (only u server' unfit_u);
          agree = λ x may. subst (λ (y : Option ServerId). AllAgree new y T.held) (sym (may.covers a is unfit)) (λ l t h e.
              stripe_same z.servers z.fragment st.maps new.maps (Some a) contents l t h.end
              (λ k away. same.maps (server_of z.servers (frag_id l t k)) (frag_id l t k) (λ y. eqb-false a.0 (server_of z.servers (frag_id l t k)).0 away (sym y)))
              (s.agree.agree (Some a) (others_may z st T.members a is others) l t h e));
        };
        none_empty = none;
      }
