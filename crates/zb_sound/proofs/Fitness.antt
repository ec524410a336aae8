-- Nodes stay fit.
use Rattle.std.proofs.Common.{◌≡◌, ◌≢◌, ◌⊎◌, ℕ, Bool, true, false, sym, ap, ◌∙◌, subst, inl, inr}
use Rattle.std.specs.Prelude.{◌||◌}
use Rattle.std.proofs.lemmas.Bool.{cases_eq, cases_Bool, false≢true, eq-eqb, ne_eqb, or_parts}
use Rattle.zb_types.specs.declared.ids.ServerId.{ServerId}
use Rattle.zb_types.specs.declared.nodes.Members.{Members}
use Rattle.zb_types.specs.declared.nodes.State.{State}
use Rattle.zb_types.specs.declared.nodes.State.TheVariants.{Whole, Out, Mending}
use Rattle.zb_tables.specs.Taking.{IsServer, Sizes}
use Rattle.zb_recovery.specs.Missing.{Servers, is_unfit, names_server}
use Rattle.zb_sound.specs.Changing.{OthersFit}
use Rattle.zb_sound.specs.NodesFit.{NoOtherLost, Nodes, NodesAreFit, NodesStop, OthersServe, OthersStay}
use Rattle.zb_sound.proofs.Changing.{names_only, same_server}

not_both : (b : Bool) → b ≡ false → b ≡ true → ⊥
not_both b f t = false≢true (sym f ∙ t)

fit_from : (members : Members) (blank : ServerId → Bool) (s : ServerId) → blank s ≡ false → names_server members.state s ≡ false → is_unfit members blank s ≡ false
fit_from members blank s b n = ap (λ (x : Bool). x || names_server members.state s) b ∙ n

module _ (n : ℕ) (members : Members) where
  pub whole_fit : (blank : ServerId → Bool) (nodes : Nodes) → members.state ≡ Whole → ((s : ServerId) → IsServer n s → blank s ≡ false) → NodesAreFit n members blank nodes
  whole_fit blank nodes whole none = record {
    serving = λ s is e. fit_from members blank s (none s is) (ap (λ (state : State). names_server state s) whole);
    known = λ s is e. absurd (not_both (blank s) (none s is) e);
  }

  module _ (blank : ServerId → Bool) (nodes : Nodes) (fit : NodesAreFit n members blank nodes) where
    pub stop_fit : (new : Nodes) → NodesStop nodes new → NodesAreFit n members blank new
    stop_fit new stop = record {
      serving = λ s is e. fit.serving s is (stop.serves s e);
      known = λ s is e. still s (fit.known s is e);
    } where
      still : (s : ServerId) → (nodes.blank s ≡ true) ⊎ (names_server members.state s ≡ true) → (new.blank s ≡ true) ⊎ (names_server members.state s ≡ true)
      still s (inl b) = inl (stop.blank s b)
      still s (inr m) = inr m

    module _ (later : ServerId → Bool) (new : Nodes) (a : ServerId) (stay : OthersStay nodes new blank later a) where
      other_serves : (s : ServerId) → s.0 ≢ a.0 → IsServer n s → new.serves s ≡ true → is_unfit members later s ≡ false
      other_serves s ne is e = ap (λ (b : Bool). b || names_server members.state s) (stay.blank_is s ne) ∙ fit.serving s is (sym (stay.serves s ne) ∙ e)

      other_known : (s : ServerId) → s.0 ≢ a.0 → IsServer n s → later s ≡ true → (new.blank s ≡ true) ⊎ (names_server members.state s ≡ true)
      other_known s ne is e = still (fit.known s is (sym (stay.blank_is s ne) ∙ e)) where
        still : (nodes.blank s ≡ true) ⊎ (names_server members.state s ≡ true) → (new.blank s ≡ true) ⊎ (names_server members.state s ≡ true)
        still (inl b) = inl (stay.nodes s ne ∙ b)
        still (inr m) = inr m

      one_fit : (new.serves a ≡ true → is_unfit members later a ≡ false) → (later a ≡ true → (new.blank a ≡ true) ⊎ (names_server members.state a ≡ true)) → NodesAreFit n members later new
      one_fit serving known = record {
        serving = λ s is e. elim (cases_eq s.0 a.0) as (λ _. is_unfit members later s ≡ false) [
          | inl same ↦ let at = same_server s a same in subst (λ (t : ServerId). is_unfit members later t ≡ false) (sym at) (serving (subst (λ (t : ServerId). new.serves t ≡ true) at e))
          | inr ne ↦ other_serves s ne is e
        ];
        known = λ s is e. elim (cases_eq s.0 a.0) as (λ _. (new.blank s ≡ true) ⊎ (names_server members.state s ≡ true)) [
          | inl same ↦
              let at = same_server s a same in
              subst (λ (t : ServerId). (new.blank t ≡ true) ⊎ (names_server members.state t ≡ true)) (sym at) (known (subst (λ (t : ServerId). later t ≡ true) at e))
          | inr ne ↦ other_known s ne is e
        ];
      }

      pub away_fit : new.serves a ≡ false → (new.blank a ≡ true) ⊎ (names_server members.state a ≡ true) → NodesAreFit n members later new
      away_fit stopped lost = one_fit (λ e. absurd (not_both (new.serves a) stopped e)) (λ e. lost)

    pub up_fit : (new : Nodes) (a : ServerId) → OthersStay nodes new blank blank a → is_unfit members blank a ≡ false → NodesAreFit n members blank new
    up_fit new a stay own = one_fit blank new a stay (λ e. own) (λ e. absurd (not_both (blank a) (or_parts (blank a) (names_server members.state a) own).0 e))

-- one is marked that doesn't serve, while all others do
pub mark_fit : (n : ℕ) (before members : Members) (blank : ServerId → Bool) (nodes : Nodes) (a : ServerId) → (members.state ≡ Out a) ⊎ (members.state ≡ Mending a) → nodes.serves a ≡ false → OthersServe n nodes a
    → NodesAreFit n before blank nodes → NodesAreFit n members blank nodes
mark_fit n before members blank nodes a state stopped others fit = record {
  serving = λ s is e. elim (cases_eq s.0 a.0) as (λ _. is_unfit members blank s ≡ false) [
    | inl same ↦ absurd (not_both (nodes.serves a) stopped (subst (λ (t : ServerId). nodes.serves t ≡ true) (same_server s a same) e))
    | inr ne ↦
        fit_from members blank s (or_parts (blank s) (names_server before.state s) (fit.serving s is e)).0
        (names_only members.state a state s ∙ ne_eqb a.0 s.0 (λ y. ne (sym y)))
  ];
  known = λ s is e. elim (cases_eq s.0 a.0) as (λ _. (nodes.blank s ≡ true) ⊎ (names_server members.state s ≡ true)) [
    | inl same ↦ inr (names_only members.state a state s ∙ eq-eqb a.0 s.0 (sym same))
    | inr ne ↦ absurd (not_both (blank s) (or_parts (blank s) (names_server before.state s) (fit.serving s is (others s is ne))).0 e)
  ];
}

module _ (z : Sizes) (members : Members) (st : Servers) (nodes : Nodes) (a : ServerId) (fit : NodesAreFit z.servers members st.blank nodes) where
  only : ((s : ServerId) → IsServer z.servers s → s.0 ≢ a.0 → is_unfit members st.blank s ≡ false) → OthersFit z members st a
  only others s is unfit = elim (cases_eq s.0 a.0) as (λ _. s ≡ a) [
    | inl same ↦ same_server s a same
    | inr ne ↦ absurd (not_both (is_unfit members st.blank s) (others s is ne) unfit)
  ]

  pub serving_fit : OthersServe z.servers nodes a → OthersFit z members st a
  serving_fit others = only (λ s is ne. fit.serving s is (others s is ne))

  -- a server that isn't blank but by its node's word has its own super cell
  own_cell : (s : ServerId) → IsServer z.servers s → nodes.blank s ≡ false → names_server members.state s ≡ false → st.blank s ≡ false
  own_cell s is not_blank not_named = elim (cases_Bool (st.blank s)) as (λ _. st.blank s ≡ false) [
    | inr f ↦ f
    | inl t ↦ absurd (neither (fit.known s is t))
  ] where
    neither : (nodes.blank s ≡ true) ⊎ (names_server members.state s ≡ true) → ⊥
    neither (inl b) = not_both (nodes.blank s) not_blank b
    neither (inr m) = not_both (names_server members.state s) not_named m

  pub none_lost_fit : NoOtherLost z.servers members nodes a → OthersFit z members st a
  none_lost_fit others = only (λ s is ne. let o = others s is ne in fit_from members st.blank s (own_cell s is o.0 o.1) o.1)
