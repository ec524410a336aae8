-- What remains of a stripe stays right.
use Rattle.std.proofs.Common.{◌≡◌, ◌⊎◌, ℕ, ◌-◌, Bool, false, List, take, Option, Some, None, sym, ◌∙◌, subst, inl, inr}
use Rattle.zb_types.specs.declared.ids.LogId.{LogId}
use Rattle.zb_types.specs.declared.ids.ServerId.{ServerId}
use Rattle.zb_types.specs.declared.tables.HeldUse.{HeldUse}
use Rattle.zb_types.specs.Tree.{Tree}
use Rattle.zb_holding.specs.Fragments.{Fragment, share_fragment, parity_fragment}
use Rattle.zb_holding.specs.Placing.{share_length, share_of}
use Rattle.zb_holding.specs.Holding.{Begins, FragmentsRemain, IsGoneOrReaches, ParityRemains, ShareRemains, standing, away_at}
use Rattle.zb_stripe_laws.proofs.Left.{held_remains, remains_less}
use Rattle.zb_tables.specs.Tables.{Contents, Tables, held_at}
use Rattle.zb_tables.specs.Replay.{Platter}
use Rattle.zb_tables.specs.Taking.{Sizes}
use Rattle.zb_recovery.specs.Missing.{Servers}
use Rattle.zb_sound.specs.Standing.{StandFor, seen}
use Rattle.zb_sound.specs.Delivering.{allowed, any_one, Missing, Misses}
use Rattle.zb_sound.specs.LookupsCurrent.{RemainsIn, StripeStaysRight}

-- a held stripe is right
pub held_right : (z : Sizes) (contents : Contents) (p : Platter) (st : Servers) (tables : Tables) (tree : Tree) (log : LogId) (stripe : ℕ) (h : HeldUse)
    → StandFor z contents p st tables tree → held_at log stripe tables.held ≡ Some h → StripeStaysRight z contents st (allowed tables.members) log stripe h.end
held_right z contents p st tables tree log stripe h s e x may =
    let agrees = s.agree.agree x may log stripe h e in
    record {
      bytes = agrees.bytes;
      remains = held_remains (z.servers - 1) z.fragment (standing z.servers st.maps log stripe) (away_at z.servers x log stripe) h.end agrees.bytes agrees.held;
      same = sym agrees.first;
    }

module _ (z : Sizes) (contents : Contents) (st : Servers) (log : LogId) (stripe end : ℕ) where
  pub stays_right : (new_contents : Contents) (new : Servers) (who after : Missing) → ((x : Option ServerId) → Misses z.servers new after x → Misses z.servers st who x)
      → ((x : Option ServerId) (k : ℕ) → Misses z.servers new after x → away_at z.servers x log stripe k ≡ false
      → (standing z.servers new.maps log stripe k ≡ standing z.servers st.maps log stripe k) ⊎ (standing z.servers new.maps log stripe k ≡ None))
      → take end (new_contents log stripe) ≡ take end (contents log stripe) → StripeStaysRight z contents st who log stripe end → StripeStaysRight z new_contents new after log stripe end
  stays_right new_contents new who after fewer same cut w x may =
      let r = w x (fewer x may) in
      record {
        bytes = r.bytes;
        remains = remains_less (z.servers - 1) z.fragment (standing z.servers st.maps log stripe) (standing z.servers new.maps log stripe) (away_at z.servers x log stripe) end r.bytes
            (λ k looked. same x k may looked) r.remains;
        same = r.same ∙ sym cut;
      }

-- of a stripe whose missing fragment is gone, all is right
module _ (m f : ℕ) (stands : ℕ → Option Fragment) (away more : ℕ → Bool) (end : ℕ) (bytes : List ℕ) (gone : (k : ℕ) → (away k ≡ false) ⊎ (stands k ≡ None)) where
  share_right : (k : ℕ) → (away k ≡ false → ShareRemains m f stands away end bytes k) → (away k ≡ false) ⊎ (stands k ≡ None) → ShareRemains m f stands more end bytes k
  share_right k remains (inl looked) = let r = remains looked in record { begins = r.begins; reaches = r.reaches }
  share_right k remains (inr none) = record {
    begins = subst (λ (o : Option Fragment). Begins o (share_of f bytes k)) (sym none) tt;
    reaches = subst (IsGoneOrReaches (share_length f end k)) (sym none) tt;
  }

  covered_right : (n k : ℕ) → (away k ≡ false → IsGoneOrReaches n (stands k)) → (away k ≡ false) ⊎ (stands k ≡ None) → IsGoneOrReaches n (stands k)
  covered_right n k stored (inl looked) = stored looked
  covered_right n k stored (inr none) = subst (IsGoneOrReaches n) (sym none) tt

  parity_as : (o : Option Fragment) → ParityRemains m f stands away end bytes o → ParityRemains m f stands more end bytes o
  parity_as None r = tt
  parity_as (Some (share_fragment b)) r = absurd r
  parity_as (Some (parity_fragment lengths parity)) r = record {
    count = r.count;
    enough = r.enough;
    within = r.within;
    stored = λ k lt looked. covered_right _ k (r.stored k lt) (gone k);
    exclusive = r.exclusive;
    longest = r.longest;
  }

  parity_right : (away m ≡ false → ParityRemains m f stands away end bytes (stands m)) → (away m ≡ false) ⊎ (stands m ≡ None) → ParityRemains m f stands more end bytes (stands m)
  parity_right remains (inl looked) = parity_as (stands m) (remains looked)
  parity_right remains (inr none) = subst (ParityRemains m f stands more end bytes) (sym none) tt

  all_right : FragmentsRemain m f stands away end bytes → FragmentsRemain m f stands more end bytes
  all_right r = record {
    whole = r.whole;
    room = r.room;
    shares = λ k lt looked. share_right k (r.shares k lt) (gone k);
    parity = λ looked. parity_right r.parity (gone m);
  }

pub looked_again : (z : Sizes) (contents : Contents) (st : Servers) (log : LogId) (stripe end : ℕ) (a : ServerId) → RemainsIn (seen z st (Some a)) contents log stripe end
    → ((k : ℕ) → (away_at z.servers (Some a) log stripe k ≡ false) ⊎ (standing z.servers st.maps log stripe k ≡ None)) → StripeStaysRight z contents st any_one log stripe end
looked_again z contents st log stripe end a r gone x may = record {
  bytes = r.bytes;
  remains = all_right (z.servers - 1) z.fragment (standing z.servers st.maps log stripe) (away_at z.servers (Some a) log stripe) (away_at z.servers x log stripe) end r.bytes gone r.remains;
  same = r.same;
}
