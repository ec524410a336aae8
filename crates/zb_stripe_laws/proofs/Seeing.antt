-- A stripe is judged by what is looked at.
use Rattle.std.proofs.Common.{◌≡◌, ℕ, ◌≤◌, Bool, false, List, length, Option, Some, None, sym, subst}
use Rattle.std.specs.Prelude.{slice_index}
use Rattle.zb_holding.specs.Fragments.{Fragment}
use Rattle.zb_holding.specs.Fragments.{share_fragment, parity_fragment}
use Rattle.zb_holding.specs.Placing.{share_of, share_length}
use Rattle.zb_holding.specs.Holding.{share_bytes, Begins, ParityHolds, FragmentsHold}

module _ (m f : ℕ) (stands stands' : ℕ → Option Fragment) (away : ℕ → Bool) (end : ℕ) (bytes : List ℕ) (same : (k : ℕ) → away k ≡ false → stands' k ≡ stands k) where
  seen_parity : (p : Option Fragment) → ParityHolds m f stands away end bytes p → ParityHolds m f stands' away end bytes p
  seen_parity None c = c
  seen_parity (Some (share_fragment s)) c = c
  seen_parity (Some (parity_fragment lengths parity)) c =
      record {
        count = c.count;
        enough = c.enough;
        within = c.within;
        stored = λ k l a. subst (λ o. slice_index lengths k ≤ length (share_bytes o)) (sym (same k a)) (c.stored k l a);
        exclusive = c.exclusive;
        longest = c.longest;
      }

  pub holds_seen : FragmentsHold m f stands away end bytes → FragmentsHold m f stands' away end bytes
  holds_seen h =
      record {
        whole = h.whole;
        room = h.room;
        shares = λ k l a. let s = h.shares k l a in record {
          begins = subst (λ o. Begins o (share_of f bytes k)) (sym (same k a)) s.begins;
          reaches = subst (λ o. share_length f end k ≤ length (share_bytes o)) (sym (same k a)) s.reaches;
        };
        parity = λ a. subst (ParityHolds m f stands' away end bytes) (sym (same m a)) (seen_parity (stands m) (h.parity a));
      }
