-- What was looked up, fetched and is being read, where stripes grow and servers carry out requests.
use Rattle.std.proofs.Common.{◌≡◌, ℕ, zero, suc, ◌+◌, ◌≤◌, ◌<◌, List, [], ◌∷◌, None, refl, sym, ap, ◌∙◌, subst, inl, arith}
use Rattle.std.specs.Prelude.{drop, take}
use Rattle.std.specs.List.{AllByRecursion}
use Rattle.zb_types.specs.declared.ids.Ptr.{Ptr}
use Rattle.zb_types.specs.declared.tables.Found.{Found}
use Rattle.zb_types.specs.declared.tables.HeldUse.{HeldUse}
use Rattle.zb_holding.specs.Holding.{Maps}
use Rattle.zb_stripe.specs.declared.progress.Phase.{Phase}
use Rattle.zb_stripe.specs.declared.progress.Phase.TheVariants.{Direct}
use Rattle.zb_stripe.specs.Reading.{Reading}
use Rattle.zb_stripe_laws.specs.ReadAtWork.{StillGrow}
use Rattle.zb_stripe_laws.proofs.Ongoing.{stays}
use Rattle.zb_tables.specs.Tables.{Contents, LiesIn, SameIn, HeldOn, end_at}
use Rattle.zb_tables.specs.Taking.{Sizes}
use Rattle.zb_sound.specs.LookupsCurrent.{SameFound}
use Rattle.zb_sound.proofs.Looked.{pointer_stays}
use Rattle.zb_basis.proofs.Each.{look-each}
use Rattle.zb_client_laws.specs.Current.{FoundLies, IsReading}

-- a lower end of two lists that are the same up to a higher one
pub take_lower : (low high : ℕ) (xs ys : List ℕ) → low ≤ high → take high xs ≡ take high ys → take low xs ≡ take low ys
take_lower low high xs ys le e = sym (cut low high xs le) ∙ ap (take low) e ∙ cut low high ys le where
  cut : (low high : ℕ) (xs : List ℕ) → low ≤ high → take low (take high xs) ≡ take low xs
  cut zero high xs le = refl
  cut (suc low) zero xs le = absurd (omega arith)
  cut (suc low) (suc high) [] le = refl
  cut (suc low) (suc high) (x ∷ xs) le = ap (λ (t : List ℕ). x ∷ t) (cut low high xs (omega arith))

-- a range of two lists that are the same up to a place behind it
pub take_within : (offset len end : ℕ) (xs ys : List ℕ) → offset + len ≤ end → take end xs ≡ take end ys → take len (drop offset xs) ≡ take len (drop offset ys)
take_within offset len end xs ys le e = sym (front offset len end xs le) ∙ ap (λ (t : List ℕ). take len (drop offset t)) e ∙ front offset len end ys le where
  head : (len end : ℕ) (xs : List ℕ) → len ≤ end → take len (take end xs) ≡ take len xs
  head zero end xs le = refl
  head (suc len) zero xs le = absurd (omega arith)
  head (suc len) (suc end) [] le = refl
  head (suc len) (suc end) (x ∷ xs) le = ap (λ (t : List ℕ). x ∷ t) (head len end xs (omega arith))

  front : (offset len end : ℕ) (xs : List ℕ) → offset + len ≤ end → take len (drop offset (take end xs)) ≡ take len (drop offset xs)
  front zero len end xs le = head len end xs (omega arith)
  front (suc offset) len zero xs le = absurd (omega arith)
  front (suc offset) len (suc end) [] le = refl
  front (suc offset) len (suc end) (x ∷ xs) le = front offset len end xs (omega arith)

-- what was found names the same bytes where stripes grow
pub found_same : (contents new : Contents) (held : List HeldUse) (found : Found) → SameIn held contents new → FoundLies held found → SameFound contents new found
found_same contents new held found same lies k p e = pointer_stays contents new held p same (inl (look-each (LiesIn held) k p found.blocks lies e).1)

pub founds_same : (contents new : Contents) (held : List HeldUse) (founds : List Found) → SameIn held contents new → AllByRecursion (FoundLies held) founds
    → AllByRecursion (SameFound contents new) founds
founds_same contents new held [] same lies = tt
founds_same contents new held (f ∷ fs) same lies = (found_same contents new held f same lies.0, founds_same contents new held fs same lies.1)

-- what lies in what is held lies in what is held on
lies_on : (held later : List HeldUse) (p : Ptr) → HeldOn held later → LiesIn held p → LiesIn later p
lies_on held later p on lies = (lies.0, (let le = on p.log p.stripe in let it : p.offset + p.len ≤ end_at held p.log p.stripe = lies.1 in omega arith))

blocks_on : (held later : List HeldUse) (blocks : List (ℕ × Ptr)) → HeldOn held later → AllByRecursion (λ (e : ℕ × Ptr). LiesIn held e.1) blocks → AllByRecursion (λ (e : ℕ × Ptr). LiesIn later e.1) blocks
blocks_on held later [] on lies = tt
blocks_on held later (b ∷ bs) on lies = (lies_on held later b.1 on lies.0, blocks_on held later bs on lies.1)

pub founds_on : (held later : List HeldUse) (founds : List Found) → HeldOn held later → AllByRecursion (FoundLies held) founds → AllByRecursion (FoundLies later) founds
founds_on held later [] on lies = tt
founds_on held later (f ∷ fs) on lies = (blocks_on held later f.blocks on lies.0, founds_on held later fs on lies.1)

-- a read of a pointer goes on at work over other maps, and where stripes grow
pub reading_moves : (z : Sizes) (contents new : Contents) (maps later : Maps) (held more : List HeldUse) (ptr : Ptr) (plan : Reading)
    → 2 ≤ z.servers → 0 < z.fragment → SameIn held contents new → HeldOn held more
    → IsReading z contents maps held ptr plan → IsReading z new later more ptr plan
reading_moves z contents new maps later held more ptr plan two some same on r = record {
  servers = r.servers;
  fragment = r.fragment;
  ptr_is = r.ptr_is;
  some = r.some;
  end = r.end;
  reaches = r.reaches;
  committed = (let a = r.committed in let b = on ptr.log ptr.stripe in omega arith);
  seen = r.seen;
  work =
      stays plan.servers plan.fragment plan.ptr r.end (subst (λ (n : ℕ). 2 ≤ n) (sym r.servers) two) (subst (λ (n : ℕ). 0 < n) (sym r.fragment) some)
      (subst (λ (p : Ptr). p.offset + p.len ≤ r.end) (sym r.ptr_is) r.reaches) maps later r.seen None (contents ptr.log ptr.stripe) (new ptr.log ptr.stripe)
      (take_lower r.end (end_at held ptr.log ptr.stripe) (contents ptr.log ptr.stripe) (new ptr.log ptr.stripe) r.committed (same ptr.log ptr.stripe))
      plan.lost plan.read plan.phase r.work (grows plan.phase r.direct);
  none_lost = r.none_lost;
  direct = r.direct;
} where
  grows : (phase : Phase) → phase ≡ Direct → StillGrow plan.servers plan.ptr maps later r.seen None phase
  grows phase e = subst (λ (p : Phase). StillGrow plan.servers plan.ptr maps later r.seen None p) (sym e) tt
