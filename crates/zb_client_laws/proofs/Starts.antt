-- A read of a pointer into what is held, as it begins.
use Rattle.std.proofs.Common.{◌≡◌, ℕ, zero, suc, ◌+◌, ◌<◌, ◌≤◌, Bool, false, List, [], ◌∷◌, Option, Some, None, refl, sym, ap, subst, get_or, arith}
use Rattle.std.specs.Prelude.{if◌then◌else◌, map, nat_lt}
use Rattle.std.specs.List.{range_with_len}
use Rattle.std.proofs.lemmas.Bool.{and_right}
use Rattle.zb_types.specs.declared.ids.LogId.{LogId}
use Rattle.zb_types.specs.declared.ids.Ptr.{Ptr}
use Rattle.zb_types.specs.declared.tables.HeldUse.{HeldUse}
use Rattle.zb_stripe.specs.declared.progress.Phase.{Phase}
use Rattle.zb_stripe.specs.declared.progress.Phase.TheVariants.{Direct, Lengths}
use Rattle.zb_stripe.specs.Reading.{Reading, end_of as read_end, first_lost, index_of, is_lost, pos_of, start}
use Rattle.zb_stripe_laws.specs.ReadAtWork.{ReadAtWork, StillGrow}
use Rattle.zb_stripe_laws.proofs.Gathering.{starts}
use Rattle.zb_stripe_laws.proofs.Ongoing.{at_work, starts_clear, stays}
use Rattle.zb_tables.specs.Tables.{LiesIn, end_at, end_of, held_at}
use Rattle.zb_sound.specs.LookupsCurrent.{RemainsIn}
use Rattle.zb_sound.specs.Standing.{seen}
use Rattle.zb_sound.proofs.Righted.{held_right}
use Rattle.zb_client_laws.specs.Around.{Around, IsAround, at_rest}
use Rattle.zb_client_laws.specs.Current.{IsReading}
use Rattle.zb_client_laws.proofs.Missing.{none_misses}

-- what is held of a stripe that has a committed byte
pub record IsThere (held : List HeldUse) (log : LogId) (stripe : ℕ) : Type 0 where
  pub h : HeldUse
  pub is : held_at log stripe held ≡ Some h
  pub end_is : end_at held log stripe ≡ h.end

pub there : (held : List HeldUse) (log : LogId) (stripe : ℕ) → 0 < end_at held log stripe → IsThere held log stripe
there held log stripe some = by (held_at log stripe held) refl some where
  by : (o : Option HeldUse) → held_at log stripe held ≡ o → 0 < end_of o → IsThere held log stripe
  by None e lt = absurd (omega arith)
  by (Some h) e lt = record { h = h; is = e; end_is = ap end_of e }

-- no server is away
all_false : (xs : List ℕ) (k : ℕ) → get_or (map (λ (_ : ℕ). false) xs) k false ≡ false
all_false [] k = refl
all_false (x ∷ xs) zero = refl
all_false (x ∷ xs) (suc k) = all_false xs k

none_lost_first : (n f : ℕ) (ptr : Ptr) (k : ℕ) → is_lost (start n f ptr None) k ≡ false
none_lost_first n f ptr k = all_false (range_with_len 0 n) k

direct_first : (n f : ℕ) (ptr : Ptr) → (start n f ptr None).phase ≡ Direct
direct_first n f ptr =
    let r : Reading = record { servers = n; fragment = f; ptr = ptr; lost = first_lost n ptr None; read = []; phase = Direct } in
    ap (λ (b : Bool). if b then Lengths else Direct) (and_right (nat_lt (pos_of r) (read_end r)) (is_lost r (index_of r)) (all_false (range_with_len 0 n) (index_of r)))

module _ (slots : ℕ) (w : Around) (a : IsAround slots w) (ptr : Ptr) (lies : LiesIn w.tables.held ptr) where
  pub two : 2 ≤ w.z.servers
  two = let l = a.limits.servers_low in omega arith

  pub some : 0 < w.z.fragment
  some = let l = a.limits.fragment_low in omega arith

  pub held : IsThere w.tables.held ptr.log ptr.stripe
  held = there w.tables.held ptr.log ptr.stripe (let l = lies.0 in let m : ptr.offset + ptr.len ≤ end_at w.tables.held ptr.log ptr.stripe = lies.1 in omega arith)

  pub remains : RemainsIn (seen w.z w.st None) w.contents ptr.log ptr.stripe held.h.end
  remains = held_right w.z w.contents (at_rest w.tables) w.st w.tables w.tree ptr.log ptr.stripe held.h a.stands held.is None (none_misses slots w a)

  inside : ptr.offset + ptr.len ≤ held.h.end
  inside = let m : ptr.offset + ptr.len ≤ end_at w.tables.held ptr.log ptr.stripe = lies.1 in let e = held.end_is in omega (arith, e)

  work : ReadAtWork w.st.maps w.st.maps None held.h.end remains.bytes (start w.z.servers w.z.fragment ptr None)
  work =
      let s = starts w.z.servers w.z.fragment w.st.maps None ptr held.h.end remains.bytes two some inside None lies.0 in
      subst (ReadAtWork w.st.maps w.st.maps None held.h.end remains.bytes) (sym s.is)
      (at_work w.z.servers w.z.fragment ptr held.h.end two some inside w.st.maps w.st.maps None None remains.bytes remains.remains (first_lost w.z.servers ptr None) [] s.phase s.so_far s.fits
      (starts_clear w.z.servers w.z.fragment ptr held.h.end two some inside w.st.maps w.st.maps None None remains.bytes remains.remains None s.phase s.known s.fits))

  pub reading_begins : IsReading w.z w.contents w.st.maps w.tables.held ptr (start w.z.servers w.z.fragment ptr None)
  reading_begins = record {
    servers = refl;
    fragment = refl;
    ptr_is = refl;
    some = lies.0;
    end = held.h.end;
    reaches = inside;
    committed = (let e = held.end_is in omega (arith, e));
    seen = w.st.maps;
    work =
        let r = start w.z.servers w.z.fragment ptr None in
        stays w.z.servers w.z.fragment ptr held.h.end two some inside w.st.maps w.st.maps w.st.maps None remains.bytes (w.contents ptr.log ptr.stripe) remains.same
        r.lost r.read r.phase work (grows r.phase (direct_first w.z.servers w.z.fragment ptr));
    none_lost = none_lost_first w.z.servers w.z.fragment ptr;
    direct = direct_first w.z.servers w.z.fragment ptr;
  } where
    grows : (phase : Phase) → phase ≡ Direct → StillGrow w.z.servers ptr w.st.maps w.st.maps w.st.maps None phase
    grows phase e = subst (λ (p : Phase). StillGrow w.z.servers ptr w.st.maps w.st.maps w.st.maps None p) (sym e) tt
