-- What is copied, moved and deleted.
use Rattle.std.proofs.Common.{◌≡◌, ℕ, zero, suc, Bool, true, false, not, ◌&&◌, List, [], ◌∷◌, ◌++◌, length, Some, refl, ap, sym, ◌∙◌}
use Rattle.std.specs.Prelude.{slice_get, nat_le, nat_lt}
use Rattle.std.specs.List.{list_any}
use Rattle.std.proofs.lemmas.Option.{same_Some}
use Rattle.zb_types.specs.declared.ids.FragId.{FragId}
use Rattle.zb_types.specs.declared.ids.Ptr.{Ptr}
use Rattle.zb_types.specs.declared.tables.Status.{Status}
use Rattle.zb_delta.specs.declared.delta.Body.{Body}
use Rattle.zb_delta.specs.declared.delta.Delta.{Delta}
use Rattle.zb_pass.specs.Copying.{AreBytes}
use Rattle.zb_pass.specs.Moving.{moves}
use Rattle.zb_pass.specs.Sweeping.{holds, is_stray, may_write}
use Rattle.zb_cleaner.specs.Deltas.{MovesOne}

pub bytes_more : (bytes : Ptr → List ℕ) (live : List Body) (blocks : List (List ℕ)) (body : Body) (block : List ℕ) → AreBytes bytes live blocks → slice_get live (length blocks) ≡ Some body → bytes body.now ≡ block
    → AreBytes bytes live (blocks ++ block ∷ [])
bytes_more bytes [] [] body block h e b = absurd cc
bytes_more bytes (x ∷ live) [] body block h e b = (ap (λ (z : Body). bytes z.now) (same_Some x body e) ∙ b, tt)
bytes_more bytes [] (first ∷ blocks) body block h e b = absurd h
bytes_more bytes (x ∷ live) (first ∷ blocks) body block h e b = (h.0, bytes_more bytes live blocks body block h.1 e b)

pub moves_one : (live : List Body) (ptrs : List Ptr) (k : ℕ) (delta : Delta) → slice_get (moves live ptrs) k ≡ Some delta → MovesOne live ptrs k delta
moves_one [] ptrs k delta e = absurd cc
moves_one (body ∷ live) [] k delta e = absurd cc
moves_one (body ∷ live) (ptr ∷ ptrs) zero delta e = record { body = body; ptr = ptr; from = refl; to = refl; is = sym (same_Some _ delta e) }
moves_one (body ∷ live) (ptr ∷ ptrs) (suc k) delta e =
    let one = moves_one live ptrs k delta e in
    record { body = one.body; ptr = one.ptr; from = one.from; to = one.to; is = one.is }

third : (a b c d : Bool) → (a && (b && (not c && not d))) ≡ true → c ≡ false
third true true false d e = refl
third true true true d e = absurd cc
third true false c d e = absurd cc
third false b c d e = absurd cc

fourth : (a b c d : Bool) → (a && (b && (not c && not d))) ≡ true → d ≡ false
fourth true true false false e = refl
fourth true true false true e = absurd cc
fourth true true true d e = absurd cc
fourth true false c d e = absurd cc
fourth false b c d e = absurd cc

pub unheld : (status : Status) (id : FragId) → is_stray status id ≡ true → list_any (holds id) status.held ≡ false
unheld status id e = third (nat_le 1 id.log.0) (nat_lt id.log.0 status.next) (list_any (holds id) status.held) (list_any (may_write id) status.logs) e

pub unwritten : (status : Status) (id : FragId) → is_stray status id ≡ true → list_any (may_write id) status.logs ≡ false
unwritten status id e = fourth (nat_le 1 id.log.0) (nat_lt id.log.0 status.next) (list_any (holds id) status.held) (list_any (may_write id) status.logs) e
