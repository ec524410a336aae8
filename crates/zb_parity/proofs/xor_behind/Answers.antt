use Rattle.std.proofs.Common.{◌≡◌, ◌+◌, ◌-◌, ◌≤◌, List, ℕ, ◌++◌, length, drop, get_or, bit_xor, ap, ◌∙◌, arith, length-drop}
use Rattle.std.proofs.lemmas.List.{get_or-append_right, get_or-drop}
use Rattle.zb_holding.specs.Exclusive.{xored}
use Rattle.zb_holding.proofs.Exclusives.{get_or-xored_shorter}
use Rattle.zb_parity.proofs.xor_behind.Goals as goal

behind : (front into from mid new : List ℕ) (at y : ℕ) → length front ≡ at → at + length from ≤ length into → mid ≡ drop at into → new ≡ xored mid from
    → get_or (front ++ new) (at + y) 0 ≡ bit_xor (get_or into (at + y) 0) (get_or from y 0)
behind front into from mid new at y long room is made =
    let same : at + y - at ≡ y = omega arith in
    get_or-append_right front new at (at + y) 0 long (omega arith)
    ∙ ap (λ (z : ℕ). get_or new z 0) same
    ∙ ap (λ (z : List ℕ). get_or z y 0) (made ∙ ap (λ (z : List ℕ). xored z from) is)
    ∙ get_or-xored_shorter (drop at into) from y (omega (arith, length-drop at into))
    ∙ ap (λ (z : ℕ). bit_xor z (get_or from y 0)) (get_or-drop at into y 0)

pub returns-clause-behind : goal.returns-clause-behind
returns-clause-behind c y =
    let parts = c.split_at_mut-behind.ensures in
    behind c.split_at_mut-behind.result.0.now c.args.into.now c.args.from.now c.split_at_mut-behind.result.1.now c.xor_into.new.into c.args.at y parts.front_len c.requires parts.back c.xor_into.ensures
