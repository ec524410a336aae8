use Rattle.std.proofs.Common.{◌≡◌, ℕ, zero, suc, List, ◌++◌, length, Option, Some, refl, sym, subst, arith, inl}
use Rattle.std.proofs.lemmas.List.{take_at, take_all}
use Rattle.zb_holding.specs.Fragments.{Fragment, share_fragment}
use Rattle.zb_stripe_laws.specs.ReadAtWork.{IsGoneOrLonger}
use Rattle.zb_stripe_tests.proofs.growing.a_read_stays_while_its_stripe_grows.Goals as goal

longer : (new old : Option Fragment) (was more : List ℕ) → old ≡ Some (share_fragment was) → new ≡ Some (share_fragment (was ++ more)) → IsGoneOrLonger new old
longer new old was more o n =
    subst (λ z. IsGoneOrLonger z old) (sym n)
    (subst (λ z. IsGoneOrLonger (Some (share_fragment (was ++ more))) z) (sym o) (sym (take_at was more (length was) refl)))

same : (new old : Option Fragment) (was : List ℕ) → old ≡ Some (share_fragment was) → new ≡ Some (share_fragment was) → IsGoneOrLonger new old
same new old was o n =
    subst (λ z. IsGoneOrLonger z old) (sym n)
    (subst (λ z. IsGoneOrLonger (Some (share_fragment was)) z) (sym o) (sym (take_all (length was) was (omega arith))))

pub returns : goal.returns
returns c old new seen y ptr first second more third sum a b d e f g zero low covers away = inl (same _ _ first a b)
returns c old new seen y ptr first second more third sum a b d e f g (suc zero) low covers away = inl (longer _ _ second more d e)
returns c old new seen y ptr first second more third sum a b d e f g (suc (suc zero)) low covers away = absurd (omega (arith, covers))
returns c old new seen y ptr first second more third sum a b d e f g (suc (suc (suc j))) low covers away = absurd (omega (arith, low))
