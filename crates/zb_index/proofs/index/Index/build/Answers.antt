use Rattle.std.proofs.Common.{◌≡◌, length, Option, Result, Ok, Err, IfOk, sym, subst}
use Rattle.std.specs.Prelude.{IfSome}
use Rattle.std.specs.Result.{result_ok}
use Rattle.zb_index.specs.Gathering.{AreGathered}
use Rattle.zb_index.proofs.Settling.{are_older, index_of_freed, held_by_freed}
use Rattle.zb_index.proofs.index.Index.build.Goals as goal

-- what holds of the value of an Ok holds of it as an option
module _ {X E : Type 0} {P Q : X → Type 0} where
  of_ok : (r : Result X E) → IfOk r P → ((x : X) → P x → Q x) → IfSome (result_ok r) Q
  of_ok (Ok x) p then_so = then_so x p
  of_ok (Err e) p then_so = tt

  pub some_of_ok : (r : Result X E) (o : Option X) → o ≡ result_ok r → IfOk r P → ((x : X) → P x → Q x) → IfSome o Q
  some_of_ok r o is p then_so = subst (λ x. IfSome x Q) (sym is) (of_ok r p then_so)

pub returns-in-Some-clause-bad : goal.returns-in-Some-clause-bad
returns-in-Some-clause-bad c slots shown =
    c.in-Some.ensures.bad slots shown (some_of_ok c.gathered.result c.ok-names.result c.ok-names.ensures.value c.gathered.ensures (λ names all. all slots shown))

pub returns-in_default-names-clause-bad : goal.returns-in_default-names-clause-bad
returns-in_default-names-clause-bad c slots shown =
    c.in_default.ensures.good slots shown (some_of_ok c.gathered.result c.ok-names.result c.ok-names.ensures.value c.gathered.ensures (λ names all. all slots shown))

pub returns-in_default-settled-clause-bad : goal.returns-in_default-settled-clause-bad
returns-in_default-settled-clause-bad c slots shown =
    c.in_default.ensures.good slots shown (some_of_ok c.gathered.result c.ok-names.result c.ok-names.ensures.value c.gathered.ensures (λ names all. all slots shown))

pub returns-clause-good : goal.returns-clause-good
returns-clause-good c slots shown =
    c.in_default.ensures.good slots shown (some_of_ok c.gathered.result c.ok-names.result c.ok-names.ensures.value c.gathered.ensures (λ names all. all slots shown))

pub returns-clause-older : goal.returns-clause-older
returns-clause-older c slots shown =
    let some = some_of_ok c.gathered.result c.ok-names.result c.ok-names.ensures.value c.gathered.ensures (λ names all. all slots shown) in
    let all = subst (λ o. IfSome o (λ names. AreGathered (length c.args.headers.now) slots names.entries)) c.in-Some-names.is some in
    let good = c.in_default.ensures.good slots shown some in
    let built = c.in-Ok.built in
    are_older built.index built.older slots (length c.args.headers.now) good (c.in-Ok.ensures.draft slots shown all good)

pub returns-clause-index : goal.returns-clause-index
returns-clause-index c slots now shown freed =
    let some = some_of_ok c.gathered.result c.ok-names.result c.ok-names.ensures.value c.gathered.ensures (λ names all. all slots shown) in
    let all = subst (λ o. IfSome o (λ names. AreGathered (length c.args.headers.now) slots names.entries)) c.in-Some-names.is some in
    let good = c.in_default.ensures.good slots shown some in
    let built = c.in-Ok.built in
    index_of_freed built.index built.older slots (length c.args.headers.now) good (c.in-Ok.ensures.draft slots shown all good) now freed

pub returns-clause-same : goal.returns-clause-same
returns-clause-same c slots now shown freed =
    let some = some_of_ok c.gathered.result c.ok-names.result c.ok-names.ensures.value c.gathered.ensures (λ names all. all slots shown) in
    let all = subst (λ o. IfSome o (λ names. AreGathered (length c.args.headers.now) slots names.entries)) c.in-Some-names.is some in
    let good = c.in_default.ensures.good slots shown some in
    let built = c.in-Ok.built in
    held_by_freed built.index built.older slots (length c.args.headers.now) good (c.in-Ok.ensures.draft slots shown all good) now freed
