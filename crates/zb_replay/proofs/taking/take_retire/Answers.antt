use Rattle.std.proofs.Common.{List, Option, Some, ap, arith, length, sym, ◌∙◌, ℕ}
use Rattle.std.specs.Option.{is_some}
use Rattle.zb_delta.specs.declared.delta.Body.{Body}
use Rattle.zb_tables.specs.Taking.{no_batch}
use Rattle.zb_tables.proofs.Living.{nothing_there, there_nothing}
use Rattle.zb_platter.proofs.Elsewhere.{none_names}
use Rattle.zb_replay.proofs.Taken.{empty_list, none_is_named, not_some}
use Rattle.zb_replay.proofs.taking.take_retire.Goals as goal

pub returns-then-len-gt0-clause-refused : goal.returns-then-len-gt0-clause-refused
returns-then-len-gt0-clause-refused c contents field is = (
  cc,
  λ batch any taken. let none = c.in_ok-found.ensures ∙ there_nothing c.args.log c.args.stripe c.args.manager.now.tables.files taken.0 in
      absurd (omega (arith, c.if-len-gt0.true, c.len.ensures, ap (λ (xs : List Body). length xs) none)),
)

pub returns-then-is_some-clause-refused : goal.returns-then-is_some-clause-refused
returns-then-is_some-clause-refused c contents field is = (
  cc,
  λ batch any taken. let none = c.first_naming.ensures ∙ none_is_named 1 c.args.log c.args.stripe c.args.before.now taken.1 in
      absurd (cc (sym c.if-is_some.true ∙ c.is_some.ensures ∙ ap (λ (o : Option ℕ). is_some o) none)),
)

pub returns-clause-taken : goal.returns-clause-taken
returns-clause-taken c contents =
    let dead = empty_list c.in_ok-found.found.items (omega (arith, c.if-len-gt0.false, c.len.ensures)) in
    record {
      batch = no_batch;
      is = tt;
      taken = (
        nothing_there c.args.log c.args.stripe c.args.manager.now.tables.files (sym c.in_ok-found.ensures ∙ dead),
        none_names 1 c.args.log c.args.stripe c.args.before.now (not_some _ (sym c.first_naming.ensures) (sym c.is_some.ensures ∙ c.if-is_some.false)),
      );
      folds = ap Some (sym c.drop_stripe.ensures.tables);
    }
