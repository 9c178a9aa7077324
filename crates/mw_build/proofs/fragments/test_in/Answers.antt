use Rattle.std.proofs.Common.{ℕ, Option, MatchOption, subst}
use Rattle.mw_logic.specs.Signature.{IsSortNamed}
use Rattle.mw_module.specs.Words.{texts}
use Rattle.mw_build.proofs.Asking.{no_sort}
use Rattle.mw_build.proofs.fragments.test_in.Goals as goal

pub returns-in-Some-2 : goal.returns-in-Some-2
returns-in-Some-2 c = λ sig variables grammar.
    let a = c.in-Some.asked in
    record {
      bracketed = a.bracketed;
      name = a.name.now;
      asks = c.in-Some.ensures;
      number = c.in-Some-2.sort;
      named = subst (λ (o : Option ℕ). MatchOption o ((S : ℕ) → ¬ IsSortNamed sig S a.name.now) (λ S. IsSortNamed sig S a.name.now)) c.in-Some-2.is (c.in_ok-sort.ensures sig variables grammar);
      is = c.sorted.ensures;
    }

pub returns-in-None : goal.returns-in-None
returns-in-None c = λ sig variables grammar.
    let a = c.in-Some.asked in
    no_sort sig (texts c.args.tokens.now) (texts a.term.now) a.bracketed a.name.now c.in-Some.ensures
    (subst (λ (o : Option ℕ). MatchOption o ((S : ℕ) → ¬ IsSortNamed sig S a.name.now) (λ S. IsSortNamed sig S a.name.now)) c.in-None.is (c.in_ok-sort.ensures sig variables grammar))
