use Rattle.std.proofs.Common.{rules, not}
use Rattle.std.specs.Ordering.{is_gt}
use Rattle.std.proofs.lemmas.Fn.{always_returns_same}
use Rattle.mw_logic.specs.TermOrder.{compare_terms}
use Rattle.mw_search.proofs.Alone.{climbing, neighbours}
use Rattle.mw_search.proofs.gathered.climb.Goals as goal

pub returns : goal.returns
returns c = λ w.
    climbing c.args.terms.now (neighbours c.args.terms.now c.is_sorted_by.result (c.is_sorted_by.ensures.cases (λ a b. not (is_gt (compare_terms a b))) (always_returns_same _ _ _ (λ a r f k. search rules))) w)
