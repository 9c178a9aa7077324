use Rattle.std.proofs.Common.{◌∙◌, ap, sym, arith}
use Rattle.std.specs.Prelude.{None, ◌∷◌}
use Rattle.mw_search.specs.Goals.{outcome_trace}
use Rattle.mw_logic.specs.Term.{numeral}
use Rattle.mw_search.proofs.Meeting.{args_goes, args_none, args_fewer, args_more, got}
use Rattle.mw_search.proofs.outcomes.args_met.Goals.{then-at-terms, else-at-terms}
use Rattle.mw_search.proofs.outcomes.args_met.Goals as goal

pub returns-then-at-patterns : goal.returns-then-at-patterns
returns-then-at-patterns c = λ sig single vs k. elim c.if-at-terms.branch [
  | then-at-terms w ↦ args_none sig single c.args.pattern.now c.args.term.now _ _ c.args.at c.arguments-patterns.ensures c.arguments-terms.ensures (omega arith) (omega arith) vs k ∙ ap (λ o. None ∷ outcome_trace sig single o vs k) (sym w.result-is)
  | else-at-terms w ↦ args_fewer sig single c.args.pattern.now c.args.term.now _ _ _ c.args.at c.arguments-patterns.ensures c.arguments-terms.ensures (omega arith) (omega arith) (got c.arguments-terms.result.now c.args.at (numeral 0) (omega arith)) vs k ∙ ap (λ o. None ∷ outcome_trace sig single o vs k) (sym w.result-is)
]

pub returns-then-at-terms-2 : goal.returns-then-at-terms-2
returns-then-at-terms-2 c = λ sig single vs k. args_more sig single c.args.pattern.now c.args.term.now _ _ _ c.args.at c.arguments-patterns.ensures c.arguments-terms.ensures (omega arith) (got c.arguments-patterns.result.now c.args.at (numeral 0) (omega arith)) (omega arith) vs k

pub returns : goal.returns
returns c = λ sig single vs k. args_goes sig single c.args.pattern.now c.args.term.now c.index-patterns-at.result c.index-terms-at.result c.in_ok-pattern.pattern c.in_ok-term.term c.in_ok-first.first c.in_ok-met.met
    c.arguments-patterns.result.now c.arguments-terms.result.now c.args.at c.arguments-patterns.ensures c.arguments-terms.ensures (omega arith) c.index-patterns-at.is (omega arith) c.index-terms-at.is
    c.in_ok-pattern.ensures c.in_ok-term.ensures c.in_ok-first.ensures c.in_ok-met.ensures vs k
