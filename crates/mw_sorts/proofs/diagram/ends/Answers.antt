use Rattle.std.proofs.Common.{◌∙◌, List, map, ap, subst, sym, arith}
use Rattle.std.specs.Prelude.{Option, option_map}
use Rattle.std.proofs.lemmas.List.{map-append}
use Rattle.mw_term.specs.Signatures.{sorted_of}
use Rattle.mw_term.specs.declared.signature.Sorted.{Sorted}
use Rattle.mw_sorts.specs.States.{AreEndsOf}
use Rattle.mw_sorts.proofs.Growing.{ends-more, ends-done}
use Rattle.mw_sorts.proofs.diagram.ends.Goals as goal

pub loop-number-preserved : goal.loop-number-preserved
loop-number-preserved c =
    ends-more c.args.sorting.now.signature c.args.operator.now c.loop-number.number c.args.states.now (map (option_map sorted_of) c.loop-number.ends.items) (map (option_map sorted_of) c.push.new.self.items) c.get.result.now
    (option_map sorted_of c.least_result.result) c.loop-number.invariant c.get.ensures c.least_result.ensures
    (ap (λ (es : List (Option Sorted)). map (option_map sorted_of) es) c.in_ok-push.ensures.items ∙ map-append (option_map sorted_of) c.loop-number.ends.items _)

pub returns : goal.returns
returns c =
    let high = c.loop-number-test.false in
    let low = c.loop-number.auto.number-end in
    let e = c.len-number-end.ensures in
    subst (λ (es : List (Option Sorted)). AreEndsOf c.args.sorting.now.signature c.args.operator.now c.args.states.now (map (option_map sorted_of) es)) (sym c.of.ensures)
    (ends-done c.args.sorting.now.signature c.args.operator.now c.loop-number.number c.args.states.now (map (option_map sorted_of) c.loop-number.ends.items) (omega arith) c.loop-number.invariant)
