use Rattle.mw_logic.specs.Parts.{nested}
use Rattle.mw_term.specs.Signatures.{sorted_of}
use Rattle.mw_least.proofs.Below.{has_below}
use Rattle.mw_least.proofs.context.Ctx.has_sort.Goals as goal

pub returns-else-has_by_operators : goal.returns-else-has_by_operators
returns-else-has_by_operators c = λ k r g.
    let sig = c.args.self.now.signature in
    let h = has_below sig (nested sig c.args.term.now) (sorted_of c.least_sort.result) c.args.sort (c.least_sort.ensures k r) in
    (λ b. h.0 (c.is_at_most.ensures.0 b), λ k. c.is_at_most.ensures.1 (h.1 k))
