use Rattle.std.proofs.Common.{◌∙◌, ap, arith}
use Rattle.mw_logic.specs.Signature.{at_number}
use Rattle.mw_proofread.proofs.Counting.{same_at}
use Rattle.mw_proofread.proofs.counts.statement_at.Goals as goal

pub returns : goal.returns
returns c = λ k e.
    let small = c.statements.type_inv in
    c.numbered.ensures ∙ same_at c.statements.result.now k c.args.number (omega (arith, small)) e ∙ ap (λ z. at_number z k) c.statements.ensures
