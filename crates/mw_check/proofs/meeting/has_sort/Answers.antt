use Rattle.std.proofs.Common.{IsTrue, sym, subst}
use Rattle.mw_logic.specs.Parts.{nested}
use Rattle.mw_logic.specs.Judgements.{MeetsSort}
use Rattle.mw_prooftext.proofs.AdmittedValues.{ground_term}
use Rattle.mw_term.specs.Signatures.{sorted_of}
use Rattle.mw_check.proofs.meeting.has_sort.Goals as goal

pub returns-in-Sort : goal.returns-in-Sort
returns-in-Sort c =
    let sig = c.args.context.now.signature in
    let t = c.args.term.now in
    let met = c.has_sort.ensures c.requires.canonical c.requires.raw (ground_term sig t c.requires) in
    subst (λ S. (IsTrue c.has_sort.result → MeetsSort sig (nested sig t) (sorted_of S)) × (MeetsSort sig (nested sig t) (sorted_of S) → IsTrue c.has_sort.result)) (sym c.in-Sort.is) met
