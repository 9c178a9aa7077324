use Rattle.std.proofs.Common.{subst}
use Rattle.mw_logic.specs.Parts.{nested}
use Rattle.mw_logic.proofs.Canonical.{IsCanonical, canonical}
use Rattle.mw_sorting.proofs.Leastness.{computed-least}
use Rattle.mw_term.specs.Signatures.{sorted_of}
use Rattle.mw_sorts.proofs.least.least_sort.Goals as goal

pub returns : goal.returns
returns c = λ sig tables ok e raw.
    computed-least sig ok c.args.term.now (sorted_of c.computed_sort.result) (subst (IsCanonical sig) e (canonical sig ok.accepted (nested sig c.args.term.now))) raw (c.computed_sort.ensures sig tables ok raw)
