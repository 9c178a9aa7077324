use Rattle.std.proofs.Common.{refl}
use Rattle.mw_reduce.proofs.evaluation.opened.Goals as goal

pub returns : goal.returns
returns c = λ n limit all xs l u C ready m values h.
    let found = c.in_ok-solutions.ensures n all xs l u C ready m.compiled values h.normal in
    record { pattern = l; side = u; is = refl; shown = h; all = found.0; named = found.1 }
