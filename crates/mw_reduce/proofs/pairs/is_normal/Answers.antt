use Rattle.std.proofs.Common.{◌≡◌, ◌∙◌, [], sym, subst}
use Rattle.mw_logic.specs.Term.{RawTerm, numeral, apply}
use Rattle.mw_logic.specs.Module.{Module}
use Rattle.mw_solving.specs.Values.{IsValue}
use Rattle.mw_builtin.proofs.NoRows.{leaf_has_no_row}
use Rattle.mw_index.specs.Choices.{AreAllTried}
use Rattle.mw_reduce.proofs.Asks.{none_failed, nothing_applies}
use Rattle.mw_reduce.proofs.pairs.is_normal.Goals as goal

pub returns-in-None : goal.returns-in-None
returns-in-None c = λ K run here value number yes.
    let M : Module = c.args.context.now in
    let t : RawTerm = c.args.number.now in
    let v : IsValue M.signature t = subst (λ m. IsValue m.signature t) here value in
    let all : AreAllTried M t [] = rw c.in-None.is at (c.in_ok-choice.ensures.is [] v (c.again.ensures.covers M c.args.index.now t)) in
    nothing_applies K.over K.rank t []
    (leaf_has_no_row K.over.signature run.accepted t (λ f ts e. let z : numeral number.0 ≡ apply f ts = sym number.1 ∙ e in cc))
    (none_failed K.over K.rank) (subst (λ m. AreAllTried m t []) (sym here) all)
