use Rattle.std.proofs.Common.{[], ◌∷◌, All, IfOk, MatchOption, sym, subst}
use Rattle.mw_term.specs.Raws.{raw_term}
use Rattle.mw_term.specs.Statements.{fragment_of}
use Rattle.mw_build.specs.Statements.{FitsIn, FirstOversized, terms_of}
use Rattle.mw_build.proofs.Terms.{one_told}
use Rattle.mw_build.proofs.sizes.fragment_fault.Goals as goal

pub returns-in-HasSort : goal.returns-in-HasSort
returns-in-HasSort c =
    let sig = c.args.facts.now in
    subst (λ f. IfOk c.term_fault.result (λ o. MatchOption o (All (FitsIn sig) (terms_of (fragment_of f ∷ []))) (λ kind. FirstOversized sig kind (terms_of (fragment_of f ∷ []))))) (sym c.in-HasSort.is)
    (one_told sig (raw_term c.in-HasSort.term) c.term_fault.result c.term_fault.ensures)

pub returns-in-Holds : goal.returns-in-Holds
returns-in-Holds c =
    let sig = c.args.facts.now in
    subst (λ f. IfOk c.term_fault-in-Holds.result (λ o. MatchOption o (All (FitsIn sig) (terms_of (fragment_of f ∷ []))) (λ kind. FirstOversized sig kind (terms_of (fragment_of f ∷ []))))) (sym c.in-Holds.is)
    (one_told sig (raw_term c.in-Holds.term) c.term_fault-in-Holds.result c.term_fault-in-Holds.ensures)
