use Rattle.std.proofs.Common.{◌∙◌, ap}
use Rattle.mw_logic.specs.Terms.{terms_of}
use Rattle.mw_logic.specs.NormalForm.{applied_in, flattened, identity_of}
use Rattle.mw_logic.proofs.Canonical.{assoc-true}
use Rattle.mw_proof.specs.Beside.{starts}
use Rattle.mw_proof.proofs.Between.{of_flattened}
use Rattle.mw_proof.proofs.besides.whole.Goals as goal

pub returns : goal.returns
returns c =
    let M = c.args.context.now in
    let sig = M.signature in
    let f = c.args.operator in
    let A = c.requires.assoc in
    c.in_ok-term.ensures ∙ ap (λ s. applied_in s f (terms_of c.in_ok-terms.terms.items)) c.facts-2.ensures ∙ ap (applied_in sig f) c.in_ok-terms.ensures
    ∙ ap (λ s. applied_in sig f (flattened (identity_of s f) f (starts c.args.pieces.now))) c.facts.ensures
    ∙ of_flattened M c.shows.ensures.signature.accepted f (assoc-true sig f A.operator A.is_there A.assoc) (starts c.args.pieces.now) c.requires.canonical
