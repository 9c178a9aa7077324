use Rattle.std.proofs.Common.{◌∙◌, ◌∷◌, ap}
use Rattle.mw_logic.specs.Terms.{terms_of}
use Rattle.mw_logic.specs.NormalForm.{applied_in}
use Rattle.mw_logic.proofs.Pushed.{terms_of-append}
use Rattle.mw_proof.proofs.lifting.applied_beside.Goals as goal

pub returns : goal.returns
returns c =
    let sig = c.args.context.now.signature in
    let f = c.args.operator in
    c.in_ok-term.ensures ∙ ap (λ s. applied_in s f (terms_of c.in_ok-args.args.items)) c.facts.ensures ∙ ap (λ ts. applied_in sig f (terms_of ts)) c.in_ok-args.ensures
    ∙ ap (applied_in sig f) (terms_of-append c.args.before.now (c.args.term.now ∷ c.args.after.now))
