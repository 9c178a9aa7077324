use Rattle.std.proofs.Common.{◌∙◌, ◌++◌, ap}
use Rattle.mw_logic.specs.Term.{join}
use Rattle.mw_logic.specs.Terms.{terms_of}
use Rattle.mw_logic.specs.NormalForm.{applied_in}
use Rattle.mw_logic.proofs.Pushed.{terms_of-append}
use Rattle.mw_reduce.proofs.pairs.gathered.Goals as goal

pub returns : goal.returns
returns c =
    let own = c.behind.result.now in
    let made = c.behind-2.result.now in
    let items = c.in_ok-push_all-2.ensures ∙ ap (λ xs. xs ++ made) (c.in_ok-push_all.ensures ∙ ap (λ xs. xs ++ own) c.new-rest.ensures.items) in
    c.in_ok-term.ensures ∙ ap (applied_in c.args.facts.now c.args.operator)
    (ap terms_of items ∙ terms_of-append own made ∙ ap (λ xs. join (terms_of xs) (terms_of made)) c.behind.ensures ∙ ap (λ ys. join (terms_of (Rattle.std.proofs.Common.drop c.args.left.own c.args.args.now)) (terms_of ys)) c.behind-2.ensures)
