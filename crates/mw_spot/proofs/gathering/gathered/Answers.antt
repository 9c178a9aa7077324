use Rattle.std.proofs.Common.{◌∙◌, ◌∷◌, reverse, ap}
use Rattle.mw_logic.specs.Term.{join, cons}
use Rattle.mw_logic.specs.Terms.{terms_of}
use Rattle.mw_logic.specs.NormalForm.{applied_in}
use Rattle.mw_logic.proofs.Pushed.{join_pushed}
use Rattle.mw_spot.specs.Spots.{all_before, all_after}
use Rattle.mw_spot.proofs.Gathered.{whole_together}
use Rattle.mw_spot.proofs.gathering.gathered.Goals as goal

pub returns : goal.returns
returns c = λ o os e operator more clear k.
    let sig = c.args.facts.now in
    let f = c.args.operator in
    let before = c.in_ok-args.args.items in
    let t = c.args.term in
    let after = all_after (reverse c.args.levels.now) in
    let b = c.in_ok-args.ensures ∙ ap all_before e in
    let all = c.in_ok-push_after.ensures ∙ ap (λ xs. join (terms_of xs) after) c.in_ok-push.ensures.items ∙ join_pushed before t after ∙ ap (λ os. join (terms_of before) (cons t (all_after os))) e ∙ ap (λ ts. join ts (cons t (all_after (o ∷ os)))) b in
    c.in_ok-term.ensures ∙ ap (applied_in sig f) all ∙ whole_together sig c.shows.ensures f o os operator more clear t k
