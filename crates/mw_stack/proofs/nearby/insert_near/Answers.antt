use Rattle.std.proofs.Common.{◌≡◌, ◌∙◌, ◌+◌, ◌-◌, ◌≤◌, length, drop, ap, subst, arith}
use Rattle.std.proofs.lemmas.List.{length-drop}
use Rattle.mw_stack.specs.Runs.{GoesBehind, GoesBefore}
use Rattle.mw_stack.proofs.Fitting.{own_fitted}
use Rattle.mw_stack.proofs.nearby.insert_near.Goals as goal

pub returns-then-fits-clause-own : goal.returns-then-fits-clause-own
returns-then-fits-clause-own c = λ l o.
    let z = c.behind-own.ensures ∙ ap (drop c.args.from) c.as_slice.ensures.value in
    let at : c.len.result - length c.behind-own.result.now + c.args.near ≡ c.args.from + c.args.near = omega (arith, c.len.ensures, c.args.done.now.ok.0, ap length z, length-drop c.args.from c.args.done.now.items, l) in
    own_fitted c.args.done.now.items c.insert.new.self.items c.args.term c.args.from c.args.near _ l o
    (subst (λ xs. c.args.near ≤ length xs) z (c.fits.ensures.within c.if-fits.true))
    (subst (λ xs. GoesBehind xs c.args.term c.args.near) z (c.fits.ensures.behind c.if-fits.true))
    (subst (λ xs. GoesBefore xs c.args.term c.args.near) z (c.fits.ensures.before c.if-fits.true))
    at c.in_ok-insert.ensures.items
