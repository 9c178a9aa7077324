use Rattle.std.proofs.Common.{◌≡◌, ◌∙◌, ◌+◌, ◌-◌, ap, arith, drop, take}
use Rattle.std.proofs.lemmas.List.{drop-take}
use Rattle.mw_term.proofs.shared.Shared.into_between.Goals as goal

pub returns : goal.returns
returns c =
    let e : c.args.end ≡ c.args.from + (c.args.end - c.args.from) = omega (arith, c.requires.ordered) in
    c.in_ok-terms.ensures.tail ∙ ap (drop c.args.from) (c.truncate.ensures.items ∙ ap (λ n. take n c.args.self.terms.items) e) ∙ drop-take c.args.from (c.args.end - c.args.from) c.args.self.terms.items
