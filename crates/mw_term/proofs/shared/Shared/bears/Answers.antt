use Rattle.std.proofs.Common.{◌≡◌, ◌∙◌, ap, sym, refl, drop}
use Rattle.mw_logic.specs.Terms.{terms_of}
use Rattle.mw_term.specs.Facts.{facts_of_all}
use Rattle.mw_term.specs.Shapes.{shown}
use Rattle.mw_term.specs.declared.told.Told.{Told}
use Rattle.mw_term.proofs.Sections.{number_shown}
use Rattle.mw_term.proofs.shared.Shared.bears.Goals as goal

pub are_rest-requires-clause-told : goal.are_rest-requires-clause-told
are_rest-requires-clause-told c = let (b, s) = c.requires.told in ap (λ (x : Told). x.facts) (c.told_from.ensures b s)

pub returns-then-outweigh-clause-light : goal.returns-then-outweigh-clause-light
returns-then-outweigh-clause-light c = λ h.
    let ts = c.args.self.now.terms.items in
    let (b, s) = c.requires.told in
    let rest : c.told_from.result.facts ≡ facts_of_all (terms_of (drop c.args.from ts)) = ap (λ (x : Told). x.facts) (c.told_from.ensures b s) in
    let all : c.told_from-2.result.facts ≡ facts_of_all (terms_of ts) = ap (λ (x : Told). x.facts) (c.told_from-2.ensures b s) in
    c.if-outweigh.ensures refl (terms_of (shown c.args.self.now c.args.from c.args.end)) (terms_of ts) (c.are_rest.ensures h ∙ sym rest) (number_shown ts c.args.from c.args.end c.requires.ordered c.requires.inside) (sym all)
