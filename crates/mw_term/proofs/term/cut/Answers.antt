use Rattle.std.proofs.Common.{◌≡◌, ◌∙◌, ◌+◌, ap, arith, refl}
use Rattle.mw_logic.specs.Term.{apply as applied}
use Rattle.mw_logic.specs.Terms.{terms_of, front, skip}
use Rattle.mw_term.specs.Shapes.{shown}
use Rattle.mw_term.proofs.Parts.{cut_is}
use Rattle.mw_term.proofs.term.cut.Goals as goal

pub returns-then-bears : goal.returns-then-bears
returns-then-bears c =
    let start = c.min-start.result in let size = c.min-size.result in
    let is : terms_of (shown c.args.list.now.value (c.args.first + start) (c.args.first + start + size)) ≡ front c.args.count (skip c.args.from (terms_of (shown c.args.list.now.value c.args.first c.args.last))) =
    cut_is c.args.list.now.value.terms.items c.args.first c.args.last c.args.from c.args.count start size _ _ c.requires.ordered c.requires.inside (omega arith) (omega arith) refl refl in
    let e : c.in_ok-term.term ≡ applied c.args.operator (terms_of (shown c.in_ok-list.list.value (c.args.first + start) (c.args.first + start + size))) = c.in_ok-term.ensures in
    e ∙ ap (λ s. applied c.args.operator (terms_of (shown s (c.args.first + start) (c.args.first + start + size)))) (c.in_ok-list.ensures) ∙ ap (applied c.args.operator) is

pub returns : goal.returns
returns c =
    let start = c.min-start.result in let size = c.min-size.result in
    let is : terms_of (shown c.args.list.now.value (c.args.first + start) (c.args.first + start + size)) ≡ front c.args.count (skip c.args.from (terms_of (shown c.args.list.now.value c.args.first c.args.last))) =
    cut_is c.args.list.now.value.terms.items c.args.first c.args.last c.args.from c.args.count start size _ _ c.requires.ordered c.requires.inside (omega arith) (omega arith) refl refl in
    let e : c.in_ok-term-2.term ≡ applied c.args.operator (terms_of c.in_ok-args.args.items) = c.in_ok-term-2.ensures in
    let k : c.in_ok-args.args.items ≡ shown c.args.list.now.value (c.args.first + start) (c.args.first + start + size) = grind arith in
    e ∙ ap (λ ts. applied c.args.operator (terms_of ts)) k ∙ ap (applied c.args.operator) is
