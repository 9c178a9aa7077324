use Rattle.std.proofs.Common.{◌≡◌, ◌∙◌, ap, sym, subst, drop}
use Rattle.mw_logic.specs.Terms.{terms_of, args_of}
use Rattle.mw_term.specs.Facts.{facts_of_all}
use Rattle.mw_term.specs.OperatorSets.{operators_in_all}
use Rattle.mw_term.specs.Sections.{IsSection, IsTable, ShowsSection}
use Rattle.mw_term.specs.Shapes.{shaped, shown}
use Rattle.mw_term.specs.declared.facts.Facts.{Facts}
use Rattle.mw_term.specs.declared.operators.Operators.{Operators}
use Rattle.mw_term.specs.declared.shared.Shared.{Shared}
use Rattle.mw_term.specs.declared.told.Told.{Told}
use Rattle.mw_term.specs.declared.term.Node.{Node}
use Rattle.mw_term.specs.declared.term.Shape.TheVariants.{Section}
use Rattle.mw_term.proofs.term.Term.operators_inside.Goals as goal

pub told_from-requires-clause-told : goal.told_from-requires-clause-told
told_from-requires-clause-told c =
    let e : c.self.inside.node.value.shape ≡ Section c.in-Section.field-0 c.in-Section.field-1 c.in-Section.field-2 c.in-Section.list c.in-Section.from c.in-Section.field-5 =
    ap (λ (n : Node). n.shape) (sym c.deref.ensures) ∙ c.in-Section.is in
    let k = subst ShowsSection e c.self.invariant.2 in
    subst (λ (s : Shared). IsTable s.told.items s.terms.items) (sym c.deref-in-Section.ensures) k.0

abbrev operators_told : Facts → Operators
operators_told a = record { remainders = a.remainders; last = a.last }

pub returns-in-Section : goal.returns-in-Section
returns-in-Section c =
    let e : c.self.inside.node.value.shape ≡ Section c.in-Section.field-0 c.in-Section.field-1 c.in-Section.field-2 c.in-Section.list c.in-Section.from c.in-Section.field-5 =
    ap (λ (n : Node). n.shape) (sym c.deref.ensures) ∙ c.in-Section.is in
    let k : IsSection c.in-Section.list.value c.in-Section.from c.in-Section.field-5 = subst ShowsSection e c.self.invariant.2 in
    let t = subst (λ (s : Shared). IsTable s.told.items s.terms.items) (sym c.deref-in-Section.ensures) k.0 in
    let told : c.told_from.result.facts ≡ facts_of_all (terms_of (drop c.in-Section.from c.in-Section.list.value.terms.items)) =
    ap (λ (x : Told). x.facts) (c.told_from.ensures t.0 t.1) ∙ ap (λ (s : Shared). facts_of_all (terms_of (drop c.in-Section.from s.terms.items))) c.deref-in-Section.ensures in
    let args : args_of c.args.self.now ≡ terms_of (shown c.in-Section.list.value c.in-Section.from c.in-Section.field-5) = ap args_of (sym c.self.view_is ∙ ap shaped e) in
    ap operators_told (told ∙ sym k.4) ∙ ap operators_in_all (sym args)
