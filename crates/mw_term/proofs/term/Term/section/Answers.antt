use Rattle.std.proofs.Common.{◌≡◌, ◌∙◌, ap, sym, subst}
use Rattle.mw_term.specs.Sections.{ShowsSection}
use Rattle.mw_term.specs.declared.term.Node.{Node}
use Rattle.mw_term.specs.declared.term.Shape.TheVariants.{Section}
use Rattle.mw_term.proofs.term.Term.section.Goals as goal

pub cut-requires-clause-told : goal.cut-requires-clause-told
cut-requires-clause-told c =
    let e : c.self.inside.node.value.shape ≡ Section c.in-Section.field-0 c.in-Section.field-1 c.in-Section.field-2 c.in-Section.list c.in-Section.first c.in-Section.end =
    ap (λ (n : Node). n.shape) (sym c.deref.ensures) ∙ c.in-Section.is in
    let k = subst ShowsSection e c.self.invariant.2 in k.0
