use Rattle.std.proofs.Common.{ap, refl, arith}
use Rattle.std.proofs.lemmas.Bool.{leb-true}
use Rattle.mw_term.specs.declared.facts.Facts.{Facts}
use Rattle.mw_term.proofs.Sections.{outweighed, outweighed_deep}
use Rattle.mw_term.proofs.shared.outweigh.Goals as goal

pub returns-then-is_flat-2 : goal.returns-then-is_flat-2
returns-then-is_flat-2 c = λ h ts us p n q.
    let d = ap (λ (f : Facts). f.depth) q in
    let k = leb-true _ _ h in
    outweighed ts us c.args.told c.args.list p q (omega (arith, n, c.requires)) (omega (arith, d, c.if-list-eq65535.false)) (c.if-is_flat.ensures.yes refl) (c.if-is_flat-2.ensures.yes refl)
    (omega (arith, k, c.saturating_add.ensures, n))

pub returns-else-is_flat : goal.returns-else-is_flat
returns-else-is_flat c = λ h ts us p n q.
    let d = ap (λ (f : Facts). f.depth) q in
    outweighed_deep ts us c.args.told c.args.list p q (omega (arith, d, c.if-list-eq65535.false)) (c.if-is_flat.ensures.no refl) (leb-true _ _ h)
