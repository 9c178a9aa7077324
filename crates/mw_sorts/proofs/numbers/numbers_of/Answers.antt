use Rattle.std.proofs.Common.{◌≡◌, ◌∙◌, ℕ, sym, subst}
use Rattle.std.specs.Prelude.{Some}
use Rattle.mw_logic.specs.Signature.{Signature, IsSuccessor}
use Rattle.mw_sorts.specs.Diagrams.{IsDiagram}
use Rattle.mw_sorts.specs.Numbers.{FindsSuccessor}
use Rattle.mw_sorts.proofs.Getting.{some_same}
use Rattle.mw_sorts.proofs.numbers.numbers_of.Goals as goal

pub returns-in_default-2 : goal.returns-in_default-2
returns-in_default-2 c = λ nat.
    let nats = c.requires.numbers nat in
    absurd (subst (FindsSuccessor c.args.signature.now) c.in_default-2.is c.in_ok-successor.ensures nats.successor nats.is)

pub number_table-requires-clause-diagram : goal.number_table-requires-clause-diagram
number_table-requires-clause-diagram c =
    let sig = c.args.signature.now in
    let f : ℕ = c.in-Some-2.successor in
    let is : IsSuccessor sig f = subst (FindsSuccessor sig) c.in-Some-2.is c.in_ok-successor.ensures in
    let (d, there, h) = c.requires.diagrams f is.operator is.is_there in
    let e : Some d ≡ Some c.in-Some-numbered.diagram.now = sym there ∙ sym (rw c.in-Some-numbered.is at c.numbered.ensures) in
    let same = some_same e in
    subst (λ (s : Signature). (g : ℕ) × (i : IsSuccessor s g) × IsDiagram s c.args.sorting.now.places i.operator c.in-Some-numbered.diagram.now) (sym c.requires.same)
    (f, is, subst (IsDiagram sig c.args.sorting.now.places is.operator) same h)
