use Rattle.std.proofs.Common.{◌≡◌, ◌∙◌, sym, subst, true, []}
use Rattle.mw_logic.specs.Term.{RawTerm}
use Rattle.mw_logic.specs.Signature.{Signature}
use Rattle.mw_solving.specs.Values.{IsValue}
use Rattle.mw_match.specs.Solutions.{IsAllSolutions}
use Rattle.mw_index.specs.Choices.{subject_of, IsKept, AreComing}
use Rattle.mw_index.proofs.Trying.{fresh_coming}
use Rattle.mw_index.proofs.choices.Choices.solutions.Goals as goal
use Rattle.mw_index.proofs.choices.Choices.solutions.Goals.{in-Some-take, in-None+in_ok-term-in-None}

pub returns-clause-coming : goal.returns-clause-coming
returns-clause-coming c tried k e v raw left kept coming =
    let t : RawTerm = subject_of c.args.subject in
    let sig : Signature = c.args.context.now.signature in
    let u : RawTerm = c.match-take-2.term in
    let is : u ≡ t = elim c.match-take-2.branch [
      | in-Some-take w ↦ w.term-is ∙ subst (IsKept t) (sym c.take-2.ensures.value ∙ w.in-Some-take.is) kept
      | in-None+in_ok-term-in-None w ↦ w.term-is ∙ w.in_ok-term-in-None.ensures
    ] in
    let vu : IsValue sig u = subst (IsValue sig) (sym is) v in
    let all : IsAllSolutions sig true e.left t [] c.in_ok-solutions.solutions = subst (λ t. IsAllSolutions sig true e.left t [] c.in_ok-solutions.solutions) is (c.in_ok-solutions.ensures.all e.left raw left.compiled vu) in
    let h = fresh_coming sig t tried k e c.args.searched.now.compiled.variables c.in_ok-solutions.solutions all (c.in_ok-solutions.ensures.named e.left raw left.compiled vu) in
    let box : c.in_ok-new.field-0.value ≡ c.in_ok-solutions.solutions = c.in_ok-new.ensures.ok in
    subst (AreComing sig t tried k e c.args.searched.now.compiled.variables) (sym box) h
