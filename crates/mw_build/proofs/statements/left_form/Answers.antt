use Rattle.std.proofs.Common.{◌≡◌, ◌∷◌, All, map, Option, MatchOption, Result, MatchResult, subst}
use Rattle.mw_logic.specs.Term.{RawTerm}
use Rattle.mw_logic.specs.NormalForm.{normal_form}
use Rattle.mw_term.specs.Raws.{raw_term}
use Rattle.mw_term.specs.Statements.{fragment_of}
use Rattle.mw_module.specs.declared.faults.FaultKind.{FaultKind}
use Rattle.mw_build.specs.Statements.{FitsIn, Oversized, FirstOversized, here, behind, terms_of}
use Rattle.mw_build.proofs.Terms.{fits_so}
use Rattle.mw_build.proofs.statements.left_form.Goals as goal

pub returns-in-Err : goal.returns-in-Err
returns-in-Err c =
    let sig = c.args.facts.now in
    let left = raw_term c.args.left.now in
    here left (raw_term c.args.right.now ∷ terms_of (map fragment_of c.args.fragments.now))
    (subst (λ (r : Result RawTerm FaultKind). MatchResult r (λ t. FitsIn sig left × (t ≡ normal_form sig left)) (λ kind. Oversized sig left kind)) c.in-Err.is c.in_ok-form.ensures)

pub returns-in-Some : goal.returns-in-Some
returns-in-Some c =
    let sig = c.args.facts.now in
    let left = raw_term c.args.left.now in
    let right = raw_term c.args.right.now in
    let rest = terms_of (map fragment_of c.args.fragments.now) in
    let form = subst (λ (r : Result RawTerm FaultKind). MatchResult r (λ t. FitsIn sig left × (t ≡ normal_form sig left)) (λ kind. Oversized sig left kind)) c.in-Ok.is c.in_ok-form.ensures in
    behind left (right ∷ rest) form.0
    (here right rest (subst (λ (o : Option FaultKind). MatchOption o (FitsIn sig right) (λ kind. Oversized sig right kind)) c.in-Some.is c.in_ok-kind.ensures))

pub returns-in-Some-2 : goal.returns-in-Some-2
returns-in-Some-2 c =
    let sig = c.args.facts.now in
    let left = raw_term c.args.left.now in
    let right = raw_term c.args.right.now in
    let rest = terms_of (map fragment_of c.args.fragments.now) in
    let form = subst (λ (r : Result RawTerm FaultKind). MatchResult r (λ t. FitsIn sig left × (t ≡ normal_form sig left)) (λ kind. Oversized sig left kind)) c.in-Ok.is c.in_ok-form.ensures in
    behind left (right ∷ rest) form.0
    (behind right rest (fits_so sig right c.in_ok-kind.field-0 c.in_ok-kind.ensures c.in_default.not-Some)
    (subst (λ (o : Option FaultKind). MatchOption o (All (FitsIn sig) rest) (λ kind. FirstOversized sig kind rest)) c.in-Some-2.is c.in_ok-kind-2.ensures))
