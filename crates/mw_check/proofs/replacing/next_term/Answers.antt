use Rattle.std.proofs.Common.{◌≡◌, ap, subst}
use Rattle.std.proofs.lemmas.Result.{IfOk-weaker}
use Rattle.mw_logic.specs.Term.{RawTerm}
use Rattle.mw_logic.specs.Substitution.{instance}
use Rattle.mw_logic.specs.Parts.{IsAdmitted}
use Rattle.mw_logic.specs.NormalForm.{normal_form}
use Rattle.mw_logic.specs.Module.{Statement}
use Rattle.mw_term.specs.Raws.{raw_term}
use Rattle.mw_canon.specs.Canonical.{meant}
use Rattle.mw_redex.specs.Replaced.{replaced_at}
use Rattle.mw_search.specs.Lacking.{IsKnown}
use Rattle.mw_prooftext.specs.Grounds.{spot_of}
use Rattle.mw_check.specs.Answers.{ReplacesBy, IsNext}
use Rattle.mw_check.proofs.PlacingInstances.{right_bound}
use Rattle.mw_check.proofs.PlacingReplaced.{next_missing, next_made}
use Rattle.mw_check.proofs.replacing.next_term.Goals as goal

pub returns-in_default : goal.returns-in_default
returns-in_default c =
    let sig = c.args.context.now.signature in
    let p = c.shows.ensures.signature in
    let st = c.args.statement.now in
    let s = meant sig c.args.values.now in
    let side : raw_term c.statement.inside.right ≡ st.right = ap (λ (e : Statement). e.right) c.statement.view_is in
    let deny : IsAdmitted sig (instance s st.right) → ⊥ = subst (λ t. IsAdmitted sig (instance s t) → ⊥) side (rw c.in_default.is at c.in_ok-right.ensures) in
    next_missing sig p.accepted p.well_sorted st c.requires.sides s c.requires.substitution (spot_of c.args.place.now) c.args.term.now c.requires.term deny

pub returns : goal.returns
returns c =
    let sig = c.args.context.now.signature in
    let p = c.shows.ensures.signature in
    let st = c.args.statement.now in
    let s = meant sig c.args.values.now in
    let place = c.args.place.now in
    let t = c.args.term.now in
    let right = c.in-Some.right in
    let side : raw_term c.statement.inside.right ≡ st.right = ap (λ (e : Statement). e.right) c.statement.view_is in
    let is_right : right ≡ normal_form sig (instance s st.right) = subst (λ t. right ≡ normal_form sig (instance s t)) side (rw c.in-Some.is at c.in_ok-right.ensures).0 in
    IfOk-weaker c.replaced.result
    (λ next. IsKnown c.facts.result.now (replaced_at c.facts.result.now place.path place.take right t) → IsNext c.facts.result.now (replaced_at c.facts.result.now place.path place.take right t) next)
    (λ next. (whole : RawTerm) → ReplacesBy sig st s (spot_of place) t whole → IsNext sig whole next)
    (λ next h. next_made sig p.accepted p.well_sorted st c.requires.sides s c.requires.substitution (spot_of place) t c.requires.term (right_bound s st c.requires.bound) right is_right next
    (subst (λ z. IsKnown z (replaced_at z place.path place.take right t) → IsNext z (replaced_at z place.path place.take right t) next) c.facts.ensures h))
    c.replaced.ensures
