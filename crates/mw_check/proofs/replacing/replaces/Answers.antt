use Rattle.std.proofs.Common.{◌≡◌, ◌↔◌, ap, sym, subst, true≢false, IsTrue}
use Rattle.std.proofs.lemmas.Bool.{both_ways}
use Rattle.std.proofs.lemmas.Result.{IfOk-weaker}
use Rattle.mw_logic.specs.Term.{RawTerm}
use Rattle.mw_logic.specs.Substitution.{instance}
use Rattle.mw_logic.specs.Parts.{IsAdmitted}
use Rattle.mw_logic.specs.NormalForm.{normal_form}
use Rattle.mw_logic.specs.Module.{Statement}
use Rattle.mw_term.specs.Raws.{raw_term}
use Rattle.mw_canon.specs.Canonical.{meant}
use Rattle.mw_redex.specs.Replaced.{IsOpenWay, way_of_place}
use Rattle.mw_prooftext.specs.Grounds.{spot_of}
use Rattle.mw_check.specs.Parts.{StandsAt}
use Rattle.mw_check.specs.Answers.{ReplacesBy}
use Rattle.mw_check.proofs.PlacingReplaced.{none_replaced, other_part, same_part}
use Rattle.mw_check.proofs.replacing.replaces.Goals as goal

pub returns-in_default : goal.returns-in_default
returns-in_default c =
    let sig = c.args.context.now.signature in
    let p = c.shows.ensures.signature in
    let st = c.args.statement.now in
    let s = meant sig c.args.values.now in
    let side : raw_term c.statement.inside.left ≡ st.left = ap (λ (e : Statement). e.left) c.statement.view_is in
    let deny : IsAdmitted sig (instance s st.left) → ⊥ = subst (λ t. IsAdmitted sig (instance s t) → ⊥) side (rw c.in_default.is at c.in_ok-left.ensures) in
    (λ h. absurd (true≢false (sym h)), λ h. absurd (none_replaced sig p.accepted p.well_sorted st c.requires.sides s c.requires.substitution (spot_of c.args.place.now) c.args.term.now c.requires.term deny h.0 h.1))

pub returns-then-not-branch : goal.returns-then-not-branch
returns-then-not-branch c =
    let sig = c.args.context.now.signature in
    let p = c.shows.ensures.signature in
    let st = c.args.statement.now in
    let s = meant sig c.args.values.now in
    let at = spot_of c.args.place.now in
    let t = c.args.term.now in
    let left = c.in-Some.left in
    let side : raw_term c.statement.inside.left ≡ st.left = ap (λ (e : Statement). e.left) c.statement.view_is in
    let is_left : left ≡ normal_form sig (instance s st.left) = subst (λ t. left ≡ normal_form sig (instance s t)) side (rw c.in-Some.is at c.in_ok-left.ensures).0 in
    let deny : StandsAt sig at t left → ⊥ = subst (λ z. StandsAt z at t left → ⊥) c.facts-facts.ensures (λ h. both_ways _ c.if-not-branch.true (c.in_ok-stands_at.ensures.1 h)) in
    (λ h. absurd (true≢false (sym h)), λ h. absurd (other_part sig p.accepted p.well_sorted st c.requires.sides s c.requires.substitution at t c.requires.term left is_left deny h.0 h.1))

pub returns : goal.returns
returns c =
    let sig = c.args.context.now.signature in
    let p = c.shows.ensures.signature in
    let st = c.args.statement.now in
    let s = meant sig c.args.values.now in
    let at = spot_of c.args.place.now in
    let way = way_of_place c.args.place.now.path c.args.place.now.take in
    let t = c.args.term.now in
    let left = c.in-Some.left in
    let here = c.facts-facts.result.now in
    let rule = c.statement.inside.rule in
    let side : raw_term c.statement.inside.left ≡ st.left = ap (λ (e : Statement). e.left) c.statement.view_is in
    let is_left : left ≡ normal_form sig (instance s st.left) = subst (λ t. left ≡ normal_form sig (instance s t)) side (rw c.in-Some.is at c.in_ok-left.ensures).0 in
    let there : StandsAt sig at t left = subst (λ z. StandsAt z at t left) c.facts-facts.ensures (c.in_ok-stands_at.ensures.0 c.if-not-branch.false) in
    IfOk-weaker c.is_open_at.result (λ free. IsTrue free ↔ IsOpenWay here rule way t) (λ free. IsTrue free ↔ ((whole : RawTerm) × ReplacesBy sig st s at t whole))
    (λ free h. same_part sig p.accepted p.well_sorted st c.requires.sides s c.requires.substitution at t c.requires.term left is_left there free
    (subst (λ r. IsTrue free ↔ IsOpenWay sig r way t) (ap (λ (e : Statement). e.rule) c.statement.view_is) (subst (λ z. IsTrue free ↔ IsOpenWay z rule way t) c.facts-facts.ensures h)))
    c.is_open_at.ensures
