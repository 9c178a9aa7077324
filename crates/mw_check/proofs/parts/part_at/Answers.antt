use Rattle.std.proofs.Common.{◌≡◌, ◌∙◌, Some, ap, sym, subst, MatchOption, IfOk}
use Rattle.mw_logic.specs.Term.{RawTerm}
use Rattle.mw_check.specs.Parts.{StandsAt}
use Rattle.mw_check.proofs.Taking.{at_place, if_ok}
use Rattle.mw_check.proofs.parts.part_at.Goals as goal

pub returns-in-Some-take : goal.returns-in-Some-take
returns-in-Some-take c =
    let sig = c.args.facts.now in
    let place = c.args.place.now in
    let t = c.args.term.now in
    let end = c.in-Some.end.now in
    let ks = c.as_slice-in-Some-take.result.now in
    let there = ap (Rattle.mw_redex.specs.Paths.at_path t) (sym c.as_slice.ensures) ∙ sym c.at_path.ensures ∙ ap (Rattle.std.specs.Prelude.option_map (λ t. t.now)) c.in-Some.is in
    let taken : Some ks ≡ place.take = ap Some c.as_slice-in-Some-take.ensures ∙ sym c.in-Some-take.is in
    subst (λ take. IfOk c.taken.result (λ part. MatchOption part ((w : RawTerm) → StandsAt sig (record { path = place.path; take = take }) t w → ⊥) (StandsAt sig (record { path = place.path; take = take }) t))) taken
    (if_ok c.taken.result _ _ (λ part h. at_place sig place.path ks t end part there h) c.taken.ensures)
