use Rattle.std.specs.Prelude.{slice_get}
use Rattle.std.proofs.Common.{rules, ◌≡◌, ◌∙◌, ap, sym, subst, map, Some, List}
use Rattle.mw_redexes.specs.Spots.{AreWays}
use Rattle.mw_redexes.specs.declared.spots.Spot.{Spot}
use Rattle.mw_survey.specs.Asked.{Standing, standing_of, standing_at}
use Rattle.mw_survey.specs.Takings.{IsAgain}
use Rattle.mw_survey.proofs.Asking.{map_there, map_back}
use Rattle.mw_survey.proofs.taking.at_element.Goals as goal
use Rattle.mw_survey.proofs.taking.at_element.Goals.{in-Some+in_ok-numbers_again-in-Some, in-None}

pub way_to-requires-clause-ways : goal.way_to-requires-clause-ways
way_to-requires-clause-ways c =
    let (sig, ways) = c.requires.ways in
    (sig, c.args.element.now, subst (AreWays sig c.args.element.now) (sym c.as_slice-2.ensures.value) (ways c.in_ok-spots.spots.items c.in_ok-spots.ensures.standing))

pub returns : goal.returns
returns c = λ sig p ways at.
    let zs : List Spot = c.as_slice-2.result.now in
    let i = c.args.found.now.at in
    let same : map standing_at zs ≡ map standing_of c.args.parts.now = ap (map standing_at) c.as_slice-2.ensures.value ∙ c.in_ok-spots.ensures.standing in
    let (z, there, is) = map_back standing_at zs i (standing_of p) (subst (λ us. slice_get us i ≡ Some (standing_of p)) (sym same) (map_there standing_of c.args.parts.now i p at)) in
    let way = c.in_ok-path.ensures sig c.args.element.now z (ways zs same) there in
    let take : c.match-found.take ≡ c.args.found.now.choice.take = elim c.match-found.branch [ in-Some+in_ok-numbers_again-in-Some w ↦ (search rules) | in-None w ↦ (search rules) ] in
    record {
      part = c.in_ok-part.ensures;
      there = way.0 ∙ ap Some (ap (λ (y : Standing). y.term) is);
      open_way = way.1;
      again = subst (λ o. IsAgain o c.args.found.now.choice c.in_ok-choice.choice) take c.in_ok-choice.ensures;
    }
