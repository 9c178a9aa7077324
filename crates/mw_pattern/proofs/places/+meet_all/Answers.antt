use Rattle.std.proofs.Common.{◌≡◌, ◌++◌, ◌∙◌, List, ap, append_assoc, arith}
use Rattle.std.proofs.lemmas.Grind.{common_steps}
use Rattle.mw_logic.specs.Term.{Variable}
use Rattle.mw_term.specs.Raws.{raw_term}
use Rattle.mw_position.proofs.Meeting.{met_grows}
use Rattle.mw_pattern.proofs.places.+meet_all.Goals as goal

-- what one argument adds stands behind what the ones before it added
pub loop-rest-preserved : goal.loop-rest-preserved
loop-rest-preserved t c =
    let old : List Variable = c.args.places.now in
    let now : List Variable = c.loop-rest.places in
    let before = c.loop-rest.invariant.front in
    let more = met_grows now (raw_term c.arg-item.result) in
    let met : c.meet_all.new.places ≡ now ++ more.0 = c.in_ok-meet_all-in-Op.ensures.met ∙ more.1 in
    record {
      met = grind (arith, common_steps);
      front = (before.0 ++ more.0, met ∙ ap (λ (xs : List Variable). xs ++ more.0) before.1 ∙ append_assoc old before.0 more.0);
      high = grind (arith, common_steps);
    }
