use Rattle.std.specs.Prelude.{◌≡◌, ◌<◌, ◌≤◌, ◌+◌, [], suc, false, length, Some, MatchOption, ⊤, List, ℕ}
use Rattle.std.proofs.Common.{◌∙◌, sym, subst, arith}
use Rattle.mw_logic.specs.Term.{RawTerms}
use Rattle.mw_logic.specs.Terms.{terms_of}
use Rattle.mw_logic.specs.Parts.{number_of_terms}
use Rattle.mw_matching.specs.Found.{is_among}
use Rattle.mw_search.proofs.BagLists.{number_terms}
use Rattle.mw_search.specs.Lacking.{Skips}
use Rattle.mw_match.specs.Levels.{taken_by, choices_from, ClashesAt}
use Rattle.mw_match.proofs.Choosing.{among_levels, step_taken, step_stands, step_past, step_passed}
use Rattle.mw_match.proofs.Hands.{skips_more}
use Rattle.mw_match.proofs.levels.next_choice.Goals as goal
use Rattle.mw_match.proofs.levels.next_choice.Goals.{then-not-is_taken+else-may_stand, else-not-is_taken}

pub returns-then-may_stand-clause-next : goal.returns-then-may_stand-clause-next
returns-then-may_stand-clause-next c =
    let args : RawTerms = terms_of c.args.elements.now in
    let ks : List ℕ = taken_by [] c.args.below.now in
    let n : number_of_terms args ≡ length c.args.elements.now = number_terms c.args.elements.now in
    let low : c.loop-i.i < number_of_terms args = omega (arith, c.loop-i-test.true, n) in
    let free : is_among (suc c.loop-i.i) ks ≡ false = among_levels c.loop-i.i c.args.below.now ∙ sym c.is_taken.ensures ∙ c.if-not-is_taken.true in
    subst (Skips (ClashesAt c.args.facts.now c.args.values.now c.args.pattern.now) (choices_from args ks c.args.before c.args.from))
    (step_stands args ks c.loop-i.last c.loop-i.i low free (c.may_stand.ensures.may c.if-may_stand.true)) c.loop-i.invariant.1

pub loop-i-preserved : goal.loop-i-preserved
loop-i-preserved c =
    let args : RawTerms = terms_of c.args.elements.now in
    let ks : List ℕ = taken_by [] c.args.below.now in
    let n : number_of_terms args ≡ length c.args.elements.now = number_terms c.args.elements.now in
    let low : c.loop-i.i < number_of_terms args = omega (arith, c.loop-i-test.true, n) in
    let P = ClashesAt c.args.facts.now c.args.values.now c.args.pattern.now in
    let old : List _ = choices_from args ks c.args.before c.args.from in
    let among : is_among (suc c.loop-i.i) ks ≡ c.is_taken.result = among_levels c.loop-i.i c.args.below.now ∙ sym c.is_taken.ensures in
    let up : suc c.loop-i.i ≡ c.loop-i.i + 1 = omega arith in
    elim c.if-not-is_taken.branch [
      | then-not-is_taken+else-may_stand w ↦ (
        subst (λ o. MatchOption o ⊤ (λ i. i < length c.args.elements.now)) (sym w.last-is) c.loop-i-test.true,
        subst (λ o. Skips P old (choices_from args ks o (c.loop-i.i + 1))) (sym w.last-is)
            (subst (λ j. Skips P old (choices_from args ks (Some c.loop-i.i) j)) up
            (skips_more P old (choices_from args ks c.loop-i.last c.loop-i.i) (choices_from args ks (Some c.loop-i.i) (suc c.loop-i.i)) c.loop-i.invariant.1
            (step_passed args ks c.loop-i.last c.loop-i.i c.args.facts.now c.args.values.now c.args.pattern.now low (among ∙ w.if-not-is_taken.true) (w.may_stand.ensures.not w.if-may_stand.false)))),
      )
      | else-not-is_taken w ↦ (
        subst (λ o. MatchOption o ⊤ (λ i. i < length c.args.elements.now)) (sym w.last-is) c.loop-i.invariant.0,
        subst (λ o. Skips P old (choices_from args ks o (c.loop-i.i + 1))) (sym w.last-is)
            (subst (λ j. Skips P old (choices_from args ks c.loop-i.last j)) up
            (subst (Skips P old) (step_taken args ks c.loop-i.last c.loop-i.i low (among ∙ w.if-not-is_taken.false)) c.loop-i.invariant.1)),
      )
    ]

pub returns-clause-next : goal.returns-clause-next
returns-clause-next c =
    let args : RawTerms = terms_of c.args.elements.now in
    let ks : List ℕ = taken_by [] c.args.below.now in
    let n : number_of_terms args ≡ length c.args.elements.now = number_terms c.args.elements.now in
    let past : number_of_terms args ≤ c.loop-i.i = omega (arith, c.loop-i-test.false, n) in
    subst (Skips (ClashesAt c.args.facts.now c.args.values.now c.args.pattern.now) (choices_from args ks c.args.before c.args.from))
    (step_past args ks c.loop-i.last c.loop-i.i past) c.loop-i.invariant.1
