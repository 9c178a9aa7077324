use Rattle.std.specs.Prelude.{slice_get}
use Rattle.std.proofs.Common.{arith, ◌≡◌, ◌<◌, ◌-◌, suc, ◌∙◌, ap, sym, subst, Some, List, length, map}
use Rattle.mw_logic.specs.Module.{Module}
use Rattle.mw_logic.specs.Term.{RawTerm}
use Rattle.mw_redex.specs.Replaced.{IsTaken}
use Rattle.mw_redexes.specs.declared.redexes.Found.{Found}
use Rattle.mw_redexes.proofs.Listed.{got_below}
use Rattle.mw_redexes.proofs.Passed.{got_at}
use Rattle.mw_survey.specs.Asked.{AreWaysOn, standing_of}
use Rattle.mw_survey.specs.Takings.{IsAtWhole, IsAtElement, IsTakenBy}
use Rattle.mw_survey.specs.declared.survey.Survey.{Survey}
use Rattle.mw_survey.specs.declared.parts.Part.{Part}
use Rattle.mw_survey.proofs.Asking.{ok_weaker}
use Rattle.mw_survey.proofs.Takings.{waiting, waiting_place, whole_taken, taken_whole, taken_element, element_ways, element_below}
use Rattle.mw_survey.proofs.survey.Survey.taken.Goals as goal

pub at_whole-requires : goal.at_whole-requires
at_whole-requires c =
    let M : Module = c.args.context.now in
    let s : Survey = c.args.self.now in
    let x : Found = c.in-Some.found in
    let (f, rs, tries, free, op, are, survey) = c.requires.is in
    let (passed, h) = survey in
    let (p, at, is) = waiting_place M f rs tries free passed s h x c.in-Some.is in
    let here : slice_get s.parts.items x.at ≡ Some c.index.result.now = got_at s.parts.items x.at c.index.result.now (got_below s.parts.items x.at p at) c.index.ensures in
    let w : RawTerm = (waiting M f rs tries free passed s x c.in-Some.is h).found.found.choice.part in
    let taken = whole_taken M f rs tries free passed s h x c.in-Some.is c.index.result.now here in
    (w, subst (λ g. IsTaken g x.choice.take c.index.result.now.term w) (sym c.facts.ensures) taken)

pub returns-then-self-eq0 : goal.returns-then-self-eq0
returns-then-self-eq0 c = λ f rs tries free op are (passed, h).
    let M : Module = c.args.context.now in
    let s : Survey = c.args.self.now in
    let x : Found = c.in-Some.found in
    let z = c.if-self-eq0.true in
    let first : s.at ≡ 0 = omega (arith, z) in
    let (p, at, is) = waiting_place M f rs tries free passed s h x c.in-Some.is in
    let here : slice_get s.parts.items x.at ≡ Some c.index.result.now = got_at s.parts.items x.at c.index.result.now (got_below s.parts.items x.at p at) c.index.ensures in
    let w : RawTerm = (waiting M f rs tries free passed s x c.in-Some.is h).found.found.choice.part in
    let taken = whole_taken M f rs tries free passed s h x c.in-Some.is c.index.result.now here in
    ok_weaker (IsAtWhole w x.choice) (IsTakenBy M f s) (λ t a. taken_whole M c.shows.ensures f op rs are tries free passed s h x c.in-Some.is first t a) c.at_whole.result
    (c.at_whole.ensures w (subst (λ g. IsTaken g x.choice.take c.index.result.now.term w) (sym c.facts.ensures) taken))

pub at_element-requires-clause-ways : goal.at_element-requires-clause-ways
at_element-requires-clause-ways c =
    let M : Module = c.args.context.now in
    let s : Survey = c.args.self.now in
    let x : Found = c.in-Some.found in
    let (f, rs, tries, free, op, are, survey) = c.requires.is in
    let (passed, h) = survey in
    let z = c.if-self-eq0.false in
    let next : s.at ≡ suc (s.at - 1) = omega (arith, z) in
    let here : slice_get s.all.items (s.at - 1) ≡ Some c.index-element.result.now = got_at s.all.items (s.at - 1) c.index-element.result.now (element_below M f rs tries free passed s h x c.in-Some.is (s.at - 1) next) c.index-element.ensures in
    (M.signature, λ spots e. element_ways M f rs tries free passed s h (s.at - 1) next c.index-element.result.now here spots (e ∙ ap (map standing_of) c.as_slice.ensures.value))

pub at_element-requires-clause-there : goal.at_element-requires-clause-there
at_element-requires-clause-there c =
    let M : Module = c.args.context.now in
    let s : Survey = c.args.self.now in
    let x : Found = c.in-Some.found in
    let (f, rs, tries, free, op, are, survey) = c.requires.is in
    let (passed, h) = survey in
    let (p, at, is) = waiting_place M f rs tries free passed s h x c.in-Some.is in
    subst (λ (ps : List Part). x.at < length ps) (sym c.as_slice.ensures.value) (got_below s.parts.items x.at p at)

pub returns : goal.returns
returns c = λ f rs tries free op are (passed, h).
    let M : Module = c.args.context.now in
    let s : Survey = c.args.self.now in
    let x : Found = c.in-Some.found in
    let z = c.if-self-eq0.false in
    let next : s.at ≡ suc (s.at - 1) = omega (arith, z) in
    let y : RawTerm = c.index-element.result.now in
    let here : slice_get s.all.items (s.at - 1) ≡ Some y = got_at s.all.items (s.at - 1) y (element_below M f rs tries free passed s h x c.in-Some.is (s.at - 1) next) c.index-element.ensures in
    let (p, at, is) = waiting_place M f rs tries free passed s h x c.in-Some.is in
    let ways : AreWaysOn M.signature y c.as_slice.result.now = λ spots e. element_ways M f rs tries free passed s h (s.at - 1) next y here spots (e ∙ ap (map standing_of) c.as_slice.ensures.value) in
    ok_weaker (IsAtElement M.signature y p.term x.choice) (IsTakenBy M f s) (λ t a. taken_element M c.shows.ensures f op rs are tries free passed s h x c.in-Some.is (s.at - 1) next y here p.term is t a) c.at_element.result
    (c.at_element.ensures M.signature p ways (subst (λ (ps : List Part). slice_get ps x.at ≡ Some p) (sym c.as_slice.ensures.value) at))
