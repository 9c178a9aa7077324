use Rattle.std.proofs.Common.{◌≡◌, ◌++◌, ◌∷◌, [], List, true, reverse, sym, subst, ap, ◌∙◌}
use Rattle.std.proofs.lemmas.List.{nil_from_length, reverse-append}
use Rattle.mw_reduce.specs.Evaluations.{IsBack, IsTrial, Tries}
use Rattle.mw_reduce.specs.declared.evaluation.Other.{Other}
use Rattle.mw_reduce.proofs.Going.{try_next, give_up, fail}
use Rattle.mw_reduce.proofs.evaluation.turn_back.Goals as goal

last_first : (os : List Other) (o : Other) → reverse (os ++ o ∷ []) ≡ o ∷ reverse os
last_first os o = reverse-append os (o ∷ [])

pub returns-then-branch : goal.returns-then-branch
returns-then-branch c = λ M n e tests s h.
    let o = c.in-Some.other in
    let o' = c.try_other.new.other in
    let os = c.pop.new.self.items in
    let before = c.loop-other.sides.items in
    let after = c.try_other.new.sides.items in
    let vs = c.try_other.new.values.items in
    let back : IsBack M n e tests s before (o ∷ reverse os) = subst (IsBack M n e tests s before) (ap reverse c.in-Some.ensures.items ∙ last_first os o) (c.loop-other.invariant M n e tests s h) in
    let tries : Tries o o' before after vs true = subst (Tries o o' before after vs) c.if-branch.true c.in_ok-try_other.ensures in
    subst (λ i. IsTrial M n e tests s i vs after (reverse c.push.new.self.items)) (sym tries.0)
    (subst (IsTrial M n e tests s o.at vs after) (sym (ap reverse c.in_ok-push.ensures.items ∙ last_first os o')) (try_next M n e tests s vs before after o o' (reverse os) back tries))

pub loop-other-preserved : goal.loop-other-preserved
loop-other-preserved c = λ M n e tests s h.
    let o = c.in-Some.other in
    let o' = c.try_other.new.other in
    let os = c.pop.new.self.items in
    let before = c.loop-other.sides.items in
    let after = c.try_other.new.sides.items in
    let vs = c.try_other.new.values.items in
    let back : IsBack M n e tests s before (o ∷ reverse os) = subst (IsBack M n e tests s before) (ap reverse c.in-Some.ensures.items ∙ last_first os o) (c.loop-other.invariant M n e tests s h) in
    give_up M n e tests s vs before after o o' (reverse os) back (subst (Tries o o' before after vs) c.if-branch.false c.in_ok-try_other.ensures)

pub returns : goal.returns
returns c = λ M n e tests s h.
    let left = c.loop-other.others.items in
    let before = c.loop-other.sides.items in
    fail M n e tests s before (subst (λ os. IsBack M n e tests s before (reverse os)) (nil_from_length left (sym c.loop-other.others.ok.0 ∙ c.in_default.ensures.cases.0)) (c.loop-other.invariant M n e tests s h))
