use Rattle.std.proofs.Common.{◌≡◌, ◌+◌, ◌++◌, ◌∷◌, [], ℕ, suc, List, length, reverse, sym, subst, ap, ◌∙◌, arith, Global, Box, Vec}
use Rattle.std.proofs.lemmas.List.{reverse-append}
use Rattle.mw_logic.specs.Term.{Variable, RawTerm}
use Rattle.mw_logic.specs.Module.{Module, Statement, Fragment}
use Rattle.mw_logic.specs.Substitution.{Substitution}
use Rattle.mw_least.specs.Workable.{IsWorkable}
use Rattle.mw_index.specs.Conditions.{bound_by}
use Rattle.mw_index.specs.declared.conditions.Test.{Test}
use Rattle.mw_match.specs.declared.solutions.Solutions.{Solutions}
use Rattle.mw_reduce.specs.Evaluations.{IsAt, IsBack, IsTrial, IsTested, IsOpening}
use Rattle.mw_reduce.specs.declared.sides.Reduced.{Reduced}
use Rattle.mw_reduce.specs.declared.evaluation.Other.{Other}
use Rattle.mw_reduce.specs.declared.evaluation.Tested.{Tested}
use Rattle.mw_reduce.specs.declared.evaluation.Tested.TheVariants.{Fails, Opens}
use Rattle.mw_reduce.proofs.Going.{go_on, turn_away, stop_inside, open_match}
use Rattle.mw_reduce.proofs.evaluation.after_test.Goals.{in-Fails, in-Opens+in_ok-open-in-Opens}
use Rattle.mw_reduce.proofs.evaluation.after_test.Goals as goal

-- the same of other names for the lists
put : (at : ℕ) (os : List Other) {us vs : List Reduced} {ps ws : List Other} {c : Box Solutions Global} → ((o : Other) × (ps ≡ os ++ o ∷ []) × (o.at ≡ at + 1) × (o.sides ≡ length vs) × (o.solutions ≡ c))
    → us ≡ vs → ws ≡ ps → (o : Other) × (ws ≡ os ++ o ∷ []) × (o.at ≡ at + 1) × (o.sides ≡ length us) × (o.solutions ≡ c)
put at os (o, b, here, count, same) e f = (o, f ∙ b, here, count ∙ sym (ap length e), same)

module _ (M : Module) (n limit : ℕ) (e : Statement) (tests : List Test) (s : Substitution) (work : IsWorkable M) (at : ℕ) (f : Fragment) (C : List Fragment) (xs : List Variable)
    (vs : List RawTerm) (sides : List Reduced) (others : List Other) (h : IsAt M n e tests s at f C xs vs sides (reverse others)) where
  abbrev IsTestedHere : Tested → Type 0
  IsTestedHere t = IsTested M n limit f xs vs (bound_by xs h.test) t

  failed : {t : Tested} → IsTestedHere t → t ≡ Fails → {us : List Reduced} → us ≡ sides → {os : List Other} → os ≡ others → IsBack M n e tests s us (reverse os)
  failed tested is {us} a {os} b =
      subst (λ us. IsBack M n e tests s us (reverse os)) (sym a)
      (subst (λ os. IsBack M n e tests s sides (reverse os)) (sym b) (turn_away M n e tests s work at f C xs vs sides (reverse others) h (subst IsTestedHere is tested)))

  opened : {t : Tested} → IsTestedHere t → (k : Reduced) (c : Box Solutions Global) → t ≡ Opens k c → {us : List Reduced} → us ≡ sides ++ k ∷ [] → {os : List Other}
      → ((o : Other) × (os ≡ others ++ o ∷ []) × (o.at ≡ at + 1) × (o.sides ≡ length us) × (o.solutions ≡ c)) → IsBack M n e tests s us (reverse os)
  opened tested k c is {us} a {os} (o, b, here, count, same) =
      let next : o.at ≡ suc at = omega (arith, here) in
      let opening = subst (λ (c : Box Solutions Global). IsOpening M n f xs vs k (bound_by xs h.test) c.value) (sym same) (subst IsTestedHere is tested) in
      subst (λ us. IsBack M n e tests s us (reverse os)) (sym a)
      (subst (IsBack M n e tests s (sides ++ k ∷ [])) (sym (ap reverse b ∙ reverse-append others (o ∷ [])))
      (open_match M n e tests s work at f C xs vs sides (reverse others) h k o next (count ∙ ap length a) opening))

pub returns-in-Holds : goal.returns-in-Holds
returns-in-Holds c = λ M n limit e tests s f C xs work h tested.
    let at = c.args.at in
    let vs = c.args.values.now.items in
    let sides = c.args.sides.now.items in
    let os = reverse c.args.others.now.items in
    let t = subst (λ t. IsTested M n limit f xs vs (bound_by xs h.test) t) c.in-Holds.is tested in
    let next : suc at ≡ at + 1 = omega arith in
    subst (λ i. IsTrial M n e tests s i vs c.append.new.self.items os) next
    (subst (λ us. IsTrial M n e tests s (suc at) vs us os) (sym c.in_ok-append-in-Holds.ensures.items) (go_on M n e tests s work at f C xs vs sides os h t.0 c.in-Holds.shown.items t.1))

pub returns-in-Stops : goal.returns-in-Stops
returns-in-Stops c = λ M n limit e tests s f C xs work h tested.
    let vs = c.args.values.now.items in
    let (u, side, stops) = subst (λ t. IsTested M n limit f xs vs (bound_by xs h.test) t) c.in-Stops.is tested in
    stop_inside M n e tests s work c.args.at f C xs vs c.args.sides.now.items (reverse c.args.others.now.items) h limit c.in-Stops.reason u side stops

pub returns-in-Some : goal.returns-in-Some
returns-in-Some c = λ M n limit e tests s f C xs work h tested.
    let vs = c.args.values.now.items in
    let sides = c.args.sides.now.items in
    let others = c.args.others.now.items in
    let back : IsBack M n e tests s c.match-tested.sides.items (reverse c.match-tested.others.items) =
    elim c.match-tested.branch [
      | in-Fails w ↦
          failed M n limit e tests s work c.args.at f C xs vs sides others h tested w.in-Fails.is (ap (λ (v : Vec Reduced Global). v.items) w.sides-is) (ap (λ (v : Vec Other Global). v.items) w.others-is)
      | in-Opens+in_ok-open-in-Opens w ↦
          opened M n limit e tests s work c.args.at f C xs vs sides others h tested w.in-Opens.side w.in-Opens.solutions w.in-Opens.is (ap (λ (v : Vec Reduced Global). v.items) w.sides-is ∙ w.in_ok-open-in-Opens.ensures.0)
          (put c.args.at c.args.others.now.items w.in_ok-open-in-Opens.ensures.1 (ap (λ (v : Vec Reduced Global). v.items) w.sides-is) (ap (λ (v : Vec Other Global). v.items) w.others-is))
    ] in
    rw c.in-Some.is at (c.in_ok-next.ensures M n e tests s back)

pub returns-in-None : goal.returns-in-None
returns-in-None c = λ M n limit e tests s f C xs work h tested.
    let vs = c.args.values.now.items in
    let sides = c.args.sides.now.items in
    let others = c.args.others.now.items in
    let back : IsBack M n e tests s c.match-tested.sides.items (reverse c.match-tested.others.items) =
    elim c.match-tested.branch [
      | in-Fails w ↦
          failed M n limit e tests s work c.args.at f C xs vs sides others h tested w.in-Fails.is (ap (λ (v : Vec Reduced Global). v.items) w.sides-is) (ap (λ (v : Vec Other Global). v.items) w.others-is)
      | in-Opens+in_ok-open-in-Opens w ↦
          opened M n limit e tests s work c.args.at f C xs vs sides others h tested w.in-Opens.side w.in-Opens.solutions w.in-Opens.is (ap (λ (v : Vec Reduced Global). v.items) w.sides-is ∙ w.in_ok-open-in-Opens.ensures.0)
          (put c.args.at c.args.others.now.items w.in_ok-open-in-Opens.ensures.1 (ap (λ (v : Vec Reduced Global). v.items) w.sides-is) (ap (λ (v : Vec Other Global). v.items) w.others-is))
    ] in
    rw c.in-None.is at (c.in_ok-next.ensures M n e tests s back)
