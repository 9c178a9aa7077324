use Rattle.std.proofs.Common.{◌≡◌, ◌≤◌, ℕ, Bool, Option, length, sym, subst, ◌∙◌}
use Rattle.std.specs.Prelude.{slice_get}
use Rattle.mw_logic.specs.Term.{RawTerm}
use Rattle.mw_logic.specs.Module.{Module}
use Rattle.mw_index.specs.Index.{operator_of, own_asked, others_asked, IsNextOf}
use Rattle.mw_index.specs.Choices.{subject_of}
use Rattle.mw_index.specs.declared.oriented.Oriented.{Oriented}
use Rattle.mw_index.specs.declared.index.Index.{Index}
use Rattle.mw_index.proofs.Asking.{asked_of, choice_of, sized_choice, chosen_covers, passed_covers, fewer_left, all_passed, nothing_left}
use Rattle.mw_index.proofs.choices.Choices.next.Goals as goal

turn_is : (m : Index) (r top : Option ℕ) → r ≡ top → (i j : ℕ) (st : Oriented) (own : Bool) → IsNextOf (slice_get (own_asked m r) i) (slice_get (others_asked m r) j) st own
    → IsNextOf (slice_get (own_asked m top) i) (slice_get (others_asked m top) j) st own
turn_is m r top e i j st own h = subst (λ t. IsNextOf (slice_get (own_asked m t) i) (slice_get (others_asked m t) j) st own) e h

pub ask-requires : goal.ask-requires
ask-requires c =
    let m : Index = c.args.index.now in
    let is = turn_is m _ (operator_of (subject_of c.args.subject)) c.operator-top.ensures c.loop-turn.self.own c.loop-turn.self.others c.in-Some.turn.0.now c.in-Some.turn.1 c.in-Some.ensures.is in
    (asked_of c.args.context.now m (operator_of (subject_of c.args.subject)) c.loop-turn.self.own c.loop-turn.self.others c.in-Some.turn.0.now c.in-Some.turn.1 c.requires is).0

pub returns-then-is_some-clause-of : goal.returns-then-is_some-clause-of
returns-then-is_some-clause-of c =
    let m : Index = c.args.index.now in
    let top : Option ℕ = operator_of (subject_of c.args.subject) in
    let st : Oriented = c.in-Some.turn.0.now in
    let is = turn_is m _ top c.operator-top.ensures c.loop-turn.self.own c.loop-turn.self.others st c.in-Some.turn.1 c.in-Some.ensures.is in
    choice_of c.args.context.now top st c.in_ok-found.found (asked_of c.args.context.now m top c.loop-turn.self.own c.loop-turn.self.others st c.in-Some.turn.1 c.requires is) c.in_ok-found.ensures.sized

pub returns-then-is_some-clause-values : goal.returns-then-is_some-clause-values
returns-then-is_some-clause-values c = sized_choice c.in-Some.turn.0.now c.in_ok-found.found c.in_ok-found.ensures.sized

pub returns-then-is_some-clause-is : goal.returns-then-is_some-clause-is
returns-then-is_some-clause-is c = λ tried v h.
    let M : Module = c.args.context.now in
    let m : Index = c.args.index.now in
    let t : RawTerm = subject_of c.args.subject in
    let st : Oriented = c.in-Some.turn.0.now in
    let is = turn_is m _ (operator_of t) c.operator-top.ensures c.loop-turn.self.own c.loop-turn.self.others st c.in-Some.turn.1 c.in-Some.ensures.is in
    let now = c.loop-turn.invariant tried v h in
    chosen_covers M m t tried c.loop-turn.self c.ask.new.self st c.in-Some.turn.1 now is c.in_ok-found.ensures.same c.in_ok-found.found (sym c.is_some.ensures ∙ c.if-is_some.true)
    (c.in_ok-found.ensures.is tried v now.subject (now.under_way st c.in-Some.turn.1 is))

pub loop-turn-smaller : goal.loop-turn-smaller
loop-turn-smaller c =
    let m : Index = c.args.index.now in
    let t : RawTerm = subject_of c.args.subject in
    let st : Oriented = c.in-Some.turn.0.now in
    let is = turn_is m _ (operator_of t) c.operator-top.ensures c.loop-turn.self.own c.loop-turn.self.others st c.in-Some.turn.1 c.in-Some.ensures.is in
    fewer_left m (operator_of t) c.loop-turn.self c.ask.new.self c.pass.new.self st c.in-Some.turn.1 is c.in_ok-found.ensures.same c.pass.ensures

pub loop-turn-preserved : goal.loop-turn-preserved
loop-turn-preserved c = λ tried v h.
    let M : Module = c.args.context.now in
    let m : Index = c.args.index.now in
    let t : RawTerm = subject_of c.args.subject in
    let st : Oriented = c.in-Some.turn.0.now in
    let is = turn_is m _ (operator_of t) c.operator-top.ensures c.loop-turn.self.own c.loop-turn.self.others st c.in-Some.turn.1 c.in-Some.ensures.is in
    let now = c.loop-turn.invariant tried v h in
    passed_covers M m t tried c.loop-turn.self c.ask.new.self st c.in-Some.turn.1 now is c.in_ok-found.ensures.same c.in_ok-found.found (sym c.is_some.ensures ∙ c.if-is_some.false)
    (c.in_ok-found.ensures.is tried v now.subject (now.under_way st c.in-Some.turn.1 is)) c.pass.new.self c.pass.ensures

pub returns-clause-is : goal.returns-clause-is
returns-clause-is c = λ tried v h.
    let m : Index = c.args.index.now in
    let t : RawTerm = subject_of c.args.subject in
    let l = nothing_left c.at.result _ _ c.at.ensures.is c.in_default.not-Some in
    let k : (length (own_asked m (operator_of t)) ≤ c.loop-turn.self.own) × (length (others_asked m (operator_of t)) ≤ c.loop-turn.self.others) =
    subst (λ top. (length (own_asked m top) ≤ c.loop-turn.self.own) × (length (others_asked m top) ≤ c.loop-turn.self.others)) c.operator-top.ensures l in
    all_passed c.args.context.now m t tried c.loop-turn.self c.requires v k.0 k.1 (c.loop-turn.invariant tried v h)
