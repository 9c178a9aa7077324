use Rattle.std.proofs.Common.{◌≡◌, sym, subst, ◌∙◌, ℕ, List, Some, true}
use Rattle.mw_logic.specs.Term.{RawTerm, RawTerms, apply}
use Rattle.mw_logic.specs.Parts.{IsFrozenArgument}
use Rattle.mw_frames.specs.State.{IsRun}
use Rattle.mw_frames.specs.Machines.{data_of, all_moves}
use Rattle.mw_frames.specs.Steps.{IsAsked}
use Rattle.mw_frames.specs.Fires.{IsPartTaken, IsApplied, IsOpenTo, IsFired}
use Rattle.mw_reduce.proofs.Applying.{applied_so}
use Rattle.mw_rule.proofs.Places.{asked_there}
use Rattle.mw_redexes.proofs.Reaching.{first_free}
use Rattle.mw_rule.proofs.rewriting.fire_in_hand.Goals as goal

pub returns : goal.returns
returns c = λ K k t run here at of.
    let sig = K.over.signature in
    let q = c.args.choice in
    let v : RawTerm = c.args.part in
    let d = data_of K.over c.args.machine.now in
    let facts : IsRun K c.facts.result.now = subst (IsRun K) (sym c.facts.ensures) run in
    let asked : IsAsked K k d v = asked_there K c.facts.result.now facts k d v t at in
    let taken : IsPartTaken c.facts.result.now q.take v of.made.part = subst (λ g. IsPartTaken g q.take v of.made.part) facts.signature of.made.taken in
    let is : IsApplied K.over K.rank c.applied.result (all_moves K.over c.args.sides.items) q.values.items of.made.part = applied_so K.over K.rank v q c.args.sides.items of.made c.applied.result c.applied.ensures in
    let rule : c.applied.result.rule ≡ true = c.applied.ensures.rule ∙ of.rule in
    let inside : ((ks : List ℕ) (f : ℕ) (ts : RawTerms) → q.take ≡ Some ks → v ≡ apply f ts → ¬ IsFrozenArgument sig f 1) = λ ks f ts a b. first_free sig f (of.free ks f ts a b) in
    let free : IsOpenTo K k d v q.take = record { around = at.free; inside = inside } in (
      subst (λ b. IsFired K b k (data_of K.over c.fire.new.machine) c.in_ok-fired.fired) rule (c.in_ok-fired.ensures.means K k of.made.part facts asked taken is (λ z. free)),
      c.in_ok-fired.ensures.same K k of.made.part t facts asked taken at.same,
    )
