use Rattle.std.specs.Prelude.{slice_get}
use Rattle.std.proofs.Common.{◌≡◌, ap, sym, subst, ◌∙◌, Some}
use Rattle.std.proofs.lemmas.Option.{same_Some}
use Rattle.mw_logic.specs.Term.{RawTerm}
use Rattle.mw_frames.specs.State.{IsRun}
use Rattle.mw_frames.specs.Machines.{data_of}
use Rattle.mw_redexes.specs.Spots.{AreWays}
use Rattle.mw_rule.specs.Stepped.{IsAt, IsMadeOf}
use Rattle.mw_redexes.specs.declared.spots.Spot.{Spot}
use Rattle.mw_redexes.proofs.Passed.{got_at}
use Rattle.mw_rule.proofs.Places.{at_end}
use Rattle.mw_rule.proofs.rewriting.fire_at.Goals as goal

pub returns : goal.returns
returns c = λ K k t run here e made.
    let ss = c.args.spots.now in
    let q = c.args.found.choice in
    let d = data_of K.over c.go_to.new.machine in
    let facts : IsRun K c.facts.result.now = subst (IsRun K) (sym c.facts.ensures) run in
    let ways : AreWays c.facts.result.now t ss = subst (λ g. AreWays g t ss) facts.signature made.ways in
    let begun : IsAt K k (data_of K.over c.restart.new.self) t t = at_end K k (data_of K.over c.args.machine.now) t e (data_of K.over c.restart.new.self) (c.restart.ensures K.over) in
    let (p, there, at_p) = c.in_ok-go_to.ensures K k t t facts ways begun in
    let s : Spot = made.spot in
    let same : p ≡ s = same_Some p s (sym there ∙ made.there) in
    let at : IsAt K k d s.term.now t = subst (λ (x : Spot). IsAt K k d x.term.now t) same at_p in
    let got : slice_get ss c.args.found.at ≡ Some c.in-Some.spot.now = got_at ss c.args.found.at c.in-Some.spot.now c.in-Some.ensures.lookup.3.0 c.in-Some.ensures.lookup.1 in
    let copied : c.in_ok-part-in-Some.part ≡ s.term.now = c.in_ok-part-in-Some.ensures ∙ ap (λ (x : Spot). x.term.now) (same_Some c.in-Some.spot.now s (sym got ∙ made.there)) in
    let v : RawTerm = c.in_ok-part-in-Some.part in
    let at_v : IsAt K k d v t = subst (λ x. IsAt K k d x t) (sym copied) at in
    let of : IsMadeOf K s.term.now q c.args.sides.items = record { rule = made.rule; free = made.free; made = made.made } in
    c.in_ok-fired.ensures K k t run here at_v (subst (λ x. IsMadeOf K x q c.args.sides.items) (sym copied) of)
