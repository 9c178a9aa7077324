use Rattle.std.specs.Prelude.{slice_get}
use Rattle.std.proofs.Common.{get_or, arith, ap, sym, subst, ◌∙◌, ◌≡◌, ◌<◌, Some}
use Rattle.std.proofs.lemmas.Option.{same_Some}
use Rattle.mw_frames.specs.Machines.{data_of}
use Rattle.mw_redexes.specs.Spots.{AreWays}
use Rattle.mw_rule.specs.Stepped.{IsAt, IsAtPart}
use Rattle.mw_redexes.specs.declared.spots.Spot.{Spot}
use Rattle.mw_redexes.proofs.Listed.{got_below}
use Rattle.mw_redexes.proofs.Passed.{got_at}
use Rattle.mw_rule.proofs.Places.{first_part, next_part}
use Rattle.mw_rule.proofs.going.+go_to.Goals as goal
use Rattle.mw_rule.proofs.going.+go_to.Goals.{in-Some-2, in-None-2}

pub returns-then-at-eq0 : goal.returns-then-at-eq0
returns-then-at-eq0 m c = λ K k root whole run ways at.
    let ss = c.args.spots.now in
    let s = c.in-Some.spot.now in
    let is : slice_get ss c.args.at ≡ Some s = got_at ss c.args.at s c.in-Some.ensures.lookup.3.0 c.in-Some.ensures.lookup.1 in
    let here : AreWays K.over.signature root ss = subst (λ g. AreWays g root ss) (sym run.signature) ways in
    let first : slice_get ss 0 ≡ Some s = subst (λ n. slice_get ss n ≡ Some s) c.if-at-eq0.true is in
    subst (λ n. IsAtPart K k (data_of K.over c.args.machine.now) ss n whole) (sym c.if-at-eq0.true) (first_part K k (data_of K.over c.args.machine.now) root whole ss s here first at)

pub returns : goal.returns
returns m c = λ K k root whole run ways at.
    let ss = c.args.spots.now in
    let s = c.in-Some.spot.now in
    let is : slice_get ss c.args.at ≡ Some s = got_at ss c.args.at s c.in-Some.ensures.lookup.3.0 c.in-Some.ensures.lookup.1 in
    let here : AreWays K.over.signature root ss = subst (λ g. AreWays g root ss) (sym run.signature) ways in
    let (p, there, at_p) = c.in_ok-go_to.ensures K k root whole run ways at in
    let z : Spot = get_or ss s.parent c.index-spots-spot.result in
    let of_z : slice_get ss s.parent ≡ Some z = got_at ss s.parent c.index-spots-spot.result (got_below ss s.parent p there) c.index-spots-spot.is ∙ ap Some c.index-spots-spot.is in
    let same : p ≡ z = same_Some p z (sym there ∙ of_z) in
    let at_z : IsAt K k (data_of K.over c.go_to.new.machine) z.term.now whole = subst (λ (x : Spot). IsAt K k (data_of K.over c.go_to.new.machine) x.term.now whole) same at_p in
    let positive : 0 < c.args.at = let n = c.if-at-eq0.false in omega (arith, n) in
    elim c.match-branch-3.branch [
      | in-Some-2 w ↦
          rw w.result-is (next_part K k (data_of K.over c.go_to.new.machine) (data_of K.over c.enter.new.machine) root whole ss c.args.at s z here is positive of_z (z, of_z, at_z) _ (rw w.in-Some-2.is at (c.in_ok-enter.ensures.means K k run at_z.holds)))
      | in-None-2 w ↦ rw w.result-is tt
    ]
