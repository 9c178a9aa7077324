use Rattle.std.proofs.Common.{subst, sym, ◌∷◌, ◌++◌, ◌<◌, [], List, length}
use Rattle.std.proofs.lemmas.Bool.{both_ways}
use Rattle.mw_logic.specs.Module.{Module}
use Rattle.mw_index.specs.Choices.{tried_of}
use Rattle.mw_solving.proofs.Admitted.{admitted_value}
use Rattle.mw_redexes.specs.Spots.{AreAllSpots, AreWays}
use Rattle.mw_redexes.specs.Redexes.{IsFoundIn, AreAsked}
use Rattle.mw_redexes.specs.declared.redexes.Found.{Found}
use Rattle.mw_redexes.specs.declared.spots.Spot.{Spot}
use Rattle.mw_rule.proofs.Known.{all_known, more_among, redex_found}
use Rattle.mw_redexes.proofs.Listed.{got_below}
use Rattle.mw_redexes.proofs.Standing.{values_listed}
use Rattle.mw_rule.proofs.finding.find.Goals as goal

pub loop-rounds-init : goal.loop-rounds-init
loop-rounds-init c = ([], λ d m. absurd m, c.new-redexes.ensures c.args.context.now c.rules-rules.result.now c.in_ok-spots.spots.items)

pub returns-in_default : goal.returns-in_default
returns-in_default c =
    let M : Module = c.args.context.now in
    let work = c.shows.ensures in
    let t = c.args.term.now in
    let ss : List Spot = c.in_ok-spots.spots.items in
    let wanted = c.wanted_by-wanted.result in
    let listed : AreAllSpots M.signature wanted t ss = subst (λ g. AreAllSpots g wanted t ss) c.facts.ensures c.in_ok-spots.ensures in
    let values = values_listed M work.signature.accepted t (admitted_value M.signature work.signature.accepted t c.requires.admitted) wanted ss listed in
    let (tried, among, asked) = c.loop-rounds.invariant in
    let all = rw c.in_default.is at (rw c.as_slice.ensures.value at c.in_ok-found.ensures.is tried values asked) in
    all_known M work c.args.failures.now c.requires.over tried among t c.requires.admitted wanted c.rules-rules.result.now (c.rules-rules.ensures M c.requires.index) c.wanted_by-wanted.ensures ss listed all

pub way_to-requires-clause-ways : goal.way_to-requires-clause-ways
way_to-requires-clause-ways c =
    let M : Module = c.args.context.now in
    let ss : List Spot = c.in_ok-spots.spots.items in
    let listed : AreAllSpots M.signature c.wanted_by-wanted.result c.args.term.now ss = subst (λ g. AreAllSpots g c.wanted_by-wanted.result c.args.term.now ss) c.facts.ensures c.in_ok-spots.ensures in
    (M.signature, c.args.term.now, subst (AreWays M.signature c.args.term.now) (sym c.as_slice-then-not-branch.ensures.value) listed.sound)

pub way_to-requires-clause-there : goal.way_to-requires-clause-there
way_to-requires-clause-there c =
    let M : Module = c.args.context.now in
    let work = c.shows.ensures in
    let t = c.args.term.now in
    let ss : List Spot = c.in_ok-spots.spots.items in
    let wanted = c.wanted_by-wanted.result in
    let x : Found = c.in-Some.found in
    let listed : AreAllSpots M.signature wanted t ss = subst (λ g. AreAllSpots g wanted t ss) c.facts.ensures c.in_ok-spots.ensures in
    let values = values_listed M work.signature.accepted t (admitted_value M.signature work.signature.accepted t c.requires.admitted) wanted ss listed in
    let (tried, among, asked) = c.loop-rounds.invariant in
    let z : IsFoundIn M ss x × AreAsked M c.rules-rules.result.now ss (tried ++ tried_of x.choice ∷ []) c.next.new.self =
    rw c.in-Some.is at (rw c.as_slice.ensures.value at c.in_ok-found.ensures.is tried values asked) in
    subst (λ ps. x.at < length ps) (sym c.as_slice-then-not-branch.ensures.value) (got_below ss x.at z.0.spot z.0.there)

pub returns-then-not-branch : goal.returns-then-not-branch
returns-then-not-branch c =
    let M : Module = c.args.context.now in
    let work = c.shows.ensures in
    let t = c.args.term.now in
    let ss : List Spot = c.in_ok-spots.spots.items in
    let wanted = c.wanted_by-wanted.result in
    let x : Found = c.in-Some.found in
    let listed : AreAllSpots M.signature wanted t ss = subst (λ g. AreAllSpots g wanted t ss) c.facts.ensures c.in_ok-spots.ensures in
    let values = values_listed M work.signature.accepted t (admitted_value M.signature work.signature.accepted t c.requires.admitted) wanted ss listed in
    let (tried, among, asked) = c.loop-rounds.invariant in
    let z : IsFoundIn M ss x × AreAsked M c.rules-rules.result.now ss (tried ++ tried_of x.choice ∷ []) c.next.new.self =
    rw c.in-Some.is at (rw c.as_slice.ensures.value at c.in_ok-found.ensures.is tried values asked) in
    redex_found M work t c.requires.admitted wanted ss listed x z.0 c.in_ok-subst.subst c.as_slice-in-loop-rounds.result.now c.as_slice-in-loop-rounds.ensures.value c.in_ok-subst.ensures
    c.args.failures.now (λ one. both_ways _ c.if-not-branch.true (c.in_ok-is_among.ensures.no one)) c.in_ok-path.path c.as_slice-then-not-branch.result.now c.as_slice-then-not-branch.ensures.value c.in_ok-path.ensures

pub loop-rounds-preserved-else-not-branch : goal.loop-rounds-preserved-else-not-branch
loop-rounds-preserved-else-not-branch c =
    let M : Module = c.args.context.now in
    let work = c.shows.ensures in
    let t = c.args.term.now in
    let ss : List Spot = c.in_ok-spots.spots.items in
    let wanted = c.wanted_by-wanted.result in
    let x : Found = c.in-Some.found in
    let listed : AreAllSpots M.signature wanted t ss = subst (λ g. AreAllSpots g wanted t ss) c.facts.ensures c.in_ok-spots.ensures in
    let values = values_listed M work.signature.accepted t (admitted_value M.signature work.signature.accepted t c.requires.admitted) wanted ss listed in
    let (tried, among, asked) = c.loop-rounds.invariant in
    let z : IsFoundIn M ss x × AreAsked M c.rules-rules.result.now ss (tried ++ tried_of x.choice ∷ []) c.next.new.self =
    rw c.in-Some.is at (rw c.as_slice.ensures.value at c.in_ok-found.ensures.is tried values asked) in
    let more = more_among M work t c.requires.admitted wanted ss listed x z.0 c.in_ok-subst.subst c.as_slice-in-loop-rounds.result.now c.as_slice-in-loop-rounds.ensures.value c.in_ok-subst.ensures
    c.args.failures.now tried among (c.in_ok-is_among.ensures.yes c.if-not-branch.false) in
    (tried ++ tried_of x.choice ∷ [], more, z.1)

pub loop-rounds-preserved : goal.loop-rounds-preserved
loop-rounds-preserved c =
    let M : Module = c.args.context.now in
    let work = c.shows.ensures in
    let t = c.args.term.now in
    let ss : List Spot = c.in_ok-spots.spots.items in
    let wanted = c.wanted_by-wanted.result in
    let x : Found = c.in-Some.found in
    let listed : AreAllSpots M.signature wanted t ss = subst (λ g. AreAllSpots g wanted t ss) c.facts.ensures c.in_ok-spots.ensures in
    let values = values_listed M work.signature.accepted t (admitted_value M.signature work.signature.accepted t c.requires.admitted) wanted ss listed in
    let (tried, among, asked) = c.loop-rounds.invariant in
    let z : IsFoundIn M ss x × AreAsked M c.rules-rules.result.now ss (tried ++ tried_of x.choice ∷ []) c.next.new.self =
    rw c.in-Some.is at (rw c.as_slice.ensures.value at c.in_ok-found.ensures.is tried values asked) in
    let more = more_among M work t c.requires.admitted wanted ss listed x z.0 c.in_ok-subst.subst c.as_slice-in-loop-rounds.result.now c.as_slice-in-loop-rounds.ensures.value c.in_ok-subst.ensures
    c.args.failures.now tried among (c.in_ok-is_among.ensures.yes c.if-not-branch.false) in
    (tried ++ tried_of x.choice ∷ [], more, z.1)
