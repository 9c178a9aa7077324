use Rattle.std.proofs.Common.{◌∙◌, sym}
use Rattle.mw_match.specs.declared.hand.Hand.{Hand}
use Rattle.mw_match.proofs.Candidates.{on_err}
use Rattle.mw_match.proofs.Hands.{reached_found, unchanged, handed_answer, handed_on, reached_turned, none_answer, none_found}
use Rattle.mw_match.proofs.hand.Hand.next.Goals as goal

pub returns-in_err-find-clause-err : goal.returns-in_err-find-clause-err
returns-in_err-find-clause-err c =
    let e = c.find.ensures in
    on_err c.from_residual.result (reached_found c.args.parts.now c.args.self.now c.loop-self.self c.loop-self.invariant c.find.new.search c.find.new.found e.skips e.sorted e.same).passes

pub returns-in_err-made-clause-err : goal.returns-in_err-made-clause-err
returns-in_err-made-clause-err c =
    let e = c.find.ensures in
    let h : Hand = record c.loop-self.self { search = c.find.new.search; found = c.find.new.found } in
    let r = reached_found c.args.parts.now c.args.self.now c.loop-self.self c.loop-self.invariant c.find.new.search c.find.new.found e.skips e.sorted e.same in
    on_err c.from_residual-in_err-made.result (unchanged c.args.parts.now c.args.self.now h c.hand_out.new.self r c.in_err-made.ensures.err)

pub returns-then-is_some-2-clause-ok : goal.returns-then-is_some-2-clause-ok
returns-then-is_some-2-clause-ok c =
    let e = c.find.ensures in
    let h : Hand = record c.loop-self.self { search = c.find.new.search; found = c.find.new.found } in
    let r = reached_found c.args.parts.now c.args.self.now c.loop-self.self c.loop-self.invariant c.find.new.search c.find.new.found e.skips e.sorted e.same in
    handed_answer c.args.parts.now c.args.self.now h r c.in_ok-made.made c.in_ok-made.ensures.solution (sym c.is_some-then-is_some.ensures ∙ c.if-is_some-2.true) c.hand_out.new.self c.in_ok-made.ensures.ok

pub loop-self-preserved-else-is_some-2-3 : goal.loop-self-preserved-else-is_some-2-3
loop-self-preserved-else-is_some-2-3 c =
    let e = c.find.ensures in
    let h : Hand = record c.loop-self.self { search = c.find.new.search; found = c.find.new.found } in
    let r = reached_found c.args.parts.now c.args.self.now c.loop-self.self c.loop-self.invariant c.find.new.search c.find.new.found e.skips e.sorted e.same in
    handed_on c.args.parts.now c.args.self.now h r c.in_ok-made.made c.in_ok-made.ensures.solution (sym c.is_some-then-is_some.ensures ∙ c.if-is_some-2.false) c.hand_out.new.self c.in_ok-made.ensures.ok

pub returns-in_err-turn-clause-err : goal.returns-in_err-turn-clause-err
returns-in_err-turn-clause-err c =
    let e = c.find.ensures in
    let h : Hand = record c.loop-self.self { search = c.find.new.search; found = c.find.new.found } in
    let r = reached_found c.args.parts.now c.args.self.now c.loop-self.self c.loop-self.invariant c.find.new.search c.find.new.found e.skips e.sorted e.same in
    on_err c.from_residual-in_err-turn.result (unchanged c.args.parts.now c.args.self.now h c.turn.new.self r c.in_err-turn.ensures.err)

pub returns-then-not-branch-clause-ok : goal.returns-then-not-branch-clause-ok
returns-then-not-branch-clause-ok c =
    let e = c.find.ensures in
    let h : Hand = record c.loop-self.self { search = c.find.new.search; found = c.find.new.found } in
    let r = reached_found c.args.parts.now c.args.self.now c.loop-self.self c.loop-self.invariant c.find.new.search c.find.new.found e.skips e.sorted e.same in
    let (none, empty) = none_found c.find.new.found c.find.new.search.coming (sym c.is_some.ensures ∙ c.if-is_some.false) c.in_ok-find.ensures.none in
    let (behind, is) = c.in_ok-turn.ensures.none c.if-not-branch.true in
    none_answer c.args.parts.now c.args.self.now h r none empty behind c.turn.new.self is

pub loop-self-preserved : goal.loop-self-preserved
loop-self-preserved c =
    let e = c.find.ensures in
    let h : Hand = record c.loop-self.self { search = c.find.new.search; found = c.find.new.found } in
    let r = reached_found c.args.parts.now c.args.self.now c.loop-self.self c.loop-self.invariant c.find.new.search c.find.new.found e.skips e.sorted e.same in
    let (none, empty) = none_found c.find.new.found c.find.new.search.coming (sym c.is_some.ensures ∙ c.if-is_some.false) c.in_ok-find.ensures.none in
    let (more, begun, found) = c.in_ok-turn.ensures.more c.if-not-branch.false in
    reached_turned c.args.parts.now c.args.self.now h r none empty c.turn.new.self more.0 begun found
