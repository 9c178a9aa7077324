use Rattle.std.proofs.Common.{sym, ◌∙◌}
use Rattle.mw_match.proofs.Candidates.{on_err}
use Rattle.mw_match.proofs.Passing.{failed_first, some_first, picked_then, failed_then}
use Rattle.mw_match.proofs.solutions.Solutions.next.Goals as goal

pub returns-in_err-found-clause-err : goal.returns-in_err-found-clause-err
returns-in_err-found-clause-err c =
    let s = c.self.inside in
    on_err c.from_residual.result (failed_first s.parts s.given c.args.self.now s.hand c.next_at_hand.new.hand s.picks c.self.view_is (c.in_err-found.ensures.err s.given c.self.invariant.0))

pub returns-then-is_some-clause-ok : goal.returns-then-is_some-clause-ok
returns-then-is_some-clause-ok c =
    let s = c.self.inside in
    some_first s.parts s.given c.args.self.now s.hand c.next_at_hand.new.hand s.picks c.self.view_is c.in_ok-found.found (c.in_ok-found.ensures.ok s.given c.self.invariant.0) (sym c.is_some.ensures ∙ c.if-is_some.true)

pub returns-clause-ok : goal.returns-clause-ok
returns-clause-ok c =
    let s = c.self.inside in
    picked_then s.parts s.given c.args.self.now s.hand c.next_at_hand.new.hand s.picks c.self.view_is c.next_picked.new.picks c.in_ok-found.found (c.in_ok-found.ensures.ok s.given c.self.invariant.0)
    (sym c.is_some.ensures ∙ c.if-is_some.false) c.next_picked.result (c.next_picked.ensures.ok s.parts s.given c.self.invariant.1)

pub returns-clause-err : goal.returns-clause-err
returns-clause-err c =
    let s = c.self.inside in
    failed_then s.parts s.given c.args.self.now s.hand c.next_at_hand.new.hand s.picks c.self.view_is c.next_picked.new.picks c.in_ok-found.found (c.in_ok-found.ensures.ok s.given c.self.invariant.0)
    (sym c.is_some.ensures ∙ c.if-is_some.false) c.next_picked.result (c.next_picked.ensures.err s.parts s.given c.self.invariant.1)
