use Rattle.std.proofs.Common.{◌∙◌, sym, ap, arith, vec_len}
use Rattle.std.proofs.lemmas.List.{nil_from_length}
use Rattle.mw_match.specs.Levels.{picks_in}
use Rattle.mw_match.proofs.Candidates.{on_err}
use Rattle.mw_match.proofs.Taking.{is_none}
use Rattle.mw_match.proofs.NextPicks.{patterns_number, passes_to, levels_unchanged, levels_turned, levels_passed, levels_shifted, none_left, handed_next, none_at}
use Rattle.mw_match.proofs.levels.Levels.next.Goals as goal

pub hand_out-requires : goal.hand_out-requires
hand_out-requires c =
    let r = c.loop-self.invariant in
    let n = patterns_number c.args.self.now c.loop-self.self c.patterns-count.result.now r c.patterns-count.ensures in
    let depth = r.kept.depth in
    record { whole = omega (arith, n, depth, c.len.ensures, c.if-len-count.true) }

pub returns-in_err-made-clause-err : goal.returns-in_err-made-clause-err
returns-in_err-made-clause-err c =
    let old = c.args.self.now in
    on_err c.from_residual.result (passes_to old c.hand_out.new.self c.requires (levels_unchanged old c.loop-self.self c.hand_out.new.self c.loop-self.invariant c.in_err-made.ensures.err))

pub returns-then-len-count-clause-ok : goal.returns-then-len-count-clause-ok
returns-then-len-count-clause-ok c =
    handed_next c.args.self.now c.loop-self.self c.requires c.loop-self.invariant c.hand_out.new.self c.hand_out.ensures.same (sym c.is_some.ensures ∙ c.if-is_some.true) c.in_ok-made.made c.in_ok-made.ensures.ok

pub descend-requires : goal.descend-requires
descend-requires c =
    let n = patterns_number c.args.self.now c.loop-self.self c.patterns-count.result.now c.loop-self.invariant c.patterns-count.ensures in
    omega (arith, n, c.len.ensures, c.if-len-count.false)

pub returns-in_err-descend-clause-err : goal.returns-in_err-descend-clause-err
returns-in_err-descend-clause-err c =
    let old = c.args.self.now in
    let now = c.loop-self.self in
    let new = c.descend.new.self in
    let r = c.loop-self.invariant in
    on_err c.from_residual-in_err-descend.result
    (passes_to old new c.requires (levels_turned old now new r (ap picks_in (sym c.in_err-descend.ensures.err)) c.descend.ensures.same (c.descend.ensures.kept r.kept)))

pub returns-then-is_empty-clause-ok : goal.returns-then-is_empty-clause-ok
returns-then-is_empty-clause-ok c =
    let now = c.loop-self.self in
    let none = is_none (vec_len now.stack) c.is_empty.result c.is_empty.ensures c.if-is_empty.true in
    let empty = nil_from_length now.stack.items (omega (arith, none, now.stack.ok.0)) in
    none_left c.args.self.now now c.requires c.loop-self.invariant empty (none_at now.found c.is_some.result c.is_some.ensures c.if-is_some.false)

pub returns-in_err-find-clause-err : goal.returns-in_err-find-clause-err
returns-in_err-find-clause-err c =
    let old = c.args.self.now in
    let e = c.find.ensures in
    let r = levels_passed old c.loop-self.self c.find.new.self c.loop-self.invariant e.passes e.same e.kept in
    on_err c.from_residual-in_err-find.result (passes_to old c.find.new.self c.requires r)

pub loop-self-preserved-in-Continue-branch-4 : goal.loop-self-preserved-in-Continue-branch-4
loop-self-preserved-in-Continue-branch-4 c =
    let old = c.args.self.now in
    let e = c.find.ensures in
    let r = levels_passed old c.loop-self.self c.find.new.self c.loop-self.invariant e.passes e.same e.kept in
    levels_shifted old c.find.new.self c.shift.new.self r c.in_ok-shift.ensures.ok c.shift.ensures.same c.shift.ensures.kept

pub returns-in_err-shift-clause-err : goal.returns-in_err-shift-clause-err
returns-in_err-shift-clause-err c =
    let old = c.args.self.now in
    let e = c.find.ensures in
    let r = levels_passed old c.loop-self.self c.find.new.self c.loop-self.invariant e.passes e.same e.kept in
    on_err c.from_residual-in_err-shift.result (passes_to old c.shift.new.self c.requires (levels_unchanged old c.find.new.self c.shift.new.self r c.in_err-shift.ensures.err))

pub loop-self-preserved : goal.loop-self-preserved
loop-self-preserved c =
    let e = c.find.ensures in
    levels_passed c.args.self.now c.loop-self.self c.find.new.self c.loop-self.invariant e.passes e.same e.kept
