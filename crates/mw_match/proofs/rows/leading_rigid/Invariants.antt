use Rattle.std.proofs.Common.{◌≡◌, ◌+◌, drop}
use Rattle.mw_logic.specs.Terms.{terms_of}
use Rattle.mw_matching.specs.Found.{is_single}
use Rattle.mw_matching.specs.Patterns.{leading}
use Rattle.mw_match.proofs.rows.leading_rigid.Given as goal

abbrev pub invariant-loop-i : goal.invariant-loop-i
invariant-loop-i l =
    leading l.facts (is_single l.positions.single.items) l.operator (terms_of l.patterns)
    ≡ l.i + leading l.facts (is_single l.positions.single.items) l.operator (terms_of (drop l.i l.patterns))
