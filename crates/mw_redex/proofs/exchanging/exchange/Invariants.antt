use Rattle.std.proofs.Common.{◌≡◌, ◌+◌, drop}
use Rattle.mw_logic.specs.Term.{join}
use Rattle.mw_logic.specs.Terms.{terms_of}
use Rattle.mw_redex.specs.Replaced.{exchanged}
use Rattle.mw_redex.proofs.exchanging.exchange.Given as goal

abbrev pub invariant-loop-i : goal.invariant-loop-i
invariant-loop-i l = record {
  same : l.with ≡ l.fn.with;
  told : join (terms_of l.made.items) (exchanged (l.i + 1) l.first l.more l.fn.with (terms_of (drop l.i l.terms))) ≡ exchanged 1 l.first l.more l.fn.with (terms_of l.terms);
}
