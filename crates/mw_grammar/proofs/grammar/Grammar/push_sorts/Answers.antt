use Rattle.mw_chart.proofs.Lists.{get_is}
use Rattle.mw_grammar.specs.Readable.{kind_in}
use Rattle.mw_grammar.proofs.Added.{variables_then}
use Rattle.mw_grammar.proofs.Listings.{of_one_to, of_one_from}
use Rattle.mw_grammar.proofs.grammar.Grammar.push_sorts.Goals as goal

pub loop-sort-preserved : goal.loop-sort-preserved
loop-sort-preserved c =
    let i = c.loop-sort.sort-index in
    let got = get_is c.args.sorts.now i 0 c.loop-sort-test.true in
    variables_then (kind_in c.args.self.now.kinds) _ _ _ _ _ _ _ _ _ (of_one_to c.args.sorts.now i _ c.args.name.now got) (of_one_from c.args.sorts.now i _ c.args.name.now got)
    c.loop-sort.invariant c.in_ok-push_variable.ensures
