use Rattle.std.proofs.Common.{sym, subst}
use Rattle.mw_term.specs.Raws.{raw_term}
use Rattle.mw_chart.specs.Spelling.{IsTable}
use Rattle.mw_chart.specs.Answer as chart
use Rattle.mw_grammar.specs.Grammars.{texts}
use Rattle.mw_grammar.specs.Readable.{kind_in}
use Rattle.mw_parse.proofs.Exactness.{exact_words, reads_pair, pair_cause}
use Rattle.mw_parse.proofs.pair.parse_pair.Goals as goal

pub parse_pair-requires : goal.parse_pair-requires
parse_pair-requires c = subst IsTable (sym c.table-table.ensures) c.requires

pub returns-in-Ok-clause-read : goal.returns-in-Ok-clause-read
returns-in-Ok-clause-read c = λ sig variables is.
    let g = c.args.grammar.now in
    let l = c.in_ok-lefts.lefts in
    let w = c.in_ok-rights.rights in
    let left = c.in_ok-lefts.ensures sig variables is in
    let right = c.in_ok-rights.ensures sig variables is in
    let h = subst (λ g. chart.ReadsPair g l.words.items w.words.items c.in-Ok.pair) c.table-table.ensures
    (subst (λ ws. chart.ReadsPair c.table-table.result.now l.words.items ws c.in-Ok.pair) c.as_slice-second.ensures.value (subst (λ ws. chart.ReadsPair c.table-table.result.now ws c.as_slice-second.result.now c.in-Ok.pair) c.as_slice-first.ensures.value c.in-Ok.ensures.one)) in
    reads_pair sig variables (kind_in g.kinds) g.table is.compiled.of_terms
    l.leaves (texts c.args.left.now) l.words.items left.count (exact_words sig variables g c.args.left.now l is left)
    w.leaves (texts c.args.right.now) w.words.items right.count (exact_words sig variables g c.args.right.now w is right)
    (raw_term c.in_ok-terms-in-Ok.field-0.0, raw_term c.in_ok-terms-in-Ok.field-0.1) c.in-Ok.pair.left c.in-Ok.pair.right h.short h.spelled h.only c.in_ok-terms-in-Ok.ensures.0 c.in_ok-terms-in-Ok.ensures.1

pub returns-clause-cause : goal.returns-clause-cause
returns-clause-cause c = λ sig variables is.
    let g = c.args.grammar.now in
    let l = c.in_ok-lefts.lefts in
    let w = c.in_ok-rights.rights in
    let left = c.in_ok-lefts.ensures sig variables is in
    let right = c.in_ok-rights.ensures sig variables is in
    let h = subst (λ g. chart.HasNoPair g l.words.items w.words.items c.in-Err.fault) c.table-table.ensures
    (subst (λ ws. chart.HasNoPair c.table-table.result.now l.words.items ws c.in-Err.fault) c.as_slice-second.ensures.value (subst (λ ws. chart.HasNoPair c.table-table.result.now ws c.as_slice-second.result.now c.in-Err.fault) c.as_slice-first.ensures.value c.in-Err.ensures.fault)) in
    pair_cause sig variables (kind_in g.kinds) g.table is.compiled.of_terms
    l.leaves (texts c.args.left.now) l.words.items left.count (exact_words sig variables g c.args.left.now l is left)
    w.leaves (texts c.args.right.now) w.words.items right.count (exact_words sig variables g c.args.right.now w is right)
    c.in-Err.fault c.in_ok-told-in-Err.field-0 h c.in_ok-told-in-Err.ensures
