use Rattle.std.proofs.Common.{◌∙◌, option_map, sym, ap, subst}
use Rattle.mw_chart.specs.Spelling.{IsTable}
use Rattle.mw_chart.specs.Answer as chart
use Rattle.mw_text.specs.Mixfix.{Reads}
use Rattle.mw_grammar.specs.Grammars.{texts}
use Rattle.mw_grammar.specs.Readable.{kind_in}
use Rattle.mw_grammar.specs.Meaning.{term_of}
use Rattle.mw_parse.proofs.Exactness.{exact_words, reads, cause}
use Rattle.mw_parse.proofs.single.parse.Goals as goal

pub parse-requires : goal.parse-requires
parse-requires c = subst IsTable (sym c.table.ensures) c.requires

pub returns-in-Ok-clause-read : goal.returns-in-Ok-clause-read
returns-in-Ok-clause-read c = λ sig variables is.
    let g = c.args.grammar.now in
    let w = c.in_ok-words.words in
    let words = c.in_ok-words.ensures sig variables is in
    let exact = exact_words sig variables g c.args.tokens.now w is words in
    let count = (words.count) in
    let k = option_map (kind_in g.kinds) c.args.wanted in
    let h = subst (λ g. chart.Reads g k w.words.items c.in-Ok.term) c.table.ensures
    (subst (λ ws. chart.Reads c.table.result.now k ws c.in-Ok.term) c.as_slice.ensures.value (subst (λ v. chart.Reads c.table.result.now v c.as_slice.result.now c.in-Ok.term) c.wanted_kind-kind.ensures c.in-Ok.ensures.one)) in
    let is_term = c.in_ok-raw-in-Ok.ensures ∙ ap (term_of w.leaves) c.node.ensures in
    subst (Reads sig variables c.args.wanted (texts c.args.tokens.now)) (sym is_term)
    (reads sig variables (kind_in g.kinds) g.table is.compiled.of_terms w.leaves (texts c.args.tokens.now) w.words.items count exact c.args.wanted c.in-Ok.term h)

pub returns-clause-cause : goal.returns-clause-cause
returns-clause-cause c = λ sig variables is.
    let g = c.args.grammar.now in
    let w = c.in_ok-words.words in
    let words = c.in_ok-words.ensures sig variables is in
    let exact = exact_words sig variables g c.args.tokens.now w is words in
    let count = (words.count) in
    let k = option_map (kind_in g.kinds) c.args.wanted in
    let h = subst (λ g. chart.HasNoReading g k w.words.items c.in-Err.fault) c.table.ensures
    (subst (λ ws. chart.HasNoReading c.table.result.now k ws c.in-Err.fault) c.as_slice.ensures.value (subst (λ v. chart.HasNoReading c.table.result.now v c.as_slice.result.now c.in-Err.fault) c.wanted_kind-kind.ensures c.in-Err.ensures.fault)) in
    cause sig variables (kind_in g.kinds) g.table is.compiled.of_terms w.leaves (texts c.args.tokens.now) w.words.items count exact c.args.wanted c.in-Err.fault c.in_ok-told-in-Err.field-0 h c.in_ok-told-in-Err.ensures
