use Rattle.std.proofs.Common.{ℕ, ◌+◌, List, sym, subst, arith}
use Rattle.std.proofs.lemmas.List.{length-map}
use Rattle.mw_chart.proofs.Lists.{get_item}
use Rattle.mw_chart.specs.declared.terminal.Terminal.{Terminal}
use Rattle.mw_lex.specs.declared.token.Token.{Token}
use Rattle.mw_grammar.specs.Readable.{kind_in}
use Rattle.mw_grammar.specs.Worded.{IsWord}
use Rattle.mw_grammar.specs.Grammars.{texts}
use Rattle.mw_grammar.proofs.ItemByItem.{get-map}
use Rattle.mw_grammar.proofs.WordByWord.{HasWords, no_words, words_push, words_are}
use Rattle.mw_grammar.proofs.grammar.Grammar.words.Goals as goal

pub loop-token-init : goal.loop-token-init
loop-token-init c = λ sig variables is.
    no_words sig c.args.self.now.names variables (kind_in c.args.self.now.kinds) c.in_ok-leaves.leaves (texts c.args.tokens.now) c.new-words.result.items c.in_ok-leaves.ensures c.new-words.ensures.items

pub loop-token-preserved : goal.loop-token-preserved
loop-token-preserved c = λ sig variables is.
    let g = c.args.self.now in
    let kind : ℕ → ℕ = kind_in g.kinds in
    let i = c.loop-token.token-index in
    let got = get_item c.args.tokens.now i c.token-item.result c.loop-token-test.true c.token-item.is in
    let there = get-map (λ (t : Token). t.text) c.args.tokens.now i c.token-item.result got in
    let word = subst (λ (t : List ℕ). IsWord sig variables kind g.names c.word.new.leaves t c.in_ok-word.field-0) c.as_slice.ensures (c.in_ok-word.ensures.word sig variables is) in
    subst (λ (ws : List Terminal). HasWords sig g.names variables kind c.word.new.leaves (texts c.args.tokens.now) (i + 1) ws) (sym c.in_ok-push.ensures.items)
    (words_push sig g.names variables kind c.loop-token.leaves c.word.new.leaves (texts c.args.tokens.now) i c.loop-token.words.items c.token-item.result.text
    c.in_ok-word.field-0 c.in_ok-word.ensures.leaves c.in_ok-word.ensures.differ there word (c.loop-token.invariant sig variables is))

pub returns : goal.returns
returns c = λ sig variables is.
    let g = c.args.self.now in
    let i = c.loop-token.token-index in
    let l = length-map c.args.tokens.now (λ (t : Token). t.text) in
    let a = c.loop-token-test.false in
    let b = c.loop-token.auto.token-index-end in
    words_are sig g.names variables (kind_in g.kinds) c.loop-token.leaves (texts c.args.tokens.now) i c.loop-token.words.items (omega (arith, l, a, b)) (c.loop-token.invariant sig variables is)
