use Rattle.std.proofs.Common.{◌∙◌, sym}
use Rattle.mw_grammar.proofs.Added.{numeral_one}
use Rattle.mw_grammar.proofs.grammar.Grammar.push_number.Goals as goal

pub returns-in_ok-push_leaf : goal.returns-in_ok-push_leaf
returns-in_ok-push_leaf c =
    numeral_one c.args.self.now.numbers c.args.token.now _ _ _ _ c.in-Some-number.number c.in-Some.kind c.in-Some.is (sym c.number.ensures ∙ c.in-Some-number.is) c.in_ok-push_leaf.ensures
