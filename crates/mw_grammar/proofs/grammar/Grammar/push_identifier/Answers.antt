use Rattle.std.proofs.Common.{refl}
use Rattle.mw_grammar.proofs.Added.{identifier_one}
use Rattle.mw_grammar.proofs.grammar.Grammar.push_identifier.Goals as goal

pub returns : goal.returns
returns c =
    identifier_one c.args.self.now.identifiers c.args.token.now _ _ _ _ c.in_ok-token.token.items c.in-Some.kind (c.in_ok-token.ensures.items_if_clones_equal (λ x y e. e)) c.in-Some.is (c.if-not-is_identifier.ensures.0 refl) c.in_ok-push_leaf.ensures
