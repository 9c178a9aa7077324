use Rattle.std.proofs.Common.{◌≡◌, ◌∙◌, ◌+◌, ℕ, Some, take, drop, refl, sym, ap, subst}
use Rattle.std.specs.Prelude.{◌↔◌}
use Rattle.std.specs.List.{slice_get}
use Rattle.mw_chart.specs.Listed.{inner}
use Rattle.mw_chart.proofs.Lists.{get_is}
use Rattle.mw_logic.specs.Signature.{Member}
use Rattle.mw_text.specs.Interned.{number_of}
use Rattle.mw_text.specs.Mixfix.{IsVariableName}
use Rattle.mw_grammar.specs.Readable.{kind_in}
use Rattle.mw_grammar.specs.Listing.{IsListed}
use Rattle.mw_grammar.proofs.Added.{variables_same}
use Rattle.mw_grammar.proofs.Tokens.{divided_to, divided_from, rest_is}
use Rattle.mw_grammar.proofs.grammar.Grammar.push_divided.Goals as goal

pub returns-in_ok-push_sorts : goal.returns-in_ok-push_sorts
returns-in_ok-push_sorts c =
    let g = c.args.self.now in
    let token = c.args.token.now in
    let colon : slice_get token c.args.colon ≡ Some 58 = get_is token c.args.colon 0 c.requires ∙ ap (λ m. Some m) c.if-token-colon-eq58.true in
    let name : IsVariableName (take c.args.colon token) = c.if-is_name.ensures.0 refl in
    let its : c.list_of.result.now ≡ inner g.named.items (number_of g.names (drop (c.args.colon + 1) token)) =
    c.list_of.ensures ∙ ap (inner g.named.items) (c.in_ok-number.ensures ∙ ap (number_of g.names) (rest_is token (c.args.colon + 1))) in
    let own : (S : ℕ) → Member S c.list_of.result.now ↔ IsListed g.names g.named.items (drop (c.args.colon + 1) token) S = λ S. (subst (Member S) its, subst (Member S) (sym its)) in
    variables_same (kind_in g.kinds) _ _ _ _ _ _ (divided_to (IsListed g.names g.named.items) token c.args.colon colon name _ own) (divided_from (IsListed g.names g.named.items) token c.args.colon colon name _ own)
    c.in_ok-push_sorts.ensures
