use Rattle.std.proofs.Common.{List, ℕ, ◌∙◌, ◌⊎◌, ap, subst}
use Rattle.mw_chart.specs.Listed.{inner}
use Rattle.mw_text.specs.Interned.{number_of}
use Rattle.mw_grammar.specs.Readable.{kind_in}
use Rattle.mw_grammar.specs.Leaves.{IsOfOne, IsWithSort, IsNumeralLeaf, IsIdentifierLeaf, IsVariableLeaf}
use Rattle.mw_grammar.specs.Listing.{IsListed}
use Rattle.mw_grammar.specs.Worded.{Adds}
use Rattle.mw_grammar.proofs.Added.{adds_both}
use Rattle.mw_grammar.proofs.WordByWord.{word_is}
use Rattle.mw_grammar.proofs.grammar.Grammar.word.Goals as goal
use Rattle.mw_grammar.proofs.grammar.Grammar.word.Goals.{In_ok-push_with_sorts}

module _ (c : In_ok-push_with_sorts) where
  abbrev Found : Type 0
  Found =
      let g = c.args.self.now in
      Adds c.args.leaves.now c.push_with_sorts.new.leaves c.new-found.result.items c.push_with_sorts.new.found.items
      (λ t K. ((IsNumeralLeaf g.numbers c.args.token.now t K ⊎ IsIdentifierLeaf g.identifiers c.args.token.now t K)
      ⊎ IsVariableLeaf (kind_in g.kinds) (IsOfOne (inner g.declared.items (number_of g.names c.args.token.now)) c.args.token.now) t K)
      ⊎ IsVariableLeaf (kind_in g.kinds) (IsWithSort (IsListed g.names g.named.items) c.args.token.now) t K)

  found : Found
  found =
      let g = c.args.self.now in
      let its = c.list_of-sorts.ensures ∙ ap (inner g.declared.items) c.in_ok-number.ensures in
      let named = subst (λ (Ss : List ℕ). Adds c.push_identifier.new.leaves c.push_sorts.new.leaves c.push_identifier.new.found.items c.push_sorts.new.found.items (IsVariableLeaf (kind_in g.kinds) (IsOfOne Ss c.args.token.now))) its c.in_ok-push_sorts.ensures in
      adds_both _ _ _ _ _ _ _ _ (adds_both _ _ _ _ _ _ _ _ (adds_both _ _ _ _ _ _ _ _ c.in_ok-push_number.ensures c.in_ok-push_identifier.ensures) named) c.in_ok-push_with_sorts.ensures

pub returns : goal.returns
returns c = record {
  leaves = (found c).leaves;
  differ = (found c).differ;
  word = λ sig variables is.
      word_is sig variables c.args.self.now is c.args.token.now c.args.leaves.now c.push_with_sorts.new.leaves c.new-found.result.items
      (record { token = c.in_ok-number.number; leaves = c.push_with_sorts.new.found }) c.new-found.ensures.items c.in_ok-number.ensures (found c);
}
