use Rattle.std.proofs.Common.{◌≡◌, List, ℕ, ap}
use Rattle.mw_logic.specs.Term.{RawTerm, variable}
use Rattle.mw_grammar.specs.Readable.{kind_in}
use Rattle.mw_grammar.proofs.Added.{variable_one}
use Rattle.mw_grammar.proofs.grammar.Grammar.push_variable.Goals as goal

-- the copy of the name is the name
named : (a b : List ℕ) (S : ℕ) → a ≡ b → variable (record { name = a; sort = S }) ≡ variable (record { name = b; sort = S })
named a b S e = ap (λ (n : List ℕ). let t : RawTerm = variable (record { name = n; sort = S }) in t) e

pub returns : goal.returns
returns c =
    let e = named c.in_ok-name.name.items c.args.name.now c.args.sort (c.in_ok-name.ensures.items_if_clones_equal (λ x y e. e)) in
    variable_one (kind_in c.args.self.now.kinds) _ _ _ _ (record { name = c.args.name.now; sort = c.args.sort }) _ _ e c.kind_of-kind.ensures c.in_ok-push_leaf.ensures
