use Rattle.std.proofs.Common.{◌≡◌, ◌∙◌, [], ◌∷◌, List, ℕ, ap, sym, subst}
use Rattle.std.specs.Prelude.{codes, IsTrue}
use Rattle.mw_logic.specs.Signature.{Signature, Operator, Member}
use Rattle.mw_logic.specs.Module.{AreKindsOf, BuiltIn, sort_of_result, spelling_of}
use Rattle.mw_builtin.specs.Schemata.{on_numbers}
use Rattle.mw_builtin.proofs.Naming.{is_named, named_result}
use Rattle.mw_builtin.proofs.rows.is_on_numbers.Goals as goal

pub are_two-requires : goal.are_two-requires
are_two-requires c K m = c.requires.sorts.args K (subst (Member K) (c.as_slice.ensures ∙ ap (λ (p : Operator). p.args) c.operator.view_is) m)

pub returns : goal.returns
returns c f is s =
    let sig : Signature = c.args.signature.now in
    let o : Operator = c.args.operator.now in
    let b : BuiltIn = on_numbers c.args.on_numbers in
    let nat : IsTrue sig.nat = ap (λ (s : Signature). s.nat) (sym c.signature.view_is) ∙ c.if-not-signature.false in
    let args : c.as_slice.result.now ≡ o.args = c.as_slice.ensures ∙ ap (λ (p : Operator). p.args) c.operator.view_is in
    let result : c.operator.inside.result ≡ o.result = ap (λ (p : Operator). p.result) c.operator.view_is in
    let two = c.are_two.ensures sig (codes "Nat") c.requires.accepted c.requires.order c.requires.kinds.numbers in
    let one = c.is_of.ensures sig (sort_of_result b) c.requires.accepted c.requires.order (c.result_kind.ensures sig c.requires.kinds) in (
      λ t. (nat, is_named sig f o is (spelling_of b) _ (sort_of_result b) s (subst (λ (xs : List ℕ). AreKindsOf sig xs (codes "Nat" ∷ codes "Nat" ∷ [])) args (two.0 c.if-not-are_two.false)) (subst (λ r. AreKindsOf sig (r ∷ []) (sort_of_result b ∷ [])) result (one.0 t))),
      λ h. one.1 (subst (λ r. AreKindsOf sig (r ∷ []) (sort_of_result b ∷ [])) (sym result) (named_result sig f o is h.1)),
    )
