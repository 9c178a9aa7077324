use Rattle.std.proofs.Common.{ℕ, ◌∙◌, ap, sym, subst}
use Rattle.std.specs.Prelude.{Option, Some, None, IsTrue, codes}
use Rattle.mw_logic.specs.Signature.{Signature}
use Rattle.mw_canon.specs.Axioms.{IsKindNamed, IsKindOfNumbers}
use Rattle.mw_canon.proofs.rows.kind_of_numbers.Goals as goal

with_numbers : (sig : Signature) (found : Option ℕ) → IsTrue sig.nat → IsKindNamed sig (codes "Nat") found → IsKindOfNumbers sig found
with_numbers sig None nat h = λ _. h
with_numbers sig (Some K) nat h = (nat, h.0, h.1, h.2)

pub returns : goal.returns
returns c =
    let named : IsKindNamed c.args.signature.now (codes "Nat") c.kind_named.result = subst (λ name. IsKindNamed c.args.signature.now name c.kind_named.result) c.as_slice.ensures c.kind_named.ensures in
    with_numbers c.args.signature.now c.kind_named.result (ap (λ (s : Signature). s.nat) (sym c.signature.view_is) ∙ c.if-not-signature.false) named
