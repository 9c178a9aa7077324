-- Statements declare one thing at most together with the same variables, have one first fault at most, and not both.
use Rattle.std.proofs.Common.{◌≡◌, ◌∙◌, ℕ, List, sym, ap, arith}
use Rattle.std.proofs.lemmas.Option.{none-some, same_Some}
use Rattle.mw_module.specs.declared.faults.Fault.{Fault}
use Rattle.mw_module.specs.declared.faults.FaultKind.TheVariants.{SortCycle}
use Rattle.mw_module.specs.Units.{SeenLined}
use Rattle.mw_logic.specs.Signature.{at_number}
use Rattle.mw_declare.specs.declared.built.Reached.{Reached}
use Rattle.mw_declare.specs.Meaning.{Name}
use Rattle.mw_declare.specs.Hierarchy.{Hierarchy}
use Rattle.mw_declare.specs.Faults.{Typing, told_at}
use Rattle.mw_declare.specs.declared.declarations.Declarations.{Declarations}
use Rattle.mw_declare.specs.Declarations.{IsAcyclic, CycleFault, Declares, DeclarationFault, of_sort, of_cycle, of_operator}

-- a hierarchy has one fault
one_cycle : (line : ℕ) (h : Hierarchy) (r s : Fault) → CycleFault line h r → CycleFault line h s → r ≡ s
one_cycle line h r s f g =
    let low = f.least.least g.sort g.least.on in
    let high = g.least.least f.sort f.least.on in
    let sort : f.sort ≡ g.sort = omega (arith, low, high) in
    let name : f.name ≡ g.name = same_Some f.name g.name (sym f.named ∙ ap (at_number h.names) sort ∙ g.named) in
    f.fault ∙ ap (λ (n : Name). let r : Fault = record { line = line; kind = SortCycle n } in r) name ∙ sym g.fault

not_acyclic : (line : ℕ) (h : Hierarchy) (r : Fault) → CycleFault line h r → IsAcyclic h → ⊥
not_acyclic line h r f none = none f.sort f.least.on

pub one_declaration : (r : Reached) (typing : Typing) (ss : List SeenLined) (d e : Declarations) → Declares r typing ss d → Declares r typing ss e → d ≡ e
one_declaration r typing ss d e p q = p.declared ∙ sym q.declared

module _ (reached : Reached) (line : ℕ) (ss : List SeenLined) where
  pub none_at_fault : (typing : Typing) (d : Declarations) (r : Fault) → Declares reached typing ss d → DeclarationFault reached line ss r → ⊥
  none_at_fault typing d r p (of_sort e) = none-some r (sym p.known ∙ e)
  none_at_fault typing d r p (of_cycle k f) = not_acyclic line _ r f p.acyclic
  none_at_fault typing d r p (of_operator k a e) = none-some r (ap (told_at line) (sym p.fine) ∙ e)

  pub one_fault : (r s : Fault) → DeclarationFault reached line ss r → DeclarationFault reached line ss s → r ≡ s
  one_fault r s (of_sort e) (of_sort k) = same_Some r s (sym e ∙ k)
  one_fault r s (of_sort e) (of_cycle n f) = absurd (none-some r (sym n ∙ e))
  one_fault r s (of_sort e) (of_operator n a k) = absurd (none-some r (sym n ∙ e))
  one_fault r s (of_cycle n f) (of_sort k) = absurd (none-some s (sym n ∙ k))
  one_fault r s (of_cycle n f) (of_cycle m g) = one_cycle line _ r s f g
  one_fault r s (of_cycle n f) (of_operator m a k) = absurd (not_acyclic line _ r f a)
  one_fault r s (of_operator n a e) (of_sort k) = absurd (none-some s (sym n ∙ k))
  one_fault r s (of_operator n a e) (of_cycle m g) = absurd (not_acyclic line _ s g a)
  one_fault r s (of_operator n a e) (of_operator m b k) = same_Some r s (sym e ∙ k)
