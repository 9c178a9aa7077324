use Rattle.std.proofs.Common.{◌≡◌, ◌∙◌, List, Some, option_map, sym, ap, subst, refl}
use Rattle.std.proofs.lemmas.Option.{slice_get-map}
use Rattle.mw_logic.specs.Term.{RawTerm}
use Rattle.mw_grammar.specs.declared.alone.Alone.{Alone}
use Rattle.mw_grammar.specs.declared.alone.Alone.TheVariants.{Number, Identifier, Variable as VariableToken}
use Rattle.mw_grammar.specs.AloneTerms.{alone_term}
use Rattle.mw_grammar.specs.Compiled.{Extends}
use Rattle.mw_grammar.specs.Worded.{AllDiffer}
use Rattle.mw_grammar.specs.contracts.alone.AlonePartialEq.TheImpl.{eq-value}
use Rattle.mw_grammar.proofs.Meeting.{terms_held, same_alone, same_equal, held_extends, held_differ}
use Rattle.mw_grammar.proofs.alone.Leaves.meet.Goals as goal
use Rattle.mw_grammar.proofs.alone.Leaves.meet.Goals.{Else-place}

derived : (k l : Alone) → eq-value.it k l ≡ same_alone k l
derived (Number m) (Number n) = refl
derived (Number m) (Identifier q) = refl
derived (Number m) (VariableToken x S) = refl
derived (Identifier p) (Number n) = refl
derived (Identifier p) (Identifier q) = refl
derived (Identifier p) (VariableToken x S) = refl
derived (VariableToken x S) (Number n) = refl
derived (VariableToken x S) (Identifier q) = refl
derived (VariableToken x S) (VariableToken y T) = refl

held : (c : Else-place) → terms_held c.deref_mut.result.now.keys ≡ c.args.self.now
held c = ap (λ s. terms_held s.keys) c.deref_mut.ensures.value ∙ c.self.view_is

pub returns-clause-leaves : goal.returns-clause-leaves
returns-clause-leaves c =
    subst (λ (ts : List RawTerm). Extends ts (terms_held c.insert_full.new.self.keys)) (held c)
    (subst (λ (ks : List Alone). Extends (terms_held c.deref_mut.result.now.keys) (terms_held ks)) (sym c.in_ok-place.ensures.keys) (held_extends eq-value.it derived c.deref_mut.result.now.keys c.args.term))

pub returns-clause-differ : goal.returns-clause-differ
returns-clause-differ c =
    subst (λ (ts : List RawTerm). AllDiffer ts → AllDiffer (terms_held c.insert_full.new.self.keys)) (held c)
    (subst (λ (ks : List Alone). AllDiffer (terms_held c.deref_mut.result.now.keys) → AllDiffer (terms_held ks)) (sym c.in_ok-place.ensures.keys) (held_differ eq-value.it derived c.deref_mut.result.now.keys c.args.term))

pub returns-clause-place : goal.returns-clause-place
returns-clause-place c =
    let s = c.in_ok-place.ensures.stored in
    let same = same_equal c.args.term s.0 (sym (derived c.args.term s.0) ∙ s.2) in
    slice_get-map alone_term c.insert_full.new.self.keys c.in_ok-place.place ∙ ap (option_map alone_term) s.1 ∙ ap Some (sym same)
