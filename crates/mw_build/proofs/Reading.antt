-- Statements, from the terms that their texts spell.
use Rattle.std.proofs.Common.{◌≡◌, List, Option, Some, None, MatchOption, Result, Ok, Err, IfOk, MatchResult, refl}
use Rattle.mw_logic.specs.Term.{Variable, RawTerm}
use Rattle.mw_logic.specs.Signature.{Signature}
use Rattle.mw_logic.specs.Module.{Fragment, Statement}
use Rattle.mw_module.specs.declared.faults.FaultKind.{FaultKind}
use Rattle.mw_module.specs.Words.{texts}
use Rattle.mw_text.specs.Readings.{ReadsPair}
use Rattle.mw_omod.specs.declared.classes.Classes.{Classes}
use Rattle.mw_build.specs.Sides.{Sides}
use Rattle.mw_build.specs.Fragments.{AreFragments}
use Rattle.mw_build.specs.Statements.{statement_of, IsOwn, OwnFault, IsReadAs, StatementFault, bad_terms}

-- a statement whose sides and fragments spell these
pub of_terms : {E : Type 0} (sig : Signature) (variables : List Variable) (objects : Option Classes) (e : Sides) (left right : RawTerm) (C : List Fragment)
    → ReadsPair sig variables (texts e.left) (texts e.right) (left, right) → AreFragments sig variables e.fragments C → (r : Result (Result Statement FaultKind) E)
    → IfOk r (λ s. MatchResult s (IsOwn sig objects (statement_of left right C e.rule e.executable)) (λ kind. OwnFault sig objects (statement_of left right C e.rule e.executable) kind))
    → IfOk r (λ s. MatchResult s (IsReadAs sig variables objects e) (λ kind. StatementFault sig variables objects e kind))
of_terms sig variables objects e left right C read are (Err x) h = h
of_terms sig variables objects e left right C read are (Ok (Ok st)) h = record { left = left; right = right; read = read; condition = C; fragments = are; holds = h }
of_terms sig variables objects e left right C read are (Ok (Err kind)) h = bad_terms left right C read are h

-- what is told where nothing is found
pub none_so : {X : Type 0} (N : Type 0) (P : X → Type 0) (o : Option X) → MatchOption o N P → ((x : X) → o ≡ Some x → ⊥) → N
none_so N P None h n = h
none_so N P (Some x) h n = absurd (n x refl)
