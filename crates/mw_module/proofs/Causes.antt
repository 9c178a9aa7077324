-- What an error says, where one property follows from another.
use Rattle.std.proofs.Common.{◌≡◌, Result, IfErr, sym, subst}
use Rattle.std.specs.Result.{IsErrAnd}
use Rattle.std.proofs.lemmas.Result.{err_from_is_err_and}
use Rattle.mw_module.specs.declared.faults.Fault.{Fault}
use Rattle.mw_module.specs.declared.faults.UnitError.{UnitError}
use Rattle.mw_module.specs.declared.faults.UnitError.TheVariants as error
use Rattle.mw_module.specs.Causes.{HasCause}

pub cause_kept : (P Q : Fault → Type 0) → ((f : Fault) → P f → Q f) → (e : UnitError) → HasCause P e → HasCause Q e
cause_kept P Q k error.Memory h = tt
cause_kept P Q k (error.Fault f) h = k f h

-- where an error is passed on
pub passed_on : {X : Type 0} (P Q : Fault → Type 0) → ((f : Fault) → P f → Q f) → (r : Result X UnitError) (e : UnitError) → IsErrAnd r (λ x. x ≡ e) → HasCause P e → IfErr r (HasCause Q)
passed_on {X} P Q k r e is h =
    let p = err_from_is_err_and r is in
    subst (λ (r : Result X UnitError). IfErr r (HasCause Q)) (sym p.1) (subst (HasCause Q) (sym p.2) (cause_kept P Q k e h))
