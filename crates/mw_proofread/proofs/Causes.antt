-- Why something isn't read, passed on.
use Rattle.std.proofs.Common.{◌≡◌, ℕ, sym, subst}
use Rattle.std.specs.Prelude.{Result, Ok, Err, IfOk, IfErr, IsErrAnd}
use Rattle.mw_proofread.specs.declared.fault.Fault.{Fault}
use Rattle.mw_proofread.specs.declared.fault.Fault.TheVariants.{Outside, Memory}
use Rattle.mw_proofread.specs.declared.fault.ReadError.{ReadError}
use Rattle.mw_proofread.specs.declared.fault.ReadError.TheVariants as error
use Rattle.mw_proofread.specs.Faults.{OnOutside, OutsideAt, IsAt}

pub on_outside : (P Q : Type 0) (f : Fault) → (P → Q) → OnOutside P f → OnOutside Q f
on_outside P Q Outside g h = g h
on_outside P Q Memory g h = tt

pub passed : {A : Type 0} (Q : Type 0) (r : Result A Fault) (f : Fault) → IsErrAnd r (λ e. e ≡ f) → OnOutside Q f → IfErr r (OnOutside Q)
passed Q (Ok x) f h k = tt
passed Q (Err e) f h k = subst (OnOutside Q) (sym h) k

-- at a part of a whole text
pub at_part : (P : ℕ → Type 0) (f : Fault) (n : ℕ) (e : ReadError) → IsAt f n e → OnOutside (P n) f → OutsideAt P e
at_part P Outside n (error.Outside j) h k = subst P (sym h) k
at_part P Outside n (error.Memory a) h k = absurd h
at_part P Memory n (error.Outside j) h k = absurd h
at_part P Memory n (error.Memory a) h k = tt

-- what holds of an answer, by what holds of it
pub from_three : {A E : Type 0} (P Q R S : A → Type 0) (r : Result A E) → IfOk r P → IfOk r Q → IfOk r R → ((x : A) → P x → Q x → R x → S x) → IfOk r S
from_three P Q R S (Ok x) p q o f = f x p q o
from_three P Q R S (Err e) p q o f = tt

pub from_err : {A : Type 0} (P Q : Type 0) (r : Result A Fault) → (P → Q) → IfErr r (OnOutside P) → IfErr r (OnOutside Q)
from_err P Q (Ok x) f h = tt
from_err P Q (Err e) f h = on_outside P Q e f h

pub from_ok : {A E : Type 0} (P Q : A → Type 0) (r : Result A E) → ((x : A) → P x → Q x) → IfOk r P → IfOk r Q
from_ok P Q (Ok x) f h = f x h
from_ok P Q (Err e) f h = tt
