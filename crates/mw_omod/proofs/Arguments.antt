-- Arguments of terms as they are written.
use Rattle.std.proofs.Common.{◌≡◌, ◌∙◌, ◌≤◌, ◌<◌, ℕ, List, [], ◌∷◌, length, get_or, Result, Ok, Err, IfOk, arith, refl, sym, ap, subst}
use Rattle.mw_logic.specs.Term.{RawTerm, apply, RawTerms, nil, cons}
use Rattle.mw_logic.specs.Signature.{Signature, IsRawTerm, an_operator, next}
use Rattle.mw_logic.specs.NormalForm.{normal_form}
use Rattle.mw_logic.specs.Parts.{number_of_terms}
use Rattle.mw_term.specs.declared.raw.Raw.{Raw}
use Rattle.mw_term.specs.Raws.{raw_term, raw_terms}
use Rattle.mw_omod.specs.declared.classes.Classes.{Classes}
use Rattle.mw_omod.specs.declared.classes.Role.TheVariants as role
use Rattle.mw_omod.specs.declared.objects.Object.{Object}
use Rattle.mw_omod.specs.Objects.{Attribute, role_of, object_of, IsSetOf}
use Rattle.mw_omod.specs.Seen.{seen_attributes, IsKeptObject}
use Rattle.mw_logic.specs.Term.{constant}

-- what holds of a result holds by what it follows from
pub if_ok : {X E : Type 0} {P Q : X → Type 0} (r : Result X E) → ((x : X) → P x → Q x) → IfOk r P → IfOk r Q
if_ok (Ok x) f h = f x h
if_ok (Err e) f h = tt

count : (ts : List Raw) → length ts ≡ number_of_terms (raw_terms ts)
count [] = refl
count (t ∷ ts) = let h = count ts in omega (arith, h)

pub as_many : (ts : List Raw) (us : RawTerms) → raw_terms ts ≡ us → length ts ≡ number_of_terms us
as_many ts us e = count ts ∙ ap number_of_terms e

pub same_arguments : {f g : ℕ} {ts us : RawTerms} → apply f ts ≡ apply g us → ts ≡ us
same_arguments e = cc

pub no_argument : (ts : List Raw) → length ts < 1 → raw_terms ts ≡ nil
no_argument [] l = refl
no_argument (t ∷ ts) l = absurd (never l)
  where
    never : length (t ∷ ts) < 1 → ⊥
    never h = omega (arith, h)

pub one_argument : (ts : List Raw) (v : Raw) → 1 ≤ length ts → length ts < 2 → v ≡ get_or ts 0 v → raw_terms ts ≡ cons (raw_term v) nil
one_argument [] v l m e = absurd (never l)
  where
    never : 1 ≤ 0 → ⊥
    never h = omega (arith, h)
one_argument (t ∷ []) v l m e = ap (λ x. cons (raw_term x) nil) (sym e)
one_argument (t ∷ u ∷ ts) v l m e = absurd (never m)
  where
    never : length (t ∷ u ∷ ts) < 2 → ⊥
    never h = omega (arith, h)

pub two_arguments : (ts : List Raw) (v w : Raw) → 2 ≤ length ts → length ts < 3 → v ≡ get_or ts 0 v → w ≡ get_or ts 1 w → raw_terms ts ≡ cons (raw_term v) (cons (raw_term w) nil)
two_arguments [] v w l m e d = absurd (never l)
  where
    never : 2 ≤ 0 → ⊥
    never h = omega (arith, h)
two_arguments (t ∷ []) v w l m e d = absurd (never l)
  where
    never : 2 ≤ length (t ∷ []) → ⊥
    never h = omega (arith, h)
two_arguments (t ∷ u ∷ []) v w l m e d = ap (λ x. cons (raw_term x) (cons (raw_term u) nil)) (sym e) ∙ ap (λ x. cons (raw_term v) (cons (raw_term x) nil)) (sym d)
two_arguments (t ∷ u ∷ x ∷ ts) v w l m e d = absurd (never m)
  where
    never : length (t ∷ u ∷ x ∷ ts) < 3 → ⊥
    never h = omega (arith, h)

-- an object that is kept
pub kept_object : (sig : Signature) (K : Classes) (t : RawTerm) (o : Object) (class set : RawTerm) (xs : List Attribute) → t ≡ object_of K (raw_term o.name.now) class set → class ≡ constant o.class → role_of K o.class ≡ role.Class o.sort
    → IsSetOf K set xs → seen_attributes o.attributes.items ≡ xs → o.form ≡ normal_form sig (raw_term o.name.now) → IsRawTerm sig t → IsKeptObject sig K t o
kept_object sig K t o class set xs e c r s h f raw = record {
  written = record { set = set; is = e ∙ ap (λ x. object_of K (raw_term o.name.now) x set) c; class = r; attributes = subst (IsSetOf K set) (sym h) s };
  form = f;
  raw = name_raw (subst (IsRawTerm sig) e raw);
}
  where
    name_raw : IsRawTerm sig (object_of K (raw_term o.name.now) class set) → IsRawTerm sig (raw_term o.name.now)
    name_raw (an_operator p is (next r k rest)) = r
