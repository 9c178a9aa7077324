-- Tests of two terms.
use Rattle.std.specs.Prelude.{◌≡◌, ◌≢◌, ℕ, List, [], ◌∷◌, Bool, true, false, Option, Some, None, ⊤}
use Rattle.std.proofs.Common.{ap, sym, subst, ◌∙◌, ⊎_elim, inl, inr, arith}
use Rattle.mw_logic.specs.Term.{RawTerm, apply, nil, cons, binary}
use Rattle.mw_logic.specs.Terms.{terms_of}
use Rattle.mw_logic.specs.Signature.{Signature, IsRawTerm}
use Rattle.mw_logic.specs.Accepted.{IsAccepted}
use Rattle.mw_logic.specs.Axioms.{EqualModulo}
use Rattle.mw_logic.specs.Parts.{nested, IsClean, IsAdmitted}
use Rattle.mw_logic.specs.NormalForm.{normal_form}
use Rattle.mw_logic.specs.Module.{Module, IsPolymorphic}
use Rattle.mw_logic.specs.Judgements.{IsNormal}
use Rattle.mw_logic.proofs.Canonical.{IsCanonical}
use Rattle.mw_logic.proofs.CanonicalTerms.{fixed, clean}
use Rattle.mw_logic.proofs.Holes.{frame}
use Rattle.mw_logic.proofs.Invariance.{normal_form-kept}
use Rattle.mw_logic.proofs.Ranks.{row_within}
use Rattle.mw_canon.specs.Canonical.{IsAdmittedTerm}
use Rattle.mw_prooftext.proofs.Inside.{inside_admitted}
use Rattle.mw_least.specs.Workable.{IsWorkable}
use Rattle.mw_builtin.specs.Steps.{IsTestOf, IsSide, IsGiven}
use Rattle.mw_builtin.proofs.Forms.{nested_two}
use Rattle.mw_verdict.specs.Checks.{IsFormOf}
use Rattle.mw_verdict.proofs.RowKinds.{test_name}
use Rattle.mw_verdict.proofs.OneRow.{sides_raw}
use Rattle.mw_verdict.proofs.FirmSides.{reducible_sides}
use Rattle.mw_check.specs.Answers.{Gives, IsComputation}
use Rattle.mw_check.specs.RowSides.{AreTold}
use Rattle.mw_check.specs.declared.normal.Normal.TheVariants as normal
use Rattle.mw_check.specs.declared.rows.Computed.TheVariants as computed
use Rattle.mw_check.proofs.RowForms.{row_of_test, of_whole, canonical_term, gives_by_sides}
use Rattle.mw_check.proofs.RowNone.{several_taken}

-- a test of equality, or of the contrary, by its name
pub test_of : (sig : Signature) (f : ℕ) (e : Bool) → IsPolymorphic sig f (test_name e) → IsTestOf sig f
test_of sig f true p = inl p
test_of sig f false p = inr p

pub named_test : (sig : Signature) (f : ℕ) → IsTestOf sig f → (e : Bool) × IsPolymorphic sig f (test_name e)
named_test sig f t = ⊎_elim (λ p. (true, p)) (λ p. (false, p)) t

-- what stands on two arguments is the whole of what is taken
pub whole_taken : (sig : Signature) (f : ℕ) (x y : RawTerm) (N : RawTerm → Type 0) (take : Option (List ℕ)) (to : RawTerm) → IsGiven sig N (apply f (cons x (cons y nil))) take to → IsGiven sig N (apply f (cons x (cons y nil))) None to
whole_taken sig f x y N None to g = g
whole_taken sig f x y N (Some ks) to g = let (a, many) = several_taken sig f (cons x (cons y nil)) ks g.is_form.part g.is_form.taken in absurd (omega (arith, many))

module _ (M : Module) (work : IsWorkable M) (f : ℕ) (x y : RawTerm) (a : IsAdmittedTerm M.signature (apply f (terms_of (x ∷ y ∷ [])))) where
  abbrev sig : Signature
  sig = M.signature

  abbrev ok : IsAccepted sig
  ok = work.signature.accepted

  abbrev w : RawTerm
  w = apply f (terms_of (x ∷ y ∷ []))

  stands : IsCanonical sig w
  stands = canonical_term sig ok w a

  raw_two : IsRawTerm sig (binary f (nested sig x) (nested sig y))
  raw_two = subst (IsRawTerm sig) (nested_two sig f x y) a.raw

  admitted_two : IsAdmitted sig (binary f (nested sig x) (nested sig y))
  admitted_two = subst (IsAdmitted sig) (nested_two sig f x y) a.admitted

  -- its two arguments are admitted
  pub first_admitted : IsAdmittedTerm sig x
  first_admitted = record {
    raw = (sides_raw sig ok raw_two).0;
    canonical = fixed sig ok x stands.0.0;
    admitted = inside_admitted sig ok (frame f nil (cons (nested sig y) nil) ∷ []) (nested sig x) raw_two admitted_two;
  }

  pub second_admitted : IsAdmittedTerm sig y
  second_admitted = record {
    raw = (sides_raw sig ok raw_two).1;
    canonical = fixed sig ok y stands.0.1.0;
    admitted = inside_admitted sig ok (frame f (cons (nested sig x) nil) nil ∷ []) (nested sig y) raw_two admitted_two;
  }

  form_two : IsFormOf sig w (binary f (nested sig x) (nested sig y))
  form_two = record { raw = raw_two; clean = subst (IsClean sig) (nested_two sig f x y) (clean sig ok w stands); is = ap (normal_form sig) (sym (nested_two sig f x y)) ∙ a.canonical }

  module _ (take : Option (List ℕ)) (to : RawTerm) (given : IsGiven sig (IsSide sig f (x ∷ y ∷ [])) w take to) where
    abbrev whole : IsGiven sig (IsSide sig f (x ∷ y ∷ [])) w None to
    whole = whole_taken sig f x y (IsSide sig f (x ∷ y ∷ [])) take to given

    first_is : {u v : RawTerm} {ys : List RawTerm} → x ∷ y ∷ [] ≡ u ∷ v ∷ ys → (x ≡ u) × (y ≡ v)
    first_is e = (cc, cc)

    -- Of equal terms a row gives it, whatever is normal.
    pub gives_equal : (N : RawTerm → Type 0) → x ≡ y → Gives sig N w to
    gives_equal N e = gives_by_sides sig ok f (x ∷ y ∷ []) a N (λ v side. let (p, q) = first_is side.there in absurd (side.differ (sym p ∙ e ∙ q))) to whole

    gives_told : (N : RawTerm → Type 0) → N (nested sig x) → N (nested sig y) → Gives sig N w to
    gives_told N p q = gives_by_sides sig ok f (x ∷ y ∷ []) a N of_side to whole
      where
        of_side : (v : RawTerm) → IsSide sig f (x ∷ y ∷ []) v → N v
        of_side v side =
            let (i, j) = first_is side.there in
            ⊎_elim (λ e. subst N (ap (nested sig) i ∙ sym e) p) (λ e. subst N (ap (nested sig) j ∙ sym e) q) side.is

    differ_modulo : x ≢ y → ¬ EqualModulo sig (nested sig x) (nested sig y)
    differ_modulo d h = d (sym (fixed sig ok x stands.0.0) ∙ normal_form-kept sig ok h ∙ fixed sig ok y stands.0.1.0)

    -- Of others it is what is told of the two.
    pub told_normal : (most n : ℕ) → AreTold M most n x y normal.Yes → IsComputation M most n w (computed.Gives to)
    told_normal most n h = gives_told (IsNormal M n) h.0 h.1

    pub told_reducible : IsTestOf sig f → x ≢ y → (most n : ℕ) → AreTold M most n x y normal.No → IsComputation M most n w computed.NotNormal
    told_reducible t d most n h = ((whole.form, nested sig to, of_whole whole.is_form, row_within (λ v side. tt) whole.meets), λ form result g. reducible_sides M ok n f x y form result t d h g)

    pub told_stopped : IsTestOf sig f → x ≢ y → (most n : ℕ) → AreTold M most n x y normal.Stopped → IsComputation M most n w (computed.Stopped to)
    told_stopped t d most n h =
        let (e, p) = named_test sig f t in
        let (r, row) = row_of_test sig ok (work.built.truths f p.0 p.1 p.3) e f p (nested sig x) (nested sig y) (sides_raw sig ok raw_two).0 (sides_raw sig ok raw_two).1 in (
          record { operator = f; first = nested sig x; second = nested sig y; result = r; is_form = form_two; row = row; test = t; differ = differ_modulo d; stops = h },
          gives_told (λ v. ⊤) tt tt,
        )
