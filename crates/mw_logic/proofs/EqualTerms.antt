-- What is said of a term is said of each equal one: its parts, its limits, whether it is ground, admitted, plain, normal or final.
use Rattle.std.specs.Prelude.{◌≡◌, ℕ, zero, suc, Bool, true, false, ◌&&◌, refl}
use Rattle.std.proofs.Common.{ap, sym, ◌∙◌}
use Rattle.mw_logic.specs.Term.{RawTerm, RawTerms, is_ground, are_ground, Context}
use Rattle.mw_logic.specs.Signature.{Signature, Identity, constant_of, numeral_of, identity_term}
use Rattle.mw_logic.specs.Axioms.{Axiom, assoc, comm, id_left, id_right, successor, OneUse, forward, backward, inside, OneUseIn, here, later, EqualModulo, done, then}
use Rattle.mw_logic.specs.Parts.{IsPart, IsPartForRules, IsTopPart, whole, proper, IsTooDeep, IsTooLarge, IsAdmitted, ReplacesPart}
use Rattle.mw_logic.specs.Module.{Module}
use Rattle.mw_logic.specs.Judgements.{IsNormalBy, IsPlainBy, IsNormal, IsPlain, judgements_with}
use Rattle.mw_logic.specs.Ends.{IsFinal}
use Rattle.mw_logic.proofs.AxiomLaws.{trans}

and_assoc : (a b c : Bool) → ((a && (b && true)) && (c && true)) ≡ (a && ((b && (c && true)) && true))
and_assoc false b c = refl
and_assoc true false c = refl
and_assoc true true true = refl
and_assoc true true false = refl

and_comm : (a b : Bool) → (a && (b && true)) ≡ (b && (a && true))
and_comm true true = refl
and_comm true false = refl
and_comm false true = refl
and_comm false false = refl

and_true : (a : Bool) → (a && true) ≡ a
and_true true = refl
and_true false = refl

identity_ground : (i : Identity) → is_ground (identity_term i) ≡ true
identity_ground (constant_of c) = refl
identity_ground (numeral_of n) = refl

module _ (sig : Signature) where
  axiom_ground : {t u : RawTerm} → Axiom sig t u → is_ground t ≡ is_ground u
  axiom_ground (assoc {x} {y} {z} is) = and_assoc (is_ground x) (is_ground y) (is_ground z)
  axiom_ground (comm {x} {y} is) = and_comm (is_ground x) (is_ground y)
  axiom_ground (id_left {e} {x} is k) = rw (is.is, identity_ground is.identity) (and_true (is_ground x))
  axiom_ground (id_right {e} {x} is k) = rw (is.is, identity_ground is.identity) (and_true (is_ground x))
  axiom_ground (successor is l) = refl

  mutual
    use_ground : {t u : RawTerm} → OneUse sig t u → is_ground t ≡ is_ground u
    use_ground (forward a) = axiom_ground a
    use_ground (backward a) = sym (axiom_ground a)
    use_ground (inside s) = uses_ground s

    uses_ground : {ts us : RawTerms} → OneUseIn sig ts us → are_ground ts ≡ are_ground us
    uses_ground (here {ts} s) = ap (λ b. b && are_ground ts) (use_ground s)
    uses_ground (later {t} s) = ap (λ b. is_ground t && b) (uses_ground s)

  -- equal terms are ground together
  pub ground_kept : {t u : RawTerm} → EqualModulo sig t u → is_ground t ≡ is_ground u
  ground_kept done = refl
  ground_kept (then s p) = use_ground s ∙ ground_kept p

  module _ {t u : RawTerm} (e : EqualModulo sig t u) where
    pub IsPart-equal : (C : Context) (w : RawTerm) → IsPart sig u C w → IsPart sig t C w
    IsPart-equal C w p = record { clean = p.clean; equal = trans e p.equal }

    pub IsPartForRules-equal : (C : Context) (w : RawTerm) → IsPartForRules sig u C w → IsPartForRules sig t C w
    IsPartForRules-equal C w p = record { part = IsPart-equal C w p.part; not_frozen = p.not_frozen }

    pub IsTopPart-equal : (C : Context) (w : RawTerm) → IsTopPart sig u C w → IsTopPart sig t C w
    IsTopPart-equal C w (whole c p) = whole c (IsPart-equal C w p)
    IsTopPart-equal C w (proper a f p) = proper a f (IsPart-equal C w p)

    pub IsTooDeep-equal : IsTooDeep sig u → IsTooDeep sig t
    IsTooDeep-equal d = record { form = d.form; clean = record { clean = d.clean.clean; equal = trans e d.clean.equal }; deep = d.deep }

    pub IsTooLarge-equal : IsTooLarge sig u → IsTooLarge sig t
    IsTooLarge-equal d = record { place = d.place; operator = d.operator; successor = d.successor; clean = record { clean = d.clean.clean; equal = trans e d.clean.equal } }

    -- a part replaced in one is replaced in the other
    pub ReplacesPart-equal : (by_rule : Bool) (w v x : RawTerm) → ReplacesPart sig by_rule u w v x → ReplacesPart sig by_rule t w v x
    ReplacesPart-equal r w v x p = record { place = p.place; part = p.part; for_rules = p.for_rules; is_part = IsPart-equal p.place p.part p.is_part; same = p.same; becomes = p.becomes }

  pub IsAdmitted-equal : {t u : RawTerm} → EqualModulo sig t u → IsAdmitted sig t → IsAdmitted sig u
  IsAdmitted-equal e a = record { ground = sym (ground_kept e) ∙ a.ground; not_deep = λ d. a.not_deep (IsTooDeep-equal e d); not_large = λ d. a.not_large (IsTooLarge-equal e d) }

-- normal, plain and final terms
pub normal_equal : (M : Module) (F : _) {t u : RawTerm} → EqualModulo M.signature t u → IsNormalBy M F t → IsNormalBy M F u
normal_equal M F e n = record {
  admitted = IsAdmitted-equal M.signature e n.admitted;
  no_equation = λ C w p. n.no_equation C w (IsPart-equal M.signature e C w p);
  no_row = λ C w p. n.no_row C w (IsPart-equal M.signature e C w p);
  no_pair = λ C w p. n.no_pair C w (IsPart-equal M.signature e C w p);
}

plain_equal : (M : Module) (F : _) {t u : RawTerm} → EqualModulo M.signature t u → IsPlainBy M F t → IsPlainBy M F u
plain_equal M F e n = record {
  no_equation = λ C w p. n.no_equation C w (IsTopPart-equal M.signature e C w p);
  no_row = λ C w p. n.no_row C w (IsTopPart-equal M.signature e C w p);
  no_pair = λ C w p. n.no_pair C w (IsTopPart-equal M.signature e C w p);
}

pub IsNormal-equal : (M : Module) (n : ℕ) {t u : RawTerm} → EqualModulo M.signature t u → IsNormal M n t → IsNormal M n u
unfolding judgements_with
IsNormal-equal M zero e h = normal_equal M _ e h
IsNormal-equal M (suc n) e h = normal_equal M _ e h

pub IsPlain-equal : (M : Module) (n : ℕ) {t u : RawTerm} → EqualModulo M.signature t u → IsPlain M n t → IsPlain M n u
unfolding judgements_with
IsPlain-equal M zero e h = plain_equal M _ e h
IsPlain-equal M (suc n) e h = plain_equal M _ e h

pub IsFinal-equal : (M : Module) {t u : RawTerm} → EqualModulo M.signature t u → IsFinal M t → IsFinal M u
IsFinal-equal M e h = record { normal = IsNormal-equal M 63 e h.normal; no_rule = λ C w p. h.no_rule C w (IsPartForRules-equal M.signature e C w p) }
