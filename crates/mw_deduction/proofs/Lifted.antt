-- A proof under an operator with its axioms, beside terms that stay: each replacement must be of a term that is seen there.
use Rattle.std.specs.Prelude.{◌≡◌, ℕ, List, [], ◌++◌, map, Bool, true}
use Rattle.std.proofs.Common.{sym, subst, ap, ◌∙◌}
use Rattle.std.proofs.lemmas.Bool.{both_ways}
use Rattle.mw_logic.specs.Term.{RawTerm, RawTerms, numeral, nil, cons, join, Context, plug}
use Rattle.mw_logic.specs.Term as term
use Rattle.mw_logic.specs.Signature.{IsIdentity}
use Rattle.mw_logic.specs.Accepted.{IsAccepted}
use Rattle.mw_logic.specs.Substitution.{Substitution}
use Rattle.mw_logic.specs.Parts.{is_assoc, IsCleanForm, IsAdmitted, ReplacesPart}
use Rattle.mw_logic.specs.NormalForm.{identity_of, is_identity, normal_form}
use Rattle.mw_logic.specs.Module.{Fragment, Module}
use Rattle.mw_logic.specs.Proof.{Proof, reflexivity, equality, congruence, transitivity, replacement, row, Proofs}
use Rattle.mw_logic.specs.Proof as proof
use Rattle.mw_logic.specs.Judgements.{StepTest, AdmittedStep, Leads, LeadsIn}
use Rattle.mw_logic.proofs.AxiomLaws.{in_context}
use Rattle.mw_logic.proofs.ContextLaws.{plug-append}
use Rattle.mw_logic.proofs.Invariance.{identity_found, normal_form-kept}
use Rattle.mw_logic.proofs.Frozen.{IsOpenContext, open_append}
use Rattle.mw_deduction.specs.Places.{place_of}
use Rattle.mw_deduction.specs.Chains.{Replacement, proof_of, within}
use Rattle.mw_deduction.specs.Standing.{Open, context_at, IsClear, IsSeenBy}
use Rattle.mw_deduction.proofs.Clear.{Stands, one_clean}
use Rattle.mw_deduction.proofs.Joining.{leads_within}

module _ (M : Module) (H : List Fragment → Substitution → Proofs → Substitution → Type 0) (F : List Fragment → Substitution → Type 0)
    (Step Tep : StepTest) (D : Context) (j : (r : Bool) (t w v u : RawTerm) → Step r t w v u → Tep r (plug D t) w v (plug D u)) where
  moved : (C : Context) (r : Bool) (t u : RawTerm) → Step r (plug C t) t u (plug C u) → Tep r (plug (C ++ D) t) t u (plug (C ++ D) u)
  moved C r t u s =
      let P : RawTerm → Type 0 = λ x. Tep r x t u (plug (C ++ D) u) in
      let Q : RawTerm → Type 0 = λ y. Tep r (plug D (plug C t)) t u y in
      subst P (sym (plug-append C D t)) (subst Q (sym (plug-append C D u)) (j r _ _ _ _ s))

  mutual
    pub lifted : (p : Proof) (C : Context) (t u : RawTerm) → Leads M Step H F C p t u → Leads M Tep H F (C ++ D) p t u
    lifted reflexivity C t u l = l
    lifted equality C t u l = l
    lifted (congruence ps) C t u (f, ts, us, a, b, l) = (f, ts, us, a, b, lifted_in ps C f term.nil ts us l)
    lifted (transitivity p q) C t u (m, a, b) = (m, lifted p C t m a, lifted q C m u b)
    lifted (replacement k r s es) C t u (x, part) = (x, moved C r t u part)
    lifted row C t u (x, c', part) = (x, c', moved C _ t u part)

    lifted_in : (ps : Proofs) (C : Context) (f : ℕ) (done ts us : RawTerms) → LeadsIn M Step H F C f done ps ts us → LeadsIn M Tep H F (C ++ D) f done ps ts us
    lifted_in proof.nil C f done ts us l = l
    lifted_in (proof.cons p ps) C f done ts us (t, u, ts', us', a, b, l, more) = (t, u, ts', us', a, b, lifted p _ t u l, lifted_in ps C f _ ts' us' more)

module _ (M : Module) (ok : IsAccepted M.signature) (o : Open) (clear : IsClear M.signature o) where
  -- a clean form of a term that is seen may stand there
  form_stands : (t K : RawTerm) → IsSeenBy M.signature o (normal_form M.signature t) → IsCleanForm M.signature t K → Stands M.signature ok o.operator K
  form_stands t K s k = record {
    clean = k.clean;
    not_identity = λ e is q. hidden e is q;
    not_numeral = λ n is q l. s.not_numeral n is (normal_form-kept M.signature ok k.equal ∙ ap (normal_form M.signature) q) l;
  }
    where
      hidden : (e : RawTerm) → IsIdentity M.signature o.operator e → K ≡ e → ⊥
      hidden e is q =
          let (a, r, z) = ok.identity o.operator is.operator is.identity is.is_there is.named in
          let h : is_assoc M.signature o.operator ≡ true = rw (is.is_there) a in
          let u : is_identity (identity_of M.signature o.operator) (normal_form M.signature e) ≡ true = identity_found M.signature ok o.operator e is in
          let v : normal_form M.signature e ≡ normal_form M.signature t = ap (normal_form M.signature) (sym q) ∙ sym (normal_form-kept M.signature ok k.equal) in
          both_ways _ (s.not_identity h) (subst (λ x. is_identity (identity_of M.signature o.operator) x ≡ true) v u)

  -- A step that may stand under the operator: of a whole term that is seen there, by a rule only where the hole is not frozen, and the term with the
  -- operator round it is admitted before and after.
  pub record MayLift (by_rule : Bool) (t w v u : RawTerm) : Type 0 where
    pub replaces : ReplacesPart M.signature by_rule t w v u
    pub seen : IsSeenBy M.signature o (normal_form M.signature t)
    pub not_frozen : IsOpenContext M.signature by_rule (context_at M.signature o)
    pub before : IsAdmitted M.signature (plug (context_at M.signature o) t)
    pub after : IsAdmitted M.signature (plug (context_at M.signature o) u)

  pub lifts : (by_rule : Bool) (t w v u : RawTerm) → MayLift by_rule t w v u → AdmittedStep M by_rule (plug (context_at M.signature o) t) w v (plug (context_at M.signature o) u)
  lifts by_rule t w v u m =
      let p = m.replaces in
      let C : Context = context_at M.signature o in (
        record {
          place = p.place ++ C;
          part = p.part;
          for_rules = open_append M.signature by_rule p.place C p.for_rules m.not_frozen;
          is_part = record {
            clean = rw plug-append (one_clean M.signature ok o (plug p.place p.part) clear (form_stands t (plug p.place p.part) m.seen p.is_part)).0;
            equal = rw plug-append (in_context C p.is_part.equal);
          };
          same = p.same;
          becomes = rw plug-append (in_context C p.becomes);
        },
        m.before,
        m.after,
      )

  -- a proof each of whose steps may be lifted, under the operator
  pub leads_under : (H : List Fragment → Substitution → Proofs → Substitution → Type 0) (F : List Fragment → Substitution → Type 0) (rs : List Replacement) (t u : RawTerm) → Leads M MayLift H F [] (proof_of rs) t u
      → Leads M (AdmittedStep M) H F [] (proof_of (map (within (place_of (context_at M.signature o))) rs)) (plug (context_at M.signature o) t) (plug (context_at M.signature o) u)
  leads_under H F rs t u l = leads_within M (AdmittedStep M) H F (context_at M.signature o) rs t u (lifted M H F MayLift (AdmittedStep M) (context_at M.signature o) lifts (proof_of rs) [] t u l)
