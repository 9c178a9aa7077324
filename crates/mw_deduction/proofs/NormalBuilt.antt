-- A flattened term over normal arguments at whose top parts nothing applies is normal.
use Rattle.std.specs.Prelude.{◌≡◌, ◌⊎◌, ℕ, List, [], false, Some, IsTrue, IsFalse}
use Rattle.std.proofs.Common.{sym, subst, inl, inr, ⊎_elim, true≢false}
use Rattle.mw_logic.specs.Term.{RawTerm, RawTerms, apply, Context, plug, join}
use Rattle.mw_logic.specs.Term as term
use Rattle.mw_logic.specs.Signature.{Signature, IsRawTerm}
use Rattle.mw_logic.specs.Axioms.{done}
use Rattle.mw_logic.specs.Accepted.{IsAccepted}
use Rattle.mw_logic.specs.Parts.{IsClean, IsPart, IsAdmitted, nested}
use Rattle.mw_logic.specs.NormalForm.{normal_form}
use Rattle.mw_logic.specs.CanonicalPart.{IsPartOf}
use Rattle.mw_logic.specs.CanonicalPart as part
use Rattle.mw_logic.specs.Substitution.{Substitution, IsSolution, occurs, value}
use Rattle.mw_logic.specs.Module.{Fragment, Module, Statement, IsStatement, MeetsRow, IsTooBigPair}
use Rattle.mw_logic.specs.Judgements.{IsNormalBy}
use Rattle.mw_logic.proofs.AxiomLaws.{sym as back}
use Rattle.mw_logic.proofs.Canonical.{Each}
use Rattle.mw_logic.proofs.Frozen.{IsOpenContext}
use Rattle.mw_logic.proofs.Soundness.{normal_form-sound}
use Rattle.mw_logic.proofs.RawKept.{raw_kept}
use Rattle.mw_logic.proofs.Inside.{raw_inside, clean_inside}
use Rattle.mw_logic.proofs.PartsOfNormalForm.{part_kept, part_found}
use Rattle.mw_logic.proofs.SolutionLaws.{solution_kept, instance_raw}
use Rattle.mw_logic.specs.Accepted.{IsWellSorted}
use Rattle.mw_deduction.specs.Tops.{IsTop, NothingAtTops, IsNormalTerm}
use Rattle.mw_deduction.specs.Tops as top
use Rattle.mw_deduction.proofs.NormalParts.{form_within, normal_within}
use Rattle.mw_deduction.proofs.ValuesInside.{IsLeaf, value_found}
use Rattle.mw_logic.proofs.Canonical.{canonical}
use Rattle.mw_logic.proofs.CanonicalTerms.{fixed}
use Rattle.mw_logic.specs.Term.{Variable}

each_at : (P : RawTerm → Type 0) (b : RawTerms) (t : RawTerm) (a : RawTerms) → Each P (join b (term.cons t a)) → P t
each_at P term.nil t a h = h.0
each_at P (term.cons x b) t a h = each_at P b t a h.1

module _ (M : Module) (ok : IsAccepted M.signature) (sorted : IsWellSorted M.signature) (F : List Fragment → Substitution → Type 0) where
  -- a part of a flattened term is a top part, or a part of an argument
  abbrev pub InArgument : RawTerm → Type 0
  InArgument w = (t : RawTerm) × IsNormalTerm M F t × IsPartOf M.signature false t w

  pub cases : (f : ℕ) (ts : RawTerms) (v w : RawTerm) → v ≡ apply f ts → Each (IsNormalTerm M F) ts → IsPartOf M.signature false v w → IsTop M.signature (apply f ts) w ⊎ InArgument w
  cases f ts v w e n part.whole = inl (subst (IsTop M.signature (apply f ts)) (sym e) top.whole)
  cases f ts v w e n (part.argument g b t a o p) =
      let h : join b (term.cons t a) ≡ ts = cc in
      inr (t, each_at (IsNormalTerm M F) b t a (subst (Each (IsNormalTerm M F)) (sym h) n), p)
  cases f ts v w e n (part.several {f = g} {ts = xs} {us = us} A o l c) =
      let h : xs ≡ ts = cc in let k : g ≡ f = cc in
      inl (subst (λ x. IsTop M.signature x (apply g us)) (e) (top.several A l c))

  -- the clean form w, whose flattened form stands in a normal argument, is a part of it
  in_argument : (t w : RawTerm) → IsNormalTerm M F t → IsRawTerm M.signature w → IsClean M.signature w → IsPartOf M.signature false t (normal_form M.signature w) → (C : Context) × IsPart M.signature (nested M.signature t) C w
  in_argument t w n r c p =
      let q : IsPartOf M.signature false (normal_form M.signature (nested M.signature t)) (normal_form M.signature w) = subst (λ x. IsPartOf M.signature false x (normal_form M.signature w)) (sym n.canonical) p in
      let (C, o, is) = part_found M.signature ok (normal_form M.signature w) n.raw q in
      (C, form_within M.signature ok C (nested M.signature (normal_form M.signature w)) w n.raw is (record { clean = c; equal = back (normal_form-sound M.signature ok r) }))

  open_always : (C : Context) → IsOpenContext M.signature false C
  open_always C = λ h. absurd (true≢false (sym h))

  pub normal_built : (f : ℕ) (ts : RawTerms) → IsRawTerm M.signature (nested M.signature (apply f ts)) → normal_form M.signature (nested M.signature (apply f ts)) ≡ apply f ts
      → IsAdmitted M.signature (nested M.signature (apply f ts)) → Each (IsNormalTerm M F) ts → NothingAtTops M F (apply f ts) → IsNormalBy M F (nested M.signature (apply f ts))
  normal_built f ts raw canonical admitted n tops = record {
    admitted = admitted;
    no_equation = λ C w p k e is eq s sol. equation C w p k e is eq s sol (at C w p);
    no_row = λ C w p m. row C w p m (at C w p);
    no_pair = λ C w p m. pair C w p m (at C w p);
  }
    where
      sig : Signature
      sig = M.signature

      at : (C : Context) (w : RawTerm) → IsPart M.signature (nested M.signature (apply f ts)) C w → IsTop M.signature (apply f ts) (normal_form M.signature w) ⊎ InArgument (normal_form M.signature w)
      at C w p = cases f ts _ (normal_form M.signature w) canonical n (part_kept M.signature ok C w (open_always C) raw p)

      raw_at : (C : Context) (w : RawTerm) → IsPart M.signature (nested M.signature (apply f ts)) C w → IsRawTerm M.signature w
      raw_at C w p = raw_inside M.signature ok C w ((raw_kept M.signature ok p.equal).0 raw)

      clean_at : (C : Context) (w : RawTerm) → IsPart M.signature (nested M.signature (apply f ts)) C w → IsClean M.signature w
      clean_at C w p = clean_inside M.signature ok C w p.clean

      equation : (C : Context) (w : RawTerm) (p : IsPart M.signature (nested M.signature (apply f ts)) C w) (k : ℕ) (e : Statement) → IsStatement M k e → IsFalse e.rule
          → (s : Substitution) → IsSolution M.signature e.left w [] s → IsTop M.signature (apply f ts) (normal_form M.signature w) ⊎ InArgument (normal_form M.signature w) → F e.fragments s
      equation C w p k e is eq s sol (inl t) = tops.no_equation (normal_form M.signature w) t k e is eq s (solution_kept M.signature ok sorted done (normal_form-sound M.signature ok (raw_at C w p)) sol)
      equation C w p k e is eq s sol (inr (t, nt, q)) = let (D, i) = in_argument t w nt (raw_at C w p) (clean_at C w p) q in nt.normal.no_equation D w i k e is eq s sol

      row : (C : Context) (w : RawTerm) (p : IsPart M.signature (nested M.signature (apply f ts)) C w) → MeetsRow M.signature w → IsTop M.signature (apply f ts) (normal_form M.signature w) ⊎ InArgument (normal_form M.signature w) → ⊥
      row C w p m (inl t) = tops.no_row w (raw_at C w p) (clean_at C w p) t m
      row C w p m (inr (t, nt, q)) = let (D, i) = in_argument t w nt (raw_at C w p) (clean_at C w p) q in nt.normal.no_row D w i m

      pair : (C : Context) (w : RawTerm) (p : IsPart M.signature (nested M.signature (apply f ts)) C w) → IsTooBigPair M.signature w → IsTop M.signature (apply f ts) (normal_form M.signature w) ⊎ InArgument (normal_form M.signature w) → ⊥
      pair C w p m (inl t) = tops.no_pair w (raw_at C w p) (clean_at C w p) t m
      pair C w p m (inr (t, nt, q)) = let (D, i) = in_argument t w nt (raw_at C w p) (clean_at C w p) q in nt.normal.no_pair D w i m

  -- a part of a normal term, as a flattened term, is normal
  pub part_normal : (t w : RawTerm) → IsNormalTerm M F t → normal_form M.signature (nested M.signature w) ≡ w → IsPartOf M.signature false t w → IsNormalTerm M F w
  part_normal t w n k p =
      let q : IsPartOf M.signature false (normal_form M.signature (nested M.signature t)) w = subst (λ x. IsPartOf M.signature false x w) (sym n.canonical) p in
      let (C, o, is) = part_found M.signature ok w n.raw q in
      record { raw = raw_inside M.signature ok C (nested M.signature w) ((raw_kept M.signature ok is.equal).0 n.raw); canonical = k; normal = normal_within M ok F C (nested M.signature w) n.raw n.normal is }

  -- The value of a variable, where the arguments are normal: it is normal, or the whole or several of the arguments, or a leaf (an identity, a numeral).
  pub value_normal : (f : ℕ) (ts : RawTerms) → IsRawTerm M.signature (nested M.signature (apply f ts)) → normal_form M.signature (nested M.signature (apply f ts)) ≡ apply f ts → Each (IsNormalTerm M F) ts
      → (p : RawTerm) (s : Substitution) → IsRawTerm M.signature p → IsSolution M.signature p (nested M.signature (apply f ts)) [] s → (x : Variable) (u : RawTerm) → IsTrue (occurs x p) → value s x ≡ Some u
      → IsNormalTerm M F (normal_form M.signature u) ⊎ (IsTop M.signature (apply f ts) (normal_form M.signature u) ⊎ IsLeaf M.signature (normal_form M.signature u))
  value_normal f ts raw k n p s rp sol x u o h =
      ⊎_elim (λ (found : (C : Context) × IsPart M.signature (nested M.signature (apply f ts)) C (nested M.signature (normal_form M.signature u))).
      let q : IsPartOf M.signature false (normal_form M.signature (nested M.signature (apply f ts))) (normal_form M.signature (nested M.signature (normal_form M.signature u))) = part_kept M.signature ok found.0 _ (open_always found.0) raw found.1 in
      let z : normal_form M.signature (nested M.signature (normal_form M.signature u)) ≡ normal_form M.signature u = fixed M.signature ok (normal_form M.signature u) (canonical M.signature ok u) in
      ⊎_elim (λ t. inr (inl (subst (IsTop M.signature (apply f ts)) z t))) (λ a. inl (part_normal a.0 (normal_form M.signature u) a.1 z (subst (IsPartOf M.signature false a.0) z a.2))) (cases f ts _ _ k n q))
      (λ l. inr (inr l))
      (value_found M.signature ok s p (nested M.signature (apply f ts)) x u raw (instance_raw M.signature ok sorted s sol.substitution rp) sol.matches o h)
