-- What a proof that carries out a run begins with: the first whole term is the one that it begins at.
use Rattle.std.specs.Prelude.{◌≡◌, ◌+◌, ℕ, suc, ◌∷◌, refl, ⊤}
use Rattle.std.proofs.Common.{sym, subst, ap, ◌∙◌, arith}
use Rattle.mw_logic.specs.Term.{RawTerm, apply, RawTerms, cons, Context, plug, join}
use Rattle.mw_logic.specs.Term as term
use Rattle.mw_logic.specs.Signature.{Signature}
use Rattle.mw_logic.specs.Axioms.{EqualModulo, done}
use Rattle.mw_logic.specs.Proof.{Proof, reflexivity, equality, congruence, transitivity, replacement, row, Proofs, steps, steps_of}
use Rattle.mw_logic.specs.Proof as proof
use Rattle.mw_logic.proofs.AxiomLaws.{trans, in_context}
use Rattle.mw_logic.proofs.SortLaws.{join_assoc}
use Rattle.mw_deduction.specs.Runs.{Done, by_statement, by_row, Dones, none, more, both, Carries, CarriesIn}

-- how many replacements, and the whole term before one
abbrev pub number : Dones → ℕ
number none = 0
number (more d ds) = suc (number ds)

abbrev pub whole_before : Done → RawTerm
whole_before (by_statement k s rs t u) = t
whole_before (by_row t u) = t

number-both : (ds es : Dones) → number (both ds es) ≡ number ds + number es
number-both none es = omega arith
number-both (more d ds) es = let h = number-both ds es in omega (arith, h)

module _ (sig : Signature) where
  -- the first replacement is of t, modulo the axioms
  abbrev pub Starts : RawTerm → Dones → Type 0
  Starts t none = ⊤
  Starts t (more d ds) = EqualModulo sig t (whole_before d)

  starts_equal : (t u : RawTerm) (ds : Dones) → EqualModulo sig t u → Starts u ds → Starts t ds
  starts_equal t u none e h = tt
  starts_equal t u (more d ds) e h = trans e h

  starts_both : (t u : RawTerm) (ds es : Dones) → Starts t ds → (ds ≡ none → EqualModulo sig t u) → Starts u es → Starts t (both ds es)
  starts_both t u none es h e k = starts_equal t u es (e refl) k
  starts_both t u (more d ds) es h e k = h

  none_first : (ds es : Dones) → none ≡ both ds es → ds ≡ none
  none_first none es e = refl
  none_first (more d ds) es e = cc

  none_second : (ds es : Dones) → none ≡ both ds es → es ≡ none
  none_second none es e = sym e
  none_second (more d ds) es e = cc

  -- so it is of a proof from x, a whole term, to y; where it carries out nothing these are equal
  pub record Begins (x y : RawTerm) (ds : Dones) (n : ℕ) : Type 0 where
    pub starts : Starts x ds
    pub nothing : ds ≡ none → EqualModulo sig x y
    pub size : number ds ≡ n

  begins_both : (x y z : RawTerm) (ds es all : Dones) (m n : ℕ) → all ≡ both ds es → Begins x y ds m → Begins y z es n → Begins x z all (m + n)
  begins_both x y z ds es all m n e h k = record {
    starts = subst (Starts x) (sym e) (starts_both x y ds es h.starts h.nothing k.starts);
    nothing = λ q. let w : none ≡ both ds es = sym q ∙ e in trans (h.nothing (none_first ds es w)) (k.nothing (none_second ds es w));
    size = let a = h.size in let b = k.size in ap number e ∙ number-both ds es ∙ (omega (arith, a, b));
  }

  mutual
    pub carries_begins : (C : Context) (p : Proof) (t u : RawTerm) (ds : Dones) → Carries sig C p t u ds → Begins (plug C t) (plug C u) ds (steps p)
    carries_begins C reflexivity t u ds (a, b) = record { starts = subst (Starts (plug C t)) (sym b) tt; nothing = λ q. subst (λ x. EqualModulo sig (plug C t) (plug C x)) a done; size = ap number b }
    carries_begins C equality t u ds (a, b) = record { starts = subst (Starts (plug C t)) (sym b) tt; nothing = λ q. in_context C a; size = ap number b }
    carries_begins C (congruence ps) t u ds (f, ts, us, a, b, c) =
        let h : Begins (plug C (apply f ts)) (plug C (apply f us)) ds (steps_of ps) = carries_begins_in C f term.nil ps ts us ds c in
        subst (λ x. Begins (plug C x) (plug C u) ds (steps_of ps)) (sym a) (subst (λ y. Begins (plug C (apply f ts)) (plug C y) ds (steps_of ps)) (sym b) h)
    carries_begins C (transitivity p q) t u ds (m, d, e, is, a, b) = begins_both (plug C t) (plug C m) (plug C u) d e ds (steps p) (steps q) is (carries_begins C p t m d a) (carries_begins C q m u e b)
    carries_begins C (replacement k r s es) t u ds (rs, is, c) = record { starts = subst (Starts (plug C t)) (sym is) done; nothing = λ q. let w : none ≡ more (by_statement k s rs (plug C t) (plug C u)) none = sym q ∙ is in cc; size = ap number is }
    carries_begins C row t u ds is = record { starts = subst (Starts (plug C t)) (sym is) done; nothing = λ q. let w : none ≡ more (by_row (plug C t) (plug C u)) none = sym q ∙ is in cc; size = ap number is }

    carries_begins_in : (C : Context) (f : ℕ) (before : RawTerms) (ps : Proofs) (ts us : RawTerms) (ds : Dones) → CarriesIn sig C f before ps ts us ds
        → Begins (plug C (apply f (join before ts))) (plug C (apply f (join before us))) ds (steps_of ps)
    carries_begins_in C f before proof.nil ts us ds (a, b, c) =
        record { starts = subst (Starts (plug C (apply f (join before ts)))) (sym c) tt; nothing = λ q. subst (λ x. EqualModulo sig (plug C (apply f (join before ts))) (plug C (apply f (join before x)))) (a ∙ sym b) done; size = ap number c }
    carries_begins_in C f before (proof.cons p ps) ts us ds (t, u, ts', us', d, e, a, b, is, c, others) =
        let first : Begins (plug C (apply f (join before (cons t ts')))) (plug C (apply f (join before (cons u ts')))) d (steps p) = carries_begins (record { operator = f; before = before; after = ts' } ∷ C) p t u d c in
        let rest : Begins (plug C (apply f (join (join before (cons u term.nil)) ts'))) (plug C (apply f (join (join before (cons u term.nil)) us'))) e (steps_of ps) = carries_begins_in C f (join before (cons u term.nil)) ps ts' us' e others in
        let next : Begins (plug C (apply f (join before (cons u ts')))) (plug C (apply f (join before (cons u us')))) e (steps_of ps) =
        subst (λ x. Begins (plug C (apply f x)) (plug C (apply f (join before (cons u us')))) e (steps_of ps)) (join_assoc before (cons u term.nil) ts')
        (subst (λ y. Begins (plug C (apply f (join (join before (cons u term.nil)) ts'))) (plug C (apply f y)) e (steps_of ps)) (join_assoc before (cons u term.nil) us') rest) in
        let all = begins_both _ _ _ d e ds (steps p) (steps_of ps) is first next in
        subst (λ x. Begins (plug C (apply f (join before x))) (plug C (apply f (join before us))) ds (steps p + steps_of ps)) (sym a)
        (subst (λ y. Begins (plug C (apply f (join before (cons t ts')))) (plug C (apply f (join before y))) ds (steps p + steps_of ps)) (sym b) all)
