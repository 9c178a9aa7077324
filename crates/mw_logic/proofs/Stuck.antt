-- Where nothing can be replaced in the terms of a kind that equality keeps, a proof leads to equal terms only.
use Rattle.std.specs.Prelude.{◌≡◌, ℕ, List, ◌∷◌, Bool, false}
use Rattle.std.proofs.Common.{subst, sym}
use Rattle.mw_logic.specs.Term.{RawTerm, apply, RawTerms, cons, join, Context, plug, Frame}
use Rattle.mw_logic.specs.Term as term
use Rattle.mw_logic.specs.Axioms.{EqualModulo, done}
use Rattle.mw_logic.specs.Substitution.{Substitution}
use Rattle.mw_logic.specs.Module.{Module, Fragment, Row}
use Rattle.mw_logic.specs.Parts.{IsClean}
use Rattle.mw_logic.specs.Proof.{Proof, reflexivity, equality, congruence, transitivity, replacement, row, Proofs}
use Rattle.mw_logic.specs.Proof as proof
use Rattle.mw_logic.specs.Judgements.{StepTest, Replaces, Leads, LeadsIn, IsNormalBy}
use Rattle.mw_logic.proofs.AxiomLaws.{trans, under, in_context}
use Rattle.mw_logic.proofs.SortLaws.{join_assoc}

module _ (M : Module) (Step : StepTest) (H : List Fragment → Substitution → Proofs → Substitution → Type 0) (F : List Fragment → Substitution → Type 0)
    (Q : RawTerm → Type 0) (kept : (t u : RawTerm) → EqualModulo M.signature t u → Q t → Q u)
    (no_statement : (k : ℕ) (by_rule : Bool) (s : Substitution) (es : Proofs) (t w v u : RawTerm) → Q t → Replaces M H F k by_rule s es w v → Step by_rule t w v u → ⊥)
    (no_row : (t w v u : RawTerm) → Q t → Row M.signature (IsNormalBy M F) w v → IsClean M.signature w → Step false t w v u → ⊥) where
  mutual
    pub led_to_equal : (p : Proof) (C : Context) (t u : RawTerm) → Q (plug C t) → Leads M Step H F C p t u → EqualModulo M.signature t u
    led_to_equal reflexivity C t u q l = subst (λ u. EqualModulo M.signature t u) l done
    led_to_equal equality C t u q l = l
    led_to_equal (transitivity p₁ p₂) C t u q (m, a, b) =
        let e : EqualModulo M.signature t m = led_to_equal p₁ C t m q a in trans e (led_to_equal p₂ C m u (kept _ _ (in_context C e) q) b)
    led_to_equal (congruence ps) C t u q (f, ts, us, a, b, l) =
        subst (λ t. EqualModulo M.signature t u) (sym a) (subst (λ u. EqualModulo M.signature (apply f ts) u) (sym b) (arguments_led ps C f term.nil ts us (subst (λ t. Q (plug C t)) a q) l))
    led_to_equal (replacement k by_rule s es) C t u q (x, step) = absurd (no_statement k by_rule s es (plug C t) t u (plug C u) q x step)
    led_to_equal row C t u q (x, c, step) = absurd (no_row (plug C t) t u (plug C u) q x c step)

    arguments_led : (ps : Proofs) (C : Context) (f : ℕ) (finished ts us : RawTerms) → Q (plug C (apply f (join finished ts))) → LeadsIn M Step H F C f finished ps ts us →
        EqualModulo M.signature (apply f (join finished ts)) (apply f (join finished us))
    arguments_led proof.nil C f finished ts us q (a, b) = subst (λ us. EqualModulo M.signature (apply f (join finished ts)) (apply f (join finished us))) (sym b) (subst (λ ts. EqualModulo M.signature (apply f (join finished ts)) (apply f (join finished term.nil))) (sym a) done)
    arguments_led (proof.cons p ps) C f finished ts us q (t, u, ts', us', a, b, l, more) =
        let here : Q (plug C (apply f (join finished (cons t ts')))) = subst (λ ts. Q (plug C (apply f (join finished ts)))) a q in
        let e : EqualModulo M.signature t u = led_to_equal p (record { operator = f; before = finished; after = ts' } ∷ C) t u here l in
        let g : EqualModulo M.signature (apply f (join finished (cons t ts'))) (apply f (join finished (cons u ts'))) = under f finished ts' e in
        let moved : (xs : RawTerms) → join (join finished (cons u term.nil)) xs ≡ join finished (cons u xs) = λ xs. join_assoc finished (cons u term.nil) xs in
        let next : Q (plug C (apply f (join (join finished (cons u term.nil)) ts'))) = subst (λ xs. Q (plug C (apply f xs))) (sym (moved ts')) (kept _ _ (in_context C g) here) in
        let rest : EqualModulo M.signature (apply f (join (join finished (cons u term.nil)) ts')) (apply f (join (join finished (cons u term.nil)) us')) = arguments_led ps C f (join finished (cons u term.nil)) ts' us' next more in
        let rest' : EqualModulo M.signature (apply f (join finished (cons u ts'))) (apply f (join finished (cons u us'))) =
        subst (λ xs. EqualModulo M.signature (apply f xs) (apply f (join finished (cons u us')))) (moved ts') (subst (λ xs. EqualModulo M.signature (apply f (join (join finished (cons u term.nil)) ts')) (apply f xs)) (moved us') rest) in
        subst (λ ts. EqualModulo M.signature (apply f (join finished ts)) (apply f (join finished us))) (sym a) (subst (λ us. EqualModulo M.signature (apply f (join finished (cons t ts'))) (apply f (join finished us))) (sym b) (trans g rest'))
