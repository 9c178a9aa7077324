-- A test of two terms that differ, of which one is reducible, meets no row by terms that are not.
use Rattle.std.specs.Prelude.{◌≡◌, ◌≢◌, ◌⊎◌, ℕ, [], Bool, true, false}
use Rattle.std.proofs.Common.{ap, sym, subst, ◌∙◌, ⊎_elim}
use Rattle.mw_logic.specs.Term.{RawTerm, RawTerms, apply, nil, cons, join, binary}
use Rattle.mw_logic.specs.Signature.{IsRawTerm}
use Rattle.mw_logic.specs.Accepted.{IsAccepted}
use Rattle.mw_logic.specs.Axioms.{EqualModulo}
use Rattle.mw_logic.specs.Parts.{is_assoc, nested, IsCleanForm}
use Rattle.mw_logic.specs.NormalForm.{is_comm, arranged, normal_form}
use Rattle.mw_logic.specs.Module.{Module, IsPolymorphic, Row, MeetsRow}
use Rattle.mw_logic.specs.Confluence.{IsReducible, by_equation}
use Rattle.mw_logic.proofs.Canonical.{arranged-twice}
use Rattle.mw_logic.proofs.EqualTerms.{IsPart-equal}
use Rattle.mw_logic.proofs.Invariance.{normal_form-kept}
use Rattle.mw_logic.proofs.Soundness.{normal_form-sound}
use Rattle.mw_verdict.specs.Checks.{IsFormOf}
use Rattle.mw_verdict.specs.Rows.{ReducibleSides}
use Rattle.mw_verdict.proofs.RowKinds.{Kind, test, test_name, Decides, Shape, of_numbers, of_test, of_choice, shape_of, test_kind}
use Rattle.mw_verdict.proofs.OneRow.{same_two, twice, same_operands, elements_in, elements_long, sides_raw, pair_normal, alone, top_kept}

reducible_equal : (M : Module) (n : ℕ) {t u : RawTerm} → EqualModulo M.signature t u → IsReducible M n u → IsReducible M n t
reducible_equal M n e (by_equation C w p k st i r s q es sol h) = by_equation C w (IsPart-equal M.signature e C w p) k st i r s q es sol h
reducible_equal M n e (IsReducible.by_row C w p m) = IsReducible.by_row C w (IsPart-equal M.signature e C w p) m

module _ (M : Module) (ok : IsAccepted M.signature) (n : ℕ) where
  abbrev Firm : RawTerm → Type 0
  Firm v = ¬ IsReducible M n v

  no_row_of_firm : (u w : RawTerm) → Firm u → IsCleanForm M.signature u w → ¬ MeetsRow M.signature w
  no_row_of_firm u w h p m = h (IsReducible.by_row [] w p m)

  firm_sides : {f : ℕ} {a b : RawTerm} {ts : RawTerms} {k : Kind} {x : RawTerm} (t : Bool) → k ≡ test t → a ≢ b → IsReducible M n (nested M.signature a) ⊎ IsReducible M n (nested M.signature b)
      → IsFormOf M.signature (binary f a b) (apply f ts) → Shape M.signature Firm f ts k x → ⊥
  firm_sides t e differ r h (of_numbers p d) = cc
  firm_sides t e differ r h (of_choice l p d) = cc
  firm_sides {f} {a} {b} t e differ r h (of_test {e = i} {u = u} {v = v} answer p d s) = by_answer answer d
    where
      c : Bool
      c = is_comm M.signature f

      m : Bool
      m = is_assoc M.signature f

      listed : arranged c (join (elements_in m f (normal_form M.signature u)) (elements_in m f (normal_form M.signature v))) ≡ cons a (cons b nil)
      listed = same_operands (sym (pair_normal M.signature ok f u v h.raw h.clean) ∙ h.is)

      raw : IsRawTerm M.signature u × IsRawTerm M.signature v
      raw = sides_raw M.signature ok h.raw

      -- the arguments in order are those of the form
      in_order : (zs : RawTerms) → arranged c zs ≡ cons a (cons b nil) → arranged c zs ≡ arranged c (cons a (cons b nil))
      in_order zs q = sym (arranged-twice c zs) ∙ ap (arranged c) q

      of_side : (y : RawTerm) → IsRawTerm M.signature y → (z : RawTerm) → normal_form M.signature y ≡ z → IsReducible M n (nested M.signature z) → IsReducible M n y
      of_side y k z q j = reducible_equal M n (subst (λ z. EqualModulo M.signature y (nested M.signature z)) q (normal_form-sound M.signature ok k)) j

      by_answer : (answer : Bool) → Decides M.signature Firm answer u v → ⊥
      by_answer true d =
          let zs : RawTerms = elements_in m f (normal_form M.signature u) in
          let q : arranged c (join zs zs) ≡ cons a (cons b nil) = ap (λ z. arranged c (join zs (elements_in m f z))) (normal_form-kept M.signature ok d) ∙ listed in
          differ (twice c zs a b (elements_long m f (normal_form M.signature u)) (in_order (join zs zs) q))
      by_answer false d =
          let k = alone M.signature ok Firm no_row_of_firm i f u p raw.0 h.clean.0.0 d.0 in
          let l = alone M.signature ok Firm no_row_of_firm i f v p raw.1 h.clean.0.1.0 d.1 in
          let q : arranged c (cons (normal_form M.signature u) (cons (normal_form M.signature v) nil)) ≡ cons a (cons b nil) =
          sym (ap (λ ys. arranged c (join ys (elements_in m f (normal_form M.signature v)))) k ∙ ap (λ ys. arranged c (cons (normal_form M.signature u) ys)) l) ∙ listed in
          ⊎_elim
          (λ (g : (normal_form M.signature u ≡ a) × (normal_form M.signature v ≡ b)). ⊎_elim (λ j. d.0 (of_side u raw.0 a g.0 j)) (λ j. d.1 (of_side v raw.1 b g.1 j)) r)
          (λ (g : (c ≡ true) × (normal_form M.signature u ≡ b) × (normal_form M.signature v ≡ a)). ⊎_elim (λ j. d.1 (of_side v raw.1 a g.2 j)) (λ j. d.0 (of_side u raw.0 b g.1 j)) r)
          (same_two c (normal_form M.signature u) (normal_form M.signature v) a b (in_order (cons (normal_form M.signature u) (cons (normal_form M.signature v) nil)) q))

  firm_row : {f : ℕ} {a b form result : RawTerm} (t : Bool) → IsPolymorphic M.signature f (test_name t) → a ≢ b → IsReducible M n (nested M.signature a) ⊎ IsReducible M n (nested M.signature b)
      → IsFormOf M.signature (binary f a b) form → ¬ Row M.signature Firm form result
  firm_row {f} {a} {b} {result = x} t p differ r h row =
      let S = shape_of row in
      let e : IsFormOf M.signature (binary f a b) (apply S.operator S.args) = subst (IsFormOf M.signature (binary f a b)) S.is h in
      let (us, k) = top_kept M.signature ok S.operator S.args e.raw e.clean in
      let i : apply S.operator us ≡ binary f a b = sym k ∙ e.is in
      let j : S.operator ≡ f = cc in
      let s : Shape M.signature Firm f S.args S.kind x = subst (λ g. Shape M.signature Firm g S.args S.kind x) j S.shape in
      firm_sides t (test_kind t p s) differ r (subst (λ g. IsFormOf M.signature (binary f a b) (apply g S.args)) j e) s

pub reducible_sides : ReducibleSides
reducible_sides M ok n f a b form x p differ r h =
    ⊎_elim (λ p. firm_row M ok n true p differ r h) (λ p. firm_row M ok n false p differ r h) p
