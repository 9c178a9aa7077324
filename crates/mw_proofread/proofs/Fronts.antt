-- A list of tokens begins with one line at most.
use Rattle.std.proofs.Common.{◌≡◌, ◌≢◌, ◌∙◌, ℕ, List, [], ◌∷◌, ◌++◌, get_or, true, false, Option, Some, None, refl, ap, sym, arith, append_assoc}
use Rattle.std.specs.Prelude.{codes}
use Rattle.mw_logic.specs.Term.{RawTerm}
use Rattle.mw_logic.specs.Signature.{Signature}
use Rattle.mw_logic.specs.Module.{Module}
use Rattle.mw_print.proofs.PrefixTold.{prefix_told}
use Rattle.mw_items.specs.Items.{Spot}
use Rattle.mw_proofread.specs.Numbers.{number_text}
use Rattle.mw_proofread.specs.TokenTexts.{numbers_tokens, take_tokens, spot_tokens, form_tokens, values_tokens, with_tokens}
use Rattle.mw_proofread.specs.Reading.{AreWritten}
use Rattle.mw_proofread.specs.Parts.{is_low, NoNumber, NotFirst, EndsLine, EndsSpot, Line, by_statement, by_row, line_tokens, IsLine}
use Rattle.mw_proofread.proofs.Digits.{number_low, number_one}
use Rattle.mw_proofread.proofs.Low.{form_low, low_one, numbers_one, high_no_number, ends_other, ends_spot}

pub first_is : {x y : List ℕ} {xs ys : List (List ℕ)} → x ∷ xs ≡ y ∷ ys → x ≡ y
first_is e = cc

pub rest_is : {x y : List ℕ} {xs ys : List (List ℕ)} → x ∷ xs ≡ y ∷ ys → xs ≡ ys
rest_is e = cc

pub not_first : (w : List ℕ) (ws vs : List (List ℕ)) → NotFirst w ws → ws ≡ w ∷ vs → ⊥
not_first w [] vs h e = cc
not_first w (v ∷ ws) vs h e = h (first_is e)

-- what is taken, where what stands behind is known: of one side only where nothing is taken
pub take_one : (a b : Option (List ℕ)) (r s : List (List ℕ)) → NoNumber r → (a ≡ None → NotFirst (codes "take") r) → EndsSpot s → take_tokens a ++ r ≡ take_tokens b ++ s → (a ≡ b) × (r ≡ s)
take_one None None r s h n k e = (refl, e)
take_one None (Some ns) r s h n k e = absurd (not_first (codes "take") r (numbers_tokens ns ++ s) (n refl) e)
take_one (Some ms) None r s h n k e = absurd (not_first (codes "take") s (numbers_tokens ms ++ r) k.1 (sym e))
take_one (Some ms) (Some ns) r s h n k e = let (i, j) = numbers_one ms ns r s h k.0 (rest_is e) in (ap Some i, j)

pub take_no_number : (a : Option (List ℕ)) (r : List (List ℕ)) → NoNumber r → NoNumber (take_tokens a ++ r)
take_no_number None r h = h
take_no_number (Some ns) r h = high_no_number (codes "take" ∷ (numbers_tokens ns ++ r)) refl

pub spot_apart : (s : Spot) (r : List (List ℕ)) → spot_tokens s ++ r ≡ codes "at" ∷ (numbers_tokens s.path ++ (take_tokens s.take ++ r))
spot_apart s r = ap (λ z. codes "at" ∷ z) (append_assoc (numbers_tokens s.path) (take_tokens s.take) r)

pub spot_one : (a b : Spot) (r s : List (List ℕ)) → NoNumber r → (a.take ≡ None → NotFirst (codes "take") r) → EndsSpot s → spot_tokens a ++ r ≡ spot_tokens b ++ s → (a ≡ b) × (r ≡ s)
spot_one a b r s h n k e =
    let same = rest_is (sym (spot_apart a r) ∙ e ∙ spot_apart b s) in
    let (i, j) = numbers_one a.path b.path (take_tokens a.take ++ r) (take_tokens b.take ++ s) (take_no_number a.take r h) (take_no_number b.take s k.0) same in
    let (l, m) = take_one a.take b.take r s h n k j in
    ((λ x. record { path = i x; take = l x }), m)

module _ (sig : Signature) where
  pub value_apart : (t : RawTerm) (ts : List RawTerm) (r : List (List ℕ)) → values_tokens sig (t ∷ ts) ++ r ≡ codes "[" ∷ (form_tokens sig t ++ (codes "]" ∷ (values_tokens sig ts ++ r)))
  value_apart t ts r = ap (λ z. codes "[" ∷ z) (append_assoc (form_tokens sig t) (codes "]" ∷ values_tokens sig ts) r)

  pub values_one : (ts us : List RawTerm) (r s : List (List ℕ)) → AreWritten sig ts → AreWritten sig us → NotFirst (codes "[") r → NotFirst (codes "[") s → values_tokens sig ts ++ r ≡ values_tokens sig us ++ s → (ts ≡ us) × (r ≡ s)
  values_one [] [] r s a b h k e = (refl, e)
  values_one [] (u ∷ us) r s a b h k e = absurd (not_first (codes "[") r _ h (e ∙ value_apart u us s))
  values_one (t ∷ ts) [] r s a b h k e = absurd (not_first (codes "[") s _ k (sym e ∙ value_apart t ts r))
  values_one (t ∷ ts) (u ∷ us) r s a b h k e =
      let same = rest_is (sym (value_apart t ts r) ∙ e ∙ value_apart u us s) in
      let (i, j) = low_one (form_tokens sig t) (form_tokens sig u) (codes "]" ∷ (values_tokens sig ts ++ r)) (codes "]" ∷ (values_tokens sig us ++ s)) (form_low sig t a.0.told) (form_low sig u b.0.told) refl refl same in
      let (m, n) = values_one ts us r s a.1 b.1 h k (rest_is j) in
      let p : t ≡ u = prefix_told sig t u a.0.told b.0.told i in
      ((λ x. p x ∷ m x), n)

  pub with_one : (ts us : List RawTerm) (r s : List (List ℕ)) → AreWritten sig ts → AreWritten sig us → (ts ≢ [] → NotFirst (codes "[") r) → (ts ≡ [] → NotFirst (codes "with") r) → EndsLine s
      → with_tokens sig ts ++ r ≡ with_tokens sig us ++ s → (ts ≡ us) × (r ≡ s)
  with_one [] [] r s a b h n k e = (refl, e)
  with_one [] (u ∷ us) r s a b h n k e = absurd (not_first (codes "with") r _ (n refl) e)
  with_one (t ∷ ts) [] r s a b h n k e = absurd (not_first (codes "with") s _ (ends_other (codes "with") refl s k) (sym e))
  with_one (t ∷ ts) (u ∷ us) r s a b h n k e = values_one (t ∷ ts) (u ∷ us) r s a b (h (λ i. cc)) (ends_other (codes "[") refl s k) (rest_is e)

  -- what stands behind a place
  pub with_ends_spot : (ts : List RawTerm) (s : List (List ℕ)) → EndsLine s → EndsSpot (with_tokens sig ts ++ s)
  with_ends_spot [] s h = ends_spot s h
  with_ends_spot (t ∷ ts) s h = (high_no_number (codes "with" ∷ (values_tokens sig (t ∷ ts) ++ s)) refl, (λ e. let h : 119 ≡ 116 = ap (λ z. get_or z 0 0) e in absurd (omega (arith, h))))

  -- the parts of a line
  pub statement_apart : (k : ℕ) (s : Spot) (vs : List RawTerm) (r : List (List ℕ)) → line_tokens sig (by_statement k s vs) ++ r ≡ codes "step" ∷ number_text k ∷ (spot_tokens s ++ (with_tokens sig vs ++ r))
  statement_apart k s vs r = ap (λ z. codes "step" ∷ number_text k ∷ z) (append_assoc (spot_tokens s) (with_tokens sig vs) r)

pub not_built : (k : ℕ) → number_text k ≢ codes "built"
not_built k e = let h : false ≡ true = sym (ap is_low e) ∙ number_low k in cc

module _ (M : Module) where
  pub line_one : (l m : Line) (r s : List (List ℕ)) → IsLine M l → IsLine M m → EndsLine r → EndsLine s → line_tokens M.signature l ++ r ≡ line_tokens M.signature m ++ s → (l ≡ m) × (r ≡ s)
  line_one (by_row a) (by_row b) r s f g h k e =
      let (i, j) = spot_one a b r s (ends_spot r h).0 (λ n. (ends_spot r h).1) (ends_spot s k) (rest_is (rest_is e)) in
      (ap by_row i, j)
  line_one (by_row a) (by_statement j b us) r s f g h k e = absurd (not_built j (sym (first_is (rest_is e))))
  line_one (by_statement i a ts) (by_row b) r s f g h k e = absurd (not_built i (first_is (rest_is e)))
  line_one (by_statement i a ts) (by_statement j b us) r s f g h k e =
      let same = rest_is (sym (statement_apart M.signature i a ts r) ∙ e ∙ statement_apart M.signature j b us s) in
      let number : i ≡ j = number_one i j (first_is same) in
      let ends = with_ends_spot M.signature ts r h in
      let (spot, behind) = spot_one a b (with_tokens M.signature ts ++ r) (with_tokens M.signature us ++ s) ends.0 (λ n. ends.1) (with_ends_spot M.signature us s k) (rest_is same) in
      let (c, d) = with_one M.signature ts us r s f.1 g.1 (λ n. ends_other (codes "[") refl r h) (λ n. ends_other (codes "with") refl r h) k behind in
      ((λ x. by_statement (number x) (spot x) (c x)), d)
