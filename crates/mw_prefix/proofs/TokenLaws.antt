-- What tokens say in a form, and that they are known by it.
use Rattle.std.specs.Prelude.{◌≡◌, ◌<◌, ◌≤◌, ◌+◌, ◌^◌, ◌==◌, ◌&&◌, ℕ, suc, List, [], ◌∷◌, ◌++◌, length, take, drop, Bool, true, false, not, cond, nat_lt, position, codes, Option, Some, None, if◌then◌else◌, IsTrue, ⊤, refl}
use Rattle.std.proofs.Common.{inl, inr, sym, ap, subst, ◌∙◌, arith, length-append, append-nil}
use Rattle.std.proofs.Math.Seq.{take-append_seam, drop-append-add}
use Rattle.std.specs.List.{prefix_len}
use Rattle.std.specs.Fmt.{decimal}
use Rattle.std.specs.Str.{bytes_eq}
use Rattle.std.proofs.lemmas.Bool.{lt-ltb, le-ltb, ltb-true, eqb-true, eq-eqb, ne_eqb, and_from, and_parts}
use Rattle.std.proofs.lemmas.Slice.Eq.{bytes_eq-Decides}
use Rattle.mw_lex.specs.Texts.{IsProper}
use Rattle.mw_lex.specs.Pieces.{run_len}
use Rattle.mw_lex.proofs.Comments.{no_comment}
use Rattle.mw_logic.specs.Term.{RawTerm, numeral, quoted, variable, apply}
use Rattle.mw_logic.specs.Signature.{Signature, Operator, at_number, IsOperator}
use Rattle.mw_text.specs.Mixfix.{IsIdentifier}
use Rattle.mw_print.specs.Prefix.{spelling_at, numbered as numbered_token}
use Rattle.mw_print.proofs.Digits.{AreDigits, AreSome, decimal_digits}
use Rattle.mw_print.proofs.PrefixWords.{numbered_is}
use Rattle.mw_prefix.specs.Words.{Word, opening, closing, comma, leaf, numbered, other, plain_number, as_numeral, numeral_word, spelled, as_operator, operator_word, number_at, number_word, identifier_word, word_of}
use Rattle.mw_prefix.proofs.PlainNumbers.{plain_decimal, plain_is_decimal}

-- it is the `@`
abbrev is_mark : ℕ → Bool
is_mark b = b == 64

no_mark : (b : ℕ) → (48 ≤ b) × (b ≤ 57) → is_mark b ≡ false
no_mark b d = ne_eqb b 64 (λ e. absurd (omega (arith, d.1, e)))

-- digits go up to the first `@`, or to the end
digits_before : (ds s : List ℕ) → AreDigits ds → prefix_len (λ b. not (is_mark b)) (ds ++ 64 ∷ s) ≡ length ds
digits_before [] s d = refl
digits_before (b ∷ ds) s d = rw (no_mark b d.0) (omega (arith, digits_before ds s d.1))

digits_alone : (ds : List ℕ) → AreDigits ds → prefix_len (λ b. not (is_mark b)) ds ≡ length ds
digits_alone [] d = refl
digits_alone (b ∷ ds) d = rw (no_mark b d.0) (omega (arith, digits_alone ds d.1))

marked : (ds s : List ℕ) → AreDigits ds → position is_mark (ds ++ 64 ∷ s) ≡ Some (length ds)
marked ds s d =
    let l = length-append ds (64 ∷ s) in
    rw (digits_before ds s d, lt-ltb (length ds) (length (ds ++ 64 ∷ s)) (omega (arith, l))) refl

unmarked : (ds : List ℕ) → AreDigits ds → position is_mark ds ≡ None
unmarked ds d = rw (digits_alone ds d, le-ltb (length ds) (length ds) (omega arith)) refl

-- how many bytes come before the first `@`
abbrev before_mark : List ℕ → ℕ
before_mark x = prefix_len (λ b. not (is_mark b)) x

-- what is cut at a mark, put together
abbrev IsCut : List ℕ → ℕ → Type 0
IsCut x i = x ≡ take i x ++ 64 ∷ drop (i + 1) x

one_before : (b : ℕ) (x : List ℕ) (k m n : ℕ) → m ≡ suc k → n ≡ suc (k + 1) → IsCut x k → b ∷ x ≡ take m (b ∷ x) ++ 64 ∷ drop n (b ∷ x)
one_before b x k m n e f h = rw (e, f) (ap (λ y. b ∷ y) h)

cut_here : (x : List ℕ) → before_mark x < length x → IsCut x (before_mark x)
cut_here [] h = absurd (omega arith)
cut_here (b ∷ x) h = of (is_mark b) refl (cut_here x) h
  where
    of : (t : Bool) → is_mark b ≡ t → (before_mark x < length x → IsCut x (before_mark x)) → cond (not t) (1 + before_mark x) 0 < length (b ∷ x) → IsCut (b ∷ x) (cond (not t) (1 + before_mark x) 0)
    of true e rest h = ap (λ a. a ∷ x) (eqb-true b 64 e)
    of false e rest h = one_before b x (before_mark x) (1 + before_mark x) (1 + before_mark x + 1) (omega arith) (omega arith) (rest (omega arith))

cut_at : (x : List ℕ) (i : ℕ) → position is_mark x ≡ Some i → IsCut x i
cut_at x i e = of (nat_lt (before_mark x) (length x)) refl e
  where
    of : (t : Bool) → nat_lt (before_mark x) (length x) ≡ t → cond t (Some (before_mark x)) None ≡ Some i → IsCut x i
    of true h f = let same : before_mark x ≡ i = cc in subst (IsCut x) same (cut_here x (ltb-true _ _ h))
    of false h f = cc

some_digits : (ds : List ℕ) → AreSome ds → AreDigits ds
some_digits [] d = absurd d
some_digits (b ∷ ds) d = d

-- a token that begins with a digit
begins : (sig : Signature) (ds s : List ℕ) → AreSome ds → word_of sig (ds ++ s) ≡ number_word sig (ds ++ s)
begins sig [] s d = absurd d
begins sig (b ∷ []) [] d = rw (ne_eqb b 40 (λ e. absurd (omega (arith, d.0.0, e))), ne_eqb b 41 (λ e. absurd (omega (arith, d.0.0, e))), ne_eqb b 44 (λ e. absurd (omega (arith, d.0.0, e)))) refl
begins sig (b ∷ []) (c ∷ s) d = rw (ne_eqb b 39 (λ e. absurd (omega (arith, d.0.0, e)))) refl
begins sig (b ∷ c ∷ ds) s d = rw (ne_eqb b 39 (λ e. absurd (omega (arith, d.0.0, e)))) refl

module _ (sig : Signature) where
  -- What is written is read.
  pub numeral_said : (n : ℕ) → IsTrue sig.nat → n < 2 ^ 128 → word_of sig (decimal n) ≡ leaf (numeral n)
  numeral_said n b h =
      let d = decimal_digits n h in
      let e = append-nil (decimal n) in
      ap (word_of sig) (sym e) ∙ begins sig (decimal n) [] d ∙ ap (number_word sig) e ∙ ap (number_at sig (decimal n)) (unmarked (decimal n) (some_digits (decimal n) d)) ∙ rw (b, plain_decimal n h) refl

  identifier_by : (q : List ℕ) (t : Bool) → (sig.qid && run_len q == length q) ≡ t → identifier_word sig q ≡ cond t (leaf (quoted q)) other
  identifier_by q t e = ap (λ t. cond t (leaf (quoted q)) other) e

  pub quoted_said : (q : List ℕ) → IsTrue sig.qid → IsIdentifier q → IsProper q → word_of sig q ≡ leaf (quoted q)
  quoted_said [] b i p = absurd i
  quoted_said (a ∷ []) b i p = absurd i
  quoted_said (a ∷ c ∷ q) b i (inl m) = absurd m
  quoted_said (a ∷ c ∷ q) b i (inr r) =
      ap (λ t. if t then identifier_word sig (a ∷ c ∷ q) else number_word sig (a ∷ c ∷ q)) (eq-eqb a 39 i)
      ∙ identifier_by (a ∷ c ∷ q) true (and_from sig.qid (run_len (a ∷ c ∷ q) == length (a ∷ c ∷ q)) b (eq-eqb (run_len (a ∷ c ∷ q)) (length (a ∷ c ∷ q)) r.0))

  named : (f : ℕ) (o : Operator) → IsOperator sig f o → spelled f (spelling_at sig f) (at_number sig.operators f) ≡ numbered f
  named f o is =
      let same : o.spelling ≡ spelling_at sig f = rw is refl in
      ap (spelled f (spelling_at sig f)) is ∙ rw ((bytes_eq-Decides o.spelling (spelling_at sig f)).1 same) refl

  pub operator_said : (f : ℕ) (o : Operator) → IsOperator sig f o → f < 2 ^ 128 → word_of sig (numbered_token sig f) ≡ numbered f
  operator_said f o is h =
      let d = decimal_digits f h in
      let s : List ℕ = spelling_at sig f in
      let x : List ℕ = decimal f ++ 64 ∷ s in
      let front : take (length (decimal f)) x ≡ decimal f = take-append_seam (decimal f) (64 ∷ s) in
      let back : drop (length (decimal f) + 1) x ≡ s = drop-append-add (decimal f) (64 ∷ s) 1 in
      ap (word_of sig) (numbered_is sig f) ∙ begins sig (decimal f) (64 ∷ s) d ∙ ap (number_at sig x) (marked (decimal f) s (some_digits (decimal f) d))
      ∙ ap (λ ds. operator_word sig ds (drop (length (decimal f) + 1) x)) front ∙ ap (operator_word sig (decimal f)) back ∙ ap (as_operator sig s) (plain_decimal f h) ∙ named f o is

  -- What a token says is written by it.
  abbrev pub IsLeaf : List ℕ → RawTerm → Type 0
  IsLeaf x (numeral n) = (x ≡ decimal n) × IsTrue sig.nat × (n < 2 ^ 128)
  IsLeaf x (quoted q) = (x ≡ q) × IsTrue sig.qid × IsIdentifier q × IsProper q
  IsLeaf x (variable y) = ⊥
  IsLeaf x (apply f ts) = ⊥

  abbrev pub Means : List ℕ → Word → Type 0
  Means x opening = x ≡ codes "("
  Means x closing = x ≡ codes ")"
  Means x comma = x ≡ codes ","
  Means x (leaf t) = IsLeaf x t
  Means x (numbered f) = (x ≡ numbered_token sig f) × (f < 2 ^ 128)
  Means x other = ⊤

  numeral_means : (x : List ℕ) → Means x (numeral_word sig x)
  numeral_means x = of sig.nat refl (plain_number x) refl
    where
      of : (b : Bool) → sig.nat ≡ b → (o : Option ℕ) → plain_number x ≡ o → Means x (if b then as_numeral o else other)
      of true h None e = tt
      of true h (Some n) e = let p = plain_is_decimal x n e in (p.0, h, p.1)
      of false h o e = tt

  operator_means : (x digits spelling : List ℕ) → x ≡ digits ++ 64 ∷ spelling → Means x (operator_word sig digits spelling)
  operator_means x digits spelling is = of (plain_number digits) refl
    where
      by_spelling : (f : ℕ) → (digits ≡ decimal f) × (f < 2 ^ 128) → (o : Operator) → at_number sig.operators f ≡ Some o → (t : Bool) → bytes_eq o.spelling spelling ≡ t → Means x (if t then numbered f else other)
      by_spelling f p o a false e = tt
      by_spelling f p o a true e =
          let same : spelling ≡ spelling_at sig f = sym ((bytes_eq-Decides o.spelling spelling).0 e) ∙ rw a refl in
          (is ∙ ap (λ ds. ds ++ 64 ∷ spelling) p.0 ∙ ap (λ s. decimal f ++ 64 ∷ s) same ∙ sym (numbered_is sig f), p.1)

      by_operator : (f : ℕ) → (digits ≡ decimal f) × (f < 2 ^ 128) → (o : Option Operator) → at_number sig.operators f ≡ o → Means x (spelled f spelling o)
      by_operator f p None a = tt
      by_operator f p (Some o) a = by_spelling f p o a (bytes_eq o.spelling spelling) refl

      of : (o : Option ℕ) → plain_number digits ≡ o → Means x (as_operator sig spelling o)
      of None e = tt
      of (Some f) e = by_operator f (plain_is_decimal digits f e) (at_number sig.operators f) refl

  number_means : (x : List ℕ) → Means x (number_word sig x)
  number_means x = of (position is_mark x) refl
    where
      of : (o : Option ℕ) → position is_mark x ≡ o → Means x (number_at sig x o)
      of None e = numeral_means x
      of (Some i) e = operator_means x (take i x) (drop (i + 1) x) (cut_at x i e)

  identifier_means : (b c : ℕ) (x : List ℕ) → b ≡ 39 → Means (b ∷ c ∷ x) (identifier_word sig (b ∷ c ∷ x))
  identifier_means b c x e = of (sig.qid && run_len (b ∷ c ∷ x) == length (b ∷ c ∷ x)) refl
    where
      of : (t : Bool) → (sig.qid && run_len (b ∷ c ∷ x) == length (b ∷ c ∷ x)) ≡ t → Means (b ∷ c ∷ x) (cond t (leaf (quoted (b ∷ c ∷ x))) other)
      of false h = tt
      of true h =
          let p = and_parts sig.qid (run_len (b ∷ c ∷ x) == length (b ∷ c ∷ x)) h in
          let run : run_len (b ∷ c ∷ x) ≡ length (b ∷ c ∷ x) = eqb-true (run_len (b ∷ c ∷ x)) (length (b ∷ c ∷ x)) p.1 in
          (refl, p.0, e, inr (run, (λ k. absurd (omega (arith, e, k))), no_comment b (ne_eqb b 42 (λ k. absurd (omega (arith, e, k)))) (ne_eqb b 45 (λ k. absurd (omega (arith, e, k)))) (c ∷ x)))

  pub word_means : (x : List ℕ) → Means x (word_of sig x)
  word_means [] = tt
  word_means (b ∷ []) = of (b == 40) refl (b == 41) refl (b == 44) refl
    where
      one : (a : ℕ) → (b == a) ≡ true → b ∷ [] ≡ a ∷ []
      one a e = ap (λ c. c ∷ []) (eqb-true b a e)

      of : (t : Bool) → (b == 40) ≡ t → (u : Bool) → (b == 41) ≡ u → (v : Bool) → (b == 44) ≡ v → Means (b ∷ []) (if t then opening else if u then closing else if v then comma else number_word sig (b ∷ []))
      of true e u f v g = one 40 e
      of false e true f v g = one 41 f
      of false e false f true g = one 44 g
      of false e false f false g = number_means (b ∷ [])
  word_means (b ∷ c ∷ x) = of (b == 39) refl
    where
      of : (t : Bool) → (b == 39) ≡ t → Means (b ∷ c ∷ x) (if t then identifier_word sig (b ∷ c ∷ x) else number_word sig (b ∷ c ∷ x))
      of true e = identifier_means b c x (eqb-true b 39 e)
      of false e = number_means (b ∷ c ∷ x)
