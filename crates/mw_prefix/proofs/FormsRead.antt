-- What is a form is read.
use Rattle.std.specs.Prelude.{◌≡◌, ℕ, suc, ◌+◌, ◌<◌, ◌≤◌, ◌^◌, List, [], ◌∷◌, ◌++◌, length, codes, true, Option, Some, option_and_then, ⊤, refl}
use Rattle.std.proofs.Common.{ap, sym, ◌∙◌, arith, append_assoc, append-nil}
use Rattle.std.proofs.lemmas.Bool.{lt-ltb}
use Rattle.std.specs.Fmt.{decimal}
use Rattle.mw_logic.specs.Term.{RawTerm, numeral, quoted, variable, apply, RawTerms, nil, cons, join}
use Rattle.mw_logic.specs.Signature.{Signature}
use Rattle.mw_logic.specs.NormalForm.{height, highest}
use Rattle.mw_print.specs.Prefix.{numbered as numbered_token}
use Rattle.mw_print.proofs.PrefixWords.{words, after}
use Rattle.mw_prefix.specs.Taking.{takes}
use Rattle.mw_prefix.specs.Words.{Word, opening, closing, comma, leaf, numbered, other, word_of}
use Rattle.mw_prefix.specs.Reading.{Frame, frame, nothing, named, term, State, state, with_last, after_term, after_name, after_nothing, run, read}
use Rattle.mw_prefix.proofs.TokenLaws.{numeral_said, quoted_said, operator_said}
use Rattle.mw_prefix.proofs.Fitting.{Fits, AllFit, Takes, associative, plain, taken_so}

-- one more argument, before others
last_before : (ds : RawTerms) (t : RawTerm) (us : RawTerms) → join (with_last ds t) us ≡ join ds (cons t us)
last_before nil t us = refl
last_before (cons d ds) t us = ap (cons d) (last_before ds t us)

height_some : (t : RawTerm) → 1 ≤ height t
height_some (numeral n) = omega arith
height_some (quoted q) = omega arith
height_some (variable x) = omega arith
height_some (apply f ts) = omega arith

module _ (sig : Signature) where
  -- no parenthesis opens at the front
  abbrev IsShut : List (List ℕ) → Type 0
  IsShut [] = ⊤
  IsShut (x ∷ xs) = word_of sig x ≡ opening → ⊥

  after_shut : (ts : RawTerms) (rest : List (List ℕ)) → IsShut (after sig ts ++ rest)
  after_shut nil rest = λ e. let e : closing ≡ opening = e in cc
  after_shut (cons t ts) rest = λ e. let e : comma ≡ opening = e in cc

  abbrev goes : State → List (List ℕ) → Option RawTerm
  goes s ts = run sig s ts

  -- a constant that no parenthesis follows
  constant_read : (f : ℕ) → takes sig f nil ≡ true → (fs : List Frame) (rest : List (List ℕ)) → IsShut rest → goes (state fs (named f)) rest ≡ goes (state fs (term (apply f nil))) rest
  constant_read f h [] [] n = rw h refl
  constant_read f h (c ∷ fs) [] n = refl
  constant_read f h fs (x ∷ xs) n = by_word (word_of sig x) n
    where
      by_word : (w : Word) → (w ≡ opening → ⊥) → option_and_then (λ r. run sig r xs) (after_name sig fs f w) ≡ option_and_then (λ r. run sig r xs) (after_term sig fs (apply f nil) w)
      by_word opening n = absurd (n refl)
      by_word closing n = rw h refl
      by_word comma n = rw h refl
      by_word (leaf t) n = rw h refl
      by_word (numbered g) n = rw h refl
      by_word other n = rw h refl

  opens_in : (fs : List Frame) (f : ℕ) (rest : List (List ℕ)) → length fs < 999 → goes (state fs (named f)) (codes "(" ∷ rest) ≡ goes (state (frame f nil ∷ fs) nothing) rest
  opens_in fs f rest h = let b = lt-ltb (length fs) 999 h in rw b refl

  closes : (fs : List Frame) (f : ℕ) (ds : RawTerms) (t : RawTerm) (rest : List (List ℕ)) → takes sig f (with_last ds t) ≡ true
      → goes (state (frame f ds ∷ fs) (term t)) (codes ")" ∷ rest) ≡ goes (state fs (term (apply f (with_last ds t)))) rest
  closes fs f ds t rest h = rw h refl

  -- the first token of a term
  begun : (fs : List Frame) (x : List ℕ) (w : Word) (rest : List (List ℕ)) → word_of sig x ≡ w → goes (state fs nothing) (x ∷ rest) ≡ option_and_then (λ r. run sig r rest) (after_nothing fs w)
  begun fs x w rest e = ap (λ w. option_and_then (λ r. run sig r rest) (after_nothing fs w)) e

  named_read : (f : ℕ) (ts : RawTerms) → Takes sig f ts → f < 2 ^ 128 → (fs : List Frame) (rest : List (List ℕ)) → goes (state fs nothing) (numbered_token sig f ∷ rest) ≡ goes (state fs (named f)) rest
  named_read f ts (associative o is a n k) h fs rest = begun fs (numbered_token sig f) (numbered f) rest (operator_said sig f o is h)
  named_read f ts (plain o is a k) h fs rest = begun fs (numbered_token sig f) (numbered f) rest (operator_said sig f o is h)

  mutual
    again : (t : RawTerm) → Fits sig t → (fs : List Frame) → height t + length fs ≤ 1000 → (rest : List (List ℕ)) → IsShut rest → goes (state fs nothing) (words sig t ++ rest) ≡ goes (state fs (term t)) rest
    again (numeral m) w fs l rest n = begun fs (decimal m) (leaf (numeral m)) rest (numeral_said sig m w.0 w.1)
    again (quoted q) w fs l rest n = begun fs q (leaf (quoted q)) rest (quoted_said sig q w.0 w.1 w.2)
    again (variable x) w fs l rest n = absurd w
    again (apply f nil) w fs l rest n = named_read f nil (taken_so sig f nil w.0) w.1 fs rest ∙ constant_read f w.0 fs rest n
    again (apply f (cons t ts)) w fs l rest n =
        let some = height_some t in
        let name = named_read f (cons t ts) (taken_so sig f (cons t ts) w.0) w.1 fs (codes "(" ∷ (words sig t ++ after sig ts) ++ rest) in
        let inside = opens_in fs f ((words sig t ++ after sig ts) ++ rest) (omega (arith, l, some)) in
        let regroup = ap (goes (state (frame f nil ∷ fs) nothing)) (append_assoc (words sig t) (after sig ts) rest) in
        let first = again t w.2.0 (frame f nil ∷ fs) (omega (arith, l)) (after sig ts ++ rest) (after_shut ts rest) in
        name ∙ inside ∙ regroup ∙ first ∙ after_again f nil t ts w.2.1 w.0 fs (omega (arith, l)) rest

    after_again : (f : ℕ) (ds : RawTerms) (t : RawTerm) (ts : RawTerms) → AllFit sig ts → takes sig f (join ds (cons t ts)) ≡ true → (fs : List Frame) → highest ts + suc (length fs) ≤ 1000 → (rest : List (List ℕ))
        → goes (state (frame f ds ∷ fs) (term t)) (after sig ts ++ rest) ≡ goes (state fs (term (apply f (join ds (cons t ts))))) rest
    after_again f ds t nil w h fs l rest = closes fs f ds t rest h
    after_again f ds t (cons u us) w h fs l rest =
        let more : RawTerms = with_last ds t in
        let e = last_before ds t (cons u us) in
        let regroup = ap (goes (state (frame f more ∷ fs) nothing)) (append_assoc (words sig u) (after sig us) rest) in
        let first = again u w.0 (frame f more ∷ fs) (omega (arith, l)) (after sig us ++ rest) (after_shut us rest) in
        regroup ∙ first ∙ after_again f more u us w.1 (ap (takes sig f) e ∙ h) fs (omega (arith, l)) rest ∙ ap (λ us. goes (state fs (term (apply f us))) rest) e

  pub form_read : (t : RawTerm) → Fits sig t → height t ≤ 1000 → read sig (words sig t) ≡ Some t
  form_read t w l = ap (goes (state [] nothing)) (sym (append-nil (words sig t))) ∙ again t w [] (omega (arith, l)) [] tt
