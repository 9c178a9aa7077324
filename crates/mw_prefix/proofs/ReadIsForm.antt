-- What is read is a form.
use Rattle.std.specs.Prelude.{◌≡◌, ℕ, suc, ◌+◌, ◌<◌, ◌≤◌, ◌^◌, max, List, [], ◌∷◌, ◌++◌, length, codes, Bool, true, false, nat_lt, cond, Option, Some, None, option_and_then, ⊤, refl}
use Rattle.std.proofs.Common.{ap, sym, subst, ◌∙◌, arith, append_assoc, append-nil}
use Rattle.std.proofs.lemmas.Bool.{ltb-true}
use Rattle.mw_logic.specs.Term.{RawTerm, numeral, quoted, variable, apply, RawTerms, nil, cons}
use Rattle.mw_logic.specs.Signature.{Signature}
use Rattle.mw_logic.specs.NormalForm.{height, highest}
use Rattle.mw_print.specs.Prefix.{numbered as numbered_token}
use Rattle.mw_print.proofs.PrefixWords.{words, opened, after}
use Rattle.mw_prefix.specs.Taking.{takes}
use Rattle.mw_prefix.specs.Words.{Word, opening, closing, comma, leaf, numbered, other, word_of}
use Rattle.mw_prefix.specs.Reading.{Frame, frame, Last, nothing, named, term, State, state, with_last, with_term, at_opening, after_term, after_constant, after_name, after_nothing, turn_by, turn, whole_by, run, read}
use Rattle.mw_prefix.proofs.TokenLaws.{IsLeaf, Means, word_means}
use Rattle.mw_prefix.proofs.Fitting.{Fits, AllFit}

chosen : {A : Type 0} (b : Bool) (x y : A) → cond b (Some x) None ≡ Some y → (b ≡ true) × (x ≡ y)
chosen true x y e = (refl, cc)
chosen false x y e = cc

module _ (sig : Signature) where
  -- the tokens that were read, by the state that they lead to
  abbrev listed : RawTerms → List (List ℕ)
  listed nil = []
  listed (cons t ts) = words sig t ++ codes "," ∷ listed ts

  abbrev openings : List Frame → List (List ℕ)
  openings [] = []
  openings (c ∷ fs) = openings fs ++ numbered_token sig c.operator ∷ codes "(" ∷ listed c.done

  abbrev ending : Last → List (List ℕ)
  ending nothing = []
  ending (named f) = numbered_token sig f ∷ []
  ending (term t) = words sig t

  abbrev before : State → List (List ℕ)
  before s = openings s.frames ++ ending s.last

  listed_last : (ds : RawTerms) (t : RawTerm) → listed (with_last ds t) ≡ listed ds ++ (words sig t ++ codes "," ∷ [])
  listed_last nil t = refl
  listed_last (cons d ds) t = ap (λ x. words sig d ++ codes "," ∷ x) (listed_last ds t) ∙ sym (append_assoc (words sig d) (codes "," ∷ listed ds) (words sig t ++ codes "," ∷ []))

  after_last : (ds : RawTerms) (t : RawTerm) → after sig (with_last ds t) ≡ codes "," ∷ (listed ds ++ (words sig t ++ codes ")" ∷ []))
  after_last nil t = refl
  after_last (cons d ds) t = ap (λ x. codes "," ∷ (words sig d ++ x)) (after_last ds t) ∙ ap (λ x. codes "," ∷ x) (sym (append_assoc (words sig d) (codes "," ∷ listed ds) (words sig t ++ codes ")" ∷ [])))

  opened_last : (ds : RawTerms) (t : RawTerm) → opened sig (with_last ds t) ≡ codes "(" ∷ (listed ds ++ (words sig t ++ codes ")" ∷ []))
  opened_last nil t = refl
  opened_last (cons d ds) t = ap (λ x. codes "(" ∷ (words sig d ++ x)) (after_last ds t) ∙ ap (λ x. codes "(" ∷ x) (sym (append_assoc (words sig d) (codes "," ∷ listed ds) (words sig t ++ codes ")" ∷ [])))

  -- each argument that is read fits, and no more parentheses were open than may be
  abbrev AreGood : List Frame → Type 0
  AreGood [] = ⊤
  AreGood (c ∷ fs) = AllFit sig c.done × (highest c.done + suc (length fs) ≤ 1000) × (suc (length fs) ≤ 999) × (c.operator < 2 ^ 128) × AreGood fs

  abbrev IsGoodLast : ℕ → Last → Type 0
  IsGoodLast n nothing = ⊤
  IsGoodLast n (named f) = f < 2 ^ 128
  IsGoodLast n (term t) = Fits sig t × (height t + n ≤ 1000)

  abbrev IsGood : State → Type 0
  IsGood s = AreGood s.frames × IsGoodLast (length s.frames) s.last

  fit_last : (ds : RawTerms) (t : RawTerm) → AllFit sig ds → Fits sig t → AllFit sig (with_last ds t)
  fit_last nil t a b = (b, tt)
  fit_last (cons d ds) t a b = (a.0, fit_last ds t a.1 b)

  highest_last : (ds : RawTerms) (t : RawTerm) → highest (with_last ds t) ≡ max (highest ds) (height t)
  highest_last nil t = omega arith
  highest_last (cons d ds) t = let h = highest_last ds t in omega (arith, h)

  good_length : (fs : List Frame) → AreGood fs → length fs ≤ 999
  good_length [] g = omega arith
  good_length (c ∷ fs) g = g.2

  regroup : (a b c d : List (List ℕ)) → a ++ (b ++ (c ++ d)) ≡ ((a ++ b) ++ c) ++ d
  regroup a b c d = sym (append_assoc a b (c ++ d)) ∙ sym (append_assoc (a ++ b) c d)

  -- a step reads its token, and keeps what was read good
  abbrev Steps : State → List ℕ → State → Type 0
  Steps s x r = (before r ≡ before s ++ x ∷ []) × IsGood r

  comma_steps : (fs : List Frame) (t : RawTerm) (r : State) → after_term sig fs t comma ≡ Some r → IsGood (state fs (term t)) → Steps (state fs (term t)) (codes ",") r
  comma_steps [] t r e g = cc
  comma_steps (c ∷ fs) t r e g =
      let i : state (frame c.operator (with_last c.done t) ∷ fs) nothing ≡ r = cc in
      let m = highest_last c.done t in
      let l : highest (with_last c.done t) + suc (length fs) ≤ 1000 = (let a = g.0.1 in let b = g.1.1 in omega (arith, m, a, b)) in
      let q = listed_last c.done t in
      subst (Steps (state (c ∷ fs) (term t)) (codes ",")) i (
        append-nil _ ∙ rw q (regroup (openings fs) (numbered_token sig c.operator ∷ codes "(" ∷ listed c.done) (words sig t) (codes "," ∷ [])),
        ((fit_last c.done t g.0.0 g.1.0, l, g.0.2, g.0.3, g.0.4), tt),
      )

  closing_steps : (fs : List Frame) (t : RawTerm) (r : State) → after_term sig fs t closing ≡ Some r → IsGood (state fs (term t)) → Steps (state fs (term t)) (codes ")") r
  closing_steps [] t r e g = cc
  closing_steps (c ∷ fs) t r e g = of (takes sig c.operator (with_last c.done t)) refl e
    where
      of : (b : Bool) → takes sig c.operator (with_last c.done t) ≡ b → with_term fs (cond b (Some (apply c.operator (with_last c.done t))) None) ≡ Some r → Steps (state (c ∷ fs) (term t)) (codes ")") r
      of false h e = cc
      of true h e =
          let i : state fs (term (apply c.operator (with_last c.done t))) ≡ r = cc in
          let m = highest_last c.done t in
          let l : height (apply c.operator (with_last c.done t)) + length fs ≤ 1000 = (let a = g.0.1 in let b = g.1.1 in omega (arith, m, a, b)) in
          let q = opened_last c.done t in
          subst (Steps (state (c ∷ fs) (term t)) (codes ")")) i (
            ap (λ xs. openings fs ++ numbered_token sig c.operator ∷ xs) q ∙ regroup (openings fs) (numbered_token sig c.operator ∷ codes "(" ∷ listed c.done) (words sig t) (codes ")" ∷ []),
            (g.0.4, ((h, g.0.3, fit_last c.done t g.0.0 g.1.0), l)),
          )

  term_steps : (fs : List Frame) (t : RawTerm) (x : List ℕ) (w : Word) (r : State) → Means sig x w → after_term sig fs t w ≡ Some r → IsGood (state fs (term t)) → Steps (state fs (term t)) x r
  term_steps fs t x comma r m e g = subst (λ y. Steps (state fs (term t)) y r) (sym m) (comma_steps fs t r e g)
  term_steps fs t x closing r m e g = subst (λ y. Steps (state fs (term t)) y r) (sym m) (closing_steps fs t r e g)
  term_steps fs t x opening r m e g = cc
  term_steps fs t x (leaf u) r m e g = cc
  term_steps fs t x (numbered f) r m e g = cc
  term_steps fs t x other r m e g = cc

  constant_steps : (fs : List Frame) (f : ℕ) (x : List ℕ) (w : Word) (r : State) → Means sig x w → after_constant sig fs f w ≡ Some r → IsGood (state fs (named f)) → Steps (state fs (named f)) x r
  constant_steps fs f x w r m e g = of (takes sig f nil) refl e
    where
      of : (b : Bool) → takes sig f nil ≡ b → option_and_then (λ t. after_term sig fs t w) (cond b (Some (apply f nil)) None) ≡ Some r → Steps (state fs (named f)) x r
      of true h e = term_steps fs (apply f nil) x w r m e (g.0, ((h, g.1, tt), (let l = good_length fs g.0 in omega (arith, l))))
      of false h e = cc

  opening_steps : (fs : List Frame) (f : ℕ) (r : State) → at_opening fs f ≡ Some r → IsGood (state fs (named f)) → Steps (state fs (named f)) (codes "(") r
  opening_steps fs f r e g =
      let (h, i) = chosen (nat_lt (length fs) 999) (state (frame f nil ∷ fs) nothing) r e in
      let l : length fs < 999 = ltb-true _ _ h in
      subst (Steps (state fs (named f)) (codes "(")) i (append-nil _ ∙ sym (append_assoc (openings fs) (numbered_token sig f ∷ []) (codes "(" ∷ [])), ((tt, omega (arith, l), omega (arith, l), g.1, g.0), tt))

  name_steps : (fs : List Frame) (f : ℕ) (x : List ℕ) (w : Word) (r : State) → Means sig x w → after_name sig fs f w ≡ Some r → IsGood (state fs (named f)) → Steps (state fs (named f)) x r
  name_steps fs f x opening r m e g = subst (λ y. Steps (state fs (named f)) y r) (sym m) (opening_steps fs f r e g)
  name_steps fs f x closing r m e g = constant_steps fs f x closing r m e g
  name_steps fs f x comma r m e g = constant_steps fs f x comma r m e g
  name_steps fs f x (leaf t) r m e g = constant_steps fs f x (leaf t) r m e g
  name_steps fs f x (numbered h) r m e g = constant_steps fs f x (numbered h) r m e g
  name_steps fs f x other r m e g = constant_steps fs f x other r m e g

  -- a term that is one token
  leaf_is : (x : List ℕ) (t : RawTerm) → IsLeaf sig x t → (words sig t ≡ x ∷ []) × Fits sig t × (height t ≡ 1)
  leaf_is x (numeral n) m = (ap (λ y. y ∷ []) (sym m.0), (m.1, m.2), refl)
  leaf_is x (quoted q) m = (ap (λ y. y ∷ []) (sym m.0), (m.1, m.2, m.3), refl)
  leaf_is x (variable y) m = absurd m
  leaf_is x (apply f ts) m = absurd m

  first_steps : (fs : List Frame) (x : List ℕ) (w : Word) (r : State) → Means sig x w → after_nothing fs w ≡ Some r → IsGood (state fs nothing) → Steps (state fs nothing) x r
  first_steps fs x (leaf t) r m e g =
      let i : state fs (term t) ≡ r = cc in
      let (is, fits, one) = leaf_is x t m in
      subst (Steps (state fs nothing) x) i (ap (λ z. openings fs ++ z) is ∙ ap (λ z. z ++ x ∷ []) (sym (append-nil (openings fs))), (g.0, (fits, (let l = good_length fs g.0 in omega (arith, l, one)))))
  first_steps fs x (numbered f) r m e g =
      let i : state fs (named f) ≡ r = cc in
      subst (Steps (state fs nothing) x) i (ap (λ z. openings fs ++ z ∷ []) (sym m.0) ∙ ap (λ z. z ++ x ∷ []) (sym (append-nil (openings fs))), (g.0, m.1))
  first_steps fs x opening r m e g = cc
  first_steps fs x closing r m e g = cc
  first_steps fs x comma r m e g = cc
  first_steps fs x other r m e g = cc

  turn_steps : (fs : List Frame) (l : Last) (x : List ℕ) (w : Word) (r : State) → Means sig x w → turn_by sig fs l w ≡ Some r → IsGood (state fs l) → Steps (state fs l) x r
  turn_steps fs nothing x w r m e g = first_steps fs x w r m e g
  turn_steps fs (named f) x w r m e g = name_steps fs f x w r m e g
  turn_steps fs (term t) x w r m e g = term_steps fs t x w r m e g

  -- the tokens of a term that fits and is no higher than it may be
  abbrev pub Spells : List (List ℕ) → RawTerm → Type 0
  Spells tokens t = (tokens ≡ words sig t) × Fits sig t × (height t ≤ 1000)

  whole_is : (fs : List Frame) (l : Last) (t : RawTerm) → whole_by sig fs l ≡ Some t → IsGood (state fs l) → Spells (before (state fs l)) t
  whole_is (c ∷ fs) l t e g = cc
  whole_is [] nothing t e g = cc
  whole_is [] (named f) t e g = let (h, i) = chosen (takes sig f nil) (apply f nil) t e in subst (Spells (numbered_token sig f ∷ [])) i (refl, (h, g.1, tt), omega arith)
  whole_is [] (term u) t e g = let i : u ≡ t = cc in subst (Spells (words sig u)) i (refl, g.1.0, (let l = g.1.1 in omega (arith, l)))

  run_is : (tokens : List (List ℕ)) (s : State) (t : RawTerm) → run sig s tokens ≡ Some t → IsGood s → Spells (before s ++ tokens) t
  run_is [] s t e g = subst (λ x. Spells x t) (sym (append-nil (before s))) (whole_is s.frames s.last t e g)
  run_is (x ∷ xs) s t e g = by_turn (λ r e k. run_is xs r t e k) (turn sig s x) refl e
    where
      by_turn : ((r : State) → run sig r xs ≡ Some t → IsGood r → Spells (before r ++ xs) t) → (o : Option State) → turn sig s x ≡ o → option_and_then (λ r. run sig r xs) o ≡ Some t → Spells (before s ++ x ∷ xs) t
      by_turn next None h e = cc
      by_turn next (Some r) h e =
          let (b, k) = turn_steps s.frames s.last x (word_of sig x) r (word_means sig x) h g in
          let p : before r ++ xs ≡ before s ++ x ∷ xs = ap (λ z. z ++ xs) b ∙ append_assoc (before s) (x ∷ []) xs in
          subst (λ z. Spells z t) p (next r e k)

  pub read_is_form : (t : RawTerm) (tokens : List (List ℕ)) → read sig tokens ≡ Some t → Spells tokens t
  read_is_form t tokens e = run_is tokens (state [] nothing) t e (tt, tt)
