-- Texts over the parts of a form.
use Rattle.std.proofs.Common.{ℕ, ◌≡◌, ◌<◌, ◌∙◌, List, [], ◌∷◌, ◌++◌, refl, sym, ap, subst, append_assoc, append-nil}
use Rattle.mw_logic.specs.Term.{RawTerm, RawTerms, nil, cons, join}
use Rattle.mw_grammar.specs.declared.parts.Symbol.{Symbol}
use Rattle.mw_grammar.specs.declared.parts.Symbol.TheVariants.{Piece, Hole}
use Rattle.mw_grammar.specs.Notations.{pieces_as}

module _ (S : ℕ → ℕ → RawTerm → List (List ℕ) → Type 0) where
  -- pieces as tokens, and in each hole a text of its kind, of a precedence below its bound
  pub data Over : List Symbol → RawTerms → List (List ℕ) → Type 0 where
    done : Over [] nil []
    over_piece : (x : List ℕ) (parts : List Symbol) (ts : RawTerms) (text : List (List ℕ)) → Over parts ts text → Over (Piece x ∷ parts) ts (x ∷ text)
    over_hole : (kind below p : ℕ) (t : RawTerm) (parts : List Symbol) (ts : RawTerms) (text rest : List (List ℕ)) → S kind p t text → p < below
        → Over parts ts rest → Over (Hole kind below ∷ parts) (cons t ts) (text ++ rest)

  pub pieces_over : (head : List (List ℕ)) (parts : List Symbol) (ts : RawTerms) (text : List (List ℕ)) → Over parts ts text → Over (pieces_as head ++ parts) ts (head ++ text)
  pieces_over [] parts ts text d = d
  pieces_over (x ∷ xs) parts ts text d = over_piece x (pieces_as xs ++ parts) ts (xs ++ text) (pieces_over xs parts ts text d)

  pub pieces_alone : (head : List (List ℕ)) → Over (pieces_as head) nil head
  pieces_alone [] = done
  pieces_alone (x ∷ xs) = over_piece x (pieces_as xs) nil xs (pieces_alone xs)

  pub pieces_back : (head : List (List ℕ)) (parts : List Symbol) (ts : RawTerms) (text : List (List ℕ)) → Over (pieces_as head ++ parts) ts text
      → (rest : List (List ℕ)) × (text ≡ head ++ rest) × Over parts ts rest
  pieces_back [] parts ts text d = (text, refl, d)
  pieces_back (x ∷ xs) parts ts text (over_piece y parts2 ts2 text2 d) =
      let r = pieces_back xs parts ts text2 d in (r.0, ap (λ m. x ∷ m) r.1, r.2)

  pub none_back : (ts : RawTerms) (text : List (List ℕ)) → Over [] ts text → (ts ≡ nil) × (text ≡ [])
  none_back ts text done = (refl, refl)

  pub alone_back : (head : List (List ℕ)) (ts : RawTerms) (text : List (List ℕ)) → Over (pieces_as head) ts text → (ts ≡ nil) × (text ≡ head)
  alone_back [] ts text d = none_back ts text d
  alone_back (x ∷ xs) ts text (over_piece y parts2 ts2 text2 d) = let r = alone_back xs ts text2 d in (r.0, ap (λ m. x ∷ m) r.1)

  pub snoc_piece : (parts : List Symbol) (ts : RawTerms) (text : List (List ℕ)) (x : List ℕ) → Over parts ts text → Over (parts ++ Piece x ∷ []) ts (text ++ x ∷ [])
  snoc_piece parts ts text x done = over_piece x ([]) nil ([]) done
  snoc_piece parts ts text x (over_piece y parts2 ts2 text2 d) = over_piece y (parts2 ++ Piece x ∷ []) ts2 (text2 ++ x ∷ []) (snoc_piece parts2 ts2 text2 x d)
  snoc_piece parts ts text x (over_hole kind below p t parts2 ts2 text2 rest s le d) =
      subst (λ (m : List (List ℕ)). Over (Hole kind below ∷ parts2 ++ Piece x ∷ []) (cons t ts2) m) (sym (append_assoc text2 rest (x ∷ [])))
      (over_hole kind below p t (parts2 ++ Piece x ∷ []) ts2 text2 (rest ++ x ∷ []) s le (snoc_piece parts2 ts2 rest x d))

  pub snoc_hole : (parts : List Symbol) (ts : RawTerms) (text text3 : List (List ℕ)) (kind below p : ℕ) (t : RawTerm) → S kind p t text3 → p < below → Over parts ts text
      → Over (parts ++ Hole kind below ∷ []) (join ts (cons t nil)) (text ++ text3)
  snoc_hole parts ts text text3 kind below p t s le done =
      subst (λ (m : List (List ℕ)). Over (Hole kind below ∷ []) (cons t nil) m) (append-nil text3) (over_hole kind below p t ([]) nil text3 ([]) s le done)
  snoc_hole parts ts text text3 kind below p t s le (over_piece y parts2 ts2 text2 d) =
      over_piece y (parts2 ++ Hole kind below ∷ []) (join ts2 (cons t nil)) (text2 ++ text3) (snoc_hole parts2 ts2 text2 text3 kind below p t s le d)
  snoc_hole parts ts text text3 kind below p t s le (over_hole k2 b2 p2 t2 parts2 ts2 text2 rest s2 le2 d) =
      subst (λ (m : List (List ℕ)). Over (Hole k2 b2 ∷ parts2 ++ Hole kind below ∷ []) (cons t2 (join ts2 (cons t nil))) m) (sym (append_assoc text2 rest text3))
      (over_hole k2 b2 p2 t2 (parts2 ++ Hole kind below ∷ []) (join ts2 (cons t nil)) text2 (rest ++ text3) s2 le2 (snoc_hole parts2 ts2 rest text3 kind below p t s le d))

  pub piece_back : (parts : List Symbol) (ts : RawTerms) (text : List (List ℕ)) (x : List ℕ) → Over (Piece x ∷ parts) ts text
      → (rest : List (List ℕ)) × (text ≡ x ∷ rest) × Over parts ts rest
  piece_back parts ts text x (over_piece y parts2 ts2 text2 d) = (text2, refl, d)

  -- what one hole's text is, in parts that begin with it
  pub record Held (kind below : ℕ) (parts : List Symbol) (ts : RawTerms) (text : List (List ℕ)) : Type 0 where
    pub precedence : ℕ
    pub first : RawTerm
    pub others : RawTerms
    pub front : List (List ℕ)
    pub rest : List (List ℕ)
    pub terms : ts ≡ cons first others
    pub whole : text ≡ front ++ rest
    pub says : S kind precedence first front
    pub within : precedence < below
    pub goes_on : Over parts others rest

  pub hole_back : (parts : List Symbol) (ts : RawTerms) (text : List (List ℕ)) (kind below : ℕ) → Over (Hole kind below ∷ parts) ts text → Held kind below parts ts text
  hole_back parts ts text kind below (over_hole k2 b2 p t parts2 ts2 text2 rest s le d) =
      record { precedence = p; first = t; others = ts2; front = text2; rest = rest; terms = refl; whole = refl; says = s; within = le; goes_on = d }

  pub last_back : (parts : List Symbol) (ts : RawTerms) (text : List (List ℕ)) (x : List ℕ) → Over (parts ++ Piece x ∷ []) ts text
      → (front : List (List ℕ)) × (text ≡ front ++ x ∷ []) × Over parts ts front
  last_back [] ts text x d =
      let r = piece_back ([]) ts text x d in
      let e = none_back ts r.0 r.2 in
      ([], r.1 ∙ ap (λ m. x ∷ m) e.1, subst (λ (m : RawTerms). Over [] m []) (sym e.0) done)
  last_back (Piece y ∷ parts) ts text x d =
      let r = piece_back (parts ++ Piece x ∷ []) ts text y d in
      let s = last_back parts ts r.0 x r.2 in
      (y ∷ s.0, r.1 ∙ ap (λ m. y ∷ m) s.1, over_piece y parts ts s.0 s.2)
  last_back (Hole kind below ∷ parts) ts text x d =
      let r = hole_back (parts ++ Piece x ∷ []) ts text kind below d in
      let s = last_back parts r.others r.rest x r.goes_on in (
        r.front ++ s.0,
        r.whole ∙ ap (λ m. r.front ++ m) s.1 ∙ sym (append_assoc r.front s.0 (x ∷ [])),
        subst (λ (m : RawTerms). Over (Hole kind below ∷ parts) m (r.front ++ s.0)) (sym r.terms)
            (over_hole kind below r.precedence r.first parts r.others r.front s.0 r.says r.within s.2),
      )
