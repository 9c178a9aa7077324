-- The tokens of a prefix form, from the first one on.
use Rattle.std.proofs.Common.{◌≡◌, ◌∙◌, ℕ, List, [], ◌∷◌, ◌++◌, refl, ap, append_assoc}
use Rattle.std.specs.Prelude.{codes}
use Rattle.std.specs.Fmt.{decimal}
use Rattle.std.proofs.lemmas.List.{map-append}
use Rattle.mw_logic.specs.Term.{RawTerm, numeral, quoted, variable, apply, RawTerms, nil, cons}
use Rattle.mw_logic.specs.Signature.{Signature}
use Rattle.mw_print.specs.Tokens.{Token, token, comma, text_of, texts}
use Rattle.mw_print.specs.Printing.{divided}
use Rattle.mw_print.specs.Prefix.{spelling_at, numbered, prefixed, prefixed_all}

-- a number, and what stands behind it
pub numbered_is : (sig : Signature) (f : ℕ) → numbered sig f ≡ decimal f ++ 64 ∷ spelling_at sig f
numbered_is sig f = append_assoc (decimal f) (64 ∷ []) (spelling_at sig f)

module _ (sig : Signature) where
  abbrev mutual
    pub words : RawTerm → List (List ℕ)
    words (numeral n) = decimal n ∷ []
    words (quoted q) = q ∷ []
    words (variable x) = []
    words (apply f ts) = numbered sig f ∷ opened ts

    pub opened : RawTerms → List (List ℕ)
    opened nil = []
    opened (cons t ts) = codes "(" ∷ words t ++ after ts

    -- what stands behind an argument
    pub after : RawTerms → List (List ℕ)
    after nil = codes ")" ∷ []
    after (cons t ts) = codes "," ∷ words t ++ after ts

  texts_both : (xs ys : List Token) → texts (xs ++ ys) ≡ texts xs ++ texts ys
  texts_both = map-append text_of

  mutual
    pub words_are : (t : RawTerm) → texts (prefixed sig t) ≡ words t
    words_are (numeral n) = refl
    words_are (quoted q) = refl
    words_are (variable x) = refl
    words_are (apply f nil) = refl
    words_are (apply f (cons t ts)) = ap (λ xs. numbered sig f ∷ codes "(" ∷ xs) (divided_words t (words_are t) ts)

    divided_words : (t : RawTerm) → texts (prefixed sig t) ≡ words t → (ts : RawTerms) → texts (divided (prefixed sig t ∷ prefixed_all sig ts) ++ token (codes ")") ∷ []) ≡ words t ++ after ts
    divided_words t is nil = texts_both (prefixed sig t) (token (codes ")") ∷ []) ∙ ap (λ xs. xs ++ codes ")" ∷ []) is
    divided_words t is (cons u us) =
        let more : List Token = divided (prefixed sig u ∷ prefixed_all sig us) in
        let end : List Token = token (codes ")") ∷ [] in
        ap texts (append_assoc (prefixed sig t) (comma ∷ more) end) ∙ texts_both (prefixed sig t) (comma ∷ more ++ end)
        ∙ ap (λ xs. xs ++ codes "," ∷ texts (more ++ end)) is ∙ ap (λ xs. words t ++ codes "," ∷ xs) (divided_words u (words_are u) us)
