-- The ends of texts in the form of sort tests.
use Rattle.std.specs.Prelude.{ℕ, Bool, false, List, [], ◌∷◌, ◌&&◌, not, codes}
use Rattle.mw_lex.specs.declared.token.Token.{Token}
use Rattle.mw_module.specs.Words.{is}
use Rattle.mw_build.specs.Fragments.{Asks}

-- these tokens are a colon and a name, which is no bracket; or a colon and a name in brackets
abbrev pub is_sort_end : List Token → Bool
is_sort_end [] = false
is_sort_end (colon ∷ []) = false
is_sort_end (colon ∷ name ∷ []) = is (codes ":") colon && not (is (codes "]") name)
is_sort_end (colon ∷ opening ∷ name ∷ rest) = false

abbrev pub is_kind_end : List Token → Bool
is_kind_end [] = false
is_kind_end (colon ∷ []) = false
is_kind_end (colon ∷ opening ∷ []) = false
is_kind_end (colon ∷ opening ∷ name ∷ []) = false
is_kind_end (colon ∷ opening ∷ name ∷ closing ∷ []) = is (codes ":") colon && is (codes "[") opening && is (codes "]") closing
is_kind_end (colon ∷ opening ∷ name ∷ closing ∷ more ∷ rest) = false

-- no such end stands in the text
abbrev pub AsksNothing : List (List ℕ) → Type 0
AsksNothing text = (term : List (List ℕ)) (bracketed : Bool) (name : List ℕ) → ¬ Asks text term bracketed name
