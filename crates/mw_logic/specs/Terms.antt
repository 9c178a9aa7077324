-- Lists of terms, as a list has them and as an operator has them.
use Rattle.std.specs.Prelude.{ℕ, zero, suc, List, [], ◌∷◌}
use Rattle.mw_logic.specs.Term.{RawTerm, numeral, quoted, variable, apply, RawTerms, nil, cons}

abbrev pub terms_of : List RawTerm → RawTerms
terms_of [] = nil
terms_of (t ∷ ts) = cons t (terms_of ts)

abbrev pub list_of : RawTerms → List RawTerm
list_of nil = []
list_of (cons t ts) = t ∷ list_of ts

-- the first n terms, and those behind them
abbrev pub front : ℕ → RawTerms → RawTerms
front zero ts = nil
front (suc n) nil = nil
front (suc n) (cons t ts) = cons t (front n ts)

abbrev pub skip : ℕ → RawTerms → RawTerms
skip zero ts = ts
skip (suc n) nil = nil
skip (suc n) (cons t ts) = skip n ts

-- the arguments of the operator on top
abbrev pub args_of : RawTerm → RawTerms
args_of (numeral n) = nil
args_of (quoted q) = nil
args_of (variable x) = nil
args_of (apply f ts) = ts
