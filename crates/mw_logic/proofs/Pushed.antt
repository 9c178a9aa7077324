-- Lists of terms put behind others, one by one or a list at a time, as an operator has them.
use Rattle.std.specs.Prelude.{◌≡◌, List, [], ◌∷◌, ◌++◌, refl}
use Rattle.std.proofs.Common.{ap}
use Rattle.mw_logic.specs.Term.{RawTerm, RawTerms, cons, join}
use Rattle.mw_logic.specs.Terms.{terms_of}

-- the terms of two lists
pub terms_of-append : (ts us : List RawTerm) → terms_of (ts ++ us) ≡ join (terms_of ts) (terms_of us)
terms_of-append [] us = refl
terms_of-append (t ∷ ts) us = ap (cons t) (terms_of-append ts us)

-- a term put behind others
pub join_pushed : (ts : List RawTerm) (t : RawTerm) (us : RawTerms) → join (terms_of (ts ++ t ∷ [])) us ≡ join (terms_of ts) (cons t us)
join_pushed [] t us = refl
join_pushed (x ∷ ts) t us = ap (cons x) (join_pushed ts t us)
