-- What a term as it is written stands for.
use Rattle.std.specs.Prelude.{List, [], ◌∷◌}
use Rattle.mw_term.specs.declared.raw.Raw.{Raw}
use Rattle.mw_term.specs.declared.raw.Raw.TheVariants.{Nat, Qid, Var, Op}
use Rattle.mw_logic.specs.Term.{RawTerm, numeral, quoted, variable, apply, RawTerms, nil, cons}

abbrev pub raw_term : Raw → RawTerm
raw_term (Nat n) = numeral n
raw_term (Qid q) = quoted q
raw_term (Var x) = variable x
raw_term (Op f ts) = apply f ts

abbrev pub raw_terms : List Raw → RawTerms
raw_terms [] = nil
raw_terms (t ∷ ts) = cons (raw_term t) (raw_terms ts)
