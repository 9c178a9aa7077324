-- What a pattern means.
use Rattle.std.specs.Prelude.{List, [], ◌∷◌}
use Rattle.mw_pattern.specs.declared.pattern.Pattern.{Pattern}
use Rattle.mw_pattern.specs.declared.pattern.Pattern.TheVariants.{Nat, Qid, Var, Op}
use Rattle.mw_logic.specs.Term.{RawTerm, numeral, quoted, variable, apply, RawTerms, nil, cons}
use Rattle.mw_position.specs.Positions.{position}

abbrev pub clean : Pattern → RawTerm
clean (Nat n) = numeral n
clean (Qid q) = quoted q
clean (Var i) = variable (position i)
clean (Op f ts) = apply f ts

abbrev pub clean_all : List Pattern → RawTerms
clean_all [] = nil
clean_all (t ∷ ts) = cons (clean t) (clean_all ts)
