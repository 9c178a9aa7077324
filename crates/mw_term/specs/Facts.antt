-- What is known of a term without a walk: the operators that stand in it, and its depth, or 65,535 where that is more. A node
-- keeps it.
use Rattle.std.specs.Prelude.{◌^◌, ◌-◌, ◌+◌, ℕ, min, max}
use Rattle.std.specs.Int.Bits.{bit_or}
use Rattle.mw_logic.specs.Term.{RawTerm, RawTerms}
use Rattle.mw_logic.specs.NormalForm.{height, highest}
use Rattle.mw_term.specs.OperatorSets.{bounded, bits_above, remainders_in, remainders_in_all, last_in, last_in_all}
use Rattle.mw_term.specs.declared.facts.Facts.{Facts}
use Rattle.mw_term.specs.declared.term.Shape.{Shape}
use Rattle.mw_term.specs.declared.term.Shape.TheVariants.{Nat, Qid, Var, Constant, One, Two, Many, Section}

abbrev pub facts_of : RawTerm → Facts
facts_of t = record { remainders = remainders_in t; last = last_in t; depth = min (height t) (2 ^ 16 - 1) }

abbrev pub facts_of_all : RawTerms → Facts
facts_of_all ts = record { remainders = remainders_in_all ts; last = last_in_all ts; depth = min (highest ts) (2 ^ 16 - 1) }

abbrev pub facts_of_nothing : Facts
facts_of_nothing = record { remainders = 0; last = 0; depth = 0 }

abbrev pub facts_joined : Facts → Facts → Facts
facts_joined a b = record { remainders = bit_or a.remainders b.remainders; last = max a.last b.last; depth = max a.depth b.depth }

-- of an operator on so many arguments
abbrev pub facts_above : ℕ → ℕ → Facts → Facts
facts_above f n a = record { remainders = bit_or (bits_above f n) a.remainders; last = max (bounded f) a.last; depth = min (a.depth + 1) (2 ^ 16 - 1) }

abbrev pub facts_of_leaf : Facts
facts_of_leaf = record { remainders = 0; last = 0; depth = 1 }

abbrev pub facts_kept : ℕ → Shape → Facts
facts_kept r (Nat l d n) = record { remainders = r; last = l; depth = d }
facts_kept r (Qid l d q) = record { remainders = r; last = l; depth = d }
facts_kept r (Var l d x) = record { remainders = r; last = l; depth = d }
facts_kept r (Constant l d f) = record { remainders = r; last = l; depth = d }
facts_kept r (One l d f t) = record { remainders = r; last = l; depth = d }
facts_kept r (Two l d f ts) = record { remainders = r; last = l; depth = d }
facts_kept r (Many l d f ts) = record { remainders = r; last = l; depth = d }
facts_kept r (Section l d f s from end) = record { remainders = r; last = l; depth = d }
