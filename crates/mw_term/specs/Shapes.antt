-- What stands on top of a term, as a node keeps it and as it is seen.
use Rattle.std.specs.Prelude.{ℕ, ◌+◌, ◌*◌, ◌^◌, List, [], ◌∷◌, slice_range}
use Rattle.mw_term.specs.declared.term.Shape.{Shape}
use Rattle.mw_term.specs.declared.term.Shape.TheVariants.{Nat, Qid, Var, Constant, One, Two, Many, Section}
use Rattle.mw_term.specs.declared.shared.Shared.{Shared}
use Rattle.mw_term.specs.declared.numeral.Numeral.{Numeral}
use Rattle.mw_term.specs.declared.term.View.{View}
use Rattle.mw_term.specs.declared.term.View.TheVariants as seen
use Rattle.mw_logic.specs.Term.{RawTerm, numeral, quoted, variable, apply, nil}
use Rattle.mw_logic.specs.Terms.{terms_of}

abbrev pub number_of : Numeral → ℕ
number_of n = n.high * 2 ^ 64 + n.low

-- the terms of a list between two places
abbrev pub shown : Shared → ℕ → ℕ → List RawTerm
shown s from end = slice_range s.terms.items from end

abbrev pub shaped : Shape → RawTerm
shaped (Nat l d n) = numeral (number_of n)
shaped (Qid l d q) = quoted q.value
shaped (Var l d x) = variable x.value
shaped (Constant l d f) = apply f nil
shaped (One l d f t) = apply f (terms_of (t ∷ []))
shaped (Two l d f ts) = apply f (terms_of ts)
shaped (Many l d f ts) = apply f (terms_of ts.value.items)
shaped (Section l d f s from end) = apply f (terms_of (shown s.value from end))

abbrev pub viewed : View → RawTerm
viewed (seen.Nat n) = numeral n
viewed (seen.Qid q) = quoted q.now
viewed (seen.Var x) = variable x.now
viewed (seen.Op f ts) = apply f (terms_of ts.now)
