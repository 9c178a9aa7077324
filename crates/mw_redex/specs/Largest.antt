-- Where the successor of the largest numeral comes to stand when an operator is applied.
use Rattle.std.specs.Prelude.{Bool, false}
use Rattle.mw_logic.specs.Term.{RawTerms}
use Rattle.mw_logic.specs.NormalForm.{is_largest}
use Rattle.mw_canon.specs.declared.axioms.Axioms.{Axioms}
use Rattle.mw_canon.specs.declared.axioms.Axioms.TheVariants.{Plain, Commutative, Successor, Associative}

-- an operator with these axioms is the successor of numbers, and stands on the largest
abbrev pub counts_past : Axioms → RawTerms → Bool
counts_past Plain ts = false
counts_past Commutative ts = false
counts_past Successor ts = is_largest ts
counts_past (Associative c e) ts = false
