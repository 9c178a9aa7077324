-- The sorts that terms with an operator on top may have, by its declarations.
use Rattle.std.specs.Prelude.{ℕ, ◌≡◌, ◌⊎◌, List, None}
use Rattle.mw_logic.specs.Signature.{Signature, sort, Declaration, Operator, IsOperator, Member, at_number}
use Rattle.mw_logic.specs.Sorts.{IsBelow}

-- one of the declarations has a result at or below S
abbrev pub OneGives : Signature → List Declaration → ℕ → Type 0
OneGives sig ds S = (d : Declaration) × Member d ds × IsBelow sig d.result (sort S)

-- Terms with operator f on top may have sort S, by its declarations: one has a result at or below S. An operator that
-- isn't there counts as one that may.
abbrev pub MayGive : Signature → ℕ → ℕ → Type 0
MayGive sig f S = (at_number sig.operators f ≡ None) ⊎ ((o : Operator) × IsOperator sig f o × OneGives sig o.declarations S)
