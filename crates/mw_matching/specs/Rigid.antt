-- Rigid arguments first: each takes one element, and what is left is cut for the others.
use Rattle.std.specs.Prelude.{ℕ, zero, suc, List, map, filter, flat_map, true, Option}
use Rattle.mw_logic.specs.Term.{RawTerms, nil, cons}
use Rattle.mw_logic.specs.Signature.{Identity}
use Rattle.mw_logic.proofs.Elements.{taken}
use Rattle.mw_logic.proofs.Canonical.{IsElement}
use Rattle.mw_arguments.specs.Pieces.{are_backed, arguments}
use Rattle.mw_arguments.specs.Bags.{runs, heads}
use Rattle.mw_arguments.specs.Splits.{pieces}

-- the first r arguments are elements
abbrev pub FirstAreElements : Option Identity → ℕ → ℕ → RawTerms → Type 0
FirstAreElements e f zero vs = Unit {0}
FirstAreElements e f (suc r) nil = ⊥
FirstAreElements e f (suc r) (cons v vs) = IsElement e f v × FirstAreElements e f r vs

-- r elements one by one, and k more arguments
abbrev pub rigid_splits : Option Identity → ℕ → ℕ → ℕ → RawTerms → List RawTerms
rigid_splits e f zero k zs = map (arguments e f) (filter (are_backed e) (pieces true k zs))
rigid_splits e f (suc r) k zs = flat_map (λ d. map (cons d) (rigid_splits e f r k (taken d zs))) (heads (runs zs))
