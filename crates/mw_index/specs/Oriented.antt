-- Statements as they are indexed: by their canonical sides, with positions for variables.
use Rattle.std.specs.Prelude.{ℕ, ◌≡◌, ◌-◌, ◌^◌, min, [], map, length, Option, Some, None, IsTrue}
use Rattle.mw_logic.specs.Term.{RawTerms, apply}
use Rattle.mw_logic.specs.Signature.{Signature}
use Rattle.mw_logic.specs.Module.{Statement}
use Rattle.mw_logic.specs.NormalForm.{normal_form, height}
use Rattle.mw_position.specs.Positions.{fill, AreNumbered, counted_all}
use Rattle.mw_position.specs.Variables.{met, place, placed, sorts_of}
use Rattle.mw_pattern.specs.Clean.{clean}
use Rattle.mw_compile.specs.Compiled.{IsCompiled}
use Rattle.mw_canon.specs.Axioms.{HasAxioms}
use Rattle.mw_canon.specs.declared.axioms.Axioms.TheVariants as axioms
use Rattle.mw_match.specs.Straight.{AreStraight}
use Rattle.mw_canon.specs.Free.{IsFree, AreFree}
use Rattle.mw_index.specs.Conditions.{IsConditionOf}
use Rattle.mw_index.specs.declared.oriented.Oriented.{Oriented}
use Rattle.mw_index.specs.declared.oriented.Searched.{Searched}
use Rattle.mw_index.specs.declared.oriented.Left.{Left}
use Rattle.mw_index.specs.declared.oriented.Left.TheVariants as left

-- The canonical left side is f on these patterns. f has no axiom, nor has another operator but the successor of numbers. The variables, which
-- stand by their positions among the left side's, are met in that order.
pub record IsPlainLeft (sig : Signature) (f : ℕ) (e : Statement) (ps : RawTerms) : Type 0 where
  pub pattern : apply f ps ≡ placed (met [] e.left) (normal_form sig e.left)
  pub plain : HasAxioms sig f axioms.Plain
  pub straight : AreStraight sig ps
  pub numbered : AreNumbered 0 ps
  pub count : counted_all 0 ps ≡ length (met [] e.left)

-- the canonical left side as searches take it, and for each of its variables the position that it has there
pub record IsSearchedLeft (sig : Signature) (e : Statement) (s : Searched) : Type 0 where
  pub compiled : IsCompiled sig (normal_form sig e.left) [] s.compiled
  pub order : s.order ≡ map (λ x. place x s.compiled.variables) (met [] e.left)

-- The left side, for terms with the operator `top` on top, or with none.
abbrev pub IsLeft : Signature → Option ℕ → Statement → Left → Type 0
IsLeft sig None e (left.Plain ps) = ⊥
IsLeft sig (Some f) e (left.Plain ps) = IsPlainLeft sig f e ps
IsLeft sig top e (left.Searched s) = IsSearchedLeft sig e s.value

-- a plain left side in which no operator has an axiom
abbrev pub HasFreeLeft : Signature → Left → Type 0
HasFreeLeft sig (left.Plain ps) = AreFree sig ps
HasFreeLeft sig (left.Searched s) = ⊥

-- st is the statement e, for terms with the operator `top` on top, or with none
pub record IsOriented (sig : Signature) (top : Option ℕ) (e : Statement) (st : Oriented) : Type 0 where
  pub rule : st.rule ≡ e.rule
  pub left : IsLeft sig top e st.left
  pub right : clean st.right ≡ placed e.variables (normal_form sig e.right)
  pub free : IsTrue st.free → IsFree sig (clean st.right)
  pub sure : IsTrue st.sure → HasFreeLeft sig st.left
  -- its variables stay
  pub levels : st.levels ≡ min (height (fill [] (clean st.right))) (2 ^ 16 - 1)
  pub sorts : st.sorts ≡ sorts_of (met [] e.left)
  pub condition : IsConditionOf sig e st.condition
