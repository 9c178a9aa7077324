-- Where the arguments of a pattern pick the elements of a multiset's proper parts, and how picking begins.
use Rattle.std.specs.Prelude.{◌≡◌, ◌≤◌, ◌<◌, length, [], true, Some}
use Rattle.mw_logic.specs.Term.{RawTerm, apply}
use Rattle.mw_logic.specs.Terms.{args_of}
use Rattle.mw_logic.specs.Signature.{Signature}
use Rattle.mw_logic.specs.Parts.{is_assoc, number_of_terms}
use Rattle.mw_logic.specs.NormalForm.{is_comm}
use Rattle.mw_matching.specs.Found.{Values}
use Rattle.mw_search.specs.Goals.{top_of}
use Rattle.mw_compile.specs.declared.compiled.Compiled.{Compiled}
use Rattle.mw_match.specs.Choices.{ArePicked}
use Rattle.mw_match.specs.declared.levels.Levels.{Levels}
use Rattle.mw_match.specs.declared.parts.Parts.{Parts}

-- Under an associative and commutative operator two arguments or more, each of which is no variable and becomes one element, and a term of more elements.
pub record MayPick (sig : Signature) (c : Compiled) (t : RawTerm) : Type 0 where
  pub pattern : c.pattern ≡ apply (top_of t) (args_of c.pattern)
  pub term : t ≡ apply (top_of t) (args_of t)
  pub assoc : is_assoc sig (top_of t) ≡ true
  pub comm : is_comm sig (top_of t) ≡ true
  pub two : 2 ≤ number_of_terms (args_of c.pattern)
  pub fewer : number_of_terms (args_of c.pattern) < number_of_terms (args_of t)
  pub picked : ArePicked sig c.positions.single.items (top_of t) (args_of c.pattern)

-- nothing is picked yet
pub record HasBegunPicking (p : Parts) (vs : Values) (s : Levels) : Type 0 where
  pub context : s.context ≡ p.context
  pub compiled : s.compiled ≡ p.compiled
  pub subject : s.subject ≡ p.subject
  pub given : s.given ≡ length vs
  pub stack : s.stack.items ≡ []
  pub found : s.found ≡ Some vs
