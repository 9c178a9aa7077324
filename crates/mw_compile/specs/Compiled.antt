-- Patterns as searches take them.
use Rattle.std.specs.Prelude.{◌≡◌, ◌≤◌, List, length, IsTrue}
use Rattle.mw_logic.specs.Term.{Variable, RawTerm, RawTerms}
use Rattle.mw_logic.specs.Signature.{Signature}
use Rattle.mw_logic.specs.Substitution.{occurs, occurs_in}
use Rattle.mw_position.specs.Variables.{is_in, met, placed, sorts_of}
use Rattle.mw_solving.specs.Reordered.{Reordered}
use Rattle.mw_solving.specs.Values.{AreSure}
use Rattle.mw_compile.specs.declared.compiled.Compiled.{Compiled}

-- c is the pattern q with its variables by position, behind those that are bound
pub record IsNumbered (bound : List Variable) (q : RawTerm) (c : Compiled) : Type 0 where
  pub variables : c.variables ≡ met bound q
  pub pattern : c.pattern ≡ placed c.variables q
  pub sorts : c.positions.sorts ≡ sorts_of c.variables

-- c is the canonical pattern p with the arguments of associative and commutative operators in the order in which they are met, and its
-- variables by position, behind those that are bound
pub record IsCompiled (sig : Signature) (p : RawTerm) (bound : List Variable) (c : Compiled) : Type 0 where
  pub q : RawTerm
  pub reordered : Reordered sig p q
  pub variables : c.variables ≡ met bound q
  pub pattern : c.pattern ≡ placed c.variables q
  pub sorts : c.positions.sorts ≡ sorts_of c.variables
  pub sure : AreSure sig c.positions.single.items c.positions.sorts
  pub bounded : length c.positions.single.items ≤ length c.variables

-- each variable of a term is one of these
abbrev pub AreAmong : List Variable → RawTerm → Type 0
AreAmong xs t = (x : Variable) → IsTrue (occurs x t) → IsTrue (is_in x xs)

abbrev pub AreAllAmong : List Variable → RawTerms → Type 0
AreAllAmong xs ts = (x : Variable) → IsTrue (occurs_in x ts) → IsTrue (is_in x xs)
