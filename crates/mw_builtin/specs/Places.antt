-- Where two numerals stand among arguments.
use Rattle.std.specs.Prelude.{◌≡◌, ◌≤◌, ◌-◌, List, ◌∷◌, drop, Bool, true, false}
use Rattle.mw_logic.specs.Term.{RawTerm, numeral, quoted, variable, apply}
use Rattle.mw_logic.specs.Signature.{Signature}
use Rattle.mw_logic.specs.Module.{BuiltIn as OnNumbers}
use Rattle.mw_builtin.specs.Results.{DoGive}
use Rattle.mw_builtin.specs.declared.pairs.Pair.{Pair}

abbrev pub is_number : RawTerm → Bool
is_number (numeral n) = true
is_number (quoted q) = false
is_number (variable x) = false
is_number (apply f ts) = false

-- the neighbours at the pair's index give what was found
pub record IsPairAt (sig : Signature) (b : OnNumbers) (c : Bool) (args : List RawTerm) (pair : Pair) : Type 0 where
  pub first : RawTerm
  pub second : RawTerm
  pub rest : List RawTerm
  pub positive : 1 ≤ pair.index
  pub there : drop (pair.index - 1) args ≡ first ∷ second ∷ rest
  pub gives : DoGive sig b c first second pair.found
