-- An argument is smaller than what it stands in.
use Rattle.std.specs.Prelude.{◌*◌, ◌≤◌, List, [], ◌∷◌}
use Rattle.std.proofs.Common.{arith}
use denote.Param.Weighed.{most}
use Rattle.mw_logic.specs.NormalForm.{height, highest}
use Rattle.mw_pattern.specs.declared.pattern.Pattern.{Pattern}
use Rattle.mw_pattern.specs.declared.pattern.Pattern.TheVariants.{Nat, Qid, Var, Op}
use Rattle.mw_pattern.specs.declared.pattern.Patterns.TheDeep.{deep-Pattern}
use Rattle.mw_pattern.specs.Clean.{clean, clean_all}

pub falls : (t : Pattern) → deep-Pattern t ≤ 2 * height (clean t)
falls (Nat n) = omega arith
falls (Qid q) = omega arith
falls (Var x) = omega arith
falls (Op f ts) = omega arith

pub all_fall : (ts : List Pattern) → most deep-Pattern ts ≤ 2 * highest (clean_all ts)
all_fall [] = omega arith
all_fall (t ∷ ts) = omega (arith, falls t, all_fall ts)
