-- An argument is smaller than the list that it stands in, by twice the depth.
use Rattle.std.specs.Prelude.{◌*◌, ◌≤◌, List, [], ◌∷◌}
use Rattle.std.proofs.Common.{arith}
use denote.Param.Weighed.{most}
use Rattle.mw_term.specs.declared.raw.Raw.{Raw}
use Rattle.mw_term.specs.declared.raw.Raw.TheVariants.{Nat, Qid, Var, Op}
use Rattle.mw_term.specs.declared.raw.Raws.TheDeep.{deep-Raw}
use Rattle.mw_logic.specs.NormalForm.{height, highest}
use Rattle.mw_term.specs.Raws.{raw_term, raw_terms}

pub raw_falls : (t : Raw) → deep-Raw t ≤ 2 * height (raw_term t)
raw_falls (Nat n) = omega arith
raw_falls (Qid q) = omega arith
raw_falls (Var x) = omega arith
raw_falls (Op f ts) = omega arith

pub raws_fall : (ts : List Raw) → most deep-Raw ts ≤ 2 * highest (raw_terms ts)
raws_fall [] = omega arith
raws_fall (t ∷ ts) = omega (arith, raw_falls t, raws_fall ts)
