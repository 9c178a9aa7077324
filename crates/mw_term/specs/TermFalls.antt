-- An argument is smaller than its term, by twice the weight.
use Rattle.std.specs.Prelude.{◌+◌, ◌*◌, ◌≤◌, List, [], ◌∷◌}
use Rattle.std.proofs.Common.{arith}
use denote.Param.Weighed.{most}
use Rattle.mw_term.specs.declared.term.Shape.{Shape}
use Rattle.mw_term.specs.declared.term.Shape.TheVariants.{Nat, Qid, Var, Constant, One, Two, Many, Section}
use Rattle.mw_term.specs.declared.term.Term.TheDeep.{deep-Shape}
use Rattle.mw_logic.specs.Term.{RawTerm}
use Rattle.mw_logic.specs.Terms.{terms_of}
use Rattle.mw_term.specs.Weights.{arguments_lighter, heaviest, weight}
use Rattle.mw_term.specs.Shapes.{shaped}
use Rattle.mw_term.specs.Sections.{ShowsSection}

pub terms_fall : (ts : List RawTerm) → most (λ t. 2 * weight t + 1) ts ≤ 2 * heaviest (terms_of ts) + 1
terms_fall [] = omega arith
terms_fall (t ∷ ts) = omega (arith, terms_fall ts)

pub shape_falls : (s : Shape) → ShowsSection s → deep-Shape s ≤ 2 * weight (shaped s)
shape_falls (Nat l d n) h = omega arith
shape_falls (Qid l d q) h = omega arith
shape_falls (Var l d x) h = omega arith
shape_falls (Constant l d f) h = omega arith
shape_falls (One l d f t) h = let k = arguments_lighter (terms_of (t ∷ [])) in omega (arith, k)
shape_falls (Two l d f ts) h = let k = arguments_lighter (terms_of ts) in omega (arith, terms_fall ts, k)
shape_falls (Many l d f ts) h = let k = arguments_lighter (terms_of ts.value.items) in omega (arith, terms_fall ts.value.items, k)
shape_falls (Section l d f s from end) h = omega (arith, terms_fall s.value.terms.items, h.3)
