use Rattle.std.proofs.Common.{[], ◌∷◌, sym, subst}
use Rattle.mw_logic.specs.Preregular.{AreOfKinds}
use Rattle.mw_term.specs.Signatures.{sorted_of}
use Rattle.mw_sorts.proofs.look_up.on_two.Goals as goal

pub returns : goal.returns
returns c = λ sig o K L d a k l. c.result_on.ensures sig o d (subst (AreOfKinds sig (sorted_of c.args.first ∷ sorted_of c.args.second ∷ [])) (sym a) (k, (l, tt)))
