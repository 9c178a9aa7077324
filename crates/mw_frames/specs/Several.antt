-- Several arguments of a term, and not all of them.
use Rattle.std.specs.Prelude.{◌<◌, ℕ, List, length}
use Rattle.mw_logic.specs.Term.{RawTerm}
use Rattle.mw_logic.specs.Signature.{Signature}
use Rattle.mw_logic.specs.Parts.{number_of_terms}
use Rattle.mw_arguments.specs.Places.{Takes}

-- w is what these numbers take of t
pub record IsSeveral (sig : Signature) (ks : List ℕ) (t w : RawTerm) : Type 0 where
  pub takes : Takes sig ks t w
  pub proper : length ks < number_of_terms takes.args
