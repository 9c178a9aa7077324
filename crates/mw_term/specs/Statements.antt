-- Fragments as the logic has them.
use Rattle.mw_logic.specs.Module as logic
use Rattle.mw_term.specs.Raws.{raw_term}
use Rattle.mw_term.specs.Signatures.{sorted_of}
use Rattle.mw_term.specs.declared.statement.Fragment.{Fragment}
use Rattle.mw_term.specs.declared.statement.Fragment.TheVariants.{Equal, Match, HasSort, Holds}

abbrev pub fragment_of : Fragment → logic.Fragment
fragment_of (Equal u v) = logic.equal (raw_term u) (raw_term v)
fragment_of (Match p t) = logic.matches (raw_term p) (raw_term t)
fragment_of (HasSort t s) = logic.has_sort (raw_term t) (sorted_of s)
fragment_of (Holds b) = logic.is_true (raw_term b)
