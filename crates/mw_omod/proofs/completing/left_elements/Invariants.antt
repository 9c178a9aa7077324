use Rattle.std.proofs.Common.{◌++◌, List, length, map, suc, drop}
use Rattle.mw_logic.specs.Term.{RawTerm}
use Rattle.mw_logic.specs.Signature.{Signature}
use Rattle.mw_logic.specs.Accepted.{IsAccepted}
use Rattle.mw_term.specs.Raws.{raw_term}
use Rattle.mw_omod.specs.Completion.{LeftBecomes, AreCompleted}
use Rattle.mw_omod.specs.Seen.{AreOfSide, AreKept, terms_seen}
use Rattle.mw_omod.proofs.completing.left_elements.Given as goal

abbrev pub invariant-loop-element : goal.invariant-loop-element
invariant-loop-element l = (sig : Signature) (t : RawTerm) → IsAccepted sig → AreKept sig l.classes l.lefts → AreOfSide sig l.classes t l.rights → (us : List RawTerm)
    → AreCompleted (LeftBecomes sig l.classes t) (suc (length l.made.items)) (terms_seen (drop l.element-index l.lefts)) us → AreCompleted (LeftBecomes sig l.classes t) 1 (terms_seen l.lefts) (map raw_term l.made.items ++ us)
