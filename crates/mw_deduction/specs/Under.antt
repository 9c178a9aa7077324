-- A proof under way with more operators put round the whole of it.
use Rattle.std.specs.Prelude.{List, [], ◌∷◌, ◌++◌, map, IsTrue, ⊤}
use Rattle.mw_logic.specs.Term.{RawTerm, plug}
use Rattle.mw_logic.specs.Signature.{Signature}
use Rattle.mw_logic.specs.Parts.{nested, IsAdmitted, IsFrozen}
use Rattle.mw_logic.specs.NormalForm.{normal_form}
use Rattle.mw_logic.specs.Module.{Module, Statement, IsStatement}
use Rattle.mw_deduction.specs.Places.{place_of}
use Rattle.mw_deduction.specs.Chains.{within}
use Rattle.mw_deduction.specs.Standing.{Open, round, entered_of, IsSeen}
use Rattle.mw_deduction.specs.Runs.{Done, by_statement, by_row, Dones, none, more}
use Rattle.mw_deduction.specs.Replay.{Stand, whole}

-- what a term means with these operators round it
abbrev pub under_term : Signature → List Open → RawTerm → RawTerm
under_term sig os t = nested sig (whole sig os (normal_form sig t))

-- a run with them round each whole term; the sides of conditions stay
abbrev pub under_done : Signature → List Open → Done → Done
under_done sig os (by_statement k s rs t u) = by_statement k s rs (under_term sig os t) (under_term sig os u)
under_done sig os (by_row t u) = by_row (under_term sig os t) (under_term sig os u)

abbrev pub under_dones : Signature → List Open → Dones → Dones
under_dones sig os none = none
under_dones sig os (more d ds) = more (under_done sig os d) (under_dones sig os ds)

-- the stand with them outside its own, and each replacement so much further in
abbrev pub under_stand : Signature → List Open → Stand → Stand
under_stand sig os S = record {
  rank = S.rank;
  from = S.from;
  opens = S.opens ++ os;
  hand = S.hand;
  read = record { entered = S.read.entered ++ entered_of sig os; done = map (within (place_of (round sig os))) S.read.done; ready = S.read.ready };
  run = under_dones sig os S.run;
  sides = S.sides;
}

-- the same of the outermost
abbrev pub all_under : Signature → List Open → List Stand → List Stand
all_under sig os [] = []
all_under sig os (S ∷ []) = under_stand sig os S ∷ []
all_under sig os (S ∷ Q ∷ B) = S ∷ all_under sig os (Q ∷ B)

-- A replacement that may be made under them too: the whole term before it is seen there, and with them round it the whole after it is admitted.
pub record IsFitUnder (sig : Signature) (os : List Open) (t u : RawTerm) : Type 0 where
  pub seen : IsSeen sig os (normal_form sig t)
  pub admitted : IsAdmitted sig (plug (round sig os) u)

-- by a rule only where their hole isn't frozen
abbrev pub MayBeUnder : Module → List Open → Done → Type 0
MayBeUnder M os (by_statement k s rs t u) = IsFitUnder M.signature os t u × ((e : Statement) → IsStatement M k e → IsTrue e.rule → ¬ IsFrozen M.signature (round M.signature os))
MayBeUnder M os (by_row t u) = IsFitUnder M.signature os t u

-- each replacement of a run
abbrev pub AllMayBeUnder : Module → List Open → Dones → Type 0
AllMayBeUnder M os none = ⊤
AllMayBeUnder M os (more d ds) = MayBeUnder M os d × AllMayBeUnder M os ds
