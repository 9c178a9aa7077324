-- One proof under way behind another.
use Rattle.std.specs.Prelude.{◌≡◌, List, [], ◌∷◌, ◌++◌}
use Rattle.mw_logic.specs.Signature.{Signature}
use Rattle.mw_logic.specs.Proof as proof
use Rattle.mw_deduction.specs.Standing.{Open, entered_of}
use Rattle.mw_deduction.specs.Runs.{both, end}
use Rattle.mw_deduction.specs.Replay.{Stand}

-- S, with what T read and carried out in front
abbrev pub behind_stand : Stand → Stand → Stand
behind_stand T S = record {
  rank = S.rank;
  from = T.from;
  opens = S.opens;
  hand = S.hand;
  read = record { entered = S.read.entered; done = T.read.done ++ S.read.done; ready = S.read.ready };
  run = both T.run S.run;
  sides = S.sides;
}

-- the same of the outermost
abbrev pub all_behind : Stand → List Stand → List Stand
all_behind T [] = []
all_behind T (S ∷ []) = behind_stand T S ∷ []
all_behind T (S ∷ Q ∷ B) = S ∷ all_behind T (Q ∷ B)

-- with these operators open, and no evidence waits
pub record IsAtRest (sig : Signature) (os : List Open) (T : Stand) : Type 0 where
  pub opens : T.opens ≡ os
  pub entered : T.read.entered ≡ entered_of sig os
  pub nothing_waits : T.read.ready ≡ proof.nil
  pub no_sides : T.sides ≡ end
