-- What a kept deduction says.
use Rattle.std.specs.Prelude.{◌≡◌, ◌≤◌, ℕ, List, [], ◌∷◌}
use Rattle.mw_logic.specs.Term.{RawTerm, numeral}
use Rattle.mw_logic.specs.Parts.{nested}
use Rattle.mw_logic.specs.Module.{Module}
use Rattle.mw_logic.specs.Proof.{Proof, nil}
use Rattle.mw_logic.specs.Judgements.{Proves, admitted_judgements}
use Rattle.mw_canon.specs.Canonical.{IsAdmittedTerm}
use Rattle.mw_deduction.specs.Runs.{Dones, run, Denotes}
use Rattle.mw_deduction.specs.Replay.{Stand, begun, plays, AreMoves, concluded}
use Rattle.mw_trail.specs.Tracks.{Track, moves}

-- a proof over a module in a rank, the canonical terms that it leads from and to, and what it carries out
pub record Deduction : Type 0 where
  pub over : Module
  pub rank : ℕ
  pub from : RawTerm
  pub to : RawTerm
  pub proof : Proof
  pub run : Dones

-- It proves that in its rank, which is one of 0 to 63, and each term that it reaches, in evidence too, is admitted; its run is carried out by it, modulo the
-- axioms.
pub record IsDeduction (d : Deduction) : Type 0 where
  pub low : d.rank ≤ 63
  pub proves : Proves d.over d.rank d.proof (nested d.over.signature d.from) (nested d.over.signature d.to)
  pub admitted : (admitted_judgements d.over d.rank).Proves d.proof (nested d.over.signature d.from) (nested d.over.signature d.to)
  pub denotes : Denotes d.over.signature (run (nested d.over.signature d.from) (nested d.over.signature d.to) d.run) d.proof
  pub begins : IsAdmittedTerm d.over.signature d.from
  pub ends : IsAdmittedTerm d.over.signature d.to

-- the first of the stands, where there is one
abbrev pub first_of : List Stand → Stand
first_of [] = begun 0 (numeral 0)
first_of (S ∷ B) = S

-- where the moves of a trail end that begins at t, in rank n
abbrev pub end_of : Module → ℕ → RawTerm → Track → Stand
end_of M n t k = first_of (plays M (moves M k) (begun n t ∷ []))

-- the deduction that they are
abbrev pub deduced : Module → ℕ → RawTerm → RawTerm → Track → Deduction
deduced M n t u k = record { over = M; rank = n; from = t; to = u; proof = concluded (end_of M n t k); run = (end_of M n t k).run }

-- The moves may be made in rank n, and end in one stand, at u, where no operator is open and no evidence waits for its statement.
pub record IsKept (M : Module) (n : ℕ) (t u : RawTerm) (k : Track) : Type 0 where
  pub low : n ≤ 63
  pub begins : IsAdmittedTerm M.signature t
  pub made : AreMoves M (moves M k) (begun n t ∷ [])
  pub last : Stand
  pub stands : plays M (moves M k) (begun n t ∷ []) ≡ last ∷ []
  pub closed : last.opens ≡ []
  pub used : last.read.ready ≡ nil
  pub reaches : last.hand ≡ u
