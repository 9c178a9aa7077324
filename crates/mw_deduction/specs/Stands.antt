-- What a stand shows: it was led to by the replacements that it has read, in its rank, and these carry out its run.
use Rattle.std.specs.Prelude.{List, [], ◌∷◌, ⊤}
use Rattle.mw_logic.specs.Parts.{nested}
use Rattle.mw_logic.specs.Module.{Module}
use Rattle.mw_logic.specs.Judgements.{admitted_judgements}
use Rattle.mw_deduction.specs.Chains.{proof_of}
use Rattle.mw_deduction.specs.Standing.{At}
use Rattle.mw_deduction.specs.Runs.{Dones, Runs, Carries, CarriesAll, SameDones, SameRuns}
use Rattle.mw_deduction.specs.Replay.{Stand}

pub record IsStanding (M : Module) (S : Stand) : Type 0 where
  pub at : At M (admitted_judgements M S.rank).Held (admitted_judgements M S.rank).Fails (nested M.signature S.from) S.read S.opens S.hand
  -- the replacements, with the raw terms between them, and the evidence that waits
  pub done : Dones
  pub carries : Carries M.signature [] (proof_of S.read.done) (nested M.signature S.from) at.whole done
  pub same : SameDones M.signature S.run done
  pub sides : Runs
  pub shown : CarriesAll M.signature S.read.ready sides
  pub same_sides : SameRuns M.signature S.sides sides

abbrev pub AreStanding : Module → List Stand → Type 0
AreStanding M [] = ⊤
AreStanding M (S ∷ B) = IsStanding M S × AreStanding M B
