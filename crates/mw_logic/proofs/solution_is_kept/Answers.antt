use Rattle.mw_logic.proofs.SolutionLaws.{solution_kept}
use Rattle.mw_logic.proofs.solution_is_kept.Goals as goal

pub returns : goal.returns
returns c = λ sig ok fits p q t u s r a b h. solution_kept sig ok fits a b h
