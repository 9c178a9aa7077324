-- The machine's data as they are seen.
use Rattle.std.specs.Prelude.{◌≡◌, ◌<◌, ◌≤◌, ℕ, suc, List, [], ◌∷◌, ◌++◌, false, reverse}
use Rattle.mw_logic.specs.Term.{RawTerm, RawTerms, nil, cons, join}
use Rattle.mw_logic.specs.Terms.{front, skip}
use Rattle.mw_logic.specs.Signature.{Signature}
use Rattle.mw_logic.specs.Module.{Module}
use Rattle.mw_logic.specs.Parts.{number_of_terms}
use Rattle.mw_logic.specs.NormalForm.{is_comm, arranged}
use Rattle.mw_deduction.specs.Replay.{Move}
use Rattle.mw_trail.specs.Tracks.{Track, moves}
use Rattle.mw_frames.specs.declared.job.Job.{Job}
use Rattle.mw_frames.specs.declared.job.Frame.{Frame}
use Rattle.mw_frames.specs.declared.job.Hand.{Hand}
use Rattle.mw_frames.specs.Jobs.{work}
use Rattle.mw_frames.specs.State.{Data, work_of}
use Rattle.mw_frames.specs.declared.machine.Machine.{Machine}

abbrev pub data_of : Module → Machine → Data
data_of M m = record { frames = reverse m.frames.items; done = m.done.items; jobs = m.jobs.items; values = m.kept.values; moves = moves M m.kept }

-- the moves of several trails, one after another
abbrev pub all_moves : Module → List Track → List Move
all_moves M [] = []
all_moves M (t ∷ ts) = moves M t ++ all_moves M ts

-- one job more waits
abbrev pub with_job : Data → Job → Data
with_job d x = record { frames = d.frames; done = d.done; jobs = d.jobs ++ x ∷ []; values = d.values; moves = d.moves }

-- less is left than when nothing was in hand in the frame f
abbrev pub FallsFrom : Module → Frame → Data → Machine → Hand → Type 0
FallsFrom M f old new h = work_of M.signature (data_of M new) h < suc (work M.signature old.values (f ∷ old.frames) old.jobs)

-- no more is left, with nothing in hand in the frame
abbrev pub StaysFrom : Module → Frame → Data → Machine → Type 0
StaysFrom M f old new = work M.signature (data_of M new).values (f ∷ (data_of M new).frames) (data_of M new).jobs ≤ work M.signature old.values (f ∷ old.frames) old.jobs

-- Own arguments of a frame, in order, are cut where the term x comes among them.
pub record IsCutAt (sig : Signature) (f : ℕ) (own : RawTerms) (x : RawTerm) (i : ℕ) : Type 0 where
  pub bound : i ≤ number_of_terms own
  pub behind : is_comm sig f ≡ false → skip i own ≡ nil
  pub cut : (waiting : RawTerms) → arranged (is_comm sig f) (cons x waiting) ≡ cons x waiting
      → arranged (is_comm sig f) (join own (cons x waiting)) ≡ join (front i own) (cons x (arranged (is_comm sig f) (join (skip i own) waiting)))
