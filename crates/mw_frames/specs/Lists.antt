-- A long list that begins the arguments of a frame.
use Rattle.std.specs.Prelude.{◌≡◌, ◌≤◌, ℕ, List, [], ◌∷◌, ◌++◌, length, true, false}
use Rattle.mw_logic.specs.Term.{RawTerm, apply}
use Rattle.mw_logic.specs.Terms.{terms_of}
use Rattle.mw_logic.specs.Signature.{Signature}
use Rattle.mw_logic.specs.Parts.{is_assoc}
use Rattle.mw_logic.specs.NormalForm.{is_comm}
use Rattle.mw_frames.specs.declared.job.Job.{Job}
use Rattle.mw_frames.specs.declared.job.Job.TheVariants.{Normal}

-- one job waits behind others, so many, and is known to be normal
pub record EndsNormal (jobs : List Job) (waits : ℕ) : Type 0 where
  pub others : List Job
  pub last : RawTerm
  pub are : jobs ≡ others ++ Normal last ∷ []
  pub count : length others ≡ waits

-- a long list of elements of an operator that is associative and keeps their order
pub record IsLongList (sig : Signature) (f : ℕ) (t : RawTerm) : Type 0 where
  pub assoc : is_assoc sig f ≡ true
  pub ordered : is_comm sig f ≡ false
  pub elements : List RawTerm
  pub several : 2 ≤ length elements
  pub is : t ≡ apply f (terms_of elements)
