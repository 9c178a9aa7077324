-- Several arguments of the term in hand are taken; the others come to a frame of their own, round what is taken.
use Rattle.std.specs.Prelude.{◌≡◌, ℕ, ◌-◌, List, [], ◌∷◌, ◌++◌, take, drop, true, false}
use Rattle.mw_logic.specs.Term.{RawTerm, RawTerms, apply, nil, cons, join}
use Rattle.mw_logic.specs.Terms.{terms_of, front, skip}
use Rattle.mw_logic.specs.Signature.{Signature}
use Rattle.mw_logic.specs.Parts.{is_assoc}
use Rattle.mw_logic.specs.NormalForm.{is_comm, applied_in}
use Rattle.mw_logic.proofs.Canonical.{IsCanonical}
use Rattle.mw_arguments.specs.Places.{others}
use Rattle.mw_deduction.specs.Standing.{round}
use Rattle.mw_deduction.specs.Replay.{Stand, opened, whole}
use Rattle.mw_deduction.proofs.Depths.{level_in}
use Rattle.mw_frames.specs.Fair.{IsFair}
use Rattle.mw_frames.specs.declared.job.Job.{Job}
use Rattle.mw_frames.specs.declared.job.Job.TheVariants.{Normal}
use Rattle.mw_frames.specs.declared.job.Frame.{Frame}
use Rattle.mw_frames.specs.Jobs.{rest, arguments, AreOpened}
use Rattle.mw_frames.specs.State.{Run, Data, Leads, AreGood}
use Rattle.mw_frames.specs.Steps.{IsAsked}

-- the arguments before the first one that has one of these numbers, and the others behind it
abbrev pub before_taken : List ℕ → RawTerms → RawTerms
before_taken [] ts = ts
before_taken (k ∷ ks) ts = front (k - 1) ts

abbrev pub behind_taken : List ℕ → RawTerms → RawTerms
behind_taken [] ts = nil
behind_taken (k ∷ ks) ts = others k (k ∷ ks) (skip (k - 1) ts)

-- terms that are normal wait, the first one next
abbrev pub waiting_normal : List RawTerm → List Job
waiting_normal [] = []
waiting_normal (t ∷ ts) = waiting_normal ts ++ Normal t ∷ []

-- What is left of the arguments: all of them are done where their order doesn't matter, else those before are done and those behind wait.
pub record IsLeft (sig : Signature) (f : ℕ) (ks : List ℕ) (args : RawTerms) (done : List RawTerm) (waits : List Job) : Type 0 where
  pub behind : List RawTerm
  pub jobs : waits ≡ waiting_normal behind
  pub together : is_comm sig f ≡ true → (terms_of done ≡ join (before_taken ks args) (behind_taken ks args)) × (behind ≡ [])
  pub apart : is_comm sig f ≡ false → (terms_of done ≡ before_taken ks args) × (terms_of behind ≡ behind_taken ks args)

-- What is taken is in hand, in a frame of the associative operator on top of it, where the stand S had the whole in hand.
pub record IsPartAsked (K : Run) (count : ℕ) (m : Data) (f : Frame) (w : RawTerm) (S : Stand) : Type 0 where
  pub asked : IsAsked K count m w
  pub outer : List Frame
  pub inner : m.frames ≡ f ∷ outer
  pub assoc : is_assoc K.over.signature f.op ≡ true
  pub args : RawTerms
  pub is : w ≡ apply f.op args
  pub before : RawTerms
  pub after : RawTerms
  pub opens : asked.holds.stand.opens ≡ opened f.op before after ∷ S.opens
  pub same : whole K.over.signature asked.holds.stand.opens asked.holds.stand.hand ≡ whole K.over.signature S.opens S.hand

-- A term t comes to a frame f of an associative operator, in front of what waits in it; none is in hand.
pub record Receives (K : Run) (count : ℕ) (m : Data) (f : Frame) (t : RawTerm) : Type 0 where
  pub stand : Stand
  pub leads : Leads K count m.moves stand
  pub opened : AreOpened K.over.signature m.values m.frames (take f.from m.done) (take f.waits m.jobs) stand.opens
  pub level : f.level ≡ level_in K.over.signature (round K.over.signature stand.opens) (apply f.op nil)
  pub hand : stand.hand ≡ applied_in K.over.signature f.op (join (terms_of (drop f.from m.done)) (cons t (rest K.over.signature m.values (drop f.waits m.jobs))))
  pub assoc : is_assoc K.over.signature f.op ≡ true
  pub canonical : IsCanonical K.over.signature t
  pub fair : IsFair K.over.signature f.op (arguments K.over.signature m.values f m.done m.jobs)
  pub good : AreGood K.over K.rank m.values (f ∷ m.frames) m.done m.jobs
