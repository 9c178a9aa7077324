-- A row is met at the first two of several arguments.
use Rattle.std.specs.Prelude.{◌≡◌, ℕ, true, None}
use Rattle.mw_logic.specs.Term.{RawTerm, numeral, apply, nil, cons}
use Rattle.mw_logic.specs.Signature.{Signature}
use Rattle.mw_logic.specs.Parts.{is_assoc}
use Rattle.mw_logic.specs.NormalForm.{is_comm, identity_of}
use Rattle.mw_logic.specs.Judgements.{admitted_judgements}
use Rattle.mw_deduction.specs.Tops.{NothingAtTops}
use Rattle.mw_frames.specs.State.{Run}
use Rattle.mw_frames.specs.Redex.{IsRowOf}

-- the order of arguments doesn't matter, and none is ever left out
pub record IsJoining (sig : Signature) (f : ℕ) : Type 0 where
  pub assoc : is_assoc sig f ≡ true
  pub comm : is_comm sig f ≡ true
  pub whole : identity_of sig f ≡ None

-- A row leads from f on two arguments to a numeral, at which nothing applies.
pub record IsPairMet (K : Run) (f : ℕ) (x y to : RawTerm) : Type 0 where
  pub joins : IsJoining K.over.signature f
  pub row : IsRowOf K.over K.rank (apply f (cons x (cons y nil))) to
  pub number : ℕ
  pub gives : to ≡ numeral number
  pub nothing : NothingAtTops K.over (admitted_judgements K.over K.rank).Fails to
