use Rattle.mw_carry.proofs.Kept.{IsRawTerm-carried, HasKind-carried, sorts-carried}
use Rattle.mw_carry.proofs.laws.carried_terms_stay.Goals as goal

pub returns : goal.returns
returns c = record {
  raw = λ sig to t u part numbers ok is raw. IsRawTerm-carried sig to part numbers ok is raw;
  kinds = λ sig to t u K L part numbers ok is kind same. HasKind-carried sig to part numbers ok is kind same;
  sorts = λ sig to t u is. sorts-carried sig to is;
}
