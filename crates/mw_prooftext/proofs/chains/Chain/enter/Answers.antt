use Rattle.std.proofs.Common.{refl}
use Rattle.mw_prooftext.proofs.Telling.{told_same}
use Rattle.mw_prooftext.proofs.Wholes.{into_same}
use Rattle.mw_prooftext.proofs.chains.Chain.enter.Goals as goal

pub returns : goal.returns
returns c = λ M S ok stands may. (
  refl,
  λ head h. record {
    place = c.in_ok-enter.ensures M.signature S ok h.place stands.at.canonical may;
    told = told_same M S _ (into_same M.signature S c.args.number may stands.at.canonical) h.told;
  },
)
