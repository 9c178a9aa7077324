use Rattle.std.proofs.Common.{refl}
use Rattle.mw_prooftext.proofs.Telling.{told_same}
use Rattle.mw_prooftext.proofs.Wholes.{among_same}
use Rattle.mw_prooftext.proofs.chains.Chain.among.Goals as goal

pub returns : goal.returns
returns c = λ M S ok stands may. (
  refl,
  λ head h. record {
    place = c.in_ok-among.ensures M.signature S ok h.place stands.at.canonical may;
    told = told_same M S _ (among_same M ok S c.args.numbers.now may stands.at.canonical) h.told;
  },
)
