use Rattle.std.proofs.Common.{refl, sym, subst}
use Rattle.mw_deduction.specs.Replay.{going_out}
use Rattle.mw_spot.specs.Walks.{IsAt}
use Rattle.mw_prooftext.proofs.Telling.{told_same}
use Rattle.mw_prooftext.proofs.Wholes.{out_same}
use Rattle.mw_prooftext.proofs.chains.Chain.leave.Goals as goal

pub returns : goal.returns
returns c = λ M S o os is stands opens. (
  refl,
  λ head h. record {
    place = subst (λ sig. IsAt sig c.leave.new.self (going_out sig S.opens S)) (sym is) (c.in_ok-leave.ensures M S is (subst (λ sig. IsAt sig c.args.self.walk S) is h.place) stands);
    told = told_same M S _ (out_same M.signature S o os opens) h.told;
  },
)
