use Rattle.std.proofs.Common.{sym, subst, refl}
use Rattle.mw_deduction.specs.Replay.{begun}
use Rattle.mw_prooftext.specs.Told.{IsTold}
use Rattle.mw_prooftext.proofs.Telling.{begun_told}
use Rattle.mw_prooftext.proofs.chains.Chain.new.Goals as goal

pub returns-clause-chain : goal.returns-clause-chain
returns-clause-chain c = λ M n canonical. record {
  place = c.new.ensures M.signature (begun n c.args.from) refl refl;
  told = subst (λ g. IsTold M c.args.text.items c.args.outer c.args.text.items g (begun n c.args.from)) (sym c.new-2.ensures.items) (begun_told M c.args.text.items c.args.outer n c.args.from canonical);
}
