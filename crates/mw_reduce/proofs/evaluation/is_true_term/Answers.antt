use Rattle.std.proofs.Common.{Bool, true, false, IsTrue, refl}
use Rattle.std.proofs.lemmas.Bool.{both_ways}
use Rattle.mw_logic.specs.Term.{RawTerm}
use Rattle.mw_logic.specs.Signature.{Signature}
use Rattle.mw_logic.specs.Module.{IsTruth}
use Rattle.mw_reduce.proofs.Deciding.{not_both}
use Rattle.mw_reduce.proofs.evaluation.is_true_term.Goals as goal

told : (sig : Signature) (a : RawTerm) (b : Bool) → IsTruth sig b a → (IsTrue b → IsTruth sig true a) × (IsTruth sig true a → IsTrue b)
told sig a true t = (λ e. t, λ k. refl)
told sig a false t = (λ e. absurd (both_ways false refl e), λ k. absurd (not_both sig a t k))

pub returns-in-Some : goal.returns-in-Some
returns-in-Some c = told c.args.context.now.signature c.args.term.now c.in-Some.truth (c.in-Some.ensures c.args.context.now.signature c.schemata.ensures)

pub returns-in-None : goal.returns-in-None
returns-in-None c = (λ e. absurd (both_ways false refl e), λ k. absurd (c.in-None.ensures c.args.context.now.signature c.schemata.ensures true k))
