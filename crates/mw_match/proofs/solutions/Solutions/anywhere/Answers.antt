use Rattle.std.proofs.Common.{[], refl}
use Rattle.std.proofs.lemmas.Option.{none-some}
use Rattle.mw_logic.specs.Signature.{Signature}
use Rattle.mw_solving.specs.Values.{AreValues}
use Rattle.mw_match.proofs.solutions.Solutions.anywhere.Goals as goal

none_valued : (sig : Signature) → AreValues sig []
none_valued sig i u e = absurd (none-some u e)

pub returns-clause-all : goal.returns-clause-all
returns-clause-all c p raw h v = c.in_parts.ensures.all p [] refl raw h v tt (none_valued c.args.context.now.signature)

pub returns-clause-named : goal.returns-clause-named
returns-clause-named c p raw h v = c.in_parts.ensures.named p [] refl raw h v tt (none_valued c.args.context.now.signature)
