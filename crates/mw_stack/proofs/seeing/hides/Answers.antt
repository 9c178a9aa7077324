use Rattle.std.proofs.Common.{refl}
use Rattle.std.proofs.lemmas.Bool.{false≢true}
use Rattle.mw_stack.proofs.Under.{counts_nothing, none_hidden, numeral_hidden, identity_hidden}
use Rattle.mw_stack.proofs.seeing.hides.Goals as goal

pub returns-in-Plain : goal.returns-in-Plain
returns-in-Plain c =
    let (n, s) = counts_nothing c.args.facts.now c.args.operator c.axioms.result c.axioms.ensures c.in-Plain.is in
    (λ h. absurd (false≢true h), λ k. absurd (none_hidden c.args.facts.now c.args.operator c.args.term.now n s k))

pub returns-in-Nat : goal.returns-in-Nat
returns-in-Nat c = numeral_hidden c.args.facts.now c.args.operator c.args.term.now c.in-Nat.number _ c.in-Successor.ensures.0 c.in-Successor.ensures.2 c.in-Nat.ensures refl

pub returns-in-Associative : goal.returns-in-Associative
returns-in-Associative c = identity_hidden c.args.facts.now c.shows.ensures c.args.operator c.args.term.now c.in-Associative.ensures.0 c.parts.result.now c.is_empty.result c.parts.ensures c.is_empty.ensures
