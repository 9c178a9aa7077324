use Rattle.std.proofs.Common.{◌∙◌, sym, subst}
use Rattle.mw_builtin.specs.Schemata.{AreSchemataOf}
use Rattle.mw_reduce.proofs.turning.take_turn.Goals as goal

pub returns-in-Goes-clause-means : goal.returns-in-Goes-clause-means
returns-in-Goes-clause-means c = λ K k side run here h. rw c.in-Goes.is at (c.in_ok-next.ensures.means K k (rw c.facts.ensures run) (subst (λ m. AreSchemataOf m.signature c.schemata.result.now) (sym here) c.schemata.ensures) h)

pub returns-in-Goes-clause-falls : goal.returns-in-Goes-clause-falls
returns-in-Goes-clause-falls c = λ M e. rw c.in-Goes.is at (c.in_ok-next.ensures.falls M (e ∙ sym c.facts.ensures))

pub returns-in-Ended-clause-means : goal.returns-in-Ended-clause-means
returns-in-Ended-clause-means c = λ K k side run here h. rw c.in-Ended.is at (c.in_ok-next.ensures.means K k (rw c.facts.ensures run) (subst (λ m. AreSchemataOf m.signature c.schemata.result.now) (sym here) c.schemata.ensures) h)

pub returns-in_ok-event-in-Asks-clause-means : goal.returns-in_ok-event-in-Asks-clause-means
returns-in_ok-event-in-Asks-clause-means c = λ K k side run here h.
    let a = rw c.in-Asks.is at (c.in_ok-next.ensures.means K k (rw c.facts.ensures run) (subst (λ m. AreSchemataOf m.signature c.schemata.result.now) (sym here) c.schemata.ensures) h) in
    c.in_ok-event-in-Asks.ensures.means K k side run here a

pub returns-in_ok-event-in-Asks-clause-falls : goal.returns-in_ok-event-in-Asks-clause-falls
returns-in_ok-event-in-Asks-clause-falls c = λ M e.
    let a = rw c.in-Asks.is at (c.in_ok-next.ensures.falls M (e ∙ sym c.facts.ensures)) in
    c.in_ok-event-in-Asks.ensures.falls M _ a

pub returns-in-Decides-clause-means : goal.returns-in-Decides-clause-means
returns-in-Decides-clause-means c = λ K k side run here h. rw c.in-Decides.is at (c.in_ok-next.ensures.means K k (rw c.facts.ensures run) (subst (λ m. AreSchemataOf m.signature c.schemata.result.now) (sym here) c.schemata.ensures) h)
