use Rattle.std.proofs.Common.{subst}
use Rattle.mw_logic.specs.Parts.{nested}
use Rattle.mw_frames.specs.Fires.{Refuses}
use Rattle.mw_frames.proofs.applying.refuse.Goals as goal

pub returns-then-deep-clause-means : goal.returns-then-deep-clause-means
returns-then-deep-clause-means c = λ K b k run h refuses.
    let (z, e) = c.in_ok-whole.ensures K k run (record { stand = h.stand; leads = h.leads; opened = h.opened; hand = h.hand }) in
    (z, subst (λ d. Refuses K b d (nested K.over.signature c.in_ok-whole.whole)) c.if-deep.true (refuses c.in_ok-whole.whole e))

pub returns-clause-means : goal.returns-clause-means
returns-clause-means c = λ K b k run h refuses.
    let (z, e) = c.in_ok-whole.ensures K k run (record { stand = h.stand; leads = h.leads; opened = h.opened; hand = h.hand }) in
    (z, subst (λ d. Refuses K b d (nested K.over.signature c.in_ok-whole.whole)) c.if-deep.false (refuses c.in_ok-whole.whole e))

pub returns-then-deep-clause-same : goal.returns-then-deep-clause-same
returns-then-deep-clause-same c = λ K k run h. (c.in_ok-whole.ensures K k run (record { stand = h.stand; leads = h.leads; opened = h.opened; hand = h.hand })).1

pub returns-clause-same : goal.returns-clause-same
returns-clause-same c = λ K k run h. (c.in_ok-whole.ensures K k run (record { stand = h.stand; leads = h.leads; opened = h.opened; hand = h.hand })).1
