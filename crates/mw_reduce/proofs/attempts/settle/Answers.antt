use Rattle.std.proofs.Common.{ap, sym, subst, ◌∙◌, ◌∷◌, ◌++◌, []}
use Rattle.mw_logic.specs.Term.{RawTerm}
use Rattle.mw_index.specs.Choices.{tried_of}
use Rattle.mw_index.specs.declared.choices.Choice.{Choice}
use Rattle.mw_frames.specs.Machines.{data_of}
use Rattle.mw_frames.specs.Steps.{asked_term}
use Rattle.mw_reduce.specs.Attempts.{IsHaltingAt}
use Rattle.mw_reduce.proofs.Asks.{failed_more}
use Rattle.mw_reduce.proofs.attempts.settle.Goals as goal

pub returns-clause-means : goal.returns-clause-means
returns-clause-means c = λ K k side old run here found is h.
    c.in_ok-event-in-Fails.ensures.means K k side (found.tried ++ tried_of old ∷ []) run here found.asked found.rows
    (failed_more K.over K.rank found.tried (tried_of old) found.failed (rw c.in-Fails.is at h)) found.others

pub returns-in-Made-clause-means : goal.returns-in-Made-clause-means
returns-in-Made-clause-means c = λ K k side old run here found is h.
    record { asked = found.asked; made = rw c.in-Made.is at h; equation = ap (λ (x : Choice). x.by.now.rule) is ∙ found.equation }

pub returns-in-Halts-clause-means : goal.returns-in-Halts-clause-means
returns-in-Halts-clause-means c = λ K k side old run here found is h.
    let t : RawTerm = asked_term (data_of K.over c.args.machine.now) c.args.asked in
    let halting : IsHaltingAt K.over old.by.now.rule K.rank side t old.take c.in-Halts.reason = rw c.in-Halts.is at h in
    let taken : IsHaltingAt K.over old.by.now.rule K.rank side t c.args.choice.take c.in-Halts.reason = subst (λ o. IsHaltingAt K.over old.by.now.rule K.rank side t o c.in-Halts.reason) (sym (ap (λ (x : Choice). x.take) is)) halting in
    record { asked = found.asked; halting = subst (λ b. IsHaltingAt K.over b K.rank side t c.args.choice.take c.in-Halts.reason) found.equation taken }
