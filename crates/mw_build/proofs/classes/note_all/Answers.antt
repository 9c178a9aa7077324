use Rattle.std.proofs.Common.{take, subst}
use Rattle.mw_module.specs.Units.{seen_all}
use Rattle.mw_build.specs.Classes.{declared_in, AreRolesOf}
use Rattle.mw_build.proofs.Roles.{declared_more}
use Rattle.mw_build.proofs.classes.note_all.Goals as goal

pub loop-statement-preserved : goal.loop-statement-preserved
loop-statement-preserved c = λ are.
    let all = c.args.statements.now in
    let i = c.loop-statement.statement-index in
    subst (λ es. AreRolesOf c.args.target.now es c.note_form.new.roles) (declared_more all i c.statement-item.result c.loop-statement-test.true c.statement-item.is)
    (c.in_ok-note_form.ensures (declared_in (seen_all (take i all))) (c.loop-statement.invariant are))
