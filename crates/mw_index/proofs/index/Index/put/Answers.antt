use Rattle.std.proofs.Common.{subst, sym, refl}
use Rattle.mw_index.specs.Sections.{Puts}
use Rattle.mw_index.specs.declared.index.Index.{Index}
use Rattle.mw_index.specs.declared.index.Section.{Section}
use Rattle.mw_index.proofs.Putting.{puts_under, puts_any, puts_leaves}
use Rattle.mw_index.proofs.index.Index.put.Goals as goal

pub returns-in_ok-put_under-in-Operator : goal.returns-in_ok-put_under-in-Operator
returns-in_ok-put_under-in-Operator c =
    let new : Index = c.put_under.new.self in
    let h = puts_under c.args.by c.args.self.now new c.in_ok-put_under-in-Operator.ensures.rules c.in-Operator.operator c.in_ok-put_under-in-Operator.ensures.here c.in_ok-put_under-in-Operator.ensures.others c.in_ok-put_under-in-Operator.ensures.any c.in_ok-put_under-in-Operator.ensures.leaves in
    subst (λ (q : Section). Puts q c.args.by c.args.self.now new) (sym c.in-Operator.is) h

pub returns-in_ok-push-in-Any : goal.returns-in_ok-push-in-Any
returns-in_ok-push-in-Any c =
    let new : Index = record { by_top = c.args.self.now.by_top; any = c.push.new.self; leaves = c.args.self.now.leaves; rules = c.args.self.now.rules } in
    subst (λ (q : Section). Puts q c.args.by c.args.self.now new) (sym c.in-Any.is) (puts_any c.args.by c.args.self.now new refl (λ g. refl) c.in_ok-push-in-Any.ensures.items refl)

pub returns-in_ok-push-in-Leaves : goal.returns-in_ok-push-in-Leaves
returns-in_ok-push-in-Leaves c =
    let new : Index = record { by_top = c.args.self.now.by_top; any = c.args.self.now.any; leaves = c.push-in-Leaves.new.self; rules = c.args.self.now.rules } in
    subst (λ (q : Section). Puts q c.args.by c.args.self.now new) (sym c.in-Leaves.is) (puts_leaves c.args.by c.args.self.now new refl (λ g. refl) refl c.in_ok-push-in-Leaves.ensures.items)
