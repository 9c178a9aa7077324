use Rattle.std.proofs.Common.{◌≡◌, ◌∙◌, Some, ap, subst, sym}
use Rattle.mw_logic.specs.Signature.{Signature, at_number}
use Rattle.mw_logic.specs.Module.{Module}
use Rattle.mw_poset.specs.SortOrder.{SortOrder}
use Rattle.mw_term.specs.Shapes.{viewed}
use Rattle.mw_least.specs.Workable.{IsWorkable}
use Rattle.mw_logic.specs.Terms.{args_of, terms_of}
use Rattle.mw_least.specs.Sure.{AreAllApart}
use Rattle.mw_least.specs.Closed.{IsClosedFor, Has}
use Rattle.mw_least.proofs.Homes.{closed_on_all, closed_on_made}
use Rattle.mw_least.proofs.context.Ctx.is_closed_over.Goals as goal

pub returns-then-are_made : goal.returns-then-are_made
returns-then-are_made c =
    let sig = c.args.self.now.signature in
    let f = c.in-Op.operator in
    let o = c.in-Some.operator.now in
    let S = c.args.sort in
    let os = c.as_slice.ensures ∙ ap (λ (s : Signature). s.operators) (c.behind-self.view_is ∙ c.signature.ensures) in
    let is = subst (λ xs. at_number xs f ≡ Some o) os (sym (rw c.in-Some.is at c.numbered.ensures)) in
    let applied = c.view.ensures ∙ ap viewed c.in-Op.is in
    let work = subst IsWorkable c.self.view_is c.self.invariant.workable in
    let pairs = ap (λ (s : SortOrder). s.pairs) c.self.invariant.order ∙ ap (λ (M : Module). M.signature.pairs) c.self.view_is in
    let closed = subst (λ ps. IsClosedFor ps o S) pairs (c.is_closed_for.ensures c.if-is_closed_for.true) in
    let (d, kept, below, apart) = c.are_made.ensures c.if-are_made.true in
    λ _. subst (Has sig S) (sym applied) (closed_on_made sig work.signature work.numbers d kept S below f o is closed (terms_of c.in-Op.args.now) (subst (AreAllApart d.outside) (ap args_of applied) apart))

pub returns-else-are_made : goal.returns-else-are_made
returns-else-are_made c =
    let sig = c.args.self.now.signature in
    let f = c.in-Op.operator in
    let o = c.in-Some.operator.now in
    let S = c.args.sort in
    let os = c.as_slice.ensures ∙ ap (λ (s : Signature). s.operators) (c.behind-self.view_is ∙ c.signature.ensures) in
    let is = subst (λ xs. at_number xs f ≡ Some o) os (sym (rw c.in-Some.is at c.numbered.ensures)) in
    let applied = c.view.ensures ∙ ap viewed c.in-Op.is in
    let work = subst IsWorkable c.self.view_is c.self.invariant.workable in
    let pairs = ap (λ (s : SortOrder). s.pairs) c.self.invariant.order ∙ ap (λ (M : Module). M.signature.pairs) c.self.view_is in
    let closed = subst (λ ps. IsClosedFor ps o S) pairs (c.is_closed_for.ensures c.if-is_closed_for.true) in
    λ h. subst (Has sig S) (sym applied) (closed_on_all sig work.signature work.numbers S f o is closed c.in-Op.args.now (c.all_have.ensures h))
