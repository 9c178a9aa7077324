use Rattle.std.proofs.Common.{◌≡◌, ◌<◌, ◌∙◌, ap, sym, subst, length, refl, IfOk, arith}
use Rattle.std.proofs.lemmas.Result.{IfOk-weaker}
use Rattle.mw_logic.specs.NormalForm.{is_comm, identity_of, arranged, applied_in}
use Rattle.mw_logic.proofs.Canonical.{Each, IsElement, AreCanonical, arranged-twice}
use Rattle.mw_stack.specs.Own.{own, own_with}
use Rattle.mw_stack.proofs.LongLists.{list_closed}
use Rattle.mw_stack.proofs.closing.close_before.Goals as goal

pub returns-then-is_list-clause-is : goal.returns-then-is_list-clause-is
returns-then-is_list-clause-is c = λ l o p k e.
    let A = c.if-is_list.ensures in
    let (u, us, q) = A.some refl in
    let some : c.args.from < length c.args.done.now.items = omega (arith, c.len.ensures, c.args.done.now.ok.0, c.if-len-from.true) in
    IfOk-weaker c.apply_onto.result _ _ (λ t h. h ∙ list_closed c.args.facts.now c.args.operator c.args.from c.args.done.now.items c.args.last u us q (A.assoc refl) (A.order refl) some (e (A.assoc refl))) c.apply_onto.ensures.is

pub returns-clause-is : goal.returns-clause-is
returns-clause-is c = λ l o p k e.
    let sig = c.args.facts.now in
    let f = c.args.operator in
    let r : own c.args.from c.put.new.done.items ≡ own_with sig f c.args.from c.args.done.now.items c.args.last = c.in_ok-put.ensures.own l o p in
    subst (λ ts. IfOk c.close.result (λ t. t ≡ applied_in sig f ts)) r
    (c.close.ensures.is (subst (AreCanonical sig) (sym r) k) (λ a. subst (Each (IsElement (identity_of sig f) f)) (sym r) (e a)) (ap (arranged (is_comm sig f)) r ∙ arranged-twice (is_comm sig f) _ ∙ sym r))
