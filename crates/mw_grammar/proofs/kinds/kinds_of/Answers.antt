use Rattle.std.proofs.Common.{ℕ, ◌≡◌, ◌∙◌, length, sym, ap, subst, arith}
use Rattle.mw_poset.specs.SortOrder.{SortOrder}
use Rattle.mw_poset.specs.Order.{ArePairsOf}
use Rattle.mw_grammar.proofs.KindsByOrder.{HasKindsOf, kinds_push, are_kinds}
use Rattle.mw_grammar.proofs.kinds.kinds_of.Goals as goal

pub loop-k-preserved : goal.loop-k-preserved
loop-k-preserved c =
    kinds_push c.args.order.now.pairs c.loop-k.k c.kind_of.result c.loop-k.kinds.items c.push-in-loop-k.new.self.items c.loop-k.invariant c.kind_of.ensures c.in_ok-push-2.ensures.items

pub returns : goal.returns
returns c =
    let sig = c.args.signature.now in
    let kinds = c.loop-k.kinds.items in
    let all : c.sorts-k-end.result ≡ length sig.sorts = c.sorts-k-end.ensures.sorts ∙ ap (λ (o : SortOrder). o.sorts) c.requires in
    let end : c.loop-k.k ≡ length sig.sorts = omega arith in
    let within = subst (λ (o : SortOrder). ArePairsOf o.sorts o.pairs) c.requires c.sorts-k-end.ensures.within in
    are_kinds sig c.loop-k.k kinds end (subst (λ (n : ℕ). ArePairsOf n sig.pairs) (sym end) within) (subst (λ (o : SortOrder). HasKindsOf o.pairs c.loop-k.k kinds) c.requires c.loop-k.invariant)
