use Rattle.std.specs.Prelude.{All}
use Rattle.std.proofs.Common.{◌≡◌, arith, sym, subst, ℕ}
use Rattle.mw_poset.specs.Order.{IsSort}
use Rattle.mw_poset.specs.Groups.{AreGroups}
use Rattle.mw_poset.proofs.Steps.{group_step}
use Rattle.mw_poset.proofs.group.group.Goals as goal

pub loop-k-preserved : goal.loop-k-preserved
loop-k-preserved c =
    group_step c.loop-k.k c.args.kinds.now c.loop-k.members.items c.loop-k.places.items c.push.new.self.items c.index_mut-list.result.now c.as_slice.result.now c.push-in-loop-k.new.self
    (subst (λ (n : ℕ). All (IsSort n) c.args.kinds.now) (sym c.requires.size) c.requires.sorts) (omega arith) c.loop-k.invariant c.index_mut-list.ensures.value c.as_slice.ensures c.in_ok-push-2.ensures c.in_ok-push.ensures.items

pub returns : goal.returns
returns c = subst (λ (n : ℕ). AreGroups n c.args.kinds.now c.loop-k.members.items c.loop-k.places.items) (let n : c.loop-k.k ≡ c.args.sorts = omega arith in n) c.loop-k.invariant
