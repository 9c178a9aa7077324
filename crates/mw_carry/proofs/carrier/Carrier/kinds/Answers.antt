use Rattle.std.proofs.lemmas.List.{drop_all}
use Rattle.mw_poset.proofs.Members.{member-at}
use Rattle.mw_carry.specs.Profiles.{IsLeastFor}
use Rattle.mw_carry.proofs.Pairs.{paired_at, paired_all}
use Rattle.mw_carry.proofs.carrier.Carrier.kinds.Goals as goal

pub kind-requires : goal.kind-requires
kind-requires c = c.requires _ (member-at c.args.kinds.now c.loop-kind.kind-index 0 c.loop-kind-test.true)

pub loop-kind-preserved : goal.loop-kind-preserved
loop-kind-preserved c =
    let both = c.args.self.now in
    paired_at (IsLeastFor both.from both.to) c.args.kinds.now c.loop-kind.kind-index c.loop-kind.found.items _ c.kind.result c.loop-kind-test.true c.in_ok-push.ensures.items c.kind.ensures
    c.loop-kind.invariant

pub returns : goal.returns
returns c =
    let both = c.args.self.now in
    paired_all (IsLeastFor both.from both.to) c.args.kinds.now _ c.loop-kind.found.items (drop_all c.loop-kind.kind-index c.args.kinds.now c.loop-kind-test.false) c.loop-kind.invariant
