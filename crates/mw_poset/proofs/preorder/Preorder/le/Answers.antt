use Rattle.std.proofs.lemmas.Bool.{eqb-true}
use Rattle.mw_poset.proofs.Rows.{as_seen, le_read, chain-kind}
use Rattle.mw_poset.proofs.preorder.Preorder.le.Goals as goal

pub has-requires : goal.has-requires
has-requires c =
    let p = as_seen c.self.view_is c.self.invariant in
    (le_read c.args.self.now c.self.inside.kinds.items c.self.inside.groups.members.items c.self.inside.groups.places.items c.self.inside.rows.items c.args.lower c.args.upper c.kind_of.result c.kind_of-2.result
    c.index.result.now c.index-then-kind_of.result.now p c.requires.lower_is_there c.requires.upper_is_there c.kind_of.ensures c.kind_of-2.ensures c.if-kind_of.true c.index.ensures c.index-then-kind_of.ensures).0

pub returns-then-kind_of : goal.returns-then-kind_of
returns-then-kind_of c =
    let p = as_seen c.self.view_is c.self.invariant in
    let r =
    (le_read c.args.self.now c.self.inside.kinds.items c.self.inside.groups.members.items c.self.inside.groups.places.items c.self.inside.rows.items c.args.lower c.args.upper c.kind_of.result c.kind_of-2.result
    c.index.result.now c.index-then-kind_of.result.now p c.requires.lower_is_there c.requires.upper_is_there c.kind_of.ensures c.kind_of-2.ensures c.if-kind_of.true c.index.ensures c.index-then-kind_of.ensures).1 in
    ((λ h. r.0 (c.has.ensures.0 h)), (λ h. c.has.ensures.1 (r.1 h)))

pub returns-else-kind_of : goal.returns-else-kind_of
returns-else-kind_of c = (
  (λ e. absurd (c.if-kind_of.false (eqb-true _ _ e))),
  (λ h. absurd (c.if-kind_of.false (chain-kind c.args.self.now.pairs c.args.lower c.args.upper c.kind_of.result c.kind_of-2.result c.kind_of.ensures c.kind_of-2.ensures h))),
)
