use Rattle.std.proofs.Common.{arith}
use Rattle.mw_poset.proofs.Rows.{IsKindList, as_seen, kind-sort, kind_list}
use Rattle.mw_poset.proofs.preorder.Preorder.same_kind.Goals as goal

pub overflow_sub-kind_of : goal.overflow_sub-kind_of
overflow_sub-kind_of c = let p = as_seen c.self.view_is c.self.invariant in (kind-sort c.args.self.now c.self.inside.kinds.items p.kinds_are c.args.sort c.kind_of.result c.requires c.kind_of.ensures).0

pub index-requires : goal.index-requires
index-requires c =
    let p = as_seen c.self.view_is c.self.invariant in
    let s = kind-sort c.args.self.now c.self.inside.kinds.items p.kinds_are c.args.sort c.kind_of.result c.requires c.kind_of.ensures in
    let low = s.0 in
    let high = s.1 in
    let n = p.kinds_are.size in
    let m = p.groups.lists in
    omega arith

-- what the three clauses say of the list
the_list : (c : goal.After-as_slice) → IsKindList c.args.self.now c.args.sort c.as_slice.result.now
the_list c =
    kind_list c.args.self.now c.self.inside.kinds.items c.self.inside.groups.members.items c.self.inside.groups.places.items c.self.inside.rows.items c.args.sort c.kind_of.result c.as_slice.result.now c.index.result.now
    (as_seen c.self.view_is c.self.invariant) c.requires c.kind_of.ensures c.as_slice.ensures c.index.ensures

pub returns-clause-listed : goal.returns-clause-listed
returns-clause-listed c = (the_list c).listed

pub returns-clause-within : goal.returns-clause-within
returns-clause-within c = (the_list c).within

pub returns-clause-in_order : goal.returns-clause-in_order
returns-clause-in_order c = (the_list c).in_order
