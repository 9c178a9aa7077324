use Rattle.std.proofs.Common.{◌≡◌, ◌∙◌, ◌+◌, ℕ, List, [], ◌∷◌, take, ap, subst}
use Rattle.mw_logic.specs.Term.{Variable}
use Rattle.mw_logic.specs.Signature.{Member}
use Rattle.mw_chart.proofs.Lists.{get_item}
use Rattle.mw_grammar.specs.Listing.{Lists, OneMore}
use Rattle.mw_grammar.proofs.Made.{Extends-same, Extends-trans}
use Rattle.mw_grammar.proofs.Listings.{lists_none, listed_next, next_variable, whole}
use Rattle.mw_grammar.proofs.listing.variables_by_name.Goals as goal

none_first : (xs : List Variable) (x : Variable) → Member x (take 0 xs) → ⊥
none_first [] x h = h
none_first (y ∷ xs) x h = h

pub loop-variable-init : goal.loop-variable-init
loop-variable-init c = record {
  names = Extends-same c.args.names.now;
  listed = lists_none c.args.names.now c.new-lists.result.items (λ n S. Member {X = Variable} (record { name = n; sort = S }) (take 0 c.args.variables.now)) c.new-lists.ensures.items
      (λ n S. none_first c.args.variables.now (record { name = n; sort = S }));
}

pub put-requires : goal.put-requires
put-requires c = c.loop-variable.invariant.listed.are

pub loop-variable-preserved : goal.loop-variable-preserved
loop-variable-preserved c =
    let vs = c.args.variables.now in
    let i = c.loop-variable.variable-index in
    let v : Variable = c.variable-item.result in
    let old = c.loop-variable in
    let name : c.as_slice-name.result.now ≡ v.name = c.as_slice-name.ensures ∙ ap (λ (x : Variable). x.name) c.variable.view_is in
    let sort : c.variable.inside.sort ≡ v.sort = ap (λ (x : Variable). x.sort) c.variable.view_is in
    let put = subst (λ (n : List ℕ). Lists c.put.new.names c.put.new.lists.items (OneMore old.names old.lists.items n v.sort)) name
    (subst (λ (S : ℕ). Lists c.put.new.names c.put.new.lists.items (OneMore old.names old.lists.items c.as_slice-name.result.now S)) sort c.in_ok-put.ensures.listed) in
    record {
      names = Extends-trans c.args.names.now old.names c.put.new.names old.invariant.names c.in_ok-put.ensures.names;
      listed = listed_next old.names c.put.new.names old.lists.items c.put.new.lists.items v.name v.sort (λ n S. Member {X = Variable} (record { name = n; sort = S }) (take i vs))
          (λ n S. Member {X = Variable} (record { name = n; sort = S }) (take (i + 1) vs)) old.invariant.listed put (next_variable vs i v (get_item vs i v c.loop-variable-test.true c.variable-item.is));
    }

pub returns : goal.returns
returns c = record {
  names = c.loop-variable.invariant.names;
  listed = subst (λ (vs : List Variable). Lists c.loop-variable.names c.loop-variable.lists.items (λ n S. Member (record { name = n; sort = S }) vs))
      (whole c.args.variables.now c.loop-variable.variable-index c.loop-variable-test.false) c.loop-variable.invariant.listed;
}
