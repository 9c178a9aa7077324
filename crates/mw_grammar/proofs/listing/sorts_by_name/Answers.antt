use Rattle.std.proofs.Common.{◌+◌, ℕ, zero, suc, List, [], ◌∷◌, take, subst}
use Rattle.mw_chart.proofs.Lists.{get_item}
use Rattle.mw_grammar.specs.Leaves.{IsNamed}
use Rattle.mw_grammar.specs.Listing.{Lists, OneMore}
use Rattle.mw_grammar.proofs.Made.{Extends-same, Extends-trans}
use Rattle.mw_grammar.proofs.Listings.{lists_none, listed_next, next_sort, whole}
use Rattle.mw_grammar.proofs.listing.sorts_by_name.Goals as goal

none_named : (xs : List (List ℕ)) (n : List ℕ) (S : ℕ) → IsNamed (take 0 xs) n S → ⊥
none_named [] n zero h = let bad : ⊥ = (cc) in bad
none_named [] n (suc S) h = let bad : ⊥ = (cc) in bad
none_named (x ∷ xs) n zero h = let bad : ⊥ = (cc) in bad
none_named (x ∷ xs) n (suc S) h = let bad : ⊥ = (cc) in bad

pub loop-i-init : goal.loop-i-init
loop-i-init c = record {
  names = Extends-same c.args.names.now;
  listed = lists_none c.args.names.now c.new-lists.result.items (IsNamed (take 0 c.args.sorts.now)) c.new-lists.ensures.items (none_named c.args.sorts.now);
}

pub put-requires : goal.put-requires
put-requires c = c.loop-i.invariant.listed.are

pub loop-i-preserved : goal.loop-i-preserved
loop-i-preserved c =
    let xs = c.args.sorts.now in
    let i = c.loop-i.i in
    let name = c.index-sorts-i.result in
    let put = subst (λ (n : List ℕ). Lists c.put.new.names c.put.new.lists.items (OneMore c.loop-i.names c.loop-i.lists.items n (i + 1))) c.as_slice.ensures c.in_ok-put.ensures.listed in
    record {
      names = Extends-trans c.args.names.now c.loop-i.names c.put.new.names c.loop-i.invariant.names c.in_ok-put.ensures.names;
      listed = listed_next c.loop-i.names c.put.new.names c.loop-i.lists.items c.put.new.lists.items name (i + 1) (IsNamed (take i xs)) (IsNamed (take (i + 1) xs))
          c.loop-i.invariant.listed put (next_sort xs i name (get_item xs i name c.loop-i-test.true c.index-sorts-i.is));
    }

pub returns : goal.returns
returns c = record {
  names = c.loop-i.invariant.names;
  listed = subst (λ (names : List (List ℕ)). Lists c.loop-i.names c.loop-i.lists.items (IsNamed names)) (whole c.args.sorts.now c.loop-i.i c.loop-i-test.false) c.loop-i.invariant.listed;
}
