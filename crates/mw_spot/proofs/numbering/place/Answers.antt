use Rattle.std.proofs.Common.{◌≡◌, is_gt, subst, sym, rules}
use Rattle.std.proofs.lemmas.List.Sorted.{IsPartitionPoint-from_clause}
use Rattle.mw_logic.specs.TermOrder.{compare_terms, sorted_terms}
use Rattle.mw_logic.specs.Terms.{terms_of}
use Rattle.mw_spot.specs.Spots.{below}
use Rattle.mw_spot.proofs.Levels.{place_stays, place_found, is_divided, found_there}
use Rattle.mw_spot.proofs.numbering.place.Goals as goal

pub returns-then-is_commutative : goal.returns-then-is_commutative
returns-then-is_commutative c = λ o.
    let l = c.level.inside in
    let t = c.args.term.now in
    let i = c.partition_point.result in
    let ys = c.as_slice-others.result.now in
    place_found c.args.facts.now l.operator l.at l.others.items t i c.args.level.now c.level.view_is (sym c.if-is_commutative.ensures) o
    (subst (λ xs. sorted_terms (terms_of xs) ≡ terms_of xs → i ≡ below t (terms_of xs)) c.as_slice-others.ensures.value
    (λ s. found_there t ys i c.partition_point.ensures.bound
    (IsPartitionPoint-from_clause (λ u. is_gt (compare_terms t u)) ys i c.partition_point.ensures.partitioned (is_divided t ys s) (λ a r f k. search rules))))

pub returns-else-is_commutative : goal.returns-else-is_commutative
returns-else-is_commutative c = λ o.
    let l = c.level.inside in
    place_stays c.args.facts.now l.operator l.at l.others.items c.args.term.now c.args.level.now c.level.view_is (sym c.if-is_commutative.ensures) c.level.invariant
