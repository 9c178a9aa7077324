use Rattle.std.proofs.Common.{rules, ◌≡◌, ◌≤◌, ◌+◌, ◌<◌, ℕ, Some, true, false, drop, slice_get, length, subst, sym}
use Rattle.mw_logic.specs.Terms.{terms_of}
use Rattle.mw_logic.proofs.SortedLists.{Climbs}
use Rattle.std.specs.List.Sorted.{IsPartitionPoint}
use Rattle.std.proofs.lemmas.List.Sorted.{IsPartitionPoint-from_clause}
use Rattle.mw_gather.proofs.Among.{IsBefore, is_divided, order_dropped, place_found}
use Rattle.mw_gather.proofs.gathering.place_in.Goals as goal

parted : (c : goal.After-partition_point) → IsPartitionPoint (λ u. IsBefore c.args.term.now u ≡ true) (λ u. IsBefore c.args.term.now u ≡ false) (drop c.args.from c.args.elements.now) c.partition_point.result
parted c =
    subst (λ ys. IsPartitionPoint (λ u. IsBefore c.args.term.now u ≡ true) (λ u. IsBefore c.args.term.now u ≡ false) ys c.partition_point.result) c.behind-rest.ensures
    (IsPartitionPoint-from_clause (IsBefore c.args.term.now) c.behind-rest.result.now c.partition_point.result c.partition_point.ensures.partitioned
    (is_divided c.args.term.now c.behind-rest.result.now (subst (λ ys. Climbs (terms_of ys)) (sym c.behind-rest.ensures) (order_dropped c.args.elements.now c.args.from c.requires.order))) (λ a r f k. search rules))

found : (c : goal.After-partition_point) (at : ℕ) → c.args.from ≤ at → slice_get c.args.elements.now at ≡ Some c.args.term.now → (c.args.from + c.partition_point.result ≤ at) × (slice_get c.args.elements.now (c.args.from + c.partition_point.result) ≡ Some c.args.term.now) × (at < length c.args.elements.now)
found c = place_found c.args.term.now c.args.elements.now c.args.from c.partition_point.result c.requires.order (parted c)

pub returns-clause-there : goal.returns-clause-there
returns-clause-there c = let h = c.requires.there in (found c h.0 h.1 h.2).1

pub returns-clause-first : goal.returns-clause-first
returns-clause-first c = λ at l s. (found c at l s).0
