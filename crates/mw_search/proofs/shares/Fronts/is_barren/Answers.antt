use Rattle.std.proofs.Common.{◌≡◌, ◌∙◌, ◌+◌, ◌-◌, ◌<◌, min, map, length, ap, sym, arith, true}
use Rattle.mw_logic.specs.Parts.{number_of_terms}
use Rattle.mw_logic.specs.Terms.{args_of, skip}
use Rattle.mw_matching.specs.Patterns.{is_rigid}
use Rattle.mw_matching.specs.Found.{is_single, numbers_from}
use Rattle.mw_search.specs.Goals.{top_of, front_share}
use Rattle.mw_search.proofs.BagLists.{number_terms}
use Rattle.mw_search.proofs.Clashing.{behind_barren}
use Rattle.mw_search.proofs.Meeting.{at_args, fronts_begin}
use Rattle.mw_search.proofs.shares.Fronts.is_barren.Goals as goal

pub returns : goal.returns
returns c = λ q w.
    let sig = c.args.facts.now in
    let single = c.args.positions.now.single.items in
    let vs = c.args.values.now in
    let s = c.args.self.now in
    let ps = c.arguments.result.now in
    let zs = c.arguments-elements.result.now in
    let b = c.in-Some.behind.now in
    let z = c.in-Some-get.first.now in
    let k = c.in-Some.ensures.lookup in
    let h = c.in-Some-get.ensures.lookup in
    let l : length zs ≡ number_of_terms (args_of s.row) = sym (number_terms zs) ∙ ap number_of_terms c.arguments-elements.ensures in
    let j : c.min-left.result ≡ min (s.from + s.next) (number_of_terms (args_of s.row)) = omega (arith, l, c.min-left.ensures, c.saturating_add.ensures) in
    let rigid : is_rigid sig (is_single single) (top_of s.pattern) b ≡ true = ap (λ f. is_rigid sig (is_single single) f b) (sym c.top.ensures) ∙ sym c.is_rigid.ensures ∙ c.if-not-is_rigid.false in
    let next : s.next < s.end = omega (arith, c.if-self.false) in
    let behind : skip s.then (args_of s.pattern) ≡ _ = at_args s.pattern b ps s.then c.arguments.ensures k.3.0 k.1 in
    let left = at_args s.row z zs c.min-left.result c.arguments-elements.ensures h.3.0 h.1 in
    let left_at = ap (λ n. skip n (args_of s.row)) (sym j) ∙ left in (
      front_share s s.next,
      map (front_share s) (numbers_from (s.next + 1) (s.end - (s.next + 1))),
      fronts_begin (front_share s) s.next s.end next,
      behind_barren sig single vs q _ s.pattern s.row b z s.then _ _ _ behind left_at rigid (c.clashes.ensures w),
    )
