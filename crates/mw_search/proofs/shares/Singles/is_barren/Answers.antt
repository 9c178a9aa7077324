use Rattle.std.proofs.Common.{◌≡◌, ◌∙◌, length, ap, map, subst, sym, ◌+◌, ◌-◌, arith}
use Rattle.mw_logic.specs.Parts.{number_of_terms}
use Rattle.mw_logic.specs.Terms.{args_of, terms_of}
use Rattle.mw_matching.specs.Multisets.{term_at, news}
use Rattle.mw_search.specs.Goals.{head_share}
use Rattle.mw_search.specs.Clashes.{Clash}
use Rattle.mw_search.proofs.BagLists.{at_index, number_terms}
use Rattle.mw_search.proofs.Clashing.{clash_barren, twice_barren}
use Rattle.mw_search.proofs.Sharing.{heads_begin}
use Rattle.mw_search.proofs.shares.Singles.is_barren.Goals as goal

pub is_alone-requires-clause-here : goal.is_alone-requires-clause-here
is_alone-requires-clause-here c =
    let xs = c.elements-elements.result.now in
    let l : number_of_terms (args_of c.args.self.now.bag) ≡ length xs = ap number_of_terms (sym c.elements-elements.ensures) ∙ number_terms xs in
    let h = c.in-Some.ensures.0 in
    omega (arith, l, h)

pub returns-then-clashes : goal.returns-then-clashes
returns-then-clashes c = λ _.
    let s = c.args.self.now in
    let xs = c.elements-elements.result.now in
    let zs = terms_of xs in
    let n = c.in-Some.at in
    let here : c.index-elements-at.result ≡ term_at n (args_of s.bag) = at_index xs n c.index-elements-at.result c.in-Some.ensures.0 c.index-elements-at.is ∙ ap (term_at n) c.elements-elements.ensures in (
      head_share s n,
      map (head_share s) (news zs (n + 1) (number_of_terms zs - (n + 1))),
      heads_begin s zs n (news zs (n + 1) (number_of_terms zs - (n + 1))) c.elements-elements.ensures c.in-Some.ensures.1,
      clash_barren c.args.facts.now c.args.positions.now.single.items c.args.values.now c.args.pattern.now (head_share s n)
          (subst (Clash c.args.facts.now c.args.values.now c.args.pattern.now) here (c.clashes.ensures c.if-clashes.true)),
    )

pub returns : goal.returns
returns c = λ w.
    let s = c.args.self.now in
    let xs = c.elements-elements.result.now in
    let zs = terms_of xs in
    let n = c.in-Some.at in (
      head_share s n,
      map (head_share s) (news zs (n + 1) (number_of_terms zs - (n + 1))),
      heads_begin s zs n (news zs (n + 1) (number_of_terms zs - (n + 1))) c.elements-elements.ensures c.in-Some.ensures.1,
      twice_barren c.args.facts.now c.args.positions.now.single.items c.args.values.now s.pattern c.args.pattern.now s.bag s.then n (c.is_twice.ensures w) (c.is_alone.ensures c.if-not-is_alone.false),
    )
