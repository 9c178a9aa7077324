use Rattle.std.proofs.Common.{◌∙◌, ap, arith, subst, List, ℕ, ◌++◌, ◌∷◌, []}
use Rattle.mw_poset.proofs.Steps.{search_from, waits-sort, search_more}
use Rattle.mw_poset.proofs.Members.{no_items}
use Rattle.mw_poset.proofs.Marking.{Search, search_done}
use Rattle.mw_poset.proofs.search.mark_reached.Goals as goal

pub loop-sort-init : goal.loop-sort-init
loop-sort-init c =
    search_from c.args.links.now c.args.from c.args.marks.now c.push.new.self.items c.requires.from_is_there c.requires.size c.requires.new_mark
    (c.in_ok-push.ensures.items ∙ ap (λ (xs : List ℕ). xs ++ c.args.from ∷ []) c.new-waiting.ensures.items)

pub above-requires : goal.above-requires
above-requires c = waits-sort c.args.links.now c.args.from c.args.marks.now c.loop-sort.marks c.loop-sort.waiting.items c.pop.new.self.items c.in-Some.sort c.requires.from_is_there c.loop-sort.invariant c.in-Some.ensures.items

pub loop-sort-preserved : goal.loop-sort-preserved
loop-sort-preserved c =
    search_more c.args.links.now c.args.from c.in-Some.sort c.args.marks.now c.loop-sort.marks c.mark.new.marks c.loop-sort.waiting.items c.pop.new.self.items c.mark.new.waiting.items c.above.result.now
    c.loop-sort.invariant c.in-Some.ensures.items c.above.ensures.direct c.mark.auto.marks c.in_ok-mark.ensures

pub returns : goal.returns
returns c = search_done c.args.links.now c.args.from c.args.marks.now c.loop-sort.marks
    (subst (λ (xs : List ℕ). Search c.args.links.now c.args.from c.args.marks.now c.loop-sort.marks xs)
    (no_items c.loop-sort.waiting.items (let a = c.in_default.ensures.cases.0 in let b = c.loop-sort.waiting.ok.0 in omega arith)) c.loop-sort.invariant)
