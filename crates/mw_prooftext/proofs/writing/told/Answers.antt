use Rattle.std.proofs.Common.{◌≡◌, ◌++◌, [], ◌∷◌, ℕ, List, drop, get_or, reverse, Vec, Global, sym, subst, ap, ◌∙◌}
use Rattle.std.proofs.lemmas.List.{drop_all, nil_from_length}
use Rattle.std.specs.Option.{option_to_list}
use Rattle.mw_logic.specs.Module.{Module}
use Rattle.mw_trail.specs.declared.trail.Item.{Item}
use Rattle.mw_trail.specs.declared.trail.Item.TheVariants.{Into}
use Rattle.mw_trail.specs.Tracks.{Track, needs, counts}
use Rattle.mw_proof.specs.Deductions.{Deduction, deduced, IsKept}
use Rattle.mw_prooftext.specs.declared.chains.Chain.{Chain}
use Rattle.mw_prooftext.specs.Chains.{AreChains}
use Rattle.mw_prooftext.specs.Denoting.{HasItems}
use Rattle.mw_prooftext.proofs.Underway.{at_next, same_left, begins_here, next_values, next_numbers, next_may, next_under_way, ended_here}
use Rattle.mw_prooftext.proofs.writing.told.Goals as goal

pub loop-item-init : goal.loop-item-init
loop-item-init c =
    let d : Deduction = c.args.proved.now in
    let M : Module = c.context-context.result.now in
    let k : Track = c.trail-trail.result.now in
    let h : IsKept M d.rank d.from d.to k = subst (λ X. IsKept X d.rank d.from d.to k) (sym c.context-context.ensures) c.trail-trail.ensures.kept in
    let first : c.push.new.self.items ≡ c.new-outermost.result ∷ [] = c.in_ok-push.ensures.items ∙ ap (λ xs. xs ++ c.new-outermost.result ∷ []) c.new-chains.ensures.items in
    begins_here M c.shows.ensures.signature.accepted c.args.text.items c.new-outermost.result d.rank d.from d.to c.in_ok-from.from k c.push.new.self.items c.items-item-items.result.now c.values-values.result.now c.numbers-numbers.result.now h c.mark-marked.ensures.mark.track
    c.new-outermost.ensures.outer c.new-outermost.ensures.chain (c.in_ok-from.ensures ∙ c.from.ensures) first c.items-item-items.ensures c.values-values.ensures c.numbers-numbers.ensures

pub tell-requires-clause-values : goal.tell-requires-clause-values
tell-requires-clause-values c =
    let l = c.loop-item in
    next_values c.context-context.result.now c.shows.ensures.signature.accepted (at_next c.items-item-items.result.now l.item-index c.loop-item-test.true l.invariant)

pub tell-requires-clause-numbers : goal.tell-requires-clause-numbers
tell-requires-clause-numbers c =
    let l = c.loop-item in
    next_numbers c.context-context.result.now c.shows.ensures.signature.accepted (at_next c.items-item-items.result.now l.item-index c.loop-item-test.true l.invariant)

pub tell-requires-clause-may : goal.tell-requires-clause-may
tell-requires-clause-may c =
    let l = c.loop-item in
    next_may c.context-context.result.now c.shows.ensures.signature.accepted (at_next c.items-item-items.result.now l.item-index c.loop-item-test.true l.invariant)

pub loop-item-preserved : goal.loop-item-preserved
loop-item-preserved c =
    let l = c.loop-item in
    let xs : List Item = c.items-item-items.result.now in
    let x : Item = get_or xs l.item-index (Into 0) in
    let n = next_under_way c.context-context.result.now c.shows.ensures.signature.accepted (at_next xs l.item-index c.loop-item-test.true l.invariant) c.tell.new.chains.items (λ B s m a. c.in_ok-tell.ensures c.args.text.items B s m a) in
    let vs : c.behind-values.result.now ≡ drop (needs x) l.values.now = c.behind-values.ensures ∙ ap (λ k. drop k l.values.now) c.values.ensures in
    let ns : c.numbers_behind-numbers.result.now ≡ drop (counts x) l.numbers.now = c.numbers_behind-numbers.ensures ∙ ap (λ k. drop k l.numbers.now) c.numbers.ensures in
    same_left vs ns n

pub returns-in-Some : goal.returns-in-Some
returns-in-Some c =
    let d : Deduction = c.args.proved.now in
    let M : Module = c.context-context.result.now in
    let k : Track = c.trail-trail.result.now in
    let l = c.loop-item in
    let xs : List Item = c.items-item-items.result.now in
    let chain : Chain = c.in-Some.chain in
    let h : IsKept M d.rank d.from d.to k = subst (λ X. IsKept X d.rank d.from d.to k) (sym c.context-context.ensures) c.trail-trail.ensures.kept in
    let e : d ≡ deduced M d.rank d.from d.to k = c.trail-trail.ensures.is ∙ ap (λ X. deduced X d.rank d.from d.to k) (sym c.context-context.ensures) in
    let all : l.chains.items ≡ c.pop.new.self.items ++ chain ∷ [] = c.pop.ensures.items ∙ ap (λ o. c.pop.new.self.items ++ option_to_list o) c.in-Some.is in
    let text : c.into_text.result.items ≡ chain.text.items = ap (λ (t : Vec ℕ Global). t.items) c.into_text.ensures in
    subst (HasItems d c.args.text.items) (sym text)
    (ended_here M c.shows.ensures.signature.accepted d c.args.text.items chain l.chains.items c.pop.new.self.items (drop l.item-index xs) xs c.values-values.result.now l.values.now c.numbers-numbers.result.now l.numbers.now k h e
    c.items-item-items.ensures c.values-values.ensures c.numbers-numbers.ensures (drop_all l.item-index xs c.loop-item-test.false) all l.invariant)

pub returns : goal.returns
returns c =
    let l = c.loop-item in
    let e : l.chains.items ≡ [] = nil_from_length l.chains.items (sym l.chains.ok.0 ∙ c.in-None.ensures.cases.0) in
    absurd (subst (λ xs. AreChains c.context-context.result.now c.args.text.items (reverse xs) l.invariant.stands) e l.invariant.told)
