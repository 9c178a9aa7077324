use Rattle.std.proofs.Common.{◌∙◌, ◌+◌, ◌≤◌, suc, List, length, refl, ap, subst}
use Rattle.indexmap.specs.IndexMap.{insert_entry}
use Rattle.mw_logic.specs.Signature.{Signature, Operator}
use Rattle.mw_poset.specs.SortOrder.{SortOrder}
use Rattle.mw_carry.specs.Profiles.{HasProfile, IsProfiled}
use Rattle.mw_carry.specs.Tables.{operator_in, seen_profile}
use Rattle.mw_carry.proofs.Lookups.{found_within}
use Rattle.mw_carry.proofs.Tables.{operators_more, sort_ordered, read_at}
use Rattle.mw_carry.proofs.target.operator_numbers.Goals as goal

pub profile_of-requires-clause-args : goal.profile_of-requires-clause-args
profile_of-requires-clause-args c S m =
    let sig = c.args.signature.now in
    let all = c.as_slice-operator-items.ensures ∙ ap (λ (s : Signature). s.operators) c.signature.view_is in
    let there = read_at _ sig.operators c.loop-index.index c.operator-item.result all c.loop-index-test.true c.operator-item.is in
    sort_ordered sig c.args.order.now c.requires.order S (c.requires.numbers.args (suc c.loop-index.index) c.operator-item.result there S m)

pub profile_of-requires-clause-value : goal.profile_of-requires-clause-value
profile_of-requires-clause-value c =
    let sig = c.args.signature.now in
    let all = c.as_slice-operator-items.ensures ∙ ap (λ (s : Signature). s.operators) c.signature.view_is in
    let there = read_at _ sig.operators c.loop-index.index c.operator-item.result all c.loop-index-test.true c.operator-item.is in
    sort_ordered sig c.args.order.now c.requires.order _ (c.requires.numbers.results (suc c.loop-index.index) c.operator-item.result there)

pub loop-index-preserved : goal.loop-index-preserved
loop-index-preserved c =
    let sig = c.args.signature.now in
    let i = c.loop-index.index in
    let o = c.operator-item.result in
    let all = c.as_slice-operator-items.ensures ∙ ap (λ (s : Signature). s.operators) c.signature.view_is in
    let has : HasProfile sig.pairs o (seen_profile c.in_ok-profile.profile) = subst (λ (order : SortOrder). HasProfile order.pairs o (seen_profile c.in_ok-profile.profile)) c.requires.order c.in_ok-profile.ensures in
    operators_more sig i (i + 1) refl _ (λ p q. refl) c.in_ok-profile.profile c.loop-index.numbers.entries c.insert.new.self.entries o
    (read_at _ sig.operators i o all c.loop-index-test.true c.operator-item.is) has
    (c.in_ok-insert.ensures.entries ∙ ap (insert_entry _ c.loop-index.numbers.entries c.in_ok-profile.profile) c.in_ok-number_at.ensures)
    c.loop-index.invariant

pub returns : goal.returns
returns c p =
    let sig = c.args.signature.now in
    let all = c.as_slice-operator-items.ensures ∙ ap (λ (s : Signature). s.operators) c.signature.view_is in
    let past : length sig.operators ≤ c.loop-index.index = subst (λ (os : List Operator). length os ≤ c.loop-index.index) all c.loop-index-test.false in
    found_within (IsProfiled sig p) c.loop-index.index (length sig.operators) past (operator_in c.loop-index.numbers.entries p) (c.loop-index.invariant p)
