use Rattle.std.proofs.Common.{◌≡◌, ◌∙◌, sym, ap}
use Rattle.mw_deduction.specs.Runs.{both}
use Rattle.mw_proof.specs.Deductions.{Deduction, end_of}
use Rattle.mw_proof.proofs.Keeping.{both_kept}
use Rattle.mw_proof.proofs.proved.then.Goals as goal

pub invariant_of-result : goal.invariant_of-result
invariant_of-result c =
    let p = c.first.inside in
    let q = c.second.inside in
    let M = p.context.now in
    let m : p.context.now ≡ q.context.now = ap (λ (d : Deduction). d.over) c.first.view_is ∙ c.requires.module ∙ sym (ap (λ (d : Deduction). d.over) c.second.view_is) in
    let u : p.to ≡ q.from = ap (λ (d : Deduction). d.to) c.first.view_is ∙ c.requires.meet ∙ sym (ap (λ (d : Deduction). d.from) c.second.view_is) in
    (both_kept M q.context.now c.shows.ensures.signature.accepted p.rank q.rank c.max.result p.from p.to q.from q.to p.trail q.trail c.in_ok-followed_by.field-0 p.counts q.counts c.plus.result c.max.ensures m u c.first.invariant c.second.invariant
    (c.in_ok-followed_by.ensures.moves M) c.plus.ensures.count c.plus.ensures.steps c.plus.ensures.rules).0

pub returns-clause-run : goal.returns-clause-run
returns-clause-run c =
    let p = c.first.inside in
    let q = c.second.inside in
    let M = p.context.now in
    let m : p.context.now ≡ q.context.now = ap (λ (d : Deduction). d.over) c.first.view_is ∙ c.requires.module ∙ sym (ap (λ (d : Deduction). d.over) c.second.view_is) in
    let u : p.to ≡ q.from = ap (λ (d : Deduction). d.to) c.first.view_is ∙ c.requires.meet ∙ sym (ap (λ (d : Deduction). d.from) c.second.view_is) in
    (both_kept M q.context.now c.shows.ensures.signature.accepted p.rank q.rank c.max.result p.from p.to q.from q.to p.trail q.trail c.in_ok-followed_by.field-0 p.counts q.counts c.plus.result c.max.ensures m u c.first.invariant c.second.invariant
    (c.in_ok-followed_by.ensures.moves M) c.plus.ensures.count c.plus.ensures.steps c.plus.ensures.rules).1
    ∙ ap (λ (d : Deduction). both d.run (end_of q.context.now q.rank q.from q.trail).run) c.first.view_is
    ∙ ap (λ (d : Deduction). both c.args.first.run d.run) c.second.view_is
