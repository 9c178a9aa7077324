use Rattle.std.proofs.Common.{◌∙◌, ap}
use Rattle.mw_logic.specs.Terms.{terms_of}
use Rattle.mw_logic.specs.NormalForm.{flattened, identity_of}
use Rattle.mw_logic.proofs.Canonical.{assoc-true}
use Rattle.mw_proof.specs.Beside.{starts}
use Rattle.mw_proof.proofs.Between.{may_stand, ended_admitted, part_canonical, step_from, step_to}
use Rattle.mw_proof.proofs.besides.part.Goals as goal

pub stood-requires-clause-place : goal.stood-requires-clause-place
stood-requires-clause-place c =
    let M = c.args.context.now in
    let f = c.args.operator in
    let A = c.requires.assoc in
    let is = assoc-true M.signature f A.operator A.is_there A.assoc in
    let ok = c.requires.well.accepted in
    may_stand M ok f is (terms_of c.args.before.now.items) c.args.inner c.args.rest.now c.args.so_far.now c.requires.ready (ended_admitted M ok f is c.args.so_far.now c.shows.ensures c.requires.ready.over)
    (terms_of c.as_slice.result.now) (terms_of c.in_ok-behind.behind.items) (ap terms_of c.as_slice.ensures.value)
    (c.in_ok-behind.ensures ∙ ap (λ s. flattened (identity_of s f) f (starts c.args.rest.now)) c.facts.ensures)

pub returns-clause-from : goal.returns-clause-from
returns-clause-from c =
    let M = c.args.context.now in
    let f = c.args.operator in
    let A = c.requires.assoc in
    let is = assoc-true M.signature f A.operator A.is_there A.assoc in
    let ok = c.requires.well.accepted in
    step_from M ok f is (terms_of c.args.before.now.items) c.args.inner c.args.rest.now c.args.so_far.now c.requires.ready
    (terms_of c.as_slice.result.now) (terms_of c.in_ok-behind.behind.items) (ap terms_of c.as_slice.ensures.value)
    (c.in_ok-behind.ensures ∙ ap (λ s. flattened (identity_of s f) f (starts c.args.rest.now)) c.facts.ensures) c.in_ok-made.made c.in_ok-made.ensures.stands

pub returns-clause-to : goal.returns-clause-to
returns-clause-to c =
    let M = c.args.context.now in
    let f = c.args.operator in
    let A = c.requires.assoc in
    let is = assoc-true M.signature f A.operator A.is_there A.assoc in
    let ok = c.requires.well.accepted in
    let b = terms_of c.args.before.now.items in
    step_to M ok f is b c.args.inner c.args.rest.now c.args.so_far.now c.requires.ready
    (terms_of c.as_slice.result.now) (terms_of c.in_ok-behind.behind.items) (ap terms_of c.as_slice.ensures.value)
    (c.in_ok-behind.ensures ∙ ap (λ s. flattened (identity_of s f) f (starts c.args.rest.now)) c.facts.ensures) c.in_ok-made.made c.in_ok-made.ensures.stands
    (part_canonical M ok f is b c.args.inner c.args.rest.now c.requires.ready.beside c.shows-2.ensures)
