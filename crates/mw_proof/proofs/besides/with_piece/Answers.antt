use Rattle.std.proofs.Common.{◌∙◌, ap}
use Rattle.mw_logic.specs.Term.{join}
use Rattle.mw_logic.specs.Terms.{terms_of}
use Rattle.mw_logic.specs.NormalForm.{elements, identity_of}
use Rattle.mw_logic.proofs.Canonical.{assoc-true}
use Rattle.mw_proof.proofs.Between.{rest_built, part_built}
use Rattle.mw_proof.proofs.besides.with_piece.Goals as goal

pub returns-in_ok-push_elements-in-Rest-clause-ready : goal.returns-in_ok-push_elements-in-Rest-clause-ready
returns-in_ok-push_elements-in-Rest-clause-ready c =
    let M = c.args.context.now in
    let f = c.args.operator in
    let A = c.requires.assoc in
    let b = terms_of c.args.before.now.items in
    (rest_built M c.requires.well.accepted f (assoc-true M.signature f A.operator A.is_there A.assoc) b c.args.piece c.in-Rest.term c.args.rest.now c.args.so_far (terms_of c.push_elements.new.terms.items) c.requires.ready c.in-Rest.is
    (c.in_ok-push_elements-in-Rest.ensures ∙ ap (λ s. join b (elements (identity_of s f) f c.in-Rest.term)) c.facts.ensures)).0

pub returns-in_ok-push_elements-in-Rest-clause-goes : goal.returns-in_ok-push_elements-in-Rest-clause-goes
returns-in_ok-push_elements-in-Rest-clause-goes c =
    let M = c.args.context.now in
    let f = c.args.operator in
    let A = c.requires.assoc in
    let b = terms_of c.args.before.now.items in
    (rest_built M c.requires.well.accepted f (assoc-true M.signature f A.operator A.is_there A.assoc) b c.args.piece c.in-Rest.term c.args.rest.now c.args.so_far (terms_of c.push_elements.new.terms.items) c.requires.ready c.in-Rest.is
    (c.in_ok-push_elements-in-Rest.ensures ∙ ap (λ s. join b (elements (identity_of s f) f c.in-Rest.term)) c.facts.ensures)).1

pub returns-in_ok-both-in-Part-clause-ready : goal.returns-in_ok-both-in-Part-clause-ready
returns-in_ok-both-in-Part-clause-ready c =
    let M = c.args.context.now in
    let f = c.args.operator in
    let A = c.requires.assoc in
    let made = c.in_ok-made-in-Part.ensures in
    let both = c.in_ok-both-in-Part.ensures in
    (part_built M c.requires.well.accepted f (assoc-true M.signature f A.operator A.is_there A.assoc) (terms_of c.args.before.now.items) c.args.piece c.in-Part.inner c.args.rest.now c.args.so_far c.in_ok-made-in-Part.made c.in_ok-both-in-Part.both
    (terms_of c.part.new.before.items) c.requires.ready c.in-Part.is made.pushed c.shows.ensures made.to made.run made.rank both.over both.from both.to both.run both.rank).0

pub returns-in_ok-both-in-Part-clause-goes : goal.returns-in_ok-both-in-Part-clause-goes
returns-in_ok-both-in-Part-clause-goes c =
    let M = c.args.context.now in
    let f = c.args.operator in
    let A = c.requires.assoc in
    let made = c.in_ok-made-in-Part.ensures in
    let both = c.in_ok-both-in-Part.ensures in
    (part_built M c.requires.well.accepted f (assoc-true M.signature f A.operator A.is_there A.assoc) (terms_of c.args.before.now.items) c.args.piece c.in-Part.inner c.args.rest.now c.args.so_far c.in_ok-made-in-Part.made c.in_ok-both-in-Part.both
    (terms_of c.part.new.before.items) c.requires.ready c.in-Part.is made.pushed c.shows.ensures made.to made.run made.rank both.over both.from both.to both.run both.rank).1
