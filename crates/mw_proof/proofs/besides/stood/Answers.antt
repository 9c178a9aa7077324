use Rattle.std.proofs.Common.{◌≡◌, ◌∙◌, [], ◌∷◌, ◌++◌, false, ap, sym}
use Rattle.mw_logic.specs.Term.{join}
use Rattle.mw_logic.specs.Terms.{terms_of}
use Rattle.mw_logic.proofs.Canonical.{assoc-true}
use Rattle.mw_deduction.specs.Replay.{opened}
use Rattle.mw_deduction.specs.Standing.{filled}
use Rattle.mw_deduction.specs.Under.{under_dones}
use Rattle.mw_proof.specs.Beside.{is_nothing}
use Rattle.mw_proof.proofs.Between.{stands_under}
use Rattle.mw_proof.proofs.besides.stood.Goals as goal

pub returns-clause-stands : goal.returns-clause-stands
returns-clause-stands c =
    let M = c.args.context.now in
    let sig = M.signature in
    let f = c.args.operator in
    let A = c.requires.assoc in
    let d = c.args.inner in
    let bs = c.args.before.now in
    let es = terms_of c.args.behind.items in
    let some : is_nothing (join (terms_of bs) es) ≡ false =
    sym (c.are_none.ensures ∙ ap (λ xs. is_nothing (join (terms_of bs) (terms_of xs))) c.as_slice.ensures.value) ∙ c.if-are_none.false in
    let copied : c.copy_all.new.terms.items ≡ bs = c.in_ok-copy_all.ensures ∙ ap (λ xs. xs ++ bs) c.new-others.ensures.items in
    let made = c.in_ok-made.ensures in
    stands_under M c.requires.well.accepted f (assoc-true sig f A.operator A.is_there A.assoc) (terms_of bs) es d c.in_ok-made.made some
    (made.from ∙ ap (λ xs. filled sig (opened f (terms_of xs) es) d.from) copied)
    (made.to ∙ ap (λ xs. filled sig (opened f (terms_of xs) es) d.to) copied)
    (made.run ∙ ap (λ xs. under_dones sig (opened f (terms_of xs) es ∷ []) d.run) copied)
