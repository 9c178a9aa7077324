use Rattle.std.proofs.Common.{◌≡◌, ◌∙◌, [], ◌∷◌, subst, ap}
use Rattle.mw_check.proofs.RowPairs.{named_test}
use Rattle.mw_check.proofs.RowSeveral.{IsEqualMet, equal_met}
use Rattle.mw_check.proofs.rows.of_equals.Goals as goal

pub unreachable-requires : goal.unreachable-requires
unreachable-requires c =
    let M = c.args.context.now in
    let f = c.args.operator in
    let x = c.args.term.now in
    let is : c.as_slice.result.now ≡ x ∷ x ∷ [] = c.as_slice.ensures ∙ ap (λ u. u ∷ c.in_ok-copy-2.field-0 ∷ []) c.in_ok-copy.ensures ∙ ap (λ u. x ∷ u ∷ []) c.in_ok-copy-2.ensures in
    let (e, p) = named_test M.signature f c.requires.test in
    subst (IsEqualMet M.signature e) c.in-Nothing.is
    (equal_met M c.shows.ensures f e p x c.requires.pair c.as_slice.result.now is c.schemata.result.now c.schemata.ensures c.facts.result.now c.facts.ensures c.in_ok-to.field-0 c.in_ok-to.ensures.sides)

pub unreachable-requires-in-TooBig : goal.unreachable-requires-in-TooBig
unreachable-requires-in-TooBig c =
    let M = c.args.context.now in
    let f = c.args.operator in
    let x = c.args.term.now in
    let is : c.as_slice.result.now ≡ x ∷ x ∷ [] = c.as_slice.ensures ∙ ap (λ u. u ∷ c.in_ok-copy-2.field-0 ∷ []) c.in_ok-copy.ensures ∙ ap (λ u. x ∷ u ∷ []) c.in_ok-copy-2.ensures in
    let (e, p) = named_test M.signature f c.requires.test in
    subst (IsEqualMet M.signature e) c.in-TooBig.is
    (equal_met M c.shows.ensures f e p x c.requires.pair c.as_slice.result.now is c.schemata.result.now c.schemata.ensures c.facts.result.now c.facts.ensures c.in_ok-to.field-0 c.in_ok-to.ensures.sides)

pub returns : goal.returns
returns c = λ e p.
    let M = c.args.context.now in
    let f = c.args.operator in
    let x = c.args.term.now in
    let is : c.as_slice.result.now ≡ x ∷ x ∷ [] = c.as_slice.ensures ∙ ap (λ u. u ∷ c.in_ok-copy-2.field-0 ∷ []) c.in_ok-copy.ensures ∙ ap (λ u. x ∷ u ∷ []) c.in_ok-copy-2.ensures in
    subst (IsEqualMet M.signature e) c.in-Gives.is
    (equal_met M c.shows.ensures f e p x c.requires.pair c.as_slice.result.now is c.schemata.result.now c.schemata.ensures c.facts.result.now c.facts.ensures c.in_ok-to.field-0 c.in_ok-to.ensures.sides)
