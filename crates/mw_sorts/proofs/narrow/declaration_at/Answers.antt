use Rattle.std.proofs.Common.{◌≡◌, ◌<◌, ◌-◌, ◌≤◌, get_or, ℕ, List, length, ap, sym, subst, ◌∙◌, rules}
use Rattle.std.specs.Prelude.{slice_get, Some, IsTrue}
use Rattle.mw_logic.specs.Signature.{Declaration, Operator}
use Rattle.mw_sorts.specs.States.{ways}
use Rattle.mw_sorts.proofs.Getting.{read-get, get-member}
use Rattle.mw_sorts.proofs.Ways.{way-declared, way-behind, way-turned}
use Rattle.mw_sorts.proofs.narrow.declaration_at.Goals as goal

behind : (o : Operator) (read : List Declaration) (i : ℕ) → read ≡ o.declarations → length read ≤ i → i < length (ways o) → IsTrue o.comm × (i - length read < length read)
behind o read i e l h = subst (λ (ds : List Declaration). IsTrue o.comm × (i - length ds < length ds)) (sym e) (way-behind o i (subst (λ (ds : List Declaration). length ds ≤ i) e l) h)

here : (o : Operator) (read : List Declaration) (i : ℕ) (d : Declaration) → read ≡ o.declarations → i < length read → d ≡ get_or read i d → slice_get o.declarations i ≡ Some d
here o read i d e l is = read-get o.declarations read i d e (subst (λ (ds : List Declaration). i < length ds) e l) is

pub offset_bounds-declarations-number-else-number-declarations : goal.offset_bounds-declarations-number-else-number-declarations
offset_bounds-declarations-number-else-number-declarations c =
    let e = c.as_slice-declarations.ensures ∙ ap (λ (o : Operator). o.declarations) c.operator.view_is in
    let l = (behind c.args.operator.now c.as_slice-declarations.result.now c.args.number e c.if-number-declarations.false c.requires).1 in
    search rules

pub bounds-declarations-number-else-number-declarations : goal.bounds-declarations-number-else-number-declarations
bounds-declarations-number-else-number-declarations c =
    let e = c.as_slice-declarations.ensures ∙ ap (λ (o : Operator). o.declarations) c.operator.view_is in
    (behind c.args.operator.now c.as_slice-declarations.result.now c.args.number e c.if-number-declarations.false c.requires).1

pub returns-then-number-declarations-clause-declared : goal.returns-then-number-declarations-clause-declared
returns-then-number-declarations-clause-declared c =
    let there = here c.args.operator.now c.as_slice-declarations.result.now c.args.number c.index-declarations-number.result (c.as_slice-declarations.ensures ∙ ap (λ (o : Operator). o.declarations) c.operator.view_is) c.if-number-declarations.true c.index-declarations-number.is in
    (get-member c.args.operator.now.declarations c.args.number c.index-declarations-number.result there, λ e. cc)

pub returns-then-number-declarations-clause-there : goal.returns-then-number-declarations-clause-there
returns-then-number-declarations-clause-there c =
    let there = here c.args.operator.now c.as_slice-declarations.result.now c.args.number c.index-declarations-number.result (c.as_slice-declarations.ensures ∙ ap (λ (o : Operator). o.declarations) c.operator.view_is) c.if-number-declarations.true c.index-declarations-number.is in
    way-declared c.args.operator.now c.args.number c.index-declarations-number.result there

pub returns-else-number-declarations-clause-declared : goal.returns-else-number-declarations-clause-declared
returns-else-number-declarations-clause-declared c =
    let read = c.as_slice-declarations.result.now in
    let e = c.as_slice-declarations.ensures ∙ ap (λ (o : Operator). o.declarations) c.operator.view_is in
    let b = behind c.args.operator.now read c.args.number e c.if-number-declarations.false c.requires in
    let there = here c.args.operator.now read (c.args.number - length read) c.index-declarations-number-else-number-declarations.result e b.1 c.index-declarations-number-else-number-declarations.is in
    (get-member c.args.operator.now.declarations (c.args.number - length read) c.index-declarations-number-else-number-declarations.result there, λ t. b.0)

pub returns-else-number-declarations-clause-there : goal.returns-else-number-declarations-clause-there
returns-else-number-declarations-clause-there c =
    let read = c.as_slice-declarations.result.now in
    let o = c.args.operator.now in
    let d = c.index-declarations-number-else-number-declarations.result in
    let e = c.as_slice-declarations.ensures ∙ ap (λ (o : Operator). o.declarations) c.operator.view_is in
    let b = behind o read c.args.number e c.if-number-declarations.false c.requires in
    let there = here o read (c.args.number - length read) d e b.1 c.index-declarations-number-else-number-declarations.is in
    way-turned o c.args.number d (subst (λ (ds : List Declaration). length ds ≤ c.args.number) e c.if-number-declarations.false) b.0
    (subst (λ (ds : List Declaration). slice_get o.declarations (c.args.number - length ds) ≡ Some d) e there)
