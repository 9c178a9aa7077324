use Rattle.std.proofs.Common.{◌≡◌, ◌∙◌, ap, sym, Some, None}
use Rattle.mw_logic.specs.Substitution.{value as value_of}
use Rattle.mw_canon.specs.Tables.{variable_of}
use Rattle.mw_canon.proofs.Table.{found_in, none_in}
use Rattle.mw_canon.proofs.values.Values.at.Goals as goal

pub returns-in-Some : goal.returns-in-Some
returns-in-Some c =
    let n : record { name = c.as_slice.result.now; sort = c.x.inside.sort } ≡ c.args.x.now = ap (λ n. record { name = n; sort = c.x.inside.sort }) c.as_slice.ensures ∙ c.x.view_is in
    let h : value_of c.args.self.now (variable_of (c.as_slice.result, c.x.inside.sort)) ≡ Some c.in-Some.value.now.now =
    ap (λ s. value_of s (variable_of (c.as_slice.result, c.x.inside.sort))) (sym c.self.view_is) ∙ found_in _ _ c.in-Some.value.now (c.self.invariant (c.as_slice.result, c.x.inside.sort)) c.in-Some.ensures.value in
    rw n at h

pub returns-in-None : goal.returns-in-None
returns-in-None c =
    let n : record { name = c.as_slice.result.now; sort = c.x.inside.sort } ≡ c.args.x.now = ap (λ n. record { name = n; sort = c.x.inside.sort }) c.as_slice.ensures ∙ c.x.view_is in
    let h : value_of c.args.self.now (variable_of (c.as_slice.result, c.x.inside.sort)) ≡ None =
    ap (λ s. value_of s (variable_of (c.as_slice.result, c.x.inside.sort))) (sym c.self.view_is) ∙ none_in _ _ (c.self.invariant (c.as_slice.result, c.x.inside.sort)) c.in-None.ensures.value in
    rw n at h
