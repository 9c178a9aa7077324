use Rattle.std.proofs.Common.{◌≡◌, ◌∙◌, ap, Some, None, true}
use Rattle.std.specs.HashMap.{get}
use Rattle.mw_position.specs.Variables.{is_in, place}
use Rattle.mw_pattern.specs.Tables.{same_key, variable_of, pointed}
use Rattle.mw_pattern.proofs.Tables.{found_in, none_some, some_parts}
use Rattle.mw_pattern.proofs.places.Places.at.Goals as goal

pub unreachable-requires : goal.unreachable-requires
unreachable-requires c =
    let n : record { name = c.as_slice.result.now; sort = c.x.inside.sort } ≡ c.args.x.now = ap (λ n. record { name = n; sort = c.x.inside.sort }) c.as_slice.ensures ∙ c.x.view_is in
    let i : is_in (variable_of (c.as_slice.result, c.x.inside.sort)) (pointed c.self.inside.variables.items) ≡ true = rw (n, c.self.view_is) c.requires in
    let h : None ≡ get same_key c.self.inside.table (c.as_slice.result, c.x.inside.sort) = c.in-None.ensures.value in
    let k : None ≡ Some (place (variable_of (c.as_slice.result, c.x.inside.sort)) (pointed c.self.inside.variables.items)) = h ∙ c.self.invariant (c.as_slice.result, c.x.inside.sort) ∙ found_in (variable_of (c.as_slice.result, c.x.inside.sort)) (pointed c.self.inside.variables.items) i in
    none_some _ k

pub returns : goal.returns
returns c =
    let n : record { name = c.as_slice.result.now; sort = c.x.inside.sort } ≡ c.args.x.now = ap (λ n. record { name = n; sort = c.x.inside.sort }) c.as_slice.ensures ∙ c.x.view_is in
    let i : is_in (variable_of (c.as_slice.result, c.x.inside.sort)) (pointed c.self.inside.variables.items) ≡ true = rw (n, c.self.view_is) c.requires in
    let h : Some c.in-Some.i.now ≡ get same_key c.self.inside.table (c.as_slice.result, c.x.inside.sort) = c.in-Some.ensures.value in
    let k : Some c.in-Some.i.now ≡ Some (place (variable_of (c.as_slice.result, c.x.inside.sort)) (pointed c.self.inside.variables.items)) = h ∙ c.self.invariant (c.as_slice.result, c.x.inside.sort) ∙ found_in (variable_of (c.as_slice.result, c.x.inside.sort)) (pointed c.self.inside.variables.items) i in
    let e = some_parts _ _ k in
    rw (n, c.self.view_is) at e
