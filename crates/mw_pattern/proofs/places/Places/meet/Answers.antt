use Rattle.std.proofs.Common.{◌≡◌, ◌∙◌, ◌++◌, [], ◌∷◌, ap, sym, subst, length, true, false, cond, is_some, Some, arith}
use Rattle.std.proofs.lemmas.List.{length-map}
use Rattle.std.specs.HashMap.{get}
use Rattle.mw_position.specs.Variables.{is_in}
use Rattle.mw_pattern.specs.Tables.{Key, same_key, variable_of, pointed, position_in}
use Rattle.mw_pattern.proofs.Tables.{is_found, met_again, table_met, pointed_more}
use Rattle.mw_pattern.proofs.places.Places.meet.Goals as goal

pub returns-then-contains_key-clause-ok : goal.returns-then-contains_key-clause-ok
returns-then-contains_key-clause-ok c =
    let q : Key = (c.as_slice.result, c.x.inside.sort) in
    let n : variable_of q ≡ c.args.x.now = ap (λ n. record { name = n; sort = c.x.inside.sort }) c.as_slice.ensures ∙ c.x.view_is in
    let i : is_in (variable_of q) (pointed c.self.inside.variables.items) ≡ true = sym (is_found (variable_of q) _) ∙ ap is_some (sym (c.self.invariant q)) ∙ sym c.contains_key.ensures ∙ c.if-contains_key.true in
    let k : is_in c.args.x.now c.args.self.now ≡ true = rw (n, c.self.view_is) at i in met_again c.args.self.now c.args.x.now k

pub invariant_of-self-in_default : goal.invariant_of-self-in_default
invariant_of-self-in_default c =
    let q : Key = (c.as_slice.result, c.x.inside.sort) in
    let n : variable_of q ≡ c.args.x.now = ap (λ n. record { name = n; sort = c.x.inside.sort }) c.as_slice.ensures ∙ c.x.view_is in
    let i : is_in (variable_of q) (pointed c.self.inside.variables.items) ≡ false = sym (is_found (variable_of q) _) ∙ ap is_some (sym (c.self.invariant q)) ∙ sym c.contains_key.ensures ∙ c.if-contains_key.false in
    let e : c.len-place.result ≡ length (pointed c.self.inside.variables.items) = let m = length-map c.self.inside.variables.items (λ x. x.now) in omega (arith, c.len-place.ensures, m, c.self.inside.variables.ok.0) in
    let p : pointed c.push.new.self.items ≡ pointed c.self.inside.variables.items ++ variable_of q ∷ [] =
    ap pointed c.in_ok-push.ensures.items ∙ pointed_more c.self.inside.variables.items c.args.x ∙ ap (λ y. pointed c.self.inside.variables.items ++ y ∷ []) (sym n) in
    let u : (r : Key) → get same_key c.insert.new.self r ≡ cond (same_key q r) (Some (length (pointed c.self.inside.variables.items))) (get same_key c.self.inside.table r) =
    subst (λ m. (r : Key) → get same_key c.insert.new.self r ≡ cond (same_key q r) (Some m) (get same_key c.self.inside.table r)) e c.in_default.ensures.updates.0 in
    λ r. table_met (pointed c.self.inside.variables.items) q i (get same_key c.self.inside.table) (get same_key c.insert.new.self) u c.self.invariant r ∙ ap (position_in (variable_of r)) (sym p)

pub returns-clause-ok : goal.returns-clause-ok
returns-clause-ok c =
    let q : Key = (c.as_slice.result, c.x.inside.sort) in
    let n : variable_of q ≡ c.args.x.now = ap (λ n. record { name = n; sort = c.x.inside.sort }) c.as_slice.ensures ∙ c.x.view_is in
    let i : is_in (variable_of q) (pointed c.self.inside.variables.items) ≡ false = sym (is_found (variable_of q) _) ∙ ap is_some (sym (c.self.invariant q)) ∙ sym c.contains_key.ensures ∙ c.if-contains_key.false in
    let k : is_in c.args.x.now c.args.self.now ≡ false = rw (n, c.self.view_is) at i in
    let p : pointed c.push.new.self.items ≡ c.args.self.now ++ c.args.x.now ∷ [] =
    ap pointed c.in_ok-push.ensures.items ∙ pointed_more c.self.inside.variables.items c.args.x ∙ ap (λ ys. ys ++ c.args.x.now ∷ []) c.self.view_is in rw k p
