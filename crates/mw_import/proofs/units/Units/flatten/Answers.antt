use Rattle.std.proofs.Common.{◌≡◌, ◌∙◌, ◌∷◌, [], ap, sym, subst, drop, ◌+◌}
use Rattle.std.proofs.lemmas.List.{drop_all}
use Rattle.mw_module.specs.Forms.{shape_of}
use Rattle.mw_module.specs.Units.{seen_lined, seen_statements}
use Rattle.mw_import.specs.Flat.{ImportOf, imports_in, IsFlat, IsWrong, ImportFault}
use Rattle.mw_import.proofs.Imports.{IsOnTheWay, at_start, at_end, passed, led, wrong, no_import, left_at}
use Rattle.mw_module.proofs.Causes.{passed_on}
use Rattle.mw_import.proofs.units.Units.flatten.Goals as goal
use Rattle.mw_import.proofs.units.Units.flatten.Goals.{in-Import+in_ok-unit+in_ok-bring, in_default}

pub loop-statement-init : goal.loop-statement-init
loop-statement-init c =
    at_start c.args.self.now c.args.name.now (seen_statements c.args.statements.now) c.bring_first.new.there.keys c.in_ok-bring_first.ensures.brought c.in_ok-bring_first.ensures.closed

pub returns-in_err-unit-clause-fault : goal.returns-in_err-unit-clause-fault
returns-in_err-unit-clause-fault c =
    let us = c.args.self.now in
    let own = c.args.name.now in
    let all = seen_statements c.args.statements.now in
    let i = c.loop-statement.statement-index in
    let s = c.statement-item.result in
    let rest = seen_statements (drop (i + 1) c.args.statements.now) in
    let there = c.loop-statement.there.keys in
    let left = ap seen_statements (left_at c.args.statements.now i s c.loop-statement-test.true c.statement-item.is) in
    let w = subst (λ rest. IsOnTheWay us own all rest there) left c.loop-statement.invariant in
    let m : ImportOf = record { line = s.line; name = c.as_slice-text.result.now } in
    let is : imports_in s.line (shape_of s.form) ≡ m ∷ [] =
    ap (λ f. imports_in s.line (shape_of f)) c.in-Import.is
    ∙ ap (λ n. let e : ImportOf = record { line = s.line; name = n } in e ∷ []) (sym c.as_slice-text.ensures) in
    passed_on (IsWrong us own m) (ImportFault us own all) (λ f h. wrong us own all (seen_lined s) rest there w m is f h)
    c.from_residual-in_err-unit.result c.in_err-unit.field-0.0 c.from_residual-in_err-unit.ensures.1 c.in_err-unit.ensures.fault

pub loop-statement-preserved : goal.loop-statement-preserved
loop-statement-preserved c =
    let us = c.args.self.now in
    let own = c.args.name.now in
    let all = seen_statements c.args.statements.now in
    let i = c.loop-statement.statement-index in
    let s = c.statement-item.result in
    let rest = seen_statements (drop (i + 1) c.args.statements.now) in
    let there = c.loop-statement.there.keys in
    let left = ap seen_statements (left_at c.args.statements.now i s c.loop-statement-test.true c.statement-item.is) in
    let w = subst (λ rest. IsOnTheWay us own all rest there) left c.loop-statement.invariant in
    elim c.match-statement.branch [
      | in-Import+in_ok-unit+in_ok-bring b ↦
          let m : ImportOf = record { line = s.line; name = b.as_slice-text.result.now } in
          let is : imports_in s.line (shape_of s.form) ≡ m ∷ [] =
          ap (λ f. imports_in s.line (shape_of f)) b.in-Import.is
          ∙ ap (λ n. let e : ImportOf = record { line = s.line; name = n } in e ∷ []) (sym b.as_slice-text.ensures) in
          subst (λ ks. IsOnTheWay us own all rest ks) (sym (ap (λ t. t.keys) b.there-is))
          (led us own all (seen_lined s) rest there w m is b.in_ok-unit.unit b.bring.new.there.keys b.in_ok-unit.ensures.number b.in_ok-bring.ensures.brought b.in_ok-bring.ensures.closed)
      | in_default b ↦
          subst (λ ks. IsOnTheWay us own all rest ks) (sym (ap (λ t. t.keys) b.there-is))
          (passed us own all (seen_lined s) rest there w (no_import s.line s.form b.in_default.not-Import))
    ]

pub returns-clause-flat : goal.returns-clause-flat
returns-clause-flat c =
    let us = c.args.self.now in
    let own = c.args.name.now in
    let all = seen_statements c.args.statements.now in
    let there = c.loop-statement.there.keys in
    let end = ap seen_statements (drop_all c.loop-statement.statement-index c.args.statements.now c.loop-statement-test.false) in
    subst (IsFlat us all) (sym (c.in_ok-reached.ensures.items_if_clones_equal (λ x y e. e) ∙ c.as_slice.ensures.keys))
    (at_end us own all there (subst (λ rest. IsOnTheWay us own all rest there) end c.loop-statement.invariant))
