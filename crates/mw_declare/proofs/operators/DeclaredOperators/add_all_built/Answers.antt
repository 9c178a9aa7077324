use Rattle.std.proofs.Common.{◌≡◌, ◌<◌, ◌∙◌, ◌+◌, ◌-◌, List, length, ap, sym, arith}
use Rattle.mw_declare.specs.Hierarchy.{Hierarchy}
use Rattle.mw_declare.specs.Built.{kinds_from}
use Rattle.mw_declare.specs.Operators.{Declared, with_kinds}
use Rattle.mw_declare.proofs.KindNames.{step_in, step_out}
use Rattle.mw_declare.proofs.operators.DeclaredOperators.add_all_built.Goals as goal
use Rattle.mw_declare.proofs.operators.DeclaredOperators.add_all_built.Goals.{then-names_kind+in_ok-add_built, else-names_kind}

pub loop-place-preserved : goal.loop-place-preserved
loop-place-preserved c =
    let h = c.args.hierarchy.now in
    let t = c.args.truth in
    let n = length h.names in
    let place = c.loop-place.place in
    let names : length c.hierarchy.inside.names ≡ n = ap (λ (h : Hierarchy). length h.names) c.hierarchy.view_is in
    let low : place < n = omega (arith, c.loop-place-test.true, c.in_ok-place-end.ensures, names) in
    let rest = kinds_from h (n - (place + 1)) (place + 1 + 1) in
    elim c.if-names_kind.branch [
      | then-names_kind+in_ok-add_built w ↦
          ap (λ (os : List Declared). with_kinds t os rest) (w.self-is ∙ w.in_ok-add_built.ensures)
          ∙ sym (ap (with_kinds t c.loop-place.self) (step_in h n place low (sym c.names_kind.ensures ∙ w.if-names_kind.true))) ∙ c.loop-place.invariant
      | else-names_kind w ↦
          ap (λ (os : List Declared). with_kinds t os rest) w.self-is
          ∙ sym (ap (with_kinds t c.loop-place.self) (step_out h n place low (sym c.names_kind.ensures ∙ w.if-names_kind.false))) ∙ c.loop-place.invariant
    ]
