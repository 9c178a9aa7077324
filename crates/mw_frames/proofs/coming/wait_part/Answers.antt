use Rattle.std.proofs.Common.{◌≡◌, ◌∙◌, List, sym, ap, arith}
use Rattle.std.specs.Prelude.{unwrap_or, slice_get, drop}
use Rattle.std.proofs.lemmas.Result.{on_ok_weaker}
use Rattle.mw_logic.specs.Term.{RawTerm, variable}
use Rattle.mw_position.specs.Positions.{position}
use Rattle.mw_pattern.specs.Clean.{clean}
use Rattle.mw_frames.specs.Jobs.{value_at, sizes}
use Rattle.mw_stack.specs.Own.{spread}
use Rattle.mw_frames.proofs.Arriving.{value_comes, value_instance}
use Rattle.mw_frames.proofs.coming.wait_part.Goals as goal

pub returns-then-is_commutative-clause-comes : goal.returns-then-is_commutative-clause-comes
returns-then-is_commutative-clause-comes c =
    let vs : List RawTerm = c.args.machine.now.kept.values in
    let v : c.in_ok-value-in-Var.value ≡ value_at vs c.args.base c.in-Var.i =
    c.in_ok-value-in-Var.ensures ∙ ap (λ us. unwrap_or (slice_get us c.in-Var.i) (variable (position c.in-Var.i))) (c.behind.ensures ∙ ap (λ us. drop c.args.base us) c.values.ensures) in
    on_ok_weaker c.settle_value.result
    (value_comes c.args.facts.now vs c.args.frame c.args.base c.args.top c.in-Var.i (clean c.args.pattern.now) c.in_ok-value-in-Var.value c.args.machine.now.done.items c.settle_value.new.machine.done.items c.args.machine.now.jobs.items
    c.settle_value.new.machine.jobs.items (ap clean c.in-Var.is) v)
    (c.settle_value.ensures.comes vs (sym c.if-is_commutative.ensures))

pub returns-then-is_commutative-clause-weight : goal.returns-then-is_commutative-clause-weight
returns-then-is_commutative-clause-weight c =
    let vs : List RawTerm = c.args.machine.now.kept.values in
    let v : c.in_ok-value-in-Var.value ≡ value_at vs c.args.base c.in-Var.i =
    c.in_ok-value-in-Var.ensures ∙ ap (λ us. unwrap_or (slice_get us c.in-Var.i) (variable (position c.in-Var.i))) (c.behind.ensures ∙ ap (λ us. drop c.args.base us) c.values.ensures) in
    let s = ap (λ t. sizes (spread c.args.facts.now c.args.frame.op t)) (value_instance c.args.facts.now vs c.args.base c.in-Var.i (clean c.args.pattern.now) c.in_ok-value-in-Var.value (ap clean c.in-Var.is) v) in
    on_ok_weaker c.settle_value.result (λ e. omega (arith, e, s)) (c.settle_value.ensures.weight vs)

pub returns-else-is_commutative-clause-comes : goal.returns-else-is_commutative-clause-comes
returns-else-is_commutative-clause-comes c =
    let vs : List RawTerm = c.args.machine.now.kept.values in
    let v : c.in_ok-value-in-Var.value ≡ value_at vs c.args.base c.in-Var.i =
    c.in_ok-value-in-Var.ensures ∙ ap (λ us. unwrap_or (slice_get us c.in-Var.i) (variable (position c.in-Var.i))) (c.behind.ensures ∙ ap (λ us. drop c.args.base us) c.values.ensures) in
    on_ok_weaker c.line_value.result
    (value_comes c.args.facts.now vs c.args.frame c.args.base c.args.top c.in-Var.i (clean c.args.pattern.now) c.in_ok-value-in-Var.value c.args.machine.now.done.items c.line_value.new.machine.done.items c.args.machine.now.jobs.items
    c.line_value.new.machine.jobs.items (ap clean c.in-Var.is) v)
    (c.line_value.ensures.comes vs (sym c.if-is_commutative.ensures))

pub returns-else-is_commutative-clause-weight : goal.returns-else-is_commutative-clause-weight
returns-else-is_commutative-clause-weight c =
    let vs : List RawTerm = c.args.machine.now.kept.values in
    let v : c.in_ok-value-in-Var.value ≡ value_at vs c.args.base c.in-Var.i =
    c.in_ok-value-in-Var.ensures ∙ ap (λ us. unwrap_or (slice_get us c.in-Var.i) (variable (position c.in-Var.i))) (c.behind.ensures ∙ ap (λ us. drop c.args.base us) c.values.ensures) in
    let s = ap (λ t. sizes (spread c.args.facts.now c.args.frame.op t)) (value_instance c.args.facts.now vs c.args.base c.in-Var.i (clean c.args.pattern.now) c.in_ok-value-in-Var.value (ap clean c.in-Var.is) v) in
    on_ok_weaker c.line_value.result (λ e. omega (arith, e, s)) (c.line_value.ensures.weight vs)
