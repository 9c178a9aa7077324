use Rattle.std.proofs.Common.{◌≡◌, ◌∙◌, ◌+◌, List, drop, sym, ap, arith}
use Rattle.std.proofs.lemmas.Bool.{and_parts, eqb-true}
use Rattle.std.proofs.lemmas.Result.{on_ok_weaker}
use Rattle.mw_logic.specs.Term.{RawTerm, RawTerms, apply}
use Rattle.mw_logic.specs.NormalForm.{applied_in}
use Rattle.mw_matching.specs.Matches.{evaluated_all}
use Rattle.mw_pattern.specs.Clean.{clean}
use Rattle.mw_frames.specs.Jobs.{instance_of, size, nodes, nodes_in}
use Rattle.mw_frames.proofs.Arriving.{parts_come, sizes-spread}
use Rattle.mw_frames.proofs.coming.wait_parts.Goals as goal

pub returns-in-Op-clause-comes : goal.returns-in-Op-clause-comes
returns-in-Op-clause-comes c =
    on_ok_weaker c.wait_all.result
    (parts_come c.args.facts.now c.args.machine.now.kept.values c.args.frame c.in-Op.operator c.args.base c.args.top (clean c.args.pattern.now) c.in-Op.args c.args.machine.now.done.items c.wait_all.new.machine.done.items
    c.args.machine.now.jobs.items c.wait_all.new.machine.jobs.items (sym c.if-is_over_itself.ensures) (ap clean c.in-Op.is))
    c.wait_all.ensures.comes

pub returns-in-Op-clause-weight : goal.returns-in-Op-clause-weight
returns-in-Op-clause-weight c =
    let sig = c.args.facts.now in
    let vs : List RawTerm = c.args.machine.now.kept.values in
    let ts : RawTerms = evaluated_all sig (drop c.args.base vs) c.in-Op.args in
    let to : c.args.frame.op ≡ c.in-Op.operator = eqb-true c.args.frame.op c.in-Op.operator (and_parts _ _ (sym c.if-is_over_itself.ensures)).0 in
    let e : clean c.args.pattern.now ≡ apply c.in-Op.operator c.in-Op.args = ap clean c.in-Op.is in
    let a : size (instance_of sig vs (clean c.args.pattern.now) c.args.base) ≡ size (applied_in sig c.args.frame.op ts) =
    ap (λ p. size (instance_of sig vs p c.args.base)) e ∙ sym (ap (λ i. size (applied_in sig i ts)) to) in
    let b : nodes (clean c.args.pattern.now) ≡ 5 + nodes_in c.in-Op.args = ap nodes e in
    let d = sizes-spread sig c.args.frame.op ts in
    on_ok_weaker c.wait_all.result (λ w. omega (arith, w, a, b, d)) c.wait_all.ensures.weight
