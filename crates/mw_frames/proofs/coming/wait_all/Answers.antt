use Rattle.std.proofs.Common.{◌≡◌, ◌≤◌, ◌∙◌, ◌+◌, ◌-◌, List, drop, sym, subst, ap, arith}
use Rattle.mw_logic.specs.Term.{RawTerm, RawTerms, cons}
use Rattle.mw_matching.specs.Matches.{evaluated_all}
use Rattle.mw_pattern.specs.Clean.{clean, clean_all}
use Rattle.mw_stack.specs.Own.{spread}
use Rattle.mw_frames.specs.Jobs.{instance_of, sizes, nodes, nodes_in, weights}
use Rattle.mw_frames.specs.State.{IsKnownIn, AreKnownIn}
use Rattle.mw_frames.specs.Arrivals.{spread_all, Comes}
use Rattle.mw_frames.proofs.JobOrder.{one_more}
use Rattle.mw_frames.proofs.Arriving.{comes_then, sizes-join}
use Rattle.mw_frames.proofs.coming.wait_all.Goals as goal

pub loop-left-preserved : goal.loop-left-preserved
loop-left-preserved c =
    let left = c.loop-left.left in
    let sig = c.args.facts.now in
    let f = c.args.frame in
    let base = c.args.base in
    let top = c.args.top in
    let vs : List RawTerm = c.args.machine.now.kept.values in
    let inv = c.loop-left.invariant in
    let (d, t) = one_more c.slice-list.result.now 0 (left - 1) left c.index-list-left.result (omega arith) (omega arith) inv.bound c.index-list-left.is in
    let p : RawTerm = clean c.index-list-left.result in
    let ps : RawTerms = clean_all (drop left c.slice-list.result.now) in
    let e : cons p ps ≡ clean_all (drop (left - 1) c.slice-list.result.now) = sym (ap clean_all d) in
    let v : c.loop-left.machine.kept.values ≡ vs = ap (λ k. k.values) inv.keeps.kept in
    let one : Comes sig vs f (spread sig f.op (instance_of sig vs p base)) (λ M n. IsKnownIn M n vs base top p) c.loop-left.machine.done.items c.wait_part.new.machine.done.items c.loop-left.machine.jobs.items c.wait_part.new.machine.jobs.items =
    subst (λ ws. Comes sig ws f (spread sig f.op (instance_of sig ws p base)) (λ M n. IsKnownIn M n ws base top p) c.loop-left.machine.done.items c.wait_part.new.machine.done.items c.loop-left.machine.jobs.items c.wait_part.new.machine.jobs.items) v
    c.in_ok-wait_part.ensures.comes in
    let w : weights sig vs c.wait_part.new.machine.jobs.items ≤ weights sig vs c.loop-left.machine.jobs.items + sizes (spread sig f.op (instance_of sig vs p base)) + nodes p =
    subst (λ ws. weights sig ws c.wait_part.new.machine.jobs.items ≤ weights sig ws c.loop-left.machine.jobs.items + sizes (spread sig f.op (instance_of sig ws p base)) + nodes p) v c.in_ok-wait_part.ensures.weight in
    record {
      bound = omega (arith, inv.bound);
      keeps = record { frames = c.in_ok-wait_part.ensures.keeps.frames ∙ inv.keeps.frames; kept = c.in_ok-wait_part.ensures.keeps.kept ∙ inv.keeps.kept };
      comes =
          subst (λ qs. Comes sig vs f (spread_all sig f.op (evaluated_all sig (drop base vs) qs)) (λ M n. AreKnownIn M n vs base top qs) c.args.machine.now.done.items c.wait_part.new.machine.done.items c.args.machine.now.jobs.items c.wait_part.new.machine.jobs.items) e
          (comes_then sig vs f (spread_all sig f.op (evaluated_all sig (drop base vs) ps)) (spread sig f.op (instance_of sig vs p base)) (λ M n. AreKnownIn M n vs base top ps) (λ M n. IsKnownIn M n vs base top p) (λ M n. AreKnownIn M n vs base top (cons p ps))
          c.args.machine.now.done.items c.loop-left.machine.done.items c.wait_part.new.machine.done.items c.args.machine.now.jobs.items c.loop-left.machine.jobs.items c.wait_part.new.machine.jobs.items (λ M n k. k.1) (λ M n k. k.0) inv.comes one);
      weight =
          let a = inv.weight in
          let b = sizes-join (spread sig f.op (instance_of sig vs p base)) (spread_all sig f.op (evaluated_all sig (drop base vs) ps)) in
          let g = ap nodes_in e in
          let h = ap (λ qs. sizes (spread_all sig f.op (evaluated_all sig (drop base vs) qs))) e in
          omega (arith, a, b, g, h, w);
    }
