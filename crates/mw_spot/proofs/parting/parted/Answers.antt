use Rattle.std.proofs.Common.{◌≡◌, ◌<◌, ◌+◌, ◌-◌, List, ℕ, take, drop, length, get_or, ap, sym, subst, refl, arith, ◌∙◌}
use Rattle.std.proofs.lemmas.List.{nil_from_length}
use Rattle.std.specs.Vec.Iter.{into_iter_items}
use Rattle.mw_logic.specs.Term.{apply, join}
use Rattle.mw_logic.specs.Terms.{terms_of}
use Rattle.mw_logic.specs.Parts.{number_of_terms}
use Rattle.mw_arguments.specs.Places.{chosen, others}
use Rattle.mw_stack.proofs.Piles.{number-terms_of}
use Rattle.mw_redex.proofs.Exchanged.{none_first, turn_out, turn_in, all_kept}
use Rattle.mw_spot.proofs.Levels.{beside, so_many}
use Rattle.mw_spot.proofs.Parted.{first_to_come, none_to_come, turn_taken, turn_left, all_taken}
use Rattle.mw_spot.proofs.parting.parted.Goals as goal
use Rattle.mw_spot.proofs.parting.parted.Goals.{in_default-via-then-rest-lt1, in_default-via-in-len1-up+else-next-i}

pub loop-i-preserved-then-next-i : goal.loop-i-preserved-then-next-i
loop-i-preserved-then-next-i c =
    let was = c.loop-i.invariant in
    let i = c.loop-i.i-iterator.count in
    let xs = c.args.args.items in
    let ns = c.loop-i.rest.now in
    let now : List ℕ = take (length ns - 1) (drop 1 ns) in
    let t = c.in-Some.term in
    let (steps, at, on, fits) = c.in-Some.ensures.steps in
    let after : i + 1 ≡ c.next.new.self.count = omega (arith, on) in
    let gone = steps.1 in
    let short = ap length steps.0 in
    let came = first_to_come xs (into_iter_items c.next.new.self.iter) i t (sym steps.0 ∙ was.to_come) in
    let number : get_or ns 0 0 ≡ i + 1 = c.if-next-i.true ∙ ap (λ n. n + 1) at in
    record {
      size = let s = was.size in omega (arith, s, short, gone);
      few = let s = was.few in omega (arith, s, on, gone);
      to_come = came.2 ∙ ap (λ n. drop n xs) after;
      taken = subst (λ n. join (terms_of c.push.new.self.items) (chosen (n + 1) now (terms_of (drop n xs))) ≡ chosen 1 c.args.numbers.now (terms_of xs)) after
          (turn_taken c.push.new.self.items c.loop-i.taken.items i ns now xs t t _ came.0 came.1 refl c.in_ok-push-in-len1-up.ensures.items c.in-len1-up.len_at_least number refl was.taken);
      left = subst (λ n. join (terms_of c.loop-i.others.items) (others (n + 1) now (terms_of (drop n xs))) ≡ others 1 c.args.numbers.now (terms_of xs)) after
          (turn_out c.loop-i.others.items c.loop-i.others.items i ns now xs _ came.0 refl c.in-len1-up.len_at_least number refl was.left);
    }

pub loop-i-preserved : goal.loop-i-preserved
loop-i-preserved c =
    let was = c.loop-i.invariant in
    let i = c.loop-i.i-iterator.count in
    let xs = c.args.args.items in
    let ns = c.loop-i.rest.now in
    let t = c.in-Some.term in
    let (steps, at, on, fits) = c.in-Some.ensures.steps in
    let after : i + 1 ≡ c.next.new.self.count = omega (arith, on) in
    let gone = steps.1 in
    let short = ap length steps.0 in
    let came = first_to_come xs (into_iter_items c.next.new.self.iter) i t (sym steps.0 ∙ was.to_come) in
    let differs : get_or ns 0 0 ≡ i + 1 → ⊥ = elim c.in_default.branch [
      | in_default-via-then-rest-lt1 v ↦ (let l : length ns < 1 = grind arith in none_first ns i l)
      | in_default-via-in-len1-up+else-next-i v ↦ λ e. v.if-next-i.false (e ∙ ap (λ n. n + 1) (sym at))
    ] in
    record {
      size = let s = was.size in omega (arith, s, short, gone);
      few = let s = was.few in omega (arith, s, on, gone);
      to_come = came.2 ∙ ap (λ n. drop n xs) after;
      taken = subst (λ n. join (terms_of c.loop-i.taken.items) (chosen (n + 1) ns (terms_of (drop n xs))) ≡ chosen 1 c.args.numbers.now (terms_of xs)) after
          (turn_left c.loop-i.taken.items c.loop-i.taken.items i ns ns xs t _ came.0 came.1 refl refl differs was.taken);
      left = subst (λ n. join (terms_of c.push-in_default.new.self.items) (others (n + 1) ns (terms_of (drop n xs))) ≡ others 1 c.args.numbers.now (terms_of xs)) after
          (turn_in c.push-in_default.new.self.items c.loop-i.others.items i ns ns xs t t _ came.0 came.1 refl c.in_ok-push-in_default.ensures.items refl differs was.left);
    }

pub returns-clause-term : goal.returns-clause-term
returns-clause-term c =
    let was = c.loop-i.invariant in
    let empty = nil_from_length _ (sym was.size ∙ c.in-None.ensures.steps.0.0) in
    let i = c.loop-i.i-iterator.count in
    c.in_ok-term.ensures ∙ ap (apply c.args.operator) (all_taken (terms_of c.loop-i.taken.items) i c.loop-i.rest.now c.args.args.items _ (none_to_come c.args.args.items i (sym was.to_come ∙ empty)) was.taken)

pub returns-clause-level : goal.returns-clause-level
returns-clause-level c =
    let was = c.loop-i.invariant in
    let empty = nil_from_length _ (sym was.size ∙ c.in-None.ensures.steps.0.0) in
    let i = c.loop-i.i-iterator.count in
    let xs = c.loop-i.others.items in
    let all = all_kept (terms_of xs) i c.loop-i.rest.now c.args.args.items _ (none_to_come c.args.args.items i (sym was.to_come ∙ empty)) was.left in
    let m = c.min-at.ensures in
    let s = c.saturating_sub.ensures in
    let n = c.len-2.ensures in
    let v = c.loop-i.others.ok.0 in
    let size = sym (ap number_of_terms all) ∙ number-terms_of xs in
    record { operator = refl; others = beside c.min-at.result xs ∙ all; before = so_many c.min-at.result xs (omega (arith, m, n, v)) ∙ omega (arith, m, s, n, v, size) }
