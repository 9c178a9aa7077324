use Rattle.std.proofs.Common.{ap, sym, arith, ◌≡◌, ◌≢◌, ◌∙◌, ◌<◌, ◌+◌, ◌∷◌, [], suc, get_or, length}
use Rattle.std.proofs.lemmas.List.{nil_from_length}
use Rattle.std.specs.Vec.Iter.{into_iter_items}
use Rattle.mw_logic.specs.Terms.{terms_of}
use Rattle.mw_logic.proofs.Pushed.{terms_of-append}
use Rattle.mw_frames.proofs.ChosenOnes.{one_taken, none_left, none_taken, one_left, all_taken, all_left}
use Rattle.mw_frames.proofs.firing.set_apart.Goals as goal
use Rattle.mw_frames.proofs.firing.set_apart.Goals.{else-next-numbers-via-then-next-numbers+else-numbers-next, else-next-numbers-via-else-next-numbers}

pub loop-i-preserved-then-numbers-next : goal.loop-i-preserved-then-numbers-next
loop-i-preserved-then-numbers-next c =
    let was = c.loop-i.invariant in
    let i = c.args.first + c.loop-i.i-iterator.count in
    let ns = c.args.numbers.now in
    let t = c.in-Some.term in
    let (steps, at, on, fits) = c.in-Some.ensures.steps in
    let after : c.args.first + c.next.new.self.count ≡ suc i = omega (arith, on) in
    let is : into_iter_items c.loop-i.i-iterator.iter ≡ t ∷ into_iter_items c.next.new.self.iter = steps.0 in
    let more = ap terms_of c.in_ok-push.ensures.items ∙ terms_of-append c.loop-i.taken.items (t ∷ []) in
    let short = ap length is in
    let gone = steps.1 in
    let e : get_or ns c.loop-i.next 0 ≡ i = c.if-numbers-next.true ∙ ap (λ n. c.args.first + n) at in
    record {
      size = let s = was.size in omega (arith, s, short, gone);
      few = let s = was.few in omega (arith, s, on, gone);
      within = let l = c.if-next-numbers.true in omega (arith, l);
      taken = one_taken i _ c.loop-i.next after ns t _ _ is _ _ c.if-next-numbers.true e _ more was.taken;
      left = none_left i _ c.loop-i.next after ns t _ _ is _ _ c.if-next-numbers.true e was.left;
    }

pub loop-i-preserved : goal.loop-i-preserved
loop-i-preserved c =
    let was = c.loop-i.invariant in
    let i = c.args.first + c.loop-i.i-iterator.count in
    let ns = c.args.numbers.now in
    let t = c.in-Some.term in
    let (steps, at, on, fits) = c.in-Some.ensures.steps in
    let after : c.args.first + c.next.new.self.count ≡ suc i = omega (arith, on) in
    let is : into_iter_items c.loop-i.i-iterator.iter ≡ t ∷ into_iter_items c.next.new.self.iter = steps.0 in
    let more = ap terms_of c.in_ok-push-2.ensures.items ∙ terms_of-append c.loop-i.found.items (t ∷ []) in
    let short = ap length is in
    let gone = steps.1 in
    let none : c.loop-i.next < length ns → get_or ns c.loop-i.next 0 ≢ i = elim c.else-next-numbers.branch [
      | else-next-numbers-via-then-next-numbers+else-numbers-next v ↦ λ l q. v.if-numbers-next.false (q ∙ ap (λ n. c.args.first + n) (sym at))
      | else-next-numbers-via-else-next-numbers v ↦ λ l. absurd (omega (arith, l, v.if-next-numbers.false))
    ] in
    record {
      size = let s = was.size in omega (arith, s, short, gone);
      few = let s = was.few in omega (arith, s, on, gone);
      within = was.within;
      taken = none_taken i _ c.loop-i.next after ns t _ _ is _ _ none was.taken;
      left = one_left i _ c.loop-i.next after ns t _ _ is _ _ none _ more was.left;
    }

pub returns-clause-taken : goal.returns-clause-taken
returns-clause-taken c =
    let was = c.loop-i.invariant in
    let empty = nil_from_length _ (sym was.size ∙ c.in-None.ensures.steps.0.0) in
    all_taken _ _ _ _ _ empty was.taken

pub returns-clause-left : goal.returns-clause-left
returns-clause-left c =
    let was = c.loop-i.invariant in
    let empty = nil_from_length _ (sym was.size ∙ c.in-None.ensures.steps.0.0) in
    all_left _ _ _ _ _ empty was.left
