use Rattle.std.proofs.Common.{◌∙◌, ◌≡◌, ◌≤◌, ◌<◌, ◌-◌, ◌^◌, subst, sym, ap, length, take, drop, arith}
use Rattle.mw_trail.specs.Tracks.{Track, IsMark, moves, needed, counted}
use Rattle.mw_trail.proofs.Marks.{IsUntil, until_track, until_moves, until_all, until_exact, taken_fits, counted_fits, rest_is}
use Rattle.mw_trail.proofs.trail.Trail.back.Goals as goal

pub taken_by-taken-requires-clause-values : goal.taken_by-taken-requires-clause-values
taken_by-taken-requires-clause-values c =
    let p = c.self.inside in
    let m = c.args.mark in
    let t : Track = record { items = p.items.items; values = p.values.items; numbers = p.numbers.items } in
    let r : take (length c.deref.result.now - m) (drop m c.deref.result.now) ≡ drop m p.items.items = rest_is m c.deref.result.now ∙ ap (drop m) c.deref.ensures.value in
    let b : length p.values.items < 2 ^ 64 = subst (λ n. n < 2 ^ 64) (c.len-values.ensures ∙ p.values.ok.0) c.len-values.type_inv in
    subst (λ xs. needed xs < 2 ^ 64) (sym r) (taken_fits m (2 ^ 64) t c.self.invariant b)

pub taken_by-taken-requires-clause-numbers : goal.taken_by-taken-requires-clause-numbers
taken_by-taken-requires-clause-numbers c =
    let p = c.self.inside in
    let m = c.args.mark in
    let t : Track = record { items = p.items.items; values = p.values.items; numbers = p.numbers.items } in
    let r : take (length c.deref.result.now - m) (drop m c.deref.result.now) ≡ drop m p.items.items = rest_is m c.deref.result.now ∙ ap (drop m) c.deref.ensures.value in
    let b : length p.numbers.items < 2 ^ 64 = subst (λ n. n < 2 ^ 64) (c.len-numbers.ensures ∙ p.numbers.ok.0) c.len-numbers.type_inv in
    subst (λ xs. counted xs < 2 ^ 64) (sym r) (counted_fits m (2 ^ 64) t c.self.invariant b)

pub invariant_of-self : goal.invariant_of-self
invariant_of-self c =
    let p = c.self.inside in
    let m = c.args.mark in
    let t : Track = record { items = p.items.items; values = p.values.items; numbers = p.numbers.items } in
    let u : Track = record { items = c.truncate.new.self.items; values = c.truncate-then-mark-len.new.self.items; numbers = c.truncate-then-mark-len-2.new.self.items } in
    let r : take (length c.deref.result.now - m) (drop m c.deref.result.now) ≡ drop m p.items.items = rest_is m c.deref.result.now ∙ ap (drop m) c.deref.ensures.value in
    let a = c.taken_by-taken.ensures.values ∙ ap needed r in
    let b = c.taken_by-taken.ensures.numbers ∙ ap counted r in
    let v : c.saturating_sub.result ≡ length p.values.items - needed (drop m p.items.items) = c.saturating_sub.ensures ∙ ap (λ n. n - c.taken_by-taken.result.values) (c.len-values.ensures ∙ p.values.ok.0) ∙ ap (λ n. length p.values.items - n) a in
    let n : c.saturating_sub-then-mark-len.result ≡ length p.numbers.items - counted (drop m p.items.items) =
    c.saturating_sub-then-mark-len.ensures ∙ ap (λ n. n - c.taken_by-taken.result.numbers) (c.len-numbers.ensures ∙ p.numbers.ok.0) ∙ ap (λ n. length p.numbers.items - n) b in
    let l : IsUntil m t u = record {
      items = c.truncate.ensures.items;
      values = c.truncate-then-mark-len.ensures.items ∙ ap (λ k. take k p.values.items) v;
      numbers = c.truncate-then-mark-len-2.ensures.items ∙ ap (λ k. take k p.numbers.items) n;
    } in
    until_track m t u c.self.invariant l

pub returns-then-mark-len-clause-moves : goal.returns-then-mark-len-clause-moves
returns-then-mark-len-clause-moves c = λ M.
    let p = c.self.inside in
    let m = c.args.mark in
    let t : Track = record { items = p.items.items; values = p.values.items; numbers = p.numbers.items } in
    let u : Track = record { items = c.truncate.new.self.items; values = c.truncate-then-mark-len.new.self.items; numbers = c.truncate-then-mark-len-2.new.self.items } in
    let r : take (length c.deref.result.now - m) (drop m c.deref.result.now) ≡ drop m p.items.items = rest_is m c.deref.result.now ∙ ap (drop m) c.deref.ensures.value in
    let a = c.taken_by-taken.ensures.values ∙ ap needed r in
    let b = c.taken_by-taken.ensures.numbers ∙ ap counted r in
    let v : c.saturating_sub.result ≡ length p.values.items - needed (drop m p.items.items) = c.saturating_sub.ensures ∙ ap (λ n. n - c.taken_by-taken.result.values) (c.len-values.ensures ∙ p.values.ok.0) ∙ ap (λ n. length p.values.items - n) a in
    let n : c.saturating_sub-then-mark-len.result ≡ length p.numbers.items - counted (drop m p.items.items) =
    c.saturating_sub-then-mark-len.ensures ∙ ap (λ n. n - c.taken_by-taken.result.numbers) (c.len-numbers.ensures ∙ p.numbers.ok.0) ∙ ap (λ n. length p.numbers.items - n) b in
    let l : IsUntil m t u = record {
      items = c.truncate.ensures.items;
      values = c.truncate-then-mark-len.ensures.items ∙ ap (λ k. take k p.values.items) v;
      numbers = c.truncate-then-mark-len-2.ensures.items ∙ ap (λ k. take k p.numbers.items) n;
    } in
    let w : m ≤ length p.items.items = let x = c.len.ensures ∙ p.items.ok.0 in let y = c.if-mark-len.true in omega (arith, x, y) in
    until_moves M m t u c.self.invariant l w ∙ ap (λ s. take m (moves M s)) c.self.view_is

pub returns-then-mark-len-clause-exact : goal.returns-then-mark-len-clause-exact
returns-then-mark-len-clause-exact c = λ s k.
    let p = c.self.inside in
    let m = c.args.mark in
    let t : Track = record { items = p.items.items; values = p.values.items; numbers = p.numbers.items } in
    let u : Track = record { items = c.truncate.new.self.items; values = c.truncate-then-mark-len.new.self.items; numbers = c.truncate-then-mark-len-2.new.self.items } in
    let r : take (length c.deref.result.now - m) (drop m c.deref.result.now) ≡ drop m p.items.items = rest_is m c.deref.result.now ∙ ap (drop m) c.deref.ensures.value in
    let a = c.taken_by-taken.ensures.values ∙ ap needed r in
    let b = c.taken_by-taken.ensures.numbers ∙ ap counted r in
    let v : c.saturating_sub.result ≡ length p.values.items - needed (drop m p.items.items) = c.saturating_sub.ensures ∙ ap (λ n. n - c.taken_by-taken.result.values) (c.len-values.ensures ∙ p.values.ok.0) ∙ ap (λ n. length p.values.items - n) a in
    let n : c.saturating_sub-then-mark-len.result ≡ length p.numbers.items - counted (drop m p.items.items) =
    c.saturating_sub-then-mark-len.ensures ∙ ap (λ n. n - c.taken_by-taken.result.numbers) (c.len-numbers.ensures ∙ p.numbers.ok.0) ∙ ap (λ n. length p.numbers.items - n) b in
    let l : IsUntil m t u = record {
      items = c.truncate.ensures.items;
      values = c.truncate-then-mark-len.ensures.items ∙ ap (λ k. take k p.values.items) v;
      numbers = c.truncate-then-mark-len-2.ensures.items ∙ ap (λ k. take k p.numbers.items) n;
    } in
    until_exact m s t u c.self.invariant l (subst (IsMark m s) (sym c.self.view_is) k)

pub returns-else-mark-len-clause-moves : goal.returns-else-mark-len-clause-moves
returns-else-mark-len-clause-moves c = λ M.
    let p = c.self.inside in
    let t : Track = record { items = p.items.items; values = p.values.items; numbers = p.numbers.items } in
    let w : length p.items.items ≤ c.args.mark = let x = c.len.ensures ∙ p.items.ok.0 in let y = c.if-mark-len.false in omega (arith, x, y) in
    subst (λ s. moves M s ≡ take c.args.mark (moves M s)) c.self.view_is (until_all M c.args.mark t w)
