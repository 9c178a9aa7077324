use Rattle.std.proofs.Common.{◌≡◌, ◌∙◌, ◌∷◌, ◌++◌, ◌+◌, ◌-◌, [], ap, sym, arith, length, get_or}
use Rattle.std.proofs.Math.ListN.{set}
use Rattle.std.proofs.lemmas.Grind.{get_or_default_zero}
use Rattle.mw_search.proofs.BagLists.{IsRunsFrom, IsOneMore, one_more, runs_counted, runs_put}
use Rattle.mw_search.proofs.bags.runs.Goals as goal

pub overflow_add-index_mut : goal.overflow_add-index_mut
overflow_add-index_mut c =
    let (ds, e) = c.is_last.ensures.last c.if-is_last.true in
    let ns = c.loop-i.numbers.items in
    let m : IsOneMore c.args.elements.now c.loop-i.i ns = one_more c.args.elements.now c.loop-i.heads.items ds ns c.loop-i.i c.index-elements-i.result c.loop-i.invariant (sym c.as_slice.ensures.value ∙ e) in
    let l : c.len-last.result ≡ length ns = omega (arith, c.len-last.ensures, c.loop-i.numbers.ok) in
    let v : c.index_mut.result.now ≡ get_or ns (length ns - 1) 0 =
    c.index_mut.ensures.value ∙ ap (λ n. get_or ns (n - 1) c.index_mut.result.now) l ∙ get_or_default_zero ns (length ns - 1) c.index_mut.result.now (omega (arith, m.some)) in
    omega (arith, v, m.few, c.loop-i.invariant.small, c.loop-i.invariant.inside)

pub loop-i-preserved-then-is_last : goal.loop-i-preserved-then-is_last
loop-i-preserved-then-is_last c =
    let (ds, e) = c.is_last.ensures.last c.if-is_last.true in
    let xs = c.args.elements.now in
    let hs = c.loop-i.heads.items in
    let ns = c.loop-i.numbers.items in
    let h = sym c.as_slice.ensures.value ∙ e in
    let m : IsOneMore xs c.loop-i.i ns = one_more xs hs ds ns c.loop-i.i c.index-elements-i.result c.loop-i.invariant h in
    let l : c.len-last.result ≡ length ns = omega (arith, c.len-last.ensures, c.loop-i.numbers.ok) in
    let v : c.index_mut.result.now ≡ get_or ns (length ns - 1) 0 =
    c.index_mut.ensures.value ∙ ap (λ n. get_or ns (n - 1) c.index_mut.result.now) l ∙ get_or_default_zero ns (length ns - 1) c.index_mut.result.now (omega (arith, m.some)) in
    let j : c.loop-i.i - 1 + 1 ≡ c.loop-i.i = omega arith in
    let r : IsRunsFrom xs (c.loop-i.i - 1) hs (set ns (length ns - 1) (c.index_mut.result.now + 1)) =
    runs_counted xs hs ds ns c.loop-i.i (c.loop-i.i - 1) (c.index_mut.result.now + 1) c.index-elements-i.result j c.index-elements-i.is c.loop-i.invariant h (ap (λ n. n + 1) v) in
    rw l r

pub loop-i-preserved : goal.loop-i-preserved
loop-i-preserved c =
    let t = c.index-elements-i.result in
    let p : c.push.new.self.items ≡ c.loop-i.heads.items ++ t ∷ [] = c.in_ok-push.ensures.items ∙ ap (λ x. c.loop-i.heads.items ++ x ∷ []) c.in_ok-copy.ensures in
    let q : c.push-else-is_last.new.self.items ≡ c.loop-i.numbers.items ++ 1 ∷ [] = c.in_ok-push-2.ensures.items in
    let j : c.loop-i.i - 1 + 1 ≡ c.loop-i.i = omega arith in
    rw (p, q) (runs_put c.args.elements.now c.loop-i.heads.items c.loop-i.numbers.items c.loop-i.i (c.loop-i.i - 1) t j c.index-elements-i.is c.loop-i.invariant (λ ds d e. c.is_last.ensures.other c.if-is_last.false ds d (c.as_slice.ensures.value ∙ e)))
