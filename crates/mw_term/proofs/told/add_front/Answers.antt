use Rattle.std.proofs.Common.{◌≡◌, ◌∙◌, ◌-◌, ◌++◌, ◌∷◌, List, ap, sym, subst, drop, get_or, length, arith}
use Rattle.std.proofs.lemmas.Grind.{common_steps}
use Rattle.std.proofs.lemmas.List.{drop_all}
use Rattle.mw_logic.specs.Term.{RawTerm}
use Rattle.mw_term.specs.Sections.{AreTold, told_by}
use Rattle.mw_term.specs.declared.told.Told.{Told}
use Rattle.mw_term.proofs.LastTold.{from_before, rest_before, told_at, told_push}
use Rattle.mw_term.proofs.told.add_front.Goals as goal

pub loop-at-init : goal.loop-at-init
loop-at-init c =
    let ts : List RawTerm = c.args.terms.now in
    let told : List Told = c.args.told.now.items in
    let n : Told = c.index-last.result.now in
    let (b, s) = c.requires in
    let d : drop (length c.args.front.now) c.args.front.now ++ ts ≡ ts = ap (λ (xs : List RawTerm). xs ++ ts) (drop_all (length c.args.front.now) c.args.front.now (omega arith)) in
    let i : n ≡ get_or told (length ts) n = grind (arith, common_steps) in
    let at : n ≡ get_or told (length ts - 0) n = i ∙ ap (λ k. get_or told k n) (omega arith) in
    record {
      inside = omega arith;
      table = (b, subst (AreTold b told) (sym d) s, told_at b told ts 0 n s (omega arith) at ∙ ap (told_by b) (sym d));
    }

pub loop-at-preserved : goal.loop-at-preserved
loop-at-preserved c =
    let k = c.loop-at.invariant in
    let t : RawTerm = c.index-front-at.result in
    let rest : List RawTerm = drop c.loop-at.at c.args.front.now ++ c.args.terms.now in
    let now : List RawTerm = drop (c.loop-at.at - 1) c.args.front.now ++ c.args.terms.now in
    let (b, s, l) = k.table in
    let d : now ≡ t ∷ rest = from_before c.args.front.now c.args.terms.now c.loop-at.at t c.loop-at-test.true k.inside c.index-front-at.is in
    let e : c.with_first-last.result ≡ told_by b now = c.with_first-last.ensures b rest l ∙ ap (told_by b) (sym d) in
    let r = rest_before c.args.front.now c.args.terms.now c.loop-at.at c.loop-at-test.true k.inside in
    record {
      inside = omega (arith, k.inside);
      table = (b, subst (λ ns. AreTold b ns now) (sym c.in_ok-push.ensures.items) (told_push b c.loop-at.told.items rest now c.with_first-last.result r.0 r.1 s e), e);
    }
