use Rattle.std.specs.Prelude.{suc, slice_get}
use Rattle.std.proofs.Common.{◌≡◌, ◌+◌, ◌++◌, ◌∷◌, [], ℕ, List, Some, true, refl, length, drop, get_or, arith, ap, sym, subst, ◌∙◌, drop-cons, length-append}
use Rattle.std.proofs.lemmas.List.{drop_all}
use Rattle.std.proofs.lemmas.Option.{same_Some}
use Rattle.mw_logic.specs.Signature.{at_number}
use Rattle.mw_redex.specs.Paths.{argument, at_path}
use Rattle.mw_redex.specs.Replaced.{IsOpenArgument, IsOpenWay}
use Rattle.mw_redexes.specs.Spots.{AreWays}
use Rattle.mw_redexes.specs.declared.spots.Spot.{Spot}
use Rattle.mw_redexes.proofs.Ways.{way_first, ways_more, root_way}
use Rattle.mw_rule.proofs.one_step.along.Goals as goal

pub loop-i-init : goal.loop-i-init
loop-i-init c =
    let s : Spot = record { term = c.args.term; parent = 0; number = 0 } in
    let is : c.push.new.self.items ≡ s ∷ [] = c.in_ok-push.ensures.items ∙ ap (λ xs. xs ++ s ∷ []) c.new-spots.ensures.items in (
      ap length is,
      λ sig end rest there way. (
        subst (AreWays sig c.args.term.now) (sym is) (root_way sig c.args.term.now s refl),
        (s, ap (λ xs. slice_get xs 0) is, refl),
        there,
        way,
      ),
    )

pub loop-i-preserved : goal.loop-i-preserved
loop-i-preserved c =
    let i : ℕ = c.loop-i.i in
    let path : List ℕ = c.args.path.now in
    let number : ℕ = get_or path i 0 in
    let old : List Spot = c.loop-i.spots.items in
    let new : Spot = record { term = c.in-Some.argument; parent = i; number = number } in
    let items : c.push-in-loop-i.new.self.items ≡ old ++ new ∷ [] = c.in_ok-push-2.ensures.items in
    let size : length old ≡ i + 1 = c.loop-i.invariant.0 in
    let next : suc i ≡ i + 1 = omega arith in
    let cut : drop i path ≡ number ∷ drop (i + 1) path = drop-cons path i 0 c.loop-i-test.true ∙ ap (λ n. number ∷ drop n path) next in
    let is : argument c.loop-i.here.now number ≡ Some c.in-Some.argument.now = ap (λ ts. at_number ts number) (sym c.arguments.ensures) ∙ sym c.in-Some.ensures in (
      ap length items ∙ length-append old (new ∷ []) ∙ ap (λ n. n + 1) size,
      λ sig end rest there way.
          let (ways, (p, at, here), left, open_left) = c.loop-i.invariant.1 sig end rest there way in
          let left_cut : at_path c.loop-i.here.now (number ∷ drop (i + 1) path) ≡ Some end = subst (λ ks. at_path c.loop-i.here.now ks ≡ Some end) cut left in
          let open_cut : IsOpenWay sig true (number ∷ (drop (i + 1) path ++ rest)) c.loop-i.here.now = subst (λ ks. IsOpenWay sig true (ks ++ rest) c.loop-i.here.now) cut open_left in
          let (further, clear) = way_first sig number (drop (i + 1) path) rest c.loop-i.here.now c.in-Some.argument.now end is left_cut open_cut in
          let more = ways_more sig c.args.term.now old i p new ways at (omega (arith, size)) refl (subst (λ t. argument t number ≡ Some c.in-Some.argument.now) (sym here) is) (subst (λ t. IsOpenArgument sig true t number) (sym here) open_cut.0) in (
            subst (AreWays sig c.args.term.now) (sym items) more,
            (new, ap (λ xs. slice_get xs (i + 1)) items ∙ last old (i + 1) new size, refl),
            further,
            clear,
          ),
    )
  where
    last : {X : Type 0} (xs : List X) (n : ℕ) (x : X) → length xs ≡ n → slice_get (xs ++ x ∷ []) n ≡ Some x
    last xs n x e = ap (slice_get (xs ++ x ∷ [])) (sym e) ∙ at_end xs x
      where
        at_end : {X : Type 0} (xs : List X) (x : X) → slice_get (xs ++ x ∷ []) (length xs) ≡ Some x
        at_end [] x = refl
        at_end (y ∷ ys) x = at_end ys x

pub returns : goal.returns
returns c = λ sig end rest there way.
    let (ways, (p, at, here), left, open_left) = c.loop-i.invariant.1 sig end rest there way in
    let path : List ℕ = c.args.path.now in
    let low = c.loop-i-test.false in
    let high = c.loop-i.auto.i-end in
    let done : c.loop-i.i ≡ length path = omega (arith, low, high) in
    let none : drop c.loop-i.i path ≡ [] = drop_all c.loop-i.i path low in (
      ways,
      (p, subst (λ n. slice_get c.loop-i.spots.items n ≡ Some p) done at, here ∙ same_Some c.loop-i.here.now end (subst (λ ks. at_path c.loop-i.here.now ks ≡ Some end) none left)),
    )
