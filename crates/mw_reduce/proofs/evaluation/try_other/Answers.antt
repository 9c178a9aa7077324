use Rattle.std.proofs.Common.{◌≡◌, ◌∷◌, [], subst, refl}
use Rattle.mw_match.specs.Solutions.{Coming, PassesTo, FitsSorts}
use Rattle.mw_reduce.proofs.evaluation.try_other.Goals as goal

pub returns-in_ok-values-in-Some : goal.returns-in_ok-values-in-Some
returns-in_ok-values-in-Some c =
    let r = c.in-Some.solution in
    let rest = c.next.new.self.candidates in
    let same = c.deref_mut.ensures.value in
    let (passes, fits) = rw c.in-Some.is at c.in_ok-solution.ensures.ok in (
      refl,
      refl,
      c.truncate.ensures.items,
      (
        r,
        subst (λ (s : Coming). PassesTo s (r ∷ rest)) same passes,
        subst (λ (s : Coming). FitsSorts s r) same fits,
        c.in_ok-values-in-Some.ensures,
        subst (λ (s : Coming). c.next.new.self ≡ record s { candidates = rest }) same c.in_ok-solution.ensures.same,
      ),
    )

pub returns-in-None : goal.returns-in-None
returns-in-None c =
    let d = rw c.in-None.is at c.in_ok-solution.ensures.ok in
    (c.truncate.ensures.items, subst (λ (s : Coming). PassesTo s []) c.deref_mut.ensures.value d.0)
