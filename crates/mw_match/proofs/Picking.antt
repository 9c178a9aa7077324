-- What is picked of candidates: solutions, each once, and all where none is left.
use Rattle.std.specs.Prelude.{◌≡◌, ◌≤◌, ◌<◌, Bool, ℕ, zero, suc, List, [], ◌∷◌, ◌++◌, length, Option, Some, None, MatchOption, slice_get, refl}
use Rattle.std.specs.List.Sorted.{IsPermutation}
use Rattle.std.proofs.Common.{◌∙◌, ap, sym, subst, inl, inr, ⊎_elim, arith}
use Rattle.std.proofs.lemmas.Option.{none-some, same_Some}
use Rattle.mw_logic.specs.Term.{RawTerm}
use Rattle.mw_logic.specs.Signature.{Signature, Member}
use Rattle.mw_logic.specs.Substitution.{Substitution, SameSolution}
use Rattle.mw_canon.specs.Canonical.{meant}
use Rattle.mw_search.specs.Lacking.{Each, Skips}
use Rattle.mw_match.specs.declared.solutions.Solution.{Solution}
use Rattle.mw_match.specs.Solutions.{Coming, FitsSorts, Lacks, IsAllSolutions}
use Rattle.mw_match.specs.Listing.{AreByName, none, one_more, IsByName, Picks, stop, take, pass, AreFirst, AreListed, Ascends, compare_solutions}

-- no two are so, by index, or each by those behind it
abbrev Once : {X : Type 0} → (X → X → Type 0) → List X → Type 0
Once {X} R xs = (i j : ℕ) (x y : X) → slice_get xs i ≡ Some x → slice_get xs j ≡ Some y → R x y → i ≡ j

abbrev Apart : {X : Type 0} → (X → X → Type 0) → List X → Type 0
Apart R [] = Unit {0}
Apart {X} R (x ∷ xs) = ((y : X) → Member y xs → R x y → ⊥) × Apart R xs

pub at_index : {X : Type 0} (x : X) (xs : List X) → Member x xs → (i : ℕ) × (slice_get xs i ≡ Some x)
at_index x [] m = absurd m
at_index x (y ∷ ys) m = ⊎_elim (λ e. (0, ap Some e)) (λ n. let (i, h) = at_index x ys n in (suc i, h)) m

pub member_at : {X : Type 0} (x : X) (xs : List X) (i : ℕ) → slice_get xs i ≡ Some x → Member x xs
member_at x [] i e = absurd (none-some x e)
member_at x (y ∷ ys) zero e = inl (same_Some y x e)
member_at x (y ∷ ys) (suc i) e = inr (member_at x ys i e)

apart_once : {X : Type 0} (R : X → X → Type 0) (xs : List X) → Once R xs → Apart R xs
apart_once R [] h = tt
apart_once {X = X} R (x ∷ xs) h = (
  λ y m same. let (i, e) = at_index y xs m in let wrong : 0 ≡ suc i = h 0 (suc i) x y refl e same in absurd (omega arith),
  apart_once R xs (λ i j a b e f same. let k : suc i ≡ suc j = h (suc i) (suc j) a b e f same in omega arith),
)

once_apart : {X : Type 0} (R : X → X → Type 0) → ((x y : X) → R x y → R y x) → (xs : List X) → Apart R xs → Once R xs
once_apart R back [] a i j x y e f same = absurd (none-some x e)
once_apart R back (z ∷ zs) a zero zero x y e f same = refl
once_apart R back (z ∷ zs) a zero (suc j) x y e f same = absurd (a.0 y (member_at y zs j f) (subst (λ w. R w y) (sym (same_Some z x e)) same))
once_apart R back (z ∷ zs) a (suc i) zero x y e f same = absurd (a.0 x (member_at x zs i e) (subst (λ w. R w x) (sym (same_Some z y f)) (back x y same)))
once_apart R back (z ∷ zs) a (suc i) (suc j) x y e f same = ap suc (once_apart R back zs a.1 i j x y e f same)

module _ (c : Coming) where
  -- first some are picked, and then others
  picks_more : {cs mid left rs ss : List Solution} → Picks c cs rs mid → Picks c mid ss left → Picks c cs (rs ++ ss) left
  picks_more stop more = more
  picks_more (take s p) more = take s (picks_more p more)
  picks_more (pass l p) more = pass l (picks_more p more)

  -- those that lack a sort are passed over
  passes : (over rest rs left : List Solution) → Each (Lacks c) over → Picks c rest rs left → Picks c (over ++ rest) rs left
  passes [] rest rs left all more = more
  passes (r ∷ over) rest rs left all more = pass all.0 (passes over rest rs left all.1 more)

  skips : {cs rest rs left : List Solution} → Skips (Lacks c) cs rest → Picks c rest rs left → Picks c cs rs left
  skips {rest = rest} {rs = rs} {left = left} s more = subst (λ cs. Picks c cs rs left) (sym s.rest) (passes s.left rest rs left s.each more)

  -- one more was picked, or none
  pub picked_one : {cs mid rest rs : List Solution} {r : Solution} → Picks c cs rs mid → Skips (Lacks c) mid (r ∷ rest) → FitsSorts c r → Picks c cs (rs ++ r ∷ []) rest
  picked_one p s sorted = picks_more p (skips s (take sorted stop))

  append_none : {X : Type 0} (xs : List X) → xs ++ [] ≡ xs
  append_none [] = refl
  append_none (x ∷ xs) = ap (λ ys. x ∷ ys) (append_none xs)

  pub picked_none : {cs mid rest rs : List Solution} → Picks c cs rs mid → Skips (Lacks c) mid rest → Picks c cs rs rest
  picked_none {cs = cs} {rest = rest} {rs = rs} p s = subst (λ rs. Picks c cs rs rest) (append_none rs) (picks_more p (skips s stop))

  pub picked_from : {cs rs left : List Solution} → Picks c cs rs left → (r : Solution) → Member r rs → Member r cs × FitsSorts c r
  picked_from stop r m = absurd m
  picked_from (take s p) r m = ⊎_elim (λ e. (inl e, subst (FitsSorts c) e s)) (λ n. let (k, h) = picked_from p r n in (inr k, h)) m
  picked_from (pass l p) r m = let (k, h) = picked_from p r m in (inr k, h)

  picked_apart : (R : Solution → Solution → Type 0) {cs rs left : List Solution} → Picks c cs rs left → Apart R cs → Apart R rs
  picked_apart R stop a = tt
  picked_apart R (take s p) a = (λ y m. a.0 y (picked_from p y m).0, picked_apart R p a.1)
  picked_apart R (pass l p) a = picked_apart R p a.1

  -- where none is left each one that has its sorts is picked
  picked_all : {cs rs left : List Solution} → Picks c cs rs left → left ≡ [] → ((r : Solution) → Member r cs → FitsSorts c r → Lacks c r → ⊥) → (r : Solution) → Member r cs → FitsSorts c r → Member r rs
  picked_all stop e apart r m s = absurd (subst (Member r) e m)
  picked_all (take t p) e apart r m s = ⊎_elim (λ k. inl k) (λ n. inr (picked_all p e (λ q k. apart q (inr k)) r n s)) m
  picked_all (pass {r = q} l p) e apart r m s = ⊎_elim (λ k. absurd (apart q (inl refl) (subst (FitsSorts c) (sym k) s) l)) (λ n. picked_all p e (λ q k. apart q (inr k)) r n s) m

  module _ (sig : Signature) (inside : Bool) (p t : RawTerm) (s0 : Substitution) (h : IsAllSolutions sig inside p t s0 c) where
    apart : (r : Solution) → Member r c.candidates → FitsSorts c r → Lacks c r → ⊥
    apart r m s l = h.lacking r m l (h.sound r m s)

    pub listed_solutions : (most : ℕ) (named listed : List Solution) → AreFirst most c named → IsPermutation named listed → Ascends compare_solutions listed → AreListed sig inside p t s0 most listed
    listed_solutions most named listed f moved ascends = record {
      found = f.found;
      sound = λ r m. let (k, s) = picked_from f.picked r m in h.sound r k s;
      once = λ i j q r e g k same. once_apart Same (λ q r e. (sym e.0, (e.1.1, e.1.0))) f.found
          (picked_apart Same f.picked (apart_once Same c.candidates (λ i j q r e g s. h.once i j q r e g s.0 s.1))) i j q r e g (k, same);
      bounded = f.bounded;
      complete = λ few ks s sol.
          let (r, m, sorted, takes, same) = h.complete ks s sol in
          let none_left : f.left ≡ [] = ⊎_elim (λ e. e) (λ e. absurd (omega (arith, e, few))) f.whole in
          (r, picked_all f.picked none_left apart r m sorted, takes, same);
      named = named;
      by_name = f.by_name;
      rearranged = moved;
      ascends = ascends;
    }
      where
        Same : Solution → Solution → Type 0
        Same q r = (q.take ≡ r.take) × SameSolution sig (meant sig q.subst) (meant sig r.subst)

-- as many are named as were found
pub as_many : {qs rs : List Solution} → AreByName qs rs → length qs ≡ length rs
as_many none = refl
as_many (one_more {q} {r} {qs} {rs} p h) = length_more qs q ∙ ap suc (as_many p) ∙ sym (length_more rs r)
  where
    length_more : {X : Type 0} (xs : List X) (x : X) → length (xs ++ x ∷ []) ≡ suc (length xs)
    length_more [] x = refl
    length_more (y ∷ ys) x = ap suc (length_more ys x)

-- what was found so far, and what is still to come
pub record Gathers (most : ℕ) (old now : Coming) (named : List Solution) : Type 0 where
  pub found : List Solution
  pub same : now ≡ record old { candidates = now.candidates }
  pub picked : Picks old old.candidates found now.candidates
  pub bounded : length named ≤ most
  pub by_name : AreByName found named

pub gathered_none : (most : ℕ) (old : Coming) → Gathers most old old []
gathered_none most old = record { found = []; same = refl; picked = stop; bounded = omega arith; by_name = none }

more_longer : {X : Type 0} (xs : List X) (x : X) → length (xs ++ x ∷ []) ≡ suc (length xs)
more_longer [] x = refl
more_longer (y ∷ ys) x = ap suc (more_longer ys x)

-- one more was found
pub gathered_more : (most : ℕ) (old now next : Coming) (named : List Solution) (o : Option Solution) (r s : Solution) → Gathers most old now named → length named < most → next ≡ record now { candidates = next.candidates }
    → MatchOption o (Skips (Lacks now) now.candidates [] × (next.candidates ≡ [])) (λ r. Skips (Lacks now) now.candidates (r ∷ next.candidates) × FitsSorts now r) → o ≡ Some r → IsByName r s
    → (after : List Solution) → after ≡ named ++ s ∷ [] → Gathers most old next after
gathered_more most old now next named o r s g few same h e by_name after is =
    let k : Skips (Lacks now) now.candidates (r ∷ next.candidates) × FitsSorts now r = rw e at h in
    let skips : Skips (Lacks old) now.candidates (r ∷ next.candidates) = subst (λ (c : Coming). Skips (Lacks c) now.candidates (r ∷ next.candidates)) g.same k.0 in
    let sorted : FitsSorts old r = subst (λ (c : Coming). FitsSorts c r) g.same k.1 in
    record {
      found = g.found ++ r ∷ [];
      same = same ∙ ap (λ (c : Coming). record c { candidates = next.candidates }) g.same;
      picked = picked_one old g.picked skips sorted;
      bounded = rw (is, more_longer named s) (omega (arith, few));
      by_name = rw is (one_more g.by_name by_name);
    }

-- as many were found as asked for
pub gathered_most : (most : ℕ) (old now : Coming) (named : List Solution) → Gathers most old now named → (length named < most → ⊥) → AreFirst most old named
gathered_most most old now named g full =
    let same : length g.found ≡ length named = as_many g.by_name in
    let within : length named ≤ most = g.bounded in
    record {
      found = g.found;
      left = now.candidates;
      picked = g.picked;
      bounded = omega (arith, same, within);
      whole = inr (omega (arith, same, within, full));
      by_name = g.by_name;
    }

-- none is left
pub gathered_all : (most : ℕ) (old now next : Coming) (named : List Solution) (o : Option Solution) → Gathers most old now named
    → MatchOption o (Skips (Lacks now) now.candidates [] × (next.candidates ≡ [])) (λ r. Skips (Lacks now) now.candidates (r ∷ next.candidates) × FitsSorts now r) → o ≡ None → AreFirst most old named
gathered_all most old now next named o g h e =
    let k : Skips (Lacks now) now.candidates [] × (next.candidates ≡ []) = rw e at h in
    let skips : Skips (Lacks old) now.candidates [] = subst (λ (c : Coming). Skips (Lacks c) now.candidates []) g.same k.0 in
    let same : length g.found ≡ length named = as_many g.by_name in
    let within : length named ≤ most = g.bounded in
    record {
      found = g.found;
      left = [];
      picked = picked_none old g.picked skips;
      bounded = omega (arith, same, within);
      whole = inl refl;
      by_name = g.by_name;
    }
