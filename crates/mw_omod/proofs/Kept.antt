-- What completion keeps of a statement.
use Rattle.std.proofs.Common.{◌++◌, ◌≡◌, ◌⊎◌, inl, inr, refl, ℕ, List, [], ◌∷◌, Bool, ◌||◌, sym, subst}
use Rattle.std.specs.Prelude.{codes, decimal, IsTrue}
use Rattle.mw_logic.specs.Term.{Variable, RawTerm}
use Rattle.mw_logic.specs.Preregular.{IsSortOf}
use Rattle.mw_logic.specs.Substitution.{occurs}
use Rattle.mw_logic.specs.Module.{Fragment, equal, matches, has_sort, is_true}
use Rattle.mw_logic.specs.Confluence.{HasOnly, AreBound}
use Rattle.mw_least.specs.Conditions.{binds_among, occurs_among, AreRawFragments}
use Rattle.mw_omod.specs.Objects.{IsAdded}
use Rattle.mw_omod.specs.Laws.{OnlyAdded, SidesStay, VariablesStayBound}
use Rattle.mw_omod.proofs.RawSides.{left_stays_raw, right_stays_raw}
use Rattle.mw_omod.proofs.Standing.{or_left, or_right, or_elim, left_kept, right_kept, left_completed}

pub sides_stay : SidesStay
sides_stay sig K e e' ok classes is sides =
    let l = left_stays_raw sig ok K classes e.left e.right e'.left is.sides.left_is sides.left sides.right in
    let r = right_stays_raw sig ok K classes e.left e.right e'.right is.sides.right_is sides.left sides.right in
    let (A, h, k) = sides.kinds in
    record {
      left = l.0;
      right = r.0;
      kinds = (A, l.1 A h, r.1 A k);
      fragments = subst (AreRawFragments sig) (sym is.fragments) sides.fragments;
      sorts = λ x o. or_elim (occurs x e'.left || occurs x e'.right) (occurs_among x e'.fragments) {P = IsSortOf sig x.sort}
          (or_elim (occurs x e'.left) (occurs x e'.right) {P = IsSortOf sig x.sort} (left_has x) (right_kept There K sig e.left e.right e'.left e'.right is.sides.left_is is.sides.right_is left_has old_right x))
          (λ p. sides.sorts x (or_right (occurs x e.left || occurs x e.right) (occurs_among x e.fragments) (subst (λ C. IsTrue (occurs_among x C)) is.fragments p))) o;
    }
  where
    There : Variable → Type 0
    There x = IsSortOf sig x.sort

    old_left : (x : Variable) → IsTrue (occurs x e.left) → There x
    old_left x o = sides.sorts x (or_left (occurs x e.left || occurs x e.right) (occurs_among x e.fragments) (or_left (occurs x e.left) (occurs x e.right) o))

    old_right : (x : Variable) → IsTrue (occurs x e.right) → There x
    old_right x o = sides.sorts x (or_left (occurs x e.left || occurs x e.right) (occurs_among x e.fragments) (or_right (occurs x e.left) (occurs x e.right) o))

    left_has : (x : Variable) → IsTrue (occurs x e'.left) → There x
    left_has = left_completed There K sig (λ t v i w. let (o, there, kind, S) = classes.constants v.class v.sort w.class in S) (λ i. classes.set)
        (λ f S i r. let (o, there, A, takes, kind, gives, sort) = classes.values f S r in sort) e.left e.right e'.left is.sides.left_is old_left

-- more variables bind no less
bound_there : (C : List Fragment) (b : Variable → Bool) (x : Variable) → IsTrue (b x) → IsTrue (binds_among b C x)
bound_there [] b x h = h
bound_there (equal u v ∷ C) b x h = bound_there C b x h
bound_there (matches p t ∷ C) b x h = bound_there C (λ y. b y || occurs y p) x (or_left (b x) (occurs x p) h)
bound_there (has_sort t S ∷ C) b x h = bound_there C b x h
bound_there (is_true t ∷ C) b x h = bound_there C b x h

more : (b c : Variable → Bool) (p : RawTerm) → ((x : Variable) → IsTrue (b x) → IsTrue (c x)) → (x : Variable) → IsTrue (b x || occurs x p) → IsTrue (c x || occurs x p)
more b c p h x o = or_elim (b x) (occurs x p) {P = IsTrue (c x || occurs x p)} (λ k. or_left (c x) (occurs x p) (h x k)) (or_right (c x) (occurs x p)) o

binds_more : (C : List Fragment) (b c : Variable → Bool) → ((x : Variable) → IsTrue (b x) → IsTrue (c x)) → (x : Variable) → IsTrue (binds_among b C x) → IsTrue (binds_among c C x)
binds_more [] b c h x o = h x o
binds_more (equal u v ∷ C) b c h x o = binds_more C b c h x o
binds_more (matches p t ∷ C) b c h x o = binds_more C (λ y. b y || occurs y p) (λ y. c y || occurs y p) (more b c p h) x o
binds_more (has_sort t S ∷ C) b c h x o = binds_more C b c h x o
binds_more (is_true t ∷ C) b c h x o = binds_more C b c h x o

only_more : (b c : Variable → Bool) (t : RawTerm) → ((x : Variable) → IsTrue (b x) → IsTrue (c x)) → HasOnly b t → HasOnly c t
only_more b c t h k x o = h x (k x o)

bound_more : (C : List Fragment) (b c : Variable → Bool) → ((x : Variable) → IsTrue (b x) → IsTrue (c x)) → AreBound b C → AreBound c C
bound_more [] b c h k = tt
bound_more (equal u v ∷ C) b c h (k, l, m) = (only_more b c u h k, only_more b c v h l, bound_more C b c h m)
bound_more (is_true t ∷ C) b c h (k, m) = (only_more b c t h k, bound_more C b c h m)
bound_more (has_sort t S ∷ C) b c h (k, m) = (only_more b c t h k, bound_more C b c h m)
bound_more (matches p t ∷ C) b c h (k, m) = (only_more b c t h k, bound_more C (λ y. b y || occurs y p) (λ y. c y || occurs y p) (more b c p h) m)

pub variables_stay_bound : VariablesStayBound
variables_stay_bound sig K e e' is bound = record {
  right = subst (λ C. HasOnly (binds_among (λ y. occurs y e'.left) C) e'.right) (sym is.fragments)
      (right_kept Bound K sig e.left e.right e'.left e'.right is.sides.left_is is.sides.right_is (λ x o. bound_there e.fragments (λ y. occurs y e'.left) x o)
      (λ x o. binds_more e.fragments (λ y. occurs y e.left) (λ y. occurs y e'.left) kept x (bound.right x o)));
  in_turn = subst (AreBound (λ y. occurs y e'.left)) (sym is.fragments) (bound_more e.fragments (λ y. occurs y e.left) (λ y. occurs y e'.left) kept bound.in_turn);
}
  where
    Bound : Variable → Type 0
    Bound x = IsTrue (binds_among (λ y. occurs y e'.left) e.fragments x)

    kept : (x : Variable) → IsTrue (occurs x e.left) → IsTrue (occurs x e'.left)
    kept = left_kept (λ x. IsTrue (occurs x e'.left)) K sig e.left e.right e'.left is.sides.left_is (λ x o. o)

pub only_added : OnlyAdded
only_added sig K e a x is o =
    or_elim (occurs x a.left) (occurs x a.right) {P = Told x} (left_told x) (right_kept Told K sig e.left e.right a.left a.right is.sides.left_is is.sides.right_is left_told (λ y h. inl (or_right (occurs y e.left) (occurs y e.right) h)) x) o
  where
    Told : Variable → Type 0
    Told y = IsTrue (occurs y e.left || occurs y e.right) ⊎ IsAdded y

    left_told : (y : Variable) → IsTrue (occurs y a.left) → Told y
    left_told = left_completed Told K sig (λ t v i w. inr (codes "V" ++ decimal i, refl)) (λ i. inr (codes "W" ++ decimal i, refl)) (λ f S i r. inr (codes "X" ++ decimal i ++ codes " " ++ decimal f, refl))
        e.left e.right a.left is.sides.left_is (λ y h. inl (or_left (occurs y e.left) (occurs y e.right) h))
