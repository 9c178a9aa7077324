-- Lists that correspond one by one: with one item more, and with one that is wrong.
use Rattle.std.proofs.Common.{◌≡◌, ◌∙◌, ◌<◌, ◌+◌, ◌⊎◌, ◌++◌, ℕ, zero, suc, List, [], ◌∷◌, length, get_or, take, drop, map, slice_get, Some, All, refl, sym, ap, subst, inl, inr, ⊎_elim, arith, length-append, append_assoc}
use Rattle.std.specs.Prelude.{⊤}
use Rattle.std.proofs.lemmas.List.{map-append, map_more}
use Rattle.std.proofs.lemmas.Option.{none-some, slice_get_within}
use Rattle.std.proofs.lemmas.List.Elements.{All-nil, All-cons, All-head, All-tail}
use Rattle.std.proofs.Math.Seq.{split_at}
use Rattle.mw_import.proofs.Lists.{pushed_at}
use Rattle.mw_build.specs.Pairwise.{AreRelated, IsFirstWrong}

pub there : {X : Type 0} (xs : List X) (i : ℕ) → i < length xs → (x : X) × (slice_get xs i ≡ Some x)
there [] i h = absurd (omega (arith, h))
there (x ∷ xs) zero h = (x, refl)
there (x ∷ xs) (suc i) h = there xs i (omega (arith, h))

-- what stands in front of more, and the other way round
pub get_front : {X : Type 0} (xs ys : List X) (i : ℕ) (x : X) → slice_get xs i ≡ Some x → slice_get (xs ++ ys) i ≡ Some x
get_front [] ys i x e = absurd (none-some x e)
get_front (y ∷ xs) ys zero x e = e
get_front (y ∷ xs) ys (suc i) x e = get_front xs ys i x e

front_get : {X : Type 0} (xs ys : List X) (i : ℕ) (x : X) → i < length xs → slice_get (xs ++ ys) i ≡ Some x → slice_get xs i ≡ Some x
front_get [] ys i x h e = absurd (omega (arith, h))
front_get (y ∷ xs) ys zero x h e = e
front_get (y ∷ xs) ys (suc i) x h e = front_get xs ys i x (omega (arith, h)) e

-- what stands in two lists joined stands in one of them
pub either : {X : Type 0} (xs ys : List X) (i : ℕ) (x : X) → slice_get (xs ++ ys) i ≡ Some x → (slice_get xs i ≡ Some x) ⊎ ((j : ℕ) × (slice_get ys j ≡ Some x))
either [] ys i x e = inr (i, e)
either (y ∷ xs) ys zero x e = inl e
either (y ∷ xs) ys (suc i) x e = either xs ys i x e

get_at : {X : Type 0} (xs ys : List X) (x : X) → slice_get (xs ++ x ∷ ys) (length xs) ≡ Some x
get_at [] ys x = refl
get_at (y ∷ xs) ys x = get_at xs ys x

module _ {A B : Type 0} (R : A → B → Type 0) where
  pub related_none : AreRelated R [] []
  related_none = record { count = refl; each = λ i a b p q. absurd (none-some a p) }

  pub related_pushed : (ps : List A) (bs : List B) (a : A) (b : B) → AreRelated R ps bs → R a b → AreRelated R (ps ++ a ∷ []) (bs ++ b ∷ [])
  related_pushed ps bs a b all is = record {
    count = let p = length-append ps (a ∷ []) in let q = length-append bs (b ∷ []) in omega (arith, p, q, all.count);
    each = λ i x y p q. ⊎_elim
        (λ h. ⊎_elim (λ k. all.each i x y h k) (λ k. let w = slice_get_within ps i x h in absurd (omega (arith, w, k.0, all.count))) (pushed_at bs b y i q))
        (λ h. ⊎_elim
        (λ k. let w = slice_get_within bs i y k in absurd (omega (arith, w, h.0, all.count)))
        (λ k. subst (λ z. R x z) k.1 (subst (λ z. R z b) h.1 is))
        (pushed_at bs b y i q))
        (pushed_at ps a x i p);
  }

  -- what a relation tells of each item of the second list, where each of the first has a property
  pub all_related : (Q : A → Type 0) (P : B → Type 0) → ((a : A) (b : B) → Q a → R a b → P b) → (ps : List A) (bs : List B) → All Q ps → AreRelated R ps bs → All P bs
  all_related Q P f ps [] q r = All-nil P
  all_related Q P f [] (b ∷ bs) q r = let n = r.count in absurd (omega (arith, n))
  all_related Q P f (a ∷ ps) (b ∷ bs) q r =
      All-cons P b bs (f a b (All-head Q a ps q) (r.each zero a b refl refl))
      (all_related Q P f ps bs (All-tail Q a ps q) (record { count = let n = r.count in omega (arith, n); each = λ i x y at_x at_y. r.each (suc i) x y at_x at_y }))

  pub all_read : (P : B → Type 0) → ((a : A) (b : B) → R a b → P b) → (ps : List A) (bs : List B) → AreRelated R ps bs → All P bs
  all_read P f ps bs r = all_related (λ a. ⊤) P (λ a b q h. f a b h) ps bs (nothing ps) r
    where
      nothing : (ps : List A) → All (λ a. ⊤) ps
      nothing [] = All-nil (λ a. ⊤)
      nothing (a ∷ ps) = All-cons (λ a. ⊤) a ps tt (nothing ps)

  module _ (W : A → Type 0) where
    -- the one behind those to which something corresponds
    pub wrong_here : (ps more : List A) (bs : List B) (a : A) → AreRelated R ps bs → W a → IsFirstWrong R W (ps ++ a ∷ more)
    wrong_here ps more bs a all wrong = record {
      place = length ps;
      item = a;
      is_there = get_at ps more a;
      fault = wrong;
      before = λ i x l is.
          let among = front_get ps (a ∷ more) i x l is in
          let w = slice_get_within ps i x among in
          let b = there bs i (omega (arith, w, all.count)) in
          (b.0, all.each i x b.0 among b.1);
    }

    pub wrong_in_front : (ps more : List A) → IsFirstWrong R W ps → IsFirstWrong R W (ps ++ more)
    wrong_in_front ps more f = record {
      place = f.place;
      item = f.item;
      is_there = get_front ps more f.place f.item f.is_there;
      fault = f.fault;
      before = λ i x l is. f.before i x l (let w = slice_get_within ps f.place f.item f.is_there in front_get ps more i x (omega (arith, w, l)) is);
    }

  -- the items are what other things are seen ps, of which the first so many were gone through
  module _ {X : Type 0} (f : X → A) (front : List A) (xs : List X) (i : ℕ) (x : X) (h : i < length xs) (at : x ≡ get_or xs i x) where
    cut_here : xs ≡ take i xs ++ x ∷ drop (suc i) xs
    cut_here = split_at xs i x h ∙ ap (λ y. take i xs ++ y ∷ drop (suc i) xs) (sym at)

    pub related_more : (bs : List B) (b : B) → AreRelated R (front ++ map f (take i xs)) bs → R (f x) b → AreRelated R (front ++ map f (take (i + 1) xs)) (bs ++ b ∷ [])
    related_more bs b all is =
        let longer : front ++ map f (take (i + 1) xs) ≡ (front ++ map f (take i xs)) ++ f x ∷ [] =
        ap (λ ys. front ++ ys) (map_more f xs i x h ∙ ap (λ y. map f (take i xs) ++ f y ∷ []) (sym at)) ∙ sym (append_assoc front (map f (take i xs)) (f x ∷ [])) in
        subst (λ ps. AreRelated R ps (bs ++ b ∷ [])) (sym longer) (related_pushed (front ++ map f (take i xs)) bs (f x) b all is)

    pub wrong_at : (W : A → Type 0) (more : List A) (bs : List B) → AreRelated R (front ++ map f (take i xs)) bs → W (f x) → IsFirstWrong R W ((front ++ map f xs) ++ more)
    wrong_at W more bs all wrong =
        let whole : front ++ map f xs ≡ (front ++ map f (take i xs)) ++ f x ∷ map f (drop (suc i) xs) =
        ap (λ ys. front ++ map f ys) cut_here ∙ ap (λ ys. front ++ ys) (map-append f (take i xs) (x ∷ drop (suc i) xs))
        ∙ sym (append_assoc front (map f (take i xs)) (f x ∷ map f (drop (suc i) xs))) in
        wrong_in_front W (front ++ map f xs) more
        (subst (IsFirstWrong R W) (sym whole) (wrong_here W (front ++ map f (take i xs)) (map f (drop (suc i) xs)) bs (f x) all wrong))

  -- a list in two parts
  pub related_joined : (ps cs : List A) (bs ds : List B) → AreRelated R ps bs → AreRelated R cs ds → AreRelated R (ps ++ cs) (bs ++ ds)
  related_joined [] cs [] ds first second = second
  related_joined [] cs (b ∷ bs) ds first second = let c = first.count in absurd (omega (arith, c))
  related_joined (a ∷ ps) cs [] ds first second = let c = first.count in absurd (omega (arith, c))
  related_joined (a ∷ ps) cs (b ∷ bs) ds first second =
      let tail : AreRelated R ps bs = record { count = let c = first.count in omega (arith, c); each = λ i x y p q. first.each (suc i) x y p q } in
      let rest = related_joined ps cs bs ds tail second in
      record { count = let c = rest.count in omega (arith, c); each = of rest }
    where
      of : AreRelated R (ps ++ cs) (bs ++ ds) → (i : ℕ) (x : A) (y : B) → slice_get (a ∷ ps ++ cs) i ≡ Some x → slice_get (b ∷ bs ++ ds) i ≡ Some y → R x y
      of rest zero x y p q = first.each zero x y p q
      of rest (suc i) x y p q = rest.each i x y p q
