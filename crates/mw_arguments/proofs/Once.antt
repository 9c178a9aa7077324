-- Lists of all that have a property, each once: mapped one to one, filtered, and lists of such lists.
use Rattle.std.specs.Prelude.{◌≡◌, ◌⊎◌, ◌↔◌, List, [], ◌∷◌, ◌++◌, map, filter, flat_map, Bool, true, false, cond, refl}
use Rattle.std.proofs.Common.{inl, inr, ap, sym, subst, ◌∙◌}
use Rattle.std.proofs.lemmas.Bool.{both_ways}
use Rattle.std.proofs.lemmas.List.Concat.{flat_map-append}
use Rattle.mw_split.specs.Lists.{Member, Distinct, AllOnce}
use Rattle.mw_split.proofs.Lists.{member-left, member-right, member-append, member-map, map-member, distinct-append, distinct-map}

-- mapped one to one
pub once_mapped : {A B : Type 0} (P : A → Type 0) (R : B → Type 0) (at : A → B) (xs : List A) → AllOnce P xs → ((a : A) → P a → R (at a)) → ((b : B) → R b → (a : A) × P a × (at a ≡ b))
    → ((a b : A) → P a → P b → at a ≡ at b → a ≡ b) → AllOnce R (map at xs)
once_mapped P R at xs l there back one = record {
  once = distinct-map at xs (λ a b m n e. one a b ((l.all a).0 m) ((l.all b).0 n) e) l.once;
  all = λ b. (
    λ m. let (a, e, n) = map-member at b xs m in subst R (sym e) (there a ((l.all a).0 n)),
    λ r. let (a, p, e) = back b r in subst (λ y. Member y (map at xs)) e (member-map at a xs ((l.all a).1 p)),
  );
}

-- with a test
member-filter : {A : Type 0} (test : A → Bool) (a : A) (xs : List A) → Member a (filter test xs) ↔ (Member a xs × (test a ≡ true))
member-filter test a [] = (λ m. absurd m, λ m. m.0)
member-filter {A} test a (x ∷ xs) = by_test (test x) refl (member-filter test a xs)
  where
    by_test : (b : Bool) → test x ≡ b → (Member a (filter test xs) ↔ (Member a xs × (test a ≡ true))) → Member a (cond b (x ∷ filter test xs) (filter test xs)) ↔ (Member a (x ∷ xs) × (test a ≡ true))
    by_test true h r = (there, back)
      where
        there : Member a (x ∷ filter test xs) → Member a (x ∷ xs) × (test a ≡ true)
        there (inl e) = (inl e, ap test e ∙ h)
        there (inr m) = let (n, k) = r.0 m in (inr n, k)

        back : Member a (x ∷ xs) × (test a ≡ true) → Member a (x ∷ filter test xs)
        back (inl e, k) = inl e
        back (inr m, k) = inr (r.1 (m, k))
    by_test false h r = (there, back)
      where
        there : Member a (filter test xs) → Member a (x ∷ xs) × (test a ≡ true)
        there m = let (n, k) = r.0 m in (inr n, k)

        back : Member a (x ∷ xs) × (test a ≡ true) → Member a (filter test xs)
        back (inl e, k) = absurd (both_ways _ h (ap test (sym e) ∙ k))
        back (inr m, k) = r.1 (m, k)

distinct-filter : {A : Type 0} (test : A → Bool) (xs : List A) → Distinct xs → Distinct (filter test xs)
distinct-filter test [] d = tt
distinct-filter {A} test (x ∷ xs) d = by_test (test x) (distinct-filter test xs d.1)
  where
    by_test : (b : Bool) → Distinct (filter test xs) → Distinct (cond b (x ∷ filter test xs) (filter test xs))
    by_test true r = (λ m. d.0 ((member-filter test x xs).0 m).0, r)
    by_test false r = r

pub once_filtered : {A : Type 0} (P : A → Type 0) (test : A → Bool) (xs : List A) → AllOnce P xs → AllOnce (λ a. P a × (test a ≡ true)) (filter test xs)
once_filtered P test xs l = record {
  once = distinct-filter test xs l.once;
  all = λ a. (
    λ m. let (n, k) = (member-filter test a xs).0 m in ((l.all a).0 n, k),
    λ p. (member-filter test a xs).1 ((l.all a).1 p.0, p.1),
  );
}

-- lists of such lists
flat_map-member : {A B : Type 0} (f : A → List B) (b : B) (xs : List A) → Member b (flat_map f xs) → (a : A) × Member a xs × Member b (f a)
flat_map-member f b [] m = absurd m
flat_map-member {A} f b (x ∷ xs) m = split (member-append b (f x) (flat_map f xs) m) (flat_map-member f b xs)
  where
    split : Member b (f x) ⊎ Member b (flat_map f xs) → (Member b (flat_map f xs) → (a : A) × Member a xs × Member b (f a)) → (a : A) × Member a (x ∷ xs) × Member b (f a)
    split (inl n) r = (x, inl refl, n)
    split (inr n) r = let (a, k, l) = r n in (a, inr k, l)

member-flat_map : {A B : Type 0} (f : A → List B) (a : A) (b : B) (xs : List A) → Member a xs → Member b (f a) → Member b (flat_map f xs)
member-flat_map f a b [] m n = m
member-flat_map f a b (x ∷ xs) (inl e) n = member-left b (f x) (flat_map f xs) (subst (λ y. Member b (f y)) e n)
member-flat_map f a b (x ∷ xs) (inr m) n = member-right b (f x) (flat_map f xs) (member-flat_map f a b xs m n)

-- Of each thing that has a property, what is related to it: each once, where nothing is related to two of them.
pub once_flat_mapped : {A B : Type 0} (P : A → Type 0) (Q : A → B → Type 0) (f : A → List B) (xs : List A) → AllOnce P xs → ((a : A) → P a → AllOnce (Q a) (f a))
    → ((b : B) (x y : A) → P x → P y → Q x b → Q y b → x ≡ y) → AllOnce (λ b. (a : A) × P a × Q a b) (flat_map f xs)
once_flat_mapped {A} {B} P Q f xs l r one = record {
  once = distinct xs l.once (λ a m. (l.all a).0 m);
  all = λ b. (
    λ m. let (a, n, k) = flat_map-member f b xs m in let p = (l.all a).0 n in (a, p, ((r a p).all b).0 k),
    λ h. let (a, p, q) = h in member-flat_map f a b xs ((l.all a).1 p) (((r a p).all b).1 q),
  );
}
  where
    distinct : (xs : List A) → Distinct xs → ((a : A) → Member a xs → P a) → Distinct (flat_map f xs)
    distinct [] d h = tt
    distinct (x ∷ xs) d h =
        distinct-append (f x) (flat_map f xs) (r x (h x (inl refl))).once (distinct xs d.1 (λ a m. h a (inr m)))
        (λ b m n. let (y, k, j) = flat_map-member f b xs n in
        d.0 (subst (λ z. Member z xs) (sym (one b x y (h x (inl refl)) (h y (inr k)) (((r x (h x (inl refl))).all b).0 m) (((r y (h y (inr k))).all b).0 j))) k))

-- of two properties that are the same
pub once_same : {A : Type 0} (P Q : A → Type 0) (xs : List A) → ((a : A) → P a → Q a) → ((a : A) → Q a → P a) → AllOnce P xs → AllOnce Q xs
once_same P Q xs f g l = record { once = l.once; all = λ a. ((λ m. f a ((l.all a).0 m)), (λ q. (l.all a).1 (g a q))) }

pub once_one : {A : Type 0} (P : A → Type 0) (a : A) → P a → ((b : A) → P b → b ≡ a) → AllOnce P (a ∷ [])
once_one P a p h = record { once = ((λ m. m), tt); all = λ b. (of b, λ q. inl (h b q)) }
  where
    of : (b : _) → Member b (a ∷ []) → P b
    of b (inl e) = subst P (sym e) p
    of b (inr m) = absurd m

pub once_none : {A : Type 0} (P : A → Type 0) → ((b : A) → P b → ⊥) → AllOnce P []
once_none P h = record { once = tt; all = λ b. ((λ m. absurd m), λ p. h b p) }

-- laws of `flat_map`
pub flat_map-flat_map : {A : Type 0} {B : Type 0} {C : Type 0} (g : B → List C) (f : A → List B) (xs : List A) → flat_map g (flat_map f xs) ≡ flat_map (λ x. flat_map g (f x)) xs
flat_map-flat_map g f [] = refl
flat_map-flat_map g f (x ∷ xs) = flat_map-append g (f x) (flat_map f xs) ∙ ap (λ r. flat_map g (f x) ++ r) (flat_map-flat_map g f xs)

pub flat_map-same : {A : Type 0} {B : Type 0} (f g : A → List B) (xs : List A) → ((x : A) → f x ≡ g x) → flat_map f xs ≡ flat_map g xs
flat_map-same f g [] h = refl
flat_map-same f g (x ∷ xs) h = ap (λ r. r ++ flat_map f xs) (h x) ∙ ap (λ r. g x ++ r) (flat_map-same f g xs h)
