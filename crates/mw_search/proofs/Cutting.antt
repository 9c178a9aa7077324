-- Cuts of a multiset into two parts. The first part tells the cut, so one cut gives it all; and what comes of all cuts
-- where nothing comes of the others.
use Rattle.std.specs.Prelude.{◌⊎◌, ⊤, Bool, true, false, cond, refl}
use Rattle.std.proofs.Common.{◌≡◌, ◌∙◌, ℕ, zero, suc, ◌+◌, ◌-◌, ◌*◌, ◌<◌, ◌≤◌, List, [], ◌∷◌, ◌++◌, length, inl, inr, ap, sym, subst, arith, append_assoc, length-append}
use Rattle.std.specs.List.{flat_map}
use Rattle.std.proofs.lemmas.Bool.{lt-ltb}
use Rattle.std.proofs.lemmas.List.{append-nil, length_push}
use Rattle.mw_split.specs.Lists.{Member, Distinct}
use Rattle.mw_split.specs.Cuts.{bag_cuts, cuts, Adds, AllZero, first, after}
use Rattle.mw_split.proofs.Every.{cuts-sound, cuts-complete, cuts-distinct}
use Rattle.mw_split.proofs.Next.{cuts-first, reached-short}
use Rattle.mw_matching.specs.Multisets.{behind_first}

-- entry by entry at most
abbrev pub AreBelow : List ℕ → List ℕ → Type 0
AreBelow [] c = ⊤
AreBelow (q ∷ qs) [] = ⊥
AreBelow (q ∷ qs) (x ∷ c) = (x ≤ q) × AreBelow qs c

-- c begins as qs
abbrev pub Begins : List ℕ → List ℕ → Type 0
Begins [] c = ⊤
Begins (q ∷ qs) [] = ⊥
Begins (q ∷ qs) (x ∷ c) = (x ≡ q) × Begins qs c

-- so many zeros
abbrev pub zeros : List ℕ → List ℕ
zeros [] = []
zeros (q ∷ qs) = 0 ∷ zeros qs

-- a cut into two parts
pub record IsCut (qs c : List ℕ) : Type 0 where
  pub size : length c ≡ length qs + length qs
  pub adds : Adds qs c

below_from : (qs rs c : List ℕ) → Adds (qs ++ rs) c → length qs ≤ length c → AreBelow qs c
below_from [] rs c a l = tt
below_from (q ∷ qs) rs [] a l = absurd (omega (arith, l))
below_from (q ∷ qs) rs (x ∷ c) a l = (a.0, below_from qs (rs ++ (q - x) ∷ []) c (subst (λ bs. Adds bs c) (append_assoc qs rs ((q - x) ∷ [])) a.1) (omega (arith, l)))

-- the first part has no more than there are
pub cut_below : (qs c : List ℕ) → IsCut qs c → AreBelow qs c
cut_below qs c i = below_from qs [] c (subst (λ bs. Adds bs c) (sym (append-nil qs)) i.adds) (omega (arith, i.size))

zero_last : (s : List ℕ) (y : ℕ) → AllZero (s ++ y ∷ []) → AllZero s × (y ≡ 0)
zero_last [] y z = (tt, z.0)
zero_last (b ∷ s) y z = let (h, e) = zero_last s y z.1 in ((z.0, h), e)

zero_push : (s : List ℕ) (y : ℕ) → AllZero s → y ≡ 0 → AllZero (s ++ y ∷ [])
zero_push [] y z e = (e, tt)
zero_push (b ∷ s) y z e = (z.0, zero_push s y z.1 e)

-- as many entries as there are numbers take all of them
exhausts : (r s c : List ℕ) → length c ≡ length r → Adds (r ++ s) c → (c ≡ r) × AllZero s
exhausts [] s [] l a = (refl, a)
exhausts [] s (x ∷ c) l a = absurd (omega (arith, l))
exhausts (b ∷ r) s [] l a = absurd (omega (arith, l))
exhausts (b ∷ r) s (x ∷ c) l a =
    let (e, z) = exhausts r (s ++ (b - x) ∷ []) c (omega (arith, l)) (subst (λ bs. Adds bs c) (append_assoc r s ((b - x) ∷ [])) a.1) in
    let (h, n) = zero_last s (b - x) z in
    let k = a.0 in
    let w : x ≡ b = omega (arith, k, n) in
    (ap (λ y. y ∷ c) w ∙ ap (λ d. b ∷ d) e, h)

same_from : (p qs rs c d : List ℕ) → length p ≡ length qs → Begins p c → Begins p d → length c ≡ length qs + (length rs + length qs) → length d ≡ length c → Adds (qs ++ rs) c → Adds (qs ++ rs) d → c ≡ d
same_from [] [] rs c d l u v m n a b =
    let (e, x) = exhausts rs [] c (omega (arith, m)) (subst (λ bs. Adds bs c) (sym (append-nil rs)) a) in
    let (f, y) = exhausts rs [] d (omega (arith, m, n)) (subst (λ bs. Adds bs d) (sym (append-nil rs)) b) in
    e ∙ sym f
same_from [] (q ∷ qs) rs c d l u v m n a b = absurd (omega (arith, l))
same_from (z ∷ p) [] rs c d l u v m n a b = absurd (omega (arith, l))
same_from (z ∷ p) (q ∷ qs) rs [] d l u v m n a b = absurd u
same_from (z ∷ p) (q ∷ qs) rs (x ∷ c) [] l u v m n a b = absurd v
same_from (z ∷ p) (q ∷ qs) rs (x ∷ c) (y ∷ d) l u v m n a b =
    let w : y ≡ x = v.0 ∙ sym u.0 in
    let k = length_push rs (q - x) in
    let a2 : Adds (qs ++ (rs ++ (q - x) ∷ [])) c = subst (λ bs. Adds bs c) (append_assoc qs rs ((q - x) ∷ [])) a.1 in
    let b2 : Adds (qs ++ (rs ++ (q - x) ∷ [])) d = subst (λ i. Adds (qs ++ (rs ++ (q - i) ∷ [])) d) w (subst (λ bs. Adds bs d) (append_assoc qs rs ((q - y) ∷ [])) b.1) in
    let e : c ≡ d = same_from p qs (rs ++ (q - x) ∷ []) c d (omega (arith, l)) u.1 v.1 (omega (arith, m, k)) (omega (arith, n)) a2 b2 in
    ap (λ i. i ∷ c) (sym w) ∙ ap (λ f. y ∷ f) e

-- cuts with the same first part are one
pub same_cut : (p qs c d : List ℕ) → length p ≡ length qs → Begins p c → Begins p d → IsCut qs c → IsCut qs d → c ≡ d
same_cut p qs c d l u v i j =
    same_from p qs [] c d l u v (omega (arith, i.size)) (omega (arith, i.size, j.size))
    (subst (λ bs. Adds bs c) (sym (append-nil qs)) i.adds) (subst (λ bs. Adds bs d) (sym (append-nil qs)) j.adds)

-- the cut that gives all to the first part
abbrev pub all_first : List ℕ → List ℕ
all_first qs = qs ++ zeros qs

pub length-zeros : (qs : List ℕ) → length (zeros qs) ≡ length qs
length-zeros [] = refl
length-zeros (q ∷ qs) = ap suc (length-zeros qs)

begins_itself : (qs w : List ℕ) → Begins qs (qs ++ w)
begins_itself [] w = tt
begins_itself (q ∷ qs) w = (refl, begins_itself qs w)

pub begins_all : (qs : List ℕ) → Begins qs (all_first qs)
begins_all qs = begins_itself qs (zeros qs)

adds_zeros : (qs rs : List ℕ) → AllZero rs → Adds (zeros qs ++ rs) (zeros qs)
adds_zeros [] rs z = z
adds_zeros (q ∷ qs) rs z =
    (omega arith, subst (λ bs. Adds bs (zeros qs)) (sym (append_assoc (zeros qs) rs ((0 - 0) ∷ []))) (adds_zeros qs (rs ++ (0 - 0) ∷ []) (zero_push rs (0 - 0) z (omega arith))))

adds_all : (qs rs w : List ℕ) → Adds (rs ++ zeros qs) w → Adds (qs ++ rs) (qs ++ w)
adds_all [] rs w a = subst (λ bs. Adds bs w) (append-nil rs) a
adds_all (q ∷ qs) rs w a =
    let e : 0 ≡ q - q = omega arith in
    let b : Adds ((rs ++ (q - q) ∷ []) ++ zeros qs) w = subst (λ bs. Adds bs w) (ap (λ x. rs ++ (x ∷ zeros qs)) e ∙ sym (append_assoc rs ((q - q) ∷ []) (zeros qs))) a in
    (omega arith, subst (λ bs. Adds bs (qs ++ w)) (sym (append_assoc qs rs ((q - q) ∷ []))) (adds_all qs (rs ++ (q - q) ∷ []) w b))

pub all_is_cut : (qs : List ℕ) → IsCut qs (all_first qs)
all_is_cut qs = record {
  size = omega (arith, length-append qs (zeros qs), length-zeros qs);
  adds = subst (λ bs. Adds bs (all_first qs)) (append-nil qs) (adds_all qs [] (zeros qs) (subst (λ bs. Adds bs (zeros qs)) (append-nil (zeros qs)) (adds_zeros qs [] tt)));
}

-- all cuts
cut_of : (qs c : List ℕ) → Member c (bag_cuts qs 2) → IsCut qs c
unfolding bag_cuts
cut_of qs c n = let (l, a) = cuts-sound (2 * length qs) qs c n in record { size = omega (arith, l); adds = a }

of_cut : (qs c : List ℕ) → IsCut qs c → Member c (bag_cuts qs 2)
unfolding bag_cuts
of_cut qs c i = let e : length c ≡ 2 * length qs = omega (arith, i.size) in subst (λ n. Member c (cuts n qs)) e (cuts-complete c qs i.adds)

all_distinct : (qs : List ℕ) → Distinct (bag_cuts qs 2)
unfolding bag_cuts
all_distinct qs = cuts-distinct (2 * length qs) qs

-- the first one gives nothing to the first part
first_none : (ps : List ℕ) (n : ℕ) (q : List ℕ) → 0 < length q → length ps + length q ≤ n → Begins (zeros ps) (first n q)
first_none [] n q g h = tt
first_none (p ∷ ps) zero q g h = absurd (omega (arith, h))
first_none (p ∷ ps) (suc n) [] g h = absurd (omega (arith, g))
first_none (p ∷ ps) (suc n) (b ∷ bs) g h =
    let l = length_push bs b in
    rw (lt-ltb (length bs) n (omega (arith, h))) (refl, first_none ps n (bs ++ b ∷ []) (omega (arith, l)) (omega (arith, h, l)))

-- what is known of the first cut
record IsFirst (qs c : List ℕ) (cs : List (List ℕ)) : Type 0 where
  is : bag_cuts qs 2 ≡ c ∷ cs
  none : Begins (zeros qs) c

first_cut : (qs : List ℕ) → (c : List ℕ) × (cs : List (List ℕ)) × IsFirst qs c cs
unfolding bag_cuts
first_cut [] = ([], [], record { is = refl; none = tt })
first_cut (q ∷ qs) =
    let n : ℕ = 2 * length (q ∷ qs) in
    let e = cuts-first n (q ∷ qs) (omega arith) (reached-short n (q ∷ qs) (omega arith)) in
    (first n (q ∷ qs), after (q ∷ qs) (first n (q ∷ qs)), record { is = e; none = first_none (q ∷ qs) n (q ∷ qs) (omega arith) (omega arith) })

-- all cuts, or those behind the first one
abbrev pub some_cuts : Bool → List ℕ → List (List ℕ)
some_cuts e qs = cond e (bag_cuts qs 2) (behind_first (bag_cuts qs 2))

pub some_distinct : (e : Bool) (qs : List ℕ) → Distinct (some_cuts e qs)
some_distinct true qs = all_distinct qs
some_distinct false qs = let (c, cs, f) = first_cut qs in subst (λ ds. Distinct (behind_first ds)) (sym f.is) (let d : Distinct (c ∷ cs) = subst Distinct f.is (all_distinct qs) in d.1)

pub some_cut : (e : Bool) (qs c : List ℕ) → Member c (some_cuts e qs) → IsCut qs c
some_cut true qs c n = cut_of qs c n
some_cut false qs c n =
    let (d, ds, f) = first_cut qs in
    let k : Member c ds = subst (λ xs. Member c (behind_first xs)) f.is n in
    cut_of qs c (subst (Member c) (sym f.is) (inr k))

-- behind the first one each gives something
pub some_more : (qs c : List ℕ) → Member c (some_cuts false qs) → Begins (zeros qs) c → ⊥
some_more qs c n b =
    let (d, ds, f) = first_cut qs in
    let k : Member c ds = subst (λ xs. Member c (behind_first xs)) f.is n in
    let distinct : Distinct (d ∷ ds) = subst Distinct f.is (all_distinct qs) in
    let there : Member d (bag_cuts qs 2) = subst (Member d) (sym f.is) (inl refl) in
    let e : c ≡ d = same_cut (zeros qs) qs c d (length-zeros qs) b f.none (some_cut false qs c n) (cut_of qs d there) in
    distinct.0 (subst (λ x. Member x ds) e k)

-- and each that gives something is there
pub there_is : (e : Bool) (qs c : List ℕ) → IsCut qs c → (Begins (zeros qs) c → ⊥) → Member c (some_cuts e qs)
there_is true qs c i h = of_cut qs c i
there_is false qs c i h =
    let (d, ds, f) = first_cut qs in
    subst (λ xs. Member c (behind_first xs)) (sym f.is) (behind d ds f (subst (Member c) f.is (of_cut qs c i)))
  where
    behind : (d : List ℕ) (ds : List (List ℕ)) → IsFirst qs d ds → Member c (d ∷ ds) → Member c ds
    behind d ds f (inl e) = absurd (h (subst (Begins (zeros qs)) (sym e) f.none))
    behind d ds f (inr k) = k

-- what comes of a list where nothing comes of any, or of one alone
pub none_of : {X Y : Type 0} (F : X → List Y) (xs : List X) → ((x : X) → Member x xs → F x ≡ []) → flat_map F xs ≡ []
none_of F [] h = refl
none_of F (x ∷ xs) h = ap (λ l. l ++ flat_map F xs) (h x (inl refl)) ∙ none_of F xs (λ y n. h y (inr n))

pub one_of : {X Y : Type 0} (F : X → List Y) (xs : List X) (z : X) → Distinct xs → Member z xs → ((x : X) → Member x xs → (x ≡ z) ⊎ (F x ≡ [])) → flat_map F xs ≡ F z
one_of F [] z d n h = absurd n
one_of {X} {Y} F (x ∷ xs) z d (inl e) h = ap (λ l. F x ++ l) (none_of F xs (λ y n. other y n (h y (inr n)))) ∙ append-nil (F x) ∙ ap F (sym e)
  where
    other : (y : X) → Member y xs → (y ≡ z) ⊎ (F y ≡ []) → F y ≡ []
    other y n (inl w) = absurd (d.0 (subst (λ v. Member v xs) (w ∙ e) n))
    other y n (inr w) = w
one_of {X} {Y} F (x ∷ xs) z d (inr n) h = ap (λ l. l ++ flat_map F xs) (none (h x (inl refl))) ∙ one_of F xs z d.1 n (λ y k. h y (inr k))
  where
    none : (x ≡ z) ⊎ (F x ≡ []) → F x ≡ []
    none (inl w) = absurd (d.0 (subst (λ v. Member v xs) (sym w) n))
    none (inr w) = w
