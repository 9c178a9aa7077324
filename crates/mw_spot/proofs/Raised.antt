-- A replacement in the term in a level's hole is one in what the level is with it, at the raised place.
use Rattle.std.specs.Prelude.{◌≡◌, ◌+◌, ℕ, zero, suc, List, [], ◌∷◌, map, Bool, true, false, cond, nat_eq, Option, Some, None, option_map, option_and_then, unwrap_or, slice_get, refl}
use Rattle.std.proofs.Common.{ap, sym, subst, ◌∙◌, arith}
use Rattle.std.proofs.lemmas.Bool.{and_parts, or_left, or_right}
use Rattle.mw_logic.specs.Term.{RawTerm, apply, RawTerms, nil, cons, join}
use Rattle.mw_logic.specs.Terms.{list_of, args_of}
use Rattle.mw_logic.specs.Signature.{Signature}
use Rattle.mw_logic.specs.Accepted.{IsAccepted}
use Rattle.mw_logic.specs.Parts.{is_assoc, number_of_terms}
use Rattle.mw_logic.specs.TermOrder.{sorted_terms}
use Rattle.mw_logic.specs.NormalForm.{is_comm, applied_in}
use Rattle.mw_logic.specs.CanonicalPart.{AreSeveral, IsOpen}
use Rattle.mw_logic.proofs.SortLaws.{join-nil, join_assoc}
use Rattle.mw_logic.proofs.SortedLists.{Climbs}
use Rattle.mw_logic.proofs.Canonical.{IsCanonical, AreCanonical}
use Rattle.mw_logic.proofs.CanonicalTerms.{fixed}
use Rattle.mw_logic.proofs.Frozen.{open_anywhere}
use Rattle.mw_logic.proofs.Inside.{associative}
use Rattle.mw_logic.proofs.Replacing.{sorted_terms-middle, applied-inside, replaced_canonical}
use Rattle.mw_arguments.specs.Places.{chosen, others, Rise, Follow}
use Rattle.mw_arguments.proofs.Places.{chosen_whole}
use Rattle.mw_arguments.proofs.Middles.{Divided, divided, middle_found, first_there, chosen-middle, others-middle, followed}
use Rattle.mw_deduction.specs.Standing.{Open, filled, IsClear, IsSeenBy}
use Rattle.mw_redex.specs.Paths.{at_path}
use Rattle.mw_redex.specs.Replaced.{exchanged, put_in, replaced_at, IsOpenArgument, IsOpenWay, way_of_place, ReplacesAt}
use Rattle.mw_redex.proofs.Middles.{exchanged-middle, number-join}
use Rattle.mw_redex.proofs.Standing.{place_in_term}
use Rattle.mw_spot.specs.Walks.{IsOrderly}
use Rattle.mw_spot.specs.Spots.{place, numbers, number_of, stands_on, is_spread, spread_path, spread_take, raised_path, raised_take}
use Rattle.mw_spot.proofs.Among.{with_all, all_rise, all_chosen, some_rise, some_chosen, all_follow, number_plain, some_follow}
use Rattle.mw_spot.proofs.Exchanging.{StandAmong, exchanged_among}
use Rattle.mw_spot.proofs.Filled.{long_middle, stands_on_its, spread_order, filled_spread, filled_one}

nothing : {A : Type 0} {x : A} → None ≡ Some x → ⊥
nothing e = cc

pub same_some : {A : Type 0} {x y : A} → Some x ≡ Some y → x ≡ y
same_some e = cc

pub same_first : {t u : RawTerm} {ts us : RawTerms} → cons t ts ≡ cons u us → t ≡ u
same_first e = cc

pub same_operator : {f g : ℕ} {ts us : RawTerms} → apply f ts ≡ apply g us → f ≡ g
same_operator e = cc

pub same_arguments : {f g : ℕ} {ts us : RawTerms} → apply f ts ≡ apply g us → ts ≡ us
same_arguments e = cc

way-cons : (i : ℕ) (path : List ℕ) (take : Option (List ℕ)) → way_of_place (i ∷ path) take ≡ i ∷ way_of_place path take
way-cons i path None = refl
way-cons i path (Some ks) = refl

-- canonical terms that are left, and with another
others_canonical : (sig : Signature) (i : ℕ) (ks : List ℕ) (ts : RawTerms) → AreCanonical sig ts → AreCanonical sig (others i ks ts)
others_canonical sig i [] ts k = k
others_canonical sig i (n ∷ ns) nil k = tt
others_canonical sig i (n ∷ ns) (cons t ts) k = by_test (nat_eq i n) (others_canonical sig (suc i) ns ts k.1) (others_canonical sig (suc i) (n ∷ ns) ts k.1)
  where
    by_test : (m : Bool) → AreCanonical sig (others (suc i) ns ts) → AreCanonical sig (others (suc i) (n ∷ ns) ts) → AreCanonical sig (cond m (others (suc i) ns ts) (cons t (others (suc i) (n ∷ ns) ts)))
    by_test true p q = p
    by_test false p q = (k.0, q)

canonical_with : (sig : Signature) (c : RawTerms) (u : RawTerm) (d : RawTerms) (x : RawTerm) (e : RawTerms) → AreCanonical sig (join c (cons u d)) → IsCanonical sig x → (AreCanonical sig d → AreCanonical sig e) → AreCanonical sig (join c (cons x e))
canonical_with sig nil u d x e k l m = (l, m k.1)
canonical_with sig (cons t c) u d x e k l m = (k.0, canonical_with sig c u d x e k.1 l m)

middle_canonical : (sig : Signature) (c : RawTerms) (u : RawTerm) (d : RawTerms) → AreCanonical sig (join c (cons u d)) → IsCanonical sig u
middle_canonical sig nil u d k = k.0
middle_canonical sig (cons t c) u d k = middle_canonical sig c u d k.1

module _ (sig : Signature) (ok : IsAccepted sig) (r : Bool) (w x : RawTerm) where
  -- inside one of the arguments
  inside : (f : ℕ) (t z y : RawTerm) (b a : RawTerms) (path : List ℕ) (take : Option (List ℕ)) → IsOpen sig r f (suc (number_of_terms b)) → y ≡ applied_in sig f (join b (cons z a))
      → ReplacesAt sig r w x path take t z → ReplacesAt sig r w x (suc (number_of_terms b) ∷ path) take (apply f (join b (cons t a))) y
  inside f t z y b a path take o q h = record {
    part = record { end = h.part.end; there = subst (λ s. option_and_then (λ t. at_path t path) s ≡ Some h.part.end) (sym (middle_found b t a)) h.part.there; taken = h.part.taken };
    open_way = subst (λ is. IsOpenWay sig r is (apply f (join b (cons t a)))) (sym (way-cons (suc (number_of_terms b)) path take))
        (o, λ u e. subst (IsOpenWay sig r (way_of_place path take)) (same_some (sym (middle_found b t a) ∙ e)) h.open_way);
    becomes = q ∙ ap (λ z. applied_in sig f (join b (cons z a))) h.becomes ∙ sym put;
  }
    where
      put : replaced_at sig (suc (number_of_terms b) ∷ path) take x (apply f (join b (cons t a))) ≡ applied_in sig f (join b (cons (replaced_at sig path take x t) a))
      put =
          let z : suc (number_of_terms b) ≡ 1 + number_of_terms b = omega arith in
          ap (λ o. unwrap_or (option_map (λ u. put_in sig (suc (number_of_terms b)) [] (replaced_at sig path take x u) (apply f (join b (cons t a)))) o) (apply f (join b (cons t a)))) (middle_found b t a)
          ∙ ap (applied_in sig f) (exchanged-middle 1 (suc (number_of_terms b)) [] (replaced_at sig path take x t) b t a z)

  -- the one that a number chooses
  at_number : (f : ℕ) (all : RawTerms) (e z y : RawTerm) (n : ℕ) (path : List ℕ) (take : Option (List ℕ)) → Rise 1 (suc (number_of_terms all)) (n ∷ []) → chosen 1 (n ∷ []) all ≡ cons e nil → IsOpen sig r f n
      → y ≡ applied_in sig f (exchanged 1 n [] z all) → ReplacesAt sig r w x path take e z → ReplacesAt sig r w x (n ∷ path) take (apply f all) y
  at_number f all e z y n path take rise picks o q h = by_place (first_there n [] all rise)
    where
      by_place : (i : ℕ) × (n ≡ suc i) × (t : RawTerm) × Divided all i t → ReplacesAt sig r w x (n ∷ path) take (apply f all) y
      by_place (i, m, t, d) =
          let s : n ≡ suc (number_of_terms d.before) = m ∙ ap suc (sym d.size) in
          let l : n ≡ 1 + number_of_terms d.before = let g = d.size in omega (arith, m, g) in
          let u : t ≡ e = same_first (sym (ap (chosen 1 (n ∷ [])) d.whole ∙ chosen-middle 1 n [] d.before t d.after l) ∙ picks) in
          let put : y ≡ applied_in sig f (join d.before (cons z d.after)) = q ∙ ap (applied_in sig f) (ap (exchanged 1 n [] z) d.whole ∙ exchanged-middle 1 n [] z d.before t d.after l) in
          let g : ReplacesAt sig r w x (suc (number_of_terms d.before) ∷ path) take (apply f (join d.before (cons t d.after))) y =
          inside f t z y d.before d.after path take (subst (IsOpen sig r f) s o) put (subst (λ e. ReplacesAt sig r w x path take e z) (sym u) h) in
          subst (λ n. ReplacesAt sig r w x (n ∷ path) take (apply f all) y) (sym s) (subst (λ ts. ReplacesAt sig r w x (suc (number_of_terms d.before) ∷ path) take (apply f ts) y) (sym d.whole) g)

  module _ (kx : IsCanonical sig x) (o : Open) (clear : IsClear sig o) (orderly : IsOrderly sig o) (free : IsOpen sig r o.operator (suc (number_of_terms o.before))) where
    -- where the arguments keep their order, or don't
    free_there : (n : ℕ) → (is_comm sig o.operator ≡ false → n ≡ suc (number_of_terms o.before)) → IsOpen sig r o.operator n
    free_there n h = by_comm (is_comm sig o.operator) refl
      where
        by_comm : (c : Bool) → is_comm sig o.operator ≡ c → IsOpen sig r o.operator n
        by_comm true e = open_anywhere sig r o.operator (suc (number_of_terms o.before)) n (or_right (is_assoc sig o.operator) (is_comm sig o.operator) e) free
        by_comm false e = subst (IsOpen sig r o.operator) (sym (h e)) free

    -- the term stands in the hole as one argument
    one_raised : (t y : RawTerm) (path : List ℕ) (take : Option (List ℕ)) → is_spread sig o t ≡ false → IsSeenBy sig o t → ReplacesAt sig r w x path take t y
        → ReplacesAt sig r w x ((place sig o t + 1) ∷ path) take (filled sig o t) (filled sig o y)
    one_raised t y path take s seen h =
        let f : ℕ = o.operator in
        let es : RawTerms = cons t nil in
        let n : ℕ = place sig o t + 1 in
        let plain : is_comm sig f ≡ false → n ≡ suc (number_of_terms o.before) = λ e. let p : place sig o t ≡ number_of_terms o.before = rw e refl in omega (arith, p) in
        let stand : StandAmong (is_comm sig f) es es nil nil n [] = record { in_order = λ e. refl; whole = λ e. refl; follow = λ e. tt } in
        let climb : is_comm sig f ≡ true → Climbs es = λ e. (tt, tt) in
        let zero_more : suc (number_of_terms o.before + 0) ≡ suc (number_of_terms o.before) = omega arith in
        let e : applied_in sig f (exchanged 1 n [] y (with_all sig o es)) ≡ applied_in sig f (join (join o.before nil) (cons y o.after)) =
        exchanged_among sig ok f o.before o.after es es nil nil n [] stand y (all_rise sig o orderly es climb) (all_chosen sig o orderly es climb) (λ c. plain c ∙ sym zero_more) in
        let q : filled sig o y ≡ applied_in sig f (exchanged 1 n [] y (with_all sig o es)) = sym (e ∙ ap (λ ts. applied_in sig f (join ts (cons y o.after))) (join-nil o.before)) in
        subst (λ v. ReplacesAt sig r w x (n ∷ path) take v (filled sig o y)) (sym (filled_one sig ok o clear t s seen))
        (at_number f (with_all sig o es) t y (filled sig o y) n path take (all_rise sig o orderly es climb) (all_chosen sig o orderly es climb) (free_there n plain) q h)

    -- as several
    module _ (h : is_assoc sig o.operator ≡ true) (es : RawTerms) (l : AreSeveral es) (k : IsCanonical sig (apply o.operator es)) (seen : IsSeenBy sig o (apply o.operator es)) where
      climb : is_comm sig o.operator ≡ true → Climbs es
      climb = spread_order sig ok o.operator es h k

      abbrev all : RawTerms
      all = with_all sig o es

      v : filled sig o (apply o.operator es) ≡ apply o.operator all
      v = filled_spread sig ok o clear es h seen l

      opened : (n : ℕ) → IsOpen sig r o.operator n
      opened n = open_anywhere sig r o.operator (suc (number_of_terms o.before)) n (or_left (is_assoc sig o.operator) (is_comm sig o.operator) h) free

      -- all of them or some are taken
      taken_raised : (us c d : RawTerms) (n : ℕ) (ns : List ℕ) (y : RawTerm) → StandAmong (is_comm sig o.operator) es us c d n ns → Rise 1 (suc (number_of_terms all)) (n ∷ ns) → chosen 1 (n ∷ ns) all ≡ us
          → (is_comm sig o.operator ≡ false → n ≡ suc (number_of_terms o.before + number_of_terms c)) → AreSeveral us → w ≡ apply o.operator us
          → filled sig o y ≡ applied_in sig o.operator (join (join o.before c) (cons x (join d o.after)))
          → ReplacesAt sig r w x [] (Some (n ∷ ns)) (filled sig o (apply o.operator es)) (filled sig o y)
      taken_raised us c d n ns y stand rise picks number m e q = record {
        part = record {
          end = filled sig o (apply o.operator es);
          there = refl;
          taken = record {
            operator = o.operator;
            args = all;
            term = v;
            assoc = associative sig ok o.operator h;
            rise = rise;
            several = subst AreSeveral (sym picks) m;
            follow = stand.follow;
            part = e ∙ ap (apply o.operator) (sym picks);
          };
        };
        open_way = (subst (λ t. IsOpenArgument sig r t 1) (sym v) (opened 1), λ u e. tt);
        becomes = q ∙ sym (exchanged_among sig ok o.operator o.before o.after es us c d n ns stand x rise picks number) ∙ ap (put_in sig n ns x) (sym v);
      }

      -- the operator under itself is one
      joined : (c : RawTerms) (z : RawTerm) (d : RawTerms) (y : RawTerm) → AreCanonical sig (join c (cons z d)) → y ≡ applied_in sig o.operator (join c (cons z d))
          → filled sig o y ≡ applied_in sig o.operator (join (join o.before c) (cons z (join d o.after)))
      joined c z d y q e =
          ap (filled sig o) e ∙ applied-inside sig ok o.operator h o.before (join c (cons z d)) o.after (long_middle c z d) q
          ∙ ap (λ ts. applied_in sig o.operator (join o.before ts)) (join_assoc c (cons z d) o.after) ∙ ap (applied_in sig o.operator) (sym (join_assoc o.before c (cons z (join d o.after))))

      all_raised : (es' : RawTerms) → es ≡ es' → (y : RawTerm) → w ≡ apply o.operator es → y ≡ x → ReplacesAt sig r w x [] (Some (numbers (place sig o) 1 es)) (filled sig o (apply o.operator es)) (filled sig o y)
      all_raised nil z y e q = absurd (subst AreSeveral z l)
      all_raised (cons u us) z y e q =
          let n : ℕ = place sig o u + 1 in
          let ns : List ℕ = numbers (place sig o) 2 us in
          let m : numbers (place sig o) 1 es ≡ n ∷ ns = ap (numbers (place sig o) 1) z in
          let nothing_more : join es (join nil nil) ≡ es = join-nil es in
          let stand : StandAmong (is_comm sig o.operator) es es nil nil n ns = record {
            in_order = λ c. ap sorted_terms nothing_more;
            whole = λ c. sym (join-nil es);
            follow = λ c. subst Follow m (all_follow sig o c es);
          } in
          let rise : Rise 1 (suc (number_of_terms all)) (n ∷ ns) = subst (Rise 1 (suc (number_of_terms all))) m (all_rise sig o orderly es climb) in
          let picks : chosen 1 (n ∷ ns) all ≡ es = ap (λ ks. chosen 1 ks all) (sym m) ∙ all_chosen sig o orderly es climb in
          let number : is_comm sig o.operator ≡ false → n ≡ suc (number_of_terms o.before + 0) = λ c. let p : place sig o u ≡ number_of_terms o.before = rw c refl in omega (arith, p) in
          let f : filled sig o y ≡ applied_in sig o.operator (join (join o.before nil) (cons x o.after)) = ap (filled sig o) q ∙ ap (λ ts. applied_in sig o.operator (join ts (cons x o.after))) (sym (join-nil o.before)) in
          subst (λ ks. ReplacesAt sig r w x [] (Some ks) (filled sig o (apply o.operator es)) (filled sig o y)) (sym m) (taken_raised es nil nil n ns y stand rise picks number l e f)

      some_raised : (i : ℕ) (ks : List ℕ) (y : RawTerm) → Rise 1 (suc (number_of_terms es)) (i ∷ ks) → AreSeveral (chosen 1 (i ∷ ks) es) → (is_comm sig o.operator ≡ false → Follow (i ∷ ks))
          → w ≡ apply o.operator (chosen 1 (i ∷ ks) es) → y ≡ applied_in sig o.operator (exchanged 1 i ks x es)
          → ReplacesAt sig r w x [] (Some (map (number_of (place sig o) es) (i ∷ ks))) (filled sig o (apply o.operator es)) (filled sig o y)
      some_raised i ks y rise m follow e q = by_place (first_there i ks es rise)
        where
          by_place : (j : ℕ) × (i ≡ suc j) × (t : RawTerm) × Divided es j t → ReplacesAt sig r w x [] (Some (map (number_of (place sig o) es) (i ∷ ks))) (filled sig o (apply o.operator es)) (filled sig o y)
          by_place (j, p, t, g) =
              let us : RawTerms = chosen 1 (i ∷ ks) es in
              let c : RawTerms = g.before in
              let d : RawTerms = others (suc i) ks g.after in
              let z : i ≡ 1 + number_of_terms c = let s = g.size in omega (arith, p, s) in
              let picked : us ≡ cons t (chosen (suc i) ks g.after) = ap (chosen 1 (i ∷ ks)) g.whole ∙ chosen-middle 1 i ks c t g.after z in
              let left : others 1 (i ∷ ks) es ≡ join c d = ap (others 1 (i ∷ ks)) g.whole ∙ others-middle 1 i ks c t g.after z in
              let stand : StandAmong (is_comm sig o.operator) es us c d (number_of (place sig o) es i) (map (number_of (place sig o) es) ks) = record {
                in_order = λ b. ap (λ ts. sorted_terms (join us ts)) (sym left) ∙ chosen_whole 1 (i ∷ ks) es;
                whole = λ b. g.whole ∙ ap (join c) (ap (cons t) (sym (followed i ks g.after (follow b))) ∙ ap (λ ts. join ts d) (sym picked));
                follow = λ b. some_follow sig o b es 1 (i ∷ ks) (omega arith) rise (follow b);
              } in
              let put : exchanged 1 i ks x es ≡ join c (cons x d) = ap (exchanged 1 i ks x) g.whole ∙ exchanged-middle 1 i ks x c t g.after z in
              let ke : AreCanonical sig (join c (cons t g.after)) = subst (AreCanonical sig) g.whole k.0 in
              let kz : AreCanonical sig (join c (cons x d)) = canonical_with sig c t g.after x d ke kx (others_canonical sig (suc i) ks g.after) in
              taken_raised us c d (number_of (place sig o) es i) (map (number_of (place sig o) es) ks) y stand (some_rise sig o orderly es climb (i ∷ ks) rise) (some_chosen sig o orderly es climb (i ∷ ks) rise)
              (λ b. let s = number_plain sig o b es i ks rise in omega (arith, s, z)) m e (joined c x d y kz (q ∙ ap (applied_in sig o.operator) put))

      -- inside one of them
      argument_raised : (i : ℕ) (path : List ℕ) (take : Option (List ℕ)) (t y : RawTerm) → slice_get (list_of es) i ≡ Some t → ReplacesAt sig r w x path take t (replaced_at sig path take x t)
          → y ≡ put_in sig (suc i) [] (replaced_at sig path take x t) (apply o.operator es) → ReplacesAt sig r w x (number_of (place sig o) es (suc i) ∷ path) take (filled sig o (apply o.operator es)) (filled sig o y)
      argument_raised i path take t y e a q =
          let g : Divided es i t = divided es i t e in
          let c : RawTerms = g.before in
          let d : RawTerms = g.after in
          let z : RawTerm = replaced_at sig path take x t in
          let n : ℕ = number_of (place sig o) es (suc i) in
          let s : suc i ≡ 1 + number_of_terms c = let s = g.size in omega (arith, s) in
          let size : number_of_terms es ≡ number_of_terms c + suc (number_of_terms d) = ap number_of_terms g.whole ∙ number-join c (cons t d) in
          let rise : Rise 1 (suc (number_of_terms es)) (suc i ∷ []) = (omega arith, omega (arith, s, size), tt) in
          let picked : chosen 1 (suc i ∷ []) es ≡ cons t nil = ap (chosen 1 (suc i ∷ [])) g.whole ∙ chosen-middle 1 (suc i) [] c t d s in
          let stand : StandAmong (is_comm sig o.operator) es (cons t nil) c d n [] = record {
            in_order = λ b. sym (ap sorted_terms g.whole ∙ sorted_terms-middle c t d);
            whole = λ b. g.whole;
            follow = λ b. tt;
          } in
          let number : is_comm sig o.operator ≡ false → n ≡ suc (number_of_terms o.before + number_of_terms c) = λ b. let p = number_plain sig o b es (suc i) [] rise in omega (arith, p, s) in
          let rises : Rise 1 (suc (number_of_terms all)) (n ∷ []) = some_rise sig o orderly es climb (suc i ∷ []) rise in
          let picks : chosen 1 (n ∷ []) all ≡ cons t nil = some_chosen sig o orderly es climb (suc i ∷ []) rise ∙ picked in
          let put : exchanged 1 (suc i) [] z es ≡ join c (cons z d) = ap (exchanged 1 (suc i) [] z) g.whole ∙ exchanged-middle 1 (suc i) [] z c t d s in
          let ke : AreCanonical sig (join c (cons t d)) = subst (AreCanonical sig) g.whole k.0 in
          let kt : IsCanonical sig t = middle_canonical sig c t d ke in
          let kz : IsCanonical sig z = replaced_canonical sig ok r kt kx (place_in_term sig ok r w x t z path take (fixed sig ok t kt) a) in
          let f : filled sig o y ≡ applied_in sig o.operator (join (join o.before c) (cons z (join d o.after))) = joined c z d y (canonical_with sig c t d z d ke kz (λ q. q)) (q ∙ ap (applied_in sig o.operator) put) in
          subst (λ v. ReplacesAt sig r w x (n ∷ path) take v (filled sig o y)) (sym v)
          (at_number o.operator all t z (filled sig o y) n path take rises picks (opened n) (f ∙ sym (exchanged_among sig ok o.operator o.before o.after es (cons t nil) c d n [] stand z rises picks number)) a)

      spread_raised : (path : List ℕ) (take : Option (List ℕ)) (y : RawTerm) → ReplacesAt sig r w x path take (apply o.operator es) y
          → ReplacesAt sig r w x (spread_path (place sig o) es path) (spread_take (place sig o) es path take) (filled sig o (apply o.operator es)) (filled sig o y)
      spread_raised [] None y a = all_raised es refl y (sym (same_some a.part.there ∙ a.part.taken)) a.becomes
      spread_raised [] (Some []) y a = absurd (a.part.taken.several)
      spread_raised [] (Some (i ∷ ks)) y a =
          let p = a.part.taken in
          let e : apply o.operator es ≡ apply p.operator p.args = same_some a.part.there ∙ p.term in
          let f : p.operator ≡ o.operator = sym (same_operator e) in
          let g : p.args ≡ es = sym (same_arguments e) in
          some_raised i ks y (subst (λ ts. Rise 1 (suc (number_of_terms ts)) (i ∷ ks)) g p.rise) (subst (λ ts. AreSeveral (chosen 1 (i ∷ ks) ts)) g p.several)
          (subst (λ f. is_comm sig f ≡ false → Follow (i ∷ ks)) f p.follow) (p.part ∙ ap (λ f. apply f (chosen 1 (i ∷ ks) p.args)) f ∙ ap (λ ts. apply o.operator (chosen 1 (i ∷ ks) ts)) g) a.becomes
      spread_raised (zero ∷ path) take y a = absurd (nothing a.part.there)
      spread_raised (suc i ∷ path) take y a = by_option (slice_get (list_of es) i) refl a.part.there a.becomes
        where
          open_way : IsOpenWay sig r (suc i ∷ way_of_place path take) (apply o.operator es)
          open_way = subst (λ is. IsOpenWay sig r is (apply o.operator es)) (way-cons (suc i) path take) a.open_way

          by_option : (s : Option RawTerm) → slice_get (list_of es) i ≡ s → option_and_then (λ t. at_path t path) s ≡ Some a.part.end
              → y ≡ unwrap_or (option_map (λ t. put_in sig (suc i) [] (replaced_at sig path take x t) (apply o.operator es)) s) (apply o.operator es)
              → ReplacesAt sig r w x (number_of (place sig o) es (suc i) ∷ path) take (filled sig o (apply o.operator es)) (filled sig o y)
          by_option None e p q = absurd (nothing p)
          by_option (Some t) e p q =
              argument_raised i path take t y e (record { part = record { end = a.part.end; there = p; taken = a.part.taken }; open_way = open_way.1 t e; becomes = refl }) q

    -- So a place is raised.
    pub raises : (t y : RawTerm) (path : List ℕ) (take : Option (List ℕ)) → IsCanonical sig t → IsSeenBy sig o t → ReplacesAt sig r w x path take t y
        → ReplacesAt sig r w x (raised_path (place sig o) (is_spread sig o t) t path) (raised_take (place sig o) (is_spread sig o t) t path take) (filled sig o t) (filled sig o y)
    raises t y path take k seen a = by_spread (is_spread sig o t) refl
      where
        by_spread : (m : Bool) → is_spread sig o t ≡ m
            → ReplacesAt sig r w x (cond m (spread_path (place sig o) (args_of t) path) ((place sig o t + 1) ∷ path)) (cond m (spread_take (place sig o) (args_of t) path take) take) (filled sig o t) (filled sig o y)
        by_spread false s = one_raised t y path take s seen a
        by_spread true s =
            let p = and_parts (is_assoc sig o.operator) (stands_on o.operator t) s in
            let (e, l) = stands_on_its sig ok o.operator t p.0 k p.1 in
            let g = spread_raised p.0 (args_of t) l (subst (IsCanonical sig) e k) (subst (IsSeenBy sig o) e seen) path take y (subst (λ t. ReplacesAt sig r w x path take t y) e a) in
            subst (λ u. ReplacesAt sig r w x (spread_path (place sig o) (args_of t) path) (spread_take (place sig o) (args_of t) path take) (filled sig o u) (filled sig o y)) (sym e) g
