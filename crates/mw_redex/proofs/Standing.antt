-- Replacements at places are the replacements in a canonical term.
use Rattle.std.specs.Prelude.{◌≡◌, ◌+◌, ℕ, zero, suc, List, [], ◌∷◌, Bool, true, false, Option, Some, None, option_map, option_and_then, unwrap_or, slice_get, refl}
use Rattle.std.proofs.Common.{ap, sym, subst, ◌∙◌, arith}
use Rattle.std.proofs.lemmas.Bool.{both_ways}
use Rattle.mw_logic.specs.Term.{RawTerm, numeral, quoted, variable, apply, RawTerms, nil, cons, join}
use Rattle.mw_logic.specs.Terms.{list_of}
use Rattle.mw_logic.specs.Signature.{Signature, IsAssociative}
use Rattle.mw_logic.specs.Accepted.{IsAccepted}
use Rattle.mw_logic.specs.Parts.{is_assoc, nested, number_of_terms}
use Rattle.mw_logic.specs.TermOrder.{insert_term, sorted_terms}
use Rattle.mw_logic.specs.NormalForm.{is_comm, arranged, applied_in, normal_form}
use Rattle.mw_logic.specs.CanonicalPart.{AreSeveral, IsOpen, IsPartOf, ReplacesIn, whole, argument, several}
use Rattle.mw_logic.proofs.SortLaws.{sorted_terms-idempotent}
use Rattle.mw_logic.proofs.SortedLists.{Climbs, climbs, sorted_terms-climbing}
use Rattle.mw_logic.proofs.Canonical.{IsCanonical, AreCanonical, canonical, assoc-true}
use Rattle.mw_logic.proofs.Replacing.{sorted_terms-middle, applied-arranged}
use Rattle.mw_logic.proofs.PartsOfNormalForm.{part_can_be_replaced}
use Rattle.mw_arguments.specs.Places.{chosen, others, Rise, Follow, numbers_of}
use Rattle.mw_arguments.proofs.Places.{chosen_whole, chosen_climbs, numbers_rise, numbers_choose, IsPartOfList}
use Rattle.mw_arguments.proofs.Arguments.{args_in_order}
use Rattle.mw_redex.specs.Paths.{at_path}
use Rattle.mw_redex.specs.Replaced.{exchanged, put_in, replaced_here, replaced_at, IsTaken, IsPartAt, IsOpenArgument, IsOpenWay, way_of_place, ReplacesAt}
use Rattle.mw_redex.proofs.Middles.{Divided, divided, middle_found, first_there, exchanged-middle, chosen-middle, others-middle, followed, count_from, count_chosen, count_others, count_follows, count_rises, number-join, less, in_front}

nothing : {A : Type 0} {x : A} → None ≡ Some x → ⊥
nothing e = cc

same_some : {A : Type 0} {x y : A} → Some x ≡ Some y → x ≡ y
same_some e = cc

way-cons : (i : ℕ) (path : List ℕ) (take : Option (List ℕ)) → way_of_place (i ∷ path) take ≡ i ∷ way_of_place path take
way-cons i path None = refl
way-cons i path (Some ks) = refl

middle_canonical : (sig : Signature) (before : RawTerms) (t : RawTerm) (after : RawTerms) → AreCanonical sig (join before (cons t after)) → IsCanonical sig t
middle_canonical sig nil t after k = k.0
middle_canonical sig (cons b bs) t after k = middle_canonical sig bs t after k.1

module _ (sig : Signature) (ok : IsAccepted sig) where
  associative_true : (f : ℕ) → IsAssociative sig f → is_assoc sig f ≡ true
  associative_true f a = assoc-true sig f a.operator a.is_there a.assoc

  sorted : (f : ℕ) (ts : RawTerms) → IsAssociative sig f → IsCanonical sig (apply f ts) → is_comm sig f ≡ true → sorted_terms ts ≡ ts
  sorted f ts A k h = subst (λ c. arranged c ts ≡ ts) h (args_in_order sig ok f (associative_true f A) ts k)

  -- under a commutative operator the place of a term doesn't matter
  pub placed_anywhere : (f : ℕ) → is_comm sig f ≡ true → (x : RawTerm) (b a c d : RawTerms) → sorted_terms (join b a) ≡ sorted_terms (join c d) → applied_in sig f (join b (cons x a)) ≡ applied_in sig f (join c (cons x d))
  placed_anywhere f h x b a c d e =
      let w : arranged (is_comm sig f) (join b (cons x a)) ≡ arranged (is_comm sig f) (join c (cons x d)) = rw h (sorted_terms-middle b x a ∙ ap (insert_term x) e ∙ sym (sorted_terms-middle c x d)) in
      sym (applied-arranged sig ok f (join b (cons x a))) ∙ ap (applied_in sig f) w ∙ applied-arranged sig ok f (join c (cons x d))

  module _ (r : Bool) (w x : RawTerm) where
    -- Several arguments that are taken at the top are replaced there.
    of_taken : (f : ℕ) (ts : RawTerms) (n : ℕ) (ns : List ℕ) → IsCanonical sig (apply f ts) → IsAssociative sig f → Rise 1 (suc (number_of_terms ts)) (n ∷ ns) → AreSeveral (chosen 1 (n ∷ ns) ts)
        → (is_comm sig f ≡ false → Follow (n ∷ ns)) → w ≡ apply f (chosen 1 (n ∷ ns) ts) → IsOpen sig r f 1 → ReplacesIn sig r w x (apply f ts) (put_in sig n ns x (apply f ts))
    of_taken f ts n ns k A rise l follow e o =
        let (i, m, t, d) = first_there n ns ts rise in
        let z : n ≡ 1 + number_of_terms d.before = let g = d.size in omega (arith, m, g) in
        let picked : chosen 1 (n ∷ ns) ts ≡ cons t (chosen (suc n) ns d.after) = ap (chosen 1 (n ∷ ns)) d.whole ∙ chosen-middle 1 n ns d.before t d.after z in
        let left : others 1 (n ∷ ns) ts ≡ join d.before (others (suc n) ns d.after) = ap (others 1 (n ∷ ns)) d.whole ∙ others-middle 1 n ns d.before t d.after z in
        let put : exchanged 1 n ns x ts ≡ join d.before (cons x (others (suc n) ns d.after)) = ap (exchanged 1 n ns x) d.whole ∙ exchanged-middle 1 n ns x d.before t d.after z in
        several f (chosen 1 (n ∷ ns) ts) d.before (others (suc n) ns d.after) A o l (ordered (is_comm sig f) refl) e (ap (apply f) (all (is_comm sig f) refl t d picked left)) (ap (applied_in sig f) put)
      where
        ordered : (c : Bool) → is_comm sig f ≡ c → arranged (is_comm sig f) (chosen 1 (n ∷ ns) ts) ≡ chosen 1 (n ∷ ns) ts
        ordered false h = rw h refl
        ordered true h = rw h (sorted_terms-climbing (chosen 1 (n ∷ ns) ts) (chosen_climbs 1 (n ∷ ns) ts (climbs ts (sorted f ts A k h))))

        all : (c : Bool) → is_comm sig f ≡ c → (t : RawTerm) {i : ℕ} (d : Divided ts i t) → chosen 1 (n ∷ ns) ts ≡ cons t (chosen (suc n) ns d.after) → others 1 (n ∷ ns) ts ≡ join d.before (others (suc n) ns d.after)
            → ts ≡ arranged (is_comm sig f) (join d.before (join (chosen 1 (n ∷ ns) ts) (others (suc n) ns d.after)))
        all false h t d picked left = rw h (d.whole ∙ ap (join d.before) (sym (ap (λ us. join us (others (suc n) ns d.after)) picked ∙ ap (cons t) (followed n ns d.after (follow h)))))
        all true h t d picked left =
            rw h (sym (sorted f ts A k h) ∙ sym (chosen_whole 1 (n ∷ ns) ts) ∙ ap (λ zs. sorted_terms (join (chosen 1 (n ∷ ns) ts) zs)) left ∙ sym (in_front d.before (chosen 1 (n ∷ ns) ts) (others (suc n) ns d.after)))

    -- the whole or several arguments, at the end of the path
    at_end : (take : Option (List ℕ)) (v u : RawTerm) → IsCanonical sig v → v ≡ u → IsTaken sig take u w → IsOpenWay sig r (way_of_place [] take) v → ReplacesIn sig r w x v (replaced_here sig take x v)
    at_end None v u k e d o = whole (e ∙ d) refl
    at_end (Some []) v u k e d o = absurd (d.several)
    at_end (Some (n ∷ ns)) v u k e d o =
        let z : v ≡ apply d.operator d.args = e ∙ d.term in
        subst (λ v. ReplacesIn sig r w x v (put_in sig n ns x v)) (sym z)
        (of_taken d.operator d.args n ns (subst (IsCanonical sig) z k) d.assoc d.rise d.several d.follow d.part (subst (λ v. IsOpenArgument sig r v 1) z o.0))

    -- A replacement at a place is one in the term.
    at_place : (path : List ℕ) (take : Option (List ℕ)) (v u : RawTerm) → IsCanonical sig v → at_path v path ≡ Some u → IsTaken sig take u w → IsOpenWay sig r (way_of_place path take) v → ReplacesIn sig r w x v (replaced_at sig path take x v)
    at_place [] take v u k e d o = at_end take v u k (same_some e) d o
    at_place (zero ∷ path) take v u k e d o = absurd (nothing e)
    at_place (suc m ∷ path) take (numeral n) u k e d o = absurd (nothing e)
    at_place (suc m ∷ path) take (quoted q) u k e d o = absurd (nothing e)
    at_place (suc m ∷ path) take (variable y) u k e d o = absurd (nothing e)
    at_place (suc m ∷ path) take (apply f ts) u k e d o =
        by_option (λ t. at_place path take t u) (slice_get (list_of ts) m) refl e (subst (λ is. IsOpenWay sig r is (apply f ts)) (way-cons (suc m) path take) o)
      where
        by_option : ((t : RawTerm) → IsCanonical sig t → at_path t path ≡ Some u → IsTaken sig take u w → IsOpenWay sig r (way_of_place path take) t → ReplacesIn sig r w x t (replaced_at sig path take x t))
            → (y : Option RawTerm) → slice_get (list_of ts) m ≡ y → option_and_then (λ t. at_path t path) y ≡ Some u
            → IsOpenWay sig r (suc m ∷ way_of_place path take) (apply f ts) → ReplacesIn sig r w x (apply f ts) (unwrap_or (option_map (λ t. put_in sig (suc m) [] (replaced_at sig path take x t) (apply f ts)) y) (apply f ts))
        by_option rec None h e o = absurd (nothing e)
        by_option rec (Some t) h e o =
            let b : Divided ts m t = divided ts m t h in
            let z : suc m ≡ 1 + number_of_terms b.before = let g = b.size in omega (arith, g) in
            let put : exchanged 1 (suc m) [] (replaced_at sig path take x t) ts ≡ join b.before (cons (replaced_at sig path take x t) b.after) =
            ap (exchanged 1 (suc m) [] (replaced_at sig path take x t)) b.whole ∙ exchanged-middle 1 (suc m) [] (replaced_at sig path take x t) b.before t b.after z in
            argument f t (replaced_at sig path take x t) b.before b.after (subst (λ n. IsOpen sig r f (suc n)) (sym b.size) o.0) (ap (apply f) b.whole) (ap (applied_in sig f) put)
            (rec t (middle_canonical sig b.before t b.after (subst (AreCanonical sig) b.whole k.0)) e d (o.1 t h))

    -- Each replacement is one at a place.
    abbrev Placed : RawTerm → RawTerm → Type 0
    Placed v y = (path : List ℕ) × (take : Option (List ℕ)) × ReplacesAt sig r w x path take v y

    inside_argument : (f : ℕ) (t u y : RawTerm) (b a : RawTerms) (path : List ℕ) (take : Option (List ℕ)) → IsOpen sig r f (suc (number_of_terms b)) → y ≡ applied_in sig f (join b (cons u a))
        → ReplacesAt sig r w x path take t u → ReplacesAt sig r w x (suc (number_of_terms b) ∷ path) take (apply f (join b (cons t a))) y
    inside_argument f t u y b a path take o q h = record {
      part = record { end = h.part.end; there = subst (λ z. option_and_then (λ t. at_path t path) z ≡ Some h.part.end) (sym (middle_found b t a)) h.part.there; taken = h.part.taken };
      open_way = subst (λ is. IsOpenWay sig r is (apply f (join b (cons t a)))) (sym (way-cons (suc (number_of_terms b)) path take))
          (o, λ t' e. subst (IsOpenWay sig r (way_of_place path take)) (same_some (sym (middle_found b t a) ∙ e)) h.open_way);
      becomes = q ∙ ap (λ z. applied_in sig f (join b (cons z a))) h.becomes ∙ sym put;
    }
      where
        put : replaced_at sig (suc (number_of_terms b) ∷ path) take x (apply f (join b (cons t a))) ≡ applied_in sig f (join b (cons (replaced_at sig path take x t) a))
        put =
            let z : suc (number_of_terms b) ≡ 1 + number_of_terms b = omega arith in
            ap (λ o. unwrap_or (option_map (λ t'. put_in sig (suc (number_of_terms b)) [] (replaced_at sig path take x t') (apply f (join b (cons t a)))) o) (apply f (join b (cons t a)))) (middle_found b t a)
            ∙ ap (applied_in sig f) (exchanged-middle 1 (suc (number_of_terms b)) [] (replaced_at sig path take x t) b t a z)

    by_numbers : (f : ℕ) (ts us : RawTerms) (n : ℕ) (ns : List ℕ) (v y : RawTerm) → IsAssociative sig f → IsOpen sig r f 1 → AreSeveral us → w ≡ apply f us → v ≡ apply f ts → chosen 1 (n ∷ ns) ts ≡ us
        → Rise 1 (suc (number_of_terms ts)) (n ∷ ns) → (is_comm sig f ≡ false → Follow (n ∷ ns)) → y ≡ applied_in sig f (exchanged 1 n ns x ts) → Placed v y
    by_numbers f ts us n ns v y A o l e p c rise follow q = (
      [],
      Some (n ∷ ns),
      record {
        part = record { end = v; there = refl; taken = record { operator = f; args = ts; term = p; assoc = A; rise = rise; several = subst AreSeveral (sym c) l; follow = follow; part = e ∙ ap (apply f) (sym c) } };
        open_way = (subst (λ v. IsOpenArgument sig r v 1) (sym p) o, λ u h. tt);
        becomes = q ∙ ap (put_in sig n ns x) (sym p);
      },
    )

    -- several arguments, taken as neighbours or out of a list in order
    of_several : (f : ℕ) (us b a : RawTerms) (v y : RawTerm) → IsAssociative sig f → IsOpen sig r f 1 → AreSeveral us → arranged (is_comm sig f) us ≡ us → w ≡ apply f us
        → v ≡ apply f (arranged (is_comm sig f) (join b (join us a))) → y ≡ applied_in sig f (join b (cons x a)) → Placed v y
    of_several f nil b a v y A o l m e p q = absurd l
    of_several f (cons u us) b a v y A o l m e p q = by_comm (is_comm sig f) refl
      where
        ts : RawTerms
        ts = sorted_terms (join b (join (cons u us) a))

        of_numbers : is_comm sig f ≡ true → (ks : List ℕ) → chosen 1 ks ts ≡ cons u us → Rise 1 (suc (number_of_terms ts)) ks → Placed v y
        of_numbers h [] c rise = absurd (subst AreSeveral (sym c) l)
        of_numbers h (n ∷ ns) c rise =
            let (i, j, t, d) = first_there n ns ts rise in
            let z : n ≡ 1 + number_of_terms d.before = let g = d.size in omega (arith, j, g) in
            let left : others 1 (n ∷ ns) ts ≡ join d.before (others (suc n) ns d.after) = ap (others 1 (n ∷ ns)) d.whole ∙ others-middle 1 n ns d.before t d.after z in
            let put : exchanged 1 n ns x ts ≡ join d.before (cons x (others (suc n) ns d.after)) = ap (exchanged 1 n ns x) d.whole ∙ exchanged-middle 1 n ns x d.before t d.after z in
            let same : sorted_terms (join (cons u us) (join b a)) ≡ sorted_terms (join (cons u us) (join d.before (others (suc n) ns d.after))) =
            sym (in_front b (cons u us) a) ∙ sym (sorted_terms-idempotent (join b (join (cons u us) a))) ∙ sym (chosen_whole 1 (n ∷ ns) ts) ∙ ap (λ zs. sorted_terms (join zs (others 1 (n ∷ ns) ts))) c ∙ ap (λ zs. sorted_terms (join (cons u us) zs)) left in
            by_numbers f ts (cons u us) n ns v y A o l e (p ∙ ap (λ c. apply f (arranged c (join b (join (cons u us) a)))) h) c rise (λ g. absurd (both_ways _ g h))
            (q ∙ placed_anywhere f h x b a d.before (others (suc n) ns d.after) (less (cons u us) (join b a) (join d.before (others (suc n) ns d.after)) same) ∙ ap (applied_in sig f) (sym put))

        by_comm : (c : Bool) → is_comm sig f ≡ c → Placed v y
        by_comm false h =
            let n : ℕ = suc (number_of_terms b) in
            let z : n ≡ 1 + number_of_terms b = omega arith in
            by_numbers f (join b (cons u (join us a))) (cons u us) n (count_from (suc n) us) v y A o l e (p ∙ ap (λ c. apply f (arranged c (join b (join (cons u us) a)))) h)
            (chosen-middle 1 n (count_from (suc n) us) b u (join us a) z ∙ ap (cons u) (count_chosen (suc n) us a))
            (omega arith, omega (arith, number-join b (cons u (join us a))), count_rises (suc n) (suc (number_of_terms (join b (cons u (join us a))))) us (omega (arith, number-join b (cons u (join us a)), number-join us a)))
            (λ g. count_follows n us)
            (q ∙ ap (applied_in sig f) (sym (exchanged-middle 1 n (count_from (suc n) us) x b u (join us a) z ∙ ap (λ zs. join b (cons x zs)) (count_others (suc n) us a))))
        by_comm true h =
            let order : sorted_terms (cons u us) ≡ cons u us = subst (λ c. arranged c (cons u us) ≡ cons u us) h m in
            let part : IsPartOfList ts (cons u us) = record { others = join b a; whole = sym (in_front b (cons u us) a) } in
            let up : Climbs ts = climbs ts (sorted_terms-idempotent (join b (join (cons u us) a))) in
            of_numbers h (numbers_of 1 (cons u us) ts) (numbers_choose 1 (cons u us) ts (climbs (cons u us) order) up part)
            (let g : 1 + number_of_terms ts ≡ suc (number_of_terms ts) = omega arith in subst (λ n. Rise 1 n (numbers_of 1 (cons u us) ts)) g (numbers_rise 1 (cons u us) ts))

    somewhere : {v y : RawTerm} → IsCanonical sig v → ReplacesIn sig r w x v y → Placed v y
    somewhere {v} {y} k (whole p q) = ([], None, record { part = record { end = v; there = refl; taken = p }; open_way = tt; becomes = q })
    somewhere {v} {y} k (argument f t u b a o p q h) =
        let (path, take, s) = somewhere (middle_canonical sig b t a (subst (IsCanonical sig) p k).0) h in
        (suc (number_of_terms b) ∷ path, take, subst (λ v. ReplacesAt sig r w x (suc (number_of_terms b) ∷ path) take v y) (sym p) (inside_argument f t u y b a path take o q s))
    somewhere {v} {y} k (several f us b a A o l m e p q) = of_several f us b a v y A o l m e p q

  is_canonical : (v : RawTerm) → normal_form sig (nested sig v) ≡ v → IsCanonical sig v
  is_canonical v e = subst (IsCanonical sig) e (canonical sig ok (nested sig v))

  pub place_in_term : (r : Bool) (w x v y : RawTerm) (path : List ℕ) (take : Option (List ℕ)) → normal_form sig (nested sig v) ≡ v → ReplacesAt sig r w x path take v y → ReplacesIn sig r w x v y
  place_in_term r w x v y path take e h =
      subst (ReplacesIn sig r w x v) (sym h.becomes) (at_place r w x path take v h.part.end (is_canonical v e) h.part.there h.part.taken h.open_way)

  pub replacement_somewhere : (r : Bool) (w x v y : RawTerm) → normal_form sig (nested sig v) ≡ v → ReplacesIn sig r w x v y → (path : List ℕ) × (take : Option (List ℕ)) × ReplacesAt sig r w x path take v y
  replacement_somewhere r w x v y e h = somewhere r w x (is_canonical v e) h

  pub part_somewhere : (r : Bool) (v w : RawTerm) → normal_form sig (nested sig v) ≡ v → IsPartOf sig r v w
      → (path : List ℕ) × (take : Option (List ℕ)) × IsPartAt sig path take v w × IsOpenWay sig r (way_of_place path take) v
  part_somewhere r v w e h =
      let (y, i) = part_can_be_replaced w h in
      let (path, take, s) = replacement_somewhere r w w v y e i in
      (path, take, s.part, s.open_way)

-- What stands at a place is one term, and what comes of a replacement.
same_arguments : {f g : ℕ} {ts us : RawTerms} → apply f ts ≡ apply g us → ts ≡ us
same_arguments e = cc

same_operator : {f g : ℕ} {ts us : RawTerms} → apply f ts ≡ apply g us → f ≡ g
same_operator e = cc

one_taken : (sig : Signature) (take : Option (List ℕ)) (t s u w : RawTerm) → t ≡ s → IsTaken sig take t w → IsTaken sig take s u → w ≡ u
one_taken sig None t s u w e a b = sym a ∙ e ∙ b
one_taken sig (Some ks) t s u w e a b =
    let z : apply a.operator a.args ≡ apply b.operator b.args = sym a.term ∙ e ∙ b.term in
    a.part ∙ ap (λ f. apply f (chosen 1 ks a.args)) (same_operator z) ∙ ap (λ ts. apply b.operator (chosen 1 ks ts)) (same_arguments z) ∙ sym b.part

pub one_place : (sig : Signature) (r : Bool) (w u x v y z : RawTerm) (path : List ℕ) (take : Option (List ℕ)) → ReplacesAt sig r w x path take v y → ReplacesAt sig r u x path take v z → (w ≡ u) × (y ≡ z)
one_place sig r w u x v y z path take a b = (one_taken sig take a.part.end b.part.end u w (same_some (sym a.part.there ∙ b.part.there)) a.part.taken b.part.taken, a.becomes ∙ sym b.becomes)
