-- Rows that patterns meet by no values, as those at the front tell that take one element each.
use Rattle.std.specs.Prelude.{◌≡◌, ◌<◌, ◌+◌, Bool, true, false, ℕ, zero, suc, List, [], ◌∷◌, ◌++◌, length, drop, get_or, flat_map, cond, refl}
use Rattle.std.proofs.Common.{◌∙◌, ap, sym, subst, arith}
use Rattle.std.proofs.lemmas.List.{append-nil}
use Rattle.mw_logic.specs.Term.{RawTerm, RawTerms, nil, cons}
use Rattle.mw_logic.specs.Terms.{terms_of}
use Rattle.mw_logic.specs.Signature.{Signature}
use Rattle.mw_matching.specs.Found.{Values, is_single, found, found_row}
use Rattle.mw_matching.specs.Patterns.{is_rigid, leading}
use Rattle.mw_search.specs.Clashes.{Clash}
use Rattle.mw_search.specs.Lacking.{Each}
use Rattle.mw_search.proofs.BagLists.{terms_at}
use Rattle.mw_search.proofs.Beginning.{GoesOn, further, found_on}

-- one more at the front
pub leading_on : (sig : Signature) (single : List (List ℕ)) (f i : ℕ) (ps : List RawTerm) (p : RawTerm) → i < length ps → p ≡ get_or ps i p → is_rigid sig (is_single single) f p ≡ true
    → leading sig (is_single single) f (terms_of ps) ≡ i + leading sig (is_single single) f (terms_of (drop i ps))
    → leading sig (is_single single) f (terms_of ps) ≡ (i + 1) + leading sig (is_single single) f (terms_of (drop (i + 1) ps))
leading_on sig single f i ps p h is rigid so =
    let r : ℕ = leading sig (is_single single) f (terms_of (drop (i + 1) ps)) in
    let one : leading sig (is_single single) f (terms_of (drop i ps)) ≡ suc r = ap (leading sig (is_single single) f) (terms_at ps i p h is) ∙ ap (λ b. cond b (suc r) 0) rigid in
    omega (arith, so, one)

none_any : {X Y : Type 0} (F : X → List Y) (L : List X) → ((x : X) → F x ≡ []) → flat_map F L ≡ []
none_any F [] h = refl
none_any F (x ∷ L) h = ap (λ l. l ++ flat_map F L) (h x) ∙ none_any F L h

none_after : (vs ws : Values) (L : List Values) (F : Values → List Values) → GoesOn vs ws → Each (GoesOn ws) L → ((us : Values) → GoesOn vs us → F us ≡ []) → flat_map F L ≡ []
none_after vs ws [] F a e h = refl
none_after vs ws (us ∷ L) F a e h = ap (λ l. l ++ flat_map F L) (h us (further vs ws us a e.0)) ∙ none_after vs ws L F a e.1 h

module _ (sig : Signature) (single : List (List ℕ)) (f : ℕ) where
  abbrev rigid : RawTerm → Bool
  rigid q = is_rigid sig (is_single single) f q

  abbrev front : List RawTerm → ℕ
  front ps = leading sig (is_single single) f (terms_of ps)

  rigid_none : (q : RawTerm) (qs : RawTerms) (vs : Values) → rigid q ≡ true → found_row sig single f (cons q qs) nil vs ≡ []
  rigid_none q qs vs h = rw h refl

  rigid_one : (q z : RawTerm) (qs zs : RawTerms) (vs : Values) → rigid q ≡ true → found_row sig single f (cons q qs) (cons z zs) vs ≡ flat_map (λ us. found_row sig single f qs zs us) (found sig single q z vs)
  rigid_one q z qs zs vs h = rw h refl

  front_more : (b : Bool) (n m : ℕ) → m < cond b (suc n) 0 → b ≡ true
  front_more true n m h = refl
  front_more false n m h = absurd (omega (arith, h))

  front_all : (b : Bool) (n m : ℕ) → cond b (suc n) 0 ≡ suc m → b ≡ true
  front_all true n m h = refl
  front_all false n m h = absurd (omega (arith, h))

  -- fewer elements than patterns that take one each
  pub too_few : (ps ts : List RawTerm) (vs : Values) → length ts < front ps → found_row sig single f (terms_of ps) (terms_of ts) vs ≡ []
  too_few [] ts vs h = absurd (omega (arith, h))
  too_few (q ∷ ps) [] vs h = rigid_none q (terms_of ps) vs (front_more (rigid q) (front ps) 0 h)
  too_few (q ∷ ps) (t ∷ ts) vs h =
      let r : rigid q ≡ true = front_more (rigid q) (front ps) (length (t ∷ ts)) h in
      let n : front (q ∷ ps) ≡ suc (front ps) = rw r refl in
      rigid_one q t (terms_of ps) (terms_of ts) vs r
      ∙ none_any (λ us. found_row sig single f (terms_of ps) (terms_of ts) us) (found sig single q t vs) (λ us. too_few ps ts us (omega (arith, h, n)))

  -- all patterns take one each, and there is another number of elements
  pub other_number : (ps ts : List RawTerm) (vs : Values) → front ps ≡ length ps → (length ts ≡ length ps → ⊥) → found_row sig single f (terms_of ps) (terms_of ts) vs ≡ []
  other_number [] [] vs a h = absurd (h refl)
  other_number [] (t ∷ ts) vs a h = refl
  other_number (q ∷ ps) [] vs a h = rigid_none q (terms_of ps) vs (front_all (rigid q) (front ps) (length ps) a)
  other_number (q ∷ ps) (t ∷ ts) vs a h =
      let r : rigid q ≡ true = front_all (rigid q) (front ps) (length ps) a in
      let n : front (q ∷ ps) ≡ suc (front ps) = rw r refl in
      rigid_one q t (terms_of ps) (terms_of ts) vs r
      ∙ none_any (λ us. found_row sig single f (terms_of ps) (terms_of ts) us) (found sig single q t vs) (λ us. other_number ps ts us (omega (arith, a, n)) (λ e. h (ap suc e)))

  -- one of those at the front clashes with its element
  none_at : (vs : Values) (ps ts : List RawTerm) (i : ℕ) (p t : RawTerm) → i < front ps → i < length ts → p ≡ get_or ps i p → t ≡ get_or ts i t
      → ((us : Values) → GoesOn vs us → found sig single p t us ≡ []) → (ws : Values) → GoesOn vs ws → found_row sig single f (terms_of ps) (terms_of ts) ws ≡ []
  none_at vs [] ts i p t hp ht gp gt n ws a = absurd (omega (arith, hp))
  none_at vs (q ∷ ps) [] i p t hp ht gp gt n ws a = absurd (omega (arith, ht))
  none_at vs (q ∷ ps) (u ∷ ts) zero p t hp ht gp gt n ws a =
      rigid_one q u (terms_of ps) (terms_of ts) ws (front_more (rigid q) (front ps) 0 hp)
      ∙ ap (flat_map (λ us. found_row sig single f (terms_of ps) (terms_of ts) us)) (ap (λ x. found sig single x u ws) (sym gp) ∙ ap (λ y. found sig single p y ws) (sym gt) ∙ n ws a)
  none_at vs (q ∷ ps) (u ∷ ts) (suc i) p t hp ht gp gt n ws a =
      let r : rigid q ≡ true = front_more (rigid q) (front ps) (suc i) hp in
      let m : front (q ∷ ps) ≡ suc (front ps) = rw r refl in
      rigid_one q u (terms_of ps) (terms_of ts) ws r
      ∙ none_after vs ws (found sig single q u ws) (λ us. found_row sig single f (terms_of ps) (terms_of ts) us) a (found_on sig single q u ws)
      (λ us b. none_at vs ps ts i p t (omega (arith, hp, m)) (omega (arith, ht)) gp gt n us b)

  pub row_clash : (vs : Values) (ps ts : List RawTerm) (i : ℕ) (p t : RawTerm) → i < front ps → i < length ts → p ≡ get_or ps i p → t ≡ get_or ts i t → Clash sig vs p t
      → found_row sig single f (terms_of ps) (terms_of ts) vs ≡ []
  row_clash vs ps ts i p t hp ht gp gt c = none_at vs ps ts i p t hp ht gp gt (λ us a. subst (λ ws. found sig single p t ws ≡ []) (sym a.is) (c single a.more)) vs (begins vs)
    where
      begins : (vs : Values) → GoesOn vs vs
      begins vs = record { more = []; is = sym (append-nil vs) }
