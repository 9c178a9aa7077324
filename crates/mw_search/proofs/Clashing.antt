-- Patterns that have no match, whatever values come behind those that stand, and shares of which no match comes.
use Rattle.std.specs.Prelude.{◌<◌, ◌≤◌, Bool, true, Some, slice_get, cond, refl}
use Rattle.std.proofs.Common.{◌≡◌, ◌∙◌, ℕ, zero, suc, List, [], ◌∷◌, ◌++◌, length, get_or, ap, sym, subst, arith, false}
use Rattle.std.specs.List.{flat_map}
use Rattle.std.proofs.lemmas.List.{append-nil}
use Rattle.mw_logic.specs.Term.{RawTerm, Variable, variable, RawTerms, cons}
use Rattle.mw_logic.specs.Terms.{args_of, terms_of, skip}
use Rattle.mw_logic.specs.Signature.{Signature}
use Rattle.mw_logic.specs.NormalForm.{identity_of, elements}
use Rattle.mw_arguments.specs.Bags.{same}
use Rattle.mw_matching.specs.Patterns.{is_rigid}
use Rattle.mw_matching.specs.Multisets.{is_within, term_at, without}
use Rattle.mw_matching.specs.Found.{Values, value_of, fits, is_single, placed, found, found_all, found_orders, found_row, found_bag}
use Rattle.mw_matching.proofs.FoundSingle.{fitting_element}
use Rattle.mw_search.specs.Lacking.{Each}
use Rattle.mw_search.specs.Bags.{IsAlone}
use Rattle.mw_search.specs.Goals.{Share, top_of, goal_found}
use Rattle.mw_search.specs.Clashes.{Clash, AllClash, OrdersClash, IsTwice, IsBarren}
use Rattle.mw_search.specs.declared.goals.Goal.TheVariants.{Row, Left}
use Rattle.mw_search.proofs.Ends.{got_before, got_end, got_past}
use Rattle.mw_search.proofs.Beginning.{GoesOn, here, further, found_on}

none_after : (vs ws : Values) (L : List Values) (F : Values → List Values) → GoesOn vs ws → Each (GoesOn ws) L → ((us : Values) → GoesOn vs us → F us ≡ []) → flat_map F L ≡ []
none_after vs ws [] F a e h = refl
none_after vs ws (us ∷ L) F a e h = ap (λ l. l ++ flat_map F L) (h us (further vs ws us a e.0)) ∙ none_after vs ws L F a e.1 h

none_at : (sig : Signature) (single : List (List ℕ)) (vs : Values) (ps ts : List RawTerm) (i : ℕ) (p t : RawTerm) → i < length ps → i < length ts → p ≡ get_or ps i p → t ≡ get_or ts i t
    → ((us : Values) → GoesOn vs us → found sig single p t us ≡ []) → (ws : Values) → GoesOn vs ws → found_all sig single (terms_of ps) (terms_of ts) ws ≡ []
none_at sig single vs [] ts i p t hp ht gp gt n ws a = absurd (omega (arith, hp))
none_at sig single vs (q ∷ ps) [] i p t hp ht gp gt n ws a = absurd (omega (arith, ht))
none_at sig single vs (q ∷ ps) (u ∷ ts) zero p t hp ht gp gt n ws a =
    ap (flat_map (λ us. found_all sig single (terms_of ps) (terms_of ts) us)) (ap (λ x. found sig single x u ws) (sym gp) ∙ ap (λ y. found sig single p y ws) (sym gt) ∙ n ws a)
none_at sig single vs (q ∷ ps) (u ∷ ts) (suc i) p t hp ht gp gt n ws a =
    none_after vs ws (found sig single q u ws) (λ us. found_all sig single (terms_of ps) (terms_of ts) us) a (found_on sig single q u ws)
    (λ us b. none_at sig single vs ps ts i p t (omega (arith, hp)) (omega (arith, ht)) gp gt n us b)

-- one pair that clashes is enough
pub all_clash : (sig : Signature) (vs : Values) (ps ts : List RawTerm) (i : ℕ) (p t : RawTerm) → i < length ps → i < length ts → p ≡ get_or ps i p → t ≡ get_or ts i t → Clash sig vs p t → AllClash sig vs (terms_of ps) (terms_of ts)
all_clash sig vs ps ts i p t hp ht gp gt c = λ single more.
    none_at sig single vs ps ts i p t hp ht gp gt (λ us a. subst (λ ws. found sig single p t ws ≡ []) (sym a.is) (c single a.more)) (vs ++ more) (record { more = more; is = refl })

-- a variable clashes with what differs from its value
pub value_clash : (sig : Signature) (vs : Values) (x : Variable) (v t : RawTerm) → x.sort < length vs → v ≡ get_or vs x.sort v → same v t ≡ false → Clash sig vs (variable x) t
value_clash sig vs x v t h e d = λ single more. ap (placed sig single x.sort t (vs ++ more)) (got_before vs more x.sort v h e) ∙ rw d refl

pub two_items : (xs : List RawTerm) (p q : RawTerm) → 2 ≤ length xs → length xs < 3 → p ≡ get_or xs 0 p → q ≡ get_or xs 1 q → xs ≡ p ∷ q ∷ []
two_items [] p q l m e f = absurd (omega (arith, l))
two_items (x ∷ []) p q l m e f = absurd (omega (arith, l))
two_items (x ∷ y ∷ []) p q l m e f = ap (λ a. a ∷ y ∷ []) (sym e) ∙ ap (λ b. p ∷ b ∷ []) (sym f)
two_items (x ∷ y ∷ z ∷ xs) p q l m e f = absurd (omega (arith, m))

-- one pair that clashes in each order is enough
pub in_orders : (sig : Signature) (vs : Values) (p q x y : RawTerm) → AllClash sig vs (terms_of (p ∷ q ∷ [])) (terms_of (x ∷ y ∷ [])) → AllClash sig vs (terms_of (p ∷ q ∷ [])) (terms_of (y ∷ x ∷ []))
    → OrdersClash sig vs (terms_of (p ∷ q ∷ [])) (terms_of (x ∷ y ∷ []))
in_orders sig vs p q x y a b = λ single more. by_test single more (same x y)
  where
    by_test : (single : List (List ℕ)) (more : Values) (e : Bool) → found_orders sig single (terms_of (p ∷ q ∷ [])) (cond e (terms_of (x ∷ y ∷ []) ∷ []) (terms_of (x ∷ y ∷ []) ∷ terms_of (y ∷ x ∷ []) ∷ [])) (vs ++ more) ≡ []
    by_test single more true = append-nil _ ∙ a single more
    by_test single more false = ap (λ l. l ++ (found_all sig single (terms_of (p ∷ q ∷ [])) (terms_of (y ∷ x ∷ [])) (vs ++ more) ++ [])) (a single more) ∙ append-nil _ ∙ b single more

module _ (sig : Signature) (single : List (List ℕ)) where
  -- a pattern that clashes with the share's term has no match
  pub clash_barren : (vs : Values) (q : RawTerm) (s : Share) → Clash sig vs q s.0 → IsBarren sig single vs q s
  clash_barren vs q s c = ap (flat_map (λ us. goal_found sig single s.1 us)) (ap (found sig single q s.0) (sym (append-nil vs)) ∙ c single [])

  -- and so it is where the argument behind has to be one element, and clashes with the first one that is left
  pub behind_barren : (vs : Values) (q t p r b z : RawTerm) (i j : ℕ) (bs zs : RawTerms) → skip i (args_of p) ≡ cons b bs → skip j (args_of r) ≡ cons z zs
      → is_rigid sig (is_single single) (top_of p) b ≡ true → Clash sig vs b z → IsBarren sig single vs q (t, Row p i r j)
  behind_barren vs q t p r b z i j bs zs eb ez er c =
      none_after vs vs (found sig single q t vs) (λ us. found_row sig single (top_of p) (skip i (args_of p)) (skip j (args_of r)) us) (here vs) (found_on sig single q t vs)
      (λ us a. ap (λ xs. found_row sig single (top_of p) xs (skip j (args_of r)) us) eb ∙ ap (λ ys. found_row sig single (top_of p) (cons b bs) ys us) ez
      ∙ rw er (ap (flat_map (λ ws. found_row sig single (top_of p) bs zs ws)) (ap (found sig single b z) a.is ∙ c single a.more)))

  -- a variable that has a value that isn't within
  given_bag : (f : ℕ) (q t : RawTerm) (qs zs : RawTerms) (us : Values) → value_of q us ≡ Some t → is_within (elements (identity_of sig f) f t) zs ≡ false → found_bag sig single f (cons q qs) zs us ≡ []
  given_bag f q t qs zs us e h = rw e (rw h refl)

  -- a variable that has to be one element, and comes again, wants an element twice
  pub twice_barren : (vs : Values) (p q b : RawTerm) (i k : ℕ) → IsTwice single p i (length vs) q → IsAlone (args_of b) k → IsBarren sig single vs q (term_at k (args_of b), Left p i b k)
  twice_barren vs p q b i k w alone =
      ap (λ (x : RawTerm). flat_map (λ us. found_bag sig single (top_of p) (skip i (args_of p)) (without k (args_of b)) us) (found sig single x (term_at k (args_of b)) vs)) w.is
      ∙ ap (λ n. flat_map (λ us. found_bag sig single (top_of p) (skip i (args_of p)) (without k (args_of b)) us) (placed sig single n (term_at k (args_of b)) vs (slice_get vs n))) w.comes
      ∙ ap (λ o. flat_map (λ us. found_bag sig single (top_of p) (skip i (args_of p)) (without k (args_of b)) us) (placed sig single (length vs) (term_at k (args_of b)) vs o)) (got_past vs)
      ∙ by_test (fits sig single (length vs) (term_at k (args_of b))) refl
    where
      by_test : (x : Bool) → fits sig single (length vs) (term_at k (args_of b)) ≡ x → flat_map (λ us. found_bag sig single (top_of p) (skip i (args_of p)) (without k (args_of b)) us) (cond x ((vs ++ term_at k (args_of b) ∷ []) ∷ []) []) ≡ []
      by_test true e =
          let t = term_at k (args_of b) in
          let f = top_of p in
          let us : Values = vs ++ t ∷ [] in
          let zs = without k (args_of b) in
          let value : slice_get us w.second.sort ≡ Some t = ap (slice_get us) w.again ∙ got_end vs t in
          let gone : is_within (elements (identity_of sig f) f t) zs ≡ false = ap (λ ts. is_within ts zs) (fitting_element sig single f (length vs) t w.single e) ∙ alone in
          append-nil _ ∙ ap (λ xs. found_bag sig single f xs zs us) w.behind ∙ given_bag f (variable w.second) t w.others zs us value gone
      by_test false e = refl
