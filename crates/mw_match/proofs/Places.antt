-- The places behind one, and the terms and patterns that are searched there.
use Rattle.std.specs.Prelude.{◌≡◌, ◌≤◌, ◌<◌, ◌+◌, ◌-◌, ◌&&◌, ℕ, zero, suc, Bool, true, false, cond, List, [], ◌∷◌, ◌++◌, length, Option, Some, None, MatchOption, nat_eq, nat_lt, refl}
use Rattle.std.proofs.Common.{sym, ap, subst, ◌∙◌, arith}
use Rattle.mw_logic.specs.Term.{RawTerm, apply, RawTerms, nil, cons, join, variable}
use Rattle.mw_logic.specs.Terms.{terms_of, args_of, front, skip}
use Rattle.mw_logic.specs.Signature.{Signature, Identity, constant_of, numeral_of}
use Rattle.mw_logic.specs.Kinds.{is_successor}
use Rattle.mw_logic.specs.Parts.{is_assoc, number_of_terms}
use Rattle.mw_logic.specs.NormalForm.{is_comm, identity_of, elements}
use Rattle.mw_logic.proofs.Pushed.{join_pushed}
use Rattle.mw_logic.proofs.SortLaws.{join-nil}
use Rattle.mw_position.specs.Positions.{position}
use Rattle.mw_arguments.specs.Splits.{orders}
use Rattle.mw_matching.specs.Found.{Values, is_single, are_none, found, found_all, found_row, found_bag, found_orders, has_top, has_before, before}
use Rattle.mw_matching.specs.Patterns.{is_rigid}
use Rattle.mw_solving.specs.Inside.{joins, with_rest}
use Rattle.mw_search.specs.Goals.{top_of}
use Rattle.mw_search.proofs.BagLists.{number_terms}
use Rattle.mw_search.proofs.Lists.{front_all, skip_number}
use Rattle.mw_match.specs.Parts.{neighbours, places_behind, places_of, arguments_from, rest_pattern}
use Rattle.mw_match.specs.declared.parts.Place.{Place}
use Rattle.mw_match.specs.declared.parts.Place.TheVariants.{Left, End}

-- one argument on
pub more_neighbours : (comm : Bool) (n i : ℕ) → comm ≡ false → 3 ≤ n - i
    → cond comm [] (neighbours (suc i) (n - (i + 2))) ≡ End (i + 1) ∷ Left (i + 1) ∷ cond comm [] (neighbours (suc (i + 1)) (n - (i + 1 + 2)))
more_neighbours comm n i not_comm more =
    let e : n - (i + 2) ≡ suc (n - (i + 1 + 2)) = omega arith in
    let f : suc i ≡ i + 1 = omega arith in
    rw not_comm (ap (neighbours (suc i)) e ∙ ap (λ j. End j ∷ Left j ∷ neighbours (suc j) (n - (i + 1 + 2))) f)

-- the arguments from an index on
pub made_from : (t made : RawTerm) (f from : ℕ) (args : List RawTerm) → t ≡ apply f (terms_of args) → made ≡ apply f (front (length args) (skip from (args_of t))) → made ≡ arguments_from from t
made_from t made f from args is done =
    let same : args_of t ≡ terms_of args = ap args_of is in
    let n : number_of_terms (terms_of args) ≡ length args = number_terms args in
    let s : number_of_terms (skip from (terms_of args)) ≤ number_of_terms (terms_of args) = skip_number from (terms_of args) in
    done ∙ ap (λ ts. apply f (front (length args) (skip from ts))) same ∙ ap (apply f) (front_all (length args) (skip from (terms_of args)) (omega (arith, n, s))) ∙ ap (arguments_from from) (sym is)

-- the pattern with a rest behind it
terms_pushed : (xs : List RawTerm) (y : RawTerm) → terms_of (xs ++ y ∷ []) ≡ join (terms_of xs) (cons y nil)
terms_pushed xs y = sym (join-nil (terms_of (xs ++ y ∷ []))) ∙ join_pushed xs y nil

some_there : (xs : List RawTerm) → (length xs ≡ 0 → ⊥) → are_none (terms_of xs) ≡ false
some_there [] h = absurd (h refl)
some_there (x ∷ xs) h = refl

pub pattern_made : (sig : Signature) (single : List (List ℕ)) (p t made rest : RawTerm) (m f : ℕ) (args : RawTerms) (found copied all : List RawTerm) → t ≡ apply f args → is_assoc sig f ≡ true → is_rigid sig (is_single single) f p ≡ false
    → terms_of found ≡ elements (identity_of sig f) f p → (length found ≡ 0 → ⊥) → copied ≡ found → rest ≡ variable (position m) → all ≡ copied ++ rest ∷ [] → made ≡ apply f (terms_of all)
    → ◌≡◌ {A = Option RawTerm} (Some made) (rest_pattern sig single p m t)
pattern_made sig single p t made rest m f args found copied all is assoc free elements_are some same last pushed done =
    let some_elements : are_none (elements (identity_of sig f) f p) ≡ false = ap are_none (sym elements_are) ∙ some_there found some in
    let joined : joins sig single f p ≡ true = rw (free, some_elements) refl in
    let both : (is_assoc sig f && joins sig single f p) ≡ true = rw (assoc, joined) refl in
    let w : made ≡ with_rest sig f p m =
    done ∙ ap (λ ts. apply f (terms_of ts)) pushed ∙ ap (apply f) (terms_pushed copied rest)
    ∙ ap (λ ts. apply f (join (terms_of ts) (cons rest nil))) same ∙ ap (λ ts. apply f (join ts (cons rest nil))) elements_are ∙ ap (λ r. apply f (join (elements (identity_of sig f) f p) (cons r nil))) last in
    ap Some w ∙ sym (ap (λ b. cond b (Some (with_rest sig f p m)) None) both) ∙ ap (rest_pattern sig single p m) (sym is)

-- the place behind, of the arguments of a term
pub placed_behind : (sig : Signature) (t : RawTerm) (q : Place) (o : Option Place) (f n : ℕ) (comm : Bool) (args : List RawTerm) → t ≡ apply f (terms_of args) → comm ≡ is_comm sig f → n ≡ length args
    → MatchOption o (places_behind comm n q ≡ []) (λ next. places_behind comm n q ≡ next ∷ places_behind comm n next) → MatchOption o (places_of sig t q ≡ []) (λ next. places_of sig t q ≡ next ∷ places_of sig t next)
placed_behind sig t q o f n comm args is e count h =
    let Says : List Place → (Place → List Place) → Type 0 = λ now then. MatchOption o (now ≡ []) (λ next. now ≡ next ∷ then next) in
    let P : Bool → ℕ → Type 0 = λ c n. Says (places_behind c n q) (places_behind c n) in
    let R : RawTerm → Type 0 = λ t. Says (places_of sig t q) (places_of sig t) in
    let here : P (is_comm sig f) (number_of_terms (terms_of args)) = subst (λ n. P (is_comm sig f) n) (count ∙ sym (number_terms args)) (subst (λ c. P c n) e h) in
    subst R (sym is) here

-- the arguments from an index on, as the elements of a row
same_nat : (n : ℕ) → nat_eq n n ≡ true
same_nat n = grind arith

row_elements : (e : Option Identity) (f : ℕ) (z : RawTerm) (zs : RawTerms) → elements e f (apply f (cons z zs)) ≡ cons z zs
row_elements None f z zs = ap (λ b. cond b (cons z zs) (cons (apply f (cons z zs)) nil)) (same_nat f)
row_elements (Some (constant_of c)) f z zs = ap (λ b. cond b (cons z zs) (cons (apply f (cons z zs)) nil)) (same_nat f)
row_elements (Some (numeral_of n)) f z zs = ap (λ b. cond b (cons z zs) (cons (apply f (cons z zs)) nil)) (same_nat f)

elements_from : (e : Option Identity) (f i : ℕ) (zs : RawTerms) → i < number_of_terms zs → elements e f (apply f (skip i zs)) ≡ skip i zs
elements_from e f i nil h = absurd (omega (arith, h))
elements_from e f zero (cons z zs) h = row_elements e f z zs
elements_from e f (suc i) (cons z zs) h = elements_from e f i zs (omega (arith, h))

pub row_found : (sig : Signature) (single : List (List ℕ)) (q t : RawTerm) (f g i : ℕ) (qs : RawTerms) (args : List RawTerm) → t ≡ apply f (terms_of args) → q ≡ apply g qs → is_assoc sig f ≡ true → is_comm sig f ≡ false → g ≡ f → i < length args
    → (vs : Values) → found sig single q (arguments_from i t) vs ≡ found_row sig single (top_of q) (args_of q) (skip i (args_of t)) vs
row_found sig single q t f g i qs args is_term is_pattern assoc not_comm top within vs =
    let zs : RawTerms = skip i (terms_of args) in
    let size : number_of_terms (terms_of args) ≡ length args = number_terms args in
    let at_f : q ≡ apply f qs = is_pattern ∙ ap (λ g. apply g qs) top in
    let P : RawTerm → RawTerm → Type 0 = λ q t. found sig single q (arguments_from i t) vs ≡ found_row sig single (top_of q) (args_of q) (skip i (args_of t)) vs in
    let es : RawTerms = elements (identity_of sig f) f (apply f zs) in
    let rest : Bool → List Values = λ c. cond c (found_bag sig single f qs es vs) (found_row sig single f qs es vs) in
    let other : List Values = cond (is_comm sig f) (cond (has_top f (apply f zs)) (found_orders sig single qs (orders zs) vs) [])
    (cond (is_successor sig f) (cond (has_before f (apply f zs)) (found_all sig single qs (before (apply f zs)) vs) []) (cond (has_top f (apply f zs)) (found_all sig single qs zs vs) [])) in
    let here : P (apply f qs) (apply f (terms_of args)) =
    ap (λ a. cond a (rest (is_comm sig f)) other) assoc ∙ ap rest not_comm ∙ ap (λ es. found_row sig single f qs es vs) (elements_from (identity_of sig f) f i (terms_of args) (omega (arith, size, within))) in
    subst (λ q. P q t) (sym at_f) (subst (λ t. P (apply f qs) t) (sym is_term) here)

pub is_below : (m n : ℕ) → nat_lt m n ≡ true → m < n
is_below m n h = grind arith

pub same_numbers : (m n : ℕ) → nat_eq m n ≡ true → m ≡ n
same_numbers m n h = grind arith
