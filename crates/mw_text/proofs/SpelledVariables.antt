-- The variables of a term that tokens spell are declared ones, or stand in the text with their sorts.
use Rattle.std.proofs.Common.{◌≡◌, ◌||◌, ℕ, Bool, true, false, List, [], ◌∷◌, ◌++◌, IsTrue, codes, subst, inl, inr, refl}
use Rattle.std.proofs.lemmas.Bool.{false≢true, or_cases}
use Rattle.mw_logic.specs.Term.{Variable, RawTerm, variable, RawTerms}
use Rattle.mw_logic.specs.Signature.{Signature, Operator, Gather, Member, IsSortNamed}
use Rattle.mw_logic.specs.Substitution.{occurs, occurs_in}
use Rattle.mw_text.specs.Names.{NameItem}
use Rattle.mw_text.specs.Mixfix.{IsVariableName, Spells, declared, with_sort, numbered, identified, grouped, a_constant, prefixed, flattened, mixfix, SpellsArguments, last, more, SpellsNested, two, another, SpellsItems, no_items, over_piece, over_hole}
use Rattle.mw_logic.proofs.SameConditions.{same_variable-is}
use Rattle.mw_text.proofs.Joined.{Member-left, Member-right}

-- what each token of a text has
abbrev pub Each : (List ℕ → Type 0) → List (List ℕ) → Type 0
Each T text = (w : List ℕ) → Member w text → T w

module _ (T : List ℕ → Type 0) where
  pub left_of : (xs ys : List (List ℕ)) → Each T (xs ++ ys) → Each T xs
  left_of xs ys h w m = h w (Member-left w xs ys m)

  pub right_of : (xs ys : List (List ℕ)) → Each T (xs ++ ys) → Each T ys
  right_of xs ys h w m = h w (Member-right w xs ys m)

  pub behind : (x : List ℕ) (xs : List (List ℕ)) → Each T (x ∷ xs) → Each T xs
  behind x xs h w m = h w (inr m)

  -- what stands behind a head and a token
  pub past : (head : List (List ℕ)) (x : List ℕ) (inner : List (List ℕ)) → Each T (head ++ x ∷ inner) → Each T inner
  past head x inner h = behind x inner (right_of head (x ∷ inner) h)

module _ (sig : Signature) (variables : List Variable) (P : Variable → Type 0) (T : List ℕ → Type 0) (known : (x : Variable) → Member x variables → P x)
    (sorted : (x : Variable) (S : List ℕ) → IsSortNamed sig x.sort S → IsVariableName x.name → T (x.name ++ codes ":" ++ S) → P x) where
  same : (x y : Variable) → IsTrue (occurs x (variable y)) → P y → P x
  same x y o p = subst P (same_variable-is y x o) p

  -- in one of two parts
  either : (a b : Bool) → (a || b) ≡ true → {X : Type 0} → (a ≡ true → X) → (b ≡ true → X) → X
  either a b h f g = elim (or_cases a b h) [ inl e ↦ f e | inr e ↦ g e ]

  none : {X : Type 0} → false ≡ true → X
  none e = absurd (false≢true e)

  mutual
    -- what declared variables have, and those whose token with a sort has T, each variable of the term has
    pub spelled_variables : {t : RawTerm} {p : ℕ} {text : List (List ℕ)} → Spells sig variables t p text → Each T text → (x : Variable) → IsTrue (occurs x t) → P x
    spelled_variables (declared y m) h x o = same x y o (known y m)
    spelled_variables (with_sort y S n v) h x o = same x y o (sorted y S n v (h (y.name ++ codes ":" ++ S) (inl refl)))
    spelled_variables (numbered n token i e) h x o = none o
    spelled_variables (identified q i e) h x o = none o
    spelled_variables (grouped t p text s) h x o = spelled_variables s (behind T (codes "(") text (left_of T (codes "(" ∷ text) (codes ")" ∷ []) h)) x o
    spelled_variables (a_constant f o head is e k) h x i = none i
    spelled_variables (prefixed f o t ts head inner is k all) h x i = arguments_variables all (past T head (codes "(") inner (left_of T (head ++ codes "(" ∷ inner) (codes ")" ∷ []) h)) x i
    spelled_variables (flattened f o t u head inner is a k p K text s m kind rest) h x i =
        let front = head ++ codes "(" ∷ text in
        let whole : Each T (front ++ codes "," ∷ inner) = left_of T (front ++ codes "," ∷ inner) (codes ")" ∷ []) h in
        either (occurs x t) (occurs x u || false) i
        (λ e. spelled_variables s (past T head (codes "(") text (left_of T front (codes "," ∷ inner) whole)) x e)
        (λ r. either (occurs x u) false r (λ e. nested_variables rest (past T front (codes ",") inner whole) x e) none)
    spelled_variables (mixfix f o ts text is k items) h x i = items_variables items h x i

    arguments_variables : {Ks : List ℕ} {ts : RawTerms} {text : List (List ℕ)} → SpellsArguments sig variables Ks ts text → Each T text → (x : Variable) → IsTrue (occurs_in x ts) → P x
    arguments_variables (last K t p text s k) h x o = either (occurs x t) false o (λ e. spelled_variables s h x e) none
    arguments_variables (more K Ks t ts p text rest s k all) h x o =
        either (occurs x t) (occurs_in x ts) o (λ e. spelled_variables s (left_of T text (codes "," ∷ rest) h) x e)
        (λ e. arguments_variables all (past T text (codes ",") rest h) x e)

    nested_variables : {f : ℕ} {o : Operator} {u : RawTerm} {text : List (List ℕ)} → SpellsNested sig variables f o u text → Each T text → (x : Variable) → IsTrue (occurs x u) → P x
    nested_variables (two f o t u text all) h x i = arguments_variables all h x i
    nested_variables (another f o t u p K text rest s m k all) h x i =
        either (occurs x t) (occurs x u || false) i (λ e. spelled_variables s (left_of T text (codes "," ∷ rest) h) x e)
        (λ r. either (occurs x u) false r (λ e. nested_variables all (past T text (codes ",") rest h) x e) none)

    items_variables : {p : ℕ} {items : List NameItem} {gather : List Gather} {Ks : List ℕ} {ts : RawTerms} {text : List (List ℕ)} → SpellsItems sig variables p items gather Ks ts text → Each T text
        → (x : Variable) → IsTrue (occurs_in x ts) → P x
    items_variables (no_items p) h x o = none o
    items_variables (over_piece p y items gather Ks ts rest all) h x o = items_variables all (behind T y rest h) x o
    items_variables (over_hole p g K q t items gather Ks ts text rest s taken k all) h x o =
        either (occurs x t) (occurs_in x ts) o (λ e. spelled_variables s (left_of T text rest h) x e) (λ e. items_variables all (right_of T text rest h) x e)
