-- A proof that may stand under the operator may be made there beside any members.
use Rattle.std.specs.Prelude.{◌≡◌, ◌⊎◌, ◌≤◌, ℕ, [], ◌∷◌, ◌++◌, Bool, true, false, ◌||◌, Option, Some, None, refl}
use Rattle.std.proofs.Common.{inl, inr, sym, subst, ap, ◌∙◌, arith, append-nil}
use Rattle.std.proofs.lemmas.Bool.{and_parts}
use Rattle.mw_logic.specs.Term.{RawTerm, RawTerms, nil, cons, join, is_ground, are_ground, Context, plug}
use Rattle.mw_logic.specs.Signature.{Signature, Identity, constant_of, numeral_of, IsRawTerm}
use Rattle.mw_logic.specs.Accepted.{IsAccepted}
use Rattle.mw_logic.specs.Kinds.{is_successor}
use Rattle.mw_logic.specs.Parts.{is_assoc, all_nested, nest, chain, IsAdmitted, IsFrozen}
use Rattle.mw_logic.specs.TermOrder.{sorted_terms}
use Rattle.mw_logic.specs.NormalForm.{is_comm, identity_of, elements, rebuilt, applied_in, normal_form, normal_forms, height, highest, has_largest, some_largest}
use Rattle.mw_logic.specs.Module.{Module}
use Rattle.mw_logic.proofs.Admitted.{admitted-iff}
use Rattle.mw_logic.proofs.Canonical.{Each, Each-join, Each-arranged, IsCanonical, AreCanonical, all_canonical}
use Rattle.mw_logic.proofs.CanonicalTerms.{all_equal, all_fixed, normal_form-chain, not_successor}
use Rattle.mw_logic.proofs.Replacing.{normals-join}
use Rattle.mw_logic.proofs.Successor.{is_successor-sound}
use Rattle.mw_deduction.specs.Places.{context_of, frame}
use Rattle.mw_deduction.specs.Standing.{Open, filled, context_at, round}
use Rattle.mw_deduction.specs.Runs.{by_statement, by_row, Dones, none, more}
use Rattle.mw_deduction.specs.Replay.{opened}
use Rattle.mw_deduction.specs.Under.{IsFitUnder, AllMayBeUnder}
use Rattle.mw_deduction.proofs.Largest.{largest_applied}
use Rattle.mw_deduction.proofs.PlaceLaws.{context_of-plug}
use Rattle.mw_multiset.specs.Together.{IsOpenOperator, IsMember, IsShallow, StandsUnder, AllUnder}
use Rattle.mw_multiset.proofs.Together.{each_weaker, filled_is}
use Rattle.mw_multiset.proofs.Reached.{IsReached, AllReached, plug_raw}

chain_ground : (f : ℕ) (t : RawTerm) (us : RawTerms) → is_ground t ≡ true → are_ground us ≡ true → is_ground (chain f t us) ≡ true
chain_ground f t nil h k = h
chain_ground f t (cons u us) h k =
    let (x, y) = and_parts (is_ground u) (are_ground us) k in
    rw (h, chain_ground f u us x y) refl

nest_ground : (f : ℕ) (ts : RawTerms) → are_ground ts ≡ true → is_ground (nest true f ts) ≡ true
nest_ground f nil h = refl
nest_ground f (cons t ts) h = let (x, y) = and_parts (is_ground t) (are_ground ts) h in chain_ground f t ts x y

ground-join : (ts us : RawTerms) → are_ground ts ≡ true → are_ground us ≡ true → are_ground (join ts us) ≡ true
ground-join nil us h k = k
ground-join (cons t ts) us h k = let (x, y) = and_parts (is_ground t) (are_ground ts) h in rw (x, ground-join ts us y k) refl

-- f on terms that are low is not too high
highest_low : (ts : RawTerms) → Each (λ x. height x ≤ 999) ts → highest ts ≤ 999
highest_low nil h = omega arith
highest_low (cons t ts) h = let a = h.0 in omega (arith, a, highest_low ts h.1)

low_rebuilt : (e : Option Identity) (f : ℕ) (ts : RawTerms) → Each (λ x. height x ≤ 999) ts → height (rebuilt e f ts) ≤ 1000
low_rebuilt None f nil h = omega arith
low_rebuilt (Some (constant_of c)) f nil h = omega arith
low_rebuilt (Some (numeral_of n)) f nil h = omega arith
low_rebuilt e f (cons t nil) h = let a = h.0 in omega (arith, a)
low_rebuilt e f (cons t (cons u us)) h = let a = highest_low (cons t (cons u us)) h in omega (arith, a)

some_largest-join : (sig : Signature) (ts us : RawTerms) → some_largest sig ts ≡ false → some_largest sig us ≡ false → some_largest sig (join ts us) ≡ false
some_largest-join sig nil us h k = k
some_largest-join sig (cons t ts) us h k = by_test (has_largest sig t) (some_largest sig ts) h (λ q. some_largest-join sig ts us q k)
  where
    by_test : (b c : Bool) → (b || c) ≡ false → (c ≡ false → some_largest sig (join ts us) ≡ false) → (b || some_largest sig (join ts us)) ≡ false
    by_test true c q r = cc
    by_test false c q r = r q

none_largest : (sig : Signature) (f : ℕ) (ts : RawTerms) → Each (IsMember sig f) ts → some_largest sig ts ≡ false
none_largest sig f nil h = refl
none_largest sig f (cons t ts) h = let s = h.0.small in rw (s, none_largest sig f ts h.1) refl

all_ground : (sig : Signature) (f : ℕ) (ts : RawTerms) → Each (IsMember sig f) ts → are_ground (all_nested sig ts) ≡ true
all_ground sig f nil h = refl
all_ground sig f (cons t ts) h = let g = h.0.ground in rw (g, all_ground sig f ts h.1) refl

frozen-append : (sig : Signature) (C D : Context) → IsFrozen sig (C ++ D) → IsFrozen sig C ⊎ IsFrozen sig D
frozen-append sig [] D h = inr h
frozen-append sig (c ∷ C) D (inl h) = inl (inl h)
frozen-append sig (c ∷ C) D (inr h) = elim (frozen-append sig C D h) [ inl x ↦ inl (inr x) | inr x ↦ inr x ]

not_frozen : (sig : Signature) (f : ℕ) → IsOpenOperator sig f → (b a : RawTerms) → IsFrozen sig (context_of true f b a) → ⊥
not_frozen sig f free nil nil h = h
not_frozen sig f free nil (cons t ts) (inl x) = free _ x
not_frozen sig f free nil (cons t ts) (inr x) = x
not_frozen sig f free (cons b bs) a h = elim (frozen-append sig (context_of true f bs a) (frame f (cons b nil) nil ∷ []) h) [ inl x ↦ not_frozen sig f free bs a x | inr x ↦ elim x [ inl y ↦ free _ y | inr y ↦ y ] ]

module _ (sig : Signature) (ok : IsAccepted sig) (f : ℕ) (assoc : is_assoc sig f ≡ true) (comm : is_comm sig f ≡ true) where
  abbrev Members : RawTerms → Type 0
  Members = Each (IsMember sig f)

  canonical_members : (ts : RawTerms) → Members ts → AreCanonical sig ts
  canonical_members ts h = all_canonical sig ts (each_weaker (IsMember sig f) (IsCanonical sig) (λ x k. k.canonical) ts h)

  low_members : (ts : RawTerms) → Members ts → Each (λ x. height x ≤ 999) ts
  low_members ts h = each_weaker (IsMember sig f) (λ x. height x ≤ 999) (λ x k. k.low) ts h

  module _ (b a : RawTerms) (hb : Members b) (ha : Members a) where
    abbrev o : Open
    o = opened f b a

    -- the term in the hole, nested
    plugged : (u : RawTerm) → plug (round sig (o ∷ [])) u ≡ nest true f (join (all_nested sig b) (cons u (all_nested sig a)))
    plugged u =
        ap (λ C. plug C u) (append-nil (context_at sig o)) ∙ sym (context_of-plug (is_assoc sig f) f (all_nested sig b) (all_nested sig a) u) ∙ ap (λ m. nest m f (join (all_nested sig b) (cons u (all_nested sig a)))) assoc

    plugged_form : (u : RawTerm) → normal_form sig (plug (round sig (o ∷ [])) u) ≡ filled sig o (normal_form sig u)
    plugged_form u = ap (normal_form sig) (plugged u) ∙ of_list (all_nested sig b) ∙ ap (applied_in sig f) inner
      where
        of_list : (B : RawTerms) → normal_form sig (nest true f (join B (cons u (all_nested sig a)))) ≡ applied_in sig f (normal_forms sig (join B (cons u (all_nested sig a))))
        of_list nil = normal_form-chain sig ok f assoc u (all_nested sig a)
        of_list (cons y ys) = normal_form-chain sig ok f assoc y (join ys (cons u (all_nested sig a)))

        inner : normal_forms sig (join (all_nested sig b) (cons u (all_nested sig a))) ≡ join b (cons (normal_form sig u) a)
        inner =
            let eb = all_equal sig ok b (all_fixed sig ok b (canonical_members b hb)) in
            let ea = all_equal sig ok a (all_fixed sig ok a (canonical_members a ha)) in
            normals-join sig (all_nested sig b) (cons u (all_nested sig a)) ∙ rw (eb, ea) refl

    plugged_ground : (u : RawTerm) → is_ground u ≡ true → is_ground (plug (round sig (o ∷ [])) u) ≡ true
    plugged_ground u g =
        ap is_ground (plugged u) ∙ nest_ground f (join (all_nested sig b) (cons u (all_nested sig a)))
        (ground-join (all_nested sig b) (cons u (all_nested sig a)) (all_ground sig f b hb) (let k : are_ground (all_nested sig a) ≡ true = all_ground sig f a ha in rw (g, k) refl))

    low_filled : (v : RawTerm) → IsShallow sig f v → height (filled sig o v) ≤ 1000
    low_filled v h =
        let all : RawTerms = join (elements (identity_of sig f) f v) (join b a) in
        let low : Each (λ x. height x ≤ 999) all = Each-join (λ x. height x ≤ 999) (elements (identity_of sig f) f v) (join b a) h (Each-join (λ x. height x ≤ 999) b a (low_members b hb) (low_members a ha)) in
        subst (λ x. height x ≤ 1000) (sym (filled_is sig ok f assoc comm b a v hb ha)) (low_rebuilt (identity_of sig f) f (sorted_terms all) (Each-arranged (λ x. height x ≤ 999) true all low))

    no_successor : is_successor sig f ≡ false
    no_successor = by_test (is_successor sig f) refl
      where
        by_test : (m : Bool) → is_successor sig f ≡ m → is_successor sig f ≡ false
        by_test false q = q
        by_test true q = absurd (not_successor sig ok f assoc (is_successor-sound sig f q))

    small_filled : (v : RawTerm) → has_largest sig v ≡ false → has_largest sig (filled sig o v) ≡ false
    small_filled v h =
        let n = no_successor in
        let s : some_largest sig (join b (cons v a)) ≡ false = some_largest-join sig b (cons v a) (none_largest sig f b hb) (let k = none_largest sig f a ha in rw (h, k) refl) in
        largest_applied sig ok f (join b (cons v a)) ∙ rw (n, s) refl

    admitted_under : (u : RawTerm) → IsRawTerm sig u → IsRawTerm sig (plug (round sig (o ∷ [])) u) → IsAdmitted sig u → IsShallow sig f (normal_form sig u) → IsAdmitted sig (plug (round sig (o ∷ [])) u)
    admitted_under u ru rp h s =
        let (g, l, m) = (admitted-iff sig ok ru).0 h in
        let form = plugged_form u in
        (admitted-iff sig ok rp).1 (
          plugged_ground u g,
          subst (λ x. height x ≤ 1000) (sym form) (low_filled (normal_form sig u) s),
          ap (has_largest sig) form ∙ small_filled (normal_form sig u) m,
        )

    free_here : IsOpenOperator sig f → IsFrozen sig (round sig (o ∷ [])) → ⊥
    free_here free h =
        not_frozen sig f free (all_nested sig b) (all_nested sig a)
        (subst (λ m. IsFrozen sig (context_of m f (all_nested sig b) (all_nested sig a))) assoc (subst (IsFrozen sig) (append-nil (context_at sig o)) h))

    fit_under : (s t u : RawTerm) → IsRawTerm sig (plug (round sig (o ∷ [])) s) → IsReached sig s u → StandsUnder sig f t u → IsFitUnder sig (o ∷ []) t u
    fit_under s t u raw r h = record {
      seen = record { not_identity = λ q. h.seen; not_numeral = λ n k e l. not_successor sig ok f assoc k };
      admitted = admitted_under u r.raw (plug_raw sig (round sig (o ∷ [])) s u (λ x. (r.raw, r.kinds)) raw) r.admitted h.shallow;
    }

-- a run that may stand under f may be made there
pub stands_beside : (M : Module) (ok : IsAccepted M.signature) (f : ℕ) (assoc : is_assoc M.signature f ≡ true) (comm : is_comm M.signature f ≡ true) → IsOpenOperator M.signature f
    → (b a : RawTerms) → Each (IsMember M.signature f) b → Each (IsMember M.signature f) a → (s : RawTerm) → IsRawTerm M.signature (plug (round M.signature (opened f b a ∷ [])) s)
    → (ds : Dones) → AllReached M.signature s ds → AllUnder M.signature f ds → AllMayBeUnder M (opened f b a ∷ []) ds
stands_beside M ok f assoc comm free b a hb ha s raw none r h = tt
stands_beside M ok f assoc comm free b a hb ha s raw (more (by_statement k p rs t u) ds) r h = (
  (fit_under M.signature ok f assoc comm b a hb ha s t u raw r.0 h.0, λ e there rule. free_here M.signature ok f assoc comm b a hb ha free),
  stands_beside M ok f assoc comm free b a hb ha s raw ds r.1 h.1,
)
stands_beside M ok f assoc comm free b a hb ha s raw (more (by_row t u) ds) r h = (fit_under M.signature ok f assoc comm b a hb ha s t u raw r.0 h.0, stands_beside M ok f assoc comm free b a hb ha s raw ds r.1 h.1)
