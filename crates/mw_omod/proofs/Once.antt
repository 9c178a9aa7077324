-- A rule is completed in one way.
use Rattle.std.proofs.Common.{◌≡◌, ◌∙◌, ◌<◌, ℕ, zero, suc, List, [], ◌∷◌, ◌++◌, Option, Some, None, slice_get, arith, refl, sym, ap, subst}
use Rattle.mw_logic.specs.Term.{RawTerm, binary}
use Rattle.mw_logic.specs.Signature.{Signature}
use Rattle.mw_logic.specs.Axioms.{EqualModulo}
use Rattle.mw_logic.specs.Module.{Fragment, Statement}
use Rattle.mw_logic.proofs.AxiomLaws.{trans, sym as reverse}
use Rattle.mw_position.specs.Variables.{met}
use Rattle.mw_least.specs.Conditions.{met_fragments}
use Rattle.mw_omod.specs.declared.classes.Classes.{Classes}
use Rattle.mw_omod.specs.Objects.{Written, IsWritten, joined_before, completed_object, fresh}
use Rattle.mw_omod.specs.Completion.{lacking, elements, HasObject, AreOfOneName, HasTwice, IsBad, twice_left, twice_right, AreCompleted, no_element, element, IsCompleted, LeftBecomes, other_left, kept_object, removed_object, RightBecomes, other_right, changed_object, new_object, IsCompletion}
use Rattle.mw_omod.specs.Laws.{CompletedOnce}
use Rattle.mw_omod.proofs.Sets.{written_once}

pub data IsOrdered (i j : ℕ) : Type 0 where
  below : i < j → IsOrdered i j
  equal : i ≡ j → IsOrdered i j
  above : j < i → IsOrdered i j

ordered : (i j : ℕ) → IsOrdered i j
ordered zero zero = equal refl
ordered zero (suc j) = below (omega arith)
ordered (suc i) zero = above (omega arith)
ordered (suc i) (suc j) = elim (ordered i j) [ below h ↦ below (omega (arith, h)) | equal h ↦ equal (ap suc h) | above h ↦ above (omega (arith, h)) ]

none_made : (B : ℕ → RawTerm → RawTerm → Type 0) (i : ℕ) (vs : List RawTerm) → AreCompleted B i [] vs → [] ≡ vs
none_made B i [] h = refl
none_made B i (v ∷ vs) h = elim h [ ]

same_lists : (B : ℕ → RawTerm → RawTerm → Type 0) → ((i : ℕ) (t u v : RawTerm) → B i t u → B i t v → u ≡ v) → {i : ℕ} {ts us : List RawTerm} → AreCompleted B i ts us → (vs : List RawTerm) → AreCompleted B i ts vs → us ≡ vs
same_lists B one (no_element i) vs h = none_made B i vs h
same_lists B one (element i t u ts us b rest) vs h = of (λ ws k. same_lists B one rest ws k) vs h
  where
    of : ((ws : List RawTerm) → AreCompleted B (suc i) ts ws → us ≡ ws) → (vs : List RawTerm) → AreCompleted B i (t ∷ ts) vs → u ∷ us ≡ vs
    of others [] h = elim h [ ]
    of others (v ∷ vs) (element j x y xs ys c more) = ap (λ z. z ∷ us) (one i t u v b c) ∙ ap (λ zs. v ∷ zs) (others vs more)

same_joined : (f : ℕ) (xs ys : List RawTerm) (a b : RawTerm) → xs ++ a ∷ [] ≡ ys ++ b ∷ [] → joined_before f xs a ≡ joined_before f ys b
same_joined f [] [] a b e = cc
same_joined f [] (y ∷ []) a b e = cc
same_joined f [] (y ∷ z ∷ ys) a b e = cc
same_joined f (x ∷ []) [] a b e = cc
same_joined f (x ∷ z ∷ xs) [] a b e = cc
same_joined f (x ∷ xs) (y ∷ ys) a b e =
    let h : x ≡ y = cc in
    let k : xs ++ a ∷ [] ≡ ys ++ b ∷ [] = cc in
    ap (λ z. binary f z (joined_before f xs a)) h ∙ ap (binary f y) (same_joined f xs ys a b k)

module _ (sig : Signature) (K : Classes) where
  -- an object is known by its element
  one_at : (t : RawTerm) (i : ℕ) (v w : Written) → HasObject K t i v → HasObject K t i w → v ≡ w
  one_at t zero v w h k = let n : None ≡ Some h.element = h.is_there in cc
  one_at t (suc i) v w h k =
      let e : Some h.element ≡ Some k.element = sym h.is_there ∙ k.is_there in
      let same : h.element ≡ k.element = cc in
      written_once K v w h.written (subst (λ u. IsWritten K u w) (sym same) k.written)

  -- and by its name, where no two of a side have one name
  one_named : (t : RawTerm) → (HasTwice sig K t → ⊥) → (i j : ℕ) (v w : Written) → HasObject K t i v → HasObject K t j w → AreOfOneName sig K v w → i ≡ j
  one_named t fine i j v w h k e = elim (ordered i j) [
    | below l ↦ absurd (fine (record { i = i; j = j; first = v; second = w; first_is = h; second_is = k; differ = l; one_name = e }))
    | equal l ↦ l
    | above l ↦ absurd (fine (record { i = j; j = i; first = w; second = v; first_is = k; second_is = h; differ = l; one_name = reverse e }))
  ]

  one_left : (right : RawTerm) → (HasTwice sig K right → ⊥) → (i : ℕ) (t a b : RawTerm) → LeftBecomes sig K right i t a → LeftBecomes sig K right i t b → a ≡ b
  one_left right fine i t a b (other_left s other) (other_left r also) = refl
  one_left right fine i t a b (other_left s other) (kept_object r v w j is there name) = absurd (other v is)
  one_left right fine i t a b (other_left s other) (removed_object r v is alone) = absurd (other v is)
  one_left right fine i t a b (kept_object s v w j is there name) (other_left r other) = absurd (other v is)
  one_left right fine i t a b (kept_object s v w j is there name) (removed_object r x was alone) = absurd (alone j w there (subst (λ y. AreOfOneName sig K y w) (written_once K v x is was) name))
  one_left right fine i t a b (removed_object s v is alone) (other_left r other) = absurd (other v is)
  one_left right fine i t a b (removed_object s v is alone) (kept_object r x w j was there name) = absurd (alone j w there (subst (λ y. AreOfOneName sig K y w) (written_once K x v was is) name))
  one_left right fine i t a b (removed_object s v is alone) (removed_object r x was also) = ap (λ (y : Written). completed_object K i y.name y.sort y.attributes) (written_once K v x is was)
  one_left right fine i t a b (kept_object s v w j is there name) (kept_object r x y k was here alike) =
      let first : v ≡ x = written_once K v x is was in
      let names : AreOfOneName sig K w y = trans (reverse name) (subst (λ z. AreOfOneName sig K z y) (sym first) alike) in
      let number : j ≡ k = one_named right fine j k w y there here names in
      let second : w ≡ y = one_at right k w y (subst (λ n. HasObject K right n w) number there) here in
      ap (λ (z : Written). completed_object K i z.name z.sort (z.attributes ++ fresh i (lacking z.attributes w.attributes))) first
      ∙ ap (λ (z : Written). completed_object K i x.name x.sort (x.attributes ++ fresh i (lacking x.attributes z.attributes))) second

  one_right : (left : RawTerm) → (HasTwice sig K left → ⊥) → (i : ℕ) (t a b : RawTerm) → RightBecomes sig K left t a → RightBecomes sig K left t b → a ≡ b
  one_right left fine i t a b (other_right s other) (other_right r also) = refl
  one_right left fine i t a b (other_right s other) (changed_object r v w j is there name) = absurd (other w is)
  one_right left fine i t a b (other_right s other) (new_object r w is alone) = refl
  one_right left fine i t a b (new_object s w is alone) (other_right r other) = refl
  one_right left fine i t a b (new_object s w is alone) (new_object r x was also) = refl
  one_right left fine i t a b (new_object s w is alone) (changed_object r v x j was there name) = absurd (alone j v there (subst (AreOfOneName sig K v) (written_once K x w was is) name))
  one_right left fine i t a b (changed_object s v w j is there name) (other_right r other) = absurd (other w is)
  one_right left fine i t a b (changed_object s v w j is there name) (new_object r x was alone) = absurd (alone j v there (subst (AreOfOneName sig K v) (written_once K w x is was) name))
  one_right left fine i t a b (changed_object s v w j is there name) (changed_object r x y k was here alike) =
      let second : w ≡ y = written_once K w y is was in
      let names : AreOfOneName sig K v x = trans name (reverse (subst (AreOfOneName sig K x) (sym second) alike)) in
      let number : j ≡ k = one_named left fine j k v x there here names in
      let first : v ≡ x = one_at left k v x (subst (λ n. HasObject K left n v) number there) here in
      ap (λ n. completed_object K n w.name v.sort (w.attributes ++ lacking w.attributes v.attributes)) number
      ∙ ap (λ (z : Written). completed_object K k z.name v.sort (z.attributes ++ lacking z.attributes v.attributes)) second
      ∙ ap (λ (z : Written). completed_object K k y.name z.sort (y.attributes ++ lacking y.attributes z.attributes)) first

  one_side : (B : ℕ → RawTerm → RawTerm → Type 0) → ((i : ℕ) (t u v : RawTerm) → B i t u → B i t v → u ≡ v) → (t u v : RawTerm) → IsCompleted K B t u → IsCompleted K B t v → u ≡ v
  one_side B one t u v h k = h.is ∙ same_joined K.union h.before k.before h.last k.last (same_lists B one h.become (k.before ++ k.last ∷ []) k.become) ∙ sym k.is

pub completed_once : CompletedOnce
completed_once sig K e a b h k =
    let left : a.left ≡ b.left = one_side sig K (LeftBecomes sig K e.right) (one_left sig K e.right (λ t. h.sides.fine (twice_right t))) e.left a.left b.left h.sides.left_is k.sides.left_is in
    let right : a.right ≡ b.right = one_side sig K (λ i. RightBecomes sig K e.left) (one_right sig K e.left (λ t. h.sides.fine (twice_left t))) e.right a.right b.right h.sides.right_is k.sides.right_is in
    let fragments : a.fragments ≡ b.fragments = h.fragments ∙ sym k.fragments in
    let rule : a.rule ≡ b.rule = h.rule ∙ sym k.rule in
    let executable : a.executable ≡ b.executable = h.executable ∙ sym k.executable in
    let owise : a.owise ≡ b.owise = h.owise ∙ sym k.owise in
    let variables : a.variables ≡ b.variables = h.variables ∙ ap (λ l. met_fragments (met (met [] l) a.right) a.fragments) left ∙ ap (λ r. met_fragments (met (met [] b.left) r) a.fragments) right ∙ ap (met_fragments (met (met [] b.left) b.right)) fragments ∙ sym k.variables in
    ap (λ l. let s : Statement = record { left = l; right = a.right; fragments = a.fragments; variables = a.variables; rule = a.rule; executable = a.executable; owise = a.owise } in s) left
    ∙ ap (λ r. let s : Statement = record { left = b.left; right = r; fragments = a.fragments; variables = a.variables; rule = a.rule; executable = a.executable; owise = a.owise } in s) right
    ∙ ap (λ C. let s : Statement = record { left = b.left; right = b.right; fragments = C; variables = a.variables; rule = a.rule; executable = a.executable; owise = a.owise } in s) fragments
    ∙ ap (λ xs. let s : Statement = record { left = b.left; right = b.right; fragments = b.fragments; variables = xs; rule = a.rule; executable = a.executable; owise = a.owise } in s) variables
    ∙ ap (λ r. let s : Statement = record { left = b.left; right = b.right; fragments = b.fragments; variables = b.variables; rule = r; executable = a.executable; owise = a.owise } in s) rule
    ∙ ap (λ x. let s : Statement = record { left = b.left; right = b.right; fragments = b.fragments; variables = b.variables; rule = b.rule; executable = x; owise = a.owise } in s) executable
    ∙ ap (λ o. let s : Statement = record { left = b.left; right = b.right; fragments = b.fragments; variables = b.variables; rule = b.rule; executable = b.executable; owise = o } in s) owise
