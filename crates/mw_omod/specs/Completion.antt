-- Completed rules of object modules. A rule names of each object a class, which stands for its subclasses too, and those attributes that it is about. (Maude
-- Manual, chapter 8, "Object-oriented modules", on the translation of rules; how fresh variables are named is this project's own.)
use Rattle.std.specs.Prelude.{◌≡◌, ◌<◌, ℕ, suc, List, [], ◌∷◌, ◌++◌, Bool, false, ◌||◌, nat_eq, cond, Some, IsTrue}
use Rattle.mw_logic.specs.Term.{RawTerm}
use Rattle.mw_logic.specs.Signature.{Signature, at_number}
use Rattle.mw_logic.specs.Axioms.{EqualModulo}
use Rattle.mw_logic.specs.Elements.{flat_arguments}
use Rattle.mw_logic.specs.Module.{Statement}
use Rattle.mw_least.specs.Conditions.{mentioned}
use Rattle.mw_omod.specs.declared.classes.Classes.{Classes}
use Rattle.mw_omod.specs.Objects.{Attribute, Written, IsWritten, IsOther, fresh, completed_object, joined_before}

abbrev pub has_attribute : List Attribute → ℕ → Bool
has_attribute [] f = false
has_attribute (x ∷ xs) f = nat_eq x.operator f || has_attribute xs f

-- those of ys that xs lack, in order
abbrev pub lacking : List Attribute → List Attribute → List Attribute
lacking xs [] = []
lacking xs (y ∷ ys) = cond (has_attribute xs y.operator) (lacking xs ys) (y ∷ lacking xs ys)

-- an attribute stands twice in the list
abbrev pub repeats : List Attribute → Bool
repeats [] = false
repeats (x ∷ xs) = has_attribute xs x.operator || repeats xs

-- each element becomes one of these, counted on from i
pub data AreCompleted (Becomes : ℕ → RawTerm → RawTerm → Type 0) : ℕ → List RawTerm → List RawTerm → Type 0 where
  no_element : (i : ℕ) → AreCompleted Becomes i [] []
  element : (i : ℕ) (t u : RawTerm) (ts us : List RawTerm) → Becomes i t u → AreCompleted Becomes (suc i) ts us → AreCompleted Becomes i (t ∷ ts) (u ∷ us)

module _ (K : Classes) where
  -- the elements of a side: those of its flattened top
  abbrev pub elements : RawTerm → List RawTerm
  elements t = flat_arguments K.union t

  -- element number i of the side is this object, written
  pub record HasObject (t : RawTerm) (i : ℕ) (w : Written) : Type 0 where
    pub element : RawTerm
    pub is_there : at_number (elements t) i ≡ Some element
    pub written : IsWritten K element w

  -- the side with its elements completed, and joined again
  pub record IsCompleted (Becomes : ℕ → RawTerm → RawTerm → Type 0) (t u : RawTerm) : Type 0 where
    pub before : List RawTerm
    pub last : RawTerm
    pub become : AreCompleted Becomes 1 (elements t) (before ++ last ∷ [])
    pub is : u ≡ joined_before K.union before last

module _ (sig : Signature) (K : Classes) where
  -- of one name, modulo the axioms
  abbrev pub AreOfOneName : Written → Written → Type 0
  AreOfOneName v w = EqualModulo sig v.name w.name

  -- two objects of one side have one name
  pub record HasTwice (t : RawTerm) : Type 0 where
    pub i : ℕ
    pub j : ℕ
    pub first : Written
    pub second : Written
    pub first_is : HasObject K t i first
    pub second_is : HasObject K t j second
    pub differ : i < j
    pub one_name : AreOfOneName first second

  -- an object has an attribute twice
  pub record HasRepetition (t : RawTerm) : Type 0 where
    pub i : ℕ
    pub object : Written
    pub is : HasObject K t i object
    pub repeated : IsTrue (repeats object.attributes)

  -- objects of one name have different class constants on the two sides
  pub record ChangesClass (left right : RawTerm) : Type 0 where
    pub i : ℕ
    pub j : ℕ
    pub before : Written
    pub after : Written
    pub before_is : HasObject K left i before
    pub after_is : HasObject K right j after
    pub one_name : AreOfOneName before after
    pub differ : before.class ≡ after.class → ⊥

  -- a bad object stands in these sides
  pub data IsBad (left right : RawTerm) : Type 0 where
    twice_left : HasTwice left → IsBad left right
    twice_right : HasTwice right → IsBad left right
    repetition_left : HasRepetition left → IsBad left right
    repetition_right : HasRepetition right → IsBad left right
    other_class : ChangesClass left right → IsBad left right

  -- What element number i of the left side becomes: of an object the class and the rest are variables, and it has an attribute with a fresh variable for each
  -- that only the object of this name on the right has.
  pub data LeftBecomes (right : RawTerm) (i : ℕ) : RawTerm → RawTerm → Type 0 where
    other_left : (t : RawTerm) → IsOther K t → LeftBecomes right i t t
    kept_object : (t : RawTerm) (v w : Written) (j : ℕ) → IsWritten K t v → HasObject K right j w → AreOfOneName v w
        → LeftBecomes right i t (completed_object K i v.name v.sort (v.attributes ++ fresh i (lacking v.attributes w.attributes)))
    removed_object : (t : RawTerm) (v : Written) → IsWritten K t v → ((j : ℕ) (w : Written) → HasObject K right j w → AreOfOneName v w → ⊥)
        → LeftBecomes right i t (completed_object K i v.name v.sort v.attributes)

  -- What an element of the right side becomes: an object whose name stands on the left has the variables of that one, and those of its attributes that it lacks.
  pub data RightBecomes (left : RawTerm) : RawTerm → RawTerm → Type 0 where
    other_right : (t : RawTerm) → IsOther K t → RightBecomes left t t
    changed_object : (t : RawTerm) (v w : Written) (i : ℕ) → IsWritten K t w → HasObject K left i v → AreOfOneName v w
        → RightBecomes left t (completed_object K i w.name v.sort (w.attributes ++ lacking w.attributes v.attributes))
    new_object : (t : RawTerm) (w : Written) → IsWritten K t w → ((i : ℕ) (v : Written) → HasObject K left i v → AreOfOneName v w → ⊥) → RightBecomes left t t

  -- The sides are these ones completed, in which no bad object stands.
  pub record AreCompletedSides (left right left' right' : RawTerm) : Type 0 where
    pub fine : IsBad left right → ⊥
    pub left_is : IsCompleted K (LeftBecomes right) left left'
    pub right_is : IsCompleted K (λ i. RightBecomes left) right right'

  -- the rule with completed sides
  pub record IsCompletion (e e' : Statement) : Type 0 where
    pub sides : AreCompletedSides e.left e.right e'.left e'.right
    pub fragments : e'.fragments ≡ e.fragments
    pub variables : e'.variables ≡ mentioned e'
    pub rule : e'.rule ≡ e.rule
    pub executable : e'.executable ≡ e.executable
    pub owise : e'.owise ≡ e.owise
