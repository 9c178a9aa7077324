-- What the code keeps of the elements of a side.
use Rattle.std.specs.Prelude.{◌≡◌, ◌⊎◌, ℕ, List, [], ◌∷◌, ◌++◌, map, Option, Some, MatchOption, slice_get, IsTrue, ⊤}
use denote.Ref.{Bor}
use Rattle.mw_logic.specs.Term.{RawTerm}
use Rattle.mw_logic.specs.Signature.{Signature, IsRawTerm}
use Rattle.mw_logic.specs.NormalForm.{normal_form}
use Rattle.mw_term.specs.declared.raw.Raw.{Raw}
use Rattle.mw_term.specs.Raws.{raw_term}
use Rattle.mw_omod.specs.declared.classes.Classes.{Classes}
use Rattle.mw_omod.specs.declared.objects.Attribute as kept_attribute
use Rattle.mw_omod.specs.declared.objects.Object.{Object}
use Rattle.mw_omod.specs.declared.objects.Element.{Element}
use Rattle.mw_omod.specs.Objects.{Attribute, Written, IsWritten, IsOther, fresh}
use Rattle.mw_omod.specs.Completion.{elements, lacking, repeats}

-- what references to terms see
abbrev pub all_seen : List (Bor Raw) → List RawTerm
all_seen rs = map (λ (r : Bor Raw). raw_term r.now) rs

-- the canonical forms of terms
abbrev pub forms_of : Signature → List Raw → List RawTerm
forms_of sig ts = map (λ (t : Raw). normal_form sig (raw_term t)) ts

abbrev pub seen_attribute : kept_attribute.Attribute → Attribute
seen_attribute a = record { operator = a.operator; sort = a.sort; value = raw_term a.value.now }

abbrev pub seen_attributes : List kept_attribute.Attribute → List Attribute
seen_attributes xs = map seen_attribute xs

abbrev pub seen_object : Object → Written
seen_object o = record { name = raw_term o.name.now; class = o.class; sort = o.sort; attributes = seen_attributes o.attributes.items }

-- the object that a term is written as, kept with the canonical form of its name
pub record IsKeptObject (sig : Signature) (K : Classes) (t : RawTerm) (o : Object) : Type 0 where
  pub written : IsWritten K t (seen_object o)
  pub form : o.form ≡ normal_form sig (raw_term o.name.now)
  pub raw : IsRawTerm sig (raw_term o.name.now)

-- the term is kept as an object where it is written as one
abbrev pub IsObjectOf : Signature → Classes → RawTerm → Option Object → Type 0
IsObjectOf sig K t o = MatchOption o (IsOther K t) (IsKeptObject sig K t)

abbrev pub IsKept : Signature → Classes → Element → Type 0
IsKept sig K e = IsObjectOf sig K (raw_term e.term.now) e.object

abbrev pub AreKept : Signature → Classes → List Element → Type 0
AreKept sig K [] = ⊤
AreKept sig K (e ∷ es) = IsKept sig K e × AreKept sig K es

abbrev pub AreRaw : Signature → List RawTerm → Type 0
AreRaw sig [] = ⊤
AreRaw sig (t ∷ ts) = IsRawTerm sig t × AreRaw sig ts

-- the terms of elements
abbrev pub terms_seen : List Element → List RawTerm
terms_seen es = map (λ (e : Element). raw_term e.term.now) es

-- these are the elements of the side
pub record AreOfSide (sig : Signature) (K : Classes) (t : RawTerm) (es : List Element) : Type 0 where
  pub terms : terms_seen es ≡ elements K t
  pub kept : AreKept sig K es

-- what stands at this index is this object
pub record HasAt (es : List Element) (i : ℕ) (o : Object) : Type 0 where
  pub element : Element
  pub is_there : slice_get es i ≡ Some element
  pub object : element.object ≡ Some o

-- a property of the object that an element is
abbrev pub OfObject : (Object → Type 0) → Option Object → Type 0
OfObject P o = MatchOption o ⊥ P

-- an object among the elements has it
abbrev pub OneHas : (Object → Type 0) → List Element → Type 0
OneHas P [] = ⊥
OneHas P (e ∷ es) = OfObject P e.object ⊎ OneHas P es

-- two of them have one name
abbrev pub IsNamedTwice : List Element → Type 0
IsNamedTwice [] = ⊥
IsNamedTwice (e ∷ es) = OfObject (λ v. OneHas (λ w. w.form ≡ v.form) es) e.object ⊎ IsNamedTwice es

-- has an attribute twice
abbrev pub Repeats : Object → Type 0
Repeats o = IsTrue (repeats (seen_attributes o.attributes.items))

-- has this object's name and another class
abbrev pub IsOfOtherClass : Object → Object → Type 0
IsOfOtherClass v w = (w.form ≡ v.form) × (w.class ≡ v.class → ⊥)

-- the attributes of a completed object of the left side, by the one of its name on the right; and of one on the right, by the one of its name on the left
abbrev pub kept_attributes : ℕ → Written → Written → List Attribute
kept_attributes i v w = v.attributes ++ fresh i (lacking v.attributes w.attributes)

abbrev pub changed_attributes : Written → Written → List Attribute
changed_attributes w v = w.attributes ++ lacking w.attributes v.attributes
