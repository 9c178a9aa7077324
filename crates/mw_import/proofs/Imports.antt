-- Imports, one after the other.
use Rattle.std.proofs.Common.{◌≡◌, ◌∙◌, ℕ, zero, suc, ◌<◌, List, [], ◌∷◌, ◌++◌, map, flat_map, length, get_or, drop, drop-cons, ◌+◌, Bor, Option, Some, refl, sym, ap, subst, slice_get, arith}
use Rattle.std.proofs.lemmas.Grind.{flat_map-append}
use Rattle.std.proofs.lemmas.Option.{same_Some}
use Rattle.mw_module.specs.declared.faults.Fault.{Fault}
use Rattle.mw_lex.specs.declared.token.Token.{Token}
use Rattle.mw_module.specs.declared.forms.Form.{Form}
use Rattle.mw_module.specs.declared.forms.Form.TheVariants as form
use Rattle.mw_module.specs.Forms.{shape_of}
use Rattle.mw_module.specs.Units.{SeenLined}
use Rattle.mw_import.specs.Flat.{FlatUnit, ImportOf, number_named, imports_in, imports_of, brought_by, first_unit, IsFlat, IsThere, IsWrong, ImportFault}
use Rattle.mw_import.specs.Gathering.{gathered, IsClosed, IsOf}
use Rattle.mw_import.proofs.Gathered.{gathered-append, gathered-firsts}

abbrev named_by : List FlatUnit → List ImportOf → List (Option ℕ)
named_by us is = map (λ (i : ImportOf). number_named us i.name) is

-- The imports before the statements that are left are there, and these units are what they bring.
pub record IsOnTheWay (us : List FlatUnit) (own : List ℕ) (all rest : List SeenLined) (there : List ℕ) : Type 0 where
  pub flat : (ks : List ℕ) → named_by us (imports_of rest) ≡ map Some ks → IsFlat us all (gathered there (flat_map (brought_by us) ks))
  pub fault : (f : Fault) → ImportFault us own rest f → ImportFault us own all f
  pub closed : IsClosed us there

-- where what the first unit brings is there
pub at_start : (us : List FlatUnit) (own : List ℕ) (all : List SeenLined) (there : List ℕ) → there ≡ gathered [] (flat_map (brought_by us) (first_unit us)) → IsClosed us there
    → IsOnTheWay us own all all there
at_start us own all there first closed = record {
  flat = λ ks e. record {
    numbers = ks;
    named = e;
    flat = ap (λ js. gathered js (flat_map (brought_by us) ks)) first
        ∙ sym (gathered-append [] (flat_map (brought_by us) (first_unit us)) (flat_map (brought_by us) ks))
        ∙ ap (gathered []) (sym (flat_map-append (brought_by us) (first_unit us) ks)) ∙ gathered-firsts (flat_map (brought_by us) (first_unit us ++ ks));
  };
  fault = λ f h. h;
  closed = closed;
}

pub at_end : (us : List FlatUnit) (own : List ℕ) (all : List SeenLined) (there : List ℕ) → IsOnTheWay us own all [] there → IsFlat us all there
at_end us own all there w = w.flat [] refl

module _ (us : List FlatUnit) (own : List ℕ) (all : List SeenLined) (s : SeenLined) (rest : List SeenLined) (there : List ℕ) (w : IsOnTheWay us own all (s ∷ rest) there) where
  -- a statement that imports nothing
  pub passed : imports_in s.line s.shape ≡ [] → IsOnTheWay us own all rest there
  passed none =
      let same : imports_of (s ∷ rest) ≡ imports_of rest = ap (λ is. is ++ imports_of rest) none in
      record {
        flat = λ ks e. w.flat ks (ap (named_by us) same ∙ e);
        fault = λ f h. w.fault f (record {
          place = h.place;
          wrong = h.wrong;
          is_there = ap (λ is. slice_get is h.place) same ∙ h.is_there;
          is = h.is;
          before = λ i e lt at. h.before i e lt (ap (λ is. slice_get is i) (sym same) ∙ at);
        });
        closed = w.closed;
      }

  module _ (m : ImportOf) (is : imports_in s.line s.shape ≡ m ∷ []) where
    same : imports_of (s ∷ rest) ≡ m ∷ imports_of rest
    same = ap (λ is. is ++ imports_of rest) is

    before : IsThere us own m → (place : ℕ) → ((i : ℕ) (e : ImportOf) → i < place → slice_get (imports_of rest) i ≡ Some e → IsThere us own e)
        → (i : ℕ) (e : ImportOf) → i < suc place → slice_get (m ∷ imports_of rest) i ≡ Some e → IsThere us own e
    before here place more zero e lt at = subst (IsThere us own) (same_Some m e at) here
    before here place more (suc i) e lt at = more i e (omega (arith, lt)) at

    -- one that imports a unit
    pub led : (k : ℕ) (new : List ℕ) → IsOf us own m.name k → new ≡ gathered there (brought_by us k) → IsClosed us new → IsOnTheWay us own all rest new
    led k new of more closed = record {
      flat = λ ks e. subst (IsFlat us all)
          (gathered-append there (brought_by us k) (flat_map (brought_by us) ks) ∙ ap (λ n. gathered n (flat_map (brought_by us) ks)) (sym more))
          (w.flat (k ∷ ks) (ap (named_by us) same ∙ ap (λ o. o ∷ named_by us (imports_of rest)) of.1 ∙ ap (λ os. Some k ∷ os) e));
      fault = λ f h. w.fault f (record {
        place = suc h.place;
        wrong = h.wrong;
        is_there = ap (λ is. slice_get is (suc h.place)) same ∙ h.is_there;
        is = h.is;
        before = λ i e lt at. before (record { other = of.0; number = k; named = of.1 }) h.place h.before i e lt (ap (λ is. slice_get is i) (sym same) ∙ at);
      });
      closed = closed;
    }

    -- one that is at fault
    pub wrong : (f : Fault) → IsWrong us own m f → ImportFault us own all f
    wrong f bad = w.fault f (record {
      place = 0;
      wrong = m;
      is_there = ap (λ is. slice_get is 0) same;
      is = bad;
      before = λ i e lt at. absurd (omega (arith, lt));
    })

-- a form that is no import imports nothing
pub no_import : (line : ℕ) (f : Form) → ((m : List ℕ) → f ≡ form.Import m → ⊥) → imports_in line (shape_of f) ≡ []
no_import line (form.Sorts names) h = refl
no_import line (form.Subsorts groups) h = refl
no_import line (form.Operators names args result attributes) h = refl
no_import line (form.Variables names sort) h = refl
no_import line (form.Statement rule left right fragments executable) h = refl
no_import line (form.Import m) h = absurd (h m refl)
no_import line (form.Class class as_) h = refl

-- what is left at a place
pub left_at : {X : Type 0} (xs : List X) (i : ℕ) (x : X) → i < length xs → x ≡ get_or xs i x → drop i xs ≡ x ∷ drop (i + 1) xs
left_at xs i x inside is =
    let next : suc i ≡ i + 1 = omega arith in
    drop-cons xs i x inside ∙ ap (λ y. y ∷ drop (suc i) xs) (sym is) ∙ ap (λ n. x ∷ drop n xs) next
