-- What is known of the operators and variables that a module declares.
use Rattle.std.proofs.Common.{◌≡◌, ◌≢◌, ◌∙◌, ◌<◌, ◌⊎◌, ◌&&◌, ◌||◌, ◌==◌, ℕ, zero, suc, List, [], ◌∷◌, length, map, Bool, true, false, Option, Some, None, IfSome, All, if◌then◌else◌, refl, sym, ap, subst, inr, ⊎_elim, arith}
use Rattle.std.specs.Prelude.{codes}
use Rattle.std.proofs.lemmas.Bool.{and_parts, eqb-true}
use Rattle.std.proofs.lemmas.List.{length-map}
use Rattle.std.proofs.lemmas.List.Elements.{All-nil, All-cons, All-head, All-tail}
use Rattle.mw_logic.specs.Signature.{Signature, Operator, Declaration, less, most}
use Rattle.mw_logic.specs.Preregular.{IsSortOf, IsDeclarationOf}
use Rattle.mw_text.specs.Names.{NameItem, piece, hole, items_of, count_holes, name_of_tokens}
use Rattle.mw_text.proofs.Spellings.{spellings_read}
use Rattle.mw_module.specs.Sortings.{WrittenSort}
use Rattle.mw_module.specs.Attributes.{Attributes}
use Rattle.mw_module.specs.Forms.{Shape, Sorts, Subsorts, Operators, Variables, Statement, Import, Class}
use Rattle.mw_module.specs.Known.{IsNameFor, IsPrecedence, IsGather, AreAttributes, IsKnown, AreKnown}
use Rattle.mw_module.proofs.Formed.{joined_known}
use Rattle.mw_module.specs.Units.{SeenLined}
use Rattle.mw_declare.specs.declared.built.Reached.{Reached}
use Rattle.mw_declare.specs.declared.built.Truth.{Truth}
use Rattle.mw_declare.specs.Built.{built_in}
use Rattle.mw_declare.specs.Hierarchy.{Hierarchy, hierarchy_of, kind_in}
use Rattle.mw_declare.specs.Grouping.{begins_open, ends_open, gather_behind, is_infix, default_gather, default_precedence, gather_of_mark, precedence_of, gather_of}
use Rattle.mw_declare.specs.Meaning.{Name}
use Rattle.mw_declare.specs.Operators.{rank_of, Profile, same_profile, Declared, declared_again, choice_of, test_of, operators_of, operator_of, signature_of}
use Rattle.mw_declare.specs.Declarations.{unknown_in_all}
use Rattle.mw_declare.proofs.Folding.{declared_once, HasNamed, HasEach, HasEachLined, all_operators}
use Rattle.mw_declare.proofs.Holes.{with_holes, without_holes}
use Rattle.mw_declare.proofs.Ranked.{same_args}
use Rattle.mw_declare.proofs.Sorted.{HasItsSortsIn, operators_sorted}

-- these are the items of a name: neither nothing nor a hole alone, with no holes or one for each argument
pub record AreItemsFor (arity : ℕ) (items : List NameItem) : Type 0 where
  pub some : items ≢ []
  pub no_hole : items ≢ hole ∷ []
  pub fits : (count_holes items ≡ 0) ⊎ (count_holes items ≡ arity)

-- an operator of which this is said
record IsSaid (o : Declared) : Type 0 where
  name : AreItemsFor (length o.profile.args) (items_of o.profile.spelling)
  attributes : AreAttributes (length o.profile.args) o.attributes

said_again : (o : Declared) (p : Profile) (d : Declaration) (said : Attributes) → same_profile p o.profile ≡ true → IsSaid o → IsSaid (declared_once p d said) → IsSaid (declared_again o d said)
said_again o p d said e this one =
    let a : AreAttributes (length o.profile.args) said = subst (λ (args : List ℕ). AreAttributes (length args) said) (same_args p o.profile e) one.attributes in
    record { name = this.name; attributes = joined_known (length o.profile.args) o.attributes said this.attributes a }

-- the items of a name's prefix spelling
spelled_items : (arity : ℕ) (name : List Name) → IsNameFor arity name → AreItemsFor arity (items_of (name_of_tokens name))
spelled_items arity name h = subst (AreItemsFor arity) (sym (spellings_read name)) (record { some = h.some; no_hole = h.no_hole; fits = h.fits })

abbrev IsKnownLined : SeenLined → Type 0
IsKnownLined s = IsKnown s.shape

module _ (h : Hierarchy) where
  abbrev Says : Shape → Type 0
  Says s = HasEach IsSaid said_again h s

  said_names : (names : List (List Name)) (args : List WrittenSort) (result : WrittenSort) (said : Attributes) → All (IsNameFor (length (rank_of h args result).args)) names
      → AreAttributes (length (rank_of h args result).args) said → Says (Operators names args result said)
  said_names [] args result said named known = All-nil (HasNamed IsSaid said_again (rank_of h args result) said)
  said_names (name ∷ names) args result said named known =
      let n : ℕ = length (rank_of h args result).args in
      All-cons (HasNamed IsSaid said_again (rank_of h args result) said) name names (record { name = spelled_items n name (All-head (IsNameFor n) name names named); attributes = known }) (said_names names args result said (All-tail (IsNameFor n) name names named) known)

  said_shape : (s : Shape) → IsKnown s → Says s
  said_shape (Sorts names) known = tt
  said_shape (Subsorts groups) known = tt
  said_shape (Operators names args result said) known =
      let n : length args ≡ length (map (kind_in h) args) = sym (length-map args (kind_in h)) in
      said_names names args result said (subst (λ (k : ℕ). All (IsNameFor k) names) n known.names) (subst (λ (k : ℕ). AreAttributes k said) n known.attributes)
  said_shape (Variables names S) known = tt
  said_shape (Statement rule left right fragments executable) known = tt
  said_shape (Import m) known = tt
  said_shape (Class c as_) known = tt

  said_lined : (ss : List SeenLined) → AreKnown ss → All (HasEachLined IsSaid said_again h) ss
  said_lined [] known = All-nil (HasEachLined IsSaid said_again h)
  said_lined (s ∷ ss) known = All-cons (HasEachLined IsSaid said_again h) s ss (said_shape s.shape (All-head IsKnownLined s ss known)) (said_lined ss (All-tail IsKnownLined s ss known))

-- those that each kind has
said_choice : (t : Truth) (K : ℕ) → let g = choice_of t K in IsSaid (declared_once g.profile g.declaration g.attributes)
said_choice t K = record {
  name = record { some = λ e. cc; no_hole = λ e. cc; fits = inr refl };
  attributes = record { precedence = omega arith; gather = tt };
}

said_equal : (t : Truth) (K : ℕ) → let g = test_of t (codes "_==_") K in IsSaid (declared_once g.profile g.declaration g.attributes)
said_equal t K = record {
  name = record { some = λ e. cc; no_hole = λ e. cc; fits = inr refl };
  attributes = record { precedence = omega arith; gather = tt };
}

said_different : (t : Truth) (K : ℕ) → let g = test_of t (codes "_=/=_") K in IsSaid (declared_once g.profile g.declaration g.attributes)
said_different t K = record {
  name = record { some = λ e. cc; no_hole = λ e. cc; fits = inr refl };
  attributes = record { precedence = omega arith; gather = tt };
}

said_operators : (ss : List SeenLined) → AreKnown ss → All IsSaid (operators_of ss)
said_operators ss known =
    all_operators IsSaid said_again ss (said_lined (hierarchy_of ss) ss known) (λ t e K n. (said_choice t K, said_equal t K, said_different t K))

-- how a mixfix form groups
default_small : (items : List NameItem) → default_precedence items < 128
default_small items = of (begins_open items || ends_open items) (count_holes items == 1)
  where
    of : (open_end one : Bool) → (if open_end then (if one then 15 else 41) else 0) < 128
    of true true = omega arith
    of true false = omega arith
    of false one = omega arith

small : (said : Option ℕ) (items : List NameItem) → IfSome said IsPrecedence → precedence_of said items < 128
small None items h = default_small items
small (Some n) items h = h

marks_behind : (first : Bool) (items : List NameItem) → length (gather_behind first items) ≡ count_holes items
marks_behind first [] = refl
marks_behind first (piece x ∷ items) = marks_behind false items
marks_behind first (hole ∷ items) = ap suc (marks_behind false items)

default_marks : (assoc : Bool) (items : List NameItem) → length (default_gather assoc items) ≡ count_holes items
default_marks assoc items = of (assoc && is_infix items) refl
  where
    of_two : (a b c : Bool) → (a && (b && (c && count_holes items == 2))) ≡ true → 2 ≡ count_holes items
    of_two a b c e = sym (eqb-true (count_holes items) 2 (and_parts c (count_holes items == 2) (and_parts b _ (and_parts a _ e).1).1).1)

    of : (b : Bool) → (assoc && is_infix items) ≡ b → length (if b then less ∷ most ∷ [] else gather_behind true items) ≡ count_holes items
    of true e = of_two assoc (begins_open items) (ends_open items) e
    of false e = marks_behind true items

marks : (arity : ℕ) (assoc : Bool) (said : Option (List (List ℕ))) (items : List NameItem) → IfSome said (IsGather arity) → (count_holes items ≡ 0) ⊎ (count_holes items ≡ arity)
    → length (gather_of said assoc items) ≡ count_holes items
marks arity assoc None items h fits = default_marks assoc items
marks arity assoc (Some ms) items h fits = of (count_holes items) refl
  where
    of : (n : ℕ) → count_holes items ≡ n → length (gather_of (Some ms) assoc items) ≡ count_holes items
    of zero e = ap length (without_holes (Some ms) ms refl assoc items e) ∙ sym e
    of (suc n) e =
        let some : count_holes items ≢ 0 = λ z. omega (arith, e, z) in
        ap length (with_holes (Some ms) ms refl assoc items some) ∙ length-map ms gather_of_mark ∙ h.0 ∙ sym (⊎_elim (λ z. absurd (some z)) (λ k. k) fits)

-- An operator that a module declares: its name has no holes or one for each argument, and a mark for each hole, its kinds and the sorts of its declarations
-- are there, and its precedence is at most 127.
pub record IsDeclared (sig : Signature) (o : Operator) : Type 0 where
  pub name : AreItemsFor (length o.args) (items_of o.spelling)
  pub args : All (IsSortOf sig) o.args
  pub result : IsSortOf sig o.result
  pub declarations : All (IsDeclarationOf sig o) o.declarations
  pub precedence : o.prec < 128
  pub gather : length o.gather ≡ count_holes (items_of o.spelling)

module _ (r : Reached) (ss : List SeenLined) where
  abbrev of_declared : Declared → Operator
  of_declared = operator_of (built_in r (hierarchy_of ss) ss) (operators_of ss)

  declared : (o : Declared) → IsSaid o → HasItsSortsIn (signature_of r ss) (of_declared o) → IsDeclared (signature_of r ss) (of_declared o)
  declared o h k = record {
    name = h.name;
    args = k.args;
    result = k.result;
    declarations = k.declarations;
    precedence = small o.attributes.precedence (items_of o.profile.spelling) h.attributes.precedence;
    gather = marks (length o.profile.args) o.attributes.assoc o.attributes.gather (items_of o.profile.spelling) h.attributes.gather h.name.fits;
  }

  all_are_declared : (os : List Declared) → All IsSaid os → All (HasItsSortsIn (signature_of r ss)) (map of_declared os)
      → All (IsDeclared (signature_of r ss)) (map of_declared os)
  all_are_declared [] all there = All-nil (IsDeclared (signature_of r ss))
  all_are_declared (o ∷ os) all there =
      let rest = map of_declared os in
      let this = of_declared o in
      All-cons (IsDeclared (signature_of r ss)) this rest (declared o (All-head IsSaid o os all) (All-head (HasItsSortsIn (signature_of r ss)) this rest there))
      (all_are_declared os (All-tail IsSaid o os all) (All-tail (HasItsSortsIn (signature_of r ss)) this rest there))

  -- the operators of statements whose sorts are all known
  pub declared_operators : AreKnown ss → unknown_in_all ss ≡ None → All (IsDeclared (signature_of r ss)) (signature_of r ss).operators
  declared_operators formed known = all_are_declared (operators_of ss) (said_operators ss formed) (operators_sorted r ss known)
