-- The operators that statements declare, and those that each kind has. (Maude Manual, chapter 3, "Operator declarations" and "Kinds", and chapter 7, "Boolean
-- values"; that an operator has the attributes of all its declarations together is this project's own.)
use Rattle.std.specs.Prelude.{◌≡◌, ℕ, zero, suc, List, [], ◌∷◌, ◌++◌, map, Bool, false, ◌&&◌, ◌||◌, Option, Some, None, is_some, option_map, unwrap_or, position, length, All, bytes_eq, nat_eq, if◌then◌else◌, codes, IsTrue}
use Rattle.mw_logic.specs.Signature.{Signature, Operator, Declaration, sort, kind, Identity, constant_of, numeral_of, at_number}
use Rattle.mw_logic.specs.Accepted.{are_two, names_differ}
use Rattle.mw_poset.specs.Order.{IsSort, ArePairsOf}
use Rattle.mw_text.specs.Names.{name_of_tokens, items_of}
use Rattle.mw_text.specs.Numerals.{number_in}
use Rattle.mw_module.specs.Attributes.{Attributes, no_attributes, joined}
use Rattle.mw_module.specs.Forms.{Shape, Sorts, Subsorts, Operators, Variables, Statement, Import, Class}
use Rattle.mw_module.specs.Sortings.{WrittenSort}
use Rattle.mw_module.specs.Units.{SeenLined}
use Rattle.mw_declare.specs.Meaning.{Name}
use Rattle.mw_declare.specs.Hierarchy.{Hierarchy, hierarchy_of, kind_of, kind_in, sorted_in, IsLeastKind}
use Rattle.mw_declare.specs.Freezing.{frozen_arguments}
use Rattle.mw_declare.specs.Grouping.{precedence_of, gather_of}
use Rattle.mw_declare.specs.declared.built.Reached.{Reached}
use Rattle.mw_declare.specs.declared.built.Truth.{Truth}
use Rattle.mw_declare.specs.declared.built.Built.{Built}
use Rattle.mw_declare.specs.Built.{truth_of, built_in, kinds_from}

-- a declaration, with the kinds of its arguments and of its result
pub record Rank : Type 0 where
  pub declaration : Declaration
  pub args : List ℕ
  pub result : ℕ

abbrev pub rank_of : Hierarchy → List WrittenSort → WrittenSort → Rank
rank_of h args result = record {
  declaration = record { args = map (sorted_in h) args; result = sorted_in h result };
  args = map (kind_in h) args;
  result = kind_in h result;
}

-- a name, by its prefix spelling, with the kinds of its arguments and of its result
pub record Profile : Type 0 where
  pub spelling : Name
  pub args : List ℕ
  pub result : ℕ

abbrev pub same_profile : Profile → Profile → Bool
same_profile p q = bytes_eq p.spelling q.spelling && (bytes_eq p.args q.args && nat_eq p.result q.result)

-- an operator's profile, its declarations, and what they say of it
pub record Declared : Type 0 where
  pub profile : Profile
  pub declarations : List Declaration
  pub attributes : Attributes

-- the operator, with one declaration more
abbrev pub declared_again : Declared → Declaration → Attributes → Declared
declared_again o d said = record { profile = o.profile; declarations = o.declarations ++ d ∷ []; attributes = joined o.attributes said }

-- the operators, and this one behind them where it is new; else it is declared again
abbrev pub with_operator : List Declared → Profile → Declaration → Attributes → List Declared
with_operator [] p d said = record { profile = p; declarations = d ∷ []; attributes = said } ∷ []
with_operator (o ∷ os) p d said = if same_profile p o.profile then declared_again o d said ∷ os else o ∷ with_operator os p d said

-- the profile of the name of these words
abbrev pub profile_of : List Name → Rank → Profile
profile_of name rank = record { spelling = name_of_tokens name; args = rank.args; result = rank.result }

-- one operator for each of these names
abbrev pub with_named : List Declared → List (List Name) → Rank → Attributes → List Declared
with_named os [] rank said = os
with_named os (name ∷ names) rank said = with_named (with_operator os (profile_of name rank) rank.declaration said) names rank said

-- the operators, with those of a statement
abbrev pub with_operators : Hierarchy → List Declared → Shape → List Declared
with_operators h os (Sorts names) = os
with_operators h os (Subsorts groups) = os
with_operators h os (Operators names args result said) = with_named os names (rank_of h args result) said
with_operators h os (Variables names S) = os
with_operators h os (Statement rule left right fragments executable) = os
with_operators h os (Import m) = os
with_operators h os (Class c as_) = os

abbrev pub operators_from : Hierarchy → List Declared → List SeenLined → List Declared
operators_from h os [] = os
operators_from h os (s ∷ rest) = operators_from h (with_operators h os s.shape) rest

-- one declaration of an operator
pub record Single : Type 0 where
  pub profile : Profile
  pub declaration : Declaration
  pub attributes : Attributes

-- the operators, with these declarations
abbrev pub with_singles : List Declared → List Single → List Declared
with_singles os [] = os
with_singles os (g ∷ gs) = with_singles (with_operator os g.profile g.declaration g.attributes) gs

abbrev pub said_precedence : ℕ → Attributes
said_precedence n = record no_attributes { precedence = Some n }

-- the choice by a truth value between two terms of a kind
abbrev pub choice_of : Truth → ℕ → Single
choice_of t K = record {
  profile = record { spelling = codes "if_then_else_fi"; args = t.kind ∷ K ∷ K ∷ []; result = K };
  declaration = record { args = kind t.kind ∷ kind K ∷ kind K ∷ []; result = kind K };
  attributes = said_precedence 0;
}

-- the test of this name on two terms of a kind
abbrev pub test_of : Truth → Name → ℕ → Single
test_of t name K = record {
  profile = record { spelling = name; args = K ∷ K ∷ []; result = t.kind };
  declaration = record { args = kind K ∷ kind K ∷ []; result = sort t.sort };
  attributes = said_precedence 51;
}

-- what each kind has
abbrev pub built_for : Truth → ℕ → List Single
built_for t K = choice_of t K ∷ test_of t (codes "_==_") K ∷ test_of t (codes "_=/=_") K ∷ []

-- the operators, with those that each of these kinds has
abbrev pub with_kinds : Truth → List Declared → List ℕ → List Declared
with_kinds t os [] = os
with_kinds t os (K ∷ Ks) = with_kinds t (with_singles os (built_for t K)) Ks

-- where there are truth values, all kinds have them
abbrev pub with_built : Option Truth → Hierarchy → List Declared → List Declared
with_built None h os = os
with_built (Some t) h os = with_kinds t os (kinds_from h (length h.names) 1)

-- Operators are numbered from 1, in the order in which they are first declared; one that is declared again is the same one. Those that each kind has come last,
-- kind by kind in the order of their least sorts; one that statements declare too is that one.
abbrev pub operators_of : List SeenLined → List Declared
operators_of statements = let h = hierarchy_of statements in with_built (truth_of h statements) h (operators_from h [] statements)

-- a constant of this name, in a kind
abbrev pub constant_profile : ℕ → Name → Profile
constant_profile K text = record { spelling = name_of_tokens (text ∷ []); args = []; result = K }

-- the number of the operator of a profile; 0, which is no operator's, where there is none
abbrev pub operator_number : List Declared → Profile → ℕ
operator_number os p = unwrap_or (option_map suc (position (λ (o : Declared). same_profile p o.profile) os)) 0

abbrev pub numeral_or_none : Option ℕ → Identity
numeral_or_none None = constant_of 0
numeral_or_none (Some n) = numeral_of n

-- the numeral that a text is, where there are numbers; else the constant that isn't there
abbrev pub numeral_for : Option ℕ → Name → Identity
numeral_for None text = constant_of 0
numeral_for (Some N) text = numeral_or_none (number_in text)

-- the constant of this number, or else the numeral
abbrev pub identity_at : ℕ → Option ℕ → Name → Identity
identity_at zero nat text = numeral_for nat text
identity_at (suc c) nat text = constant_of (suc c)

-- An operator's identity is the constant of that name in its result's kind, wherever it is declared; where there is none, it is the numeral that the name is.
abbrev pub identity_in : Built → List Declared → Declared → Option Identity
identity_in b os o = option_map (λ (text : Name). identity_at (operator_number os (constant_profile o.profile.result text)) b.nat text) o.attributes.identity

-- the kind is that of numbers
abbrev pub is_numeric : Option ℕ → ℕ → Bool
is_numeric None K = false
is_numeric (Some N) K = nat_eq N K

-- the arguments of a choice
abbrev pub are_choice : ℕ → ℕ → List ℕ → Bool
are_choice B K [] = false
are_choice B K (L ∷ []) = false
are_choice B K (L ∷ M ∷ []) = false
are_choice B K (L ∷ M ∷ N ∷ []) = nat_eq L B && (nat_eq M K && nat_eq N K)
are_choice B K (L ∷ M ∷ N ∷ O ∷ Ks) = false

-- the profile is that of an operator that some kind has
abbrev pub is_test_of : Truth → Profile → Bool
is_test_of t p = (bytes_eq p.spelling (codes "_==_") || bytes_eq p.spelling (codes "_=/=_")) && (are_two nat_eq p.args && nat_eq p.result t.kind)

abbrev pub is_choice_of : Truth → Profile → Bool
is_choice_of t p = bytes_eq p.spelling (codes "if_then_else_fi") && are_choice t.kind p.result p.args

abbrev pub is_built : Option Truth → Profile → Bool
is_built None p = false
is_built (Some t) p = is_test_of t p || is_choice_of t p

-- the operator, with this identity, where these truth values are there
abbrev pub operator_with : Option Truth → Option Identity → Declared → Operator
operator_with truth identity o = record {
  spelling = o.profile.spelling;
  args = o.profile.args;
  result = o.profile.result;
  declarations = o.declarations;
  assoc = o.attributes.assoc;
  comm = o.attributes.comm;
  identity = identity;
  prec = precedence_of o.attributes.precedence (items_of o.profile.spelling);
  gather = gather_of o.attributes.gather o.attributes.assoc (items_of o.profile.spelling);
  config = o.attributes.config;
  frozen = frozen_arguments (length o.profile.args) o.attributes;
  built = is_built truth o.profile;
}

-- the operator, among these
abbrev pub operator_of : Built → List Declared → Declared → Operator
operator_of b os o = operator_with b.truth (identity_in b os o) o

-- an operator whose kinds are named by their least sorts
pub record IsOfLeastKinds (h : Hierarchy) (o : Declared) : Type 0 where
  pub within : ArePairsOf (length h.names) h.pairs
  pub args : All (IsLeastKind h) o.profile.args
  pub result : IsLeastKind h o.profile.result

-- what is built in has the kind of Nat, and no two sorts have one name
pub record IsNumbered (h : Hierarchy) (b : Built) : Type 0 where
  pub differ : IsTrue (names_differ h.names)
  pub nat : (N : ℕ) → b.nat ≡ Some N → (S : ℕ) × (at_number h.names S ≡ Some (codes "Nat")) × IsSort (length h.names) S × (N ≡ kind_of h S)

abbrev pub signature_with : Built → Hierarchy → List Declared → Signature
signature_with b h os = record { sorts = h.names; pairs = h.pairs; operators = map (operator_of b os) os; nat = is_some b.nat; qid = b.qid }

-- the signature of statements, where these modules of the prelude are reached
abbrev pub signature_of : Reached → List SeenLined → Signature
signature_of r statements = let h = hierarchy_of statements in signature_with (built_in r h statements) h (operators_of statements)
