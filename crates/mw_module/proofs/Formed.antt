-- What is known of a statement that has a form.
use Rattle.std.proofs.Common.{◌≡◌, ◌≢◌, ◌∙◌, ◌<◌, ◌+◌, ◌-◌, ◌*◌, ◌==◌, ◌&&◌, ◌||◌, ◌⊎◌, inl, inr, not, nat_lt, nat_le, nat_eq, min, ℕ, suc, Bool, true, false, if◌then◌else◌, List, [], ◌∷◌, length, map, take, drop, Option, Some, None, IfSome, IfOk, Result, Ok, Err, All, codes, refl, ap, arith}
use Rattle.std.specs.Char.{is_ascii_digit}
use Rattle.std.specs.List.{list_all}
use Rattle.std.specs.Option.{option_or}
use Rattle.std.proofs.lemmas.Bool.{ltb-true, leb-true, eqb-true}
use Rattle.std.proofs.lemmas.List.Elements.{All-nil, All-cons, All-head, All-tail}
use Rattle.std.proofs.lemmas.Slice.Eq.{bytes_eq-Decides}
use Rattle.mw_lex.specs.declared.token.Token.{Token}
use Rattle.mw_text.specs.Names.{NameItem, piece, hole, count_holes}
use Rattle.mw_module.specs.declared.machine.Part.{Part}
use Rattle.mw_module.specs.declared.openings.Opening.{Opening}
use Rattle.mw_module.specs.declared.openings.Opening.TheVariants as opening
use Rattle.mw_module.specs.declared.table.Place.TheVariants as place
use Rattle.mw_module.specs.declared.table.Role.{Role}
use Rattle.mw_module.specs.declared.table.Role.TheVariants as role
use Rattle.mw_module.specs.declared.table.Want.TheVariants as want
use Rattle.mw_module.specs.declared.table.Wrong.{Wrong}
use Rattle.mw_module.specs.declared.table.Wrong.TheVariants.{Bad, Unread}
use Rattle.mw_module.specs.Words.{is, texts, count_before}
use Rattle.mw_module.specs.Openings.{opening_of}
use Rattle.mw_module.specs.OperatorNames.{items_in, is_name, is_plain_name, fits, all_fit}
use Rattle.mw_module.specs.Attributes.{Attributes, no_attributes, joined, frozen_by, in_range, precedence_of, precedence_in, is_mark, said_as}
use Rattle.mw_module.specs.Sortings.{WrittenSort, sorting_of, sortings_of}
use Rattle.mw_module.specs.Statements.{unlabelled, attributes_len, group_at_end}
use Rattle.mw_module.specs.Conditions.{cut_at_if}
use Rattle.mw_module.specs.declared.classes.ClassAttribute.{ClassAttribute}
use Rattle.mw_module.specs.declared.kinds.Kind.{Kind}
use Rattle.mw_module.specs.declared.operators.Asked.{Asked}
use Rattle.mw_module.specs.Classes.{word_of, attributes_of, are_named, class_of, classed}
use Rattle.mw_module.specs.Known.{IsPlainAttribute, IsNameFor, IsMark, IsPrecedence, IsGather, AreAttributes, IsKnown}
use Rattle.mw_module.specs.Parts.{IsFine, AreParts}
use Rattle.mw_module.specs.Reading.{then_of, tokens_of, has_marks, is_fine, read_at, lists_of, first_token, divided_at}
use Rattle.mw_module.specs.Forms.{Shape, Import, Class, Sorts, Operators, Formed, Shaped, import_form, grouped, typed, typed_names, said_by, said_from, said_behind, fits_message, asked, executable_by, Value, valued_with, valued, value_form, Profile, profiled, profile_form, declared, names_form, operators_form, fragments_form, sided, left_place, conditional, stated, statement_form, form_behind, formed, form_of}
use Rattle.mw_module.proofs.Parts.{then_holds, parts_read}

abbrev pub IsKnownWhereFormed : Formed → Type 0
IsKnownWhereFormed f = IfOk f IsKnown

both : (a b : Bool) → (a && b) ≡ true → (a ≡ true) × (b ≡ true)
both true b e = (refl, e)
both false b e = cc

either : (a b : Bool) → (a || b) ≡ true → (a ≡ true) ⊎ (b ≡ true)
either true b e = inl refl
either false b e = inr e

-- names
named : (items : List NameItem) → is_name items ≡ true → (items ≢ []) × (items ≢ hole ∷ [])
named [] e = cc
named (piece x ∷ items) e = (λ (h : piece x ∷ items ≡ []). cc, λ (h : piece x ∷ items ≡ hole ∷ []). cc)
named (hole ∷ []) e = cc
named (hole ∷ (i ∷ items)) e = (λ (h : hole ∷ (i ∷ items) ≡ []). cc, λ (h : hole ∷ (i ∷ items) ≡ hole ∷ []). cc)

fitting : (arity : ℕ) (items : List NameItem) → fits arity items ≡ true → (count_holes items ≡ 0) ⊎ (count_holes items ≡ arity)
fitting arity items e = elim (either (count_holes items == 0) (count_holes items == arity) e) [ inl h ↦ inl (eqb-true (count_holes items) 0 h) | inr h ↦ inr (eqb-true (count_holes items) arity h) ]

-- lists of tokens that are names
abbrev pub AreNames : List (List Token) → Type 0
AreNames = All (λ (name : List Token). is_name (items_in name) ≡ true)

names_known : (arity : ℕ) (names : List (List Token)) → AreNames names → all_fit arity names ≡ true → All (IsNameFor arity) (map texts names)
names_known arity [] all fit = All-nil (IsNameFor arity)
names_known arity (name ∷ names) all fit =
    let f = both (fits arity (items_in name)) (all_fit arity names) fit in
    let n = named (items_in name) (All-head (λ (m : List Token). is_name (items_in m) ≡ true) name names all) in
    All-cons (IsNameFor arity) (texts name) (map texts names) (record { some = n.0; no_hole = n.1; fits = fitting arity (items_in name) f.0 })
    (names_known arity names (All-tail (λ (m : List Token). is_name (items_in m) ≡ true) name names all) f.1)

lists_named : (ts : List Token) (parts : List Part) → All (IsFine ts want.Names) parts → AreNames (lists_of ts parts)
lists_named ts [] all = All-nil (λ (name : List Token). is_name (items_in name) ≡ true)
lists_named ts (p ∷ ps) all =
    All-cons (λ (name : List Token). is_name (items_in name) ≡ true) (tokens_of ts p) (lists_of ts ps) (All-head (IsFine ts want.Names) p ps all) (lists_named ts ps (All-tail (IsFine ts want.Names) p ps all))

pub names_named : (single : Bool) (ts : List Token) → IfOk (names_form single ts) AreNames
names_named single ts =
    let start = if single then place.Name else place.Names in
    then_holds (AreParts ts want.Names) AreNames (read_at start role.Words want.Names ts) (λ parts. Ok (lists_of ts parts)) (parts_read start role.Words want.Names ts) (λ parts h. lists_named ts parts h.fine)

-- attributes
digit_within : (a : ℕ) → is_ascii_digit a ≡ true → a < 58
digit_within a e = let h = leb-true a 57 (both (nat_le 48 a) (nat_le a 57) e).1 in omega (arith, h)

small : (n : ℕ) → IfSome (in_range n) IsPrecedence
small n = of (nat_lt n 128) refl
  where
    of : (b : Bool) → nat_lt n 128 ≡ b → IfSome (if b then Some n else None) IsPrecedence
    of true e = ltb-true n 128 e
    of false e = tt

precedence_known : (text : List ℕ) → IfSome (precedence_of text) IsPrecedence
precedence_known [] = tt
precedence_known (a ∷ []) = of (is_ascii_digit a) refl
  where
    of : (b : Bool) → is_ascii_digit a ≡ b → IfSome (if b then Some (a - 48) else None) IsPrecedence
    of true e = omega (arith, digit_within a e)
    of false e = tt
precedence_known (a ∷ (b ∷ [])) = of (is_ascii_digit a && is_ascii_digit b && not (a == 48)) refl
  where
    of : (c : Bool) → (is_ascii_digit a && is_ascii_digit b && not (a == 48)) ≡ c → IfSome (if c then Some (10 * (a - 48) + (b - 48)) else None) IsPrecedence
    of true e = let h = (both (is_ascii_digit a && is_ascii_digit b) (not (a == 48)) e).0 in let d = both (is_ascii_digit a) (is_ascii_digit b) h in omega (arith, digit_within a d.0, digit_within b d.1)
    of false e = tt
precedence_known (a ∷ (b ∷ (c ∷ []))) = of (is_ascii_digit a && is_ascii_digit b && is_ascii_digit c && not (a == 48))
  where
    of : (d : Bool) → IfSome (if d then in_range (100 * (a - 48) + 10 * (b - 48) + (c - 48)) else None) IsPrecedence
    of true = small (100 * (a - 48) + 10 * (b - 48) + (c - 48))
    of false = tt
precedence_known (a ∷ (b ∷ (c ∷ (d ∷ rest)))) = tt

number_known : (ts : List Token) → IfSome (precedence_in ts) IsPrecedence
number_known [] = tt
number_known (t ∷ rest) = precedence_known t.text

pub none_known : (arity : ℕ) → AreAttributes arity no_attributes
none_known arity = record { precedence = tt; gather = tt }

mark_known : (t : Token) → is_mark t ≡ true → IsMark t.text
mark_known t e = elim (either (is (codes "e") t || is (codes "E") t) (is (codes "&") t) e) [
  | inl h ↦ elim (either (is (codes "e") t) (is (codes "E") t) h) [ inl k ↦ inl ((bytes_eq-Decides t.text (codes "e")).0 k) | inr k ↦ inr (inl ((bytes_eq-Decides t.text (codes "E")).0 k)) ]
  | inr h ↦ inr (inr ((bytes_eq-Decides t.text (codes "&")).0 h))
]

all_marks_known : (ts : List Token) → list_all is_mark ts ≡ true → All IsMark (texts ts)
all_marks_known [] e = All-nil IsMark
all_marks_known (t ∷ ts) e = let h = both (is_mark t) (list_all is_mark ts) e in All-cons IsMark t.text (texts ts) (mark_known t h.0) (all_marks_known ts h.1)

size_known : (ts : List Token) → length (texts ts) ≡ length ts
size_known [] = refl
size_known (t ∷ ts) = ap suc (size_known ts)

marks_known : (arity : ℕ) (ts : List Token) → has_marks arity ts ≡ true → IsGather arity (texts ts)
marks_known arity ts e =
    let h = both (not (nat_eq arity 0) && nat_eq (length ts) arity) (list_all is_mark ts) e in
    let k = both (not (nat_eq arity 0)) (nat_eq (length ts) arity) h.0 in
    (size_known ts ∙ eqb-true (length ts) arity k.1, all_marks_known ts h.1)

first_known : {A : Type 0} (P : A → Type 0) (o p : Option A) → IfSome o P → IfSome p P → IfSome (option_or o p) P
first_known P None p h k = k
first_known P (Some a) p h k = h

-- what both say
pub joined_known : (arity : ℕ) (a b : Attributes) → AreAttributes arity a → AreAttributes arity b → AreAttributes arity (joined a b)
joined_known arity a b h k = record {
  precedence = first_known IsPrecedence a.precedence b.precedence h.precedence k.precedence;
  gather = first_known (IsGather arity) a.gather b.gather h.gather k.gather;
}

-- what one attribute says
frozen_known : (arity : ℕ) (behind : List Token) → AreAttributes arity (frozen_by behind)
frozen_known arity [] = record { precedence = tt; gather = tt }
frozen_known arity (t ∷ rest) = of (is (codes "(") t)
  where
    of : (b : Bool)
        → AreAttributes arity (if b then record no_attributes { frozen = texts (take (count_before (codes ")") rest) rest) } else record no_attributes { all_frozen = true })
    of true = record { precedence = tt; gather = tt }
    of false = record { precedence = tt; gather = tt }

one_known : (arity : ℕ) (r : Role) (ts behind : List Token) → is_fine (want.Marks arity) r ts ≡ true → AreAttributes arity (said_as r ts behind)
one_known arity role.Precedence ts behind e = record { precedence = number_known ts; gather = tt }
one_known arity role.Gather ts behind e = record { precedence = tt; gather = marks_known arity ts e }
one_known arity role.Config ts behind e = record { precedence = tt; gather = tt }
one_known arity role.Words ts behind e = none_known arity
one_known arity (role.Sort kind) ts behind e = none_known arity
one_known arity role.Silent ts behind e = none_known arity
one_known arity role.Assoc ts behind e = record { precedence = tt; gather = tt }
one_known arity role.Comm ts behind e = record { precedence = tt; gather = tt }
one_known arity role.Identity ts behind e = record { precedence = tt; gather = tt }
one_known arity role.Nonexec ts behind e = none_known arity
one_known arity role.Frozen ts behind e = frozen_known arity behind
one_known arity role.Owise ts behind e = none_known arity

said_known : (arity : ℕ) (ts : List Token) (said : Attributes) (parts : List Part) → AreAttributes arity said → All (IsFine ts (want.Marks arity)) parts → AreAttributes arity (said_from ts said parts)
said_known arity ts said [] h all = h
said_known arity ts said (p ∷ ps) h all =
    said_known arity ts (joined said (said_by ts p)) ps
    (joined_known arity said (said_by ts p) h (one_known arity p.role (tokens_of ts p) (drop p.to ts) (All-head (IsFine ts (want.Marks arity)) p ps all)))
    (All-tail (IsFine ts (want.Marks arity)) p ps all)

-- declarations of operators
abbrev IsKnownValue : ℕ → Value → Type 0
IsKnownValue arity v = AreAttributes arity v.attributes

with_known : (arity : ℕ) (ss : List WrittenSort) (said : Attributes) → AreAttributes arity said → IfOk (valued_with ss said) (IsKnownValue arity)
with_known arity [] said h = tt
with_known arity (s ∷ ss) said h = h

behind_said : (arity : ℕ) (ts : List Token) (parts : List Part) → All (IsFine ts (want.Marks arity)) parts → IfOk (said_behind ts parts) (AreAttributes arity)
behind_said arity ts [] all = none_known arity
behind_said arity ts (list ∷ []) all = tt
behind_said arity ts (list ∷ (p ∷ ps)) all = said_known arity ts no_attributes (p ∷ ps) (none_known arity) (All-tail (IsFine ts (want.Marks arity)) list (p ∷ ps) all)

valued_known : (kinds : Bool) (arity : ℕ) (ts : List Token) (parts : List Part) → All (IsFine ts (want.Marks arity)) parts → IfOk (valued kinds ts parts) (IsKnownValue arity)
valued_known kinds arity ts [] all = tt
valued_known kinds arity ts (v ∷ ps) all =
    then_holds (AreAttributes arity) (IsKnownValue arity) (said_behind ts ps) (valued_with (sorting_of kinds ts v))
    (behind_said arity ts ps (All-tail (IsFine ts (want.Marks arity)) v ps all)) (λ said h. with_known arity (sorting_of kinds ts v) said h)

value_known : (kinds : Bool) (arity : ℕ) (ts : List Token) → IfOk (value_form kinds arity ts) (IsKnownValue arity)
value_known kinds arity ts =
    then_holds (AreParts ts (want.Marks arity)) (IsKnownValue arity) (read_at place.Value role.Silent (want.Marks arity) ts) (valued kinds ts)
    (parts_read place.Value role.Silent (want.Marks arity) ts) (λ parts h. valued_known kinds arity ts parts h.fine)

abbrev IsKnownProfile : List (List Token) → Profile → Type 0
IsKnownProfile names p = All (IsNameFor (length p.args)) (map texts names) × AreAttributes (length p.args) p.value.attributes

fit_there : (a b : Bool) → (not a || not b) ≡ false → b ≡ true
fit_there true true e = refl
fit_there true false e = cc
fit_there false b e = cc

profiled_known : (message kinds : Bool) (names : List (List Token)) (args : List WrittenSort) (arrow : Bool) (ts : List Token) → AreNames names
    → IfOk (profiled message kinds names args arrow ts) (IsKnownProfile names)
profiled_known message kinds names args arrow ts all = of (not arrow || not (all_fit (length args) names)) (not (fits_message message ts)) refl
  where
    of : (b c : Bool) → (not arrow || not (all_fit (length args) names)) ≡ b
        → IfOk (if b then Err Bad else if c then Err Bad else then_of (value_form kinds (length args) ts) (λ (v : Value). Ok (record { args = args; value = v }))) (IsKnownProfile names)
    of true c e = tt
    of false true e = tt
    of false false e = then_holds (IsKnownValue (length args)) (IsKnownProfile names) (value_form kinds (length args) ts) (λ (v : Value). Ok (record { args = args; value = v })) (value_known kinds (length args) ts)
        (λ v h. (names_known (length args) names all (fit_there arrow (all_fit (length args) names) e), h))

abbrev AnyParts : List Part → Type 0
AnyParts parts = Unit {0}

any_parts : (r : Result (List Part) Wrong) → IfOk r AnyParts
any_parts (Ok parts) = tt
any_parts (Err wrong) = tt

profile_known : (message : Bool) (names : List (List Token)) (ts : List Token) → AreNames names → IfOk (profile_form message names ts) (IsKnownProfile names)
profile_known message names ts all =
    let total = count_before (codes "->") ts in
    let partial = count_before (codes "~>") ts in
    let arrow = min total partial in
    let kinds = nat_lt partial total in
    let args = read_at place.Args role.Silent want.Nothing (take arrow ts) in
    then_holds AnyParts (IsKnownProfile names) args
    (λ parts. profiled message kinds names (sortings_of kinds (take arrow ts) parts) (not (arrow == length ts)) (drop (arrow + 1) ts)) (any_parts args)
    (λ parts h. profiled_known message kinds names (sortings_of kinds (take arrow ts) parts) (not (arrow == length ts)) (drop (arrow + 1) ts) all)

declared_known : (message : Bool) (names : List (List Token)) (ts : List Token) → AreNames names → IfOk (declared message names ts) IsKnown
declared_known message [] ts all = tt
declared_known message (n ∷ ns) ts all =
    then_holds (IsKnownProfile (n ∷ ns)) IsKnown (profile_form message (n ∷ ns) ts) (λ (p : Profile). Ok (Operators (map texts (n ∷ ns)) p.args p.value.sort p.value.attributes))
    (profile_known message (n ∷ ns) ts all) (λ p h. record { some = λ (e : map texts (n ∷ ns) ≡ []). cc; names = h.0; attributes = h.1 })

operators_known : (a : Asked) (ts : List Token) → IfOk (operators_form a ts) IsKnown
operators_known a ts = of (colon == length ts)
  where
    colon : ℕ
    colon = count_before (codes ":") ts

    of : (b : Bool) → IfOk (if b then Err Bad else then_of (names_form a.single (take colon ts)) (λ names. declared a.message names (drop (colon + 1) ts))) IsKnown
    of true = tt
    of false = then_holds AreNames IsKnown (names_form a.single (take colon ts)) (λ names. declared a.message names (drop (colon + 1) ts)) (names_named a.single (take colon ts))
        (λ names all. declared_known a.message names (drop (colon + 1) ts) all)

-- classes
attributes_known : (as_ : List ClassAttribute) → are_named as_ ≡ true → All IsPlainAttribute as_
attributes_known [] e = All-nil IsPlainAttribute
attributes_known (a ∷ as_) e =
    let h = both (is_plain_name a.name) (are_named as_) e in All-cons IsPlainAttribute a as_ (record { named = h.0 }) (attributes_known as_ h.1)

class_known : (name : List ℕ) (as_ : List ClassAttribute) → IfOk (class_of name as_) IsKnown
class_known name as_ = of (is_plain_name name && are_named as_) refl
  where
    of : (b : Bool) → (is_plain_name name && are_named as_) ≡ b → IfOk (if b then Ok (Class name as_) else Err Bad) IsKnown
    of true e = let h = both (is_plain_name name) (are_named as_) e in (record { named = h.0 }, attributes_known as_ h.1)
    of false e = tt

classed_known : (ts : List Token) (parts : List Part) → IfOk (classed ts parts) IsKnown
classed_known ts [] = tt
classed_known ts (p ∷ ps) = class_known (word_of ts p) (attributes_of ts ps)

-- the other forms
behind_any : {A : Type 0} (r : Result A Wrong) (next : A → Shaped) → ((a : A) → IfOk (next a) IsKnown) → IfOk (then_of r next) IsKnown
behind_any (Ok a) next h = h a
behind_any (Err wrong) next h = tt

grouped_known : (ts : List Token) (parts : List Part) → IfOk (grouped ts parts) IsKnown
grouped_known ts [] = tt
grouped_known ts (p ∷ []) = tt
grouped_known ts (p ∷ (q ∷ ps)) = tt

typed_known : (names : List Token) (o : Option Token) → IfOk (typed names o) IsKnown
typed_known names None = tt
typed_known names (Some sort) = tt

typed_names_known : (names ts : List Token) → IfOk (typed_names names ts) IsKnown
typed_names_known [] ts = tt
typed_names_known (t ∷ names) ts =
    behind_any (read_at place.Variables role.Silent want.Nothing (t ∷ names)) (λ none. then_of (read_at place.Sort role.Silent want.Nothing ts) (λ parts. typed (t ∷ names) (first_token ts parts)))
    (λ none. behind_any (read_at place.Sort role.Silent want.Nothing ts) (λ parts. typed (t ∷ names) (first_token ts parts)) (λ parts. typed_known (t ∷ names) (first_token ts parts)))

sorts_known : (ts : List Token) → IfOk (form_behind opening.Sorts ts) IsKnown
sorts_known [] = tt
sorts_known (t ∷ ts) = behind_any (read_at place.Sorts role.Silent want.Nothing (t ∷ ts)) (λ parts. Ok (Sorts (texts (t ∷ ts)))) (λ parts. tt)

variables_known : (ts : List Token) → IfOk (form_behind opening.Variables ts) IsKnown
variables_known ts = of (colon == length ts)
  where
    colon : ℕ
    colon = count_before (codes ":") ts

    of : (b : Bool) → IfOk (if b then Err Bad else typed_names (take colon ts) (drop (colon + 1) ts)) IsKnown
    of true = tt
    of false = typed_names_known (take colon ts) (drop (colon + 1) ts)

sided_known : (rule : Bool) (sides : Option (List Token × List Token)) (condition : Option (List Token)) (said : List Token) → IfOk (sided rule sides condition said) IsKnown
sided_known rule None condition said = tt
sided_known rule (Some sides) condition said = behind_any (fragments_form condition) _ (λ fragments. behind_any (executable_by rule said) _ (λ more. tt))

conditional_known : (rule : Bool) (cut : Option (List Token × List Token)) (said : List Token) → IfOk (conditional rule cut said) IsKnown
conditional_known rule None said = tt
conditional_known rule (Some cut) said = sided_known rule (divided_at (left_place rule) cut.0) (Some cut.1) said

stated_known : (rule with_condition : Bool) (ts said : List Token) → IfOk (stated rule with_condition ts said) IsKnown
stated_known rule true ts said = conditional_known rule (cut_at_if ts) said
stated_known rule false ts said = sided_known rule (divided_at (left_place rule) ts) None said

statement_known : (rule with_condition : Bool) (ts : List Token) → IfOk (statement_form rule with_condition ts) IsKnown
statement_known rule with_condition ts = let us = unlabelled ts in let n = attributes_len us in stated_known rule with_condition (take (length us - n) us) (group_at_end n us)

import_known : (ts : List Token) → IfOk (import_form ts) IsKnown
import_known [] = tt
import_known (t ∷ []) = of (is (codes "{") t)
  where
    of : (b : Bool) → IfOk (if b then Err Unread else Ok (Import t.text)) IsKnown
    of true = tt
    of false = tt
import_known (t ∷ u ∷ ts) = tt

behind_known : (o : Opening) (ts : List Token) → IfOk (form_behind o ts) IsKnown
behind_known opening.Sorts ts = sorts_known ts
behind_known opening.Subsorts ts = behind_any (read_at place.Group role.Words want.Nothing ts) (grouped ts) (grouped_known ts)
behind_known opening.Operator ts = operators_known (asked true false) ts
behind_known opening.Operators ts = operators_known (asked false false) ts
behind_known opening.Variables ts = variables_known ts
behind_known opening.Equation ts = statement_known false false ts
behind_known opening.ConditionalEquation ts = statement_known false true ts
behind_known opening.Rule ts = statement_known true false ts
behind_known opening.ConditionalRule ts = statement_known true true ts
behind_known opening.Import ts = import_known ts
behind_known opening.Class ts = behind_any (read_at place.Class role.Silent want.Nothing ts) (classed ts) (classed_known ts)
behind_known opening.Message ts = operators_known (asked true true) ts
behind_known opening.Messages ts = operators_known (asked false true) ts
behind_known opening.Elsewhere ts = tt
behind_known opening.Unread ts = tt

-- what holds of a form where there is one
pub formed_holds : (P : Shape → Type 0) (r : Shaped) → IfOk r P → IfOk (formed r) P
formed_holds P (Ok shape) h = h
formed_holds P (Err wrong) h = tt

pub form_known : (K : Kind) (ts : List Token) → IsKnownWhereFormed (form_of K ts)
form_known K [] = tt
form_known K (t ∷ ts) = formed_holds IsKnown (form_behind (opening_of K t.text) ts) (behind_known (opening_of K t.text) ts)
