-- What is known of the statements of an object module is known of those that its unit declares.
use Rattle.std.proofs.Common.{◌≡◌, ◌++◌, ◌&&◌, ◌==◌, ◌≢◌, ◌⊎◌, inl, inr, ℕ, Bool, true, false, List, [], ◌∷◌, map, length, All, Some, bytes_eq, if◌then◌else◌, codes, refl, sym, ap, ◌∙◌}
use Rattle.std.specs.List.{list_all}
use Rattle.std.proofs.lemmas.List.{append-nil}
use Rattle.std.proofs.lemmas.List.Folds.{list_all-append}
use Rattle.std.proofs.lemmas.Bool.{and_parts, eqb-true}
use Rattle.std.proofs.lemmas.List.Elements.{All-nil, All-cons, All-head, All-tail, All-append}
use Rattle.mw_lex.specs.Texts.{IsRun, IsTokenText}
use Rattle.mw_text.specs.Names.{NameItem, piece, hole, items_of, items_of_tokens, count_holes}
use Rattle.mw_text.proofs.Proper.{names_are_proper}
use Rattle.mw_module.specs.declared.classes.ClassAttribute.{ClassAttribute}
use Rattle.mw_module.specs.OperatorNames.{is_fine, is_name}
use Rattle.mw_module.proofs.ProperForms.{IsProperlyNamed, words_proper}
use Rattle.mw_module.specs.Forms.{Shape, Sorts, Subsorts, Operators, Variables, Statement, Import, Class}
use Rattle.mw_module.specs.Known.{IsNameFor, IsMark, AreAttributes, IsPlainName, IsPlainAttribute, IsKnown, AreKnown}
use Rattle.mw_module.specs.Tokens.{HasTokenName, HasProperParts, AreProperStatements, IsOfTokens}
use Rattle.mw_module.specs.Units.{SeenLined, SeenUnit}
use Rattle.mw_omod.specs.Declaring.{sort_shape, below_shape, constant_shape, attribute_name, any_gather, attribute_shape, at_line, class_forms, forms_of, spread_one, spread, object_statements, declared_unit}

module _ (P : Shape → Type 0)
    (imports : P (Import (codes "CONFIGURATION"))) (sorts : (c : List ℕ) (as_ : List ClassAttribute) → P (Class c as_) → P (sort_shape c))
    (below : (c : List ℕ) (as_ : List ClassAttribute) → P (Class c as_) → P (below_shape c)) (constants : (c : List ℕ) (as_ : List ClassAttribute) → P (Class c as_) → P (constant_shape c))
    (IsSo : ClassAttribute → Type 0) (all_so : (c : List ℕ) (as_ : List ClassAttribute) → P (Class c as_) → All IsSo as_) (attributes : (a : ClassAttribute) → IsSo a → P (attribute_shape a)) where
  abbrev Has : SeenLined → Type 0
  Has s = P s.shape

  attributes_have : (line : ℕ) (as_ : List ClassAttribute) → All IsSo as_ → All Has (map (λ (a : ClassAttribute). at_line line (attribute_shape a)) as_)
  attributes_have line [] all = All-nil Has
  attributes_have line (a ∷ as_) all =
      All-cons Has (at_line line (attribute_shape a)) (map (λ (a : ClassAttribute). at_line line (attribute_shape a)) as_) (attributes a (All-head IsSo a as_ all)) (attributes_have line as_ (All-tail IsSo a as_ all))

  forms_have : (line : ℕ) (shape : Shape) → P shape → All Has (forms_of line shape)
  forms_have line (Sorts names) h = All-nil Has
  forms_have line (Subsorts groups) h = All-nil Has
  forms_have line (Operators names args result said) h = All-nil Has
  forms_have line (Variables names sort) h = All-nil Has
  forms_have line (Statement rule left right fragments executable) h = All-nil Has
  forms_have line (Import m) h = All-nil Has
  forms_have line (Class c as_) h =
      let more = map (λ (a : ClassAttribute). at_line line (attribute_shape a)) as_ in
      All-cons Has (at_line line (sort_shape c)) (at_line line (below_shape c) ∷ at_line line (constant_shape c) ∷ more) (sorts c as_ h)
      (All-cons Has (at_line line (below_shape c)) (at_line line (constant_shape c) ∷ more) (below c as_ h)
      (All-cons Has (at_line line (constant_shape c)) more (constants c as_ h) (attributes_have line as_ (all_so c as_ h))))

  spread_has : (ss : List SeenLined) → All Has ss → All Has (spread ss)
  spread_has [] all = All-nil Has
  spread_has (s ∷ ss) all =
      let first = All-head Has s ss all in
      All-append Has (spread_one s) (spread ss) (All-append Has (forms_of s.line s.shape) (s ∷ []) (forms_have s.line s.shape first) (All-cons Has s [] first (All-nil Has))) (spread_has ss (All-tail Has s ss all))

  pub objects_have : (line : ℕ) (ss : List SeenLined) → All Has ss → All Has (object_statements line ss)
  objects_have line ss all = All-cons Has (at_line line (Import (codes "CONFIGURATION"))) (spread ss) imports (spread_has ss all)

  pub declared_has : (u : SeenUnit) → All Has u.statements → All Has (declared_unit u).statements
  declared_has u all = of (bytes_eq u.word (codes "omod"))
    where
      of : (b : Bool) → All Has (if b then object_statements u.line u.statements else u.statements)
      of true = objects_have u.line u.statements all
      of false = all

-- names without holes
plain_fine : (text : List ℕ) → IsPlainName text → list_all is_fine (items_of text) ≡ true
plain_fine text h =
    (and_parts (list_all is_fine (items_of text)) _ (and_parts (is_name (items_of text)) (count_holes (items_of text) == 0) h.named).0).0

plain_holes : (text : List ℕ) → IsPlainName text → count_holes (items_of text) ≡ 0
plain_holes text h = eqb-true (count_holes (items_of text)) 0 (and_parts (is_name (items_of text)) (count_holes (items_of text) == 0) h.named).1

-- a name has something, and is no hole alone
named : (items : List NameItem) → is_name items ≡ true → (items ≢ []) × (items ≢ hole ∷ [])
named [] e = cc
named (piece x ∷ items) e = (λ (h : piece x ∷ items ≡ []). cc, λ (h : piece x ∷ items ≡ hole ∷ []). cc)
named (hole ∷ []) e = cc
named (hole ∷ (i ∷ items)) e = (λ (h : hole ∷ (i ∷ items) ≡ []). cc, λ (h : hole ∷ (i ∷ items) ≡ hole ∷ []). cc)

constant_name : (c : List ℕ) → IsPlainName c → IsNameFor 0 (c ∷ [])
constant_name c h =
    let items : items_of_tokens (c ∷ []) ≡ items_of c = append-nil (items_of c) in
    let n = named (items_of c) (and_parts (is_name (items_of c)) (count_holes (items_of c) == 0) h.named).0 in
    record {
      some = λ e. n.0 (sym items ∙ e);
      no_hole = λ e. n.1 (sym items ∙ e);
      fits = inl (ap count_holes items ∙ plain_holes c h);
    }

-- an attribute's operator: a name, a colon and a hole
abbrev behind : List NameItem → List NameItem
behind items = items ++ piece (codes ":") ∷ (hole ∷ [])

behind_some : (items : List NameItem) → behind items ≢ []
behind_some [] e = cc
behind_some (i ∷ items) e = cc

behind_no_hole : (items : List NameItem) → behind items ≢ hole ∷ []
behind_no_hole [] e = cc
behind_no_hole (i ∷ []) e = cc
behind_no_hole (i ∷ (j ∷ items)) e = cc

behind_holes : (items : List NameItem) → count_holes items ≡ 0 → count_holes (behind items) ≡ 1
behind_holes [] e = refl
behind_holes (piece x ∷ items) e = behind_holes items e
behind_holes (hole ∷ items) e = cc

behind_fine : (items : List NameItem) → list_all is_fine items ≡ true → list_all is_fine (behind items) ≡ true
behind_fine items e = list_all-append is_fine items (piece (codes ":") ∷ (hole ∷ [])) ∙ ap (λ b. b && true) e

operator_name : (a : List ℕ) → IsPlainName a → IsNameFor 1 (attribute_name a)
operator_name a h = record {
  some = behind_some (items_of a);
  no_hole = behind_no_hole (items_of a);
  fits = inr (behind_holes (items_of a) (plain_holes a h));
}

-- what is known of forms
constants_known : (c : List ℕ) (as_ : List ClassAttribute) → IsKnown (Class c as_) → IsKnown (constant_shape c)
constants_known c as_ h = record {
  some = λ (e : (c ∷ []) ∷ [] ≡ []). cc;
  names = All-cons (IsNameFor 0) (c ∷ []) [] (constant_name c h.0) (All-nil (IsNameFor 0));
  attributes = record { precedence = tt; gather = tt };
}

attributes_known : (a : ClassAttribute) → IsPlainAttribute a → IsKnown (attribute_shape a)
attributes_known a h = record {
  some = λ (e : attribute_name a.name ∷ [] ≡ []). cc;
  names = All-cons (IsNameFor 1) (attribute_name a.name) [] (operator_name a.name h) (All-nil (IsNameFor 1));
  attributes = record { precedence = tt; gather = (refl, All-cons IsMark (codes "&") [] (inr (inr refl)) (All-nil IsMark)) };
}

pub objects_known : (line : ℕ) (ss : List SeenLined) → AreKnown ss → AreKnown (object_statements line ss)
objects_known line ss known = objects_have IsKnown tt (λ c as_ h. tt) (λ c as_ h. tt) constants_known IsPlainAttribute (λ c as_ h. h.1) attributes_known line ss known

pub declared_known : (u : SeenUnit) → AreKnown u.statements → AreKnown (declared_unit u).statements
declared_known u known = declared_has IsKnown tt (λ c as_ h. tt) (λ c as_ h. tt) constants_known IsPlainAttribute (λ c as_ h. h.1) attributes_known u known

-- of what tokens they are made
abbrev IsMade : Shape → Type 0
IsMade shape = HasProperParts shape × IsKnown shape

abbrev IsMadeAttribute : ClassAttribute → Type 0
IsMadeAttribute a = HasTokenName a × IsPlainAttribute a

both_all : {A : Type 0} (P Q : A → Type 0) (xs : List A) → All P xs → All Q xs → All (λ x. P x × Q x) xs
both_all P Q [] p q = All-nil (λ x. P x × Q x)
both_all P Q (x ∷ xs) p q = All-cons (λ x. P x × Q x) x xs (All-head P x xs p, All-head Q x xs q) (both_all P Q xs (All-tail P x xs p) (All-tail Q x xs q))

colon_run : IsRun (codes ":")
colon_run = (refl, λ e. cc, refl)

hole_run : IsRun (codes "_")
hole_run = (refl, λ e. cc, refl)

constants_made : (c : List ℕ) (as_ : List ClassAttribute) → IsMade (Class c as_) → IsMade (constant_shape c)
constants_made c as_ h =
    let fine : list_all is_fine (items_of_tokens (c ∷ [])) ≡ true = ap (list_all is_fine) (append-nil (items_of c)) ∙ plain_fine c h.1.0 in (
      All-cons IsProperlyNamed (c ∷ []) [] (words_proper names_are_proper (c ∷ []) (All-cons IsTokenText c [] (inl (inr h.0.0)) (All-nil IsTokenText)) fine) (All-nil IsProperlyNamed),
      constants_known c as_ h.1,
    )

attributes_made : (a : ClassAttribute) → IsMadeAttribute a → IsMade (attribute_shape a)
attributes_made a h =
    let texts : All IsTokenText (attribute_name a.name) = All-cons IsTokenText a.name (codes ":" ∷ (codes "_" ∷ [])) h.0
    (All-cons IsTokenText (codes ":") (codes "_" ∷ []) (inl (inr colon_run)) (All-cons IsTokenText (codes "_") [] (inl (inr hole_run)) (All-nil IsTokenText))) in (
      All-cons IsProperlyNamed (attribute_name a.name) [] (words_proper names_are_proper (attribute_name a.name) texts (behind_fine (items_of a.name) (plain_fine a.name h.1))) (All-nil IsProperlyNamed),
      attributes_known a h.1,
    )

made : (ss : List SeenLined) → AreProperStatements ss → AreKnown ss → All (λ (s : SeenLined). IsMade s.shape) ss
made ss proper known = both_all (λ (s : SeenLined). HasProperParts s.shape) (λ (s : SeenLined). IsKnown s.shape) ss proper known

proper_of_made : (ss : List SeenLined) → All (λ (s : SeenLined). IsMade s.shape) ss → AreProperStatements ss
proper_of_made [] all = All-nil (λ (s : SeenLined). HasProperParts s.shape)
proper_of_made (s ∷ ss) all =
    All-cons (λ (s : SeenLined). HasProperParts s.shape) s ss (All-head (λ (s : SeenLined). IsMade s.shape) s ss all).0 (proper_of_made ss (All-tail (λ (s : SeenLined). IsMade s.shape) s ss all))

pub declared_of_tokens : (u : SeenUnit) → AreKnown u.statements → IsOfTokens u → IsOfTokens (declared_unit u)
declared_of_tokens u known h = record {
  statements = proper_of_made (declared_unit u).statements
      (declared_has IsMade (tt, tt) (λ c as_ m. (All-cons IsRun c [] m.0.0 (All-nil IsRun), tt)) (λ c as_ m. (tt, tt)) constants_made IsMadeAttribute
      (λ c as_ m. both_all HasTokenName IsPlainAttribute as_ m.0.1 m.1.1) attributes_made u (made u.statements h.statements known));
  tokens = h.tokens;
}
