-- The parts of a statement that is made of tokens are proper.
use Rattle.std.proofs.Common.{◌≡◌, ℕ, ◌+◌, ◌-◌, ◌==◌, ◌&&◌, ◌||◌, not, if◌then◌else◌, Bool, true, false, List, [], ◌∷◌, length, map, take, drop, Option, Some, None, option_map, Result, Ok, Err, IfSome, IfOk, All, codes, inl, inr, refl, sym, subst}
use Rattle.std.specs.List.{list_all}
use Rattle.std.specs.Str.{bytes_eq}
use Rattle.std.proofs.lemmas.Bool.{both_ways, and_parts, or_parts, not-true, eqb-false}
use Rattle.std.proofs.lemmas.List.Elements.{All-nil, All-cons, All-head, All-tail, All-take, All-drop, All-map}
use Rattle.mw_lex.specs.Bytes.{is_punctuation}
use Rattle.mw_lex.specs.declared.token.Token.{Token}
use Rattle.mw_lex.specs.Texts.{IsRun, IsTokenText, AreTokens}
use Rattle.mw_text.specs.Names.{NameItem, piece, hole, pieces, items_of_tokens, name_of_tokens}
use Rattle.mw_text.specs.Proper.{IsProperName, BeginsNothing, NamesAreProper}
use Rattle.mw_module.specs.declared.machine.Part.{Part}
use Rattle.mw_module.specs.declared.openings.Opening.{Opening}
use Rattle.mw_module.specs.declared.openings.Opening.TheVariants as opening
use Rattle.mw_module.specs.declared.table.Place.{Place}
use Rattle.mw_module.specs.declared.table.Place.TheVariants as place
use Rattle.mw_module.specs.declared.table.Role.{Role}
use Rattle.mw_module.specs.declared.table.Role.TheVariants as role
use Rattle.mw_module.specs.declared.table.Want.TheVariants as want
use Rattle.mw_module.specs.declared.table.Wrong.{Wrong}
use Rattle.mw_module.specs.declared.table.Wrong.TheVariants.{Bad, Unread}
use Rattle.mw_module.specs.declared.table.Act.TheVariants.{Skip, One}
use Rattle.mw_module.specs.declared.table.Test.TheVariants as test
use Rattle.mw_module.specs.Words.{is, texts, count_before, is_punctuation_word, is_quoted, is_no_piece}
use Rattle.mw_module.specs.Openings.{opening_of}
use Rattle.mw_module.specs.declared.kinds.Kind.{Kind}
use Rattle.mw_module.specs.declared.operators.Asked.{Asked}
use Rattle.mw_module.specs.Classes.{front_word, word_of, attributes_of, are_named, class_of, classed}
use Rattle.mw_module.specs.OperatorNames.{items_in, is_fine, is_name, is_plain_name}
use Rattle.mw_module.specs.Statements.{has_label, unlabelled, attributes_len, group_at_end}
use Rattle.mw_module.specs.Rows.{row}
use Rattle.mw_module.specs.Reading.{State, then_of, tokens_of, followed, reading, read_at, lists_of, first_token, divided, divided_at}
use Rattle.mw_module.specs.Forms.{Import, Class, Sorts, Operators, asked, executable_by, import_form, grouped, typed, typed_names, Profile, profile_form, declared, names_form, fragments_form, sided, left_place, conditional, stated, statement_form, form_behind, form_of}
use Rattle.mw_module.specs.Conditions.{open_if, cut_at_if, unmatched, matched, fragment_of, fragments_of}
use Rattle.mw_module.specs.Tokens.{HasProperTexts, HasTokenName, HasProperParts}
use Rattle.mw_module.proofs.Parts.{then_holds, Begins, reading_begins}
use Rattle.mw_module.proofs.Formed.{AreNames, names_named, formed_holds}

abbrev pub IsToken : Token → Type 0
IsToken t = IsTokenText t.text

-- names of sorts and variables: a token that is neither a punctuation byte nor quoted is a run
run_alone : (x : List ℕ) → IsTokenText x → is_punctuation_word x ≡ false → is_quoted x ≡ false → IsRun x
run_alone x (inl (inr run)) mark quote = run
run_alone [] (inl (inl h)) mark quote = absurd h
run_alone (b ∷ []) (inl (inl h)) mark quote = absurd (both_ways (is_punctuation b) mark h)
run_alone (b ∷ (c ∷ x)) (inl (inl h)) mark quote = absurd h
run_alone [] (inr h) mark quote = absurd h
run_alone (b ∷ x) (inr h) mark quote = absurd (eqb-false b 34 quote h)

-- a text that passes as a run
passed : (x : List ℕ) → (not (is_punctuation_word x) && not (is_quoted x)) ≡ true → IsTokenText x → IsRun x
passed x e one = let h = and_parts (not (is_punctuation_word x)) (not (is_quoted x)) e in run_alone x one (not-true (is_punctuation_word x) h.0) (not-true (is_quoted x) h.1)

abbrev AreRuns : List Token → List Part → Type 0
AreRuns ts parts = All IsRun (texts ts)

still : {A : Type 0} (P Q : A → Type 0) (r : Result A Wrong) → IfOk r P → ((a : A) → P a → Q a) → IfOk r Q
still P Q (Ok a) h k = k a h
still P Q (Err wrong) h k = tt

-- sorts and variables that are declared are runs
sorts_run : (ts rest : List Token) (i d f : ℕ) (r : Role) (ps : List Part) → AreTokens rest
    → IfOk (reading ts want.Nothing i (record { place = place.Sorts; depth = d; role = r; from = f; parts = ps }) rest) (AreRuns rest)
sorts_run ts [] i d f r ps all = All-nil IsRun
sorts_run ts (t ∷ rest) i d f r ps all = of (bytes_eq t.text (codes "{") && true) (not (is_punctuation_word t.text) && not (is_quoted t.text)) refl (sorts_run ts rest (i + 1) d f r ps (All-tail IsToken t rest all))
  where
    of : (b c : Bool) → (not (is_punctuation_word t.text) && not (is_quoted t.text)) ≡ c → IfOk (reading ts want.Nothing (i + 1) (record { place = place.Sorts; depth = d; role = r; from = f; parts = ps }) rest) (AreRuns rest)
        → IfOk (then_of (followed ts want.Nothing i (record { place = place.Sorts; depth = d; role = r; from = f; parts = ps })
        (if b then Some (row (codes "{") test.Any Skip (Err Unread)) else if c then Some (row [] test.Run Skip (Ok place.Sorts)) else None)) (λ u. reading ts want.Nothing (i + 1) u rest)) (AreRuns (t ∷ rest))
    of true c e behind = tt
    of false true e behind = still (AreRuns rest) (AreRuns (t ∷ rest)) (reading ts want.Nothing (i + 1) (record { place = place.Sorts; depth = d; role = r; from = f; parts = ps }) rest)
        behind (λ parts more. All-cons IsRun t.text (texts rest) (passed t.text e (All-head IsToken t rest all)) more)
    of false false e behind = tt

variables_run : (ts rest : List Token) (i d f : ℕ) (r : Role) (ps : List Part) → AreTokens rest
    → IfOk (reading ts want.Nothing i (record { place = place.Variables; depth = d; role = r; from = f; parts = ps }) rest) (AreRuns rest)
variables_run ts [] i d f r ps all = All-nil IsRun
variables_run ts (t ∷ rest) i d f r ps all = of (not (is_punctuation_word t.text) && not (is_quoted t.text)) refl (variables_run ts rest (i + 1) d f r ps (All-tail IsToken t rest all))
  where
    of : (c : Bool) → (not (is_punctuation_word t.text) && not (is_quoted t.text)) ≡ c → IfOk (reading ts want.Nothing (i + 1) (record { place = place.Variables; depth = d; role = r; from = f; parts = ps }) rest) (AreRuns rest)
        → IfOk (then_of (followed ts want.Nothing i (record { place = place.Variables; depth = d; role = r; from = f; parts = ps })
        (if c then Some (row [] test.Run Skip (Ok place.Variables)) else None)) (λ u. reading ts want.Nothing (i + 1) u rest)) (AreRuns (t ∷ rest))
    of true e behind = still (AreRuns rest) (AreRuns (t ∷ rest)) (reading ts want.Nothing (i + 1) (record { place = place.Variables; depth = d; role = r; from = f; parts = ps }) rest)
        behind (λ parts more. All-cons IsRun t.text (texts rest) (passed t.text e (All-head IsToken t rest all)) more)
    of false e behind = tt

-- names of operators
first_false : (a b c : Bool) → (a || b || c) ≡ false → (a ≡ false) × ((b || c) ≡ false)
first_false true b c e = cc
first_false false b c e = (refl, e)

-- neither a string nor a comment begins in a piece that may stand in a name
fine_piece : (x : List ℕ) → is_no_piece x ≡ false → BeginsNothing x
fine_piece [] e = cc
fine_piece (a ∷ []) e = (eqb-false a 34 (or_parts (a == 46) (a == 34) e).1, refl)
fine_piece (a ∷ (b ∷ [])) e = (eqb-false a 34 e, refl)
fine_piece (a ∷ (b ∷ (c ∷ x))) e = let h = first_false (a == 34) (a == 42 && b == 42 && c == 42) (a == 45 && b == 45 && c == 45) e in (eqb-false a 34 h.0, h.1)

fine_pieces : (items : List NameItem) → list_all is_fine items ≡ true → All BeginsNothing (pieces items)
fine_pieces [] e = All-nil BeginsNothing
fine_pieces (piece x ∷ items) e =
    let h = and_parts (not (is_no_piece x)) (list_all is_fine items) e in
    All-cons BeginsNothing x (pieces items) (fine_piece x (not-true (is_no_piece x) h.0)) (fine_pieces items h.1)
fine_pieces (hole ∷ items) e = fine_pieces items e

abbrev pub IsProperlyNamed : List (List ℕ) → Type 0
IsProperlyNamed name = IsProperName (name_of_tokens name)

-- a name whose pieces may stand in one
pub words_proper : NamesAreProper → (words : List (List ℕ)) → All IsTokenText words → list_all is_fine (items_of_tokens words) ≡ true → IsProperlyNamed words
words_proper law words all e = law words all (fine_pieces (items_of_tokens words) e)

proper_name : NamesAreProper → (name : List Token) → AreTokens name → is_name (items_in name) ≡ true → IsProperlyNamed (texts name)
proper_name law name all e = words_proper law (texts name) (All-map IsTokenText (λ (t : Token). t.text) name all) (and_parts (list_all is_fine (items_in name)) _ e).0

-- the tokens of a part are tokens
part_tokens : (ts : List Token) (p : Part) → AreTokens ts → AreTokens (tokens_of ts p)
part_tokens ts p all = All-take IsToken (p.to - p.from) (drop p.from ts) (All-drop IsToken p.from ts all)

lists_tokens : (ts : List Token) (parts : List Part) → AreTokens ts → All AreTokens (lists_of ts parts)
lists_tokens ts [] all = All-nil AreTokens
lists_tokens ts (p ∷ ps) all = All-cons AreTokens (tokens_of ts p) (lists_of ts ps) (part_tokens ts p all) (lists_tokens ts ps all)

any_holds : {A B : Type 0} (Q : B → Type 0) (r : Result A Wrong) (next : A → Result B Wrong) → ((a : A) → IfOk (next a) Q) → IfOk (then_of r next) Q
any_holds Q (Ok a) next h = h a
any_holds Q (Err wrong) next h = tt

-- declarations of operators
both_hold : {A : Type 0} (P Q : A → Type 0) (r : Result A Wrong) → IfOk r P → IfOk r Q → IfOk r (λ a. P a × Q a)
both_hold P Q (Ok a) h k = (h, k)
both_hold P Q (Err wrong) h k = tt

made : (single : Bool) (ts : List Token) → AreTokens ts → IfOk (names_form single ts) (All AreTokens)
made single ts all = any_holds (All AreTokens) (read_at (if single then place.Name else place.Names) role.Words want.Names ts) (λ parts. Ok (lists_of ts parts)) (λ parts. lists_tokens ts parts all)

proper_names : NamesAreProper → (names : List (List Token)) → AreNames names → All AreTokens names → All IsProperlyNamed (map texts names)
proper_names law [] named all = All-nil IsProperlyNamed
proper_names law (name ∷ names) named all =
    All-cons IsProperlyNamed (texts name) (map texts names)
    (proper_name law name (All-head AreTokens name names all) (All-head (λ (m : List Token). is_name (items_in m) ≡ true) name names named))
    (proper_names law names (All-tail (λ (m : List Token). is_name (items_in m) ≡ true) name names named) (All-tail AreTokens name names all))

declared_proper : (message : Bool) (names : List (List Token)) (ts : List Token) → All IsProperlyNamed (map texts names) → IfOk (declared message names ts) HasProperParts
declared_proper message [] ts all = tt
declared_proper message (n ∷ ns) ts all =
    any_holds HasProperParts (profile_form message (n ∷ ns) ts) (λ (p : Profile). Ok (Operators (map texts (n ∷ ns)) p.args p.value.sort p.value.attributes)) (λ p. all)

operators_proper : NamesAreProper → (a : Asked) (colon : ℕ) (ts : List Token) (b : Bool) → AreTokens ts
    → IfOk (if b then Err Bad else then_of (names_form a.single (take colon ts)) (λ names. declared a.message names (drop (colon + 1) ts))) HasProperParts
operators_proper law a colon ts true all = tt
operators_proper law a colon ts false all =
    let front = take colon ts in
    then_holds (λ names. AreNames names × All AreTokens names) HasProperParts (names_form a.single front) (λ names. declared a.message names (drop (colon + 1) ts))
    (both_hold AreNames (All AreTokens) (names_form a.single front) (names_named a.single front) (made a.single front (All-take IsToken colon ts all)))
    (λ names h. declared_proper a.message names (drop (colon + 1) ts) (proper_names law names h.0 h.1))

-- variables
typed_proper : (names : List Token) (o : Option Token) → All IsRun (texts names) → IfOk (typed names o) HasProperParts
typed_proper names None all = tt
typed_proper names (Some sort) all = all

typed_names_proper : (names ts : List Token) → AreTokens names → IfOk (typed_names names ts) HasProperParts
typed_names_proper [] ts all = tt
typed_names_proper (t ∷ names) ts all =
    then_holds (AreRuns (t ∷ names)) HasProperParts (read_at place.Variables role.Silent want.Nothing (t ∷ names))
    (λ none. then_of (read_at place.Sort role.Silent want.Nothing ts) (λ parts. typed (t ∷ names) (first_token ts parts)))
    (variables_run (t ∷ names) (t ∷ names) 0 0 0 role.Silent [] all)
    (λ none runs. any_holds HasProperParts (read_at place.Sort role.Silent want.Nothing ts) (λ parts. typed (t ∷ names) (first_token ts parts)) (λ parts. typed_proper (t ∷ names) (first_token ts parts) runs))

variables_proper : (colon : ℕ) (ts : List Token) (b : Bool) → AreTokens ts → IfOk (if b then Err Bad else typed_names (take colon ts) (drop (colon + 1) ts)) HasProperParts
variables_proper colon ts true all = tt
variables_proper colon ts false all = typed_names_proper (take colon ts) (drop (colon + 1) ts) (All-take IsToken colon ts all)

-- equations and rules
unlabelled_tokens : (ts : List Token) → AreTokens ts → AreTokens (unlabelled ts)
unlabelled_tokens ts all = of (has_label ts)
  where
    of : (b : Bool) → AreTokens (if b then drop 4 ts else ts)
    of true = All-drop IsToken 4 ts all
    of false = all

-- two texts
abbrev AreHalves : List Token × List Token → Type 0
AreHalves two = AreTokens two.0 × AreTokens two.1

halves_tokens : (place : Place) (ts : List Token) → AreTokens ts → IfSome (divided_at place ts) AreHalves
halves_tokens place ts all = of (read_at place role.Words want.Nothing ts)
  where
    of : (r : Result (List Part) Wrong) → IfSome (divided ts r) AreHalves
    of (Ok []) = tt
    of (Ok (p ∷ [])) = tt
    of (Ok (p ∷ (q ∷ ps))) = (part_tokens ts p all, part_tokens ts q all)
    of (Err wrong) = tt

cut_tokens : (ts : List Token) → AreTokens ts → IfSome (cut_at_if ts) AreHalves
cut_tokens ts all = of (open_if ts)
  where
    of : (o : Option ℕ) → IfSome (option_map (λ n. (take n ts, drop (n + 1) ts)) o) AreHalves
    of (Some n) = (All-take IsToken n ts all, All-drop IsToken (n + 1) ts all)
    of None = tt

unmatched_proper : (ts : List Token) (o : Option (List Token × List Token)) → AreTokens ts → IfSome o AreHalves → HasProperTexts (unmatched ts o)
unmatched_proper ts (Some sides) all h = h
unmatched_proper ts None all h = all

matched_proper : (ts : List Token) (o : Option (List Token × List Token)) → AreTokens ts → IfSome o AreHalves → HasProperTexts (matched ts o)
matched_proper ts (Some m) all h = h
matched_proper ts None all h = unmatched_proper ts (divided_at place.Left ts) all (halves_tokens place.Left ts all)

fragments_proper : (ts : List Token) (parts : List Part) → AreTokens ts → All HasProperTexts (fragments_of ts parts)
fragments_proper ts [] all = All-nil HasProperTexts
fragments_proper ts (p ∷ ps) all =
    let us = tokens_of ts p in
    let these = part_tokens ts p all in
    All-cons HasProperTexts (fragment_of us) (fragments_of ts ps) (matched_proper us (divided_at place.Pattern us) these (halves_tokens place.Pattern us these)) (fragments_proper ts ps all)

condition_proper : (condition : Option (List Token)) → IfSome condition AreTokens → IfOk (fragments_form condition) (All HasProperTexts)
condition_proper None all = All-nil HasProperTexts
condition_proper (Some ts) all = any_holds (All HasProperTexts) (read_at place.Condition role.Words want.Nothing ts) _ (λ parts. fragments_proper ts parts all)

sided_proper : (rule : Bool) (sides : Option (List Token × List Token)) (condition : Option (List Token)) (said : List Token) → IfSome sides AreHalves → IfSome condition AreTokens → IfOk (sided rule sides condition said) HasProperParts
sided_proper rule None condition said two all = tt
sided_proper rule (Some sides) condition said two all =
    then_holds (All HasProperTexts) HasProperParts (fragments_form condition) _ (condition_proper condition all)
    (λ fragments each. any_holds HasProperParts (executable_by rule said) _ (λ more. (two.0, two.1, each)))

conditional_proper : (rule : Bool) (cut : Option (List Token × List Token)) (said : List Token) → IfSome cut AreHalves → IfOk (conditional rule cut said) HasProperParts
conditional_proper rule None said two = tt
conditional_proper rule (Some cut) said two = sided_proper rule (divided_at (left_place rule) cut.0) (Some cut.1) said (halves_tokens (left_place rule) cut.0 two.0) two.1

stated_proper : (rule with_condition : Bool) (ts said : List Token) → AreTokens ts → IfOk (stated rule with_condition ts said) HasProperParts
stated_proper rule true ts said all = conditional_proper rule (cut_at_if ts) said (cut_tokens ts all)
stated_proper rule false ts said all = sided_proper rule (divided_at (left_place rule) ts) None said (halves_tokens (left_place rule) ts all) tt

statement_proper : (rule with_condition : Bool) (ts : List Token) → AreTokens ts → IfOk (statement_form rule with_condition ts) HasProperParts
statement_proper rule with_condition ts all =
    let us = unlabelled ts in
    let n = attributes_len us in
    stated_proper rule with_condition (take (length us - n) us) (group_at_end n us) (All-take IsToken (length us - n) us (unlabelled_tokens ts all))

-- classes: what isn't a run isn't read as a name
words_are_tokens : (ts : List Token) (p : Part) → AreTokens ts → is_plain_name (word_of ts p) ≡ true → IsTokenText (word_of ts p)
words_are_tokens ts p all named = of (tokens_of ts p) (part_tokens ts p all) named
  where
    of : (us : List Token) → AreTokens us → is_plain_name (front_word us) ≡ true → IsTokenText (front_word us)
    of [] tokens e = cc
    of (u ∷ us) tokens e = All-head IsToken u us tokens

attributes_tokens : (ts : List Token) (parts : List Part) → AreTokens ts → are_named (attributes_of ts parts) ≡ true → All HasTokenName (attributes_of ts parts)
attributes_tokens ts [] all e = All-nil HasTokenName
attributes_tokens ts (p ∷ []) all e = All-nil HasTokenName
attributes_tokens ts (p ∷ (q ∷ ps)) all e =
    let h = and_parts (is_plain_name (word_of ts p)) (are_named (attributes_of ts ps)) e in
    All-cons HasTokenName (record { name = word_of ts p; sort = word_of ts q }) (attributes_of ts ps) (words_are_tokens ts p all h.0) (attributes_tokens ts ps all h.1)

class_named : (name : List ℕ) (ts : List Token) (parts : List Part) → AreTokens ts → IsRun name → IfOk (class_of name (attributes_of ts parts)) HasProperParts
class_named name ts parts all run = of (is_plain_name name && are_named (attributes_of ts parts)) refl
  where
    of : (b : Bool) → (is_plain_name name && are_named (attributes_of ts parts)) ≡ b → IfOk (if b then Ok (Class name (attributes_of ts parts)) else Err Bad) HasProperParts
    of true e = (run, attributes_tokens ts parts all (and_parts (is_plain_name name) (are_named (attributes_of ts parts)) e).1)
    of false e = tt

-- the first part is the first token
abbrev first_part : Part
first_part = record { role = role.Words; from = 0; to = 0 + 1 }

named_front : (t : Token) (rest : List Token) (parts : List Part) → AreTokens (t ∷ rest) → IsRun t.text → Begins first_part parts → IfOk (classed (t ∷ rest) parts) HasProperParts
named_front t rest parts all run h = subst (λ ps. IfOk (classed (t ∷ rest) ps) HasProperParts) (sym h.1) (class_named t.text (t ∷ rest) h.0 all run)

class_proper : (ts : List Token) → AreTokens ts → IfOk (form_behind opening.Class ts) HasProperParts
class_proper [] all = tt
class_proper (t ∷ rest) all = of (bytes_eq t.text (codes "{") && true) (not (is_punctuation_word t.text) && not (is_quoted t.text)) refl
  where
    ts : List Token
    ts = t ∷ rest

    of : (b c : Bool) → (not (is_punctuation_word t.text) && not (is_quoted t.text)) ≡ c
        → IfOk (then_of (then_of (followed ts want.Nothing 0 (record { place = place.Class; depth = 0; role = role.Silent; from = 0; parts = [] })
        (if b then Some (row (codes "{") test.Any Skip (Err Unread)) else if c then Some (row [] test.Run (One role.Words) (Ok place.BehindClass)) else None))
        (λ u. reading ts want.Nothing (0 + 1) u rest)) (classed ts)) HasProperParts
    of true c e = tt
    of false true e =
        let u : State = record { place = place.BehindClass; depth = 0; role = role.Silent; from = 0 + 1; parts = first_part ∷ [] } in
        then_holds (Begins first_part) HasProperParts (reading ts want.Nothing (0 + 1) u rest) (classed ts)
        (reading_begins ts want.Nothing first_part (0 + 1) u rest ([], refl))
        (λ parts h. named_front t rest parts all (passed t.text e (All-head IsToken t rest all)) h)
    of false false e = tt

-- the other forms
grouped_proper : (ts : List Token) (parts : List Part) → IfOk (grouped ts parts) HasProperParts
grouped_proper ts [] = tt
grouped_proper ts (p ∷ []) = tt
grouped_proper ts (p ∷ (q ∷ ps)) = tt

sorts_proper : (ts : List Token) → AreTokens ts → IfOk (form_behind opening.Sorts ts) HasProperParts
sorts_proper [] all = tt
sorts_proper (t ∷ ts) all =
    then_holds (AreRuns (t ∷ ts)) HasProperParts (read_at place.Sorts role.Silent want.Nothing (t ∷ ts)) (λ parts. Ok (Sorts (texts (t ∷ ts)))) (sorts_run (t ∷ ts) (t ∷ ts) 0 0 0 role.Silent [] all) (λ parts runs. runs)

import_proper : (ts : List Token) → IfOk (import_form ts) HasProperParts
import_proper [] = tt
import_proper (t ∷ []) = of (is (codes "{") t)
  where
    of : (b : Bool) → IfOk (if b then Err Unread else Ok (Import t.text)) HasProperParts
    of true = tt
    of false = tt
import_proper (t ∷ u ∷ ts) = tt

behind_proper : NamesAreProper → (o : Opening) (ts : List Token) → AreTokens ts → IfOk (form_behind o ts) HasProperParts
behind_proper law opening.Sorts ts all = sorts_proper ts all
behind_proper law opening.Subsorts ts all = any_holds HasProperParts (read_at place.Group role.Words want.Nothing ts) (grouped ts) (grouped_proper ts)
behind_proper law opening.Operator ts all = operators_proper law (asked true false) (count_before (codes ":") ts) ts (count_before (codes ":") ts == length ts) all
behind_proper law opening.Operators ts all = operators_proper law (asked false false) (count_before (codes ":") ts) ts (count_before (codes ":") ts == length ts) all
behind_proper law opening.Variables ts all = variables_proper (count_before (codes ":") ts) ts (count_before (codes ":") ts == length ts) all
behind_proper law opening.Equation ts all = statement_proper false false ts all
behind_proper law opening.ConditionalEquation ts all = statement_proper false true ts all
behind_proper law opening.Rule ts all = statement_proper true false ts all
behind_proper law opening.ConditionalRule ts all = statement_proper true true ts all
behind_proper law opening.Import ts all = import_proper ts
behind_proper law opening.Class ts all = class_proper ts all
behind_proper law opening.Message ts all = operators_proper law (asked true true) (count_before (codes ":") ts) ts (count_before (codes ":") ts == length ts) all
behind_proper law opening.Messages ts all = operators_proper law (asked false true) (count_before (codes ":") ts) ts (count_before (codes ":") ts == length ts) all
behind_proper law opening.Elsewhere ts all = tt
behind_proper law opening.Unread ts all = tt

-- a statement that is made of tokens has proper parts
pub form_proper : NamesAreProper → (K : Kind) (ts : List Token) → AreTokens ts → IfOk (form_of K ts) HasProperParts
form_proper law K [] all = tt
form_proper law K (t ∷ rest) all = formed_holds HasProperParts (form_behind (opening_of K t.text) rest) (behind_proper law (opening_of K t.text) rest (All-tail IsToken t rest all))
