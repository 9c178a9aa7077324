-- Of the same units no two texts differ in whether something was refused.
use Rattle.std.proofs.Common.{◌≡◌, ◌∙◌, ◌≤◌, ◌<◌, ◌+◌, ◌-◌, ◌++◌, ◌||◌, ℕ, zero, suc, Bool, false, List, [], ◌∷◌, map, length, slice_get, Option, Some, None, Ok, Err, bytes_eq, refl, sym, ap, subst, arith, inl, inr, ⊎_elim}
use Rattle.std.proofs.lemmas.Bool.{both_ways, cases_order}
use Rattle.std.proofs.lemmas.List.{map-append}
use Rattle.std.proofs.lemmas.List.Quantifiers.{position-Some}
use Rattle.std.proofs.lemmas.Option.{none-some, same_Some, get_or_from_slice_get}
use Rattle.std.proofs.lemmas.Slice.Eq.{bytes_eq-Decides}
use Rattle.mw_words.specs.declared.Options.{Options}
use Rattle.mw_logic.specs.Term.{RawTerm, is_ground}
use Rattle.mw_logic.specs.Signature.{Member}
use Rattle.mw_lex.specs.declared.token.Token.{Token}
use Rattle.mw_module.specs.declared.faults.FaultKind.{FaultKind}
use Rattle.mw_module.specs.Units.{SeenUnit, Outcome, Reading, Reads}
use Rattle.mw_module.specs.Words.{texts}
use Rattle.mw_command.specs.Commands.{SeenCommand, command_of}
use Rattle.mw_import.specs.Flat.{FlatUnit, number_named}
use Rattle.mw_build.specs.Statements.{Oversized}
use Rattle.mw_omod.specs.Declaring.{declared_unit}
use Rattle.mw_build.specs.Modules.{Accepted, IsAccepted, IsRefused}
use Rattle.mw_build.proofs.OneModule.{not_big, one_module, not_refused}
use Rattle.mw_build.proofs.Pairwise.{there}
use Rattle.mw_command.specs.declared.commands.Word.{Word}
use Rattle.mw_top.specs.Commands.{IsTerm, IsAnswer, reduction, rewriting, parsing, matching, inside_of, TermFault, long, unread, unclear, opened, big, AnswerFault, in_term, undivided, in_sides, CommandFault, nowhere, unknown, unanswered, module_for}
use Rattle.mw_top.specs.Matches.{AreMatchSides, AreOversized, deep, large as too_large, SidesFault, long as sides_long, unread as sides_unread, unclear as sides_unclear, opened as sides_opened, big as sides_big}
use Rattle.mw_top.specs.declared.purpose.Purpose.TheVariants.{Run}
use Rattle.mw_top.specs.Sources.{Loaded, with_module, IsNameTaken, name_of, Gives, formless, taken, refused, accepted, no_command, faulty, answered, passed, judged, Answered, nothing_yet, one_more}
use Rattle.mw_top.specs.Outputs.{IsOutput, unlexed, answered as of_tokens}

-- a term that is read has no fault
term_holds : (a : Accepted) (words : List (List ℕ)) (term : RawTerm) → IsTerm a words term → (cause : FaultKind) → TermFault a words cause → ⊥
term_holds a words term is cause (long h) = omega (arith, h, is.read.short)
term_holds a words term is cause (unread s none) = none term is.read.spelled
term_holds a words term is cause (unclear s (x, y, (of_x, of_y, differ))) = differ (is.read.only x of_x ∙ sym (is.read.only y of_y))
term_holds a words term is cause (opened t read h) = both_ways _ (subst (λ u. is_ground u ≡ false) (is.read.only t read.spelled) h) is.ground
term_holds a words term is cause (big t why read g h) =
    not_big a.module.signature term why is.fits (subst (λ u. Oversized a.module.signature u why) (is.read.only t read.spelled) h)

-- nor have a pattern and a subject
none_oversized : (a : Accepted) (left right : List (List ℕ)) (p t : RawTerm) → AreMatchSides a left right p t → (cause : FaultKind) → AreOversized a p t cause → ⊥
none_oversized a left right p t are cause (deep h) = ⊎_elim are.pattern_fits.not_deep are.subject_fits.not_deep h
none_oversized a left right p t are cause (too_large f g h) = ⊎_elim are.pattern_fits.not_large are.subject_fits.not_large h

sides_hold : (a : Accepted) (left right : List (List ℕ)) (p t : RawTerm) → AreMatchSides a left right p t → (cause : FaultKind) → SidesFault a left right cause → ⊥
sides_hold a left right p t are cause (sides_long h) = ⊎_elim (λ k. omega (arith, k, are.read.short_left)) (λ k. omega (arith, k, are.read.short_right)) h
sides_hold a left right p t are cause (sides_unread f g none) = none (p, t) are.read.only.0
sides_hold a left right p t are cause (sides_unclear f g (x, y, (of_x, of_y, differ))) = differ (are.read.only.1 x of_x ∙ sym (are.read.only.1 y of_y))
sides_hold a left right p t are cause (sides_opened q u read h) =
    let pair : ◌≡◌ {A = RawTerm × RawTerm} (q, u) (p, t) = are.read.only.1 (q, u) read.only.0 in
    both_ways _ (subst (λ (s : RawTerm × RawTerm). is_ground s.1 ≡ false) pair h) are.ground
sides_hold a left right p t are cause (sides_big q u why read g h) =
    let pair : ◌≡◌ {A = RawTerm × RawTerm} (q, u) (p, t) = are.read.only.1 (q, u) read.only.0 in
    none_oversized a left right p t are why (subst (λ (s : RawTerm × RawTerm). AreOversized a s.0 s.1 why) pair h)

no_inside : (w : Word) → inside_of w ≡ None → (b : Bool) → inside_of w ≡ Some b → ⊥
no_inside w none b some = none-some b (sym none ∙ some)

-- nor has a command that is answered
one_term : (a : Accepted) (c : SeenCommand) (term : RawTerm) (cause : FaultKind) → inside_of c.word ≡ None → IsTerm a (texts c.term) term
    → AnswerFault a c cause → ⊥
one_term a c term cause none is (in_term why term_word fault) = term_holds a (texts c.term) term is why fault
one_term a c term cause none is (undivided inside some missing) = no_inside c.word none inside some
one_term a c term cause none is (in_sides why inside behind some at fault) = no_inside c.word none inside some

answer_holds : (a : Accepted) (options : Options) (c : SeenCommand) (text : List ℕ) → IsAnswer a options c text → (cause : FaultKind) → AnswerFault a c cause → ⊥
answer_holds a options c text (reduction from block word is reduced) cause fault = one_term a c from cause (ap inside_of word) is fault
answer_holds a options c text (rewriting from block word is rewritten) cause fault = one_term a c from cause (ap inside_of word) is fault
answer_holds a options c text (parsing term block word is parsed) cause fault = one_term a c term cause (ap inside_of word) is fault
answer_holds a options c text (matching inside behind p t block word at are matched) cause (in_term why none fault) = no_inside c.word none inside word
answer_holds a options c text (matching inside behind p t block word at are matched) cause (undivided other some none) = none-some behind (sym none ∙ at)
answer_holds a options c text (matching inside behind p t block word at are matched) cause (in_sides why other ahead some there fault) =
    let same : ahead ≡ behind = same_Some ahead behind (sym there ∙ at) in
    sides_hold a (texts c.term) (texts behind) p t are why (subst (λ ts. SidesFault a (texts c.term) (texts ts) why) same fault)

command_holds : (a : Accepted) (options : Options) (text : List ℕ) (ms : List Accepted) (c : SeenCommand) (cause : FaultKind) → module_for ms c.module ≡ Some a
    → IsAnswer a options c text → CommandFault ms c cause → ⊥
command_holds a options text ms c cause m is (nowhere e none) = none-some a (sym none ∙ m)
command_holds a options text ms c cause m is (unknown n e none) = none-some a (sym none ∙ m)
command_holds a options text ms c cause m is (unanswered b why other fault) =
    let same : b ≡ a = same_Some b a (sym other ∙ m) in
    answer_holds a options c text is why (subst (λ x. AnswerFault x c why) same fault)

abbrev named_modules : List Accepted → List (List ℕ)
named_modules ms = map (λ (m : Accepted). m.name) ms

abbrev named_units : List FlatUnit → List (List ℕ)
named_units us = map (λ (u : FlatUnit). u.name) us

-- the modules have the names of the units, one by one
abbrev AreNamed : Loaded → Type 0
AreNamed l = named_modules l.modules ≡ named_units l.units

member_at : (us : List FlatUnit) (k : ℕ) (u : FlatUnit) → slice_get us k ≡ Some u → Member u.name (named_units us)
member_at [] k u at = absurd (none-some u at)
member_at (v ∷ us) zero u at = inl (ap (λ (w : FlatUnit). w.name) (same_Some v u at))
member_at (v ∷ us) (suc k) u at = inr (member_at us k u at)

-- a name that no unit has isn't found
not_found : (us : List FlatUnit) (n : List ℕ) → (Member n (named_units us) → ⊥) → number_named us n ≡ None
not_found us n unnamed = of (number_named us n) refl
  where
    none : FlatUnit
    none = record { name = []; statements = []; reached = [] }

    found : (k : ℕ) → number_named us n ≡ Some k → Member n (named_units us)
    found k e =
        let first = position-Some (λ (u : FlatUnit). bytes_eq n u.name) us k none e in
        let (u, at) = there us k first.0 in
        let same : n ≡ u.name = (bytes_eq-Decides n u.name).0 (ap (λ (v : FlatUnit). bytes_eq n v.name) (sym (get_or_from_slice_get us k u none at)) ∙ first.1) in
        subst (λ m. Member m (named_units us)) (sym same) (member_at us k u at)

    of : (o : Option ℕ) → number_named us n ≡ o → o ≡ None
    of None e = refl
    of (Some k) e = absurd (unnamed (found k e))

-- nor is one that isn't taken
not_there : (l : Loaded) → AreNamed l → (n : List ℕ) → (IsNameTaken l.modules n → ⊥) → number_named l.units n ≡ None
not_there l named n free = not_found l.units n (λ m. free (subst (Member n) (sym named) m))

module _ (options : Options) (before : Loaded) (alike : AreNamed before) where
  names_kept : (o : Outcome) (text : List ℕ) (bad : Bool) (after : Loaded) → Gives (Run options) before o text bad after → AreNamed after
  names_kept o text bad after (formless f) = alike
  names_kept o text bad after (taken u n named is_taken) = alike
  names_kept o text bad after (refused u n r named free wrong) = alike
  names_kept o text bad after (accepted u n reached a named free is) =
      map-append (λ (m : Accepted). m.name) before.modules (a ∷ []) ∙ ap (λ ns. ns ++ a.name ∷ []) alike ∙ ap (λ m. named_units before.units ++ m ∷ []) is.holds.named
      ∙ sym (map-append (λ (u : FlatUnit). u.name) before.units (record { name = n; statements = (declared_unit u).statements; reached = reached } ∷ []))
  names_kept o text bad after (no_command opts u f by unnamed wrong) = alike
  names_kept o text bad after (faulty opts u c cause by unnamed command wrong) = alike
  names_kept o text bad after (answered opts u c b block by unnamed command m answer) = alike
  names_kept o text bad after (passed max u by unnamed other) = cc
  names_kept o text bad after (judged max u v by unnamed proof is) = cc

  -- what a module gives that is accepted
  from_accepted : (u : SeenUnit) (n reached : List ℕ) (a : Accepted) → name_of u ≡ Some n → (IsNameTaken before.modules n → ⊥)
      → IsAccepted before.units before.modules (declared_unit u) n reached a → (o : Outcome) → o ≡ Ok u → (text : List ℕ) (bad : Bool) (after : Loaded) → Gives (Run options) before o text bad after
      → (false ≡ bad) × (with_module before n (declared_unit u) reached a ≡ after)
  from_accepted u n reached a named free is o e text bad after (formless f) = cc
  from_accepted u n reached a named free is o e text bad after (taken v m other is_taken) =
      let unit : v ≡ u = cc in
      let name : m ≡ n = same_Some m n (sym other ∙ ap name_of unit ∙ named) in
      absurd (free (subst (IsNameTaken before.modules) name is_taken))
  from_accepted u n reached a named free is o e text bad after (refused v m r other not_taken wrong) =
      let unit : v ≡ u = cc in
      let name : m ≡ n = same_Some m n (sym other ∙ ap name_of unit ∙ named) in
      absurd (not_refused before.units before.modules (declared_unit u) n reached a is (not_there before alike n free) r
      (subst (λ k. IsRefused before.units before.modules (declared_unit u) k r) name (subst (λ w. IsRefused before.units before.modules (declared_unit w) m r) unit wrong)))
  from_accepted u n reached a named free is o e text bad after (accepted v m others b other not_taken module_is) =
      let unit : v ≡ u = cc in
      let name : m ≡ n = same_Some m n (sym other ∙ ap name_of unit ∙ named) in
      let same = one_module before.units before.modules (declared_unit u) n reached others a b is
      (subst (λ k. IsAccepted before.units before.modules (declared_unit u) k others b) name (subst (λ w. IsAccepted before.units before.modules (declared_unit w) m others b) unit module_is)) in (
        refl,
        ap (λ ks. with_module before n (declared_unit u) ks a) same.0 ∙ ap (with_module before n (declared_unit u) others) same.1 ∙ ap (λ k. with_module before k (declared_unit u) others b) (sym name)
            ∙ ap (λ w. with_module before m (declared_unit w) others b) (sym unit),
      )
  from_accepted u n reached a named free is o e text bad after (no_command opts v f by unnamed wrong) =
      let unit : v ≡ u = cc in absurd (none-some n (sym unnamed ∙ ap name_of unit ∙ named))
  from_accepted u n reached a named free is o e text bad after (faulty opts v c cause by unnamed command wrong) =
      let unit : v ≡ u = cc in absurd (none-some n (sym unnamed ∙ ap name_of unit ∙ named))
  from_accepted u n reached a named free is o e text bad after (answered opts v c b block by unnamed command m answer) =
      let unit : v ≡ u = cc in absurd (none-some n (sym unnamed ∙ ap name_of unit ∙ named))
  from_accepted u n reached a named free is o e text bad after (passed max v by unnamed no_proof) = cc
  from_accepted u n reached a named free is o e text bad after (judged max v w by unnamed proof told) = cc

  -- what a command gives that is answered
  from_answered : (opts : Options) (u : SeenUnit) (c : SeenCommand) (a : Accepted) (block : List ℕ) → name_of u ≡ None → command_of u ≡ Ok c → module_for before.modules c.module ≡ Some a
      → IsAnswer a opts c block
      → (o : Outcome) → o ≡ Ok u → (text : List ℕ) (bad : Bool) (after : Loaded) → Gives (Run options) before o text bad after → (false ≡ bad) × (before ≡ after)
  from_answered opts u c a block unnamed command m is o e text bad after (formless f) = cc
  from_answered opts u c a block unnamed command m is o e text bad after (taken v n named is_taken) =
      let unit : v ≡ u = cc in absurd (none-some n (sym unnamed ∙ ap name_of (sym unit) ∙ named))
  from_answered opts u c a block unnamed command m is o e text bad after (refused v n r named not_taken wrong) =
      let unit : v ≡ u = cc in absurd (none-some n (sym unnamed ∙ ap name_of (sym unit) ∙ named))
  from_answered opts u c a block unnamed command m is o e text bad after (accepted v n reached b named not_taken module_is) =
      let unit : v ≡ u = cc in absurd (none-some n (sym unnamed ∙ ap name_of (sym unit) ∙ named))
  from_answered opts u c a block unnamed command m is o e text bad after (no_command o2 v f by other wrong) =
      let unit : v ≡ u = cc in
      let both : Ok c ≡ Err f = sym command ∙ ap command_of (sym unit) ∙ wrong in cc
  from_answered opts u c a block unnamed command m is o e text bad after (faulty o2 v d cause by other asked wrong) =
      let unit : v ≡ u = cc in
      let both : Ok d ≡ Ok c = sym asked ∙ ap command_of unit ∙ command in
      let same : d ≡ c = cc in
      absurd (command_holds a opts block before.modules c cause m is (subst (λ k. CommandFault before.modules k cause) same wrong))
  from_answered opts u c a block unnamed command m is o e text bad after (answered o2 v d b other_block by other asked at answer) = (refl, refl)
  from_answered opts u c a block unnamed command m is o e text bad after (passed max v by other no_proof) = cc
  from_answered opts u c a block unnamed command m is o e text bad after (judged max v w by other proof told) = cc

  -- a unit gives refusals alone or none, and the same modules after it
  gives_one : (o : Outcome) (text other : List ℕ) (bad worse : Bool) (after later : Loaded) → Gives (Run options) before o text bad after → Gives (Run options) before o other worse later
      → (bad ≡ worse) × (after ≡ later)
  gives_one o text other bad worse after later (accepted u n reached a named free is) q = from_accepted u n reached a named free is o refl other worse later q
  gives_one o text other bad worse after later (answered opts u c a block by unnamed command m is) q = from_answered opts u c a block unnamed command m is o refl other worse later q
  gives_one o text other bad worse after later p (accepted u n reached a named free is) =
      let back = from_accepted u n reached a named free is o refl text bad after p in (sym back.0, sym back.1)
  gives_one o text other bad worse after later p (answered opts u c a block by unnamed command m is) =
      let back = from_answered opts u c a block unnamed command m is o refl text bad after p in (sym back.0, sym back.1)
  gives_one o text other bad worse after later (passed max u by unnamed no_proof) q = cc
  gives_one o text other bad worse after later (judged max u v by unnamed proof is) q = cc
  gives_one o text other bad worse after later p (passed max u by unnamed no_proof) = cc
  gives_one o text other bad worse after later p (judged max u v by unnamed proof is) = cc
  gives_one o text other bad worse after later p q = (refl, refl)

-- the unit at a place, and the place of the next one, are determined
one_unit : (tokens : List Token) (at : ℕ) (o other : Outcome) (next behind : ℕ) → Reads false tokens at o next → Reads false tokens at other behind → (o ≡ other) × (next ≡ behind)
one_unit tokens at o other next behind p q =
    let first : Reading = record { outcome = o; len = next - at } in
    let second : Reading = record { outcome = other; len = behind - at } in
    let same : first ≡ second = same_Some first second (sym p.reading ∙ q.reading) in
    let length : next - at ≡ behind - at = ap (λ (r : Reading). r.len) same in
    (ap (λ (r : Reading). r.outcome) same, omega (arith, length, p.further, q.further))

module _ (options : Options) (tokens : List Token) where
  -- no place within a unit is reached
  none_within : (fuel p q : ℕ) (ms ns : Loaded) (t u : List ℕ) (bad worse : Bool) → Answered (Run options) tokens p ms t bad → Answered (Run options) tokens q ns u worse → p + q ≤ fuel → p < q
      → (o : Outcome) (next : ℕ) → Reads false tokens p o next → next ≤ q
  none_within zero p q ms ns t u bad worse d e small less o next reads = absurd (omega (arith, small, less))
  none_within (suc fuel) p zero ms ns t u bad worse d nothing_yet small less o next reads = absurd (omega (arith, less))
  none_within (suc fuel) p q ms ns t u bad worse d (one_more at before text was e outcome end last flag after read gives) small less o next reads =
      let further : at < q = read.further in
      ⊎_elim
      (λ same. let one = one_unit tokens p o outcome next q reads (subst (λ k. Reads false tokens k outcome q) same read) in omega (arith, one.1))
      (λ apart. ⊎_elim
      (λ below. let back = none_within fuel at p before ms text t was bad e d (omega (arith, small, further)) below outcome q read in absurd (omega (arith, back, less)))
      (λ above. let on = none_within fuel p at ms before t text bad was d e (omega (arith, small, further)) above o next reads in omega (arith, on, further))
      apart)
      (cases_order at p)

  -- the units and the modules have the same names
  names_held : (p : ℕ) (l : Loaded) (t : List ℕ) (bad : Bool) → Answered (Run options) tokens p l t bad → AreNamed l
  names_held p l t bad nothing_yet = refl
  names_held p l t bad (one_more at before text was d outcome next last flag after read gives) =
      names_kept options before (names_held at before text was d) outcome last flag after gives

  -- the modules at a place are determined, and whether something was refused
  answered_one : (p q : ℕ) (ms ns : Loaded) (t u : List ℕ) (bad worse : Bool) → Answered (Run options) tokens p ms t bad → Answered (Run options) tokens q ns u worse → p ≡ q → (ms ≡ ns) × (bad ≡ worse)
  answered_one p q ms ns t u bad worse nothing_yet nothing_yet e = (refl, refl)
  answered_one p q ms ns t u bad worse nothing_yet (one_more at before text was d outcome next last flag after read gives) e =
      let further = read.further in absurd (omega (arith, further, e))
  answered_one p q ms ns t u bad worse (one_more at before text was d outcome next last flag after read gives) nothing_yet e =
      let further = read.further in absurd (omega (arith, further, e))
  answered_one p q ms ns t u bad worse (one_more at before text was d outcome next last flag after read gives)
      (one_more place earlier written wrong k out end behind worst later reads given) e =
      ⊎_elim
      (λ same.
      let rest = answered_one at place before earlier text written was wrong d k same in
      let one = one_unit tokens place outcome out p q (subst (λ i. Reads false tokens i outcome p) same read) reads in
      let first : Gives (Run options) earlier out last flag after = subst (λ x. Gives (Run options) earlier x last flag after) one.0 (subst (λ xs. Gives (Run options) xs outcome last flag after) rest.0 gives) in
      let here = gives_one options earlier (names_held place earlier written wrong k) out last behind flag worst after later first given in
      (here.1, ap (λ b. b || flag) rest.1 ∙ ap (λ b. wrong || b) here.0))
      (λ apart. ⊎_elim
      (λ below. let on = none_within (at + place) at place before earlier text written was wrong d k (omega arith) below outcome p read in
      let further = reads.further in absurd (omega (arith, on, further, e)))
      (λ above. let on = none_within (place + at) place at earlier before written text wrong was k d (omega arith) above out q reads in
      let further = read.further in absurd (omega (arith, on, further, e)))
      apart)
      (cases_order at place)

-- outputs for the same bytes
pub agree : (options : Options) (bytes text other : List ℕ) (bad worse : Bool) → IsOutput (Run options) bytes text bad → IsOutput (Run options) bytes other worse → bad ≡ worse
agree options bytes text other bad worse (unlexed f e) (unlexed g h) = refl
agree options bytes text other bad worse (unlexed f e) (of_tokens tokens after t b h d) = cc
agree options bytes text other bad worse (of_tokens tokens after t b h d) (unlexed f e) = cc
agree options bytes text other bad worse (of_tokens tokens after t b h d) (of_tokens others later u c k e) =
    let both : Ok tokens ≡ Ok others = sym h ∙ k in
    let same : tokens ≡ others = cc in
    (answered_one options others (length others) (length others) after later t u b c (subst (λ ts. Answered (Run options) ts (length ts) after t b) same d) e refl).1
