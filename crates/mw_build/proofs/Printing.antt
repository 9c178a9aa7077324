-- What is printed of an accepted module's terms reads back.
use Rattle.std.proofs.Common.{length, ◌≡◌, ◌∙◌, ◌⊎◌, ◌||◌, ◌++◌, ℕ, zero, suc, List, [], ◌∷◌, false, Option, Some, None, IsTrue, slice_get, codes, sym, ap, subst, refl, arith, inl, inr, ⊎_elim}
use Rattle.std.proofs.lemmas.Bool.{or_left, or_right, or_cases}
use Rattle.std.proofs.lemmas.Option.{slice_get_within, none-some}
use Rattle.std.proofs.lemmas.List.Elements.{All-nil, All-append, All-map}
use Rattle.mw_lex.specs.declared.token.Token.{Token}
use Rattle.mw_lex.specs.Pieces.{run_len}
use Rattle.mw_lex.specs.Texts.{IsProper, IsTokenText, AreTokens}
use Rattle.mw_lex.proofs.Texts.{lexed_are_tokens}
use Rattle.mw_logic.specs.Term.{Variable, RawTerm, RawTerms}
use Rattle.mw_logic.specs.Substitution.{occurs, occurs_in}
use Rattle.mw_logic.proofs.SameConditions.{same_variable-is, same_variable-refl}
use Rattle.mw_logic.specs.Signature.{Signature, IsSortNamed, Member, at_number}
use Rattle.mw_logic.specs.Module.{Fragment, Statement}
use Rattle.mw_poset.proofs.Members.{member-all}
use Rattle.mw_text.specs.Proper.{IsProperName, AreProperNames}
use Rattle.mw_text.specs.Mixfix.{Spells, IsVariableName}
use Rattle.mw_text.specs.Proper.{HasIdentifiers, HaveIdentifiers}
use Rattle.mw_text.proofs.Identifiers.{spelled_identifiers}
use Rattle.mw_text.proofs.SpelledVariables.{Each, left_of, spelled_variables}
use Rattle.mw_module.specs.Words.{texts}
use Rattle.mw_module.specs.Conditions.{WrittenFragment}
use Rattle.mw_module.specs.Tokens.{HasProperTexts, HasProperParts, AreProperStatements, IsOfTokens}
use Rattle.mw_module.specs.Units.{SeenUnit}
use Rattle.mw_sorts.proofs.Getting.{get-member, member-get}
use Rattle.mw_carry.specs.Carried.{IsSameSort, IsCarried, AreCarried, a_numeral, a_quoted, a_variable, an_operator, end, next, AreCarriedFragments, none, more}
use Rattle.mw_carry.specs.Carried as carried
use Rattle.mw_import.proofs.Lists.{flat_map-member, map-member, pushed_at}
use Rattle.mw_module.proofs.Sources.{units_are_known, units_are_of_tokens}
use Rattle.mw_omod.specs.Declaring.{declared_unit}
use Rattle.mw_omod.proofs.Declaring.{declared_of_tokens}
use Rattle.mw_build.specs.Sides.{Sides, sides_of}
use Rattle.mw_build.proofs.SidesOfTokens.{AreSides, all_sides_proper}
use Rattle.mw_declare.specs.declared.declarations.Declarations.{Declarations}
use Rattle.mw_import.specs.Flat.{FlatUnit}
use Rattle.mw_declare.specs.Proper.{IsProperVariable, AreProper}
use Rattle.mw_declare.proofs.Proper.{all_at, declarations_are_proper}
use Rattle.mw_print.specs.Laws.{AreBinary, IsPrintable}
use Rattle.mw_print.specs.PrefixLaws.{HasWholeSpellings}
use Rattle.mw_print.proofs.ReadBack.{printed_reads_back}
use Rattle.mw_print.proofs.WholeNames.{names_whole}
use Rattle.mw_build.specs.Fragments.{ending, IsFragment, an_equation, a_match, a_test, a_truth}
use Rattle.mw_omod.specs.declared.classes.Classes.{Classes}
use Rattle.mw_omod.specs.Objects.{IsAdded}
use Rattle.mw_omod.proofs.Kept.{only_added}
use Rattle.mw_omod.proofs.Identifiers.{identifiers_stay}
use Rattle.mw_build.specs.Statements.{IsReadAs, IsOwn, own_rule, own_equation, own_statement, statement_of, terms_of}
use Rattle.mw_build.specs.Imported.{Accepted, Origin, origins_in, origins_of}
use Rattle.mw_build.specs.Modules.{IsAccepted, flattened, reached_of}
use Rattle.mw_build.specs.Printing.{AreCut, no_text, one_text, AreOfTokens, none_yet, one_more, IsOfTexts, IsPrintableTerm, IsPrintableStatement, TextsReadBack, SpellingsAreWhole, StatementsArePrintable}
use Rattle.mw_build.proofs.Pairwise.{there, either, all_related}
use Rattle.mw_build.proofs.Terms.{each_term, one_term, two_terms}
use Rattle.mw_build.proofs.Loading.{flattened_all, own_within}
use Rattle.mw_declare.proofs.Accepting.{accepted_declared}
use Rattle.mw_build.proofs.PrintedVariables.{with_sort_printable, declared_printable}

-- it can be printed, or completion added it
abbrev IsTold : Signature → Variable → Type 0
IsTold sig x = IsAdded x ⊎ IsPrintable sig x

-- a module of a unit that is made of tokens, where the units that were accepted have proper statements
module _ (us : List FlatUnit) (ms : List Accepted) (proper : (k : ℕ) (v : FlatUnit) → slice_get us k ≡ Some v → AreProperStatements v.statements)
    (u : SeenUnit) (own : AreProperStatements u.statements) (name reached : List ℕ) (a : Accepted) (is : IsAccepted us ms u name reached a) where
  abbrev d : Declarations
  d = is.declarations

  declared_proper : AreProper d
  declared_proper =
      declarations_are_proper (reached_of us name reached) u.statements (flattened us u reached) is.typing d (own_within us u.line reached u.statements) own is.flat.typed
      (flattened_all HasProperParts us proper u.line reached u.statements own) is.declared

  -- the signature and the variables are those that are declared
  signature_is : a.module.signature ≡ d.signature
  signature_is = is.holds.signature

  binary : AreBinary a.module.signature
  binary = subst AreBinary (sym signature_is)
      (λ f o e h. let (K, L, two, k, l) = (accepted_declared (reached_of us name reached) is.typing (flattened us u reached) d is.declared).assoc f o e h in ap length two)

  names : AreProperNames a.module.signature
  names = subst AreProperNames (sym signature_is) declared_proper.operators

  each_token : (ts : List Token) → AreTokens ts → Each IsTokenText (texts ts)
  each_token ts tokens = member-all IsTokenText (texts ts) (All-map IsTokenText (λ (t : Token). t.text) ts tokens)

  -- and is one token
  whole : HasWholeSpellings a.module.signature
  whole = subst HasWholeSpellings (sym signature_is) (λ f o is.
      let (ts, e) = declared_proper.spelled f o is in
      subst (λ name. run_len name ≡ length name) (sym e) (names_whole ts (subst IsProperName e (declared_proper.operators f o is))))

  -- the variables and the quoted identifiers of what tokens spell
  text_printable : (text : List (List ℕ)) (t : RawTerm) (p : ℕ) → Each IsTokenText text → Spells d.signature d.variables t p text → IsPrintableTerm d.signature t
  text_printable text t p each s = record {
    variables = λ x o. inr (spelled_variables d.signature d.variables (IsPrintable d.signature) IsTokenText
        (λ y m. declared_printable d.signature declared_proper.sorts y (member-all (IsProperVariable d.signature) d.variables declared_proper.variables y m))
        (with_sort_printable d.signature) s each x o);
    identifiers = spelled_identifiers d.signature d.variables s each;
  }

  side_printable : (ts : List Token) (t : RawTerm) (p : ℕ) → AreTokens ts → Spells d.signature d.variables t p (texts ts) → IsPrintableTerm d.signature t
  side_printable ts t p tokens s = text_printable (texts ts) t p (each_token ts tokens) s

  -- so of the terms of a fragment
  fragment_printable : (w : WrittenFragment) (f : Fragment) → HasProperTexts w → IsFragment d.signature d.variables w f → (t : RawTerm) → Member t (terms_of (f ∷ []))
      → IsPrintableTerm d.signature t
  fragment_printable w f tokens (an_equation left right u v r) =
      two_terms (IsPrintableTerm d.signature) u v (side_printable left u _ tokens.0 r.only.0.first.spells) (side_printable right v _ tokens.1 r.only.0.second.spells)
  fragment_printable w f tokens (a_match pattern term p t r) =
      two_terms (IsPrintableTerm d.signature) p t (side_printable pattern p _ tokens.0 r.only.0.first.spells) (side_printable term t _ tokens.1 r.only.0.second.spells)
  fragment_printable w f tokens (a_test ts term S t is r) =
      let each : Each IsTokenText term = left_of IsTokenText term (ending is.bracketed is.name) (subst (Each IsTokenText) is.asks.whole (each_token ts tokens)) in
      one_term (IsPrintableTerm d.signature) t (text_printable term t _ each r.spelled.spells)
  fragment_printable w f tokens (a_truth ts B b not is r) = one_term (IsPrintableTerm d.signature) b (side_printable ts b _ tokens r.spelled.spells)

  -- what is printed of a statement is printed of the completed one
  own_printable_statement : (objects : Option Classes) (e st : Statement) → IsOwn d.signature objects e st → IsPrintableStatement d.signature e → IsPrintableStatement d.signature st
  own_printable_statement objects e st (own_statement c fine) p = p
  own_printable_statement objects e st (own_equation K c equation fine) p = p
  own_printable_statement objects e st (own_rule K c x rule is) (left, right, fragments) =
      let (l, m) = identifiers_stay d.signature K c x is.completed left.identifiers right.identifiers in (
        record { variables = λ y o. told y (or_left (occurs y x.left) (occurs y x.right) o); identifiers = l },
        record { variables = λ y o. told y (or_right (occurs y x.left) (occurs y x.right) o); identifiers = m },
        λ t h. fragments t (subst (λ C. Member t (terms_of C)) is.completed.fragments h),
      )
    where
      told : (y : Variable) → IsTrue (occurs y x.left || occurs y x.right) → IsTold d.signature y
      told y o = elim (only_added d.signature K c x y is.completed o) [
        | inl h ↦ elim (or_cases (occurs y c.left) (occurs y c.right) h) [ inl k ↦ left.variables y k | inr k ↦ right.variables y k ]
        | inr h ↦ inl h
      ]

  statement_printable : (e : Sides) (st : Statement) → AreSides e → IsReadAs d.signature d.variables is.objects e st → IsPrintableStatement d.signature st
  statement_printable e st tokens is_read =
      let left = side_printable e.left is_read.left _ tokens.0 is_read.read.only.0.first.spells in
      let right = side_printable e.right is_read.right _ tokens.1 is_read.read.only.0.second.spells in
      let each = all_related (IsFragment d.signature d.variables) HasProperTexts (λ f. (t : RawTerm) → Member t (terms_of (f ∷ [])) → IsPrintableTerm d.signature t) fragment_printable
      e.fragments is_read.condition tokens.2 is_read.fragments in
      own_printable_statement is.objects (statement_of is_read.left is_read.right is_read.condition e.rule e.executable) st is_read.holds (left, right, each_term (IsPrintableTerm d.signature) is_read.condition each)

  own_printable : (i : ℕ) (st : Statement) → slice_get a.own i ≡ Some st → IsPrintableStatement d.signature st
  own_printable i st at =
      let es = sides_of u.statements in
      let all = is.holds.own_are in
      let w = slice_get_within a.own i st at in
      let e = there es i (omega (arith, w, all.count)) in
      statement_printable e.0 st (all_at AreSides es (all_sides_proper u.statements own) (suc i) e.0 e.1) (all.each i e.0 st e.1 at)

-- variables that stand for others have their names
variable_carried : (sig to : Signature) (x y : Variable) → x.name ≡ y.name → IsSameSort sig to x.sort y.sort → IsPrintable sig x → IsPrintable to y
variable_carried sig to x y n s p =
    let same : p.sort ≡ s.name = one_name sig x.sort p.sort s.name p.sorted s.here in
    record {
      named = subst IsVariableName n p.named;
      sort = s.name;
      sorted = s.there;
      proper = subst IsProper (ap (λ name. name ++ codes ":" ++ p.sort) n ∙ ap (λ S. y.name ++ codes ":" ++ S) same) p.proper;
    }
  where
    one_name : (sig : Signature) (S : ℕ) (m n : List ℕ) → IsSortNamed sig S m → IsSortNamed sig S n → m ≡ n
    one_name sig S m n e f = cc

-- and so have those that completion added
told_carried : (sig to : Signature) (x y : Variable) → x.name ≡ y.name → IsSameSort sig to x.sort y.sort → IsTold sig x → IsTold to y
told_carried sig to x y n s (inl (name, e)) = inl (name, sym n ∙ e)
told_carried sig to x y n s (inr p) = inr (variable_carried sig to x y n s p)

mutual
  carried_printable : (sig to : Signature) (t u : RawTerm) → IsCarried sig to t u → ((x : Variable) → IsTrue (occurs x t) → IsTold sig x) → (x : Variable) → IsTrue (occurs x u) → IsTold to x
  carried_printable sig to t u (a_numeral n) p x h = cc
  carried_printable sig to t u (a_quoted q) p x h = cc
  carried_printable sig to t u (a_variable y z n s) p x h = subst (IsTold to) (same_variable-is z x h) (told_carried sig to y z n s (p y (same_variable-refl y)))
  carried_printable sig to t u (an_operator f g ts us is args) p x h = all_printable sig to ts us args p x h

  all_printable : (sig to : Signature) (ts us : RawTerms) → AreCarried sig to ts us → ((x : Variable) → IsTrue (occurs_in x ts) → IsTold sig x)
      → (x : Variable) → IsTrue (occurs_in x us) → IsTold to x
  all_printable sig to ts us end p x h = cc
  all_printable sig to ts us (next t u vs ws c cs) p x h = elim (or_cases (occurs x u) (occurs_in x ws) h) [
    | inl k ↦ carried_printable sig to t u c (λ y o. p y (or_left (occurs y t) (occurs_in y vs) o)) x k
    | inr k ↦ all_printable sig to vs ws cs (λ y o. p y (or_right (occurs y t) (occurs_in y vs) o)) x k
  ]

-- so are quoted identifiers what they were
mutual
  carried_identifiers : (sig to : Signature) (t u : RawTerm) → IsCarried sig to t u → HasIdentifiers t → HasIdentifiers u
  carried_identifiers sig to t u (a_numeral n) h = h
  carried_identifiers sig to t u (a_quoted q) h = h
  carried_identifiers sig to t u (a_variable y z n s) h = tt
  carried_identifiers sig to t u (an_operator f g ts us is args) h = all_identifiers sig to ts us args h

  all_identifiers : (sig to : Signature) (ts us : RawTerms) → AreCarried sig to ts us → HaveIdentifiers ts → HaveIdentifiers us
  all_identifiers sig to ts us end h = tt
  all_identifiers sig to ts us (next t u vs ws c cs) h = (carried_identifiers sig to t u c h.0, all_identifiers sig to vs ws cs h.1)

carried_term : (sig to : Signature) (t u : RawTerm) → IsCarried sig to t u → IsPrintableTerm sig t → IsPrintableTerm to u
carried_term sig to t u c p = record { variables = carried_printable sig to t u c p.variables; identifiers = carried_identifiers sig to t u c p.identifiers }

carried_fragments : (sig to : Signature) (C D : List Fragment) → AreCarriedFragments sig to C D → ((t : RawTerm) → Member t (terms_of C) → IsPrintableTerm sig t)
    → (u : RawTerm) → Member u (terms_of D) → IsPrintableTerm to u
carried_fragments sig to C D none p x m = absurd m
carried_fragments sig to C D (more f g cs ds (carried.an_equation u v w z a b) rest) p x (inl e) = subst (IsPrintableTerm to) e (carried_term sig to u w a (p u (inl refl)))
carried_fragments sig to C D (more f g cs ds (carried.an_equation u v w z a b) rest) p x (inr (inl e)) = subst (IsPrintableTerm to) e (carried_term sig to v z b (p v (inr (inl refl))))
carried_fragments sig to C D (more f g cs ds (carried.an_equation u v w z a b) rest) p x (inr (inr m)) = carried_fragments sig to cs ds rest (λ t k. p t (inr (inr k))) x m
carried_fragments sig to C D (more f g cs ds (carried.a_match u v w z a b) rest) p x (inl e) = subst (IsPrintableTerm to) e (carried_term sig to u w a (p u (inl refl)))
carried_fragments sig to C D (more f g cs ds (carried.a_match u v w z a b) rest) p x (inr (inl e)) = subst (IsPrintableTerm to) e (carried_term sig to v z b (p v (inr (inl refl))))
carried_fragments sig to C D (more f g cs ds (carried.a_match u v w z a b) rest) p x (inr (inr m)) = carried_fragments sig to cs ds rest (λ t k. p t (inr (inr k))) x m
carried_fragments sig to C D (more f g cs ds (carried.a_test u w S T a s) rest) p x (inl e) = subst (IsPrintableTerm to) e (carried_term sig to u w a (p u (inl refl)))
carried_fragments sig to C D (more f g cs ds (carried.a_test u w S T a s) rest) p x (inr m) = carried_fragments sig to cs ds rest (λ t k. p t (inr k)) x m
carried_fragments sig to C D (more f g cs ds (carried.a_truth u w a) rest) p x (inl e) = subst (IsPrintableTerm to) e (carried_term sig to u w a (p u (inl refl)))
carried_fragments sig to C D (more f g cs ds (carried.a_truth u w a) rest) p x (inr m) = carried_fragments sig to cs ds rest (λ t k. p t (inr k)) x m

-- texts that are cut are tokens
cut_tokens : (texts : List (List ℕ)) (tokens : List Token) → AreCut texts tokens → AreTokens tokens
cut_tokens texts tokens no_text = All-nil (λ (t : Token). IsTokenText t.text)
cut_tokens texts tokens (one_text text others first rest is cut) = All-append (λ (t : Token). IsTokenText t.text) first rest (lexed_are_tokens text first is) (cut_tokens others rest cut)

-- The modules of units of tokens: units have proper statements, and the modules' own statements can be printed.
record AreFine (us : List FlatUnit) (ms : List Accepted) : Type 0 where
  pub proper : (k : ℕ) (v : FlatUnit) → slice_get us k ≡ Some v → AreProperStatements v.statements
  pub own : (k : ℕ) (m : Accepted) → slice_get ms k ≡ Some m → (i : ℕ) (st : Statement) → slice_get m.own i ≡ Some st → IsPrintableStatement m.module.signature st

module _ (tokens : List Token) (of_tokens : AreTokens tokens) where
  fine : (us : List FlatUnit) (ms : List Accepted) → AreOfTokens tokens us ms → AreFine us ms
  fine us ms none_yet = record { proper = λ k v e. absurd (none-some v e); own = λ k m e. absurd (none-some m e) }
  fine us ms (one_more vs ns at further u name reached a before read is) =
      let rest = fine vs ns before in
      let d = declared_unit u in
      let made : IsOfTokens d = declared_of_tokens u (units_are_known false tokens at further u read) (units_are_of_tokens false tokens at further u of_tokens read) in
      let new : FlatUnit = record { name = name; statements = d.statements; reached = reached } in
      let printable : (i : ℕ) (st : Statement) → slice_get a.own i ≡ Some st → IsPrintableStatement a.module.signature st =
      λ i st e. subst (λ S. IsPrintableStatement S st) (sym (signature_is vs ns rest.proper d made.statements name reached a is)) (own_printable vs ns rest.proper d made.statements name reached a is i st e) in
      record {
        proper = λ k v e. ⊎_elim (λ h. rest.proper k v h) (λ h. subst (λ (w : FlatUnit). AreProperStatements w.statements) h.1 made.statements) (pushed_at vs new v k e);
        own = λ k m e. ⊎_elim (λ h. rest.own k m h) (λ h. subst (λ (b : Accepted). (i : ℕ) (st : Statement) → slice_get b.own i ≡ Some st → IsPrintableStatement b.module.signature st) h.1 printable) (pushed_at ns a m k e);
      }

-- Where modules' own statements can be printed, so can be those that stand for them.
origin_printable : (ms : List Accepted) (ks : List ℕ)
    → ((k : ℕ) (m : Accepted) → slice_get ms k ≡ Some m → (i : ℕ) (st : Statement) → slice_get m.own i ≡ Some st → IsPrintableStatement m.module.signature st)
    → (e : Origin) → Member e (origins_of ms ks) → IsPrintableStatement e.signature e.statement
origin_printable ms ks own e m =
    let (k, there, inside) = flat_map-member (λ (k : ℕ). origins_in (slice_get ms k)) e ks m in in_one (slice_get ms k) (own k) inside
  where
    in_one : (o : Option Accepted) → ((m : Accepted) → o ≡ Some m → (i : ℕ) (st : Statement) → slice_get m.own i ≡ Some st → IsPrintableStatement m.module.signature st)
        → Member e (origins_in o) → IsPrintableStatement e.signature e.statement
    in_one None h inside = absurd inside
    in_one (Some a) h inside =
        let (st, member, is) = map-member (λ (st : Statement). let o : Origin = record { signature = a.module.signature; statement = st } in o) e a.own inside in
        let (i, at) = member-get a.own st member in
        subst (λ (o : Origin). IsPrintableStatement o.signature o.statement) is (h a refl i st at)

module _ (texts : List (List ℕ)) (a : Accepted) (of : IsOfTexts texts a) where
  of_tokens : AreTokens of.tokens
  of_tokens = cut_tokens texts of.tokens of.cut

  before : AreFine of.units of.modules
  before = fine of.tokens of_tokens of.units of.modules of.before

  made : IsOfTokens (declared_unit of.unit)
  made = declared_of_tokens of.unit (units_are_known false of.tokens of.at of.next of.unit of.read) (units_are_of_tokens false of.tokens of.at of.next of.unit of_tokens of.read)

  imported_printable : (i : ℕ) (st : Statement) → slice_get of.accepted.holds.imported i ≡ Some st → IsPrintableStatement of.accepted.declarations.signature st
  imported_printable i st at =
      let origins = origins_of of.modules of.reached in
      let all = of.accepted.holds.imported_are in
      let w = slice_get_within of.accepted.holds.imported i st at in
      let (e, there_is) = there origins i (omega (arith, w, all.count)) in
      let p = origin_printable of.modules of.reached before.own e (get-member origins i e there_is) in
      let c = (all.each i e st there_is at).carried in
      let sig = of.accepted.declarations.signature in (
        carried_term e.signature sig e.statement.left st.left c.left p.0,
        carried_term e.signature sig e.statement.right st.right c.right p.1,
        carried_fragments e.signature sig e.statement.fragments st.fragments c.fragments p.2,
      )

  statements_printable : (k : ℕ) (st : Statement) → at_number a.module.statements k ≡ Some st → IsPrintableStatement of.accepted.declarations.signature st
  statements_printable zero st is = cc
  statements_printable (suc i) st is = elim (either of.accepted.holds.imported a.own i st (subst (λ sts. slice_get sts i ≡ Some st) of.accepted.holds.statements is)) [
    | inl h ↦ imported_printable i st h
    | inr h ↦ own_printable of.units of.modules before.proper (declared_unit of.unit) made.statements a.name of.reached a of.accepted h.0 st h.1
  ]

pub texts_read_back : TextsReadBack
texts_read_back texts a t of raw printable identifiers =
    let us = of.units in
    let ms = of.modules in
    let proper = (before texts a of).proper in
    let own = (made texts a of).statements in
    printed_reads_back a.module.signature a.variables t (binary us ms proper (declared_unit of.unit) own a.name of.reached a of.accepted) (names us ms proper (declared_unit of.unit) own a.name of.reached a of.accepted)
    raw printable identifiers

pub spellings_are_whole : SpellingsAreWhole
spellings_are_whole texts a of = whole of.units of.modules (before texts a of).proper (declared_unit of.unit) (made texts a of).statements a.name of.reached a of.accepted

pub statements_are_printable : StatementsArePrintable
statements_are_printable texts a k st of is =
    subst (λ S. IsPrintableStatement S st) (sym of.accepted.holds.signature) (statements_printable texts a of k st is)
