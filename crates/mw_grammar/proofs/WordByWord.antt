-- Words, one after another.
use Rattle.std.proofs.Common.{ℕ, ◌≡◌, ◌∙◌, ◌⊎◌, ◌+◌, List, [], ◌∷◌, ◌++◌, length, codes, Bool, IsTrue, Option, None, Some, refl, sym, ap, subst, inl, inr, arith, length-append}
use Rattle.std.specs.List.{slice_get}
use Rattle.std.specs.Prelude.{◌↔◌}
use Rattle.mw_logic.specs.Term.{Variable, RawTerm, numeral, quoted, variable, apply}
use Rattle.mw_logic.specs.Signature.{Signature, IsSortNamed, SameKind, same as same_kind, HasKind, of_numeral, of_quoted, of_variable, Member}
use Rattle.mw_chart.specs.Listed.{inner}
use Rattle.mw_text.specs.Interned.{number_of}
use Rattle.mw_text.specs.Mixfix.{IsIdentifier}
use Rattle.mw_chart.specs.declared.terminal.Leaf.{Leaf}
use Rattle.mw_chart.specs.declared.terminal.Terminal.{Terminal}
use Rattle.mw_grammar.specs.Leaves.{IsOfOne, IsWithSort, IsAlone, IsKindOf, IsNumeralLeaf, IsIdentifierLeaf, IsVariableLeaf}
use Rattle.mw_grammar.specs.Listing.{IsListed}
use Rattle.mw_grammar.specs.Readable.{kind_in, HasOne, IsKindNamed}
use Rattle.mw_grammar.specs.Grammars.{IsGrammarOf}
use Rattle.mw_grammar.specs.declared.grammar.Grammar.{Grammar}
use Rattle.mw_grammar.specs.Compiled.{Extends}
use Rattle.mw_grammar.proofs.Listings.{declared_to, declared_from}
use Rattle.mw_grammar.specs.Worded.{IsWord, AllDiffer, AreWords, Adds}
use Rattle.mw_grammar.proofs.Made.{get_grows}
use Rattle.mw_grammar.proofs.Writing.{back}

module _ (sig : Signature) (variables : List Variable) (g : Grammar) (is : IsGrammarOf sig variables g) (token : List ℕ) where
  -- what a word's leaves are
  abbrev pub IsFound : RawTerm → ℕ → Type 0
  IsFound t K = ((IsNumeralLeaf g.numbers token t K ⊎ IsIdentifierLeaf g.identifiers token t K) ⊎ IsVariableLeaf (kind_in g.kinds) (IsOfOne (inner g.declared.items (number_of g.names token)) token) t K)
      ⊎ IsVariableLeaf (kind_in g.kinds) (IsWithSort (IsListed g.names g.named.items) token) t K

  -- the kind of the one sort of a name
  named_kind : (K S : ℕ) (name : List ℕ) → HasOne sig name → IsSortNamed sig S name → K ≡ kind_in g.kinds S → (T L : ℕ) → IsSortNamed sig T name → SameKind sig T L → K ≡ kind_in g.kinds L
  named_kind K S name one at k T L it s =
      let same : T ≡ S = one.2 T it ∙ sym (one.2 S at) in k ∙ ap (kind_in g.kinds) (sym same) ∙ is.kinds.agree T L s

  numeral_kind : (n K : ℕ) → g.numbers ≡ Some K → IsTrue sig.nat × IsKindOf sig (kind_in g.kinds) (numeral n) K
  numeral_kind n K e = of g.numbers e is.numbers
    where
      by_kind : (S : ℕ) → IsSortNamed sig S (codes "Nat") → K ≡ kind_in g.kinds S → IsTrue sig.nat → (L : ℕ) → HasKind sig (numeral n) L → K ≡ kind_in g.kinds L
      by_kind S at k nat L (of_numeral T it h s) = named_kind K S (codes "Nat") (is.readable.numbers nat) at k T L it s

      of : (o : Option ℕ) → o ≡ Some K → IsKindNamed (λ S. IsSortNamed sig S (codes "Nat")) (kind_in g.kinds) sig.nat o → IsTrue sig.nat × IsKindOf sig (kind_in g.kinds) (numeral n) K
      of None f h = let bad : ⊥ = (cc) in absurd bad
      of (Some L) f (nat, S, at, k) =
          let same : L ≡ K = (cc) in (nat, record { one = S; has = of_numeral S at nat same_kind; all = by_kind S at (sym same ∙ k) nat })

  identifier_kind : (q : List ℕ) (K : ℕ) → g.identifiers ≡ Some K → IsTrue sig.qid × IsKindOf sig (kind_in g.kinds) (quoted q) K
  identifier_kind q K e = of g.identifiers e is.identifiers
    where
      by_kind : (S : ℕ) → IsSortNamed sig S (codes "Qid") → K ≡ kind_in g.kinds S → IsTrue sig.qid → (L : ℕ) → HasKind sig (quoted q) L → K ≡ kind_in g.kinds L
      by_kind S at k qid L (of_quoted T it h s) = named_kind K S (codes "Qid") (is.readable.identifiers qid) at k T L it s

      of : (o : Option ℕ) → o ≡ Some K → IsKindNamed (λ S. IsSortNamed sig S (codes "Qid")) (kind_in g.kinds) sig.qid o → IsTrue sig.qid × IsKindOf sig (kind_in g.kinds) (quoted q) K
      of None f h = let bad : ⊥ = (cc) in absurd bad
      of (Some L) f (qid, S, at, k) =
          let same : L ≡ K = (cc) in (qid, record { one = S; has = of_quoted S at qid same_kind; all = by_kind S at (sym same ∙ k) qid })

  variable_kind : (x : Variable) (K : ℕ) → K ≡ kind_in g.kinds x.sort → IsKindOf sig (kind_in g.kinds) (variable x) K
  variable_kind x K e = record { one = x.sort; has = of_variable same_kind; all = by_kind }
    where
      by_kind : (L : ℕ) → HasKind sig (variable x) L → K ≡ kind_in g.kinds L
      by_kind L (of_variable s) = e ∙ is.kinds.agree x.sort L s

  -- a known kind
  some_kind : (wanted : Bool) (name : List ℕ) (o : Option ℕ) → IsTrue wanted → HasOne sig name → IsKindNamed (λ S. IsSortNamed sig S name) (kind_in g.kinds) wanted o → (K : ℕ) × (o ≡ Some K)
  some_kind wanted name None h one k = absurd (k h one.0 one.1)
  some_kind wanted name (Some K) h one k = (K, refl)

  own : (S : ℕ) → IsListed g.names g.declared.items token S ↔ Member {X = Variable} (record { name = token; sort = S }) variables
  own S = is.variables_are.own token S

  found_alone : (t : RawTerm) (K : ℕ) → IsFound t K → IsAlone sig variables token t × IsKindOf sig (kind_in g.kinds) t K
  found_alone t K (inl (inl (inl (n, e, k, f)))) =
      let r = numeral_kind n K k in
      let both : IsAlone sig variables token (numeral n) × IsKindOf sig (kind_in g.kinds) (numeral n) K = ((r.0, f), r.1) in
      subst (λ (u : RawTerm). IsAlone sig variables token u × IsKindOf sig (kind_in g.kinds) u K) (sym e) both
  found_alone t K (inl (inl (inr (e, k, i)))) =
      let r = identifier_kind token K k in
      let both : IsAlone sig variables token (quoted token) × IsKindOf sig (kind_in g.kinds) (quoted token) K = ((r.0, i, refl), r.1) in
      subst (λ (u : RawTerm). IsAlone sig variables token u × IsKindOf sig (kind_in g.kinds) u K) (sym e) both
  found_alone t K (inl (inr (x, e, k, h))) =
      let both : IsAlone sig variables token (variable x) × IsKindOf sig (kind_in g.kinds) (variable x) K = (inl (declared_to variables _ token own x h), variable_kind x K k) in
      subst (λ (u : RawTerm). IsAlone sig variables token u × IsKindOf sig (kind_in g.kinds) u K) (sym e) both
  found_alone t K (inr (x, e, k, (S, h, name, f))) =
      let both : IsAlone sig variables token (variable x) × IsKindOf sig (kind_in g.kinds) (variable x) K = (inr (S, (is.sorts.own S x.sort).0 h, name, f), variable_kind x K k) in
      subst (λ (u : RawTerm). IsAlone sig variables token u × IsKindOf sig (kind_in g.kinds) u K) (sym e) both

  alone_found : (t : RawTerm) → IsAlone sig variables token t → (K : ℕ) × IsFound t K
  alone_found (numeral n) (nat, e) =
      let k = some_kind sig.nat (codes "Nat") g.numbers nat (is.readable.numbers nat) is.numbers in (k.0, inl (inl (inl (n, refl, k.1, e))))
  alone_found (quoted q) (qid, i, e) =
      let k = some_kind sig.qid (codes "Qid") g.identifiers qid (is.readable.identifiers qid) is.identifiers in
      (k.0, inl (inl (inr (ap quoted (sym e), k.1, subst IsIdentifier (sym e) i))))
  alone_found (variable x) (inl h) = (kind_in g.kinds x.sort, inl (inr (x, refl, refl, declared_from variables _ token own x h)))
  alone_found (variable x) (inr (S, h, name, e)) = (kind_in g.kinds x.sort, inr (x, refl, refl, (S, (is.sorts.own S x.sort).1 h, name, e)))
  alone_found (apply f ts) h = absurd h

  -- the terms that were found are those of the word
  pub word_is : (old new : List RawTerm) (before : List Leaf) (word : Terminal) → before ≡ [] → word.token ≡ number_of g.names token → Adds old new before word.leaves.items IsFound
      → IsWord sig variables (kind_in g.kinds) g.names new token word
  word_is old new before word none number f = record {
    number = number;
    sound = λ l m. elim (f.sound l m) [
      | inl h ↦ absurd (subst (Member l) none h)
      | inr (t, at, k) ↦ let r = found_alone t l.state k in (t, (at, r.1), r.0)
    ];
    complete = λ t h.
        let k = alone_found t h in
        let l = f.complete t k.0 k.1 in
        (l.0, l.1, (l.2, subst (IsKindOf sig (kind_in g.kinds) t) (sym l.3) (found_alone t k.0 k.1).1));
  }

module _ (sig : Signature) (names : List (List ℕ)) (variables : List Variable) (kind : ℕ → ℕ) where
  word_grows : (old new : List RawTerm) (token : List ℕ) (word : Terminal) → Extends old new → IsWord sig variables kind names old token word → IsWord sig variables kind names new token word
  word_grows old new token word e w = record {
    number = w.number;
    sound = λ l m. let r = w.sound l m in (r.0, (get_grows old new l.value r.0 e r.1.0, r.1.1), r.2);
    complete = λ x h. let r = w.complete x h in (r.0, r.1, (get_grows old new r.0.value x e r.2.0, r.2.1));
  }

  -- the words of the first so many tokens
  pub record HasWords (leaves : List RawTerm) (tokens : List (List ℕ)) (i : ℕ) (words : List Terminal) : Type 0 where
    pub count : length words ≡ i
    pub each : (k : ℕ) (token : List ℕ) (word : Terminal) → slice_get tokens k ≡ Some token → slice_get words k ≡ Some word → IsWord sig variables kind names leaves token word
    pub differ : AllDiffer leaves

  pub no_words : (leaves : List RawTerm) (tokens : List (List ℕ)) (words : List Terminal) → leaves ≡ [] → words ≡ [] → HasWords leaves tokens 0 words
  no_words leaves tokens words none empty = record {
    count = ap length empty;
    each = λ k t w at got. absurd (nothing words k w empty got);
    differ = λ v w x a b. absurd (nothing leaves v x none a);
  }
    where
      nothing : {A : Type 0} (xs : List A) (k : ℕ) (x : A) → xs ≡ [] → slice_get xs k ≡ Some x → ⊥
      nothing {A} xs k x e h = let bad : slice_get {X = A} [] k ≡ Some x = sym (ap (λ ys. slice_get ys k) e) ∙ h in cc

  same_token : (tokens : List (List ℕ)) (k : ℕ) (s t : List ℕ) → slice_get tokens k ≡ Some s → slice_get tokens k ≡ Some t → s ≡ t
  same_token tokens k s t a b = cc

  pub words_push : (old new : List RawTerm) (tokens : List (List ℕ)) (i : ℕ) (words : List Terminal) (token : List ℕ) (word : Terminal) → Extends old new → (AllDiffer old → AllDiffer new)
      → slice_get tokens i ≡ Some token → IsWord sig variables kind names new token word → HasWords old tokens i words → HasWords new tokens (i + 1) (words ++ word ∷ [])
  words_push old new tokens i words token word e d there is h = record {
    count = (let l = length-append words (word ∷ []) in let c = h.count in omega (arith, l, c));
    each = λ k t w at got. elim (back words word k w got) [
      | inl p ↦ word_grows old new t w e (h.each k t w at p)
      | inr (p, q) ↦
          let place : slice_get tokens k ≡ Some token = ap (slice_get tokens) (p ∙ h.count) ∙ there in
          subst (IsWord sig variables kind names new t) q (subst (λ (s : List ℕ). IsWord sig variables kind names new s word) (same_token tokens k token t place at) is)
    ];
    differ = d h.differ;
  }

  pub words_are : (leaves : List RawTerm) (tokens : List (List ℕ)) (i : ℕ) (words : List Terminal) → i ≡ length tokens → HasWords leaves tokens i words
      → AreWords sig variables kind names leaves tokens words
  words_are leaves tokens i words e h = record { count = h.count ∙ e; each = h.each; differ = h.differ }
