-- What the chart's answers say of the terms that tokens spell.
use Rattle.std.proofs.Common.{◌++◌, ◌≡◌, ◌≢◌, ◌≤◌, ◌<◌, ◌∙◌, ℕ, List, [], ◌∷◌, length, Option, None, Some, option_map, refl, sym, ap, subst, ⊎_elim, inl, inr}
use Rattle.mw_lex.specs.declared.token.Token.{Token}
use Rattle.mw_logic.specs.Term.{Variable, RawTerm, apply, nil, cons, join}
use Rattle.mw_logic.specs.Signature.{Signature}
use Rattle.mw_text.specs.Mixfix as mixfix
use Rattle.mw_text.specs.Mixfix.{Reads}
use Rattle.mw_text.specs.Readings.{ArePair, ReadsPair, NoneHas, BothHave}
use Rattle.mw_term.specs.declared.raw.Raw.{Raw}
use Rattle.mw_term.specs.Raws.{raw_term, raw_terms}
use Rattle.mw_chart.specs.Tree.{Tree, app}
use Rattle.mw_chart.specs.Answer as chart
use Rattle.mw_chart.specs.declared.table.Table.{Table}
use Rattle.mw_chart.specs.declared.terminal.Terminal.{Terminal}
use Rattle.mw_chart.specs.declared.fault.TreePair.{TreePair}
use Rattle.mw_chart.specs.declared.fault.Unread.{Unread}
use Rattle.mw_chart.specs.declared.fault.Unread.TheVariants.{TooLong, NoParse, Ambiguous, Memory}
use Rattle.mw_grammar.specs.Readable.{kind_in}
use Rattle.mw_grammar.specs.Meaning.{term_of, with_last}
use Rattle.mw_grammar.specs.Grammars.{IsGrammarOf, IsWordsOf, texts}
use Rattle.mw_grammar.specs.Exact.{IsTree, AreExact}
use Rattle.mw_grammar.specs.declared.grammar.Words.{Words}
use Rattle.mw_grammar.proofs.Exactly.{exactly}
use Rattle.mw_grammar.specs.declared.grammar.Grammar.{Grammar}
use Rattle.mw_parse.specs.Answers.{HasCause, HasPairCause}
use Rattle.mw_parse.specs.Tops.{IsTop, IsTold, IsPairTold}
use Rattle.mw_parse.specs.declared.terms.Top.{Top}
use Rattle.mw_parse.specs.declared.terms.Top.TheVariants.{Operator, Leaf}
use Rattle.mw_grammar.specs.declared.alone.Alone.TheVariants.{Number, Identifier, Variable as VariableToken}

pub exact_words : (sig : Signature) (variables : List Variable) (g : Grammar) (tokens : List Token) (w : Words) → IsGrammarOf sig variables g → IsWordsOf sig variables g tokens w
    → AreExact sig variables (kind_in g.kinds) g.table w.leaves (texts tokens) w.words.items
exact_words sig variables g tokens w is words =
    exactly sig variables (kind_in g.kinds) is.kinds is.readable is.declared g.names g.table is.compiled w.leaves (texts tokens) w.words.items words

module _ (sig : Signature) (variables : List Variable) (kind : ℕ → ℕ) (g : Table) (terms : g.kinds ≡ length sig.sorts) (leaves : List RawTerm) (tokens : List (List ℕ)) (words : List Terminal)
    (count : length words ≡ length tokens) (exact : AreExact sig variables kind g leaves tokens words) where
  -- the chart's trees of the wanted kind are the grammar's
  tree : (wanted : Option ℕ) (t : Tree) → chart.IsSpelled g (option_map kind wanted) words t → IsTree sig kind g wanted words t
  tree None t (K, within, want, of) = record { K = K; within = subst (λ n. K ≤ n) terms within; is_wanted = tt; spelled = of }
  tree (Some S) t (K, within, want, of) = record { K = K; within = subst (λ n. K ≤ n) terms within; is_wanted = sym want; spelled = of }

  spelled_by : (wanted : Option ℕ) (t : Tree) → IsTree sig kind g wanted words t → chart.IsSpelled g (option_map kind wanted) words t
  spelled_by None t h = (h.K, subst (λ n. h.K ≤ n) (sym terms) h.within, tt, h.spelled)
  spelled_by (Some S) t h = (h.K, subst (λ n. h.K ≤ n) (sym terms) h.within, sym h.is_wanted, h.spelled)

  pub reads : (wanted : Option ℕ) (t : Tree) → chart.Reads g (option_map kind wanted) words t → Reads sig variables wanted tokens (term_of leaves t)
  reads wanted t h = exact.only wanted t (subst (λ n. n ≤ 1024) count h.short) (tree wanted t h.spelled) (λ u k. h.only u (spelled_by wanted u k))

  none : (wanted : Option ℕ) → ((u : Tree) → chart.IsSpelled g (option_map kind wanted) words u → ⊥) → NoneHas (mixfix.IsSpelled sig variables wanted tokens)
  none wanted never t h = let r = exact.complete wanted t h in never r.0 (spelled_by wanted r.0 r.1)

  two : (wanted : Option ℕ) (a b : Tree) → chart.IsSpelled g (option_map kind wanted) words a → chart.IsSpelled g (option_map kind wanted) words b → a ≢ b
      → BothHave (mixfix.IsSpelled sig variables wanted tokens) (term_of leaves a) (term_of leaves b)
  two wanted a b h k apart = (
    exact.sound wanted a (tree wanted a h),
    exact.sound wanted b (tree wanted b k),
    exact.differ wanted a b (tree wanted a h) (tree wanted b k) apart,
  )

  pub cause : (wanted : Option ℕ) (f : Unread Tree) (e : Unread Raw) → chart.HasNoReading g (option_map kind wanted) words f → IsTold leaves f e → HasCause sig variables wanted tokens e
  cause wanted f TooLong h e = let k = subst (chart.HasNoReading g (option_map kind wanted) words) e h in subst (λ n. 1024 < n) count k
  cause wanted f NoParse h e = let k = subst (chart.HasNoReading g (option_map kind wanted) words) e h in (subst (λ n. n ≤ 1024) count k.0, none wanted k.1)
  cause wanted f (Ambiguous t u) h (a, b, e, first, second) =
      let k = subst (chart.HasNoReading g (option_map kind wanted) words) e h in (
        subst (λ n. n ≤ 1024) count k.0,
        subst (λ m. BothHave (mixfix.IsSpelled sig variables wanted tokens) m (raw_term u)) (sym first)
            (subst (λ m. BothHave (mixfix.IsSpelled sig variables wanted tokens) (term_of leaves a) m) (sym second) (two wanted a b k.1 k.2 k.3)),
      )
  cause wanted f Memory h e = tt

  -- a tree of a kind is a term of that kind, and a term of a kind is a tree of it
  pub of_kind : (K : ℕ) (t : Tree) → K ≤ g.kinds → chart.IsOf g words K t → mixfix.IsSpelled sig variables (Some K) tokens (term_of leaves t)
  of_kind K t within of =
      let s = exact.sound None t (tree None t (K, within, tt, of)) in
      record { precedence = s.precedence; spells = s.spells; kind = exact.kinds K t (subst (λ n. K ≤ n) terms within) of }

  pub in_kind : (K : ℕ) (t : RawTerm) → mixfix.IsSpelled sig variables (Some K) tokens t → (u : Tree) × (kind K ≤ g.kinds) × chart.IsOf g words (kind K) u × (term_of leaves u ≡ t)
  in_kind K t h =
      let r = exact.complete (Some K) t h in
      let s = spelled_by (Some K) r.0 r.1 in
      (r.0, subst (λ n. n ≤ g.kinds) (sym s.2) s.1, subst (λ n. chart.IsOf g words n r.0) (sym s.2) s.3, r.2)

same_pair : (p q : RawTerm × RawTerm) → p.0 ≡ q.0 → p.1 ≡ q.1 → p ≡ q
same_pair p q e f = ap (λ (x : RawTerm). let r : RawTerm × RawTerm = (x, p.1) in r) e ∙ ap (λ (y : RawTerm). let r : RawTerm × RawTerm = (q.0, y) in r) f

of_any : (sig : Signature) (variables : List Variable) (K : ℕ) (text : List (List ℕ)) (t : RawTerm) → mixfix.IsSpelled sig variables (Some K) text t → mixfix.IsSpelled sig variables None text t
of_any sig variables K text t h = record { precedence = h.precedence; spells = h.spells; kind = tt }

module _ (sig : Signature) (variables : List Variable) (kind : ℕ → ℕ) (g : Table) (terms : g.kinds ≡ length sig.sorts)
    (ls : List RawTerm) (left : List (List ℕ)) (lw : List Terminal) (lc : length lw ≡ length left) (le : AreExact sig variables kind g ls left lw)
    (rs : List RawTerm) (right : List (List ℕ)) (rw : List Terminal) (rc : length rw ≡ length right) (re : AreExact sig variables kind g rs right rw) where
  pair : (a b : Tree) → chart.IsPair g lw rw a b → ArePair sig variables left right (term_of ls a, term_of rs b)
  pair a b (K, within, h, k) =
      let first = of_kind sig variables kind g terms ls left lw lc le K a within h in
      let second = of_kind sig variables kind g terms rs right rw rc re K b within k in
      record { first = of_any sig variables K left _ first; second = of_any sig variables K right _ second; kind = K; of_first = first.kind; of_second = second.kind }

  trees : (p : RawTerm × RawTerm) → ArePair sig variables left right p → (a : Tree) × (b : Tree) × chart.IsPair g lw rw a b × (term_of ls a ≡ p.0) × (term_of rs b ≡ p.1)
  trees p h =
      let first : mixfix.IsSpelled sig variables (Some h.kind) left p.0 = record { precedence = h.first.precedence; spells = h.first.spells; kind = h.of_first } in
      let second : mixfix.IsSpelled sig variables (Some h.kind) right p.1 = record { precedence = h.second.precedence; spells = h.second.spells; kind = h.of_second } in
      let a = in_kind sig variables kind g terms ls left lw lc le h.kind p.0 first in
      let b = in_kind sig variables kind g terms rs right rw rc re h.kind p.1 second in
      (a.0, b.0, (kind h.kind, a.1, a.2, b.2), a.3, b.3)

  pub reads_pair : (p : RawTerm × RawTerm) (a b : Tree) → chart.AreShort lw rw → chart.IsPair g lw rw a b → ((c d : Tree) → chart.IsPair g lw rw c d → (c ≡ a) × (d ≡ b))
      → p.0 ≡ term_of ls a → p.1 ≡ term_of rs b → ReadsPair sig variables left right p
  reads_pair p a b short is only e f =
      let same = same_pair p (term_of ls a, term_of rs b) e f in
      record {
        short_left = subst (λ n. n ≤ 1024) lc short.0;
        short_right = subst (λ n. n ≤ 1024) rc short.1;
        only = (
          subst (ArePair sig variables left right) (sym same) (pair a b is),
          λ q h. let t = trees q h in let o = only t.0 t.1 t.2 in
              let x : q.0 ≡ p.0 = sym t.3 ∙ ap (term_of ls) o.0 ∙ sym e in
              let y : q.1 ≡ p.1 = sym t.4 ∙ ap (term_of rs) o.1 ∙ sym f in same_pair q p x y,
        );
      }

  none_pair : ((a b : Tree) → chart.IsPair g lw rw a b → ⊥) → NoneHas (ArePair sig variables left right)
  none_pair never p h = let t = trees p h in never t.0 t.1 t.2

module _ (sig : Signature) (variables : List Variable) (kind : ℕ → ℕ) (g : Table) (terms : g.kinds ≡ length sig.sorts)
    (ls : List RawTerm) (left : List (List ℕ)) (lw : List Terminal) (lc : length lw ≡ length left) (le : AreExact sig variables kind g ls left lw)
    (rs : List RawTerm) (right : List (List ℕ)) (rw : List Terminal) (rc : length rw ≡ length right) (re : AreExact sig variables kind g rs right rw) where
  same_trees : (p q : TreePair) → p.left ≡ q.left → p.right ≡ q.right → p ≡ q
  same_trees p q e f = ap (λ (x : Tree). let r : TreePair = record { left = x; right = p.right } in r) e ∙ ap (λ (y : Tree). let r : TreePair = record { left = q.left; right = y } in r) f

  -- two pairs of trees are different ones of terms
  apart_pairs : (p q : TreePair) → chart.IsPair g lw rw p.left p.right → chart.IsPair g lw rw q.left q.right → p ≢ q → term_of ls p.left ≡ term_of ls q.left → term_of rs p.right ≡ term_of rs q.right → ⊥
  apart_pairs p q h k apart e f =
      let lt : (t : Tree) (K : ℕ) → K ≤ g.kinds → chart.IsOf g lw K t → IsTree sig kind g None lw t = λ t K within of. record { K = K; within = subst (λ n. K ≤ n) terms within; is_wanted = tt; spelled = of } in
      let rt : (t : Tree) (K : ℕ) → K ≤ g.kinds → chart.IsOf g rw K t → IsTree sig kind g None rw t = λ t K within of. record { K = K; within = subst (λ n. K ≤ n) terms within; is_wanted = tt; spelled = of } in
      le.differ None p.left q.left (lt p.left h.0 h.1 h.2) (lt q.left k.0 k.1 k.2)
      (λ x. re.differ None p.right q.right (rt p.right h.0 h.1 h.3) (rt q.right k.0 k.1 k.3) (λ y. apart (same_trees p q x y)) f)
      e

  apart : (p q : TreePair) → chart.IsPair g lw rw p.left p.right → chart.IsPair g lw rw q.left q.right → p ≢ q
      → BothHave (ArePair sig variables left right) (term_of ls p.left, term_of rs p.right) (term_of ls q.left, term_of rs q.right)
  apart p q h k differ = (
    pair sig variables kind g terms ls left lw lc le rs right rw rc re p.left p.right h,
    pair sig variables kind g terms ls left lw lc le rs right rw rc re q.left q.right k,
    λ e. apart_pairs p q h k differ (ap (λ x. x.0) e) (ap (λ x. x.1) e),
  )

  pub pair_cause : (f : Unread TreePair) (e : Unread (Raw × Raw)) → chart.HasNoPair g lw rw f → IsPairTold ls rs f e → HasPairCause sig variables left right e
  pair_cause f TooLong h e =
      let k = subst (chart.HasNoPair g lw rw) e h in ⊎_elim (λ a. inl (subst (λ n. 1024 < n) lc a)) (λ a. inr (subst (λ n. 1024 < n) rc a)) k
  pair_cause f NoParse h e =
      let k = subst (chart.HasNoPair g lw rw) e h in
      (subst (λ n. n ≤ 1024) lc k.0.0, subst (λ n. n ≤ 1024) rc k.0.1, none_pair sig variables kind g terms ls left lw lc le rs right rw rc re k.1)
  pair_cause f (Ambiguous t u) h (p, q, e, first, second) =
      let k = subst (chart.HasNoPair g lw rw) e h in
      let same = same_pair (raw_term t.0, raw_term t.1) (term_of ls p.left, term_of rs p.right) first.0 first.1 in
      let other = same_pair (raw_term u.0, raw_term u.1) (term_of ls q.left, term_of rs q.right) second.0 second.1 in (
        subst (λ n. n ≤ 1024) lc k.0.0,
        subst (λ n. n ≤ 1024) rc k.0.1,
        subst (λ m. BothHave (ArePair sig variables left right) m (raw_term u.0, raw_term u.1)) (sym same)
            (subst (λ m. BothHave (ArePair sig variables left right) (term_of ls p.left, term_of rs p.right) m) (sym other) (apart p q k.1 k.2 k.3)),
      )
  pair_cause f Memory h e = tt

raws_push : (rs : List Raw) (r : Raw) → raw_terms (rs ++ r ∷ []) ≡ join (raw_terms rs) (cons (raw_term r) nil)
raws_push [] r = refl
raws_push (s ∷ rs) r = ap (cons (raw_term s)) (raws_push rs r)

-- with one argument more
pub top_more : (leaves : List RawTerm) (t u : Tree) (top : Top) (args more : List Raw) (r : Raw) → IsTop top args (term_of leaves t) → raw_term r ≡ term_of leaves u → more ≡ args ++ r ∷ []
    → IsTop top more (term_of leaves (app t u))
top_more leaves t u (Operator f) args more r h e m =
    let a : with_last (term_of leaves t) (term_of leaves u) ≡ with_last (apply f (raw_terms args)) (raw_term r) = ap (λ x. with_last x (term_of leaves u)) h ∙ ap (with_last (apply f (raw_terms args))) (sym e) in
    a ∙ ap (apply f) (sym (raws_push args r)) ∙ ap (λ x. apply f (raw_terms x)) (sym m)
top_more leaves t u (Leaf (Number n)) args more r h e m = ap (λ y. with_last y (term_of leaves u)) h
top_more leaves t u (Leaf (Identifier q)) args more r h e m = ap (λ y. with_last y (term_of leaves u)) h
top_more leaves t u (Leaf (VariableToken x S)) args more r h e m = ap (λ y. with_last y (term_of leaves u)) h
