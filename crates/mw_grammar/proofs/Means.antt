-- The mixfix texts of a signature are closed under its forms.
use Rattle.std.proofs.Common.{ℕ, zero, suc, ◌≡◌, ◌<◌, ◌⊎◌, ◌+◌, ◌∙◌, List, [], ◌∷◌, ◌++◌, length, codes, IsTrue, Option, None, Some, option_map, refl, sym, ap, subst, inl, inr, arith, append_assoc, append-nil}
use Rattle.mw_logic.specs.Term.{Variable, RawTerm, apply, RawTerms, nil, cons}
use Rattle.mw_logic.specs.Signature.{Signature, Operator, Gather, less, most, any, IsOperator, HasKind, of_operator, Member}
use Rattle.mw_logic.proofs.KindLaws.{SameKind-sym}
use Rattle.mw_logic.proofs.Canonical.{same_operator}
use Rattle.mw_logic.proofs.Soundness.{HasKind-same}
use Rattle.mw_text.specs.Names.{NameItem, piece, hole, items_of}
use Rattle.mw_text.specs.Mixfix as text
use Rattle.mw_text.specs.Mixfix.{IsHead, IsTaken, Spells, grouped, a_constant, prefixed, flattened, mixfix, SpellsArguments, last, more, SpellsNested, two, another, SpellsItems, no_items}
use Rattle.mw_grammar.specs.declared.parts.Symbol.{Symbol}
use Rattle.mw_grammar.specs.declared.parts.Symbol.TheVariants.{Piece, Hole}
use Rattle.mw_grammar.specs.Notations.{Notation}
use Rattle.mw_grammar.specs.Notations.{pieces_as, arguments, prefix_parts, in_parentheses, bound, mixfix_parts, two_parts, IsNotationOf, is_prefix, is_mixfix, is_flattened, is_tail}
use Rattle.mw_grammar.specs.Readable.{IsWithin, AreKinds, IsReadable, AreVariables}
use Rattle.mw_grammar.specs.Leaves.{IsAlone}
use Rattle.mw_grammar.proofs.Over.{Over, pieces_back, alone_back, none_back, piece_back, hole_back, last_back, Held}
use Rattle.mw_grammar.proofs.Closed.{IsClosed}
use Rattle.mw_grammar.proofs.LeafTerms.{alone_spelled, alone_within}
use Rattle.mw_grammar.proofs.Spelled.{two_are}

module _ (sig : Signature) (variables : List Variable) (kind : ℕ → ℕ) (ks : AreKinds sig kind) (ok : IsReadable sig) (vs : AreVariables sig variables) where
  -- What a text means: of a kind of terms, it spells one; of the kind of an operator's last arguments, it spells these.
  pub record Means (K p : ℕ) (t : RawTerm) (words : List (List ℕ)) : Type 0 where
    pub term : IsWithin sig K → Spells sig variables t p words × HasKind sig t K
    pub tail : (f : ℕ) (o : Operator) → K ≡ length sig.sorts + f → IsOperator sig f o → SpellsNested sig variables f o t words

  -- a kind of terms is no operator's
  apart : (K f : ℕ) (o : Operator) → IsWithin sig K → K ≡ length sig.sorts + f → IsOperator sig f o → ⊥
  apart K zero o h e is = let bad : ⊥ = (cc) in bad
  apart K (suc f) o h e is = omega arith

  of_term : (K p : ℕ) (t : RawTerm) (words : List (List ℕ)) → IsWithin sig K → Spells sig variables t p words → HasKind sig t K → Means K p t words
  of_term K p t words h d k = record { term = λ _. (d, k); tail = λ f o e is. absurd (apart K f o h e is) }

  -- a text of K's kind
  as_kind : (K p : ℕ) (t : RawTerm) (words : List (List ℕ)) → IsWithin sig K → Means (kind K) p t words → Spells sig variables t p words × HasKind sig t K
  as_kind K p t words h m = let r = m.term (ks.within K h) in (r.0, HasKind-same r.1 (SameKind-sym (ks.same K)))

  means_alone : (t : RawTerm) (K : ℕ) (token : List ℕ) → IsAlone sig variables token t → HasKind sig t K → Means (kind K) 0 t (token ∷ [])
  means_alone t K token h k = of_term (kind K) 0 t (token ∷ []) (alone_within sig variables kind ks vs t K k token h) (alone_spelled sig variables t token h) (HasKind-same k (ks.same K))

  means_enclosed : (K p : ℕ) (t : RawTerm) (words : List (List ℕ)) → IsWithin sig K → Means K p t words → Means K 0 t (codes "(" ∷ words ++ codes ")" ∷ [])
  means_enclosed K p t words h m = let r = m.term h in of_term K 0 t (codes "(" ∷ words ++ codes ")" ∷ []) h (grouped t p words r.0) r.1

  -- an argument's hole, and what comes behind it
  argument_back : (K below : ℕ) (parts : List Symbol) (ts : RawTerms) (words : List (List ℕ)) → IsWithin sig K → (h : Held Means (kind K) below parts ts words)
      → Spells sig variables h.first h.precedence h.front × HasKind sig h.first K
  argument_back K below parts ts words w h = as_kind K h.precedence h.first h.front w h.says

  arguments_back : (K : ℕ) (Ks : List ℕ) (ts : RawTerms) (words : List (List ℕ)) → ((L : ℕ) → Member L (K ∷ Ks) → IsWithin sig L) → Over Means (arguments kind (K ∷ Ks)) ts words
      → SpellsArguments sig variables (K ∷ Ks) ts words
  arguments_back K [] ts words w d =
      let h = hole_back Means ([]) ts words (kind K) 128 d in
      let a = argument_back K 128 ([]) ts words (w K (inl refl)) h in
      let e = none_back Means h.others h.rest h.goes_on in
      let one : ts ≡ cons h.first nil = h.terms ∙ ap (cons h.first) e.0 in
      let all : words ≡ h.front = h.whole ∙ ap (λ m. h.front ++ m) e.1 ∙ append-nil h.front in
      subst (λ (m : RawTerms). SpellsArguments sig variables (K ∷ []) m words) (sym one)
      (subst (λ (m : List (List ℕ)). SpellsArguments sig variables (K ∷ []) (cons h.first nil) m) (sym all) (last K h.first h.precedence h.front a.0 a.1))
  arguments_back K (L ∷ Ks) ts words w d =
      let h = hole_back Means (Piece (codes ",") ∷ arguments kind (L ∷ Ks)) ts words (kind K) 128 d in
      let a = argument_back K 128 (Piece (codes ",") ∷ arguments kind (L ∷ Ks)) ts words (w K (inl refl)) h in
      let c = piece_back Means (arguments kind (L ∷ Ks)) h.others h.rest (codes ",") h.goes_on in
      let r = arguments_back L Ks h.others c.0 (λ M m. w M (inr m)) c.2 in
      let all : words ≡ h.front ++ codes "," ∷ c.0 = h.whole ∙ ap (λ m. h.front ++ m) c.1 in
      subst (λ (m : RawTerms). SpellsArguments sig variables (K ∷ L ∷ Ks) m words) (sym h.terms)
      (subst (λ (m : List (List ℕ)). SpellsArguments sig variables (K ∷ L ∷ Ks) (cons h.first h.others) m) (sym all) (more K (L ∷ Ks) h.first h.others h.precedence h.front c.0 a.0 a.1 r))

  -- what stands in parentheses behind a head
  record Inside (head : List (List ℕ)) (parts : List Symbol) (ts : RawTerms) (words : List (List ℕ)) : Type 0 where
    pub inner : List (List ℕ)
    pub whole : words ≡ head ++ codes "(" ∷ inner ++ codes ")" ∷ []
    pub parts_over : Over Means parts ts inner

  inside_back : (head : List (List ℕ)) (parts : List Symbol) (ts : RawTerms) (words : List (List ℕ)) → Over Means (pieces_as head ++ in_parentheses kind parts) ts words → Inside head parts ts words
  inside_back head parts ts words d =
      let r = pieces_back Means head (in_parentheses kind parts) ts words d in
      let s = piece_back Means (parts ++ Piece (codes ")") ∷ []) ts r.0 (codes "(") r.2 in
      let l = last_back Means parts ts s.0 (codes ")") s.2 in
      record {
        inner = l.0;
        whole = r.1 ∙ ap (λ m. head ++ m) s.1 ∙ ap (λ m. head ++ codes "(" ∷ m) l.1 ∙ sym (append_assoc head (codes "(" ∷ l.0) (codes ")" ∷ []));
        parts_over = l.2;
      }

  prefix_back : (f : ℕ) (o : Operator) (head : List (List ℕ)) (Ks : List ℕ) (ts : RawTerms) (words : List (List ℕ)) → IsOperator sig f o → IsHead o head → o.args ≡ Ks
      → Over Means (prefix_parts kind head Ks) ts words → Spells sig variables (apply f ts) 0 words
  prefix_back f o head [] ts words is h e d =
      let r = alone_back Means head ts words d in
      subst (λ (m : RawTerms). Spells sig variables (apply f m) 0 words) (sym r.0)
      (subst (λ (m : List (List ℕ)). Spells sig variables (apply f nil) 0 m) (sym r.1) (a_constant f o head is e h))
  prefix_back f o head (K ∷ Ks) ts words is h e d =
      let r = inside_back head (arguments kind (K ∷ Ks)) ts words d in
      let within : (L : ℕ) → Member L (K ∷ Ks) → IsWithin sig L = λ L m. ok.args f o L is (subst (Member L) (sym e) m) in
      let args = arguments_back K Ks ts r.inner within r.parts_over in
      subst (λ (m : List (List ℕ)). Spells sig variables (apply f ts) 0 m) (sym r.whole)
      (applied (K ∷ Ks) ts r.inner e args)
    where
      applied : (Ls : List ℕ) (us : RawTerms) (inner : List (List ℕ)) → o.args ≡ Ls → SpellsArguments sig variables Ls us inner
          → Spells sig variables (apply f us) 0 (head ++ codes "(" ∷ inner ++ codes ")" ∷ [])
      applied Ls nil inner e2 a = elim a [ ]
      applied Ls (cons u us) inner e2 a = prefixed f o u us head inner is h (subst (λ (m : List ℕ). SpellsArguments sig variables m (cons u us) inner) (sym e2) a)

  taken : (g : Gather) (p q : ℕ) → q < bound kind g p → IsTaken g p q
  taken less p q h = h
  taken most p q h = omega arith
  taken any p q h = tt

  none_mapped : (F : List Symbol → List Symbol) (r : Option (List Symbol)) (parts : List Symbol) → option_map F r ≡ Some parts → (ps : List Symbol) × (r ≡ Some ps) × (F ps ≡ parts)
  none_mapped F None parts e = let bad : ⊥ = (cc) in absurd bad
  none_mapped F (Some ps) parts e = (ps, refl, (cc))

  items_back : (p : ℕ) (items : List NameItem) (gather : List Gather) (Ks : List ℕ) (parts : List Symbol) (ts : RawTerms) (words : List (List ℕ)) → ((L : ℕ) → Member L Ks → IsWithin sig L)
      → mixfix_parts kind p items gather Ks ≡ Some parts → Over Means parts ts words → SpellsItems sig variables p items gather Ks ts words
  items_back p [] [] [] parts ts words w e d =
      let no : [] ≡ parts = (cc) in
      let r = none_back Means ts words (subst (λ (m : List Symbol). Over Means m ts words) (sym no) d) in
      subst (λ (m : RawTerms). SpellsItems sig variables p [] [] [] m words) (sym r.0) (subst (λ (m : List (List ℕ)). SpellsItems sig variables p [] [] [] nil m) (sym r.1) (no_items p))
  items_back p [] [] (K ∷ Ks) parts ts words w e d = let bad : ⊥ = (cc) in absurd bad
  items_back p [] (g ∷ gs) Ks parts ts words w e d = let bad : ⊥ = (cc) in absurd bad
  items_back p (piece x ∷ items) gs Ks parts ts words w e d =
      let r = none_mapped (λ ps. Piece x ∷ ps) (mixfix_parts kind p items gs Ks) parts e in
      let s = piece_back Means r.0 ts words x (subst (λ (m : List Symbol). Over Means m ts words) (sym r.2) d) in
      subst (λ (m : List (List ℕ)). SpellsItems sig variables p (piece x ∷ items) gs Ks ts m) (sym s.1) (text.over_piece p x items gs Ks ts s.0 (items_back p items gs Ks r.0 ts s.0 w r.1 s.2))
  items_back p (hole ∷ items) [] Ks parts ts words w e d = let bad : ⊥ = (cc) in absurd bad
  items_back p (hole ∷ items) (g ∷ gs) [] parts ts words w e d = let bad : ⊥ = (cc) in absurd bad
  items_back p (hole ∷ items) (g ∷ gs) (K ∷ Ks) parts ts words w e d =
      let r = none_mapped (λ ps. Hole (kind K) (bound kind g p) ∷ ps) (mixfix_parts kind p items gs Ks) parts e in
      let h = hole_back Means r.0 ts words (kind K) (bound kind g p) (subst (λ (m : List Symbol). Over Means m ts words) (sym r.2) d) in
      let a = argument_back K (bound kind g p) r.0 ts words (w K (inl refl)) h in
      let others = items_back p items gs Ks r.0 h.others h.rest (λ L m. w L (inr m)) r.1 h.goes_on in
      subst (λ (m : RawTerms). SpellsItems sig variables p (hole ∷ items) (g ∷ gs) (K ∷ Ks) m words) (sym h.terms)
      (subst (λ (m : List (List ℕ)). SpellsItems sig variables p (hole ∷ items) (g ∷ gs) (K ∷ Ks) (cons h.first h.others) m) (sym h.whole)
      (text.over_hole p g K h.precedence h.first items gs Ks h.others h.front h.rest a.0 (taken g p h.precedence h.within) a.1 others))

  -- an argument of an associative operator and what comes behind the comma
  record Both (o : Operator) (rest : ℕ) (ts : RawTerms) (words : List (List ℕ)) : Type 0 where
    pub p : ℕ
    pub q : ℕ
    pub t : RawTerm
    pub u : RawTerm
    pub front : List (List ℕ)
    pub back : List (List ℕ)
    pub terms : ts ≡ cons t (cons u nil)
    pub whole : words ≡ front ++ codes "," ∷ back
    pub first : Means (kind o.result) p t front
    pub second : Means rest q u back

  both_back : (o : Operator) (rest : ℕ) (ts : RawTerms) (words : List (List ℕ)) → Over Means (two_parts kind o rest) ts words → Both o rest ts words
  both_back o rest ts words d =
      let h = hole_back Means (Piece (codes ",") ∷ Hole rest 128 ∷ []) ts words (kind o.result) 128 d in
      let c = piece_back Means (Hole rest 128 ∷ []) h.others h.rest (codes ",") h.goes_on in
      let i = hole_back Means ([]) h.others c.0 rest 128 c.2 in
      let e = none_back Means i.others i.rest i.goes_on in
      record {
        p = h.precedence;
        q = i.precedence;
        t = h.first;
        u = i.first;
        front = h.front;
        back = i.front;
        terms = h.terms ∙ ap (cons h.first) (i.terms ∙ ap (cons i.first) e.0);
        whole = h.whole ∙ ap (λ m. h.front ++ m) (c.1 ∙ ap (λ m. codes "," ∷ m) (i.whole ∙ ap (λ m. i.front ++ m) e.1 ∙ append-nil i.front));
        first = h.says;
        second = i.says;
      }

  tail_back : (f : ℕ) (o : Operator) (rest : ℕ) (ts : RawTerms) (words : List (List ℕ)) → IsOperator sig f o → IsTrue o.assoc → (rest ≡ kind o.result) ⊎ (rest ≡ length sig.sorts + f)
      → Over Means (two_parts kind o rest) ts words → SpellsNested sig variables f o (apply f ts) words
  tail_back f o rest ts words is a (inl e) d =
      let d2 : Over Means (arguments kind o.args) ts words = subst (λ (m : List Symbol). Over Means m ts words) (ap (two_parts kind o) e ∙ sym (two_are sig variables kind ks ok vs f o is a)) d in
      let r = ok.assoc f o is a in
      let within : (L : ℕ) → Member L (r.0 ∷ r.1 ∷ []) → IsWithin sig L = λ L m. ok.args f o L is (subst (Member L) (sym r.2) m) in
      let args = arguments_back r.0 (r.1 ∷ []) ts words within (subst (λ (m : List ℕ). Over Means (arguments kind m) ts words) r.2 d2) in
      let b = both_back o rest ts words d in
      subst (λ (m : RawTerms). SpellsNested sig variables f o (apply f m) words) (sym b.terms)
      (two f o b.t b.u words (subst (λ (m : RawTerms). SpellsArguments sig variables o.args m words) b.terms (subst (λ (m : List ℕ). SpellsArguments sig variables m ts words) (sym r.2) args)))
  tail_back f o rest ts words is a (inr e) d =
      let b = both_back o rest ts words d in
      let r = ok.assoc f o is a in
      let first = as_kind o.result b.p b.t b.front (ok.results f o is) b.first in
      let m : Member r.0 o.args = subst (Member r.0) (sym r.2) (inl refl) in
      let k : HasKind sig b.t r.0 = HasKind-same first.1 (SameKind-sym r.3) in
      subst (λ (m : RawTerms). SpellsNested sig variables f o (apply f m) words) (sym b.terms)
      (subst (λ (m : List (List ℕ)). SpellsNested sig variables f o (apply f (cons b.t (cons b.u nil))) m) (sym b.whole)
      (another f o b.t b.u b.p r.0 b.front b.back first.0 m k (b.second.tail f o e is)))

  flattened_back : (f : ℕ) (o : Operator) (head : List (List ℕ)) (ts : RawTerms) (words : List (List ℕ)) → IsOperator sig f o → IsTrue o.assoc → IsHead o head
      → Over Means (pieces_as head ++ in_parentheses kind (two_parts kind o (length sig.sorts + f))) ts words → Spells sig variables (apply f ts) 0 words
  flattened_back f o head ts words is a h d =
      let i = inside_back head (two_parts kind o (length sig.sorts + f)) ts words d in
      let b = both_back o (length sig.sorts + f) ts i.inner i.parts_over in
      let r = ok.assoc f o is a in
      let first = as_kind o.result b.p b.t b.front (ok.results f o is) b.first in
      let m : Member r.0 o.args = subst (Member r.0) (sym r.2) (inl refl) in
      let k : HasKind sig b.t r.0 = HasKind-same first.1 (SameKind-sym r.3) in
      let e : words ≡ head ++ codes "(" ∷ b.front ++ codes "," ∷ b.back ++ codes ")" ∷ [] =
      i.whole ∙ ap (λ (m : List (List ℕ)). head ++ codes "(" ∷ m ++ codes ")" ∷ []) b.whole ∙ ap (λ (m : List (List ℕ)). m ++ codes ")" ∷ []) (sym (append_assoc head (codes "(" ∷ b.front) (codes "," ∷ b.back))) in
      subst (λ (m : RawTerms). Spells sig variables (apply f m) 0 words) (sym b.terms)
      (subst (λ (m : List (List ℕ)). Spells sig variables (apply f (cons b.t (cons b.u nil))) 0 m) (sym e)
      (flattened f o b.t b.u head b.back is a h b.p r.0 b.front first.0 m k (b.second.tail f o refl is)))

  -- a text of an operator's kind
  of_result : (f : ℕ) (o : Operator) (p : ℕ) (ts : RawTerms) (words : List (List ℕ)) → IsOperator sig f o → Spells sig variables (apply f ts) p words → Means (kind o.result) p (apply f ts) words
  of_result f o p ts words is d = of_term (kind o.result) p (apply f ts) words (ks.within o.result (ok.results f o is)) d (of_operator o is (ks.same o.result))

  of_tail : (f : ℕ) (o : Operator) (p : ℕ) (t : RawTerm) (words : List (List ℕ)) → IsOperator sig f o → SpellsNested sig variables f o t words → Means (length sig.sorts + f) p t words
  of_tail f o p t words is d = record {
    term = λ h. absurd (apart (length sig.sorts + f) f o h refl is);
    tail = λ g q e isg.
        let same : f ≡ g = omega (arith, e) in
        let here : IsOperator sig f q = subst (λ (m : ℕ). IsOperator sig m q) (sym same) isg in
        subst (λ (m : ℕ). SpellsNested sig variables m q t words) same (subst (λ (m : Operator). SpellsNested sig variables f m t words) (same_operator sig f o q is here) d);
  }

  means_form : (f : ℕ) (o : Operator) (F : Notation) (ts : RawTerms) (words : List (List ℕ)) → IsOperator sig f o → IsNotationOf kind (length sig.sorts + f) f o F → Over Means F.parts ts words
      → Means F.kind F.precedence (apply F.operator ts) words
  means_form f o F ts words is (is_prefix head h) d = of_result f o 0 ts words is (prefix_back f o head o.args ts words is h refl d)
  means_form f o F ts words is (is_mixfix parts h e) d =
      of_result f o o.prec ts words is (mixfix f o ts words is h (items_back o.prec (items_of o.spelling) o.gather o.args parts ts words (λ L m. ok.args f o L is m) e d))
  means_form f o F ts words is (is_flattened head a h) d = of_result f o 0 ts words is (flattened_back f o head ts words is a h d)
  means_form f o F ts words is (is_tail rest a h) d = of_tail f o 0 (apply f ts) words is (tail_back f o rest ts words is a h d)

  pub means_closed : IsClosed sig variables kind Means
  means_closed = record {
    alone = means_alone;
    enclosed = means_enclosed;
    formed = λ F ts words m d. means_form m.0 m.1 F ts words m.2 m.3 d;
  }
