-- What stands in the chart's sense between two places, whatever stands before and behind, is closed under the forms.
use Rattle.std.proofs.Common.{ℕ, zero, suc, ◌≡◌, ◌<◌, ◌∙◌, ◌+◌, List, [], ◌∷◌, ◌++◌, length, codes, Some, refl, sym, ap, subst, inl, inr, arith, append_assoc, length-append}
use Rattle.std.specs.List.{slice_get}
use Rattle.mw_logic.specs.Term.{Variable, RawTerm, apply, RawTerms, nil, cons, join}
use Rattle.mw_logic.specs.Signature.{Signature, HasKind, Member}
use Rattle.mw_chart.specs.Tree.{Tree, leaf, head, app}
use Rattle.mw_chart.specs.Spelling as chart
use Rattle.mw_chart.specs.Spelling.{NextAt, IsProduction, TokenAt, LeafAt, IsItem, predicted, scanned, grouped}
use Rattle.mw_chart.specs.declared.table.Next.TheVariants.{Whole}
use Rattle.mw_chart.specs.declared.table.Table.{Table}
use Rattle.mw_chart.specs.declared.terminal.Terminal.{Terminal}
use Rattle.mw_grammar.specs.declared.parts.Symbol.{Symbol}
use Rattle.mw_grammar.specs.Notations.{Notation}
use Rattle.mw_grammar.specs.Notations.{IsNotation}
use Rattle.mw_grammar.specs.Readable.{IsWithin, AreKinds, AreVariables}
use Rattle.mw_grammar.specs.Leaves.{IsAlone}
use Rattle.mw_grammar.specs.Compiled.{IsNumber, Leads, there, past_piece, past_hole, IsCompiled}
use Rattle.mw_grammar.specs.Worded.{IsWord, AreWords}
use Rattle.mw_grammar.specs.Meaning.{leaf_at, with_last, term_of}
use Rattle.mw_grammar.proofs.Over.{Over, done, over_piece, over_hole}
use Rattle.mw_grammar.proofs.Closed.{IsClosed}
use Rattle.mw_grammar.proofs.Joined.{join-nil, join-one}
use Rattle.mw_grammar.proofs.LeafTerms.{alone_within}

stands : {X : Type 0} (pre : List X) (x : X) (post : List X) → slice_get (pre ++ x ∷ post) (length pre) ≡ Some x
stands [] x post = refl
stands (y ∷ pre) x post = stands pre x post

pub some_at : {X : Type 0} (xs : List X) (k : ℕ) → k < length xs → (x : X) × (slice_get xs k ≡ Some x)
some_at [] k h = absurd (omega arith)
some_at (x ∷ xs) zero h = (x, refl)
some_at (x ∷ xs) (suc k) h = some_at xs k (omega arith)

place_of : {X : Type 0} (xs : List X) (x : X) → Member x xs → (n : ℕ) × (slice_get xs n ≡ Some x)
place_of [] x h = absurd h
place_of (y ∷ xs) x (inl e) = (0, ap (λ m. Some m) e)
place_of (y ∷ xs) x (inr h) = let r = place_of xs x h in (suc r.0, r.1)

pub member_at : {X : Type 0} (xs : List X) (n : ℕ) (x : X) → slice_get xs n ≡ Some x → Member x xs
member_at [] n x e = let bad : ⊥ = (cc) in absurd bad
member_at (y ∷ xs) zero x e = inl (cc)
member_at (y ∷ xs) (suc n) x e = inr (member_at xs n x e)

module _ (sig : Signature) (variables : List Variable) (kind : ℕ → ℕ) (ks : AreKinds sig kind) (vs : AreVariables sig variables) where
  module _ (names : List (List ℕ)) (g : Table) (compiled : IsCompiled (length sig.sorts) (IsNotation kind sig) names g) where
    module _ (leaves : List RawTerm) (full : List (List ℕ)) (words : List Terminal) (worded : AreWords sig variables kind names leaves full words) where
      -- between any two places where the text stands, a tree stands that is the term
      abbrev pub Stands : ℕ → ℕ → RawTerm → List (List ℕ) → Type 0
      Stands K p t text = (pre post : List (List ℕ)) → full ≡ pre ++ (text ++ post)
          → (w : ℕ) × (v : Tree) × IsItem g words w v (length pre) (length pre + length text) × NextAt g w (Whole K p) × (term_of leaves v ≡ t)

      -- the word of a token that stands there
      word_at : (pre : List (List ℕ)) (x : List ℕ) (post : List (List ℕ)) → full ≡ pre ++ x ∷ post
          → (word : Terminal) × (slice_get words (length pre) ≡ Some word) × IsWord sig variables kind names leaves x word
      word_at pre x post e =
          let l = length-append pre (x ∷ post) in
          let m = ap length e in
          let n = worded.count in
          let r = some_at words (length pre) (omega (arith, l, m, n)) in
          let at : slice_get full (length pre) ≡ Some x = ap (λ m. slice_get m (length pre)) e ∙ stands pre x post in
          (r.0, r.1, worded.each (length pre) x r.0 at r.1)

      token_at : (pre : List (List ℕ)) (x : List ℕ) (post : List (List ℕ)) (n : ℕ) → full ≡ pre ++ x ∷ post → IsNumber names n x → TokenAt words (length pre) n
      token_at pre x post n e is = let r = word_at pre x post e in (r.0, r.1, r.2.number ∙ is.0)

      stands_alone : (t : RawTerm) (K : ℕ) (token : List ℕ) → IsAlone sig variables token t → HasKind sig t K → Stands (kind K) 0 t (token ∷ [])
      stands_alone t K token h k pre post e =
          let r = word_at pre token post e in
          let l = r.2.complete t h in
          let place = place_of r.0.leaves.items l.0 l.1 in
          let at : LeafAt words (length pre) (kind K) l.0.value = (r.0, r.1, (place.0, l.0, place.1, l.2.1.all K k, refl)) in
          let whole = compiled.kinds (kind K) (alone_within sig variables kind ks vs t K k token h) in
          (kind K, leaf l.0.value, chart.alone (kind K) l.0.value (length pre) at, whole, ap leaf_at l.2.0)

      stands_enclosed : (K p : ℕ) (t : RawTerm) (text : List (List ℕ)) → IsWithin sig K → Stands K p t text → Stands K 0 t (codes "(" ∷ text ++ codes ")" ∷ [])
      stands_enclosed K p t text within s pre post e =
          let inner = s (pre ++ codes "(" ∷ []) (codes ")" ∷ post)
          (e ∙ ap (λ m. pre ++ codes "(" ∷ m) (append_assoc text (codes ")" ∷ []) post) ∙ sym (append_assoc pre (codes "(" ∷ []) (text ++ codes ")" ∷ post))) in
          let one : length (pre ++ codes "(" ∷ []) ≡ length pre + 1 = length-append pre (codes "(" ∷ []) in
          let at = token_at pre (codes "(") ((text ++ codes ")" ∷ []) ++ post) g.open e compiled.opens in
          let closing : full ≡ (pre ++ codes "(" ∷ text) ++ codes ")" ∷ post =
          e ∙ ap (λ m. pre ++ codes "(" ∷ m) (append_assoc text (codes ")" ∷ []) post) ∙ sym (append_assoc pre (codes "(" ∷ text) (codes ")" ∷ post)) in
          let l = length-append pre (codes "(" ∷ text) in
          let end : length (pre ++ codes "(" ∷ text) ≡ length pre + 1 + length text = omega (arith, l) in
          let at2 : TokenAt words (length pre + 1 + length text) g.close =
          subst (λ (m : ℕ). TokenAt words m g.close) end (token_at (pre ++ codes "(" ∷ text) (codes ")") post g.close closing compiled.closes) in
          let b : IsItem g words inner.0 inner.1 (length pre + 1) (length pre + 1 + length text) = subst (λ (m : ℕ). IsItem g words inner.0 inner.1 m (m + length text)) one inner.2 in
          let l2 = length-append text (codes ")" ∷ []) in
          let len : length pre + 1 + length text + 1 ≡ length pre + length (codes "(" ∷ text ++ codes ")" ∷ []) = omega (arith, l2) in (
            K,
            inner.1,
            subst (λ (m : ℕ). IsItem g words K inner.1 (length pre) m) len
                (grouped inner.0 K p inner.1 (length pre) (length pre + 1 + length text) at b inner.3 at2 K (compiled.groups.there K within)),
            compiled.kinds K within,
            inner.4,
          )

      over_parts : (parts : List Symbol) (ts : RawTerms) (text : List (List ℕ)) → Over Stands parts ts text → (pre post : List (List ℕ)) → full ≡ pre ++ (text ++ post)
          → (s w i f : ℕ) (v : Tree) (us : RawTerms) → IsItem g words s v i (length pre) → term_of leaves v ≡ apply f us → Leads g.steps.items names s parts w
          → (u : Tree) × IsItem g words w u i (length pre + length text) × (term_of leaves u ≡ apply f (join us ts))
      over_parts parts ts text done pre post e s w i f v us b is (there s2) = (v, subst (λ (m : ℕ). IsItem g words s v i m) (omega arith) b, is ∙ ap (apply f) (sym (join-nil us)))
      over_parts parts ts text (over_piece x parts2 ts2 text2 d) pre post e s w i f v us b is (past_piece s2 n next last name parts3 st num rest) =
          let one : length (pre ++ x ∷ []) ≡ length pre + 1 = length-append pre (x ∷ []) in
          let b2 = scanned s next n v i (length pre) b st (token_at pre x (text2 ++ post) n e num) in
          let b3 : IsItem g words next v i (length (pre ++ x ∷ [])) = subst (λ (m : ℕ). IsItem g words next v i m) (sym one) b2 in
          let r = over_parts parts2 ts2 text2 d (pre ++ x ∷ []) post (e ∙ sym (append_assoc pre (x ∷ []) (text2 ++ post))) next w i f v us b3 is rest in
          (r.0, subst (λ (m : ℕ). IsItem g words w r.0 i m) (omega (arith, one)) r.1, r.2)
      over_parts parts ts text (over_hole k2 b2 p t parts2 ts2 text2 rest2 d le ds) pre post e s w i f v us b is (past_hole s2 k3 b3 next last parts3 st rest) =
          let reading = d pre (rest2 ++ post) (e ∙ ap (λ m. pre ++ m) (append_assoc text2 rest2 post)) in
          let one : length (pre ++ text2) ≡ length pre + length text2 = length-append pre text2 in
          let two : length (text2 ++ rest2) ≡ length text2 + length rest2 = length-append text2 rest2 in
          let c = chart.completed s next k2 b2 v i (length pre) b st reading.0 p reading.1 (length pre + length text2) reading.2 reading.3 le in
          let c2 : IsItem g words next (app v reading.1) i (length (pre ++ text2)) = subst (λ (m : ℕ). IsItem g words next (app v reading.1) i m) (sym one) c in
          let now : term_of leaves (app v reading.1) ≡ apply f (join us (cons t nil)) =
          ap (λ m. with_last m (term_of leaves reading.1)) is ∙ ap (λ m. apply f (join us (cons m nil))) reading.4 in
          let r = over_parts parts2 ts2 rest2 ds (pre ++ text2) post (e ∙ ap (λ m. pre ++ m) (append_assoc text2 rest2 post) ∙ sym (append_assoc pre text2 (rest2 ++ post))) next w i f
          (app v reading.1) (join us (cons t nil)) c2 now rest in
          (r.0, subst (λ (m : ℕ). IsItem g words w r.0 i m) (omega (arith, one, two)) r.1, r.2 ∙ ap (apply f) (join-one us t ts2))

      stands_formed : (F : Notation) (ts : RawTerms) (text : List (List ℕ)) → IsNotation kind sig F → Over Stands F.parts ts text → Stands F.kind F.precedence (apply F.operator ts) text
      stands_formed F ts text m d pre post e =
          let st = compiled.complete F m in
          let is : IsProduction g st.1.state F.operator = (st.0, st.1, st.2, refl, st.3.operator) in
          let r = over_parts F.parts ts text d pre post e st.1.state st.3.last (length pre) F.operator (head F.operator) nil (predicted st.1.state F.operator (length pre) is) refl st.3.leads in
          (st.3.last, r.0, r.1, st.3.whole, r.2)

      pub stands_closed : IsClosed sig variables kind Stands
      stands_closed = record { alone = stands_alone; enclosed = stands_enclosed; formed = stands_formed }
