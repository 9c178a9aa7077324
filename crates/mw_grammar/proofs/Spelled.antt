-- What a signature's tokens spell is so in each sense that is closed under its forms.
use Rattle.std.proofs.Common.{ℕ, zero, suc, ◌≡◌, ◌<◌, ◌≤◌, ◌+◌, ◌∙◌, List, [], ◌∷◌, ◌++◌, length, codes, IsTrue, Some, option_map, refl, sym, ap, subst, inl, inr, arith, lit<, append-nil, append_assoc}
use Rattle.std.specs.List.{slice_get}
use Rattle.mw_logic.specs.Term.{Variable, RawTerm, numeral, quoted, variable, apply, RawTerms, nil, cons}
use Rattle.mw_logic.specs.Signature.{Signature, Operator, Gather, less, most, any, IsOperator, IsSortNamed, SameKind, HasKind, of_numeral, of_quoted, of_variable, of_operator, Member}
use Rattle.mw_logic.proofs.Canonical.{same_operator}
use Rattle.mw_text.specs.Names.{NameItem, items_of}
use Rattle.mw_text.specs.Mixfix.{IsTaken, Spells, declared, with_sort, numbered, identified, grouped, a_constant, prefixed, flattened, mixfix, SpellsArguments, last, more, SpellsNested, two, another, SpellsItems, no_items, over_piece, over_hole}
use Rattle.mw_grammar.specs.declared.parts.Symbol.{Symbol}
use Rattle.mw_grammar.specs.declared.parts.Symbol.TheVariants.{Piece, Hole}
use Rattle.mw_grammar.specs.Notations.{pieces_as, arguments, in_parentheses, prefix_parts, prefix_notation, bound, mixfix_parts, two_parts, flattened_notation, tail_notation, is_prefix, is_mixfix, is_flattened, is_tail}
use Rattle.mw_grammar.specs.Readable.{IsWithin, AreKinds, IsReadable, AreVariables}
use Rattle.mw_grammar.proofs.Over as over
use Rattle.mw_grammar.proofs.Over.{Over, pieces_over, pieces_alone, snoc_piece}
use Rattle.mw_grammar.proofs.Closed.{IsClosed}

pub sort_within : (sig : Signature) (S : ℕ) (name : List ℕ) → IsSortNamed sig S name → IsWithin sig S
sort_within sig zero name e = omega arith
sort_within sig (suc i) name e = below sig.sorts i e
  where
    below : (xs : List (List ℕ)) (i : ℕ) → slice_get xs i ≡ Some name → suc i ≤ length xs
    below [] i e = let bad : ⊥ = (cc) in absurd bad
    below (x ∷ xs) zero e = omega arith
    below (x ∷ xs) (suc i) e = let h = below xs i e in omega arith

pub variable_kind : (sig : Signature) (x : Variable) (K : ℕ) → HasKind sig (variable x) K → SameKind sig x.sort K
variable_kind sig x K (of_variable s) = s

pub operator_kind : (sig : Signature) (f : ℕ) (o : Operator) (ts : RawTerms) (K : ℕ) → IsOperator sig f o → HasKind sig (apply f ts) K → SameKind sig o.result K
operator_kind sig f o ts K e (of_operator p d s) = subst (λ (p : Operator). SameKind sig p.result K) (same_operator sig f p o d e) s

module _ (sig : Signature) (variables : List Variable) (kind : ℕ → ℕ) (ks : AreKinds sig kind) (ok : IsReadable sig) (vs : AreVariables sig variables) where
  -- texts have precedences up to 127
  pub precedence_below : (t : RawTerm) (p : ℕ) (text : List (List ℕ)) → Spells sig variables t p text → p < 128
  precedence_below t p text (declared x m) = lit< tt
  precedence_below t p text (with_sort x S is name) = lit< tt
  precedence_below t p text (numbered n token h e) = lit< tt
  precedence_below t p text (identified q h i) = lit< tt
  precedence_below t p text (grouped u q text2 d) = lit< tt
  precedence_below t p text (a_constant f o head is none h) = lit< tt
  precedence_below t p text (prefixed f o u us head inner is h d) = lit< tt
  precedence_below t p text (flattened f o u v head inner is a h q K text2 d m k n) = lit< tt
  precedence_below t p text (mixfix f o ts text2 is h d) = ok.precedences f o is

  number_within : (n K : ℕ) → HasKind sig (numeral n) K → IsWithin sig (kind K)
  number_within n K (of_numeral S is h s) = subst (IsWithin sig) (ks.agree S K s) (ks.within S (sort_within sig S (codes "Nat") is))

  identifier_within : (q : List ℕ) (K : ℕ) → HasKind sig (quoted q) K → IsWithin sig (kind K)
  identifier_within q K (of_quoted S is h s) = subst (IsWithin sig) (ks.agree S K s) (ks.within S (sort_within sig S (codes "Qid") is))

  -- the kind of a term that is spelled is that of a sort
  pub kind_within : (t : RawTerm) (p : ℕ) (text : List (List ℕ)) → Spells sig variables t p text → (K : ℕ) → HasKind sig t K → IsWithin sig (kind K)
  kind_within t p text (declared x m) K h = subst (IsWithin sig) (ks.agree x.sort K (variable_kind sig x K h)) (ks.within x.sort (vs x m))
  kind_within t p text (with_sort x S is name) K h = subst (IsWithin sig) (ks.agree x.sort K (variable_kind sig x K h)) (ks.within x.sort (sort_within sig x.sort S is))
  kind_within t p text (numbered n token nat e) K h = number_within n K h
  kind_within t p text (identified q qid i) K h = identifier_within q K h
  kind_within t p text (grouped u q text2 d) K h = kind_within u q text2 d K h
  kind_within t p text (a_constant f o head is none h2) K h = subst (IsWithin sig) (ks.agree o.result K (operator_kind sig f o nil K is h)) (ks.within o.result (ok.results f o is))
  kind_within t p text (prefixed f o u us head inner is h2 d) K h =
      subst (IsWithin sig) (ks.agree o.result K (operator_kind sig f o (cons u us) K is h)) (ks.within o.result (ok.results f o is))
  kind_within t p text (flattened f o u v head inner is a h2 q L text2 d m k n) K h =
      subst (IsWithin sig) (ks.agree o.result K (operator_kind sig f o (cons u (cons v nil)) K is h)) (ks.within o.result (ok.results f o is))
  kind_within t p text (mixfix f o ts text2 is h2 d) K h = subst (IsWithin sig) (ks.agree o.result K (operator_kind sig f o ts K is h)) (ks.within o.result (ok.results f o is))

  -- an argument of an associative operator has its result's kind
  pub argument_kind : (f : ℕ) (o : Operator) (K : ℕ) → IsOperator sig f o → IsTrue o.assoc → Member K o.args → SameKind sig K o.result
  argument_kind f o K is a m = let r = ok.assoc f o is a in of_two r.0 r.1 r.3 r.4 (subst (Member K) r.2 m)
    where
      of_two : (A B : ℕ) → SameKind sig A o.result → SameKind sig B o.result → Member K (A ∷ B ∷ []) → SameKind sig K o.result
      of_two A B p q (inl e) = subst (λ (m : ℕ). SameKind sig m o.result) e p
      of_two A B p q (inr (inl e)) = subst (λ (m : ℕ). SameKind sig m o.result) e q
      of_two A B p q (inr (inr none)) = absurd none

  -- the parts of the last two arguments
  pub two_are : (f : ℕ) (o : Operator) → IsOperator sig f o → IsTrue o.assoc → arguments kind o.args ≡ two_parts kind o (kind o.result)
  two_are f o is a =
      let r = ok.assoc f o is a in
      let first : kind r.0 ≡ kind o.result = ks.agree r.0 o.result r.3 in
      let second : kind r.1 ≡ kind o.result = ks.agree r.1 o.result r.4 in
      ap (arguments kind) r.2 ∙ ap (λ m. Hole m 128 ∷ Piece (codes ",") ∷ Hole (kind r.1) 128 ∷ []) first
      ∙ ap (λ m. Hole (kind o.result) 128 ∷ Piece (codes ",") ∷ Hole m 128 ∷ []) second

  taken_below : (g : Gather) (p q : ℕ) → q < 128 → IsTaken g p q → q < bound kind g p
  taken_below less p q h k = k
  taken_below most p q h k = omega arith
  taken_below any p q h k = h

  module _ (S : ℕ → ℕ → RawTerm → List (List ℕ) → Type 0) (closed : IsClosed sig variables kind S) where
    at_kind : (K L p : ℕ) (t : RawTerm) (text : List (List ℕ)) → SameKind sig K L → S (kind K) p t text → S (kind L) p t text
    at_kind K L p t text s d = subst (λ (m : ℕ). S m p t text) (ks.agree K L s) d

    -- a prefix form's parts, behind its head
    prefix_over : (head inner : List (List ℕ)) (Ks : List ℕ) (t : RawTerm) (ts : RawTerms) → SpellsArguments sig variables Ks (cons t ts) inner → Over S (arguments kind Ks) (cons t ts) inner
        → Over S (prefix_parts kind head Ks) (cons t ts) (head ++ codes "(" ∷ inner ++ codes ")" ∷ [])
    prefix_over head inner [] t ts d o = elim d [ ]
    prefix_over head inner (K ∷ Ks) t ts d o =
        subst (λ (m : List (List ℕ)). Over S (prefix_parts kind head (K ∷ Ks)) (cons t ts) m) (sym (append_assoc head (codes "(" ∷ inner) (codes ")" ∷ [])))
        (pieces_over S head _ (cons t ts) (codes "(" ∷ inner ++ codes ")" ∷ [])
        (over.over_piece (codes "(") _ (cons t ts) (inner ++ codes ")" ∷ []) (snoc_piece S (arguments kind (K ∷ Ks)) (cons t ts) inner (codes ")") o)))

    last_hole : (k p : ℕ) (t : RawTerm) (text : List (List ℕ)) → S k p t text → p < 128 → Over S (Hole k 128 ∷ []) (cons t nil) text
    last_hole k p t text d h = subst (λ (m : List (List ℕ)). Over S (Hole k 128 ∷ []) (cons t nil) m) (append-nil text) (over.over_hole k 128 p t ([]) nil text ([]) d h over.done)

    more_over : (K : ℕ) (Ks : List ℕ) (t : RawTerm) (ts : RawTerms) (p : ℕ) (text rest : List (List ℕ)) → S (kind K) p t text → p < 128 → SpellsArguments sig variables Ks ts rest
        → Over S (arguments kind Ks) ts rest → Over S (arguments kind (K ∷ Ks)) (cons t ts) (text ++ codes "," ∷ rest)
    more_over K [] t ts p text rest d h ds o = elim ds [ ]
    more_over K (L ∷ Ks) t ts p text rest d h ds o =
        over.over_hole (kind K) 128 p t (Piece (codes ",") ∷ arguments kind (L ∷ Ks)) ts text (codes "," ∷ rest) d h (over.over_piece (codes ",") (arguments kind (L ∷ Ks)) ts rest o)

    parenthesized : (head text inner : List (List ℕ)) (parts : List Symbol) (ts : RawTerms) → Over S parts ts (text ++ codes "," ∷ inner)
        → Over S (pieces_as head ++ in_parentheses kind parts) ts (head ++ codes "(" ∷ text ++ codes "," ∷ inner ++ codes ")" ∷ [])
    parenthesized head text inner parts ts d =
        let e = ap (λ (m : List (List ℕ)). m ++ codes ")" ∷ []) (append_assoc head (codes "(" ∷ text) (codes "," ∷ inner)) ∙ append_assoc head (codes "(" ∷ text ++ codes "," ∷ inner) (codes ")" ∷ []) in
        subst (λ (m : List (List ℕ)). Over S (pieces_as head ++ in_parentheses kind parts) ts m) (sym e)
        (pieces_over S head _ ts _ (over.over_piece (codes "(") _ ts _ (snoc_piece S parts ts (text ++ codes "," ∷ inner) (codes ")") d)))

    mutual
      pub spelled : (t : RawTerm) (p : ℕ) (text : List (List ℕ)) → Spells sig variables t p text → (K : ℕ) → HasKind sig t K → S (kind K) p t text
      spelled t p text (declared x m) K h = closed.alone (variable x) K x.name (inl (m, refl)) h
      spelled t p text (with_sort x N is name) K h = closed.alone (variable x) K (x.name ++ codes ":" ++ N) (inr (N, is, name, refl)) h
      spelled t p text (numbered n token nat e) K h = closed.alone (numeral n) K token (nat, e) h
      spelled t p text (identified q qid i) K h = closed.alone (quoted q) K q (qid, i, refl) h
      spelled t p text (grouped u q text2 d) K h = closed.enclosed (kind K) q u text2 (kind_within u q text2 d K h) (spelled u q text2 d K h)
      spelled t p text (a_constant f o head is none isHead) K h =
          at_kind o.result K 0 (apply f nil) head (operator_kind sig f o nil K is h)
          (closed.formed (prefix_notation kind f o head) nil head (f, o, is, (is_prefix head isHead))
          (subst (λ (m : List ℕ). Over S (prefix_parts kind head m) nil head) (sym none) (pieces_alone S head)))
      spelled t p text (prefixed f o u us head inner is isHead d) K h =
          at_kind o.result K 0 (apply f (cons u us)) _ (operator_kind sig f o (cons u us) K is h)
          (closed.formed (prefix_notation kind f o head) (cons u us) _ (f, o, is, (is_prefix head isHead))
          (prefix_over head inner o.args u us d (spelled_arguments o.args (cons u us) inner d)))
      spelled t p text (flattened f o u v head inner is a isHead q L text2 d m k n) K h =
          let first = at_kind L o.result q u text2 (argument_kind f o L is a m) (spelled u q text2 d L k) in
          let second = spelled_nested f o v inner n is a in
          let both = over.over_hole (kind o.result) 128 q u (Piece (codes ",") ∷ Hole (length sig.sorts + f) 128 ∷ []) (cons v nil) text2 (codes "," ∷ inner) first (precedence_below u q text2 d)
          (over.over_piece (codes ",") (Hole (length sig.sorts + f) 128 ∷ []) (cons v nil) inner (last_hole (length sig.sorts + f) 0 v inner second (lit< tt))) in
          at_kind o.result K 0 (apply f (cons u (cons v nil))) _ (operator_kind sig f o (cons u (cons v nil)) K is h)
          (closed.formed (flattened_notation kind (length sig.sorts + f) f o head) (cons u (cons v nil)) _ (f, o, is, (is_flattened head a isHead)) (parenthesized head text2 inner (two_parts kind o (length sig.sorts + f)) (cons u (cons v nil)) both))
      spelled t p text (mixfix f o ts text2 is holes d) K h =
          let r = spelled_items o.prec (items_of o.spelling) o.gather o.args ts text2 d in
          at_kind o.result K o.prec (apply f ts) text2 (operator_kind sig f o ts K is h)
          (closed.formed (record { kind = kind o.result; precedence = o.prec; operator = f; parts = r.0 }) ts text2 (f, o, is, (is_mixfix r.0 holes r.1)) r.2)

      spelled_arguments : (Ks : List ℕ) (ts : RawTerms) (inner : List (List ℕ)) → SpellsArguments sig variables Ks ts inner → Over S (arguments kind Ks) ts inner
      spelled_arguments Ks ts inner (last K t p text d h) = last_hole (kind K) p t text (spelled t p text d K h) (precedence_below t p text d)
      spelled_arguments Ks ts inner (more K Ls t us p text rest d h ds) =
          more_over K Ls t us p text rest (spelled t p text d K h) (precedence_below t p text d) ds (spelled_arguments Ls us rest ds)

      spelled_nested : (f : ℕ) (o : Operator) (u : RawTerm) (inner : List (List ℕ)) → SpellsNested sig variables f o u inner → IsOperator sig f o → IsTrue o.assoc
          → S (length sig.sorts + f) 0 u inner
      spelled_nested f o u inner (two g p v w text d) is a =
          closed.formed (tail_notation kind (length sig.sorts + g) g p (kind p.result)) (cons v (cons w nil)) text (g, p, is, (is_tail (kind p.result) a (inl refl)))
          (subst (λ (m : List Symbol). Over S m (cons v (cons w nil)) text) (two_are g p is a) (spelled_arguments p.args (cons v (cons w nil)) text d))
      spelled_nested f o u inner (another g p v w q L text rest d m k n) is a =
          let first = at_kind L p.result q v text (argument_kind g p L is a m) (spelled v q text d L k) in
          let second = spelled_nested g p w rest n is a in
          closed.formed (tail_notation kind (length sig.sorts + g) g p (length sig.sorts + g)) (cons v (cons w nil)) (text ++ codes "," ∷ rest) (g, p, is, (is_tail (length sig.sorts + g) a (inr refl)))
          (over.over_hole (kind p.result) 128 q v (Piece (codes ",") ∷ Hole (length sig.sorts + g) 128 ∷ []) (cons w nil) text (codes "," ∷ rest) first (precedence_below v q text d)
          (over.over_piece (codes ",") (Hole (length sig.sorts + g) 128 ∷ []) (cons w nil) rest (last_hole (length sig.sorts + g) 0 w rest second (lit< tt))))

      spelled_items : (p : ℕ) (items : List NameItem) (gather : List Gather) (Ks : List ℕ) (ts : RawTerms) (text : List (List ℕ)) → SpellsItems sig variables p items gather Ks ts text
          → (parts : List Symbol) × (mixfix_parts kind p items gather Ks ≡ Some parts) × Over S parts ts text
      spelled_items p items gather Ks ts text (no_items q) = ([], refl, over.done)
      spelled_items p items gather Ks ts text (over_piece q x items2 gather2 Ls us rest d) =
          let r = spelled_items q items2 gather2 Ls us rest d in
          (Piece x ∷ r.0, ap (option_map (λ ps. Piece x ∷ ps)) r.1, over.over_piece x r.0 us rest r.2)
      spelled_items p items gather Ks ts text (over_hole p2 g K q t items2 gather2 Ls us text2 rest d taken h ds) =
          let r = spelled_items p2 items2 gather2 Ls us rest ds in (
            Hole (kind K) (bound kind g p2) ∷ r.0,
            ap (option_map (λ ps. Hole (kind K) (bound kind g p2) ∷ ps)) r.1,
            over.over_hole (kind K) (bound kind g p2) q t r.0 us text2 rest (spelled t q text2 d K h) (taken_below g p2 q (precedence_below t q text2 d) taken) r.2,
          )
