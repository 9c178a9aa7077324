-- The tokens of a printed term spell it.
use Rattle.std.proofs.Common.{◌≡◌, ◌∙◌, ◌⊎◌, ◌<◌, ◌==◌, ◌&&◌, inl, inr, ℕ, zero, suc, Bool, true, false, List, [], ◌∷◌, ◌++◌, map, length, Some, refl, sym, ap, append_assoc, arith}
use Rattle.std.specs.Prelude.{IsTrue, not, codes}
use Rattle.std.proofs.lemmas.Bool.{cases_Bool, and_parts, true≢false, ltb-true, leb-true, eqb-true, eq-eqb}
use Rattle.std.proofs.lemmas.List.{map-append}
use Rattle.mw_logic.specs.Term.{Variable, RawTerm, apply, RawTerms, nil, cons}
use Rattle.mw_logic.specs.Signature.{Signature, Operator, Gather, less, most, any, IsOperator, Member, HasKind, IsRawTerm, a_numeral, a_quoted, a_variable, an_operator, AreRawTerms, end, next}
use Rattle.mw_logic.specs.Parts.{is_assoc}
use Rattle.mw_text.specs.Names.{NameItem, piece, hole, items_of, has_hole, count_holes, pieces}
use Rattle.mw_text.specs.Mixfix.{IsTaken, IsHead, Spells, with_sort, numbered, identified, grouped, a_constant, prefixed, flattened, mixfix, SpellsArguments, last, more, SpellsNested, two, another, SpellsItems, no_items, over_piece, over_hole}
use Rattle.mw_print.specs.Tokens.{Token, token, opening, text_of, texts, comma}
use Rattle.mw_print.specs.Printing.{Printed, has_less, is_mixfix, takes, in_hole, in_holes, head, divided, called, has_arguments, spread, arguments_of, printed, printed_all}
use Rattle.mw_print.specs.Laws.{AreBinary, IsNamed, AreNamed, PrintedSpells}
use Rattle.std.specs.Fmt.{decimal}
use Rattle.mw_print.proofs.Digits.{decimal_number}
use Rattle.mw_print.proofs.Forms.{arguments_some, divided_more, list_more, called_some}

texts_both : (xs ys : List Token) → texts (xs ++ ys) ≡ texts xs ++ texts ys
texts_both xs ys = map-append text_of xs ys

texts_token : (xs : List (List ℕ)) → texts (map token xs) ≡ xs
texts_token [] = refl
texts_token (x ∷ xs) = ap (λ ys. x ∷ ys) (texts_token xs)

head_is : (o : Operator) → IsHead o (texts (head o))
head_is o =
    elim (cases_Bool (has_hole (items_of o.spelling))) [
      | inl e ↦ inl (rw e refl)
      | inr e ↦ inr (e, rw e (texts_token (pieces (items_of o.spelling))))
    ]

taken_of : (g : Gather) (p q : ℕ) → takes g p q ≡ true → IsTaken g p q
taken_of less p q h = ltb-true q p h
taken_of most p q h = leb-true q p h
taken_of any p q h = tt

-- a text in parentheses is taken, unless the mark is `less` at 0
grouped_taken : (g : Gather) (gs : List Gather) (p : ℕ) → (p ≡ 0 → has_less (g ∷ gs) ≡ false) → IsTaken g p 0
grouped_taken less gs zero h = absurd (true≢false (h refl))
grouped_taken less gs (suc p) h = omega arith
grouped_taken most gs p h = omega arith
grouped_taken any gs p h = tt

less_behind : (g : Gather) (gs : List Gather) → has_less (g ∷ gs) ≡ false → has_less gs ≡ false
less_behind less gs h = absurd (true≢false h)
less_behind most gs h = h
less_behind any gs h = h

-- what stands for the last argument: its own arguments, or its tokens
pub spread_cases : (f : ℕ) (a : Printed) → ((a.operator ≡ f) × (has_arguments a ≡ true) × (spread f a ≡ a.arguments)) ⊎ (spread f a ≡ a.tokens ∷ [])
spread_cases f a =
    elim (cases_Bool (a.operator == f && has_arguments a)) [
      | inl e ↦ let both = and_parts (a.operator == f) (has_arguments a) e in inl (eqb-true a.operator f both.0, both.1, rw e refl)
      | inr e ↦ inr (rw e refl)
    ]

has_some : (n : ℕ) → not (n == 0) ≡ true → 0 < n
has_some zero h = absurd (true≢false (sym h))
has_some (suc n) h = omega arith

no_less : (p : ℕ) (l : Bool) → not (p == 0 && l) ≡ true → p ≡ 0 → l ≡ false
no_less p true h z = absurd (true≢false (sym (rw (eq-eqb p 0 z) at h)))
no_less p false h z = refl

-- tokens of prefix forms
narrow : (h i : List Token) → texts (h ++ opening ∷ i ++ token (codes ")") ∷ []) ≡ texts h ++ codes "(" ∷ texts i ++ codes ")" ∷ []
narrow h i = simp map-append

wide : (h a i : List Token) → texts (h ++ opening ∷ (a ++ comma ∷ i) ++ token (codes ")") ∷ []) ≡ texts h ++ codes "(" ∷ texts a ++ codes "," ∷ texts i ++ codes ")" ∷ []
wide h a i = simp (map-append, append_assoc)

module _ (sig : Signature) (variables : List Variable) where
  -- a term whose tokens spell it, also as the last argument of its own operator
  record Part (t : RawTerm) : Type 0 where
    spells : Spells sig variables t (printed sig t).precedence (texts (printed sig t).tokens)
    nested : (f : ℕ) (o : Operator) → IsOperator sig f o → IsTrue o.assoc → (printed sig t).operator ≡ f → has_arguments (printed sig t) ≡ true
        → SpellsNested sig variables f o t (texts (divided (printed sig t).arguments))

  data Parts : RawTerms → List ℕ → Type 0 where
    no_parts : Parts nil []
    and_part : {t : RawTerm} {ts : RawTerms} {K : ℕ} {Ks : List ℕ} → Part t → HasKind sig t K → Parts ts Ks → Parts (cons t ts) (K ∷ Ks)

  parts_length : {ts : RawTerms} {Ks : List ℕ} → Parts ts Ks → length (printed_all sig ts) ≡ length Ks
  parts_length no_parts = refl
  parts_length (and_part p k ps) = ap suc (parts_length ps)

  -- an argument in a hole
  in_hole_spelled : (g : Gather) (gs : List Gather) (p : ℕ) (t : RawTerm) → (p ≡ 0 → has_less (g ∷ gs) ≡ false) → Part t
      → (q : ℕ) × Spells sig variables t q (texts (in_hole g p (printed sig t))) × IsTaken g p q
  in_hole_spelled g gs p t h part =
      let a = printed sig t in
      elim (cases_Bool (takes g p a.precedence)) [
        | inl e ↦ (a.precedence, rw e part.spells, taken_of g p a.precedence e)
        | inr e ↦ (0, rw (e, texts_both (token (codes "(") ∷ a.tokens)) (grouped t a.precedence (texts a.tokens) part.spells), grouped_taken g gs p h)
      ]

  items_spelled : (p : ℕ) (items : List NameItem) (gather : List Gather) {ts : RawTerms} {Ks : List ℕ} → count_holes items ≡ length gather → count_holes items ≡ length Ks
      → (p ≡ 0 → has_less gather ≡ false) → Parts ts Ks → SpellsItems sig variables p items gather Ks ts (texts (in_holes p items gather (printed_all sig ts)))
  items_spelled p [] [] e f h no_parts = no_items p
  items_spelled p [] [] e f h (and_part part k parts) = absurd (omega arith)
  items_spelled p [] (g ∷ gs) e f h parts = absurd (omega arith)
  items_spelled p (piece x ∷ items) gs {ts} {Ks} e f h parts = over_piece p x items gs Ks ts (texts (in_holes p items gs (printed_all sig ts))) (items_spelled p items gs e f h parts)
  items_spelled p (hole ∷ items) [] e f h parts = absurd (omega arith)
  items_spelled p (hole ∷ items) (g ∷ gs) e f h no_parts = absurd (omega arith)
  items_spelled p (hole ∷ items) (g ∷ gs) e f h (and_part {t} {ts} {K} {Ks} part k parts) =
      let one = in_hole_spelled g gs p t h part in
      let rest = in_holes p items gs (printed_all sig ts) in
      rw (texts_both (in_hole g p (printed sig t)) rest)
      (over_hole p g K one.0 t items gs Ks ts (texts (in_hole g p (printed sig t))) (texts rest) one.1 one.2 k
      (items_spelled p items gs (omega arith) (omega arith) (λ z. less_behind g gs (h z)) parts))

  -- arguments divided by commas, none of which is spread
  arguments_spelled : (f : ℕ) {t : RawTerm} {ts : RawTerms} {Ks : List ℕ} → Parts (cons t ts) Ks
      → SpellsArguments sig variables Ks (cons t ts) (texts (divided (arguments_of false f (printed_all sig (cons t ts)))))
  arguments_spelled f (and_part {t} {ts} {K} {Ks} part k no_parts) = last K t (printed sig t).precedence (texts (printed sig t).tokens) part.spells k
  arguments_spelled f (and_part {t} {ts} {K} {Ks} part k (and_part {t = u} {ts = us} {K = L} {Ks = Ls} other l parts)) =
      let a = printed sig t in
      let inner = divided (arguments_of false f (printed_all sig (cons u us))) in
      rw (list_more false f a (printed sig u) (printed_all sig us), texts_both a.tokens (comma ∷ inner))
      (more K (L ∷ Ls) t (cons u us) a.precedence (texts a.tokens) (texts inner) part.spells k (arguments_spelled f (and_part other l parts)))

  -- two arguments of an associative operator, of which the last one may be spread
  module _ (f : ℕ) (o : Operator) (t u : RawTerm) (K L : ℕ) (is : IsOperator sig f o) (joint : IsTrue o.assoc) (kinds : o.args ≡ K ∷ L ∷ [])
      (part : Part t) (k : HasKind sig t K) (other : Part u) (l : HasKind sig u L) where
    -- the last argument is not spread
    pair_spelled : SpellsArguments sig variables o.args (cons t (cons u nil)) (texts ((printed sig t).tokens ++ comma ∷ (printed sig u).tokens))
    pair_spelled =
        let a = printed sig t in
        let b = printed sig u in
        rw (kinds, texts_both a.tokens (comma ∷ b.tokens))
        (more K (L ∷ []) t (cons u nil) a.precedence (texts a.tokens) (texts b.tokens) part.spells k (last L u b.precedence (texts b.tokens) other.spells l))

    first_kind : Member K o.args
    first_kind = rw kinds (inl refl)

    -- as the last argument of the operator
    nested_pair : SpellsNested sig variables f o (apply f (cons t (cons u nil))) (texts (divided ((printed sig t).tokens ∷ spread f (printed sig u))))
    nested_pair =
        let a = printed sig t in
        let b = printed sig u in
        let inner = divided b.arguments in
        elim (spread_cases f b) [
          | inl (e, h, s) ↦
              rw (s, divided_more a.tokens b.arguments (has_some (length b.arguments) h), texts_both a.tokens (comma ∷ inner))
              (another f o t u a.precedence K (texts a.tokens) (texts inner) part.spells first_kind k (other.nested f o is joint e h))
          | inr s ↦ rw s (two f o t u (texts (a.tokens ++ comma ∷ b.tokens)) pair_spelled)
        ]

    -- and by itself
    called_pair : Spells sig variables (apply f (cons t (cons u nil))) 0 (texts (called (head o) ((printed sig t).tokens ∷ spread f (printed sig u))))
    called_pair =
        let a = printed sig t in
        let b = printed sig u in
        let inner = divided b.arguments in
        elim (spread_cases f b) [
          | inl (e, h, s) ↦
              rw (s, divided_more a.tokens b.arguments (has_some (length b.arguments) h), wide (head o) a.tokens inner)
              (flattened f o t u (texts (head o)) (texts inner) is joint (head_is o) a.precedence K (texts a.tokens) part.spells first_kind k (other.nested f o is joint e h))
          | inr s ↦
              rw (s, narrow (head o) (a.tokens ++ comma ∷ b.tokens))
              (prefixed f o t (cons u nil) (texts (head o)) (texts (a.tokens ++ comma ∷ b.tokens)) is (head_is o) pair_spelled)
        ]

  module _ (f : ℕ) (o : Operator) (is : IsOperator sig f o) where
    nested_spelled : {ts : RawTerms} {Ks : List ℕ} → IsTrue o.assoc → o.args ≡ Ks → length Ks ≡ 2 → Parts ts Ks
        → SpellsNested sig variables f o (apply f ts) (texts (divided (arguments_of true f (printed_all sig ts))))
    nested_spelled joint kinds n no_parts = absurd (omega arith)
    nested_spelled joint kinds n (and_part part k no_parts) = absurd (omega arith)
    nested_spelled joint kinds n (and_part {t} {K} part k (and_part {t = u} {K = L} other l no_parts)) = nested_pair f o t u K L is joint kinds part k other l
    nested_spelled joint kinds n (and_part part k (and_part other l (and_part third m parts))) = absurd (omega arith)

    joint_spelled : {ts : RawTerms} {Ks : List ℕ} → IsTrue o.assoc → o.args ≡ Ks → length Ks ≡ 2 → Parts ts Ks
        → Spells sig variables (apply f ts) 0 (texts (called (head o) (arguments_of true f (printed_all sig ts))))
    joint_spelled joint kinds n no_parts = absurd (omega arith)
    joint_spelled joint kinds n (and_part part k no_parts) = absurd (omega arith)
    joint_spelled joint kinds n (and_part {t} {K} part k (and_part {t = u} {K = L} other l no_parts)) = called_pair f o t u K L is joint kinds part k other l
    joint_spelled joint kinds n (and_part part k (and_part other l (and_part third m parts))) = absurd (omega arith)

    plain_spelled : {ts : RawTerms} {Ks : List ℕ} → o.args ≡ Ks → Parts ts Ks → Spells sig variables (apply f ts) 0 (texts (called (head o) (arguments_of false f (printed_all sig ts))))
    plain_spelled kinds no_parts = a_constant f o (texts (head o)) is kinds (head_is o)
    plain_spelled kinds (and_part {t} {ts} {K} {Ks} part k parts) =
        let listed = arguments_of false f (printed_all sig (cons t ts)) in
        rw (called_some (head o) listed (arguments_some false f (printed sig t) (printed_all sig ts)), narrow (head o) (divided listed))
        (prefixed f o t ts (texts (head o)) (texts (divided listed)) is (head_is o) (rw kinds (arguments_spelled f (and_part part k parts))))

    mixfix_spelled : {ts : RawTerms} → is_mixfix o (length (printed_all sig ts)) ≡ true → Parts ts o.args
        → Spells sig variables (apply f ts) o.prec (texts (in_holes o.prec (items_of o.spelling) o.gather (printed_all sig ts)))
    mixfix_spelled {ts} m parts =
        let n = length (printed_all sig ts) in
        let open_parts = and_parts (has_hole (items_of o.spelling)) _ m in
        let counted = and_parts (count_holes (items_of o.spelling) == n) _ open_parts.1 in
        let marked = and_parts (length o.gather == n) _ counted.1 in
        let holes_are : count_holes (items_of o.spelling) ≡ n = eqb-true _ _ counted.0 in
        let marks_are : length o.gather ≡ n = eqb-true _ _ marked.0 in
        let args_are : n ≡ length o.args = parts_length parts in
        mixfix f o ts (texts (in_holes o.prec (items_of o.spelling) o.gather (printed_all sig ts))) is open_parts.0
        (items_spelled o.prec (items_of o.spelling) o.gather (holes_are ∙ sym marks_are) (holes_are ∙ args_are) (no_less o.prec (has_less o.gather) marked.1) parts)

    prefix_spelled : (assoc : Bool) {ts : RawTerms} → o.assoc ≡ assoc → (IsTrue o.assoc → length o.args ≡ 2) → Parts ts o.args
        → Spells sig variables (apply f ts) 0 (texts (called (head o) (arguments_of assoc f (printed_all sig ts))))
    prefix_spelled true e two_args parts = joint_spelled e refl (two_args e) parts
    prefix_spelled false e two_args parts = plain_spelled refl parts

    operator_spelled : {ts : RawTerms} → (IsTrue o.assoc → length o.args ≡ 2) → Parts ts o.args
        → Spells sig variables (apply f ts) (printed sig (apply f ts)).precedence (texts (printed sig (apply f ts)).tokens)
    operator_spelled {ts} two_args parts =
        elim (cases_Bool (is_mixfix o (length (printed_all sig ts)))) [
          | inl m ↦ rw (is, m) (mixfix_spelled m parts)
          | inr m ↦ rw (is, m) (prefix_spelled o.assoc refl two_args parts)
        ]

  -- an operator's number has one operator
  same_operator : (f : ℕ) (o o' : Operator) → IsOperator sig f o → IsOperator sig f o' → o ≡ o'
  same_operator f o o' is is' = let e : Some o ≡ Some o' = sym is ∙ is' in cc

  nested_applied : (f : ℕ) (o : Operator) (ts : RawTerms) → IsOperator sig f o → (IsTrue o.assoc → length o.args ≡ 2) → Parts ts o.args
      → (g : ℕ) (o' : Operator) → IsOperator sig g o' → IsTrue o'.assoc → f ≡ g
      → SpellsNested sig variables g o' (apply f ts) (texts (divided (arguments_of (is_assoc sig f) f (printed_all sig ts))))
  nested_applied f o ts is two_args parts g o' is' joint e =
      let at_f : IsOperator sig f o' = rw e is' in
      let agree : o ≡ o' = same_operator f o o' is at_f in
      let own : IsTrue o.assoc = rw agree joint in
      let spelled : SpellsNested sig variables f o (apply f ts) (texts (divided (arguments_of true f (printed_all sig ts)))) = nested_spelled f o is own refl (two_args own) parts in
      let assoc : is_assoc sig f ≡ true = rw is own in
      rw (assoc, ← e, ← agree) spelled

  module _ (binary : AreBinary sig) where
    mutual
      part : {t : RawTerm} → IsRawTerm sig t → IsNamed sig t → Part t
      part (a_numeral {n} h k) named = record {
        spells = numbered n (decimal n) h (decimal_number n k);
        nested = λ f o is joint e h. absurd (true≢false (sym h));
      }
      part (a_quoted {q} h) named = record {
        spells = identified q h named;
        nested = λ f o is joint e h. absurd (true≢false (sym h));
      }
      part (a_variable {x}) named = record {
        spells = rw named.2 (with_sort x named.1 named.2 named.0);
        nested = λ f o is joint e h. absurd (true≢false (sym h));
      }
      part (an_operator {f} {ts} o is all) named =
          let below = parts all named in
          record {
            spells = operator_spelled f o is (binary f o is) below;
            nested = λ g o' is' joint e h. nested_applied f o ts is (binary f o is) below g o' is' joint e;
          }

      parts : {ts : RawTerms} {Ks : List ℕ} → AreRawTerms sig ts Ks → AreNamed sig ts → Parts ts Ks
      parts end named = no_parts
      parts (next r k all) named = and_part (part r named.0) k (parts all named.1)

-- the tokens of a printed term spell it
pub printed_spelled : PrintedSpells
printed_spelled sig variables t binary raw named = (part sig variables binary raw named).spells
