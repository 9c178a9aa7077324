-- Operators on flattened arguments, as they are printed.
use Rattle.std.proofs.Common.{◌≡◌, ◌≢◌, ◌∙◌, ◌<◌, ◌≤◌, ◌==◌, ◌&&◌, ℕ, zero, suc, Bool, true, false, List, [], ◌∷◌, ◌++◌, length, min, Option, Some, if◌then◌else◌, refl, ap, sym, append_assoc, arith}
use Rattle.std.specs.Prelude.{not, codes}
use Rattle.std.proofs.lemmas.Bool.{eq-eqb, ne_eqb, eqb-true, and_parts, true≢false}
use Rattle.std.proofs.lemmas.List.{append-nil}
use Rattle.mw_logic.specs.Term.{RawTerm, apply, RawTerms, nil, cons}
use Rattle.mw_logic.specs.Signature.{Signature, Operator, Gather, at_number}
use Rattle.mw_logic.specs.Parts.{is_assoc, nested, all_nested, nest, chain}
use Rattle.mw_logic.specs.Terms.{terms_of}
use Rattle.mw_text.specs.Names.{NameItem, piece, hole, items_of, has_hole, count_holes}
use Rattle.mw_print.specs.Tokens.{token}
use Rattle.mw_print.specs.Printing.{Printed, takes, has_less, is_mixfix, in_hole, in_holes, called, spread, arguments_of, head, precedence_of, applied, printed, printed_all, shown, all_shown}
use Rattle.mw_print.specs.Chains.{IsSingle, before_hole, after_hole, parenthesis, front, back}
use Rattle.mw_print.proofs.Forms.{mixfix_tokens, prefix_tokens, length_shown}

-- no form with holes stands on no arguments
no_holes : (a b c : Bool) (n : ℕ) → ((n == 0) ≡ true → a ≡ false) → (a && (n == 0 && (b && c))) ≡ false
no_holes true b c zero h = absurd (true≢false (h refl))
no_holes true b c (suc n) h = rw (ne_eqb (suc n) 0 (λ e. absurd (omega arith))) refl
no_holes false b c n h = refl

has_none : (items : List NameItem) → (count_holes items == 0) ≡ true → has_hole items ≡ false
has_none [] e = refl
has_none (piece x ∷ items) e = has_none items e
has_none (hole ∷ items) e = absurd (omega (arith, eqb-true (suc (count_holes items)) 0 e))

not_mixfix : (o : Operator) → is_mixfix o 0 ≡ false
not_mixfix o = no_holes (has_hole (items_of o.spelling)) (length o.gather == 0) (not (o.prec == 0 && has_less o.gather)) (count_holes (items_of o.spelling)) (has_none (items_of o.spelling))

-- of two arguments at most, a form with holes stands on two, where it doesn't on one
two_of : (o : Operator) (n : ℕ) → n ≢ 1 → is_mixfix o (min n 2) ≡ true → 2 ≤ n
two_of o zero one m = absurd (true≢false (sym m ∙ not_mixfix o))
two_of o (suc zero) one m = absurd (one refl)
two_of o (suc (suc n)) one m = omega arith

pub joint_count : (o : Operator) (n : ℕ) → n ≢ 1 → is_mixfix o (min n 2) ≡ true → (2 ≤ n) × (is_mixfix o 2 ≡ true)
joint_count o n one m =
    let two = two_of o n one m in
    let least : min n 2 ≡ 2 = omega (arith, two) in
    (two, ap (is_mixfix o) (sym least) ∙ m)

module _ (sig : Signature) (f : ℕ) where
  -- of an operator that isn't associative
  pub plain : is_assoc sig f ≡ false → (ts : List RawTerm) → applied sig f (all_shown sig ts) ≡ shown sig (apply f (terms_of ts))
  plain e ts = ap (λ b. printed sig (nest b f (all_nested sig (terms_of ts)))) (sym e)

  -- of an associative one
  joint : is_assoc sig f ≡ true → (ts : List RawTerm) → printed sig (nest true f (all_nested sig (terms_of ts))) ≡ shown sig (apply f (terms_of ts))
  joint e ts = ap (λ b. printed sig (nest b f (all_nested sig (terms_of ts)))) (sym e)

  pub on_one : is_assoc sig f ≡ true → (t : RawTerm) → shown sig t ≡ shown sig (apply f (terms_of (t ∷ [])))
  on_one e t = joint e (t ∷ [])

  -- the arguments of the chain, in prefix form
  spread_chain : is_assoc sig f ≡ true → (u : RawTerm) (us : RawTerms) → spread f (printed sig (chain f u us)) ≡ arguments_of true f (printed sig u ∷ printed_all sig us)
  spread_chain e u nil = refl
  spread_chain e u (cons v vs) =
      let rest : spread f (printed sig (chain f v vs)) ≡ arguments_of true f (printed sig v ∷ printed_all sig vs) = spread_chain e v vs in
      let n : ℕ = suc (length (spread f (printed sig (chain f v vs)))) in
      let apart : (n == 0) ≡ false = ne_eqb n 0 (λ e. absurd (omega arith)) in
      rw (e, eq-eqb f f refl, apart, rest) refl

  -- the last argument, where f is on top of it
  pub last_own : (t : RawTerm) (ts : List RawTerm) → t ≡ apply f (terms_of ts) → 0 < length ts → is_assoc sig f ≡ true → arguments_of true f (shown sig t ∷ []) ≡ arguments_of true f (all_shown sig ts)
  last_own t [] is some e = absurd (omega arith)
  last_own t (u ∷ us) is some e =
      ap (λ t. spread f (shown sig t)) is ∙ ap (spread f) (sym (joint e (u ∷ us))) ∙ spread_chain e (nested sig u) (all_nested sig (terms_of us))

  -- two arguments or more
  pub on_two : is_assoc sig f ≡ true → (t u : RawTerm) → applied sig f (all_shown sig (t ∷ u ∷ [])) ≡ shown sig (apply f (terms_of (t ∷ u ∷ [])))
  on_two e t u = joint e (t ∷ u ∷ [])

  on_more : is_assoc sig f ≡ true → (t u : RawTerm) (us : List RawTerm)
      → applied sig f (shown sig t ∷ printed sig (chain f (nested sig u) (all_nested sig (terms_of us))) ∷ []) ≡ shown sig (apply f (terms_of (t ∷ u ∷ us)))
  on_more e t u us = joint e (t ∷ u ∷ us)

  module _ (o : Operator) (there : Some o ≡ at_number sig.operators f) where
    pub assoc_is : o.assoc ≡ is_assoc sig f
    assoc_is = rw (← there) refl

    pub joint_prefix : is_assoc sig f ≡ true → (ts : List RawTerm) → length ts ≢ 1 → is_mixfix o (min (length ts) 2) ≡ false
        → head o ++ called [] (arguments_of true f (all_shown sig ts)) ≡ (shown sig (apply f (terms_of ts))).tokens
    joint_prefix e [] one m = prefix_tokens sig f [] o there (not_mixfix o) ∙ ap (λ p. p.tokens) (joint e [])
    joint_prefix e (t ∷ []) one m = absurd (one refl)
    joint_prefix e (t ∷ u ∷ us) one m =
        let c : Printed = printed sig (chain f (nested sig u) (all_nested sig (terms_of us))) in
        let two : min (length (t ∷ u ∷ us)) 2 ≡ 2 = omega arith in
        let listed : arguments_of true f (shown sig t ∷ c ∷ []) ≡ arguments_of true f (all_shown sig (t ∷ u ∷ us))
        = ap (λ xs. (shown sig t).tokens ∷ xs) (spread_chain e (nested sig u) (all_nested sig (terms_of us))) in
        ap (λ xs. head o ++ called [] xs) (sym listed ∙ ap (λ b. arguments_of b f (shown sig t ∷ c ∷ [])) (sym e ∙ sym assoc_is))
        ∙ prefix_tokens sig f (shown sig t ∷ c ∷ []) o there (ap (is_mixfix o) (sym two) ∙ m) ∙ ap (λ p. p.tokens) (on_more e t u us)

    pub plain_precedence : o.assoc ≡ false → (ts : List RawTerm) → precedence_of (Some o) (length ts) ≡ (shown sig (apply f (terms_of ts))).precedence
    plain_precedence e ts = rw (← plain (sym assoc_is ∙ e) ts, ← there, length_shown sig ts) refl

    pub joint_precedence : o.assoc ≡ true → (ts : List RawTerm) → length ts ≢ 1 → precedence_of (Some o) (min (length ts) 2) ≡ (shown sig (apply f (terms_of ts))).precedence
    joint_precedence e [] one = rw (← joint (sym assoc_is ∙ e) [], ← there) refl
    joint_precedence e (t ∷ []) one = absurd (one refl)
    joint_precedence e (t ∷ u ∷ us) one =
        let two : min (length (t ∷ u ∷ us)) 2 ≡ 2 = omega arith in
        ap (precedence_of (Some o)) two ∙ ap (λ (x : Option Operator). precedence_of x 2) there ∙ ap (λ p. p.precedence) (on_more (sym assoc_is ∙ e) t u us)

-- a term with another operator on top isn't spread
not_spread : (f g : ℕ) (a : Printed) → a.operator ≡ g → (g ≡ f → ⊥) → spread f a ≡ a.tokens ∷ []
not_spread f g a e other = rw (e, ne_eqb g f other) refl

chain_operator : (sig : Signature) (g : ℕ) (t u : RawTerm) (us : RawTerms) → (printed sig (chain g t (cons u us))).operator ≡ g
chain_operator sig g t u us = refl

pub other_own : (sig : Signature) (f g : ℕ) (t : RawTerm) (ts : List RawTerm) → t ≡ apply g (terms_of ts) → (g ≡ f → ⊥) → (IsSingle sig t → ⊥) → spread f (shown sig t) ≡ (shown sig t).tokens ∷ []
other_own sig f g t ts is other single = of (is_assoc sig g) refl ts is
  where
    of : (b : Bool) → is_assoc sig g ≡ b → (ts : List RawTerm) → t ≡ apply g (terms_of ts) → spread f (shown sig t) ≡ (shown sig t).tokens ∷ []
    of false e ts is = not_spread f g (shown sig t) (ap (λ t. (shown sig t).operator) is ∙ ap (λ p. p.operator) (sym (plain sig g e ts))) other
    of true e [] is = not_spread f g (shown sig t) (ap (λ t. (shown sig t).operator) is ∙ ap (λ p. p.operator) (sym (joint sig g e []))) other
    of true e (u ∷ []) is = absurd (single (g, u, is, e))
    of true e (u ∷ v ∷ vs) is = not_spread f g (shown sig t) (ap (λ t. (shown sig t).operator) is ∙ ap (λ p. p.operator) (sym (on_more sig g e u v vs))) other

-- an operator on arguments that isn't an associative one on one argument
same_count : (ts : List RawTerm) (u : RawTerm) → terms_of ts ≡ cons u nil → length ts ≡ 1
same_count [] u e = cc
same_count (t ∷ []) u e = refl
same_count (t ∷ v ∷ vs) u e = cc

pub not_single_count : (sig : Signature) (t : RawTerm) (f : ℕ) (ts : List RawTerm) → t ≡ apply f (terms_of ts) → length ts ≢ 1 → IsSingle sig t → ⊥
not_single_count sig t f ts is other (g, u, e, a) =
    let same : apply f (terms_of ts) ≡ apply g (cons u nil) = sym is ∙ e in
    let args : terms_of ts ≡ cons u nil = cc in
    other (same_count ts u args)

pub not_single_assoc : (sig : Signature) (t : RawTerm) (f : ℕ) (ts : List RawTerm) → t ≡ apply f (terms_of ts) → is_assoc sig f ≡ false → IsSingle sig t → ⊥
not_single_assoc sig t f ts is none (g, u, e, a) =
    let same : apply f (terms_of ts) ≡ apply g (cons u nil) = sym is ∙ e in
    let operator : f ≡ g = cc in
    true≢false (sym a ∙ ap (is_assoc sig) (sym operator) ∙ none)

-- Forms in forms. A name's pieces round two holes.
no_hole : (p : ℕ) (items : List NameItem) → count_holes items ≡ 0 → in_holes p items [] [] ≡ before_hole items
no_hole p [] e = refl
no_hole p (piece x ∷ items) e = ap (λ ts. token x ∷ ts) (no_hole p items e)
no_hole p (hole ∷ items) e = absurd (omega (arith, e))

one_hole : (p : ℕ) (items : List NameItem) (h : Gather) (b : Printed) → count_holes items ≡ 1
    → in_holes p items (h ∷ []) (b ∷ []) ≡ before_hole items ++ (in_hole h p b ++ before_hole (after_hole items))
one_hole p [] h b e = absurd (omega (arith, e))
one_hole p (piece x ∷ items) h b e = ap (λ ts. token x ∷ ts) (one_hole p items h b e)
one_hole p (hole ∷ items) h b e = ap (λ ts. in_hole h p b ++ ts) (no_hole p items (omega (arith, e)))

two_holes : (p : ℕ) (items : List NameItem) (g h : Gather) (a b : Printed) → count_holes items ≡ 2
    → in_holes p items (g ∷ h ∷ []) (a ∷ b ∷ []) ≡ before_hole items ++ (in_hole g p a ++ (before_hole (after_hole items) ++ (in_hole h p b ++ before_hole (after_hole (after_hole items)))))
two_holes p [] g h a b e = absurd (omega (arith, e))
two_holes p (piece x ∷ items) g h a b e = ap (λ ts. token x ∷ ts) (two_holes p items g h a b e)
two_holes p (hole ∷ items) g h a b e = ap (λ ts. in_hole g p a ++ ts) (one_hole p items h b (omega (arith, e)))

-- a form of the operator in a hole
in_own : (o : Operator) (h : Gather) (b : Printed) → b.precedence ≡ o.prec
    → in_hole h o.prec b ≡ parenthesis o h (token (codes "(") ∷ []) ++ (b.tokens ++ parenthesis o h (token (codes ")") ∷ []))
in_own o h b e = rw e (of (takes h o.prec o.prec))
  where
    of : (t : Bool) → (if t then b.tokens else token (codes "(") ∷ b.tokens ++ token (codes ")") ∷ [])
        ≡ (if t then [] else token (codes "(") ∷ []) ++ (b.tokens ++ (if t then [] else token (codes ")") ∷ []))
    of true = sym (append-nil b.tokens)
    of false = refl

in_form : (o : Operator) (gs : List Gather) (a b : Printed) → count_holes (items_of o.spelling) ≡ 2 → length gs ≡ 2 → b.precedence ≡ o.prec
    → in_holes o.prec (items_of o.spelling) gs (a ∷ b ∷ []) ≡ front o gs a ++ (b.tokens ++ back o gs)
in_form o [] a b e n k = absurd (omega (arith, n))
in_form o (g ∷ []) a b e n k = absurd (omega (arith, n))
in_form o (g ∷ h ∷ []) a b e n k = rw (two_holes o.prec (items_of o.spelling) g h a b e, in_own o h b k) (simp append_assoc)
in_form o (g ∷ h ∷ i ∷ gs) a b e n k = absurd (omega (arith, n))

module _ (sig : Signature) (f : ℕ) (o : Operator) (there : Some o ≡ at_number sig.operators f) (assoc : o.assoc ≡ true) (m : is_mixfix o 2 ≡ true) where
  is_joint : is_assoc sig f ≡ true
  is_joint = sym (assoc_is sig f o there) ∙ assoc

  holes_two : count_holes (items_of o.spelling) ≡ 2
  holes_two = eqb-true (count_holes (items_of o.spelling)) 2 (and_parts _ _ (and_parts (has_hole (items_of o.spelling)) _ m).1).0

  marks_two : length o.gather ≡ 2
  marks_two = eqb-true (length o.gather) 2 (and_parts _ _ (and_parts (count_holes (items_of o.spelling) == 2) _ (and_parts (has_hole (items_of o.spelling)) _ m).1).1).0

  pub chain_two : (t u : RawTerm) → in_holes o.prec (items_of o.spelling) o.gather (all_shown sig (t ∷ u ∷ [])) ≡ (shown sig (apply f (terms_of (t ∷ u ∷ [])))).tokens
  chain_two t u = mixfix_tokens sig f (all_shown sig (t ∷ u ∷ [])) o there m ∙ ap (λ p. p.tokens) (on_two sig f is_joint t u)

  pub chain_step : (t u v : RawTerm) (vs : List RawTerm)
      → (shown sig (apply f (terms_of (t ∷ u ∷ v ∷ vs)))).tokens ≡ front o o.gather (shown sig t) ++ ((shown sig (apply f (terms_of (u ∷ v ∷ vs)))).tokens ++ back o o.gather)
  chain_step t u v vs =
      let c : Printed = printed sig (chain f (nested sig u) (all_nested sig (terms_of (v ∷ vs)))) in
      let prec : c.precedence ≡ o.prec = rw (← there, m) refl in
      let inner : c ≡ shown sig (apply f (terms_of (u ∷ v ∷ vs))) = on_more sig f is_joint u v vs in
      ap (λ p. p.tokens) (sym (on_more sig f is_joint t u (v ∷ vs))) ∙ sym (mixfix_tokens sig f (shown sig t ∷ c ∷ []) o there m)
      ∙ in_form o o.gather (shown sig t) c holes_two marks_two prec ∙ ap (λ p. front o o.gather (shown sig t) ++ (p.tokens ++ back o o.gather)) inner
