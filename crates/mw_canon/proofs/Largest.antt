-- Where the successor of the largest numeral stands in terms that operators are applied to.
use Rattle.std.specs.Prelude.{◌≡◌, ℕ, Bool, true, false, cond, ◌&&◌, ◌||◌, nat_eq, Option, Some, None, refl}
use Rattle.std.proofs.Common.{ap, sym, ◌∙◌}
use Rattle.std.proofs.Math.Bool.{or-false, or_assoc}
use Rattle.std.proofs.lemmas.Bool.{both_ways, eqb-true}
use Rattle.mw_logic.specs.Term.{RawTerm, numeral, quoted, variable, apply, RawTerms, nil, cons, join}
use Rattle.mw_logic.specs.Signature.{Signature, Identity, constant_of, numeral_of, identity_term}
use Rattle.mw_logic.specs.Accepted.{IsAccepted}
use Rattle.mw_logic.specs.Parts.{is_assoc}
use Rattle.mw_logic.specs.TermOrder.{stands_after, insert_term, sorted_terms}
use Rattle.mw_logic.specs.Kinds.{is_successor}
use Rattle.mw_logic.specs.NormalForm.{is_identity, own_arguments, elements, identity_or_empty, rebuilt, arranged, has_largest, some_largest}
use Rattle.mw_logic.proofs.Canonical.{named}
use Rattle.mw_logic.proofs.Invariance.{successor_not_assoc}
use Rattle.mw_logic.proofs.Successor.{is_successor-sound}

-- one of three, the second first
or-swap : (a b c : Bool) → (a || (b || c)) ≡ (b || (a || c))
or-swap true true c = refl
or-swap true false c = refl
or-swap false true c = refl
or-swap false false c = refl

module _ (sig : Signature) where
  -- in two lists
  some_largest-join : (ts us : RawTerms) → some_largest sig (join ts us) ≡ (some_largest sig ts || some_largest sig us)
  some_largest-join nil us = refl
  some_largest-join (cons t ts) us = ap (λ b. has_largest sig t || b) (some_largest-join ts us) ∙ sym (or_assoc (has_largest sig t) (some_largest sig ts) (some_largest sig us))

  -- in a list in order
  some_largest-insert : (t : RawTerm) (us : RawTerms) → some_largest sig (insert_term t us) ≡ (has_largest sig t || some_largest sig us)
  some_largest-insert t nil = refl
  some_largest-insert t (cons u us) = by_test (stands_after t u) (some_largest-insert t us)
    where
      by_test : (b : Bool) → some_largest sig (insert_term t us) ≡ (has_largest sig t || some_largest sig us)
          → some_largest sig (cond b (cons u (insert_term t us)) (cons t (cons u us))) ≡ (has_largest sig t || (has_largest sig u || some_largest sig us))
      by_test true h = ap (λ b. has_largest sig u || b) h ∙ or-swap (has_largest sig u) (has_largest sig t) (some_largest sig us)
      by_test false h = refl

  pub some_largest-sorted : (ts : RawTerms) → some_largest sig (sorted_terms ts) ≡ some_largest sig ts
  some_largest-sorted nil = refl
  some_largest-sorted (cons t ts) = some_largest-insert t (sorted_terms ts) ∙ ap (λ b. has_largest sig t || b) (some_largest-sorted ts)

  pub some_largest-arranged : (c : Bool) (ts : RawTerms) → some_largest sig (arranged c ts) ≡ some_largest sig ts
  some_largest-arranged true ts = some_largest-sorted ts
  some_largest-arranged false ts = refl

  -- under an operator that isn't the successor
  pub plain_largest : (f : ℕ) (ts : RawTerms) → is_successor sig f ≡ false → has_largest sig (apply f ts) ≡ some_largest sig ts
  plain_largest f ts h = rw h refl

  -- not in an identity
  identity_largest : (i : Identity) → has_largest sig (identity_term i) ≡ false
  identity_largest (numeral_of n) = refl
  identity_largest (constant_of c) = by_test (is_successor sig c)
    where
      by_test : (b : Bool) → ((b && false) || false) ≡ false
      by_test true = refl
      by_test false = refl

  empty_largest : (e : Option Identity) (f : ℕ) → is_successor sig f ≡ false → has_largest sig (identity_or_empty e f) ≡ false
  empty_largest None f h = plain_largest f nil h
  empty_largest (Some i) f h = identity_largest i

module _ (sig : Signature) (ok : IsAccepted sig) (f : ℕ) (assoc : is_assoc sig f ≡ true) where
  not_successor : is_successor sig f ≡ false
  not_successor = by_test (is_successor sig f) refl
    where
      by_test : (b : Bool) → is_successor sig f ≡ b → is_successor sig f ≡ false
      by_test false h = h
      by_test true h = absurd (both_ways _ (successor_not_assoc sig ok f (is_successor-sound sig f h)) assoc)

  -- over elements
  pub rebuilt_largest : (e : Option Identity) (ts : RawTerms) → has_largest sig (rebuilt e f ts) ≡ some_largest sig ts
  rebuilt_largest e nil = empty_largest sig e f not_successor
  rebuilt_largest e (cons t nil) = sym (or-false (has_largest sig t))
  rebuilt_largest e (cons t (cons u us)) = plain_largest sig f (cons t (cons u us)) not_successor

  -- in a term's elements
  pub elements_largest : (e : Option Identity) (t : RawTerm) → some_largest sig (elements e f t) ≡ has_largest sig t
  elements_largest e t = by_name (is_identity e t) refl
    where
      own : (t : RawTerm) → some_largest sig (own_arguments f t) ≡ has_largest sig t
      own (numeral n) = refl
      own (quoted q) = refl
      own (variable x) = refl
      own (apply g nil) = or-false (has_largest sig (apply g nil))
      own (apply g (cons u us)) = by_test (nat_eq f g) refl
        where
          by_test : (b : Bool) → nat_eq f g ≡ b → some_largest sig (cond b (cons u us) (cons (apply g (cons u us)) nil)) ≡ has_largest sig (apply g (cons u us))
          by_test true q = rw (sym (eqb-true f g q)) (sym (plain_largest sig f (cons u us) not_successor))
          by_test false q = or-false (has_largest sig (apply g (cons u us)))

      by_name : (b : Bool) → is_identity e t ≡ b → some_largest sig (cond b nil (own_arguments f t)) ≡ has_largest sig t
      by_name true h = sym (ap (has_largest sig) (named e f t h) ∙ empty_largest sig e f not_successor)
      by_name false h = own t

-- a flag that tells of more terms
pub flag_more : (sig : Signature) (old now new b : Bool) (ts us vs : RawTerms) → new ≡ (now || b) → now ≡ (old || some_largest sig ts) → us ≡ join ts vs → some_largest sig vs ≡ b → new ≡ (old || some_largest sig us)
flag_more sig old now new b ts us vs e f g h =
    e ∙ ap (λ x. x || b) f ∙ or_assoc old (some_largest sig ts) b ∙ ap (λ x. old || x) (ap (λ x. some_largest sig ts || x) (sym h) ∙ sym (some_largest-join sig ts vs) ∙ ap (some_largest sig) (sym g))
