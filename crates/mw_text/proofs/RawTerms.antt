-- What tokens spell is a raw term of the signature.
use Rattle.std.proofs.Common.{ℕ, List, IsTrue, sym, subst, ⊎_elim}
use Rattle.mw_logic.specs.Term.{Variable, RawTerm, RawTerms, nil, cons, apply}
use Rattle.mw_logic.specs.Signature.{Signature, Operator, IsOperator, Member, SameKind, same, HasKind, of_operator, IsRawTerm, a_numeral, a_quoted, a_variable, an_operator, AreRawTerms, end, next}
use Rattle.mw_logic.specs.Accepted.{IsAccepted}
use Rattle.mw_logic.proofs.KindLaws.{SameKind-trans, SameKind-sym, SameKind-equal}
use Rattle.mw_logic.proofs.Soundness.{HasKind-same}
use Rattle.mw_text.specs.Names.{NameItem}
use Rattle.mw_text.proofs.Numbers.{number_below}
use Rattle.mw_text.specs.Mixfix.{Spells, declared, with_sort, numbered, identified, grouped, a_constant, prefixed, flattened, mixfix, SpellsArguments, last, more, SpellsNested, two, another, SpellsItems, no_items, over_piece, over_hole}

module _ (sig : Signature) (accepted : IsAccepted sig) (variables : List Variable) where
  -- the arguments of an associative operator have its result's kind
  of_result : (f : ℕ) (o : Operator) → IsOperator sig f o → IsTrue o.assoc → (K : ℕ) → Member K o.args → SameKind sig K o.result
  of_result f o is h K m =
      let two = accepted.assoc f o is h in
      ⊎_elim
      (λ e. SameKind-trans (SameKind-sym (SameKind-equal e)) two.3)
      (λ k. ⊎_elim (λ e. SameKind-trans (SameKind-sym (SameKind-equal e)) two.4) (λ none. absurd none) k)
      (subst (Member K) two.2 m)

  -- an associative operator on two terms
  pair_raw : (f : ℕ) (o : Operator) (t u : RawTerm) (K L : ℕ) → IsOperator sig f o → IsTrue o.assoc → IsRawTerm sig t → HasKind sig t K → SameKind sig K o.result
      → IsRawTerm sig u → HasKind sig u L → SameKind sig L o.result → IsRawTerm sig (apply f (cons t (cons u nil)))
  pair_raw f o t u K L is h r k sk s l sl =
      let two = accepted.assoc f o is h in
      an_operator o is (subst (AreRawTerms sig (cons t (cons u nil))) (sym two.2)
      (next r (HasKind-same k (SameKind-trans sk (SameKind-sym two.3))) (next s (HasKind-same l (SameKind-trans sl (SameKind-sym two.4))) end)))

  mutual
    pub spelled_raw : {t : RawTerm} {p : ℕ} {text : List (List ℕ)} → Spells sig variables t p text → IsRawTerm sig t
    spelled_raw (declared x m) = a_variable
    spelled_raw (with_sort x S n v) = a_variable
    spelled_raw (numbered n token h e) = a_numeral h (number_below token n e)
    spelled_raw (identified q h i) = a_quoted h
    spelled_raw (grouped t p text s) = spelled_raw s
    spelled_raw (a_constant f o head is e h) = an_operator o is (subst (AreRawTerms sig nil) (sym e) end)
    spelled_raw (prefixed f o t ts head inner is h all) = an_operator o is (arguments_raw all)
    spelled_raw (flattened f o t u head inner is a h p K text s m k rest) =
        let below = nested_raw is a rest in pair_raw f o t u K o.result is a (spelled_raw s) k (of_result f o is a K m) below.0 below.1 same
    spelled_raw (mixfix f o ts text is h items) = an_operator o is (items_raw items)

    arguments_raw : {Ks : List ℕ} {ts : RawTerms} {text : List (List ℕ)} → SpellsArguments sig variables Ks ts text → AreRawTerms sig ts Ks
    arguments_raw (last K t p text s k) = next (spelled_raw s) k end
    arguments_raw (more K Ks t ts p text rest s k all) = next (spelled_raw s) k (arguments_raw all)

    nested_raw : {f : ℕ} {o : Operator} {u : RawTerm} {text : List (List ℕ)} → IsOperator sig f o → IsTrue o.assoc → SpellsNested sig variables f o u text → IsRawTerm sig u × HasKind sig u o.result
    nested_raw is a (two f o t u text all) = (an_operator o is (arguments_raw all), of_operator o is same)
    nested_raw is a (another f o t u p K text rest s m k all) =
        let below = nested_raw is a all in (pair_raw f o t u K o.result is a (spelled_raw s) k (of_result f o is a K m) below.0 below.1 same, of_operator o is same)

    items_raw : {p : ℕ} {items : List NameItem} {gather : _} {Ks : List ℕ} {ts : RawTerms} {text : List (List ℕ)} → SpellsItems sig variables p items gather Ks ts text → AreRawTerms sig ts Ks
    items_raw (no_items p) = end
    items_raw (over_piece p x items gather Ks ts rest all) = items_raw all
    items_raw (over_hole p g K q t items gather Ks ts text rest s taken k all) = next (spelled_raw s) k (items_raw all)
