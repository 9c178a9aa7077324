-- What tokens spell is a raw term.
use Rattle.std.proofs.Common.{ℕ, List, IsTrue, sym, subst}
use Rattle.mw_logic.specs.Term.{Variable, RawTerm, apply, RawTerms, nil, cons}
use Rattle.mw_logic.specs.Signature.{Signature, Operator, Gather, IsOperator, same, HasKind, of_operator, IsRawTerm, a_numeral, a_quoted, a_variable, an_operator, AreRawTerms, end, next}
use Rattle.mw_logic.proofs.KindLaws.{SameKind-sym}
use Rattle.mw_logic.proofs.Soundness.{HasKind-same}
use Rattle.mw_text.specs.Names.{NameItem, items_of}
use Rattle.mw_text.specs.Mixfix.{Spells, declared, with_sort, numbered, identified, grouped, a_constant, prefixed, flattened, mixfix, SpellsArguments, last, more, SpellsNested, two, another, SpellsItems, no_items, over_piece, over_hole}
use Rattle.mw_text.proofs.Numbers.{number_below}
use Rattle.mw_grammar.specs.Readable.{AreKinds, IsReadable, AreVariables}
use Rattle.mw_grammar.proofs.Spelled.{argument_kind}

module _ (sig : Signature) (variables : List Variable) (kind : ℕ → ℕ) (ks : AreKinds sig kind) (ok : IsReadable sig) (vs : AreVariables sig variables) where
  -- an associative operator on two terms of its kind
  two_raw : (f : ℕ) (o : Operator) (t u : RawTerm) → IsOperator sig f o → IsTrue o.assoc → IsRawTerm sig t → HasKind sig t o.result → IsRawTerm sig u → HasKind sig u o.result
      → IsRawTerm sig (apply f (cons t (cons u nil)))
  two_raw f o t u is a rt kt ru ku =
      let r = ok.assoc f o is a in
      an_operator o is (subst (λ (Ks : List ℕ). AreRawTerms sig (cons t (cons u nil)) Ks) (sym r.2) (next rt (HasKind-same kt (SameKind-sym r.3)) (next ru (HasKind-same ku (SameKind-sym r.4)) end)))

  mutual
    pub spelled_raw : (t : RawTerm) (p : ℕ) (text : List (List ℕ)) → Spells sig variables t p text → IsRawTerm sig t
    spelled_raw t p text (declared x m) = a_variable
    spelled_raw t p text (with_sort x S is name) = a_variable
    spelled_raw t p text (numbered n token h e) = a_numeral h (number_below token n e)
    spelled_raw t p text (identified q h i) = a_quoted h
    spelled_raw t p text (grouped u q text2 d) = spelled_raw u q text2 d
    spelled_raw t p text (a_constant f o head is none h) = an_operator o is (subst (λ (Ks : List ℕ). AreRawTerms sig nil Ks) (sym none) end)
    spelled_raw t p text (prefixed f o u us head inner is h d) = an_operator o is (arguments_raw o.args (cons u us) inner d)
    spelled_raw t p text (flattened f o u v head inner is a h q K text2 d m k n) =
        let rest = nested_raw f o v inner n is a in
        two_raw f o u v is a (spelled_raw u q text2 d) (HasKind-same k (argument_kind sig variables kind ks ok vs f o K is a m)) rest.0 rest.1
    spelled_raw t p text (mixfix f o ts text2 is h d) = an_operator o is (items_raw o.prec (items_of o.spelling) o.gather o.args ts text2 d)

    arguments_raw : (Ks : List ℕ) (ts : RawTerms) (inner : List (List ℕ)) → SpellsArguments sig variables Ks ts inner → AreRawTerms sig ts Ks
    arguments_raw Ks ts inner (last K t p text d k) = next (spelled_raw t p text d) k end
    arguments_raw Ks ts inner (more K Ls t us p text rest d k ds) = next (spelled_raw t p text d) k (arguments_raw Ls us rest ds)

    nested_raw : (f : ℕ) (o : Operator) (u : RawTerm) (inner : List (List ℕ)) → SpellsNested sig variables f o u inner → IsOperator sig f o → IsTrue o.assoc
        → IsRawTerm sig u × HasKind sig u o.result
    nested_raw f o u inner (two g p v w text d) is a = (an_operator p is (arguments_raw p.args (cons v (cons w nil)) text d), of_operator p is same)
    nested_raw f o u inner (another g p v w q K text rest d m k n) is a =
        let r = nested_raw g p w rest n is a in
        (two_raw g p v w is a (spelled_raw v q text d) (HasKind-same k (argument_kind sig variables kind ks ok vs g p K is a m)) r.0 r.1, of_operator p is same)

    items_raw : (p : ℕ) (items : List NameItem) (gather : List Gather) (Ks : List ℕ) (ts : RawTerms) (text : List (List ℕ)) → SpellsItems sig variables p items gather Ks ts text → AreRawTerms sig ts Ks
    items_raw p items gather Ks ts text (no_items q) = end
    items_raw p items gather Ks ts text (over_piece q x items2 gather2 Ls us rest d) = items_raw q items2 gather2 Ls us rest d
    items_raw p items gather Ks ts text (over_hole q g K r t items2 gather2 Ls us text2 rest d taken k ds) = next (spelled_raw t r text2 d) k (items_raw q items2 gather2 Ls us rest ds)
