-- Terms that tokens are by themselves.
use Rattle.std.proofs.Common.{ℕ, List, [], ◌∷◌, codes, sym, subst, inl, inr}
use Rattle.mw_logic.specs.Term.{Variable, RawTerm, numeral, quoted, variable, apply}
use Rattle.mw_logic.specs.Signature.{Signature, IsSortNamed, SameKind, HasKind, of_numeral, of_quoted, of_variable, of_operator}
use Rattle.mw_text.specs.Mixfix.{Spells, declared, with_sort, numbered, identified}
use Rattle.mw_grammar.specs.Readable.{IsWithin, AreKinds, AreVariables}
use Rattle.mw_grammar.specs.Leaves.{IsVariableToken, IsAlone}
use Rattle.mw_grammar.proofs.Spelled.{sort_within}

-- it is no operator on terms
abbrev pub IsLeafTerm : RawTerm → Type 0
IsLeafTerm (numeral n) = Unit {0}
IsLeafTerm (quoted q) = Unit {0}
IsLeafTerm (variable x) = Unit {0}
IsLeafTerm (apply f ts) = ⊥

module _ (sig : Signature) (variables : List Variable) where
  pub alone_leaf : (t : RawTerm) (token : List ℕ) → IsAlone sig variables token t → IsLeafTerm t
  alone_leaf (numeral n) token h = tt
  alone_leaf (quoted q) token h = tt
  alone_leaf (variable x) token h = tt
  alone_leaf (apply f ts) token h = h

  pub alone_spelled : (t : RawTerm) (token : List ℕ) → IsAlone sig variables token t → Spells sig variables t 0 (token ∷ [])
  alone_spelled (numeral n) token (nat, e) = numbered n token nat e
  alone_spelled (quoted q) token (qid, i, e) = subst (λ (w : List ℕ). Spells sig variables (quoted q) 0 (w ∷ [])) (sym e) (identified q qid i)
  alone_spelled (variable x) token (inl (m, e)) = subst (λ (w : List ℕ). Spells sig variables (variable x) 0 (w ∷ [])) (sym e) (declared x m)
  alone_spelled (variable x) token (inr (S, is, name, e)) = subst (λ (w : List ℕ). Spells sig variables (variable x) 0 (w ∷ [])) (sym e) (with_sort x S is name)
  alone_spelled (apply f ts) token h = absurd h

  module _ (kind : ℕ → ℕ) (ks : AreKinds sig kind) (vs : AreVariables sig variables) where
    token_within : (x : Variable) (token : List ℕ) → IsVariableToken sig.sorts variables token x → IsWithin sig x.sort
    token_within x token (inl (m, e)) = vs x m
    token_within x token (inr (S, is, name, e)) = sort_within sig x.sort S is

    of_sort : (S K : ℕ) (name : List ℕ) → IsSortNamed sig S name → SameKind sig S K → IsWithin sig (kind K)
    of_sort S K name is s = subst (IsWithin sig) (ks.agree S K s) (ks.within S (sort_within sig S name is))

    -- its kind is that of a sort
    pub alone_within : (t : RawTerm) (K : ℕ) → HasKind sig t K → (token : List ℕ) → IsAlone sig variables token t → IsWithin sig (kind K)
    alone_within t K (of_numeral S is nat s) token h = of_sort S K (codes "Nat") is s
    alone_within t K (of_quoted S is qid s) token h = of_sort S K (codes "Qid") is s
    alone_within t K (of_variable {x = x} s) token h = subst (IsWithin sig) (ks.agree x.sort K s) (ks.within x.sort (token_within x token h))
    alone_within t K (of_operator o is s) token h = absurd h
