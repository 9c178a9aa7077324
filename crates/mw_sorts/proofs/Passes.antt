-- Passes over all operators of a signature, each with its diagram.
use Rattle.std.proofs.Common.{◌≡◌, ◌∙◌, ℕ, zero, suc, ◌<◌, ◌≤◌, ◌+◌, List, length, map, get_or, refl, sym, subst, inl, inr, arith}
use Rattle.std.specs.Prelude.{slice_get, Some}
use Rattle.std.proofs.lemmas.Bool.{cases_eq}
use Rattle.mw_logic.specs.Signature.{Signature, Operator, IsOperator}
use Rattle.mw_term.specs.Signatures.{sorted_of}
use Rattle.mw_term.specs.declared.signature.Sorted.{Sorted as Held}
use Rattle.mw_sorts.specs.declared.diagram.Diagram.{Diagram}
use Rattle.mw_sorts.specs.Sorting.{Sorting, AreEntriesOf}
use Rattle.mw_sorts.specs.Diagrams.{IsDiagram, HaveDiagrams}
use Rattle.mw_sorts.proofs.Getting.{get-none, get-same, get-within, read-get, some_same}

-- the operator that a pass has come to
pub operator-read : (sig inside : Signature) (read : List Operator) (n : ℕ) (o : Operator) → read ≡ inside.operators → inside ≡ sig → n < length read → o ≡ get_or read n o → slice_get sig.operators n ≡ Some o
operator-read sig inside read n o e v l h = subst (λ (s : Signature). slice_get s.operators n ≡ Some o) v (read-get inside.operators read n o e (subst (λ (os : List Operator). n < length os) e l) h)

-- its diagram is there
pub diagram-there : (sig : Signature) (places : List ℕ) (diagrams : List Diagram) (n : ℕ) (o : Operator) → HaveDiagrams sig places diagrams → slice_get sig.operators n ≡ Some o → n < length diagrams
diagram-there sig places diagrams n o h is = let (d, at, g) = h (suc n) o is in get-within diagrams n d at

-- and what is read is this one
pub diagram-read : (sig given : Signature) (places : List ℕ) (diagrams : List Diagram) (n : ℕ) (o : Operator) (d : Diagram) → given ≡ sig → HaveDiagrams sig places diagrams → slice_get sig.operators n ≡ Some o → d ≡ get_or diagrams n d → IsDiagram given places o d
diagram-read sig given places diagrams n o d same h is e =
    let (x, at, g) = h (suc n) o is in
    let there = read-get diagrams diagrams n d refl (get-within diagrams n x at) e in
    subst (λ (s : Signature). IsDiagram s places o d) (sym same) (subst (IsDiagram sig places o) (get-same diagrams n x d at there) g)

-- the entries that were read are those of its kind
pub entries-read : (sorting : Sorting) (inside o : Operator) (entries read : List Held) → inside ≡ o → read ≡ entries → AreEntriesOf sorting inside.result (map sorted_of entries) → AreEntriesOf sorting o.result (map sorted_of read)
entries-read sorting inside o entries read v e h = subst (λ (p : Operator). AreEntriesOf sorting p.result (map sorted_of read)) v (subst (λ (es : List Held). AreEntriesOf sorting inside.result (map sorted_of es)) (sym e) h)

module _ (sig : Signature) (P : Operator → Type 0) where
  -- what holds of the first n operators, and of the next one
  pub passed-more : (n : ℕ) (o : Operator) → ((g : ℕ) (p : Operator) → g ≤ n → IsOperator sig g p → P p) → slice_get sig.operators n ≡ Some o → P o → (g : ℕ) (p : Operator) → g ≤ n + 1 → IsOperator sig g p → P p
  passed-more n o all at here zero p l is = absurd (get-none is)
  passed-more n o all at here (suc g) p l is = elim (cases_eq g n) [
    | inl e ↦ subst P (some_same (sym at ∙ subst (λ (k : ℕ). slice_get sig.operators k ≡ Some p) e is)) here
    | inr d ↦ all (suc g) p (omega arith) is
  ]

  -- all of them
  pub passed-all : (n : ℕ) → length sig.operators ≤ n → ((g : ℕ) (p : Operator) → g ≤ n → IsOperator sig g p → P p) → (g : ℕ) (p : Operator) → IsOperator sig g p → P p
  passed-all n l all zero p is = absurd (get-none is)
  passed-all n l all (suc g) p is = all (suc g) p (let b = get-within sig.operators g p is in omega arith) is
