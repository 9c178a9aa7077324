-- What is closed under the forms of a signature.
use Rattle.std.proofs.Common.{ℕ, List, [], ◌∷◌, ◌++◌, codes}
use Rattle.mw_logic.specs.Term.{Variable, RawTerm, apply, RawTerms}
use Rattle.mw_logic.specs.Signature.{Signature, HasKind}
use Rattle.mw_grammar.specs.Notations.{Notation}
use Rattle.mw_grammar.specs.Notations.{IsNotation}
use Rattle.mw_grammar.specs.Readable.{IsWithin}
use Rattle.mw_grammar.specs.Leaves.{IsAlone}
use Rattle.mw_grammar.proofs.Over.{Over}

-- S says of a kind, a precedence, a term and a text that the text spells the term so: a token that is a term by itself does, a text in parentheses as the text
-- in them, and a text over the parts of a form.
pub record IsClosed (sig : Signature) (variables : List Variable) (kind : ℕ → ℕ) (S : ℕ → ℕ → RawTerm → List (List ℕ) → Type 0) : Type 0 where
  pub alone : (t : RawTerm) (K : ℕ) (token : List ℕ) → IsAlone sig variables token t → HasKind sig t K → S (kind K) 0 t (token ∷ [])
  pub enclosed : (K p : ℕ) (t : RawTerm) (text : List (List ℕ)) → IsWithin sig K → S K p t text → S K 0 t (codes "(" ∷ text ++ codes ")" ∷ [])
  pub formed : (F : Notation) (ts : RawTerms) (text : List (List ℕ)) → IsNotation kind sig F → Over S F.parts ts text → S F.kind F.precedence (apply F.operator ts) text
