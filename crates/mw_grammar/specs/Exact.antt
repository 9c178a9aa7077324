-- That the chart's trees over a grammar's table are the terms that tokens spell.
use Rattle.std.specs.Prelude.{ℕ, ◌≡◌, ◌≢◌, ◌≤◌, List, length, Option, None, Some, ⊤}
use Rattle.mw_logic.specs.Term.{Variable, RawTerm}
use Rattle.mw_logic.specs.Signature.{Signature, HasKind, IsRawTerm}
use Rattle.mw_chart.specs.Tree.{Tree}
use Rattle.mw_chart.specs.Answer.{IsOf}
use Rattle.mw_chart.specs.declared.table.Table.{Table}
use Rattle.mw_chart.specs.declared.terminal.Terminal.{Terminal}
use Rattle.mw_text.specs.Mixfix.{IsSpelled, Reads}
use Rattle.mw_grammar.specs.Readable.{IsWithin}
use Rattle.mw_grammar.specs.Meaning.{term_of}

-- K is the kind of the wanted sort, where one is wanted
abbrev pub IsWantedKind : (ℕ → ℕ) → Option ℕ → ℕ → Type 0
IsWantedKind kind None K = ⊤
IsWantedKind kind (Some S) K = K ≡ kind S

-- The words spell the tree, by the table's states, as one of the wanted sort's kind. Kinds beyond the sorts are no kinds of terms.
pub record IsTree (sig : Signature) (kind : ℕ → ℕ) (g : Table) (wanted : Option ℕ) (words : List Terminal) (tree : Tree) : Type 0 where
  pub K : ℕ
  pub within : IsWithin sig K
  pub is_wanted : IsWantedKind kind wanted K
  pub spelled : IsOf g words K tree

-- The words' trees are the terms that the tokens spell.
pub record AreExact (sig : Signature) (variables : List Variable) (kind : ℕ → ℕ) (g : Table) (leaves : List RawTerm) (tokens : List (List ℕ)) (words : List Terminal) : Type 0 where
  -- each term that they spell is that of a tree
  pub complete : (wanted : Option ℕ) (t : RawTerm) → IsSpelled sig variables wanted tokens t → (tree : Tree) × IsTree sig kind g wanted words tree × (term_of leaves tree ≡ t)
  -- each tree's term is spelled
  pub sound : (wanted : Option ℕ) (tree : Tree) → IsTree sig kind g wanted words tree → IsSpelled sig variables wanted tokens (term_of leaves tree)
  -- different trees are those of different terms
  pub differ : (wanted : Option ℕ) (a b : Tree) → IsTree sig kind g wanted words a → IsTree sig kind g wanted words b → a ≢ b → term_of leaves a ≢ term_of leaves b
  -- so the only tree is that of the only term
  pub only : (wanted : Option ℕ) (tree : Tree) → length tokens ≤ 1024 → IsTree sig kind g wanted words tree → ((u : Tree) → IsTree sig kind g wanted words u → u ≡ tree)
      → Reads sig variables wanted tokens (term_of leaves tree)
  -- a tree's kind is its term's
  pub kinds : (K : ℕ) (tree : Tree) → IsWithin sig K → IsOf g words K tree → HasKind sig (term_of leaves tree) K
  -- what is spelled is a raw term
  pub raw : (wanted : Option ℕ) (t : RawTerm) → IsSpelled sig variables wanted tokens t → IsRawTerm sig t
