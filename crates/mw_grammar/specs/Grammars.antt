-- The grammar of a signature.
use Rattle.std.specs.Prelude.{ℕ, List, length, map, codes}
use Rattle.mw_chart.specs.Spelling.{IsTable}
use Rattle.mw_lex.specs.declared.token.Token.{Token}
use Rattle.mw_logic.specs.Term.{Variable}
use Rattle.mw_logic.specs.Signature.{Signature, IsSortNamed, Member}
use Rattle.mw_grammar.specs.Readable.{kind_in, AreKinds, IsReadable, IsKindNamed, AreVariables}
use Rattle.mw_grammar.specs.Notations.{IsNotation}
use Rattle.mw_grammar.specs.Compiled.{IsCompiled}
use Rattle.mw_grammar.specs.Leaves.{IsNamed}
use Rattle.mw_grammar.specs.Listing.{Lists}
use Rattle.mw_grammar.specs.Worded.{AreWords}
use Rattle.mw_grammar.specs.declared.grammar.Grammar.{Grammar}
use Rattle.mw_grammar.specs.declared.grammar.Words.{Words}

-- the tokens' texts
abbrev pub texts : List Token → List (List ℕ)
texts = map (λ (t : Token). t.text)

-- the grammar's table is one that the chart reads by
abbrev pub IsReading : Grammar → Type 0
IsReading g = IsTable g.table

-- the grammar of a signature, by the kinds of its sorts, in which these variables are declared
pub record IsGrammarOf (sig : Signature) (variables : List Variable) (g : Grammar) : Type 0 where
  pub kinds : AreKinds sig (kind_in g.kinds)
  pub readable : IsReadable sig
  pub declared : AreVariables sig variables
  pub compiled : IsCompiled (length sig.sorts) (IsNotation (kind_in g.kinds) sig) g.names g.table
  pub sorts : Lists g.names g.named.items (IsNamed sig.sorts)
  pub variables_are : Lists g.names g.declared.items (λ n S. Member {X = Variable} (record { name = n; sort = S }) variables)
  pub numbers : IsKindNamed (λ S. IsSortNamed sig S (codes "Nat")) (kind_in g.kinds) sig.nat g.numbers
  pub identifiers : IsKindNamed (λ S. IsSortNamed sig S (codes "Qid")) (kind_in g.kinds) sig.qid g.identifiers
  pub reading : IsReading g

-- the words of the tokens, by a signature's grammar
abbrev pub IsWordsOf : Signature → List Variable → Grammar → List Token → Words → Type 0
IsWordsOf sig variables g tokens w = AreWords sig variables (kind_in g.kinds) g.names w.leaves (texts tokens) w.words.items
