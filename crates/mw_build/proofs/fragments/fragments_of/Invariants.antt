use Rattle.std.proofs.Common.{List, map, take}
use Rattle.mw_logic.specs.Term.{Variable}
use Rattle.mw_logic.specs.Signature.{Signature}
use Rattle.mw_term.specs.Statements.{fragment_of}
use Rattle.mw_module.specs.Conditions.{seen_fragments}
use Rattle.mw_grammar.specs.Grammars.{IsGrammarOf}
use Rattle.mw_build.specs.Fragments.{AreFragments}
use Rattle.mw_build.proofs.fragments.fragments_of.Given as goal

abbrev pub invariant-loop-one : goal.invariant-loop-one
invariant-loop-one l = (sig : Signature) (variables : List Variable) → IsGrammarOf sig variables l.grammar
    → AreFragments sig variables (seen_fragments (take l.one-index l.written)) (map fragment_of l.found.items)
