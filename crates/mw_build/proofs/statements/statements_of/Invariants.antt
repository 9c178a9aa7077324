use Rattle.std.proofs.Common.{List, take}
use Rattle.mw_logic.specs.Term.{Variable}
use Rattle.std.specs.Prelude.{option_map}
use denote.Ref.{Bor}
use Rattle.mw_omod.specs.declared.classes.Classes.{Classes}
use Rattle.mw_build.specs.Sides.{all_seen_sides}
use Rattle.mw_grammar.specs.Grammars.{IsGrammarOf}
use Rattle.mw_build.specs.Statements.{AreReadAs}
use Rattle.mw_build.proofs.statements.statements_of.Given as goal

abbrev pub invariant-loop-written : goal.invariant-loop-written
invariant-loop-written l = (variables : List Variable) → IsGrammarOf l.reader.facts.now variables l.reader.grammar.now
    → AreReadAs l.reader.facts.now variables (option_map (λ (K : Bor Classes). K.now) l.reader.classes) (all_seen_sides (take l.written-index l.statements)) l.found.items
