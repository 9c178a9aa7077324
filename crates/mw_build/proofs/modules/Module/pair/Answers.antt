use Rattle.std.proofs.Common.{IfOk, IfErr, subst, sym}
use Rattle.mw_logic.specs.Signature.{IsRawTerm}
use Rattle.mw_logic.specs.Module.{Module}
use Rattle.mw_logic.specs.Accepted.{IsAccepted}
use Rattle.mw_grammar.specs.declared.grammar.Grammar.{Grammar}
use Rattle.mw_grammar.specs.Grammars.{IsGrammarOf, IsReading}
use Rattle.mw_build.proofs.Sides.{raw_pair}
use Rattle.mw_term.specs.declared.raw.Raw.{Raw}
use Rattle.mw_term.specs.Raws.{raw_term}
use Rattle.mw_text.specs.Readings.{ReadsPair}
use Rattle.mw_module.specs.Words.{texts}
use Rattle.mw_parse.specs.Answers.{HasPairCause}
use Rattle.mw_build.specs.Modules.{Accepted}
use Rattle.mw_build.proofs.modules.Module.pair.Goals as goal

pub returns-clause-read : goal.returns-clause-read
returns-clause-read c =
    subst (λ (a : Accepted). IfOk c.parse_pair.result (λ (p : Raw × Raw). ReadsPair a.module.signature a.variables (texts c.args.left.now) (texts c.args.right.now) (raw_term p.0, raw_term p.1))) c.self.view_is
    (c.parse_pair.ensures.read c.self.inside.context.value.signature c.self.inside.variables (subst (λ (g : Grammar). IsGrammarOf c.self.inside.context.value.signature c.self.inside.variables g) (sym c.deref-2.ensures) c.self.invariant.grammar))

pub returns-clause-cause : goal.returns-clause-cause
returns-clause-cause c =
    subst (λ (a : Accepted). IfErr c.parse_pair.result (HasPairCause a.module.signature a.variables (texts c.args.left.now) (texts c.args.right.now))) c.self.view_is
    (c.parse_pair.ensures.cause c.self.inside.context.value.signature c.self.inside.variables (subst (λ (g : Grammar). IsGrammarOf c.self.inside.context.value.signature c.self.inside.variables g) (sym c.deref-2.ensures) c.self.invariant.grammar))

pub returns-clause-raw : goal.returns-clause-raw
returns-clause-raw c =
    subst (λ (a : Accepted). IfOk c.parse_pair.result (λ (p : Raw × Raw). IsRawTerm a.module.signature (raw_term p.0) × IsRawTerm a.module.signature (raw_term p.1))) c.self.view_is
    (raw_pair c.self.inside.context.value.signature c.self.inside.variables (texts c.args.left.now) (texts c.args.right.now) (subst (λ (M : Module). IsAccepted M.signature) c.deref.ensures c.shows.ensures.signature.accepted) c.parse_pair.result
    (c.parse_pair.ensures.read c.self.inside.context.value.signature c.self.inside.variables (subst (λ (g : Grammar). IsGrammarOf c.self.inside.context.value.signature c.self.inside.variables g) (sym c.deref-2.ensures) c.self.invariant.grammar)))

pub parse_pair-requires : goal.parse_pair-requires
parse_pair-requires c = subst (λ (g : Grammar). IsReading g) (sym c.deref-2.ensures) c.self.invariant.grammar.reading
