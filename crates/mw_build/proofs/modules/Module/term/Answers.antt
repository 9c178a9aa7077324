use Rattle.std.proofs.Common.{None, IfOk, IfErr, subst, sym}
use Rattle.mw_logic.specs.Signature.{IsRawTerm}
use Rattle.mw_logic.specs.Module.{Module}
use Rattle.mw_logic.specs.Accepted.{IsAccepted}
use Rattle.mw_grammar.specs.declared.grammar.Grammar.{Grammar}
use Rattle.mw_grammar.specs.Grammars.{IsGrammarOf, IsReading}
use Rattle.mw_build.proofs.Sides.{raw_read}
use Rattle.mw_term.specs.declared.raw.Raw.{Raw}
use Rattle.mw_term.specs.Raws.{raw_term}
use Rattle.mw_text.specs.Mixfix.{Reads}
use Rattle.mw_module.specs.Words.{texts}
use Rattle.mw_parse.specs.Answers.{HasCause}
use Rattle.mw_build.specs.Modules.{Accepted}
use Rattle.mw_build.proofs.modules.Module.term.Goals as goal

pub returns-clause-read : goal.returns-clause-read
returns-clause-read c =
    subst (λ (a : Accepted). IfOk c.parse.result (λ (t : Raw). Reads a.module.signature a.variables None (texts c.args.tokens.now) (raw_term t))) c.self.view_is
    (c.parse.ensures.read c.self.inside.context.value.signature c.self.inside.variables (subst (λ (g : Grammar). IsGrammarOf c.self.inside.context.value.signature c.self.inside.variables g) (sym c.deref-2.ensures) c.self.invariant.grammar))

pub returns-clause-cause : goal.returns-clause-cause
returns-clause-cause c =
    subst (λ (a : Accepted). IfErr c.parse.result (HasCause a.module.signature a.variables None (texts c.args.tokens.now))) c.self.view_is
    (c.parse.ensures.cause c.self.inside.context.value.signature c.self.inside.variables (subst (λ (g : Grammar). IsGrammarOf c.self.inside.context.value.signature c.self.inside.variables g) (sym c.deref-2.ensures) c.self.invariant.grammar))

pub returns-clause-raw : goal.returns-clause-raw
returns-clause-raw c =
    subst (λ (a : Accepted). IfOk c.parse.result (λ (t : Raw). IsRawTerm a.module.signature (raw_term t))) c.self.view_is
    (raw_read c.self.inside.context.value.signature c.self.inside.variables (texts c.args.tokens.now) (subst (λ (M : Module). IsAccepted M.signature) c.deref.ensures c.shows.ensures.signature.accepted) c.parse.result
    (c.parse.ensures.read c.self.inside.context.value.signature c.self.inside.variables (subst (λ (g : Grammar). IsGrammarOf c.self.inside.context.value.signature c.self.inside.variables g) (sym c.deref-2.ensures) c.self.invariant.grammar)))

pub parse-requires : goal.parse-requires
parse-requires c = subst (λ (g : Grammar). IsReading g) (sym c.deref-2.ensures) c.self.invariant.grammar.reading
