use Rattle.std.proofs.Common.{◌≡◌, ◌∙◌, IfOk, MatchResult, ap, sym, subst}
use Rattle.mw_logic.specs.Term.{RawTerm}
use Rattle.mw_logic.specs.Signature.{Signature, IsRawTerm}
use Rattle.mw_logic.specs.NormalForm.{normal_form}
use Rattle.mw_logic.specs.Module.{Module}
use Rattle.mw_term.specs.Raws.{raw_term}
use Rattle.mw_build.specs.Statements.{FitsIn, Oversized}
use Rattle.mw_least.specs.Workable.{IsWorkable}
use Rattle.mw_top.specs.Commands.{opened}
use Rattle.mw_top.proofs.Answering.{read_so}
use Rattle.mw_top.proofs.reduction.ground_term.Goals as goal

pub returns-then-not-is_ground : goal.returns-then-not-is_ground
returns-then-not-is_ground c = λ words read. opened _ read (sym c.is_ground.ensures ∙ c.if-not-is_ground.true)

pub canonical-requires : goal.canonical-requires
canonical-requires c = subst (λ (S : Signature). IsRawTerm S (raw_term c.args.raw.now)) (sym (c.facts.ensures ∙ ap (λ (M : Module). M.signature) c.context-2.ensures)) c.requires

pub returns : goal.returns
returns c = λ words read.
    let t = raw_term c.args.raw.now in
    let facts = c.facts.ensures ∙ ap (λ (M : Module). M.signature) c.context-2.ensures in
    read_so c.args.accepted.now (subst IsWorkable c.context.ensures c.shows.ensures) words t read c.requires (sym c.is_ground.ensures ∙ c.if-not-is_ground.false) c.canonical.result
    (subst (λ (S : Signature). IfOk c.canonical.result (λ s. MatchResult s (λ (u : RawTerm). FitsIn S t × (u ≡ normal_form S t)) (λ why. Oversized S t why))) facts c.canonical.ensures)
