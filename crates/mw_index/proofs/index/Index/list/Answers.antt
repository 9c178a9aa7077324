use Rattle.std.proofs.Common.{◌≡◌, ◌∙◌, ◌+◌, subst, sym, ap, not, arith, suc, get_or}
use Rattle.mw_logic.specs.Signature.{at_number}
use Rattle.mw_logic.specs.NormalForm.{normal_form}
use Rattle.mw_logic.specs.Module.{Module, Statement}
use Rattle.mw_pattern.proofs.Lists.{got}
use Rattle.mw_term.specs.Raws.{raw_term}
use Rattle.mw_index.specs.Sections.{IsSectionOf}
use Rattle.mw_index.proofs.Indexing.{index_past, index_more, index_rule}
use Rattle.mw_index.proofs.index.Index.list.Goals as goal

pub returns-then-not-statement : goal.returns-then-not-statement
returns-then-not-statement c =
    let e : Statement = c.index-statements-at.result in
    let is : e ≡ get_or c.args.context.now.statements c.args.at e = c.index-statements-at.is ∙ ap (λ ss. get_or ss c.args.at e) c.statements.ensures in
    let executable : c.statement.inside.executable ≡ e.executable = ap (λ (s : Statement). s.executable) c.statement.view_is in
    index_past c.args.context.now c.args.at e c.requires is c.args.self.now (ap not (sym executable ∙ c.if-not-statement.true))

pub oriented-requires-clause-statement : goal.oriented-requires-clause-statement
oriented-requires-clause-statement c =
    let e : Statement = c.index-statements-at.result in
    let is : e ≡ get_or c.args.context.now.statements c.args.at e = c.index-statements-at.is ∙ ap (λ ss. get_or ss c.args.at e) c.statements.ensures in
    let n : c.args.at + 1 ≡ suc c.args.at = omega arith in
    record {
      is_there = ap (at_number c.args.context.now.statements) n ∙ got c.args.context.now.statements c.args.at e c.requires is;
      executable = sym (ap (λ (s : Statement). s.executable) c.statement.view_is) ∙ c.if-not-statement.false;
    }

pub returns-then-statement : goal.returns-then-statement
returns-then-statement c =
    let M : Module = c.args.context.now in
    let e : Statement = c.index-statements-at.result in
    let is : e ≡ get_or M.statements c.args.at e = c.index-statements-at.is ∙ ap (λ ss. get_or ss c.args.at e) c.statements.ensures in
    let left : c.in_ok-left.left ≡ normal_form M.signature e.left =
    c.in_ok-left.ensures ∙ ap (λ sig. normal_form sig (raw_term c.statement.inside.left)) c.facts-facts.ensures ∙ ap (λ (s : Statement). normal_form M.signature s.left) c.statement.view_is in
    let section : IsSectionOf M.signature (normal_form M.signature e.left) c.section_of-section.result =
    subst (λ t. IsSectionOf M.signature t c.section_of-section.result) left (subst (λ sig. IsSectionOf sig c.in_ok-left.left c.section_of-section.result) c.facts-facts.ensures c.section_of-section.ensures) in
    index_rule M c.args.at e c.requires is c.shows.ensures c.section_of-section.result c.in_ok-by.by
    (sym (ap (λ (s : Statement). s.executable) c.statement.view_is) ∙ c.if-not-statement.false)
    section c.in_ok-by.ensures.number c.in_ok-by.ensures.is c.args.self.now c.put_rule.new.self
    (sym (ap (λ (s : Statement). s.rule) c.statement.view_is) ∙ c.if-statement.true)
    c.in_ok-put_rule.ensures

pub returns : goal.returns
returns c =
    let M : Module = c.args.context.now in
    let e : Statement = c.index-statements-at.result in
    let is : e ≡ get_or M.statements c.args.at e = c.index-statements-at.is ∙ ap (λ ss. get_or ss c.args.at e) c.statements.ensures in
    let left : c.in_ok-left.left ≡ normal_form M.signature e.left =
    c.in_ok-left.ensures ∙ ap (λ sig. normal_form sig (raw_term c.statement.inside.left)) c.facts-facts.ensures ∙ ap (λ (s : Statement). normal_form M.signature s.left) c.statement.view_is in
    let section : IsSectionOf M.signature (normal_form M.signature e.left) c.section_of-section.result =
    subst (λ t. IsSectionOf M.signature t c.section_of-section.result) left (subst (λ sig. IsSectionOf sig c.in_ok-left.left c.section_of-section.result) c.facts-facts.ensures c.section_of-section.ensures) in
    index_more M c.args.at e c.requires is c.shows.ensures c.section_of-section.result c.in_ok-by.by
    (sym (ap (λ (s : Statement). s.executable) c.statement.view_is) ∙ c.if-not-statement.false)
    section c.in_ok-by.ensures.number c.in_ok-by.ensures.is c.args.self.now c.put.new.self
    (sym (ap (λ (s : Statement). s.rule) c.statement.view_is) ∙ c.if-statement.false)
    c.in_ok-put.ensures
