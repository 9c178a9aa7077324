use Rattle.std.specs.Prelude.{◌≡◌, ◌<◌, get_or, length}
use Rattle.std.proofs.Common.{ap, sym, subst, ◌∙◌, arith}
use Rattle.mw_logic.specs.Terms.{args_of}
use Rattle.mw_logic.specs.Parts.{number_of_terms}
use Rattle.mw_search.specs.Searches.{Matches}
use Rattle.mw_search.proofs.BagLists.{at_index, number_terms}
use Rattle.mw_match.proofs.NextLevels.{no_pattern, pattern_is, answer_none, answer_some}
use Rattle.mw_match.proofs.NextPicks.{level_stands}
use Rattle.mw_match.proofs.levels.Levels.next_level.Goals as goal

pub returns-then-depth-patterns-clause-next : goal.returns-then-depth-patterns-clause-next
returns-then-depth-patterns-clause-next c = λ q rest e.
    let s = c.args.self.now in
    absurd (no_pattern c.patterns-patterns.result.now (length s.stack.items) q rest (args_of s.compiled.now.pattern) c.patterns-patterns.ensures (omega (arith, c.if-depth-patterns.true, c.len-depth.ensures)) e)

pub returns-in_default-clause-next : goal.returns-in_default-clause-next
returns-in_default-clause-next c = λ q rest e.
    let s = c.args.self.now in
    let d = length s.stack.items in
    let same : c.len-depth.result ≡ d = omega (arith, c.len-depth.ensures) in
    let low : d < length c.patterns-patterns.result.now = omega (arith, c.if-depth-patterns.false, same) in
    let p = c.index-patterns-depth.result in
    let is = pattern_is c.patterns-patterns.result.now d p q rest (args_of s.compiled.now.pattern) c.patterns-patterns.ensures low (subst (λ d. p ≡ get_or c.patterns-patterns.result.now d p) same c.index-patterns-depth.is) e in
    answer_none c.facts-facts.result.now s.context.now.signature s.compiled.now.positions.single.items _ (args_of s.subject) c.as_slice-below.result.now s.stack.items p q rest c.args.values.now
    c.facts-facts.ensures c.elements-elements.ensures c.as_slice-below.ensures.value is c.in_default.ensures.next

pub returns-clause-next : goal.returns-clause-next
returns-clause-next c = λ q rest e.
    let s = c.args.self.now in
    let d = length s.stack.items in
    let same : c.len-depth.result ≡ d = omega (arith, c.len-depth.ensures) in
    let low : d < length c.patterns-patterns.result.now = omega (arith, c.if-depth-patterns.false, same) in
    let p = c.index-patterns-depth.result in
    let is = pattern_is c.patterns-patterns.result.now d p q rest (args_of s.compiled.now.pattern) c.patterns-patterns.ensures low (subst (λ d. p ≡ get_or c.patterns-patterns.result.now d p) same c.index-patterns-depth.is) e in
    let l = c.in_ok-level.level in
    let t = at_index c.elements-elements.result.now c.in-Some.at c.index-elements-at.result c.in-Some.ensures.within c.index-elements-at.is in
    answer_some c.facts-facts.result.now s.context.now.signature s.compiled.now.positions.single.items _ (args_of s.subject) c.as_slice-below.result.now s.stack.items p q rest c.args.values.now
    c.facts-facts.ensures c.elements-elements.ensures c.as_slice-below.ensures.value is l c.in-Some.at c.index-elements-at.result c.in_ok-level.ensures.at c.in_ok-level.ensures.given (ap (λ (m : Matches). m.coming) c.in_ok-level.ensures.search) t c.in-Some.ensures.next

pub returns-clause-kept : goal.returns-clause-kept
returns-clause-kept c = λ goes.
    let s = c.args.self.now in
    let l = c.in_ok-level.level in
    let n : number_of_terms (args_of s.subject) ≡ length c.elements-elements.result.now = sym (ap number_of_terms c.elements-elements.ensures) ∙ number_terms c.elements-elements.result.now in
    let within : l.at < number_of_terms (args_of s.subject) = omega (arith, n, c.in_ok-level.ensures.at, c.in-Some.ensures.within) in
    level_stands s.context.now.signature s.compiled.now.positions.single.items s.compiled.now.positions.sorts s.given (number_of_terms (args_of s.subject)) c.index-patterns-depth.result c.index-elements-at.result c.args.values.now l
    c.in_ok-level.ensures.given c.in_ok-level.ensures.search within goes
