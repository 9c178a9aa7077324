use Rattle.std.specs.Prelude.{◌≡◌, ◌<◌, ◌+◌, ◌-◌, ◌^◌, [], ℕ, List, get_or, length, take}
use Rattle.std.proofs.Common.{ap, arith, ◌∙◌, subst, sym, rules}
use Rattle.mw_logic.specs.Terms.{args_of}
use Rattle.mw_logic.specs.Parts.{number_of_terms}
use Rattle.mw_search.proofs.BagLists.{number_terms, at_index}
use Rattle.mw_search.specs.Searches.{Matches}
use Rattle.mw_match.specs.declared.levels.Level.{Level}
use Rattle.mw_match.specs.declared.levels.Levels.{Levels}
use Rattle.mw_match.specs.Levels.{Shortens, behind, taken_by}
use Rattle.mw_match.proofs.NextLevels.{no_pattern, pattern_is}
use Rattle.mw_match.proofs.Shifting.{last_is, last_kept, shift_none, shift_some, shifted_on}
use Rattle.mw_match.proofs.levels.Levels.next_of_last.Goals as goal

pub returns-then-below-patterns-clause-next : goal.returns-then-below-patterns-clause-next
returns-then-below-patterns-clause-next c = λ below l q rest is empty e.
    let s : Levels = c.args.self.now in
    let r = last_is c.as_slice.result.now below l c.last-item.result (c.as_slice.ensures.value ∙ is) c.last-item.is in
    let n = ap (λ (ls : List Level). length ls) r.0 in
    absurd (no_pattern c.patterns-patterns.result.now (length below) q rest (args_of s.compiled.now.pattern) c.patterns-patterns.ensures (omega (arith, c.if-below-patterns.true, n)) e)

pub next_choice-requires : goal.next_choice-requires
next_choice-requires c =
    let s : Levels = c.args.self.now in
    let is = last_kept s c.requires.kept c.as_slice.result.now c.last-item.result c.as_slice.ensures.value c.in-len1-up.len_at_least c.last-item.is in
    let low = is.within in
    let n : number_of_terms (args_of s.subject) ≡ length c.elements-elements.result.now = ap number_of_terms (sym c.elements-elements.ensures) ∙ number_terms c.elements-elements.result.now in
    omega (arith, low, n)

pub overflow_add-from : goal.overflow_add-from
overflow_add-from c =
    let s : Levels = c.args.self.now in
    let is = last_kept s c.requires.kept c.as_slice.result.now c.last-item.result c.as_slice.ensures.value c.in-len1-up.len_at_least c.last-item.is in
    let low = is.within in
    let n : number_of_terms (args_of s.subject) ≡ length c.elements-elements.result.now = ap number_of_terms (sym c.elements-elements.ensures) ∙ number_terms c.elements-elements.result.now in
    let b : length c.elements-elements.result.now < 2 ^ 64 = search rules in
    omega (arith, low, n, b)

pub returns-in_default-next_choice-clause-next : goal.returns-in_default-next_choice-clause-next
returns-in_default-next_choice-clause-next c = λ below l q rest is empty e.
    let s : Levels = c.args.self.now in
    let xs : List Level = c.as_slice.result.now in
    let r = last_is xs below l c.last-item.result (c.as_slice.ensures.value ∙ is) c.last-item.is in
    let d : ℕ = length (take (length xs - 1) xs) in
    let same : d ≡ length below = ap (λ (ls : List Level). length ls) r.0 in
    let p = c.index-patterns-below.result in
    let here = pattern_is c.patterns-patterns.result.now (length below) p q rest (args_of s.compiled.now.pattern) c.patterns-patterns.ensures (omega (arith, c.if-below-patterns.false, same)) (c.index-patterns-below.is ∙ ap (λ d. get_or c.patterns-patterns.result.now d p) same) e in
    subst (λ l. Shortens (behind s.context.now.signature s.compiled.now.positions.single.items (args_of s.subject) q rest (taken_by [] below) l) []) r.1
    (shift_none c.facts-facts.result.now s.context.now.signature s.compiled.now.positions.single.items _ (args_of s.subject) (take (length xs - 1) xs) below p q rest c.as_slice-values.result.now c.last-item.result (c.last-item.result.at + 1)
    c.facts-facts.ensures c.elements-elements.ensures r.0 here c.as_slice-values.ensures (omega arith) (ap (λ (l : Level). l.search.coming) r.1 ∙ empty) c.in_default-next_choice.ensures.next)

pub returns-clause-next : goal.returns-clause-next
returns-clause-next c = λ below l q rest is empty e.
    let s : Levels = c.args.self.now in
    let xs : List Level = c.as_slice.result.now in
    let r = last_is xs below l c.last-item.result (c.as_slice.ensures.value ∙ is) c.last-item.is in
    let d : ℕ = length (take (length xs - 1) xs) in
    let same : d ≡ length below = ap (λ (ls : List Level). length ls) r.0 in
    let p = c.index-patterns-below.result in
    let here = pattern_is c.patterns-patterns.result.now (length below) p q rest (args_of s.compiled.now.pattern) c.patterns-patterns.ensures (omega (arith, c.if-below-patterns.false, same)) (c.index-patterns-below.is ∙ ap (λ d. get_or c.patterns-patterns.result.now d p) same) e in
    let m : Level = c.in_ok-level.level in
    let t = at_index c.elements-elements.result.now c.in-Some.at c.index-elements-at.result c.in-Some.ensures.within c.index-elements-at.is in
    subst (λ l. Shortens (behind s.context.now.signature s.compiled.now.positions.single.items (args_of s.subject) q rest (taken_by [] below) l) (behind s.context.now.signature s.compiled.now.positions.single.items (args_of s.subject) q rest (taken_by [] below) m)) r.1
    (shift_some c.facts-facts.result.now s.context.now.signature s.compiled.now.positions.single.items _ (args_of s.subject) (take (length xs - 1) xs) below p q rest c.as_slice-values.result.now c.last-item.result (c.last-item.result.at + 1)
    c.facts-facts.ensures c.elements-elements.ensures r.0 here c.as_slice-values.ensures (omega arith) (ap (λ (l : Level). l.search.coming) r.1 ∙ empty)
    m c.in-Some.at c.index-elements-at.result c.in_ok-level.ensures.at c.in_ok-level.ensures.given
    (ap (λ (m : Matches). m.coming) c.in_ok-level.ensures.search) t c.in-Some.ensures.next)

pub returns-clause-kept : goal.returns-clause-kept
returns-clause-kept c =
    let s : Levels = c.args.self.now in
    let is = last_kept s c.requires.kept c.as_slice.result.now c.last-item.result c.as_slice.ensures.value c.in-len1-up.len_at_least c.last-item.is in
    let n : number_of_terms (args_of s.subject) ≡ length c.elements-elements.result.now = ap number_of_terms (sym c.elements-elements.ensures) ∙ number_terms c.elements-elements.result.now in
    let m : Level = c.in_ok-level.level in
    shifted_on s.context.now.signature s.compiled.now.positions.sorts s.compiled.now.positions.single.items s.given (number_of_terms (args_of s.subject)) c.last-item.result m c.index-patterns-below.result c.index-elements-at.result c.as_slice-values.result.now is
    c.as_slice-values.ensures c.in_ok-level.ensures.given c.in_ok-level.ensures.search (omega (arith, n, c.in_ok-level.ensures.at, c.in-Some.ensures.within))
