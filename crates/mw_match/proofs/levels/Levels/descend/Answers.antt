use Rattle.std.specs.Prelude.{◌≡◌, ◌++◌, List, [], Some, None, MatchOption, ⊤, option_to_list}
use Rattle.std.proofs.Common.{sym, ap, ◌∙◌, subst, append-nil}
use Rattle.mw_logic.specs.Terms.{args_of}
use Rattle.mw_match.specs.declared.levels.Level.{Level}
use Rattle.mw_match.specs.Levels.{Trace, Shortens, come, still_to_come, AreKept}
use Rattle.mw_match.proofs.NextLevels.{descended, of_found}
use Rattle.mw_match.proofs.NextPicks.{AreFit, fit_more}
use Rattle.mw_match.proofs.levels.Levels.descend.Goals as goal
use Rattle.mw_match.proofs.levels.Levels.descend.Goals.{in-Some-next+in_ok-push, in_default-next}

pub returns-clause-ok : goal.returns-clause-ok
returns-clause-ok c =
    let s = c.args.self.now in
    let after : Trace = come s.context.now.signature s.compiled.now.positions.single.items (args_of s.subject) (args_of s.compiled.now.pattern) [] (s.stack.items ++ option_to_list c.in_ok-next.next) None in
    let r : Shortens (still_to_come (record s { found = Some c.as_slice.result.now })) after =
    descended s.context.now.signature s.compiled.now.positions.single.items (args_of s.subject) (args_of s.compiled.now.pattern) s.stack.items c.as_slice.result.now c.in_ok-next.next c.requires
    (λ q rest e. c.in_ok-next.ensures.next q rest e) in
    let whole : MatchOption s.found ⊤ (λ _. Shortens (still_to_come s) after) =
    of_found s.found c.as_slice.result.now c.in-Some.values (λ o. Shortens (still_to_come (record s { found = o })) after) c.in-Some.is c.as_slice.ensures r in
    let goes_on : (items : List Level) → items ≡ s.stack.items ++ option_to_list c.in_ok-next.next → MatchOption s.found ⊤ (λ _. Shortens (still_to_come s)
    (come s.context.now.signature s.compiled.now.positions.single.items (args_of s.subject) (args_of s.compiled.now.pattern) [] items None)) =
    λ items e. subst (λ xs. MatchOption s.found ⊤ (λ _. Shortens (still_to_come s) (come s.context.now.signature s.compiled.now.positions.single.items (args_of s.subject) (args_of s.compiled.now.pattern) [] xs None))) (sym e) whole in
    elim c.match-next.branch [
      | in-Some-next+in_ok-push w ↦
          subst (λ m. MatchOption s.found ⊤ (λ _. Shortens (still_to_come s) (still_to_come (record m { found = None })))) (sym w.self-is) (goes_on _ (w.in_ok-push.ensures.items ∙ ap (λ o. s.stack.items ++ option_to_list o) (sym w.in-Some-next.is)))
      | in_default-next w ↦
          subst (λ m. MatchOption s.found ⊤ (λ _. Shortens (still_to_come s) (still_to_come (record m { found = None })))) (sym w.self-is) (goes_on _ (sym (append-nil s.stack.items) ∙ ap (λ o. s.stack.items ++ option_to_list o) (sym w.in_default-next.is)))
    ]

pub returns-clause-kept : goal.returns-clause-kept
returns-clause-kept c = λ k.
    let s = c.args.self.now in
    let found : s.found ≡ Some c.as_slice.result.now = c.in-Some.is ∙ ap (λ us. Some us) (sym c.as_slice.ensures) in
    let fit : (items : List Level) → items ≡ s.stack.items ++ option_to_list c.in_ok-next.next → AreFit s items =
    fit_more s c.as_slice.result.now c.in_ok-next.next k found c.requires c.in_ok-next.ensures.kept in
    elim c.match-next.branch [
      | in-Some-next+in_ok-push w ↦
          let f = fit _ (w.in_ok-push.ensures.items ∙ ap (λ o. s.stack.items ++ option_to_list o) (sym w.in-Some-next.is)) in
          subst (λ m. AreKept (record m { found = None })) (sym w.self-is) (record { sorts = k.sorts; levels = f.levels; found = tt; depth = f.depth })
      | in_default-next w ↦
          let f = fit _ (sym (append-nil s.stack.items) ∙ ap (λ o. s.stack.items ++ option_to_list o) (sym w.in_default-next.is)) in
          subst (λ m. AreKept (record m { found = None })) (sym w.self-is) (record { sorts = k.sorts; levels = f.levels; found = tt; depth = f.depth })
    ]
