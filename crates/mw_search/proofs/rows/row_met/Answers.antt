use Rattle.std.proofs.Common.{◌≡◌, ◌∙◌, ◌+◌, length, ap, sym, arith, ℕ, option_map, refl, true, false, cond, []}
use Rattle.std.specs.Prelude.{None, ◌∷◌, is_some, Option}
use Rattle.mw_logic.specs.Signature.{Identity}
use Rattle.mw_logic.specs.Parts.{number_of_terms}
use Rattle.mw_logic.specs.NormalForm.{identity_of, rebuilt}
use Rattle.mw_logic.specs.Term.{RawTerms}
use Rattle.mw_logic.specs.Terms.{args_of, skip}
use Rattle.mw_term.specs.Signatures.{identity_of as identity_named}
use Rattle.mw_arguments.specs.Pieces.{is_backed}
use Rattle.mw_matching.specs.Patterns.{is_rigid}
use Rattle.mw_matching.specs.Found.{Values, is_single}
use Rattle.mw_search.specs.Traces.{Trace, trace}
use Rattle.mw_search.specs.Goals.{top_of, outcome_trace}
use Rattle.mw_search.specs.declared.shares.Fronts.{Fronts}
use Rattle.mw_search.proofs.BagLists.{number_terms}
use Rattle.mw_search.proofs.Meeting.{none_ends, some_ends, row_goes, row_way, row_last, front_same, some_named, is_zero, above_zero, least_is}
use Rattle.mw_search.proofs.rows.row_met.Goals.{then-is_empty, else-is_empty, then-is_some, else-is_some}
use Rattle.mw_search.proofs.rows.row_met.Goals as goal

pub returns-then-at-patterns : goal.returns-then-at-patterns
returns-then-at-patterns c =
    let sig = c.args.facts.now in
    let single = c.args.positions.now.single.items in
    λ vs k. elim c.if-is_empty.branch [
      | then-is_empty w ↦ none_ends sig single c.args.pattern.now c.args.row.now c.arguments-patterns.result.now c.args.at c.args.from c.rest_of-rest.result.now c.arguments-patterns.ensures (omega arith)
          (c.rest_of-rest.ensures ∙ ap (skip c.args.from) c.arguments.ensures) (is_zero (length c.rest_of-rest.result.now) w.if-is_empty.ensures) vs k
          ∙ ap (λ o. None ∷ outcome_trace sig single o vs k) (sym w.result-is)
      | else-is_empty w ↦ some_ends sig single c.args.pattern.now c.args.row.now c.arguments-patterns.result.now c.args.at c.args.from c.rest_of-rest.result.now c.arguments-patterns.ensures (omega arith)
          (c.rest_of-rest.ensures ∙ ap (skip c.args.from) c.arguments.ensures) (above_zero (length c.rest_of-rest.result.now) w.if-is_empty.ensures) vs k
          ∙ ap (λ o. None ∷ outcome_trace sig single o vs k) (sym w.result-is)
    ]

pub returns-then-is_rigid : goal.returns-then-is_rigid
returns-then-is_rigid c =
    let sig = c.args.facts.now in
    let single = c.args.positions.now.single.items in
    let q = c.index-patterns-at.result in
    let rigid : is_rigid sig (is_single single) (top_of c.args.pattern.now) q ≡ true = ap (λ f. is_rigid sig (is_single single) f q) (sym c.top-2.ensures) ∙ sym c.if-is_rigid.ensures in
    λ vs k. row_way sig single c.args.pattern.now c.args.row.now q c.arguments-patterns.result.now c.args.at c.args.from true _ c.arguments-patterns.ensures (omega arith) c.index-patterns-at.is rigid refl vs k
    ∙ ap (λ l. None ∷ l) (c.in_ok-met.ensures sig single vs k)

pub returns-then-at-patterns-2 : goal.returns-then-at-patterns-2
returns-then-at-patterns-2 c =
    let sig = c.args.facts.now in
    let single = c.args.positions.now.single.items in
    let f : ℕ = top_of c.args.pattern.now in
    let q = c.index-patterns-at.result in
    let zs : RawTerms = skip c.args.from (args_of c.args.row.now) in
    let rigid : is_rigid sig (is_single single) f q ≡ false = ap (λ f. is_rigid sig (is_single single) f q) (sym c.top-2.ensures) ∙ sym c.if-is_rigid.ensures in
    let named : option_map identity_named c.identity-identity.result ≡ identity_of sig f = c.identity-identity.ensures ∙ ap (identity_of sig) c.top.ensures in
    let Y : Option Identity → ℕ → RawTerms → Values → (Values → Trace) → Trace = λ e g ys vs k. cond (is_backed e ys) (trace sig single q (rebuilt e g ys) vs k) [] in
    λ vs k. row_way sig single c.args.pattern.now c.args.row.now q c.arguments-patterns.result.now c.args.at c.args.from false true c.arguments-patterns.ensures (omega arith) c.index-patterns-at.is rigid
    (row_last c.args.pattern.now c.arguments-patterns.result.now c.args.at c.arguments-patterns.ensures c.if-at-patterns-2.true) vs k
    ∙ ap (λ e. None ∷ Y e f zs vs k) (sym named) ∙ ap (λ g. None ∷ Y (option_map identity_named c.identity-identity.result) g zs vs k) (sym c.top-then-at-patterns-2.ensures)
    ∙ ap (λ l. None ∷ l) (c.in_ok-met-2.ensures sig single vs k)

pub returns : goal.returns
returns c =
    let sig = c.args.facts.now in
    let single = c.args.positions.now.single.items in
    let f : ℕ = top_of c.args.pattern.now in
    let q = c.index-patterns-at.result in
    let rigid : is_rigid sig (is_single single) f q ≡ false = ap (λ f. is_rigid sig (is_single single) f q) (sym c.top-2.ensures) ∙ sym c.if-is_rigid.ensures in
    let s : Fronts = record { pattern = c.in_ok-pattern.pattern; then = c.args.at + 1; row = c.in_ok-row.row; from = c.args.from; identity = c.identity-identity.result; next = c.if-is_some.next; end = length c.rest_of-rest.result.now + 1 } in
    let named : option_map identity_named c.identity-identity.result ≡ identity_of sig f = c.identity-identity.ensures ∙ ap (identity_of sig) c.top.ensures in
    let backed : c.is_some.result ≡ is_some (identity_of sig f) = c.is_some.ensures ∙ sym (some_named identity_named c.identity-identity.result) ∙ ap (λ (o : Option Identity). is_some o) named in
    let number : length c.rest_of-rest.result.now ≡ number_of_terms (skip c.args.from (args_of c.args.row.now)) =
    sym (number_terms c.rest_of-rest.result.now) ∙ ap number_of_terms (c.rest_of-rest.ensures ∙ ap (skip c.args.from) c.arguments.ensures) in
    let least : c.if-is_some.next ≡ cond c.is_some.result 0 1 = elim c.if-is_some.branch [
      | then-is_some w ↦ least_is c.is_some.result true c.if-is_some.next 0 w.if-is_some.true w.next-is
      | else-is_some w ↦ least_is c.is_some.result false c.if-is_some.next 0 w.if-is_some.false w.next-is
    ] in
    λ vs k. row_goes sig single c.args.pattern.now c.args.row.now q c.in_ok-first.first c.arguments-patterns.result.now c.args.at c.args.from (length c.rest_of-rest.result.now) c.is_some.result s
    c.arguments-patterns.ensures (omega arith) c.index-patterns-at.is rigid (omega arith) number backed
    (λ m. front_same _ _ _ _ _ _ (c.args.at + 1) c.args.from m named c.in_ok-pattern.ensures c.in_ok-row.ensures) c.in_ok-first.ensures least refl vs k
