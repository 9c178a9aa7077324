use Rattle.std.proofs.Common.{◌≡◌, ◌∙◌, ◌==◌, ℕ, Bool, true, subst, sym, arith, vec_len}
use Rattle.mw_logic.specs.Terms.{terms_of}
use Rattle.mw_logic.specs.Term.{nil}
use Rattle.mw_logic.proofs.Canonical.{AreCanonical, assoc-true}
use Rattle.mw_proof.specs.Beside.{GoesOn, starts}
use Rattle.mw_proof.proofs.Between.{starts_canonical, all_passed}
use Rattle.mw_proof.proofs.besides.beside.Goals as goal

pub whole-requires-clause-canonical : goal.whole-requires-clause-canonical
whole-requires-clause-canonical c =
    let M = c.args.context.now in
    let f = c.args.operator in
    let A = c.requires.assoc in
    subst (λ ps. AreCanonical M.signature (starts ps)) (sym c.as_slice.ensures.value) (starts_canonical M c.requires.well.accepted f (assoc-true M.signature f A.operator A.is_there A.assoc) nil c.args.pieces.items c.requires.pieces)

is_true_none : (n : ℕ) (b : Bool) → b ≡ (n == 0) → b ≡ true → n ≡ 0
is_true_none n b e h = grind arith

pub returns-clause-run : goal.returns-clause-run
returns-clause-run c =
    let M = c.args.context.now in
    let f = c.args.operator in
    let A = c.requires.assoc in
    let made = c.in_ok-so_far.ensures in
    let none_left : vec_len c.turns.pieces ≡ 0 = is_true_none (vec_len c.turns.pieces) c.is_empty.result c.is_empty.ensures c.turns-test.false in
    let goes = subst (λ xs. GoesOn M.signature f (terms_of xs) c.args.pieces.items c.in_ok-so_far.so_far (terms_of c.turns.before.items) c.turns.pieces.items c.turns.so_far) c.new-before.ensures.items c.turns.invariant.goes in
    (all_passed M c.requires.well.accepted f (assoc-true M.signature f A.operator A.is_there A.assoc) c.args.pieces.items c.in_ok-so_far.so_far c.turns.so_far (terms_of c.turns.before.items) c.turns.pieces.items
    (sym c.turns.pieces.ok.0 ∙ none_left) made.run made.rank c.turns.invariant.ready goes).1

pub returns-clause-rank : goal.returns-clause-rank
returns-clause-rank c =
    let M = c.args.context.now in
    let f = c.args.operator in
    let A = c.requires.assoc in
    let made = c.in_ok-so_far.ensures in
    let none_left : vec_len c.turns.pieces ≡ 0 = is_true_none (vec_len c.turns.pieces) c.is_empty.result c.is_empty.ensures c.turns-test.false in
    let goes = subst (λ xs. GoesOn M.signature f (terms_of xs) c.args.pieces.items c.in_ok-so_far.so_far (terms_of c.turns.before.items) c.turns.pieces.items c.turns.so_far) c.new-before.ensures.items c.turns.invariant.goes in
    (all_passed M c.requires.well.accepted f (assoc-true M.signature f A.operator A.is_there A.assoc) c.args.pieces.items c.in_ok-so_far.so_far c.turns.so_far (terms_of c.turns.before.items) c.turns.pieces.items
    (sym c.turns.pieces.ok.0 ∙ none_left) made.run made.rank c.turns.invariant.ready goes).2
