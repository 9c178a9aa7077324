use Rattle.std.proofs.Common.{◌≡◌, refl, subst, ⊎_elim}
use Rattle.mw_logic.specs.Signature.{Signature}
use Rattle.mw_logic.specs.Term.{apply}
use Rattle.mw_logic.specs.Terms.{terms_of}
use Rattle.mw_canon.specs.Axioms.{HasAxioms}
use Rattle.mw_builtin.specs.Schemata.{IsSchemaOf}
use Rattle.mw_builtin.specs.Steps.{IsAsked, IsSide, IsStepOf}
use Rattle.mw_builtin.specs.declared.schema.Schema.{Schema}
use Rattle.mw_builtin.specs.declared.schema.Schema.TheVariants.{Nothing, Number, Equality, Inequality, Choice, Truth}
use Rattle.mw_builtin.specs.declared.step.Met.TheVariants as met
use Rattle.mw_builtin.proofs.NoRows.{idle}
use Rattle.mw_builtin.proofs.Stepping.{row_of, computes_by, of_sides, of_any, of_normal}
use Rattle.mw_builtin.proofs.table.Schemata.step.Goals as goal

pub returns-in-Nothing : goal.returns-in-Nothing
returns-in-Nothing c =
    let s = c.args.self.now in
    let f = c.args.operator in
    let xs = c.args.args.now in
    let facts = c.args.facts.now in
    let m = met.Nothing in
    let h : (sig : Signature) → IsAsked sig s f xs → facts ≡ sig → IsStepOf sig (IsSide sig f xs) (apply f (terms_of xs)) m = λ sig q e.
    let row : (schema : Schema) → c.schema.result ≡ schema → IsSchemaOf sig f schema = λ schema k. row_of sig s q.schemata f c.schema.result schema c.schema.ensures k in
    ⊎_elim (λ k. idle sig q.accepted f (terms_of xs) Nothing (row Nothing k) refl) (λ (b, k). idle sig q.accepted f (terms_of xs) (Truth b) (row (Truth b) k) refl) c.in-Nothing.is in
    record { normal = of_normal s facts f xs m h; rows = of_any s facts f xs m h; sides = of_sides s facts f xs m h }

pub returns-in_ok-met-in-Number : goal.returns-in_ok-met-in-Number
returns-in_ok-met-in-Number c =
    let s = c.args.self.now in
    let f = c.args.operator in
    let xs = c.args.args.now in
    let facts = c.args.facts.now in
    let m = c.in_ok-met-in-Number.met in
    let h : (sig : Signature) → IsAsked sig s f xs → facts ≡ sig → IsStepOf sig (IsSide sig f xs) (apply f (terms_of xs)) m = λ sig q e.
    let row = row_of sig s q.schemata f c.schema.result (Number c.in-Number.on_numbers) c.schema.ensures c.in-Number.is in
    c.in_ok-met-in-Number.ensures sig f q (computes_by sig f (Number c.in-Number.on_numbers) row (λ k. cc))
    (c.is_commutative-comm.ensures sig f (subst (λ sig. HasAxioms sig f c.axioms.result) e c.axioms.ensures)) in
    record { normal = of_normal s facts f xs m h; rows = of_any s facts f xs m h; sides = of_sides s facts f xs m h }

pub returns-in_ok-met-in-Equality : goal.returns-in_ok-met-in-Equality
returns-in_ok-met-in-Equality c =
    let s = c.args.self.now in
    let f = c.args.operator in
    let xs = c.args.args.now in
    let facts = c.args.facts.now in
    let m = c.in_ok-met-in-Equality.met in
    let h : (sig : Signature) → IsAsked sig s f xs → facts ≡ sig → IsStepOf sig (IsSide sig f xs) (apply f (terms_of xs)) m = λ sig q e.
    let row = row_of sig s q.schemata f c.schema.result Equality c.schema.ensures c.in-Equality.is in
    c.in_ok-met-in-Equality.ensures sig f q (computes_by sig f Equality row (λ k. cc)) in
    record { normal = of_normal s facts f xs m h; rows = of_any s facts f xs m h; sides = of_sides s facts f xs m h }

pub returns-in_ok-met-in-Inequality : goal.returns-in_ok-met-in-Inequality
returns-in_ok-met-in-Inequality c =
    let s = c.args.self.now in
    let f = c.args.operator in
    let xs = c.args.args.now in
    let facts = c.args.facts.now in
    let m = c.in_ok-met-in-Inequality.met in
    let h : (sig : Signature) → IsAsked sig s f xs → facts ≡ sig → IsStepOf sig (IsSide sig f xs) (apply f (terms_of xs)) m = λ sig q e.
    let row = row_of sig s q.schemata f c.schema.result Inequality c.schema.ensures c.in-Inequality.is in
    c.in_ok-met-in-Inequality.ensures sig f q (computes_by sig f Inequality row (λ k. cc)) in
    record { normal = of_normal s facts f xs m h; rows = of_any s facts f xs m h; sides = of_sides s facts f xs m h }

pub returns-in_ok-met-in-Choice : goal.returns-in_ok-met-in-Choice
returns-in_ok-met-in-Choice c =
    let s = c.args.self.now in
    let f = c.args.operator in
    let xs = c.args.args.now in
    let facts = c.args.facts.now in
    let m = c.in_ok-met-in-Choice.met in
    let h : (sig : Signature) → IsAsked sig s f xs → facts ≡ sig → IsStepOf sig (IsSide sig f xs) (apply f (terms_of xs)) m = λ sig q e.
    let row = row_of sig s q.schemata f c.schema.result Choice c.schema.ensures c.in-Choice.is in
    c.in_ok-met-in-Choice.ensures sig f q (computes_by sig f Choice row (λ k. cc)) in
    record { normal = of_normal s facts f xs m h; rows = of_any s facts f xs m h; sides = of_sides s facts f xs m h }
