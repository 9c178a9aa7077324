-- What proofs count: rules are among the replacements, and these among all; counts add up along a transitivity, so equational proofs join.
use Rattle.std.specs.Prelude.{◌≡◌, ℕ, ◌+◌, ◌≤◌, true, false, refl}
use Rattle.std.proofs.Common.{arith}
use Rattle.mw_logic.specs.Term.{RawTerm}
use Rattle.mw_logic.specs.Axioms.{EqualModulo}
use Rattle.mw_logic.specs.Module.{Module}
use Rattle.mw_logic.specs.Proof.{Proof, reflexivity, equality, congruence, transitivity, replacement, row, Proofs, rules, rules_of, steps, steps_of, count, count_of}
use Rattle.mw_logic.specs.Proof as proof
use Rattle.mw_logic.specs.Ends.{Reaches}
use Rattle.mw_logic.proofs.Judging.{Proves-reflexivity, Proves-equality, Proves-transitivity}

mutual
  -- each rule is a step
  pub rules_within : (p : Proof) → rules p ≤ steps p
  rules_within reflexivity = omega arith
  rules_within equality = omega arith
  rules_within (congruence ps) = all_rules_within ps
  rules_within (transitivity p q) = omega (arith, rules_within p, rules_within q)
  rules_within (replacement k true s es) = omega arith
  rules_within (replacement k false s es) = omega arith
  rules_within row = omega arith

  all_rules_within : (ps : Proofs) → rules_of ps ≤ steps_of ps
  all_rules_within proof.nil = omega arith
  all_rules_within (proof.cons p ps) = omega (arith, rules_within p, all_rules_within ps)

mutual
  -- each step is counted
  pub steps_within : (p : Proof) → steps p ≤ count p
  steps_within reflexivity = omega arith
  steps_within equality = omega arith
  steps_within (congruence ps) = all_steps_within ps
  steps_within (transitivity p q) = omega (arith, steps_within p, steps_within q)
  steps_within (replacement k r s es) = omega arith
  steps_within row = omega arith

  all_steps_within : (ps : Proofs) → steps_of ps ≤ count_of ps
  all_steps_within proof.nil = omega arith
  all_steps_within (proof.cons p ps) = omega (arith, steps_within p, all_steps_within ps)

-- what follows one proof by another counts both
pub transitivity-counts : (p q : Proof) → (rules (transitivity p q) ≡ rules p + rules q) × (steps (transitivity p q) ≡ steps p + steps q) × (count (transitivity p q) ≡ count p + count q)
transitivity-counts p q = (refl, refl, refl)

-- what stands over arguments' proofs counts all of them
pub congruence-counts : (p : Proof) (ps : Proofs) → (rules (congruence (proof.cons p ps)) ≡ rules p + rules (congruence ps)) × (steps (congruence (proof.cons p ps)) ≡ steps p + steps (congruence ps)) × (count (congruence (proof.cons p ps)) ≡ count p + count (congruence ps))
congruence-counts p ps = (refl, refl, refl)

-- equational proofs: none, an equality, and one after another
pub Reaches-itself : (M : Module) (n : ℕ) (t : RawTerm) → Reaches M n t t
Reaches-itself M n t = (reflexivity, Proves-reflexivity M n t, refl)

pub Reaches-equal : (M : Module) (n : ℕ) (t u : RawTerm) → EqualModulo M.signature t u → Reaches M n t u
Reaches-equal M n t u e = (equality, Proves-equality M n t u e, refl)

pub Reaches-trans : (M : Module) (n : ℕ) (t u v : RawTerm) → Reaches M n t u → Reaches M n u v → Reaches M n t v
Reaches-trans M n t u v (p, a, e) (q, b, f) = (transitivity p q, Proves-transitivity M n p q t u v a b, omega (arith, e, f))
