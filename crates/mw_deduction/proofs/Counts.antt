-- What moves count.
use Rattle.std.specs.Prelude.{◌≡◌, ◌-◌, ◌+◌, ◌&&◌, ℕ, suc, List, [], ◌∷◌, length, Bool, true, false, cond, nat_eq, refl}
use Rattle.std.proofs.Common.{subst, ap, ◌∙◌, arith}
use Rattle.mw_logic.specs.Term.{RawTerm, numeral, quoted, variable, apply}
use Rattle.mw_logic.specs.Signature.{Signature}
use Rattle.mw_logic.specs.Module.{Module}
use Rattle.mw_logic.specs.Proof.{Proof, reflexivity, replacement, row, steps, rules, count, count_of}
use Rattle.mw_deduction.specs.Standing.{Open}
use Rattle.mw_deduction.specs.Chains.{proof_of}
use Rattle.mw_deduction.specs.Reading.{counted}
use Rattle.mw_deduction.specs.Runs.{by_statement, by_row}
use Rattle.mw_deduction.specs.Replay.{Move, into, among, out, begins, ends, applies, meets, Stand, begun, into_argument, into_several, going_out, replacing, becomes, showing, play, plays, AreMoves, concluded, replacements, outer_steps, outer_rules}
use Rattle.mw_arguments.proofs.Middles.{differ}
use Rattle.mw_deduction.proofs.ReadingLaws as reading
use Rattle.mw_deduction.proofs.ReadingLaws.{counted_applying, counted_given}

-- going in and out changes nothing of what was read
abbrev KeepsWhatIsRead : Stand → Stand → Type 0
KeepsWhatIsRead S Q = (Q.read.done ≡ S.read.done) × (Q.read.ready ≡ S.read.ready)

into-read : (sig : Signature) (i : ℕ) (t : RawTerm) (S : Stand) → KeepsWhatIsRead S (into_argument sig i t S)
into-read sig i (numeral n) S = (refl, refl)
into-read sig i (quoted q) S = (refl, refl)
into-read sig i (variable x) S = (refl, refl)
into-read sig i (apply f ts) S = (refl, refl)

among-read : (sig : Signature) (ks : List ℕ) (t : RawTerm) (S : Stand) → KeepsWhatIsRead S (into_several sig ks t S)
among-read sig [] t S = (refl, refl)
among-read sig (k ∷ ks) (numeral n) S = (refl, refl)
among-read sig (k ∷ ks) (quoted q) S = (refl, refl)
among-read sig (k ∷ ks) (variable x) S = (refl, refl)
among-read sig (k ∷ ks) (apply f ts) S = (refl, refl)

out-read : (sig : Signature) (os : List Open) (S : Stand) → KeepsWhatIsRead S (going_out sig os S)
out-read sig [] S = (refl, refl)
out-read sig (o ∷ os) S = (refl, refl)

-- all that was read, on each level
abbrev pub total : List Stand → ℕ
total [] = 0
total (S ∷ B) = counted S.read + total B

same_total : (S Q : Stand) (B : List Stand) → KeepsWhatIsRead S Q → total (Q ∷ B) ≡ total (S ∷ B)
same_total S Q B (d, r) = ap (λ p. count (proof_of p) + count_of Q.read.ready + total B) d ∙ ap (λ p. count (proof_of S.read.done) + count_of p + total B) r

-- each replacement counts one
pub totals : (M : Module) (ms : List Move) (B : List Stand) → AreMoves M ms B → total (plays M ms B) ≡ total B + replacements ms
totals M [] B a = omega arith
totals M (m ∷ ms) [] a = absurd a.0
totals M (into i ∷ ms) (S ∷ B) a = totals M ms (into_argument M.signature i S.hand S ∷ B) a.1 ∙ ap (λ n. n + replacements ms) (same_total S (into_argument M.signature i S.hand S) B (into-read M.signature i S.hand S))
totals M (among ks ∷ ms) (S ∷ B) a = totals M ms (into_several M.signature ks S.hand S ∷ B) a.1 ∙ ap (λ n. n + replacements ms) (same_total S (into_several M.signature ks S.hand S) B (among-read M.signature ks S.hand S))
totals M (out ∷ ms) (S ∷ B) a = totals M ms (going_out M.signature S.opens S ∷ B) a.1 ∙ ap (λ n. n + replacements ms) (same_total S (going_out M.signature S.opens S) B (out-read M.signature S.opens S))
totals M (begins t ∷ ms) (S ∷ B) a = let h = totals M ms (begun (S.rank - 1) t ∷ S ∷ B) a.1 in omega (arith, h)
totals M (ends ∷ ms) (S ∷ []) a = absurd a.0
totals M (ends ∷ ms) (S ∷ Q ∷ B) a = let h = totals M ms (play M ends (S ∷ Q ∷ B)) a.1 in let c = counted_given S.read Q.read a.0.nothing_waits in omega (arith, h, c)
totals M (applies k r s vs ∷ ms) (S ∷ B) a = let h = totals M ms (play M (applies k r s vs) (S ∷ B)) a.1 in let c = counted_applying (replacement k r s S.read.ready) S.read refl in omega (arith, h, c)
totals M (meets t ∷ ms) (S ∷ B) a =
    let h = totals M ms (play M (meets t) (S ∷ B)) a.1 in
    let e : count_of S.read.ready ≡ 0 = ap count_of a.0.nothing_waits in
    let c = counted_applying row S.read (omega (arith, e)) in omega (arith, h, c)

-- what the outermost counts
abbrev outermost : List Stand → Proof
outermost [] = reflexivity
outermost (S ∷ []) = proof_of S.read.done
outermost (S ∷ Q ∷ B) = outermost (Q ∷ B)

same_outermost : (S Q : Stand) (B : List Stand) → Q.read.done ≡ S.read.done → outermost (Q ∷ B) ≡ outermost (S ∷ B)
same_outermost S Q [] e = ap proof_of e
same_outermost S Q (P ∷ B) e = refl

abbrev AreCounted : ℕ → List Move → Proof → Proof → Type 0
AreCounted d ms p q = (steps q ≡ steps p + outer_steps d ms) × (rules q ≡ rules p + outer_rules d ms)

further_in : (n : ℕ) → nat_eq (suc n) 0 ≡ false
further_in n = differ (suc n) 0 (λ e. omega (arith, e))

pub outer_counts : (M : Module) (ms : List Move) (S : Stand) (B : List Stand) → AreMoves M ms (S ∷ B) → AreCounted (length B) ms (outermost (S ∷ B)) (outermost (plays M ms (S ∷ B)))
outer_counts M [] S B a = (omega arith, omega arith)
outer_counts M (into i ∷ ms) S B a =
    subst (λ p. AreCounted (length B) ms p (outermost (plays M ms (into_argument M.signature i S.hand S ∷ B)))) (same_outermost S (into_argument M.signature i S.hand S) B (into-read M.signature i S.hand S).0) (outer_counts M ms (into_argument M.signature i S.hand S) B a.1)
outer_counts M (among ks ∷ ms) S B a =
    subst (λ p. AreCounted (length B) ms p (outermost (plays M ms (into_several M.signature ks S.hand S ∷ B)))) (same_outermost S (into_several M.signature ks S.hand S) B (among-read M.signature ks S.hand S).0) (outer_counts M ms (into_several M.signature ks S.hand S) B a.1)
outer_counts M (out ∷ ms) S B a =
    subst (λ p. AreCounted (length B) ms p (outermost (plays M ms (going_out M.signature S.opens S ∷ B)))) (same_outermost S (going_out M.signature S.opens S) B (out-read M.signature S.opens S).0) (outer_counts M ms (going_out M.signature S.opens S) B a.1)
outer_counts M (begins t ∷ ms) S B a = outer_counts M ms (begun (S.rank - 1) t) (S ∷ B) a.1
outer_counts M (ends ∷ ms) S [] a = absurd a.0
outer_counts M (ends ∷ ms) S (Q ∷ B) a =
    let e : length B ≡ length (Q ∷ B) - 1 = omega arith in
    let like = same_outermost Q (showing M.signature S Q) B refl in
    let h = outer_counts M ms (showing M.signature S Q) B a.1 in
    subst (λ d. AreCounted d ms (outermost (Q ∷ B)) (outermost (plays M ms (showing M.signature S Q ∷ B)))) e (subst (λ p. AreCounted (length B) ms p (outermost (plays M ms (showing M.signature S Q ∷ B)))) like h)
outer_counts M (applies k r s vs ∷ ms) S [] a =
    let (x, y) = outer_counts M ms (replacing M.signature (replacement k r s S.read.ready) (by_statement k s S.sides) (becomes M k s S.hand) S) [] a.1 in
    let (u, v, w) = reading.one (replacement k r s S.read.ready) S.read in
    let z : cond {A = ℕ} (r && true) 1 0 ≡ cond r 1 0 = by_flag r in
    (omega (arith, x, v), omega (arith, y, u, z))
  where
    by_flag : (r : Bool) → cond {A = ℕ} (r && true) 1 0 ≡ cond r 1 0
    by_flag true = refl
    by_flag false = refl
outer_counts M (applies k r s vs ∷ ms) S (Q ∷ B) a =
    let (x, y) = outer_counts M ms (replacing M.signature (replacement k r s S.read.ready) (by_statement k s S.sides) (becomes M k s S.hand) S) (Q ∷ B) a.1 in
    let d : nat_eq (suc (length B)) 0 ≡ false = further_in (length B) in
    let e : cond {A = ℕ} (nat_eq (suc (length B)) 0) 1 0 ≡ 0 = rw d refl in
    let f : cond {A = ℕ} (r && nat_eq (suc (length B)) 0) 1 0 ≡ 0 = rw d (by_flag r) in
    (omega (arith, x, e), omega (arith, y, f))
  where
    by_flag : (r : Bool) → cond {A = ℕ} (r && false) 1 0 ≡ 0
    by_flag true = refl
    by_flag false = refl
outer_counts M (meets t ∷ ms) S [] a =
    let (x, y) = outer_counts M ms (replacing M.signature row by_row t S) [] a.1 in
    let (u, v, w) = reading.one row S.read in (omega (arith, x, v), omega (arith, y, u))
outer_counts M (meets t ∷ ms) S (Q ∷ B) a =
    let (x, y) = outer_counts M ms (replacing M.signature row by_row t S) (Q ∷ B) a.1 in
    let d : nat_eq (suc (length B)) 0 ≡ false = further_in (length B) in
    let e : cond {A = ℕ} (nat_eq (suc (length B)) 0) 1 0 ≡ 0 = rw d refl in
    (omega (arith, x, e), y)

-- from one term on, with no side open at the end
pub counts_played : (M : Module) (ms : List Move) (n : ℕ) (t : RawTerm) (T : Stand) → AreMoves M ms (begun n t ∷ []) → plays M ms (begun n t ∷ []) ≡ T ∷ []
    → (steps (concluded T) ≡ outer_steps 0 ms) × (rules (concluded T) ≡ outer_rules 0 ms) × (count (concluded T) + count_of T.read.ready ≡ replacements ms)
counts_played M ms n t T a e =
    let (x, y) = outer_counts M ms (begun n t) [] a in
    let z = totals M ms (begun n t ∷ []) a in
    let f = ap outermost e in
    let g = ap total e in
    let p : steps (outermost (plays M ms (begun n t ∷ []))) ≡ steps (proof_of T.read.done) = ap steps f in
    let q : rules (outermost (plays M ms (begun n t ∷ []))) ≡ rules (proof_of T.read.done) = ap rules f in
    (omega (arith, x, p), omega (arith, y, q), omega (arith, z, g))
