use Rattle.std.proofs.Common.{◌≡◌, ◌≤◌, ◌∙◌, ℕ, List, IsNone, sym, subst, ap, refl, arith}
use Rattle.std.specs.Prelude.{drop}
use Rattle.std.proofs.lemmas.Result.{IfOk-weaker}
use Rattle.mw_logic.specs.Term.{RawTerm, numeral, apply}
use Rattle.mw_matching.specs.Matches.{evaluated_all}
use Rattle.mw_pattern.specs.Clean.{clean}
use Rattle.mw_frames.specs.Jobs.{instance_of, weight}
use Rattle.mw_frames.specs.Arrivals.{StandsFor}
use Rattle.mw_frames.proofs.Values.{no_operator, size_least}
use Rattle.mw_frames.proofs.OpeningAmong.{op_opens, plain_stays, successor_stays, among_axioms}
use Rattle.mw_frames.proofs.opening.open_made.Goals as goal

pub returns-in-Plain-clause-means : goal.returns-in-Plain-clause-means
returns-in-Plain-clause-means c = λ K k run h.
    let a = c.in-Plain.ensures in
    IfOk-weaker c.open_plain.result _ _
    (λ hand o. op_opens K k c.args.facts.now c.args.machine.now c.open_plain.new.machine c.args.pattern c.in-Op.operator c.in-Op.args c.args.base c.args.top hand (ap clean c.in-Op.is) run h o)
    (c.open_plain.ensures.opens a.0 a.1 (plain_stays c.args.facts.now c.in-Op.operator _ a.0 a.1 a.2))

pub returns-in-None-clause-means : goal.returns-in-None-clause-means
returns-in-None-clause-means c = λ K k run h.
    let a = c.in-Successor.ensures in
    let vs : List RawTerm = c.args.machine.now.kept.values in
    let e : clean c.args.pattern.now ≡ apply c.in-Op.operator c.in-Op.args = ap clean c.in-Op.is in
    let none : (n : ℕ) → instance_of c.args.facts.now vs (clean c.args.pattern.now) c.args.base ≡ numeral n → ⊥ = c.in_ok-term-in-Successor.ensures.other (subst IsNone (sym c.in-None.is) refl) in
    IfOk-weaker c.open_plain-in-None.result _ _
    (λ hand o. op_opens K k c.args.facts.now c.args.machine.now c.open_plain-in-None.new.machine c.args.pattern c.in-Op.operator c.in-Op.args c.args.base c.args.top hand e run h o)
    (c.open_plain-in-None.ensures.opens a.0 a.1
    (successor_stays c.args.facts.now c.in-Op.operator (evaluated_all c.args.facts.now (drop c.args.base vs) c.in-Op.args) a.0 a.1
    (λ n q. none n (ap (λ p. instance_of c.args.facts.now vs p c.args.base) e ∙ q))))

pub returns-in_ok-hand-in_default-axioms-clause-means : goal.returns-in_ok-hand-in_default-axioms-clause-means
returns-in_ok-hand-in_default-axioms-clause-means c = λ K k run h.
    op_opens K k c.args.facts.now c.args.machine.now c.open_among.new.machine c.args.pattern c.in-Op.operator c.in-Op.args c.args.base c.args.top c.in_ok-hand-in_default-axioms.hand (ap clean c.in-Op.is) run h
    (c.in_ok-hand-in_default-axioms.ensures.opens (among_axioms c.args.facts.now c.in-Op.operator c.axioms.result c.axioms.ensures c.in_default-axioms.not-Plain c.in_default-axioms.not-Successor))

pub returns-in_ok-job-in_default : goal.returns-in_ok-job-in_default
returns-in_ok-job-in_default c =
    let vs : List RawTerm = c.args.machine.now.kept.values in
    let p : RawTerm = clean c.args.pattern.now in
    let st : StandsFor c.args.facts.now vs c.args.base c.args.top p c.in_ok-job-in_default.job = subst (λ ws. StandsFor c.args.facts.now ws c.args.base c.args.top p c.in_ok-job-in_default.job) c.values.ensures c.in_ok-job-in_default.ensures.stands in
    record {
      means = λ K k run h.
          let s : StandsFor K.over.signature vs c.args.base c.args.top p c.in_ok-job-in_default.job = subst (λ z. StandsFor z vs c.args.base c.args.top p c.in_ok-job-in_default.job) (sym run.signature) st in
          record {
            stand = h.stand;
            leads = h.leads;
            opened = h.opened;
            hand = h.hand ∙ sym s.term;
            good = h.good;
            job = s.known K.over K.rank (record { signature = refl; accepted = run.accepted; sorted = run.sorted }) h.job;
          };
      falls = λ M e.
          let l : weight M.signature vs c.in_ok-job-in_default.job ≤ 3 =
          subst (λ s. weight s vs c.in_ok-job-in_default.job ≤ 3) (sym e)
          (subst (λ ws. weight c.args.facts.now ws c.in_ok-job-in_default.job ≤ 3) c.values.ensures (c.in_ok-job-in_default.ensures.leaf (no_operator c.args.pattern.now (λ f ts. c.in_default.not-Op f ts)))) in
          let b = size_least (instance_of M.signature vs p c.args.base) in
          omega (arith, l, b);
    }
