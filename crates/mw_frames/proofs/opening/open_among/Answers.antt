use Rattle.std.proofs.Common.{◌≡◌, ◌⊎◌, ◌+◌, List, true, false, reverse, ap, sym, subst, arith}
use Rattle.std.specs.Prelude.{drop}
use Rattle.mw_logic.specs.Term.{RawTerm, RawTerms}
use Rattle.mw_logic.specs.Signature.{Signature}
use Rattle.mw_logic.specs.Kinds.{is_successor}
use Rattle.mw_logic.specs.Parts.{is_assoc}
use Rattle.mw_logic.specs.NormalForm.{applied_in}
use Rattle.mw_matching.specs.Matches.{evaluated_all}
use Rattle.mw_frames.specs.Jobs.{size, sizes, nodes_in}
use Rattle.mw_frames.specs.Machines.{data_of}
use Rattle.mw_frames.specs.State.{AreKnownIn}
use Rattle.mw_frames.specs.Arrivals.{spread_all, Comes}
use Rattle.mw_frames.proofs.Arriving.{sizes-spread}
use Rattle.mw_frames.proofs.OpeningTerms.{kept_settled, kept_work, work_more}
use Rattle.mw_frames.proofs.OpeningAmong.{among_opened}
use Rattle.mw_frames.proofs.opening.open_among.Goals as goal

pub returns-clause-opens : goal.returns-clause-opens
returns-clause-opens c = λ axioms K k x run h is known.
    let vs : List RawTerm = c.args.machine.now.kept.values in
    let f = c.in_ok-frame.frame in
    let m = c.args.machine.now in
    let m' = c.wait_all.new.machine in
    let back : (P : Signature → Type 0) → P c.args.facts.now → P K.over.signature = λ P p. subst P (sym run.signature) p in
    kept_settled K k m m' f c.in_ok-wait_all.ensures.keeps
    (among_opened K k c.args.facts.now run (data_of K.over m) x h c.args.operator c.args.args.now c.args.base c.args.top f m'.done.items m'.jobs.items
    (back (λ s. (is_assoc s c.args.operator ≡ true) ⊎ (is_successor s c.args.operator ≡ false)) axioms) is known.1 c.in_ok-frame.ensures
    (back (λ s. Comes s vs f (spread_all s f.op (evaluated_all s (drop c.args.base vs) c.args.args.now)) (λ M n. AreKnownIn M n vs c.args.base c.args.top c.args.args.now) m.done.items m'.done.items m.jobs.items m'.jobs.items)
    c.in_ok-wait_all.ensures.comes))

pub returns-clause-falls : goal.returns-clause-falls
returns-clause-falls c = λ M.
    let vs : List RawTerm = c.args.machine.now.kept.values in
    let sig : Signature = c.args.facts.now in
    let f = c.in_ok-frame.frame in
    let m = c.args.machine.now in
    let m' = c.wait_all.new.machine in
    let ts : RawTerms = evaluated_all sig (drop c.args.base vs) c.args.args.now in
    let l = c.in_ok-wait_all.ensures.weight in
    let w = work_more sig vs (reverse m.frames.items) m.jobs.items m'.jobs.items (sizes (spread_all sig f.op ts) + nodes_in c.args.args.now) (omega (arith, l)) in
    let k = kept_work sig m m' c.in_ok-wait_all.ensures.keeps in
    let s = sizes-spread sig f.op ts in
    let e : size (applied_in sig f.op ts) ≡ size (applied_in sig c.args.operator ts) = ap (λ i. size (applied_in sig i ts)) c.in_ok-frame.ensures.operator in
    omega (arith, w, k, s, e)
