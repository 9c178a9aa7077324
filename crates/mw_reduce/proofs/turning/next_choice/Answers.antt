use Rattle.std.proofs.Common.{◌≡◌, ◌∷◌, ◌++◌, [], sym, subst}
use Rattle.mw_logic.specs.Term.{RawTerm}
use Rattle.mw_logic.specs.Module.{Module}
use Rattle.mw_solving.specs.Values.{IsValue}
use Rattle.mw_index.specs.Choices.{subject_of, AreAllTried, IsChoice, Covers, tried_of}
use Rattle.mw_frames.specs.Machines.{data_of}
use Rattle.mw_frames.specs.Steps.{asked_term}
use Rattle.mw_frames.proofs.Asking.{asked_for_value}
use Rattle.mw_reduce.proofs.Asks.{nothing_applies}
use Rattle.mw_reduce.proofs.turning.next_choice.Goals as goal

pub returns-in-Some-clause-means : goal.returns-in-Some-clause-means
returns-in-Some-clause-means c = λ K k side tried run here a rows failed covers.
    let M : Module = c.args.context.now in
    let d = data_of K.over c.args.machine.now in
    let t : RawTerm = asked_term d c.args.asked in
    let e : subject_of c.subject_at-subject.result ≡ t = c.subject_at-subject.ensures K.over in
    let v : IsValue M.signature t = subst (λ m. IsValue m.signature t) here (asked_for_value K M.signature run k d c.args.asked a) in
    let all : Covers M c.args.index.now t tried c.args.choices.now = subst (λ m. Covers m c.args.index.now t tried c.args.choices.now) here covers in
    let o = rw e at (c.in_ok-choice.ensures.is tried) in
    let p : IsChoice M t c.in-Some.choice × Covers M c.args.index.now t (tried ++ tried_of c.in-Some.choice ∷ []) c.next.new.self = rw c.in-Some.is at (o v all) in
    let z = rw c.in-Some.is at c.in_ok-choice.ensures.values in
    record {
      asked = a;
      rows = rows;
      choice = subst (λ m. IsChoice m t c.in-Some.choice) (sym here) p.0;
      sized = z;
      equation = (rw c.in-Some.is at c.in_ok-choice.ensures.of).1;
      tried = tried;
      failed = failed;
      others = subst (λ m. Covers m c.args.index.now t (tried ++ tried_of c.in-Some.choice ∷ []) c.next.new.self) (sym here) p.1;
    }

pub returns-in_ok-hand-in-None-clause-means : goal.returns-in_ok-hand-in-None-clause-means
returns-in_ok-hand-in-None-clause-means c = λ K k side tried run here a rows failed covers.
    let M : Module = c.args.context.now in
    let d = data_of K.over c.args.machine.now in
    let t : RawTerm = asked_term d c.args.asked in
    let e : subject_of c.subject_at-subject.result ≡ t = c.subject_at-subject.ensures K.over in
    let v : IsValue M.signature t = subst (λ m. IsValue m.signature t) here (asked_for_value K M.signature run k d c.args.asked a) in
    let all : Covers M c.args.index.now t tried c.args.choices.now = subst (λ m. Covers m c.args.index.now t tried c.args.choices.now) here covers in
    let o = rw e at (c.in_ok-choice.ensures.is tried) in
    let p : AreAllTried M t tried = rw c.in-None.is at (o v all) in
    let q : AreAllTried K.over t tried = subst (λ m. AreAllTried m t tried) (sym here) p in
    c.in_ok-hand-in-None.ensures.means K k (rw c.facts.ensures run) a (nothing_applies K.over K.rank t tried rows failed q)
