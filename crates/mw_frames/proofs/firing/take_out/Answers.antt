use Rattle.std.proofs.Common.{ap, subst, sym, ◌∙◌, ◌≡◌, ◌∷◌, [], ◌++◌, reverse, List, ℕ, suc}
use Rattle.std.proofs.lemmas.List.{reverse-append}
use Rattle.mw_logic.specs.Term.{RawTerms, apply}
use Rattle.mw_logic.specs.Terms.{terms_of, args_of}
use Rattle.mw_logic.specs.Parts.{number_of_terms}
use Rattle.mw_logic.specs.NormalForm.{is_comm}
use Rattle.mw_arguments.specs.Places.{chosen, Rise}
use Rattle.mw_frames.specs.Several.{IsSeveral}
use Rattle.mw_trail.specs.Tracks.{moves}
use Rattle.mw_frames.specs.Machines.{data_of}
use Rattle.mw_frames.specs.Taking.{IsLeft}
use Rattle.mw_frames.proofs.FiringPart.{some_number, part_asked}
use Rattle.mw_frames.proofs.firing.take_out.Goals as goal

pub returns-clause-taken : goal.returns-clause-taken
returns-clause-taken c = λ sig w on part.
    let part' : IsSeveral sig c.args.numbers.now c.args.subject w = part in
    let m = part'.takes in
    let ns = c.args.numbers.now in
    let f = c.args.frame in
    let (i, is, q) = some_number sig ns c.args.subject w m in
    let rise : Rise 1 (suc (number_of_terms m.args)) (i ∷ is) = subst (Rise 1 (suc (number_of_terms m.args))) q m.rise in
    let args = c.in_ok-args.ensures ∙ ap args_of m.term in
    let e = c.in_ok-taken.ensures.taken i is q rise.0 ∙ ap (λ ks. chosen 1 ks (terms_of c.in_ok-args.args.items)) (sym q) ∙ ap (chosen 1 ns) args in
    m.part ∙ ap (λ g. apply g (chosen 1 ns m.args)) (on m.operator m.args m.term) ∙ ap (apply f.op) (sym e)

pub returns-clause-asked : goal.returns-clause-asked
returns-clause-asked c = λ K k w run h new on part.
    let M = K.over in
    let here = K.over.signature in
    let ns = c.args.numbers.now in
    let f = c.args.frame in
    let taken = c.leave_out.new.machine in
    let part' : IsSeveral here ns c.args.subject w = rw run.signature part in
    let m = part'.takes in
    let e : f.op ≡ m.operator = sym (on m.operator m.args m.term) in
    let (i, is, q) = some_number here ns c.args.subject w m in
    let comm = c.is_comm.ensures ∙ ap (λ s. is_comm s f.op) (sym run.signature) ∙ ap (is_comm here) e in
    let (os, ys, d, j, left) = c.in_ok-taken.ensures.left here m.operator i is comm q in
    let args = c.in_ok-args.ensures ∙ ap args_of m.term in
    let P : RawTerms → Type 0 = λ ts. IsLeft here m.operator ns ts os ys in
    let Q : List ℕ → Type 0 = λ ks. IsLeft here m.operator ks (terms_of c.in_ok-args.args.items) os ys in
    let l = subst P args (subst Q (sym q) left) in
    let same = c.in_ok-taken.ensures.kept in
    let frames = ap reverse (c.in_ok-push.ensures.items ∙ ap (λ xs. xs ++ f ∷ []) c.in_ok-taken.ensures.frames) ∙ reverse-append c.args.machine.now.frames.items (f ∷ []) in
    part_asked K c.args.facts.now run k (data_of M c.args.machine.now) (data_of M (record { frames = c.push.new.self; done = taken.done; jobs = taken.jobs; kept = taken.kept; near = taken.near })) f c.args.subject w ns os ys
    h new m e part'.proper l frames d j (ap (λ t. t.values) same ∙ c.in_ok-among.ensures.values) (ap (moves M) same ∙ c.in_ok-among.ensures.moves M)
