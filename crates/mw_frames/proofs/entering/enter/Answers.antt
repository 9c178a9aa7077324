use Rattle.std.specs.Prelude.{option_map}
use Rattle.std.proofs.Common.{rules, refl, ap, sym, subst, ◌∙◌, ◌≡◌, ◌≤◌, ◌<◌, ◌⊎◌, ◌∷◌, [], ◌++◌, suc, true, length, drop, Some, reverse}
use Rattle.std.proofs.lemmas.List.{reverse-append}
use Rattle.mw_logic.specs.Term.{apply}
use Rattle.mw_logic.specs.Terms.{terms_of, list_of, args_of}
use Rattle.mw_logic.specs.Signature.{at_number}
use Rattle.mw_logic.specs.Parts.{is_assoc}
use Rattle.mw_logic.specs.NormalForm.{is_comm}
use Rattle.mw_stack.specs.Own.{own, IsOrdered}
use Rattle.mw_stack.specs.Places.{IsPlace}
use Rattle.mw_term.proofs.Terms.{list_of-terms_of}
use Rattle.mw_deduction.specs.Replay.{into}
use Rattle.mw_trail.specs.Tracks.{moves}
use Rattle.mw_frames.specs.Arrivals.{IsNewFrame}
use Rattle.mw_frames.specs.Entered.{IsEntered}
use Rattle.mw_frames.specs.Machines.{data_of}
use Rattle.mw_frames.specs.Taking.{IsLeft}
use Rattle.mw_frames.proofs.Applications.{same_frame}
use Rattle.mw_frames.proofs.IntoArguments.{some_beside, arrives}
use Rattle.mw_frames.proofs.entering.enter.Goals as goal

pub returns-in_default-numbered-clause-none : goal.returns-in_default-numbered-clause-none
returns-in_default-numbered-clause-none c = λ K k run h.
    ap (λ t. at_number (list_of (args_of t)) c.args.number) c.in-Op.ensures ∙ ap (λ ts. at_number ts c.args.number) (list_of-terms_of c.in-Op.args.now) ∙ sym c.numbered.ensures ∙ ap (option_map (λ x. x.now)) c.in_default-numbered.is

pub returns-then-not-stands_beside-clause-none : goal.returns-then-not-stands_beside-clause-none
returns-then-not-stands_beside-clause-none c = λ K k run h.
    let m = c.args.machine.now in
    let f = c.in_ok-frame.frame in
    let sig = K.over.signature in
    let xs = c.in-Op.args.now in
    let op : f.op ≡ c.in-Op.operator = c.in_ok-frame.ensures.operator in
    let new : IsNewFrame c.args.facts.now (reverse m.frames.items) m.done.items m.jobs.items f.op f = same_frame c.args.facts.now (reverse m.frames.items) m.done.items m.jobs.items c.in-Op.operator f c.in_ok-frame.ensures in
    let is : c.args.term.now ≡ apply f.op (terms_of xs) = c.in-Op.ensures ∙ ap (λ g. apply g (terms_of xs)) (sym op) in
    let at : at_number xs c.args.number ≡ Some c.in-Some.argument.now = sym c.numbered.ensures ∙ ap (option_map (λ x. x.now)) c.in-Some.is in
    let comm = c.is_comm-comm.ensures ∙ ap (λ s. is_comm s c.in-Op.operator) (sym run.signature) ∙ ap (is_comm sig) (sym op) in
    let (os, ys, d, j, all) = c.in_ok-leave_out.ensures.left sig f.op c.args.number [] comm refl in
    let args : terms_of c.in_ok-all.all.items ≡ terms_of xs = c.in_ok-all.ensures ∙ ap args_of (c.in_ok-copy.ensures ∙ c.in-Op.ensures) in
    let left = subst (λ ts. IsLeft sig f.op (c.args.number ∷ []) ts os ys) args all in
    let z = c.stands_beside.ensures.no (search rules) in
    let own = c.leave_out.new.machine in
    absurd (some_beside K c.args.facts.now run k (data_of K.over m) c.args.term.now xs f c.args.number c.in-Some.argument.now os ys h is new at left (rw run.signature z.0) (rw d at z.1) (rw j at z.2))

pub returns-clause-means : goal.returns-clause-means
returns-clause-means c = λ K k run h.
    let m = c.args.machine.now in
    let n = c.go_in.new.machine in
    let f = c.in_ok-frame.frame in
    let sig = K.over.signature in
    let xs = c.in-Op.args.now in
    let op : f.op ≡ c.in-Op.operator = c.in_ok-frame.ensures.operator in
    let new : IsNewFrame c.args.facts.now (reverse m.frames.items) m.done.items m.jobs.items f.op f = same_frame c.args.facts.now (reverse m.frames.items) m.done.items m.jobs.items c.in-Op.operator f c.in_ok-frame.ensures in
    let is : c.args.term.now ≡ apply f.op (terms_of xs) = c.in-Op.ensures ∙ ap (λ g. apply g (terms_of xs)) (sym op) in
    let at : at_number xs c.args.number ≡ Some c.in-Some.argument.now = sym c.numbered.ensures ∙ ap (option_map (λ x. x.now)) c.in-Some.is in
    let comm = c.is_comm-comm.ensures ∙ ap (λ s. is_comm s c.in-Op.operator) (sym run.signature) ∙ ap (is_comm sig) (sym op) in
    let (os, ys, d, j, all) = c.in_ok-leave_out.ensures.left sig f.op c.args.number [] comm refl in
    let args : terms_of c.in_ok-all.all.items ≡ terms_of xs = c.in_ok-all.ensures ∙ ap args_of (c.in_ok-copy.ensures ∙ c.in-Op.ensures) in
    let left = subst (λ ts. IsLeft sig f.op (c.args.number ∷ []) ts os ys) args all in
    let long : (is_assoc sig f.op ≡ true → (f.from < length (m.done.items ++ os)) ⊎ (f.waits < length (m.jobs.items ++ ys))) = subst (λ s. is_assoc s f.op ≡ true → (f.from < length (m.done.items ++ os)) ⊎ (f.waits < length (m.jobs.items ++ ys))) (sym run.signature) (rw (d, j) at (c.stands_beside.ensures.yes (search rules))) in
    let v = c.as_slice.ensures.value ∙ d in
    let bound : c.place_of-before.result ≤ length (drop f.from (m.done.items ++ os)) = rw v at c.place_of-before.ensures.bound in
    let place : (IsOrdered sig f.op (own f.from (m.done.items ++ os)) → IsPlace (is_comm sig f.op) (own f.from (m.done.items ++ os)) c.in-Some.argument.now c.place_of-before.result) = subst (λ s. IsOrdered s f.op (own f.from (m.done.items ++ os)) → IsPlace (is_comm s f.op) (own f.from (m.done.items ++ os)) c.in-Some.argument.now c.place_of-before.result) (sym run.signature) (subst (λ g. IsOrdered c.args.facts.now g (own f.from (m.done.items ++ os)) → IsPlace (is_comm c.args.facts.now g) (own f.from (m.done.items ++ os)) c.in-Some.argument.now c.place_of-before.result) (sym op) (rw v at c.place_of-before.ensures.place)) in
    let frames = ap reverse (c.in_ok-go_in.ensures.frames ∙ ap (λ fs. fs ++ f ∷ []) c.in_ok-leave_out.ensures.frames) ∙ reverse-append m.frames.items (f ∷ []) in
    subst (λ u. IsEntered K k (data_of K.over m) (data_of K.over n) c.args.term.now c.args.number u) (sym c.in_ok-argument.ensures)
    (arrives K c.args.facts.now run k (data_of K.over m) c.args.term.now xs f c.args.number c.in-Some.argument.now os ys h is new at left (data_of K.over n) c.place_of-before.result long place bound
    frames (c.in_ok-go_in.ensures.done ∙ d) (c.in_ok-go_in.ensures.jobs ∙ j) (c.in_ok-go_in.ensures.values ∙ ap (λ t. t.values) c.in_ok-leave_out.ensures.kept) (c.in_ok-go_in.ensures.moves K.over ∙ ap (λ t. moves K.over t ++ into (suc c.place_of-before.result) ∷ []) c.in_ok-leave_out.ensures.kept))
