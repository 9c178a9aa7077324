use Rattle.std.proofs.Common.{ap, sym, arith, ◌∙◌, ◌≡◌, ◌∷◌, [], ◌++◌, ◌-◌, min, length, take, unwrap_or, slice_get}
use Rattle.std.proofs.lemmas.List.{append-nil}
use Rattle.mw_logic.specs.Term.{join}
use Rattle.mw_logic.specs.Terms.{terms_of}
use Rattle.mw_logic.proofs.Pushed.{terms_of-append}
use Rattle.mw_arguments.specs.Places.{chosen, others}
use Rattle.mw_frames.specs.Taking.{waiting_normal}
use Rattle.mw_frames.proofs.LeftOver.{taken_behind, left_together, left_apart}
use Rattle.mw_frames.proofs.firing.leave_out.Goals as goal

pub returns-then-comm-clause-taken : goal.returns-then-comm-clause-taken
returns-then-comm-clause-taken c = λ k ks is low.
    let first : c.unwrap_or-first.result ≡ k = c.unwrap_or-first.ensures ∙ ap (λ o. unwrap_or o 0) (c.copied.ensures ∙ c.first.ensures.value ∙ ap (λ ns. slice_get ns 0) is) in
    let at : c.min-at.result ≡ min (k - 1) (length c.args.args.items) = omega (arith, first) in
    c.in_ok-taken.ensures.taken ∙ ap (λ n. chosen n c.args.numbers.now (terms_of c.in_ok-behind.behind.items)) first
    ∙ ap (λ ns. chosen k ns (terms_of c.in_ok-behind.behind.items)) is ∙ ap (λ us. chosen k (k ∷ ks) (terms_of us)) c.in_ok-behind.ensures.tail
    ∙ taken_behind k ks c.args.args.items c.min-at.result at low

pub returns-clause-taken : goal.returns-clause-taken
returns-clause-taken c = λ k ks is low.
    let first : c.unwrap_or-first.result ≡ k = c.unwrap_or-first.ensures ∙ ap (λ o. unwrap_or o 0) (c.copied.ensures ∙ c.first.ensures.value ∙ ap (λ ns. slice_get ns 0) is) in
    let at : c.min-at.result ≡ min (k - 1) (length c.args.args.items) = omega (arith, first) in
    c.in_ok-taken-2.ensures.taken ∙ ap (λ n. chosen n c.args.numbers.now (terms_of c.in_ok-behind.behind.items)) first
    ∙ ap (λ ns. chosen k ns (terms_of c.in_ok-behind.behind.items)) is ∙ ap (λ us. chosen k (k ∷ ks) (terms_of us)) c.in_ok-behind.ensures.tail
    ∙ taken_behind k ks c.args.args.items c.min-at.result at low

pub returns-then-comm-clause-left : goal.returns-then-comm-clause-left
returns-then-comm-clause-left c = λ sig f k ks comm is.
    let first : c.unwrap_or-first.result ≡ k = c.unwrap_or-first.ensures ∙ ap (λ o. unwrap_or o 0) (c.copied.ensures ∙ c.first.ensures.value ∙ ap (λ ns. slice_get ns 0) is) in
    let at : c.min-at.result ≡ min (k - 1) (length c.args.args.items) = omega (arith, first) in
    let d0 = c.args.machine.now.done.items in
    let d1 = c.append.new.self.items in
    let one = ap terms_of (c.in_ok-append.ensures.items ∙ ap (λ us. d0 ++ us) c.in_ok-behind.ensures.items) ∙ terms_of-append d0 (take c.min-at.result c.args.args.items) in
    let two = c.in_ok-taken.ensures.left ∙ ap (λ n. join (terms_of d1) (others n c.args.numbers.now (terms_of c.in_ok-behind.behind.items))) first
    ∙ ap (λ ns. join (terms_of d1) (others k ns (terms_of c.in_ok-behind.behind.items))) is ∙ ap (λ us. join (terms_of d1) (others k (k ∷ ks) (terms_of us))) c.in_ok-behind.ensures.tail in
    let (os, d, l) = left_together sig f k ks c.args.args.items c.min-at.result at (sym comm ∙ c.if-comm.true) d0 d1 c.set_apart.new.found.items one two in
    (os, [], d, sym (append-nil c.args.machine.now.jobs.items), l)

pub returns-clause-left : goal.returns-clause-left
returns-clause-left c = λ sig f k ks comm is.
    let first : c.unwrap_or-first.result ≡ k = c.unwrap_or-first.ensures ∙ ap (λ o. unwrap_or o 0) (c.copied.ensures ∙ c.first.ensures.value ∙ ap (λ ns. slice_get ns 0) is) in
    let at : c.min-at.result ≡ min (k - 1) (length c.args.args.items) = omega (arith, first) in
    let d0 = c.args.machine.now.done.items in
    let one = ap terms_of (c.in_ok-append.ensures.items ∙ ap (λ us. d0 ++ us) c.in_ok-behind.ensures.items) ∙ terms_of-append d0 (take c.min-at.result c.args.args.items) in
    let (us, j, two) = c.in_ok-taken-2.ensures.left in
    let e = two ∙ ap (λ n. others n c.args.numbers.now (terms_of c.in_ok-behind.behind.items)) first
    ∙ ap (λ ns. others k ns (terms_of c.in_ok-behind.behind.items)) is ∙ ap (λ us. others k (k ∷ ks) (terms_of us)) c.in_ok-behind.ensures.tail in
    let (os, d, l) = left_apart sig f k ks c.args.args.items c.min-at.result at (sym comm ∙ c.if-comm.false) d0 c.append.new.self.items us one e in
    (os, waiting_normal us, d, j, l)
