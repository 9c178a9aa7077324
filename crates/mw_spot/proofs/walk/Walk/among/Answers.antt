use Rattle.std.proofs.Common.{◌≡◌, ◌∙◌, ◌-◌, ◌∷◌, List, ℕ, min, take, drop, length, reverse, get_or, ap, subst, sym}
use Rattle.mw_logic.specs.Term.{apply}
use Rattle.mw_logic.specs.Terms.{terms_of, args_of}
use Rattle.mw_logic.specs.Parts.{number_of_terms}
use Rattle.mw_redex.proofs.Exchanged.{first_and_rest}
use Rattle.mw_deduction.specs.Replay.{into_several, MayGoAmong}
use Rattle.mw_arguments.specs.Places.{chosen, others}
use Rattle.mw_spot.specs.Walks.{IsAt}
use Rattle.mw_spot.proofs.Entering.{entered_among}
use Rattle.mw_spot.proofs.Calls.{pushed_first}
use Rattle.mw_spot.proofs.walk.Walk.among.Goals as goal

pub returns : goal.returns
returns c = λ sig S ok here k may.
    let f = c.in-Op.operator in
    let args = c.in_ok-args.args.items in
    let seen : c.args.self.now.hand ≡ apply f (terms_of c.in-Op.field-1.now) = ap (λ w. w.hand) (sym c.self.view_is) ∙ c.in-Op.ensures in
    let same : terms_of args ≡ terms_of c.in-Op.field-1.now = c.in_ok-args.ensures ∙ ap args_of (c.in_ok-take_hand.ensures.hand ∙ seen) in
    let is : c.args.self.now.hand ≡ apply f (terms_of args) = seen ∙ ap (apply f) (sym same) in
    let ns = c.args.numbers.now in
    let i = get_or ns 0 0 in
    let ks : List ℕ = take (length ns - 1) (drop 1 ns) in
    let first : ns ≡ i ∷ ks = first_and_rest ns c.in-len1-up.len_at_least in
    let o = c.in_ok-hand.level in
    let t = c.in_ok-hand.hand in
    let h = c.in_ok-hand.ensures in
    let opens : (o ∷ c.args.self.now.opens) ≡ reverse c.push.new.self.items =
    ap (λ os. o ∷ os) (sym (ap (λ w. w.opens) c.self-2.view_is ∙ c.in_ok-take_hand.ensures.opens)) ∙ sym (pushed_first c.self-2.inside.levels.items c.push.new.self.items o c.in_ok-push.ensures.items) in
    subst (λ os. IsAt sig (record { opens = os; hand = t }) (into_several sig ns S.hand S)) opens
    (subst (λ ns. IsAt sig (record { opens = o ∷ c.args.self.now.opens; hand = t }) (into_several sig ns S.hand S)) (sym first)
    (entered_among sig ok c.args.self.now S here k i ks (subst (λ ns. MayGoAmong sig ns S.hand) first may) f args is o t h.level.operator (h.level.others ∙ ap (λ ns. others 1 ns (terms_of args)) first)
    (subst (λ ns. number_of_terms o.before ≡ min (i - 1) (number_of_terms (others 1 ns (terms_of args)))) first h.level.before)
    (h.term ∙ ap (λ ns. apply f (chosen 1 ns (terms_of args))) first)))
