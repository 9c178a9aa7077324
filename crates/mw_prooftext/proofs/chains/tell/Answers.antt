use Rattle.std.proofs.Common.{◌≡◌, ◌++◌, [], ◌∷◌, List, reverse, sym, subst, ap, ◌∙◌, ⊎_elim}
use Rattle.std.specs.Option.{option_to_list}
use Rattle.mw_logic.specs.Module.{Module}
use Rattle.mw_deduction.specs.Replay.{Move, play, IsMove}
use Rattle.mw_trail.specs.declared.trail.Item.{Item}
use Rattle.mw_trail.specs.Tracks.{move_of}
use Rattle.mw_prooftext.specs.declared.chains.Chain.{Chain}
use Rattle.mw_prooftext.specs.Chains.{AreChains}
use Rattle.mw_prooftext.proofs.ChainLaws.{IsInside, told_inside, told_ended}
use Rattle.mw_prooftext.proofs.chains.tell.Goals as goal

pub returns-in_ok-push-in-End : goal.returns-in_ok-push-in-End
returns-in_ok-push-in-End c = λ head B s.
    let M : Module = c.args.context.now in
    let old : List Chain = c.args.chains.now.items in
    let new : List Chain = c.push-in-End.new.self.items in
    let rest : List Chain = c.pop.new.self.items in
    let low : List Chain = c.pop-in-End.new.self.items in
    let chain : Chain = c.in-Some.chain in
    let below : Chain = c.in-Some-pop.below in
    let e : old ≡ rest ++ chain ∷ [] = c.pop.ensures.items ∙ ap (λ o. rest ++ option_to_list o) c.in-Some.is in
    let f : rest ≡ low ++ below ∷ [] = c.pop-in-End.ensures.items ∙ ap (λ o. low ++ option_to_list o) c.in-Some-pop.is in
    subst (λ (i : Item). IsMove M (move_of M i c.args.values.now c.args.numbers.now) B → AreChains M head (reverse old) B → AreChains M head (reverse new) (play M (move_of M i c.args.values.now c.args.numbers.now) B)) (sym c.in-End.is)
    (λ i h. told_ended M head chain below c.in_ok-below-in-End.below old rest low new B i (λ S Q may below_it outer side. c.in_ok-below-in-End.ensures M S Q may below_it outer side) e f c.in_ok-push-in-End.ensures.items h)

pub returns-in_ok-push-in-Into : goal.returns-in_ok-push-in-Into
returns-in_ok-push-in-Into c = λ head B s i h.
    let M : Module = c.args.context.now in
    let m : Move = move_of M c.args.item c.args.values.now c.args.numbers.now in
    let old : List Chain = c.args.chains.now.items in
    let rest : List Chain = c.pop.new.self.items in
    let chain : Chain = c.in-Some.chain in
    let P : Item → Type 0 = λ x. IsInside (move_of M x c.args.values.now c.args.numbers.now) in
    let e : old ≡ rest ++ chain ∷ [] = c.pop.ensures.items ∙ ap (λ o. rest ++ option_to_list o) c.in-Some.is in
    let n : IsInside m = ⊎_elim (λ q. subst P (sym q.1) tt) (⊎_elim (λ q. subst P (sym q.1) tt) (⊎_elim (λ q. subst P (sym q) tt) (⊎_elim (λ q. subst P (sym q.2) tt) (λ q. subst P (sym q) tt)))) c.in-Into.is in
    told_inside M head m chain c.in_ok-chain-in-Into.chain old rest c.push-in-Into.new.self.items B s i n (λ S st may. c.in_ok-chain-in-Into.ensures S st may) e c.in_ok-push-in-Into.ensures.items h
