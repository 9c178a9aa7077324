use Rattle.std.proofs.Common.{◌≡◌, ◌∙◌, ◌-◌, Bool, ap, sym, subst, reverse, take, drop, length}
use Rattle.std.proofs.Math.Seq.{take-length}
use Rattle.std.proofs.lemmas.List.{length-drop}
use Rattle.mw_logic.proofs.Canonical.{IsCanonical}
use Rattle.mw_logic.specs.Term.{RawTerm}
use Rattle.mw_logic.specs.Module.{Module}
use Rattle.mw_logic.specs.NormalForm.{normal_form}
use Rattle.mw_deduction.specs.Replay.{Stand, whole, MayReplace}
use Rattle.mw_deduction.specs.Stands.{IsStanding}
use Rattle.mw_spot.specs.Walks.{IsAt}
use Rattle.mw_spot.specs.Spots.{StandsIn, ReplacesPart}
use Rattle.mw_spot.proofs.Climbed.{stands_there}
use Rattle.mw_spot.proofs.walk.Walk.spot.Goals as goal

pub returns : goal.returns
returns c =
    let sig = c.args.facts.now in
    let levels = c.as_slice-levels.result.now in
    let n = c.free-free.result in
    let W = c.args.self.now in
    let opens : reverse levels ≡ W.opens = ap reverse c.as_slice-levels.ensures.value ∙ ap (λ w. w.opens) c.self.view_is in
    let hand : c.in_ok-hand.hand ≡ W.hand = c.in_ok-hand.ensures ∙ ap (λ w. w.hand) c.self.view_is in
    let os = reverse (drop n levels) in
    let start = reverse c.new-spot.result.path.items in
    let begun = c.new-spot.result.take in
    let t = c.in_ok-hand.hand in
    let path = reverse c.climb.new.spot.path.items in
    let taken = c.climb.new.spot.take in
    let within : take (length levels - n) (drop n levels) ≡ drop n levels = ap (λ m. take m (drop n levels)) (sym (length-drop n levels)) ∙ take-length (drop n levels) in
    let replaces : (M : Module) (S : Stand) (by_rule : Bool) (w v : RawTerm) → M.signature ≡ sig → IsAt sig W S → IsStanding M S → MayReplace M by_rule S.opens S.hand w v
    → ReplacesPart sig by_rule S.hand (normal_form sig v) c.into_place.result.path c.into_place.result.take (whole sig S.opens S.hand) (whole sig S.opens (normal_form sig v)) =
    λ M S by_rule w v is here stands may.
    let x = normal_form sig v in
    let climbed = subst (λ ls. StandsIn sig by_rule (reverse ls) t → IsCanonical sig x → ReplacesPart sig by_rule S.hand x start begun t x → ReplacesPart sig by_rule S.hand x path taken (whole sig (reverse ls) t) (whole sig (reverse ls) x)) within
    (c.in_ok-climb.ensures by_rule S.hand x x) in
    stands_there M sig is c.shows.ensures W S by_rule w v here stands may levels n opens c.free-free.ensures.free start path c.into_place.result.path begun taken c.into_place.result.take
    (ap reverse c.new-spot.ensures.path) c.new-spot.ensures.take
    (subst (λ u. StandsIn sig by_rule os u → IsCanonical sig x → ReplacesPart sig by_rule S.hand x start begun u x → ReplacesPart sig by_rule S.hand x path taken (whole sig os u) (whole sig os x)) hand climbed)
    (c.into_place.ensures.path ∙ c.in_ok-pass.ensures.path) (c.into_place.ensures.take ∙ c.in_ok-pass.ensures.take) in
    record {
      there = λ M S by_rule w v is here stands may. (replaces M S by_rule w v is here stands may).there;
      part = λ M S by_rule w v is here stands may. (replaces M S by_rule w v is here stands may).part;
    }
