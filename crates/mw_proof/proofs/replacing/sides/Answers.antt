use Rattle.std.proofs.Common.{◌≡◌, ◌∙◌, [], ◌∷◌, ◌++◌, sym, subst}
use Rattle.std.proofs.lemmas.List.{nil_from_length}
use Rattle.mw_trail.specs.Tracks.{moves}
use Rattle.mw_proof.specs.Replacing.{AreSides}
use Rattle.mw_proof.proofs.Written.{sides_more, waits_less, none_waits}
use Rattle.mw_proof.proofs.replacing.sides.Goals as goal

pub loop-inner-preserved : goal.loop-inner-preserved
loop-inner-preserved c = λ M.
    let (ds, e, h) = c.loop-inner.invariant M in
    let d = c.in-Some.inner in (
      ds ++ d ∷ [],
      waits_less c.reverse.new.self.items c.loop-inner.waiting.items c.pop.new.self.items ds d e c.in-Some.ensures.items,
      sides_more M ds d (moves M c.loop-inner.trail) (moves M c.in_ok-trail.trail) h (c.in_ok-trail.ensures M),
    )

pub returns : goal.returns
returns c = λ M.
    let (ds, e, h) = c.loop-inner.invariant M in
    let empty : c.loop-inner.waiting.items ≡ [] = nil_from_length c.loop-inner.waiting.items (sym c.loop-inner.waiting.ok.0 ∙ c.in_default.ensures.cases.0) in
    let all = none_waits c.args.evidence.items c.reverse.new.self.items c.loop-inner.waiting.items ds c.reverse.ensures.items empty e in
    subst (λ xs. AreSides M xs (moves M c.loop-inner.trail)) all h
