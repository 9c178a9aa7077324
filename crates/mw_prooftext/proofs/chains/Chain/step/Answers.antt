use Rattle.std.proofs.Common.{◌≡◌, ◌<◌, ◌^◌, ◌++◌, sym, subst, refl, ap, ◌∙◌, map, arith}
use Rattle.std.proofs.lemmas.Option.{same_Some}
use Rattle.std.specs.List.{zip}
use Rattle.mw_logic.specs.Term.{RawTerm}
use Rattle.mw_logic.specs.Signature.{Signature, at_number}
use Rattle.mw_logic.specs.Substitution.{instance}
use Rattle.mw_logic.specs.Parts.{nested}
use Rattle.mw_logic.specs.Module.{Module, Statement}
use Rattle.mw_logic.specs.Proof.{replacement}
use Rattle.mw_logic.specs.NormalForm.{normal_form}
use Rattle.mw_redex.specs.Replaced.{ReplacesAt}
use Rattle.mw_deduction.specs.Runs.{by_statement}
use Rattle.mw_deduction.specs.Replay.{whole, replacing, becomes}
use Rattle.mw_deduction.proofs.MoveStands.{becomes_is}
use Rattle.mw_spot.specs.Spots.{TakesPart}
use Rattle.mw_spot.specs.Walks.{IsAt}
use Rattle.mw_prooftext.specs.Grounds.{spot_of}
use Rattle.mw_prooftext.specs.Texts.{step_text}
use Rattle.mw_prooftext.specs.Told.{item_start, item_end}
use Rattle.mw_prooftext.proofs.AdmittedValues.{are_ground}
use Rattle.mw_prooftext.proofs.Telling.{step_told, told_as, three_behind}
use Rattle.mw_prooftext.proofs.chains.Chain.step.Goals as goal

pub write_step-requires : goal.write_step-requires
write_step-requires c = let a = c.requires in record { ground = are_ground c.args.context.now c.shows.ensures a.stand a.standing c.args.number a.rule a.subst c.args.values.now a.may }

pub returns : goal.returns
returns c = λ S r s stands may. (
  refl,
  λ head h.
      let M : Module = c.args.context.now in
      let sig : Signature = M.signature in
      let ok = c.shows.ensures.signature.accepted in
      let chain = c.args.self in
      let place = c.in_ok-place.place in
      let e : Statement = may.statement in
      let d : Statement = c.in-Some.statement.now in
      let t : RawTerm = becomes M c.args.number s S.hand in
      let same : d ≡ e = same_Some d e (c.in-Some.ensures ∙ ap (λ es. at_number es c.args.number) c.statements.ensures ∙ may.is_there) in
      let y : t ≡ normal_form sig (instance s e.right) = becomes_is M ok c.args.number s S.hand e may.is_there in
      let comes : t ≡ c.in_ok-term.term =
      y ∙ ap (λ q. normal_form sig (instance q e.right)) may.values.are ∙ ap (λ (x : Statement). normal_form sig (instance (zip x.variables (map (nested sig) c.args.values.now)) x.right)) (sym same) ∙ sym c.in_ok-term.ensures in
      let f : c.facts.result.now ≡ sig = c.facts.ensures in
      let at_facts : IsAt c.facts.result.now chain.walk S = subst (λ g. IsAt g chain.walk S) (sym f) h.place in
      let found = c.in_ok-place.ensures.there M S r (instance s e.left) (instance s e.right) (sym f) at_facts stands may.may in
      let there : ReplacesAt sig r S.hand (normal_form sig (instance s e.right)) place.path place.take (whole sig S.opens S.hand) (whole sig S.opens (normal_form sig (instance s e.right))) =
      subst (λ g. ReplacesAt g r S.hand (normal_form g (instance s e.right)) place.path place.take (whole g S.opens S.hand) (whole g S.opens (normal_form g (instance s e.right)))) f found in
      let spotted : ReplacesAt sig r S.hand t place.path place.take (whole sig S.opens S.hand) (whole sig S.opens t) =
      subst (λ x. ReplacesAt sig r S.hand x place.path place.take (whole sig S.opens S.hand) (whole sig S.opens x)) (sym y) there in
      let takes : TakesPart place.path place.take (whole sig S.opens S.hand) =
      subst (λ g. TakesPart place.path place.take (whole g S.opens S.hand)) f (c.in_ok-place.ensures.part M S r (instance s e.left) (instance s e.right) (sym f) at_facts stands may.may) in
      let few : c.args.number < 2 ^ 32 = omega arith in
      let told = step_told M ok S (spot_of place) few c.in_ok-write_step.ensures.narrow stands may spotted takes h.told in
      let owise : c.statement.inside.owise ≡ d.owise = ap (λ (x : Statement). x.owise) c.statement.view_is in
      let words : step_text c.signature-signature.result.now d.owise c.args.number (spot_of place) c.args.values.now ≡ step_text sig e.owise c.args.number (spot_of place) c.args.values.now =
      ap (λ g. step_text g d.owise c.args.number (spot_of place) c.args.values.now) c.signature-signature.ensures ∙ ap (λ (x : Statement). step_text sig x.owise c.args.number (spot_of place) c.args.values.now) same in
      let written : c.write_step.new.text.items ≡ c.begin_item.new.text.items ++ step_text c.signature-signature.result.now c.statement.inside.owise c.args.number (spot_of place) c.args.values.now = c.in_ok-write_step.ensures.written in
      let placed : c.write_step.new.text.items ≡ c.begin_item.new.text.items ++ step_text sig e.owise c.args.number (spot_of place) c.args.values.now =
      written ∙ ap (λ o. c.begin_item.new.text.items ++ step_text c.signature-signature.result.now o c.args.number (spot_of place) c.args.values.now) owise ∙ ap (λ w. c.begin_item.new.text.items ++ w) words in
      record {
        place = c.put.ensures sig S (replacing sig (replacement c.args.number r s S.read.ready) (by_statement c.args.number s S.sides) t S) h.place refl comes;
        told = told_as M c.end_item.new.text.items _ c.end_item.new.groups.items _ (three_behind chain.text.items (item_start chain.outer) (step_text sig e.owise c.args.number (spot_of place) c.args.values.now) (item_end chain.outer chain.groups.items) c.begin_item.new.text.items c.write_step.new.text.items c.end_item.new.text.items c.in_ok-begin_item.ensures placed c.in_ok-end_item.ensures.text) c.in_ok-end_item.ensures.groups told;
      },
)
