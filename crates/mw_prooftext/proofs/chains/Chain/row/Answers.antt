use Rattle.std.proofs.Common.{◌≡◌, false, sym, subst, refl}
use Rattle.mw_logic.specs.Term.{RawTerm}
use Rattle.mw_logic.specs.Signature.{Signature}
use Rattle.mw_logic.specs.Module.{Module}
use Rattle.mw_logic.specs.Proof.{row}
use Rattle.mw_logic.specs.NormalForm.{normal_form}
use Rattle.mw_redex.specs.Replaced.{ReplacesAt}
use Rattle.mw_deduction.specs.Runs.{by_row}
use Rattle.mw_deduction.specs.Replay.{whole, replacing}
use Rattle.mw_spot.specs.Spots.{TakesPart}
use Rattle.mw_spot.specs.Walks.{IsAt}
use Rattle.mw_prooftext.specs.Grounds.{spot_of}
use Rattle.mw_prooftext.specs.Texts.{built_text}
use Rattle.mw_prooftext.specs.Told.{item_start, item_end}
use Rattle.mw_prooftext.proofs.Telling.{row_told, told_as, three_behind}
use Rattle.mw_prooftext.proofs.chains.Chain.row.Goals as goal

pub returns : goal.returns
returns c = λ S stands may. (
  refl,
  λ head h.
      let M : Module = c.args.context.now in
      let sig : Signature = M.signature in
      let chain = c.args.self in
      let place = c.in_ok-place.place in
      let t : RawTerm = c.args.term.now in
      let f : c.facts.result.now ≡ sig = c.facts.ensures in
      let at_facts : IsAt c.facts.result.now chain.walk S = subst (λ g. IsAt g chain.walk S) (sym f) h.place in
      let found = c.in_ok-place.ensures.there M S false may.form may.result (sym f) at_facts stands may.may in
      let there : ReplacesAt sig false S.hand (normal_form sig may.result) place.path place.take (whole sig S.opens S.hand) (whole sig S.opens (normal_form sig may.result)) =
      subst (λ g. ReplacesAt g false S.hand (normal_form g may.result) place.path place.take (whole g S.opens S.hand) (whole g S.opens (normal_form g may.result))) f found in
      let spotted : ReplacesAt sig false S.hand t place.path place.take (whole sig S.opens S.hand) (whole sig S.opens t) =
      subst (λ x. ReplacesAt sig false S.hand x place.path place.take (whole sig S.opens S.hand) (whole sig S.opens x)) may.is there in
      let takes : TakesPart place.path place.take (whole sig S.opens S.hand) =
      subst (λ g. TakesPart place.path place.take (whole g S.opens S.hand)) f (c.in_ok-place.ensures.part M S false may.form may.result (sym f) at_facts stands may.may) in
      let told = row_told M c.shows.ensures.signature.accepted S (spot_of place) c.in_ok-write_built.ensures.narrow stands may spotted takes h.told in
      record {
        place = c.put.ensures sig S (replacing sig row by_row t S) h.place refl (sym c.in_ok-copy.ensures);
        told = told_as M c.end_item.new.text.items _ c.end_item.new.groups.items _ (three_behind chain.text.items (item_start chain.outer) (built_text (spot_of place)) (item_end chain.outer chain.groups.items) _ _ _ c.in_ok-begin_item.ensures c.in_ok-write_built.ensures.written c.in_ok-end_item.ensures.text) c.in_ok-end_item.ensures.groups told;
      },
)
