use Rattle.std.proofs.Common.{◌≡◌, [], ◌++◌, false, codes, subst, ap, ◌∙◌, refl}
use Rattle.mw_prooftext.specs.Told.{braced, IsTold}
use Rattle.mw_prooftext.proofs.Telling.{side_told, told_as, three_behind}
use Rattle.mw_prooftext.proofs.chains.Chain.with_side.Goals as goal

pub returns : goal.returns
returns c = λ M S Q may below outer s. (
  refl,
  λ head h.
      let chain = c.args.self in
      let side = c.args.side in
      let inner : IsTold M [] false side.text.items side.groups.items S = subst (λ b. IsTold M [] b side.text.items side.groups.items S) outer s.told in
      let told = side_told M S Q may below inner h.told in
      let second : c.append.new.self.items ≡ c.extend_from_slice.new.self.items ++ side.text.items = c.in_ok-append.ensures.items ∙ ap (λ (t : _). c.extend_from_slice.new.self.items ++ t.items) c.into_text-text.ensures in
      let text : c.extend_from_slice-2.new.self.items ≡ chain.groups.items ++ braced side.text.items =
      three_behind chain.groups.items (codes " {") side.text.items (codes " }") c.extend_from_slice.new.self.items c.append.new.self.items c.extend_from_slice-2.new.self.items c.in_ok-extend_from_slice.ensures.items second c.in_ok-extend_from_slice-2.ensures.items in
      record {
        place = record { opens = h.place.opens; hand = h.place.hand; orderly = h.place.orderly };
        told = told_as M chain.text.items chain.text.items c.extend_from_slice-2.new.self.items (chain.groups.items ++ braced side.text.items) refl text told;
      },
)
