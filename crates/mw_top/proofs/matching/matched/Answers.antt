use Rattle.std.proofs.Common.{rules, ◌≡◌, ◌∙◌, Bool, [], length, nat_eq, ap, sym, subst}
use Rattle.std.proofs.lemmas.Bool.{eqb-true, eq-eqb}
use Rattle.mw_logic.specs.Signature.{Signature, IsRawTerm}
use Rattle.mw_logic.specs.NormalForm.{normal_form}
use Rattle.mw_logic.specs.Module.{Module}
use Rattle.mw_least.specs.Workable.{IsWorkable}
use Rattle.mw_match.specs.Listing.{AreListed, HaveCanonicalValues}
use Rattle.mw_block.specs.Matches.{match_block}
use Rattle.mw_block.specs.Notes.{noted}
use Rattle.mw_top.specs.Matches.{match_word}
use Rattle.mw_top.proofs.Answering.{if_ok}
use Rattle.mw_top.proofs.Valued.{all_admitted}
use Rattle.mw_top.proofs.matching.matched.Goals as goal

pub returns : goal.returns
returns c = λ p t raw pattern subject admitted.
    let a = c.args.accepted.now in
    let sig : Signature = a.module.signature in
    let found = c.in_ok-found.found.items in
    let limited : Bool = nat_eq c.len.result c.args.options.max in
    let here : c.context-context.result.now.signature ≡ sig = ap (λ (M : Module). M.signature) c.context-context.ensures in
    let work : IsWorkable a.module = subst IsWorkable c.context-context.ensures c.shows.ensures in
    let listed = c.in_ok-found.ensures.all p (subst (λ (s : Signature). IsRawTerm s p) (sym here) raw) (pattern ∙ ap (λ (s : Signature). normal_form s p) (sym here)) in
    let values = c.in_ok-found.ensures.values p (subst (λ (s : Signature). IsRawTerm s p) (sym here) raw) (pattern ∙ ap (λ (s : Signature). normal_form s p) (sym here)) in
    let listed_here : AreListed sig c.args.inside p c.args.sides.now.subject [] c.args.options.max found = subst (λ (s : Signature). AreListed s c.args.inside p c.args.sides.now.subject [] c.args.options.max found) here listed in
    let valued : HaveCanonicalValues sig found = subst (λ (s : Signature). HaveCanonicalValues s found) here values in
    let size : length found ≡ c.len.result = search rules in
    if_ok c.noted.result c.noted.ensures
    (λ text is. record {
      solutions = found;
      listed = subst (λ u. AreListed sig c.args.inside p u [] c.args.options.max found) subject listed_here;
      values = all_admitted sig work.signature.accepted work.signature.well_sorted c.args.inside p c.args.sides.now.subject c.args.options.max found raw admitted listed_here valued;
      limited = limited;
      reached = (λ h. size ∙ eqb-true c.len.result c.args.options.max h, λ e. eq-eqb c.len.result c.args.options.max (sym size ∙ e));
      written = is ∙ ap (noted c.args.options.proof) (c.in_ok-block.ensures
          ∙ ap (λ w. match_block w c.signature.result.now c.name.result.now c.args.sides.now.pattern c.args.sides.now.subject c.as_slice.result.now limited) c.word_text.ensures
          ∙ ap (λ (s : Signature). match_block (match_word c.args.inside) s c.name.result.now c.args.sides.now.pattern c.args.sides.now.subject c.as_slice.result.now limited) (c.signature.ensures ∙ here)
          ∙ ap (λ n. match_block (match_word c.args.inside) sig n c.args.sides.now.pattern c.args.sides.now.subject c.as_slice.result.now limited) c.name.ensures
          ∙ ap (λ q. match_block (match_word c.args.inside) sig a.name q c.args.sides.now.subject c.as_slice.result.now limited) pattern
          ∙ ap (λ u. match_block (match_word c.args.inside) sig a.name (normal_form sig p) u c.as_slice.result.now limited) subject
          ∙ ap (λ xs. match_block (match_word c.args.inside) sig a.name (normal_form sig p) (normal_form sig t) xs limited) c.as_slice.ensures.value);
    })
