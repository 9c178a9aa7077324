use Rattle.std.proofs.Common.{◌≡◌, ◌∙◌, ℕ, List, [], Some, codes, length, sym, ap, subst, inl, inr, arith}
use Rattle.std.specs.List.{slice_get}
use Rattle.mw_logic.specs.Signature.{Signature}
use Rattle.mw_chart.specs.declared.table.Production.{Production}
use Rattle.mw_chart.specs.declared.table.Next.TheVariants.{Whole}
use Rattle.mw_grammar.specs.Notations.{Notation}
use Rattle.mw_grammar.specs.Readable.{kind_in}
use Rattle.mw_grammar.specs.Notations.{IsNotation}
use Rattle.mw_grammar.specs.Compiled.{IsProductionOf, IsCompiled}
use Rattle.mw_grammar.proofs.Made.{get_grows}
use Rattle.mw_grammar.proofs.Numbers.{number_grows}
use Rattle.mw_grammar.proofs.compile.compile.Goals as goal

nothing_there : (ss : List Production) (n : ℕ) (s : Production) → ss ≡ [] → slice_get ss n ≡ Some s → ⊥
nothing_there ss n s e h = let bad : slice_get [] n ≡ Some s = sym (ap (λ (xs : List Production). slice_get xs n) e) ∙ h in cc

pub returns-clause-table : goal.returns-clause-table
returns-clause-table c =
    let opened = number_grows c.token.new.names c.token-2.new.names c.in_ok-open.open (codes "(") c.in_ok-close.ensures.names c.in_ok-open.ensures.number in
    let added = c.in_ok-add_all.ensures in
    let made = c.in_ok-table.ensures in
    let Fs : Notation → Type 0 = IsNotation (kind_in c.args.kinds.now) c.args.signature.now in
    let sound : (n : ℕ) (s : Production) → slice_get c.add_all.new.making.productions.items n ≡ Some s → (F : Notation) × Fs F × IsProductionOf c.add_all.new.making.steps.items c.add_all.new.names s F =
    λ n s got. elim (added.sound n s got) [ inl h ↦ absurd (nothing_there c.in_ok-making.making.productions.items n s c.in_ok-making.ensures.productions h) | inr h ↦ h ] in
    let count : length c.as_slice-sorts.result.now ≡ length c.args.signature.now.sorts = ap length (c.as_slice-sorts.ensures ∙ ap (λ (s : Signature). s.sorts) c.signature.view_is) in
    subst (λ (n : ℕ). IsCompiled n Fs c.add_all.new.names c.in_ok-table.table) count (record {
      sound = rw (made.steps, made.productions) sound;
      complete = rw (made.steps, made.productions) added.complete;
      kinds = λ K h. rw made.steps (get_grows c.in_ok-making.making.steps.items c.add_all.new.making.steps.items K (Whole K 0) added.steps (c.in_ok-making.ensures.kinds K (omega arith)));
      groups = rw made.groups c.in_ok-groups.ensures;
      opens = rw made.parentheses.0 (number_grows c.token-2.new.names c.add_all.new.names c.in_ok-open.open (codes "(") added.names opened);
      closes = rw made.parentheses.1 (number_grows c.token-2.new.names c.add_all.new.names c.in_ok-close.close (codes ")") added.names c.in_ok-close.ensures.number);
      of_terms = made.kinds;
      indexed = made.indexed;
    })
