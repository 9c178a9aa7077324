-- No form is empty, and none is a hole alone.
use Rattle.std.proofs.Common.{ℕ, ◌≡◌, ◌≢◌, ◌∙◌, ◌+◌, List, [], ◌∷◌, ◌++◌, length, Option, None, Some, option_map, IsFalse, refl, sym, ap, subst, inl, inr}
use Rattle.mw_logic.specs.Signature.{Signature, Operator, Gather}
use Rattle.mw_chart.specs.Spelling.{IsProduction, IsOpening, IsTable}
use Rattle.mw_chart.specs.declared.table.Table.{Table}
use Rattle.mw_text.specs.Names.{NameItem, piece, hole, items_of, has_hole, pieces}
use Rattle.mw_text.specs.Mixfix.{IsHead}
use Rattle.mw_grammar.specs.declared.parts.Symbol.{Symbol}
use Rattle.mw_grammar.specs.declared.parts.Symbol.TheVariants.{Piece, Hole}
use Rattle.mw_grammar.specs.Notations.{Notation}
use Rattle.mw_grammar.specs.Notations.{pieces_as, prefix_parts, in_parentheses, bound, mixfix_parts, two_parts, IsNotationOf, is_prefix, is_mixfix, is_flattened, is_tail, IsNotation}
use Rattle.mw_grammar.specs.Readable.{IsReadable}
use Rattle.mw_grammar.specs.Compiled.{Leads, IsCompiled}
use Rattle.mw_grammar.proofs.Read.{leads_hole, leads_whole}

-- the parts of a form: a token first, or something behind a hole
abbrev pub Opens : List Symbol → Type 0
Opens [] = ⊥
Opens (Piece x ∷ parts) = Unit {0}
Opens (Hole kind below ∷ []) = ⊥
Opens (Hole kind below ∷ part ∷ parts) = Unit {0}

some_piece : (items : List NameItem) → IsFalse (has_hole items) → items ≢ [] → (x : List ℕ) × (xs : List (List ℕ)) × (pieces items ≡ x ∷ xs)
some_piece [] h some = absurd (some refl)
some_piece (piece x ∷ items) h some = (x, pieces items, refl)
some_piece (hole ∷ items) h some = let bad : ⊥ = (cc) in absurd bad

some_head : (o : Operator) (head : List (List ℕ)) → items_of o.spelling ≢ [] → IsHead o head → (x : List ℕ) × (xs : List (List ℕ)) × (head ≡ x ∷ xs)
some_head o head some (inl e) = (o.spelling, [], e)
some_head o head some (inr (none, e)) = let r = some_piece (items_of o.spelling) none some in (r.0, r.1, e ∙ r.2)

module _ (kind : ℕ → ℕ) where
  prefix_opens : (head : List (List ℕ)) (Ks : List ℕ) (x : List ℕ) (xs : List (List ℕ)) → head ≡ x ∷ xs → Opens (prefix_parts kind head Ks)
  prefix_opens head [] x xs e = subst (λ (h : List (List ℕ)). Opens (prefix_parts kind h [])) (sym e) tt
  prefix_opens head (K ∷ Ks) x xs e = subst (λ (h : List (List ℕ)). Opens (prefix_parts kind h (K ∷ Ks))) (sym e) tt

  mapped : (F : List Symbol → List Symbol) (r : Option (List Symbol)) (parts : List Symbol) → option_map F r ≡ Some parts → (ps : List Symbol) × (r ≡ Some ps) × (F ps ≡ parts)
  mapped F None parts e = let bad : ⊥ = (cc) in absurd bad
  mapped F (Some ps) parts e = (ps, refl, (cc))

  some_part : (p : ℕ) (i : NameItem) (items : List NameItem) (gs : List Gather) (Ks : List ℕ) (parts : List Symbol) → mixfix_parts kind p (i ∷ items) gs Ks ≡ Some parts
      → (x : Symbol) × (xs : List Symbol) × (parts ≡ x ∷ xs)
  some_part p (piece x) items gs Ks parts e = let r = mapped (λ ps. Piece x ∷ ps) (mixfix_parts kind p items gs Ks) parts e in (Piece x, r.0, sym r.2)
  some_part p hole items [] Ks parts e = let bad : ⊥ = (cc) in absurd bad
  some_part p hole items (g ∷ gs) [] parts e = let bad : ⊥ = (cc) in absurd bad
  some_part p hole items (g ∷ gs) (K ∷ Ks) parts e =
      let r = mapped (λ ps. Hole (kind K) (bound kind g p) ∷ ps) (mixfix_parts kind p items gs Ks) parts e in (Hole (kind K) (bound kind g p), r.0, sym r.2)

  mixfix_opens : (p : ℕ) (items : List NameItem) (gs : List Gather) (Ks : List ℕ) (parts : List Symbol) → items ≢ [] → items ≢ hole ∷ [] → mixfix_parts kind p items gs Ks ≡ Some parts → Opens parts
  mixfix_opens p [] gs Ks parts a b e = absurd (a refl)
  mixfix_opens p (piece x ∷ items) gs Ks parts a b e =
      let r = mapped (λ ps. Piece x ∷ ps) (mixfix_parts kind p items gs Ks) parts e in subst Opens r.2 tt
  mixfix_opens p (hole ∷ []) gs Ks parts a b e = absurd (b refl)
  mixfix_opens p (hole ∷ i ∷ items) [] Ks parts a b e = let bad : ⊥ = (cc) in absurd bad
  mixfix_opens p (hole ∷ i ∷ items) (g ∷ gs) [] parts a b e = let bad : ⊥ = (cc) in absurd bad
  mixfix_opens p (hole ∷ i ∷ items) (g ∷ gs) (K ∷ Ks) parts a b e =
      let r = mapped (λ ps. Hole (kind K) (bound kind g p) ∷ ps) (mixfix_parts kind p (i ∷ items) gs Ks) parts e in
      let s = some_part p i items gs Ks r.0 r.1 in
      subst Opens r.2 (subst (λ (ps : List Symbol). Opens (Hole (kind K) (bound kind g p) ∷ ps)) (sym s.2) tt)

  flattened_opens : (head : List (List ℕ)) (inner : List Symbol) (x : List ℕ) (xs : List (List ℕ)) → head ≡ x ∷ xs → Opens (pieces_as head ++ in_parentheses kind inner)
  flattened_opens head inner x xs e = subst (λ (h : List (List ℕ)). Opens (pieces_as h ++ in_parentheses kind inner)) (sym e) tt

  form_opens : (tail f : ℕ) (o : Operator) (F : Notation) → items_of o.spelling ≢ [] → items_of o.spelling ≢ hole ∷ [] → IsNotationOf kind tail f o F → Opens F.parts
  form_opens tail f o F a b (is_prefix head h) = let r = some_head o head a h in prefix_opens head o.args r.0 r.1 r.2
  form_opens tail f o F a b (is_mixfix parts h e) = mixfix_opens o.prec (items_of o.spelling) o.gather o.args parts a b e
  form_opens tail f o F a b (is_flattened head a2 h) = let r = some_head o head a h in flattened_opens head (two_parts kind o tail) r.0 r.1 r.2
  form_opens tail f o F a b (is_tail rest a2 h) = tt

  not_empty : (parts : List Symbol) → Opens parts → parts ≡ [] → ⊥
  not_empty parts o e = subst Opens e o

  not_alone : (parts rest : List Symbol) (k b : ℕ) → Opens parts → parts ≡ Hole k b ∷ rest → rest ≡ [] → ⊥
  not_alone parts rest k b o e n = subst Opens (e ∙ ap (λ ps. Hole k b ∷ ps) n) o

  -- where a form starts, there is no whole text, and no hole alone
  opening_at : (sig : Signature) (names : List (List ℕ)) (g : Table) → IsReadable sig → IsCompiled (length sig.sorts) (IsNotation kind sig) names g → (s op : ℕ) → IsProduction g s op → IsOpening g s
  opening_at sig names g ok compiled s op start =
      let f = compiled.sound start.0 start.1 start.2 in
      let of = f.1 in
      let named = ok.names of.0 of.1 of.2 in
      let opens = form_opens (length sig.sorts + of.0) of.0 of.1 f.0 named.0 named.1 of.3 in
      let leads = subst (λ (m : ℕ). Leads g.steps.items names m f.0.parts f.2.last) start.3 f.2.leads in (
        λ K p st. not_empty f.0.parts opens (leads_whole g.steps.items names s f.2.last K p f.0.parts leads st).0,
        λ K b next st k p wh.
            let r = leads_hole g.steps.items names s K b next f.2.last f.0.kind f.0.precedence f.0.parts leads st f.2.whole in
            not_alone f.0.parts r.0 K b opens r.1 (leads_whole g.steps.items names next f.2.last k p r.0 r.2 wh).0,
      )

  -- the table of a signature's forms has no form that is empty or a hole alone, and an index of its productions
  pub table_opens : (sig : Signature) (names : List (List ℕ)) (g : Table) → IsReadable sig → IsCompiled (length sig.sorts) (IsNotation kind sig) names g → IsTable g
  table_opens sig names g ok compiled = record {
    opening = opening_at sig names g ok compiled;
    indexed = compiled.indexed;
  }
