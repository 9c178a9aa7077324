-- What leads to a state still does as the states and names grow.
use Rattle.std.proofs.Common.{ℕ, ◌≡◌, ◌∙◌, List, [], ◌∷◌, ◌++◌, length, Some, sym, ap, subst, append_assoc, append-nil}
use Rattle.std.specs.List.{slice_get}
use Rattle.mw_chart.specs.declared.table.Next.{Next}
use Rattle.mw_chart.specs.declared.table.Next.TheVariants.{Token, Hole, Whole}
use Rattle.mw_chart.specs.declared.table.Production.{Production}
use Rattle.mw_chart.proofs.Lists.{get_left, get_last}
use Rattle.mw_grammar.specs.declared.parts.Symbol.{Symbol}
use Rattle.mw_grammar.specs.declared.parts.Symbol.TheVariants as part
use Rattle.mw_grammar.specs.Notations.{Notation}
use Rattle.mw_grammar.specs.Compiled.{IsNumber, Leads, there, past_piece, past_hole, IsProductionOf, Extends}
use Rattle.mw_grammar.proofs.Numbers.{number_grows}

pub get_grows : {X : Type 0} (xs ys : List X) (k : ℕ) (x : X) → Extends xs ys → slice_get xs k ≡ Some x → slice_get ys k ≡ Some x
get_grows xs ys k x (zs, e) h = ap (λ m. slice_get m k) e ∙ get_left xs zs k x h

pub leads_grow : (steps steps2 : List Next) (names names2 : List (List ℕ)) (s last : ℕ) (parts : List Symbol) → Extends steps steps2 → Extends names names2
    → Leads steps names s parts last → Leads steps2 names2 s parts last
leads_grow steps steps2 names names2 s last parts a b (there s2) = there s
leads_grow steps steps2 names names2 s last parts a b (past_piece s2 x next last2 name parts2 st num d) =
    past_piece s x next last name parts2 (get_grows steps steps2 s (Token x next) a st) (number_grows names names2 x name b num) (leads_grow steps steps2 names names2 next last parts2 a b d)
leads_grow steps steps2 names names2 s last parts a b (past_hole s2 kind below next last2 parts2 st d) =
    past_hole s kind below next last parts2 (get_grows steps steps2 s (Hole kind below next) a st) (leads_grow steps steps2 names names2 next last parts2 a b d)

pub production_grows : (steps steps2 : List Next) (names names2 : List (List ℕ)) (s : Production) (F : Notation) → Extends steps steps2 → Extends names names2 → IsProductionOf steps names s F → IsProductionOf steps2 names2 s F
production_grows steps steps2 names names2 s F a b h = record {
  operator = h.operator;
  last = h.last;
  leads = leads_grow steps steps2 names names2 s.state h.last F.parts a b h.leads;
  whole = get_grows steps steps2 h.last (Whole F.kind F.precedence) a h.whole;
}

-- a step that was pushed goes over its part
pub piece_leads : (steps steps2 : List Next) (names : List (List ℕ)) (step : Next) (x next state : ℕ) (name : List ℕ) (p : Symbol) → steps2 ≡ steps ++ step ∷ [] → step ≡ Token x next
    → p ≡ part.Piece name → state ≡ length steps → IsNumber names x name → (parts : List Symbol) (last : ℕ) → Leads steps2 names next parts last → Leads steps2 names state (p ∷ parts) last
piece_leads steps steps2 names step x next state name p e is q at num parts last d =
    subst (λ (m : Symbol). Leads steps2 names state (m ∷ parts) last) (sym q)
    (past_piece state x next last name parts (ap (λ m. slice_get m state) e ∙ ap (slice_get (steps ++ step ∷ [])) at ∙ get_last steps step ∙ ap (λ m. Some m) is) num d)

pub hole_leads : (steps steps2 : List Next) (names : List (List ℕ)) (step : Next) (kind below next state : ℕ) (p : Symbol) → steps2 ≡ steps ++ step ∷ [] → step ≡ Hole kind below next
    → p ≡ part.Hole kind below → state ≡ length steps → (parts : List Symbol) (last : ℕ) → Leads steps2 names next parts last → Leads steps2 names state (p ∷ parts) last
hole_leads steps steps2 names step kind below next state p e is q at parts last d =
    subst (λ (m : Symbol). Leads steps2 names state (m ∷ parts) last) (sym q)
    (past_hole state kind below next last parts (ap (λ m. slice_get m state) e ∙ ap (slice_get (steps ++ step ∷ [])) at ∙ get_last steps step ∙ ap (λ m. Some m) is) d)

pub Extends-trans : {X : Type 0} (xs ys zs : List X) → Extends xs ys → Extends ys zs → Extends xs zs
Extends-trans xs ys zs (a, e) (b, f) = (a ++ b, f ∙ ap (λ m. m ++ b) e ∙ append_assoc xs a b)

pub Extends-same : {X : Type 0} (xs : List X) → Extends xs xs
Extends-same xs = ([], sym (append-nil xs))
