-- Marks that are said of names with holes, and of names without.
use Rattle.std.proofs.Common.{◌≡◌, ◌≢◌, ◌∙◌, ℕ, List, [], ◌∷◌, map, Bool, true, false, cond, Option, Some, refl, ap, arith}
use Rattle.mw_text.specs.Names.{NameItem, piece, hole, has_hole, count_holes}
use Rattle.mw_declare.specs.Grouping.{gather_of_mark, gather_of}

has_some : (items : List NameItem) → count_holes items ≢ 0 → has_hole items ≡ true
has_some [] n = absurd (n refl)
has_some (piece x ∷ items) n = has_some items n
has_some (hole ∷ items) n = refl

has_none : (items : List NameItem) → count_holes items ≡ 0 → has_hole items ≡ false
has_none [] e = refl
has_none (piece x ∷ items) e = has_none items e
has_none (hole ∷ items) e = absurd (omega (arith, e))

module _ (said : Option (List (List ℕ))) (marks : List (List ℕ)) (is : said ≡ Some marks) (assoc : Bool) (items : List NameItem) where
  pub with_holes : count_holes items ≢ 0 → gather_of said assoc items ≡ map gather_of_mark marks
  with_holes n = ap (λ o. gather_of o assoc items) is ∙ ap (λ b. cond b (map gather_of_mark marks) []) (has_some items n)

  pub without_holes : count_holes items ≡ 0 → gather_of said assoc items ≡ []
  without_holes e = ap (λ o. gather_of o assoc items) is ∙ ap (λ b. cond b (map gather_of_mark marks) []) (has_none items e)
