-- The parts of a mixfix form, item by item.
use Rattle.std.proofs.Common.{ℕ, zero, suc, ◌≡◌, ◌∙◌, ◌<◌, ◌⊎◌, ◌+◌, List, [], ◌∷◌, ◌++◌, length, map, drop, Option, None, Some, option_map, refl, sym, ap, inl, inr, arith, append_assoc, length-drop}
use Rattle.std.specs.List.{slice_get}
use Rattle.mw_logic.specs.Signature.{Gather}
use Rattle.mw_text.specs.Names.{NameItem, hole}
use Rattle.mw_grammar.specs.declared.parts.Symbol.{Symbol}
use Rattle.mw_grammar.specs.declared.parts.Symbol.TheVariants.{Hole}
use Rattle.mw_grammar.specs.Notations.{bound, mixfix_parts, mixing}

pub get-map : {A B : Type 0} (f : A → B) (xs : List A) (n : ℕ) (x : A) → slice_get xs n ≡ Some x → slice_get (map f xs) n ≡ Some (f x)
get-map f [] n x e = let bad : ⊥ = (cc) in absurd bad
get-map f (y ∷ xs) zero x e = let same : y ≡ x = (cc) in ap (λ m. Some (f m)) same
get-map f (y ∷ xs) (suc n) x e = get-map f xs n x e

-- the rest begins with what stands there
pub drop-got : {A : Type 0} (xs : List A) (n : ℕ) (x : A) → slice_get xs n ≡ Some x → drop n xs ≡ x ∷ drop (n + 1) xs
drop-got [] n x e = let bad : ⊥ = (cc) in absurd bad
drop-got (y ∷ xs) zero x e = let same : y ≡ x = (cc) in ap (λ m. m ∷ xs) same
drop-got (y ∷ xs) (suc n) x e =
    let move : suc n + 1 ≡ suc (n + 1) = omega arith in
    drop-got xs n x e ∙ ap (λ (m : ℕ). x ∷ drop m (y ∷ xs)) (sym move)

together : (parts : List Symbol) (x : Symbol) (r : Option (List Symbol)) → option_map (λ ps. (parts ++ x ∷ []) ++ ps) r ≡ option_map (λ ps. parts ++ ps) (option_map (λ ps. x ∷ ps) r)
together parts x None = refl
together parts x (Some ps) = ap (λ m. Some m) (append_assoc parts (x ∷ []) ps)

module _ (kind : ℕ → ℕ) where
  pub mixing_hole : (p : ℕ) (gs : List Gather) (Ks : List ℕ) (parts : List Symbol) (items : List NameItem) (n : ℕ) (g : Gather) (K : ℕ) → slice_get gs n ≡ Some g → slice_get Ks n ≡ Some K
      → mixing kind p gs Ks (parts ++ Hole (kind K) (bound kind g p) ∷ []) items (n + 1) ≡ mixing kind p gs Ks parts (hole ∷ items) n
  mixing_hole p gs Ks parts items n g K a b =
      together parts (Hole (kind K) (bound kind g p)) (mixfix_parts kind p items (drop (n + 1) gs) (drop (n + 1) Ks))
      ∙ ap (λ (m : List ℕ). option_map (λ ps. parts ++ ps) (mixfix_parts kind p (hole ∷ items) (g ∷ drop (n + 1) gs) m)) (sym (drop-got Ks n K b))
      ∙ ap (λ (m : List Gather). option_map (λ ps. parts ++ ps) (mixfix_parts kind p (hole ∷ items) m (drop n Ks))) (sym (drop-got gs n g a))

  none_behind : (p : ℕ) (parts : List Symbol) (gs : List Gather) (Ks : List ℕ) → (0 < length gs) ⊎ (0 < length Ks) → option_map (λ ps. parts ++ ps) (mixfix_parts kind p [] gs Ks) ≡ None
  none_behind p parts [] [] (inl h) = absurd (omega arith)
  none_behind p parts [] [] (inr h) = absurd (omega arith)
  none_behind p parts [] (K ∷ Ks) h = refl
  none_behind p parts (g ∷ gs) Ks h = refl

  pub mixing_end : (p : ℕ) (gs : List Gather) (Ks : List ℕ) (parts : List Symbol) (n : ℕ) → (n < length gs) ⊎ (n < length Ks) → mixing kind p gs Ks parts [] n ≡ None
  mixing_end p gs Ks parts n (inl h) = none_behind p parts (drop n gs) (drop n Ks) (inl (let l = length-drop n gs in omega (arith, l)))
  mixing_end p gs Ks parts n (inr h) = none_behind p parts (drop n gs) (drop n Ks) (inr (let l = length-drop n Ks in omega (arith, l)))

  same_parts : (r : Option (List Symbol)) → option_map (λ ps. [] ++ ps) r ≡ r
  same_parts None = refl
  same_parts (Some ps) = refl

  pub mixing_start : (p : ℕ) (gs : List Gather) (Ks : List ℕ) (items : List NameItem) → mixing kind p gs Ks [] items 0 ≡ mixfix_parts kind p items gs Ks
  mixing_start p gs Ks items = same_parts (mixfix_parts kind p items gs Ks)
