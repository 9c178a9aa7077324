-- Variables that a set holds.
use Rattle.std.proofs.Common.{◌≡◌, ◌∙◌, List, [], ◌∷◌, ◌++◌, map, Bool, true, false, ◌||◌, if◌then◌else◌, refl, ap}
use Rattle.std.specs.List.{list_any}
use Rattle.std.proofs.lemmas.List.{map-append}
use Rattle.indexmap.specs.IndexSet.{insert_key}
use Rattle.mw_logic.specs.Term.{Variable}
use Rattle.mw_logic.specs.Substitution.{same_variable}
use Rattle.mw_text.specs.declared.variables.Key.{Key}
use Rattle.mw_text.specs.Mentions.{seen_key, is_met, with_variable}

abbrev pub keys_held : List Key → List Variable
keys_held ks = map seen_key ks

module _ (eq : Key → Key → Bool) (same : (k l : Key) → eq k l ≡ same_variable (seen_key k) (seen_key l)) where
  pub held_any : (ks : List Key) (k : Key) → list_any (eq k) ks ≡ is_met (keys_held ks) (seen_key k)
  held_any [] k = refl
  held_any (l ∷ ks) k = ap (λ b. b || list_any (eq k) ks) (same k l) ∙ ap (λ b. same_variable (seen_key k) (seen_key l) || b) (held_any ks k)

  added : (ks : List Key) (k : Key) (b : Bool) → keys_held (if b then ks else ks ++ k ∷ []) ≡ (if b then keys_held ks else keys_held ks ++ seen_key k ∷ [])
  added ks k true = refl
  added ks k false = map-append seen_key ks (k ∷ [])

  pub held_insert : (ks : List Key) (k : Key) → keys_held (insert_key eq ks k) ≡ with_variable (keys_held ks) (seen_key k)
  held_insert ks k = added ks k (list_any (eq k) ks) ∙ ap (λ b. if b then keys_held ks else keys_held ks ++ seen_key k ∷ []) (held_any ks k)
