-- Names that a set holds.
use Rattle.std.proofs.Common.{◌≡◌, ◌∙◌, ◌+◌, ◌-◌, Some, option_map, get_or, cond, not, ℕ, zero, suc, List, [], ◌∷◌, ◌++◌, ◌≤◌, length, take, map, Bool, true, false, ◌||◌, bytes_eq, position, if◌then◌else◌, refl, ap, arith}
use Rattle.std.specs.List.{list_any, position_or_len}
use Rattle.std.specs.Global.{Vec}
use Rattle.std.proofs.Math.Numerals.{sub-one}
use Rattle.std.proofs.lemmas.List.{map-append, length-map}
use Rattle.std.proofs.lemmas.Option.{slice_get-map, slice_get_read}
use Rattle.indexmap.specs.IndexSet.{insert_key}
use Rattle.mw_logic.specs.Signature.{at_number}
use Rattle.mw_text.specs.Interned.{Name, is_among, with_name}

abbrev pub names_held : List (Vec ℕ) → List Name
names_held ks = map (λ k. k.items) ks

pub held_any : (ks : List (Vec ℕ)) (n : Name) → list_any (λ k. bytes_eq n k.items) ks ≡ is_among (names_held ks) n
held_any [] n = refl
held_any (k ∷ ks) n = ap (λ b. bytes_eq n k.items || b) (held_any ks n)

added : (ks : List (Vec ℕ)) (k : Vec ℕ) (b : Bool) → names_held (if b then ks else ks ++ k ∷ []) ≡ (if b then names_held ks else names_held ks ++ k.items ∷ [])
added ks k true = refl
added ks k false = map-append (λ (v : Vec ℕ). v.items) ks (k ∷ [])

pub held_insert : (ks : List (Vec ℕ)) (k : Vec ℕ) → names_held (insert_key (λ a b. bytes_eq a.items b.items) ks k) ≡ with_name (names_held ks) k.items
held_insert ks k =
    added ks k (list_any (λ b. bytes_eq k.items b.items) ks) ∙ ap (λ b. if b then names_held ks else names_held ks ++ k.items ∷ []) (held_any ks k.items)

pub held_front : (ks : List (Vec ℕ)) (i : ℕ) → length ks ≤ i → map (λ k. k.items) (take i ks) ≡ names_held ks
held_front [] zero h = refl
held_front [] (suc i) h = refl
held_front (k ∷ ks) zero h = absurd (omega arith)
held_front (k ∷ ks) (suc i) h = ap (λ ns. k.items ∷ ns) (held_front ks i (omega arith))

held_place : (ks : List (Vec ℕ)) (n : Name) → position_or_len (λ k. bytes_eq n k.items) ks ≡ position_or_len (bytes_eq n) (names_held ks)
held_place [] n = refl
held_place (k ∷ ks) n = ap (λ i. cond (not (bytes_eq n k.items)) (1 + i) 0) (held_place ks n)

pub held_position : (ks : List (Vec ℕ)) (n : Name) → position (λ k. bytes_eq n k.items) ks ≡ position (bytes_eq n) (names_held ks)
held_position ks n =
    let place = held_place ks n in
    let size = length-map ks (λ (k : Vec ℕ). k.items) in
    rw (place, ← size) refl

-- the name of a number, from 1
pub held_name : (ks : List (Vec ℕ)) (number : ℕ) (v : Vec ℕ) → 1 ≤ number → number ≤ length (names_held ks) → v ≡ get_or ks (number - 1) v → at_number (names_held ks) number ≡ Some v.items
held_name ks zero v first last at = absurd (omega (arith, first))
held_name ks (suc i) v first last at =
    let size = length-map ks (λ (k : Vec ℕ). k.items) in
    let place : v ≡ get_or ks i v = rw sub-one at at in
    slice_get-map (λ (k : Vec ℕ). k.items) ks i ∙ ap (option_map (λ (k : Vec ℕ). k.items)) (slice_get_read ks (length ks) i v refl (omega (arith, last, size)) place)
