-- Units that a table holds, and one more.
use Rattle.std.proofs.Common.{◌≡◌, ◌≢◌, ◌∙◌, ℕ, suc, ◌+◌, ◌<◌, not, List, [], ◌∷◌, ◌++◌, map, flat_map, length, position, cond, false, true≢false, None, Some, option_map, bytes_eq, refl, sym, ap, inl, inr, subst, slice_get, arith}
use Rattle.std.specs.Global.{Vec}
use Rattle.std.specs.List.{position_or_len}
use Rattle.std.specs.Map.{lookup, keys_of}
use Rattle.std.proofs.lemmas.Option.{slice_get_within, slice_get-map}
use Rattle.std.proofs.lemmas.List.Quantifiers.{position-Some}
use Rattle.std.proofs.lemmas.Slice.Eq.{bytes_eq-Decides}
use Rattle.mw_logic.specs.Signature.{Member}
use Rattle.mw_module.specs.Units.{SeenLined}
use Rattle.mw_import.specs.declared.units.Kept.{Kept}
use Rattle.mw_import.specs.Flat.{FlatUnit, ImportOf, number_named, imports_of, brought_by, first_unit, IsFlat, AreAccepted}
use Rattle.mw_import.specs.Seen.{flat_unit, flat_units}
use Rattle.mw_logic.proofs.Members.{member-append}
use Rattle.mw_import.proofs.Lists.{flat_map-member, pushed_at, none_named}
use Rattle.mw_import.proofs.Gathered.{member_firsts}
use Rattle.mw_import.proofs.Brought.{member_brought, flat_closed}
use Rattle.mw_import.proofs.Flattened.{brought_kept}

-- the place of a name in the table is its unit's number
place_held : (n : List ℕ) (es : List (Vec ℕ × Kept)) → position_or_len (λ (k : Vec ℕ). bytes_eq n k.items) (keys_of es) ≡ position_or_len (λ (u : FlatUnit). bytes_eq n u.name) (flat_units es)
place_held n [] = refl
place_held n (e ∷ es) = ap (λ i. cond (not (bytes_eq n e.0.items)) (1 + i) 0) (place_held n es)

size_held : (es : List (Vec ℕ × Kept)) → length (keys_of es) ≡ length (flat_units es)
size_held [] = refl
size_held (e ∷ es) = ap suc (size_held es)

pub number_held : (n : List ℕ) (es : List (Vec ℕ × Kept)) → position (λ (k : Vec ℕ). bytes_eq n k.items) (keys_of es) ≡ number_named (flat_units es) n
number_held n es = rw (place_held n es, size_held es) refl

-- the unit at a place is held there
pub at_held : (us : List FlatUnit) (es : List (Vec ℕ × Kept)) → flat_units es ≡ us → (k : ℕ) → option_map flat_unit (slice_get es k) ≡ slice_get us k
at_held us es held k = sym (slice_get-map flat_unit es k) ∙ ap (λ us. slice_get us k) held

-- the unit of a name is there
pub number_within : (us : List FlatUnit) (n : List ℕ) (k : ℕ) → number_named us n ≡ Some k → k < length us
number_within us n k e = (position-Some (λ (u : FlatUnit). bytes_eq n u.name) us k (record { name = []; statements = []; reached = [] }) e).0

pub no_name : (us : List FlatUnit) (n : List ℕ) → number_named us n ≡ None → (k : ℕ) (u : FlatUnit) → slice_get us k ≡ Some u → u.name ≢ n
no_name us n e k u at same = true≢false (sym ((bytes_eq-Decides n u.name).1 (sym same)) ∙ none_named us n e k u at)

-- no key is the name either
pub lookup_held : (n : List ℕ) (es : List (Vec ℕ × Kept)) → ((k : ℕ) (u : FlatUnit) → slice_get (flat_units es) k ≡ Some u → bytes_eq n u.name ≡ false) → lookup (λ (k : Vec ℕ). bytes_eq n k.items) es ≡ None
lookup_held n [] h = refl
lookup_held n (e ∷ es) h =
    ap (λ b. cond b (Some e.1) (lookup (λ (k : Vec ℕ). bytes_eq n k.items) es)) (h 0 (flat_unit e) refl) ∙ lookup_held n es (λ k u at. h (suc k) u at)

-- each number of imports that are named is a unit's
numbers_within : (us : List FlatUnit) (is : List ImportOf) (ks : List ℕ) → map (λ (i : ImportOf). number_named us i.name) is ≡ map Some ks → (j : ℕ) → Member j ks → j < length us
numbers_within us is [] e j m = absurd m
numbers_within us [] (k ∷ ks) e j m = cc
numbers_within us (i ∷ is) (k ∷ ks) e j (inl same) = subst (λ j. j < length us) same (number_within us i.name k (cc))
numbers_within us (i ∷ is) (k ∷ ks) e j (inr m) = numbers_within us is ks (cc) j m

-- so is that of the first unit
first_within : (us : List FlatUnit) (j : ℕ) → Member j (first_unit us) → j < length us
first_within [] j m = absurd m
first_within (u ∷ us) j (inl e) = omega (arith, e)
first_within (u ∷ us) j (inr m) = absurd m

-- what a module reaches are units that are there
pub flat_within : (us : List FlatUnit) → AreAccepted us → (ss : List SeenLined) (reached : List ℕ) → IsFlat us ss reached → (j : ℕ) → Member j reached → j < length us
flat_within us all ss reached flat j m =
    let all_numbers = first_unit us ++ flat.numbers in
    let from = flat_map-member (brought_by us) j all_numbers (member_firsts j (flat_map (brought_by us) all_numbers) (subst (Member j) flat.flat m)) in
    let there : from.0 < length us =
    elim (member-append from.0 (first_unit us) flat.numbers from.1) [ inl k ↦ first_within us from.0 k | inr k ↦ numbers_within us (imports_of ss) flat.numbers flat.named from.0 k ] in
    elim (member_brought us j from.0 from.2) [
      | inl e ↦ subst (λ j. j < length us) (sym e) there
      | inr h ↦ let below = all.before from.0 h.0 h.1 j h.2 in omega (arith, below, there)
    ]

-- with one more unit behind the others, which reaches what its imports bring, what holds of accepted units holds
module _ (us : List FlatUnit) (all : AreAccepted us) (u : FlatUnit) (new : number_named us u.name ≡ None) (flat : IsFlat us u.statements u.reached) where
  before : (k : ℕ) (v : FlatUnit) → slice_get (us ++ u ∷ []) k ≡ Some v → (j : ℕ) → Member j v.reached → j < k
  before k v at j m =
      elim (pushed_at us u v k at) [
        | inl e ↦ all.before k v e j m
        | inr e ↦ let there = flat_within us all u.statements u.reached flat j (subst (λ (w : FlatUnit). Member j w.reached) (sym e.1) m) in omega (arith, e.0, there)
      ]

  closed : (k : ℕ) (v : FlatUnit) → slice_get (us ++ u ∷ []) k ≡ Some v → (j : ℕ) → Member j v.reached → (i : ℕ) → Member i (brought_by (us ++ u ∷ []) j) → Member i v.reached
  closed k v at j m i n =
      elim (pushed_at us u v k at) [
        | inl e ↦
            let below : j < k = all.before k v e j m in
            let inside : k < length us = slice_get_within us k v e in
            all.closed k v e j m i (subst (Member i) (brought_kept us (u ∷ []) j (omega (arith, below, inside))) n)
        | inr e ↦
            let mine = subst (λ (w : FlatUnit). Member j w.reached) (sym e.1) m in
            let there = flat_within us all u.statements u.reached flat j mine in
            subst (λ (w : FlatUnit). Member i w.reached) e.1
            (flat_closed us all u.statements u.reached flat j mine i (subst (Member i) (brought_kept us (u ∷ []) j there) n))
      ]

  apart : (j k : ℕ) (v w : FlatUnit) → slice_get (us ++ u ∷ []) j ≡ Some v → slice_get (us ++ u ∷ []) k ≡ Some w → v.name ≡ w.name → j ≡ k
  apart j k v w at also same =
      elim (pushed_at us u v j at) [
        | inl e ↦ elim (pushed_at us u w k also) [
          | inl f ↦ all.apart j k v w e f same
          | inr f ↦ absurd (no_name us u.name new j v e (same ∙ ap (λ (x : FlatUnit). x.name) (sym f.1)))
        ]
        | inr e ↦ elim (pushed_at us u w k also) [
          | inl f ↦ absurd (no_name us u.name new k w f (sym same ∙ ap (λ (x : FlatUnit). x.name) (sym e.1)))
          | inr f ↦ e.0 ∙ sym f.0
        ]
      ]

  pub accepted_more : AreAccepted (us ++ u ∷ [])
  accepted_more = record { before = before; closed = closed; apart = apart }
