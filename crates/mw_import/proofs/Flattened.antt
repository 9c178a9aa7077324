-- What a module reaches, among more units, and the statements of flattened modules.
use Rattle.std.proofs.Common.{◌≡◌, ◌∙◌, ℕ, zero, suc, ◌<◌, List, [], ◌∷◌, ◌++◌, map, length, Some, refl, sym, ap, inl, inr, subst, slice_get, arith}
use Rattle.std.proofs.lemmas.Option.{slice_get_within}
use Rattle.mw_logic.specs.Signature.{Member}
use Rattle.mw_module.specs.Units.{SeenLined, IsWithin}
use Rattle.mw_import.specs.Flat.{FlatUnit, reached_by, brought_by, IsFlat, AreAccepted, statements_at, statements_of, told_at, all_statements}
use Rattle.mw_logic.proofs.Members.{member-left, member-append}
use Rattle.mw_import.proofs.Lists.{member-flat_map, flat_map-member, member-map, map-member}
use Rattle.mw_import.specs.Laws.{FlattenedWithin}
use Rattle.mw_import.proofs.Brought.{reached_brought, flat_closed}
use Rattle.mw_import.proofs.Reaching.{reaches, reaches_kept}

-- the unit at a place stays when more come
pub kept_at : (us more : List FlatUnit) (k : ℕ) → k < length us → slice_get (us ++ more) k ≡ slice_get us k
kept_at [] more k h = absurd (omega (arith, h))
kept_at (u ∷ us) more zero h = refl
kept_at (u ∷ us) more (suc k) h = kept_at us more k (omega (arith, h))

pub last_at : (us : List FlatUnit) (u : FlatUnit) → slice_get (us ++ u ∷ []) (length us) ≡ Some u
last_at [] u = refl
last_at (v ∷ us) u = last_at us u

pub brought_kept : (us more : List FlatUnit) (k : ℕ) → k < length us → brought_by (us ++ more) k ≡ brought_by us k
brought_kept us more k h = ap (λ o. reached_by o ++ k ∷ []) (kept_at us more k h)

-- the statements of units that are there stay when more come
statements_kept : (us more : List FlatUnit) (ks : List ℕ) → ((j : ℕ) → Member j ks → j < length us) → statements_of (us ++ more) ks ≡ statements_of us ks
statements_kept us more [] h = refl
statements_kept us more (k ∷ ks) h =
    ap (λ o. statements_at o ++ statements_of (us ++ more) ks) (kept_at us more k (h k (inl refl)))
    ∙ ap (λ ss. statements_at (slice_get us k) ++ ss) (statements_kept us more ks (λ j m. h j (inr m)))

kept : (us more : List FlatUnit) (line k : ℕ) (u : FlatUnit) → AreAccepted us → slice_get us k ≡ Some u
    → all_statements (us ++ more) line u.reached u.statements ≡ all_statements us line u.reached u.statements
kept us more line k u all at =
    ap (λ ss. map (told_at line) ss ++ u.statements)
    (statements_kept us more u.reached (λ j m. let below = all.before k u at j m in let inside = slice_get_within us k u at in omega (arith, below, inside)))

-- a statement of a unit that is reached is told at the line
told_within : (us : List FlatUnit) (ss : List SeenLined) (line j : ℕ) (reached : List ℕ) (s : SeenLined) → Member j reached → Member s (statements_at (slice_get us j))
    → (t : SeenLined) × Member t (all_statements us line reached ss) × (t.shape ≡ s.shape)
told_within us ss line j reached s m n = (
  told_at line s,
  member-left (told_at line s) (map (told_at line) (statements_of us reached)) ss
      (member-map (told_at line) s (statements_of us reached) (member-flat_map (λ (k : ℕ). statements_at (slice_get us k)) s j reached m n)),
  refl,
)

within : (us : List FlatUnit) (ss : List SeenLined) (line from k : ℕ) (reached : List ℕ) (u : FlatUnit) → AreAccepted us → IsFlat us ss reached → Member k reached
    → slice_get us k ≡ Some u → IsWithin (all_statements us from u.reached u.statements) (all_statements us line reached ss)
within us ss line from k reached u all flat m at s n =
    elim (member-append s (map (told_at from) (statements_of us u.reached)) u.statements n) [
      | inl h ↦
          let told = map-member (told_at from) s (statements_of us u.reached) h in
          let of = flat_map-member (λ (k : ℕ). statements_at (slice_get us k)) told.0 u.reached told.1 in
          let there = flat_closed us all ss reached flat k m of.0 (reached_brought us of.0 k u at of.1) in
          let t = told_within us ss line of.0 reached told.0 there of.2 in
          (t.0, t.1, t.2 ∙ ap (λ (s : SeenLined). s.shape) told.2)
      | inr h ↦ told_within us ss line k reached s m (subst (λ o. Member s (statements_at o)) (sym at) h)
    ]

pub flattened_within : FlattenedWithin
flattened_within = record {
  within = within;
  kept = kept;
  reaches = λ us ss k reached u own name all flat m at. reaches us all ss k reached u own name flat m at;
  reaches_kept = λ us more k u name all at. reaches_kept us more k u name all at;
}
