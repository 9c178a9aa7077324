-- Walks through the levels of a diagram.
use Rattle.std.proofs.Common.{◌≡◌, ℕ, List, [], ◌∷◌, ◌++◌, length}
use Rattle.std.specs.Prelude.{slice_get, Some}
use Rattle.mw_logic.specs.Signature.{Signature, Sorted, SameKind}
use Rattle.mw_logic.specs.Accepted.{number_of_sort}
use Rattle.mw_logic.specs.Preregular.{AreOfKinds}
use Rattle.mw_sorts.specs.Entries.{place_in}
use Rattle.mw_sorts.specs.Diagrams.{Row, Level, LeadsTo}

-- from P to what follows from P
pub leads-map : (sig : Signature) (places : List ℕ) (ls : List Level) (q : ℕ) (Ks : List ℕ) (P Q : List Sorted → ℕ → Type 0) → ((Ss : List Sorted) (r : ℕ) → P Ss r → Q Ss r)
    → LeadsTo sig places ls q Ks P → LeadsTo sig places ls q Ks Q
leads-map sig places [] q [] P Q f h = f [] q h
leads-map sig places [] q (K ∷ Ks) P Q f h = absurd h
leads-map sig places (l ∷ ls) q [] P Q f h = absurd h
leads-map sig places (l ∷ ls) q (K ∷ Ks) P Q f h =
    (h.0, h.1, λ S k. let n = h.2 S k in (n.0, n.1, leads-map sig places ls n.0 Ks (λ Ss r. P (S ∷ Ss) r) (λ Ss r. Q (S ∷ Ss) r) (λ Ss r. f (S ∷ Ss) r) n.2))

-- where sorts of these kinds lead
pub leads-read : (sig : Signature) (places : List ℕ) (ls : List Level) (q : ℕ) (Ks : List ℕ) (P : List Sorted → ℕ → Type 0) → LeadsTo sig places ls q Ks P
    → (Ss : List Sorted) → AreOfKinds sig Ss Ks → (r : ℕ) × P Ss r
leads-read sig places [] q [] P h [] k = (q, h)
leads-read sig places [] q [] P h (S ∷ Ss) k = absurd k
leads-read sig places [] q (K ∷ Ks) P h Ss k = absurd h
leads-read sig places (l ∷ ls) q [] P h Ss k = absurd h
leads-read sig places (l ∷ ls) q (K ∷ Ks) P h [] k = absurd k
leads-read sig places (l ∷ ls) q (K ∷ Ks) P h (S ∷ Ss) k = let n = h.2 S k.0 in leads-read sig places ls n.0 Ks (λ Us r. P (S ∷ Us) r) n.2 Ss k.1

-- one level more
pub leads-more : (sig : Signature) (places : List ℕ) (ls : List Level) (q : ℕ) (Ks : List ℕ) (P Q : List Sorted → ℕ → Type 0) (l : Level) (K : ℕ)
    → ((Ss : List Sorted) (r : ℕ) → P Ss r → (row : Row) × (slice_get l r ≡ Some row)
    × ((S : Sorted) → SameKind sig (number_of_sort S) K → (next : ℕ) × (slice_get row (place_in places (length row) S) ≡ Some next) × Q (Ss ++ S ∷ []) next))
    → LeadsTo sig places ls q Ks P → LeadsTo sig places (ls ++ l ∷ []) q (Ks ++ K ∷ []) Q
leads-more sig places [] q [] P Q l K f h = f [] q h
leads-more sig places [] q (L ∷ Ks) P Q l K f h = absurd h
leads-more sig places (m ∷ ls) q [] P Q l K f h = absurd h
leads-more sig places (m ∷ ls) q (L ∷ Ks) P Q l K f h =
    (h.0, h.1, λ S k. let n = h.2 S k in (n.0, n.1, leads-more sig places ls n.0 Ks (λ Ss r. P (S ∷ Ss) r) (λ Ss r. Q (S ∷ Ss) r) l K (λ Ss r. f (S ∷ Ss) r) n.2))
