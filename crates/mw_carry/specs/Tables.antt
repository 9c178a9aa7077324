-- Tables of sorts by their names and of operators by their profiles, and what is right of them.
use Rattle.std.specs.Prelude.{ℕ, ◌≡◌, ◌≤◌, List, length, Bool, ◌&&◌, nat_eq, bytes_eq, Option, MatchOption}
use Rattle.std.specs.Map.{lookup}
use Rattle.std.specs.Global.{Vec}
use Rattle.mw_logic.specs.Signature.{Signature, IsSortNamed}
use Rattle.mw_poset.specs.SortOrder.{SortOrder, order_of}
use Rattle.mw_carry.specs.declared.target.Profile.{Profile as ProfileHeld}
use Rattle.mw_carry.specs.Profiles.{Profile, IsProfiled}

abbrev pub seen_profile : ProfileHeld → Profile
seen_profile p = record { spelling = p.spelling.items; args = p.args.items; result = p.result }

abbrev pub same_profile : Profile → Profile → Bool
same_profile p q = bytes_eq p.spelling q.spelling && (bytes_eq p.args q.args && nat_eq p.result q.result)

-- the number that a name has; the number that a profile has
abbrev pub sort_in : List (Vec ℕ × ℕ) → List ℕ → Option ℕ
sort_in es name = lookup (λ k. bytes_eq name k.items) es

abbrev pub operator_in : List (ProfileHeld × ℕ) → Profile → Option ℕ
operator_in es p = lookup (λ k. same_profile p (seen_profile k)) es

-- A number that is found is one of those that are meant, and where none is found, none up to n is meant.
abbrev pub IsFound : ℕ → (ℕ → Type 0) → Option ℕ → Type 0
IsFound n P found = MatchOption found ((i : ℕ) → i ≤ n → ¬ P i) P

-- whatever name or profile is looked for, among the first n sorts or operators
abbrev pub FindSorts : Signature → ℕ → List (Vec ℕ × ℕ) → Type 0
FindSorts sig n es = (name : List ℕ) → IsFound n (λ S. IsSortNamed sig S name) (sort_in es name)

abbrev pub FindOperators : Signature → ℕ → List (ProfileHeld × ℕ) → Type 0
FindOperators sig n es = (p : Profile) → IsFound n (IsProfiled sig p) (operator_in es p)

-- what keeps a signature with the order of its sorts and these tables
pub record IsTarget (sig : Signature) (kept : SortOrder) (named : List (Vec ℕ × ℕ)) (profiled : List (ProfileHeld × ℕ)) : Type 0 where
  pub order : kept ≡ order_of sig
  pub sorts : FindSorts sig (length sig.sorts) named
  pub operators : FindOperators sig (length sig.operators) profiled
