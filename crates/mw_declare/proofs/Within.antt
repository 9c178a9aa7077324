-- What the statements of one list have whose forms are among those of another.
use Rattle.std.proofs.Common.{◌≡◌, List, [], ◌∷◌, None, All, refl, subst, inl, inr}
use Rattle.std.proofs.lemmas.List.Elements.{All-nil, All-cons}
use Rattle.mw_logic.specs.Signature.{Member}
use Rattle.mw_poset.proofs.Members.{member-all}
use Rattle.mw_module.specs.Forms.{Shape}
use Rattle.mw_module.specs.Units.{SeenLined, IsWithin}
use Rattle.mw_declare.specs.Meaning.{Name}
use Rattle.mw_declare.specs.Faults.{unknown_among, mentioned, unknown_from}
use Rattle.mw_declare.proofs.Pairs.{known_statement}

-- what each member has, all have
pub all_members : {X : Type 0} (P : X → Type 0) (xs : List X) → ((x : X) → Member x xs → P x) → All P xs
all_members P [] each = All-nil P
all_members P (x ∷ xs) each = All-cons P x xs (each x (inl refl)) (all_members P xs (λ y m. each y (inr m)))

-- each of these statements has a form with this property
abbrev pub AllShaped : (Shape → Type 0) → List SeenLined → Type 0
AllShaped Q ss = All (λ (s : SeenLined). Q s.shape) ss

pub shaped_within : (Q : Shape → Type 0) (A B : List SeenLined) → IsWithin A B → AllShaped Q B → AllShaped Q A
shaped_within Q A B within all = all_members (λ (s : SeenLined). Q s.shape) A (λ s m. let (t, there, same) = within s m in subst Q same (member-all (λ (s : SeenLined). Q s.shape) B all t there))

-- the sorts that a form mentions are known
abbrev pub IsKnownIn : List Name → Shape → Type 0
IsKnownIn sorts s = unknown_among sorts (mentioned s) ≡ None

pub all_known : (sorts : List Name) (ss : List SeenLined) → unknown_from sorts ss ≡ None → AllShaped (IsKnownIn sorts) ss
all_known sorts [] e = All-nil (λ (s : SeenLined). IsKnownIn sorts s.shape)
all_known sorts (s ∷ ss) e = let k = known_statement sorts s ss e in All-cons (λ (s : SeenLined). IsKnownIn sorts s.shape) s ss k.0 (all_known sorts ss k.1)
