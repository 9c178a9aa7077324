-- Modules that were accepted one after another.
use Rattle.std.proofs.Common.{◌≡◌, ◌∙◌, ◌<◌, ◌++◌, ℕ, suc, List, [], ◌∷◌, length, map, slice_get, Bool, Option, Some, None, All, refl, sym, ap, subst, inl, inr, ⊎_elim, arith, codes}
use Rattle.std.proofs.lemmas.List.{map-append}
use Rattle.std.proofs.lemmas.Option.{slice_get_within}
use Rattle.std.proofs.lemmas.List.Elements.{All-nil, All-append, All-map}
use Rattle.mw_logic.specs.Signature.{Signature, Member}
use Rattle.mw_module.specs.Forms.{Shape}
use Rattle.mw_module.specs.Known.{AreKnown}
use Rattle.mw_module.specs.Units.{SeenLined, SeenUnit, IsWithin}
use Rattle.mw_carry.specs.Carried.{IsPart}
use Rattle.mw_import.specs.Flat.{FlatUnit, AreAccepted, IsFlat, statements_at, statements_of, told_at, all_statements}
use Rattle.mw_import.proofs.Flattened.{kept_at, flattened_within}
use Rattle.mw_import.proofs.Reaching.{reached_stays}
use Rattle.mw_logic.proofs.Members.{member-right}
use Rattle.mw_import.proofs.Lists.{pushed_at}
use Rattle.mw_import.proofs.Tables.{flat_within}
use Rattle.mw_declare.specs.declared.declarations.Declarations.{Declarations}
use Rattle.mw_declare.specs.declared.built.Reached.{Reached}
use Rattle.mw_declare.specs.Laws.{ReachesMore}
use Rattle.mw_declare.specs.Faults.{Typing}
use Rattle.mw_declare.specs.Operators.{signature_of}
use Rattle.mw_declare.specs.Declarations.{Declares}
use Rattle.mw_declare.proofs.Parts.{parts_are_there}
use Rattle.mw_build.specs.Imported.{Accepted, ArePartsOf}
use Rattle.mw_build.specs.Modules.{IsOfUnit, AreLoaded, IsAccepted, reached_of}
use Rattle.mw_build.proofs.Pairwise.{there}

-- lists with the same names are as long as each other
same_length : {A B C : Type 0} (f : A → C) (g : B → C) (xs : List A) (ys : List B) → map f xs ≡ map g ys → length xs ≡ length ys
same_length f g [] [] e = refl
same_length f g [] (y ∷ ys) e = cc
same_length f g (x ∷ xs) [] e = cc
same_length f g (x ∷ xs) (y ∷ ys) e = ap suc (same_length f g xs ys (cc))

-- what is declared is the signature of the statements
signature_is : (r : Reached) (typing : Typing) (ss : List SeenLined) (d : Declarations) → Declares r typing ss d → d.signature ≡ signature_of r ss
signature_is r typing ss d p = ap (λ (e : Declarations). e.signature) p.declared

module _ (us : List FlatUnit) (ms : List Accepted) (accepted : AreAccepted us) (loaded : AreLoaded us ms) where
  as_many : length ms ≡ length us
  as_many = same_length (λ (m : Accepted). m.name) (λ (u : FlatUnit). u.name) ms us loaded.names

  -- what a module has that is reached, the one that reaches it has
  more_reached : (ss : List SeenLined) (reached : List ℕ) (own : List ℕ) (k : ℕ) (u : FlatUnit) → IsFlat us ss reached → Member k reached → slice_get us k ≡ Some u
      → ReachesMore (reached_of us u.name u.reached) (reached_of us own reached)
  more_reached ss reached own k u flat member at = record {
    nat = λ h. flattened_within.reaches us ss k reached u own (codes "NAT") accepted flat member at h;
    qid = λ h. flattened_within.reaches us ss k reached u own (codes "QID") accepted flat member at h;
  }

  -- the signatures of the modules that are reached are parts of what is declared
  pub loaded_parts : (ss : List SeenLined) (reached own : List ℕ) (line : ℕ) (typing : Typing) (d : Declarations) → IsFlat us ss reached
      → Declares (reached_of us own reached) typing (all_statements us line reached ss) d → ArePartsOf ms reached d.signature
  loaded_parts ss reached own line typing d flat declared k member =
      let low = flat_within us accepted ss reached flat k member in
      let (u, at) = there us k low in
      let (m, is) = there ms k (omega (arith, low, as_many)) in
      let of = loaded.declared k u m at is in
      let has : Reached = reached_of us u.name u.reached in
      let more : Reached = reached_of us own reached in
      let inner = all_statements us of.line u.reached u.statements in
      let within = flattened_within.within us ss line of.line k reached u accepted flat member at in
      let part : IsPart (signature_of has inner) (signature_of more (all_statements us line reached ss)) =
      parts_are_there has more inner (all_statements us line reached ss) (more_reached ss reached own k u flat member at) within of.declared.known declared.known in (
        m,
        is,
        subst (λ (S : Signature). IsPart S d.signature) (sym (of.signature ∙ signature_is has of.typing inner of.declarations of.declared))
            (subst (IsPart (signature_of has inner)) (sym (signature_is more typing (all_statements us line reached ss) d declared)) part),
      )

-- What holds of the forms of statements of units holds of those of a flattened module.
module _ (P : Shape → Type 0) (us : List FlatUnit) (each : (k : ℕ) (u : FlatUnit) → slice_get us k ≡ Some u → All (λ (s : SeenLined). P s.shape) u.statements) where
  abbrev Holds : SeenLined → Type 0
  Holds s = P s.shape

  at_one : (o : Option FlatUnit) → ((u : FlatUnit) → o ≡ Some u → All Holds u.statements) → All Holds (statements_at o)
  at_one None h = All-nil Holds
  at_one (Some u) h = h u refl

  at_all : (ks : List ℕ) → All Holds (statements_of us ks)
  at_all [] = All-nil Holds
  at_all (k ∷ ks) = All-append Holds (statements_at (slice_get us k)) (statements_of us ks) (at_one (slice_get us k) (each k)) (at_all ks)

  pub flattened_all : (line : ℕ) (reached : List ℕ) (own : List SeenLined) → All Holds own → All Holds (all_statements us line reached own)
  flattened_all line reached own all =
      All-append Holds (map (told_at line) (statements_of us reached)) own (All-map Holds (told_at line) (statements_of us reached) (at_all reached)) all

-- the own statements are among those of the flattened module
pub own_within : (us : List FlatUnit) (line : ℕ) (reached : List ℕ) (own : List SeenLined) → IsWithin own (all_statements us line reached own)
own_within us line reached own s member = (s, member-right s (map (told_at line) (statements_of us reached)) own member, refl)

statements_kept : (us more : List FlatUnit) (ks : List ℕ) → ((k : ℕ) → Member k ks → k < length us) → statements_of (us ++ more) ks ≡ statements_of us ks
statements_kept us more [] low = refl
statements_kept us more (k ∷ ks) low =
    ap (λ o. statements_at o ++ statements_of (us ++ more) ks) (kept_at us more k (low k (inl refl))) ∙ ap (λ ss. statements_at (slice_get us k) ++ ss) (statements_kept us more ks (λ j h. low j (inr h)))

reached_same : {a b c d : Bool} → a ≡ b → c ≡ d → ◌≡◌ {A = Reached} (record { nat = a; qid = c }) (record { nat = b; qid = d })
reached_same e f = cc

-- With one module more. It was accepted where these were.
module _ (us : List FlatUnit) (ms : List Accepted) (accepted : AreAccepted us) (loaded : AreLoaded us ms) (u : SeenUnit) (known : AreKnown u.statements) (name reached : List ℕ) (a : Accepted) (is : IsAccepted us ms u name reached a) where
  abbrev unit : FlatUnit
  unit = record { name = name; statements = u.statements; reached = reached }

  -- with it each module has what it had
  same_new : reached_of (us ++ unit ∷ []) name reached ≡ reached_of us name reached
  same_new =
      let low = flat_within us accepted u.statements reached is.flat.flat in
      reached_same (reached_stays us (unit ∷ []) reached name (codes "NAT") low) (reached_stays us (unit ∷ []) reached name (codes "QID") low)

  same_old : (k : ℕ) (v : FlatUnit) → slice_get us k ≡ Some v → reached_of (us ++ unit ∷ []) v.name v.reached ≡ reached_of us v.name v.reached
  same_old k v at =
      reached_same (flattened_within.reaches_kept us (unit ∷ []) k v (codes "NAT") accepted at) (flattened_within.reaches_kept us (unit ∷ []) k v (codes "QID") accepted at)

  of_new : IsOfUnit (us ++ unit ∷ []) unit a
  of_new =
      let same : all_statements (us ++ unit ∷ []) u.line reached u.statements ≡ all_statements us u.line reached u.statements =
      ap (λ ss. map (told_at u.line) ss ++ u.statements) (statements_kept us (unit ∷ []) reached (flat_within us accepted u.statements reached is.flat.flat)) in
      record {
        line = u.line;
        typing = is.typing;
        declarations = is.declarations;
        declared = subst (λ (r : Reached). Declares r is.typing (all_statements (us ++ unit ∷ []) u.line reached u.statements) is.declarations) (sym same_new)
            (subst (λ ss. Declares (reached_of us name reached) is.typing ss is.declarations) (sym same) is.declared);
        signature = is.holds.signature;
      }

  of_old : (k : ℕ) (v : FlatUnit) (m : Accepted) → slice_get us k ≡ Some v → slice_get ms k ≡ Some m → IsOfUnit (us ++ unit ∷ []) v m
  of_old k v m at there =
      let of = loaded.declared k v m at there in
      record {
        line = of.line;
        typing = of.typing;
        declarations = of.declarations;
        declared = subst (λ (r : Reached). Declares r of.typing (all_statements (us ++ unit ∷ []) of.line v.reached v.statements) of.declarations) (sym (same_old k v at))
            (subst (λ ss. Declares (reached_of us v.name v.reached) of.typing ss of.declarations) (sym (flattened_within.kept us (unit ∷ []) of.line k v accepted at)) of.declared);
        signature = of.signature;
      }

  pub loaded_more : AreLoaded (us ++ unit ∷ []) (ms ++ a ∷ [])
  loaded_more = record {
    names = map-append (λ (m : Accepted). m.name) ms (a ∷ []) ∙ ap (λ n. map (λ (m : Accepted). m.name) ms ++ n ∷ []) is.holds.named
        ∙ ap (λ ns. ns ++ name ∷ []) loaded.names ∙ sym (map-append (λ (v : FlatUnit). v.name) us (unit ∷ []));
    known = λ k v at. ⊎_elim (λ h. loaded.known k v h) (λ h. subst (λ (w : FlatUnit). AreKnown w.statements) h.1 known) (pushed_at us unit v k at);
    declared = λ k v m at there. ⊎_elim
        (λ h. ⊎_elim (λ i. of_old k v m h i) (λ i. let low = slice_get_within us k v h in absurd (omega (arith, low, i.0, as_many us ms accepted loaded))) (pushed_at ms a m k there))
        (λ h. ⊎_elim
        (λ i. let low = slice_get_within ms k m i in absurd (omega (arith, low, h.0, as_many us ms accepted loaded)))
        (λ i. subst (λ (w : FlatUnit). IsOfUnit (us ++ unit ∷ []) w m) h.1 (subst (λ (b : Accepted). IsOfUnit (us ++ unit ∷ []) unit b) i.1 of_new))
        (pushed_at ms a m k there))
        (pushed_at us unit v k at);
  }
