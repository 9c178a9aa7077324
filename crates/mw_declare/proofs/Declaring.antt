-- Statements that declare an operator, by its name and the names of its sorts.
use Rattle.std.proofs.Common.{◌≡◌, ◌∙◌, ◌&&◌, not, ℕ, suc, List, [], ◌∷◌, map, slice_get, cond, Bool, true, false, Option, Some, None, bytes_eq, refl, sym, ap, subst, inl, inr}
use Rattle.std.specs.List.{list_any}
use Rattle.std.proofs.lemmas.Bool.{and_parts, or_cases, or_left, or_right}
use Rattle.std.proofs.lemmas.Slice.Eq.{bytes_eq-Decides}
use Rattle.mw_logic.specs.Signature.{Sorted, sort, kind, Declaration, Member}
use Rattle.mw_poset.proofs.Members.{member-all}
use Rattle.mw_text.specs.Names.{name_of_tokens}
use Rattle.mw_module.specs.Attributes.{Attributes}
use Rattle.mw_module.specs.Forms.{Shape, Sorts, Subsorts, Operators, Variables, Statement, Import, Class}
use Rattle.mw_module.specs.Sortings.{WrittenSort}
use Rattle.mw_module.specs.Units.{SeenLined, IsWithin}
use Rattle.mw_declare.specs.Meaning.{Name, is_among, number_of}
use Rattle.mw_declare.specs.Hierarchy.{Hierarchy, kind_in, sorted_in}
use Rattle.mw_declare.specs.Built.{is_sort, takes, is_name, declares_in, some_declares, kind_named}
use Rattle.mw_declare.specs.Operators.{rank_of, Profile, profile_of}
use Rattle.mw_declare.specs.Faults.{unknown_among, name_in, unknown_from}
use Rattle.mw_declare.proofs.Unknown.{known_front, known_append}
use Rattle.mw_declare.proofs.Within.{IsKnownIn, all_known}

-- what stands in a list has a place
pub placed : {X : Type 0} (x : X) (xs : List X) → Member x xs → (i : ℕ) × (slice_get xs i ≡ Some x)
placed x [] m = absurd m
placed x (y ∷ xs) (inl e) = (0, ap Some e)
placed x (y ∷ xs) (inr m) = let (i, at) = placed x xs m in (suc i, at)

-- where one passes a test, it is a member that does
pub some_member : {X : Type 0} (p : X → Bool) (xs : List X) → list_any p xs ≡ true → (x : X) × Member x xs × (p x ≡ true)
some_member p [] e = cc
some_member p (x ∷ xs) e =
    elim (or_cases (p x) (list_any p xs) e) [ inl k ↦ (x, inl refl, k) | inr k ↦ (let (y, m, t) = some_member p xs k in (y, inr m, t)) ]

pub member_some : {X : Type 0} (p : X → Bool) (x : X) (xs : List X) → Member x xs → p x ≡ true → list_any p xs ≡ true
member_some p x [] m e = absurd m
member_some p x (y ∷ xs) (inl is) e = or_left (p y) (list_any p xs) (subst (λ y. p y ≡ true) (sym is) e)
member_some p x (y ∷ xs) (inr m) e = or_right (p y) (list_any p xs) (member_some p x xs m e)

not_so : (b : Bool) → not b ≡ true → b ≡ false
not_so true e = cc
not_so false e = refl

sort_of_name : (n : Name) (s : WrittenSort) → is_sort n s ≡ true → (s.kind ≡ false) × (name_in s ≡ n)
sort_of_name n s e = let p = and_parts (not s.kind) (bytes_eq s.name n) e in (not_so s.kind p.0, (bytes_eq-Decides s.name n).0 p.1)

one_token : (n : Name) (ts : List Name) → is_name n ts ≡ true → ts ≡ n ∷ []
one_token n [] e = cc
one_token n (t ∷ []) e = ap (λ m. m ∷ []) ((bytes_eq-Decides t n).0 e)
one_token n (t ∷ u ∷ ts) e = cc

takes_none : (ss : List WrittenSort) → takes None ss ≡ true → ss ≡ []
takes_none [] e = refl
takes_none (s ∷ ss) e = cc

takes_one : (n : Name) (ss : List WrittenSort) → takes (Some n) ss ≡ true → (s : WrittenSort) × (ss ≡ s ∷ []) × (is_sort n s ≡ true)
takes_one n [] e = cc
takes_one n (s ∷ []) e = (s, refl, e)
takes_one n (s ∷ u ∷ ss) e = cc

-- the kinds and sorts of the argument, if there is one
abbrev pub arg_kinds : Hierarchy → Option Name → List ℕ
arg_kinds h None = []
arg_kinds h (Some n) = kind_named h n ∷ []

abbrev pub arg_sorts : Hierarchy → Option Name → List Sorted
arg_sorts h None = []
arg_sorts h (Some n) = sort (number_of h.names n) ∷ []

module _ (name : Name) (arg : Option Name) (value : Name) where
  -- a form that declares so
  pub record IsSaying (f : Shape) : Type 0 where
    pub names : List (List Name)
    pub args : List WrittenSort
    pub result : WrittenSort
    pub said : Attributes
    pub is : f ≡ Operators names args result said
    pub taken : takes arg args ≡ true
    pub given : is_sort value result ≡ true
    pub token : List Name
    pub member : Member token names
    pub spelled : is_name name token ≡ true

  pub saying : (f : Shape) → declares_in name arg value f ≡ true → IsSaying f
  saying (Sorts names) e = cc
  saying (Subsorts groups) e = cc
  saying (Operators names args result said) e =
      let p = and_parts (takes arg args && is_sort value result) (list_any (is_name name) names) e in
      let q = and_parts (takes arg args) (is_sort value result) p.0 in
      let (n, m, k) = some_member (is_name name) names p.1 in
      record { names = names; args = args; result = result; said = said; is = refl; taken = q.0; given = q.1; token = n; member = m; spelled = k }
  saying (Variables names S) e = cc
  saying (Statement rule left right fragments executable) e = cc
  saying (Import m) e = cc
  saying (Class c as_) e = cc

  -- the profile and the declaration that it gives
  abbrev pub stated_profile : Hierarchy → Profile
  stated_profile h = record { spelling = name_of_tokens (name ∷ []); args = arg_kinds h arg; result = kind_named h value }

  abbrev pub stated_declaration : Hierarchy → Declaration
  stated_declaration h = record { args = arg_sorts h arg; result = sort (number_of h.names value) }

  -- among statements whose sorts are all known
  module _ (ss : List SeenLined) (e : some_declares name arg value ss ≡ true) where
    pub stated : (s : SeenLined) × Member s ss × IsSaying s.shape
    stated = let (s, m, k) = some_member (λ (s : SeenLined). declares_in name arg value s.shape) ss e in (s, m, saying s.shape k)

    pub declares_more : (more : List SeenLined) → IsWithin ss more → some_declares name arg value more ≡ true
    declares_more more within =
        let (s, m, k) = some_member (λ (s : SeenLined). declares_in name arg value s.shape) ss e in
        let (t, there, same) = within s m in
        member_some (λ (s : SeenLined). declares_in name arg value s.shape) t more there (ap (declares_in name arg value) same ∙ k)

    module _ (sorts : List Name) (known : unknown_from sorts ss ≡ None) where
      mentioned_known : let f = stated.2 in (is_among sorts (name_in f.result) ≡ true) × IsKnownIn sorts (Operators f.names f.args f.result f.said)
      mentioned_known =
          let f = stated.2 in
          let all : IsKnownIn sorts (Operators f.names f.args f.result f.said) =
          subst (IsKnownIn sorts) f.is (member-all (λ (s : SeenLined). IsKnownIn sorts s.shape) ss (all_known sorts ss known) stated.0 stated.1) in
          ((known_front sorts (name_in f.result) [] (known_append sorts (map name_in f.args) (name_in f.result ∷ []) all).1).0, all)

      pub value_known : is_among sorts value ≡ true
      value_known = subst (λ (n : Name). is_among sorts n ≡ true) (sort_of_name value stated.2.result stated.2.given).1 mentioned_known.0

      pub arg_known : (n : Name) → arg ≡ Some n → is_among sorts n ≡ true
      arg_known n is =
          let f = stated.2 in
          let (s, one, k) = takes_one n f.args (subst (λ (o : Option Name). takes o f.args ≡ true) is f.taken) in
          let front = (known_append sorts (map name_in f.args) (name_in f.result ∷ []) mentioned_known.1).0 in
          let this = (known_front sorts (name_in s) [] (ap (λ (ss : List WrittenSort). unknown_among sorts (map name_in ss)) (sym one) ∙ front)).0 in
          subst (λ (n : Name). is_among sorts n ≡ true) (sort_of_name n s k).1 this

-- such a form's rank
module _ (h : Hierarchy) where
  kinds_of_args : (arg : Option Name) (ss : List WrittenSort) → takes arg ss ≡ true → map (kind_in h) ss ≡ arg_kinds h arg
  kinds_of_args None ss e = ap (map (kind_in h)) (takes_none ss e)
  kinds_of_args (Some n) ss e =
      let (s, one, k) = takes_one n ss e in ap (map (kind_in h)) one ∙ ap (λ (n : Name). kind_named h n ∷ []) (sort_of_name n s k).1

  sort_written : (n : Name) (s : WrittenSort) → is_sort n s ≡ true → sorted_in h s ≡ sort (number_of h.names n)
  sort_written n s e =
      let p = sort_of_name n s e in
      of s.kind p.0 ∙ ap (λ (n : Name). sort (number_of h.names n)) p.1
    where
      of : (b : Bool) → b ≡ false → cond b (kind (kind_in h s)) (sort (number_of h.names (name_in s))) ≡ sort (number_of h.names (name_in s))
      of true k = cc
      of false k = refl

  sorts_of_args : (arg : Option Name) (ss : List WrittenSort) → takes arg ss ≡ true → map (sorted_in h) ss ≡ arg_sorts h arg
  sorts_of_args None ss e = ap (map (sorted_in h)) (takes_none ss e)
  sorts_of_args (Some n) ss e = let (s, one, k) = takes_one n ss e in ap (map (sorted_in h)) one ∙ ap (λ (S : Sorted). S ∷ []) (sort_written n s k)

  module _ (name : Name) (arg : Option Name) (value : Name) (f : Shape) (s : IsSaying name arg value f) where
    pub profile_stated : profile_of s.token (rank_of h s.args s.result) ≡ stated_profile name arg value h
    profile_stated =
        ap (λ (ts : List Name). let p : Profile = record { spelling = name_of_tokens ts; args = map (kind_in h) s.args; result = kind_in h s.result } in p) (one_token name s.token s.spelled)
        ∙ ap (λ (Ks : List ℕ). let p : Profile = record { spelling = name_of_tokens (name ∷ []); args = Ks; result = kind_in h s.result } in p) (kinds_of_args arg s.args s.taken)
        ∙ ap (λ (n : Name). let p : Profile = record { spelling = name_of_tokens (name ∷ []); args = arg_kinds h arg; result = kind_named h n } in p) (sort_of_name value s.result s.given).1

    pub declaration_stated : (rank_of h s.args s.result).declaration ≡ stated_declaration name arg value h
    declaration_stated =
        ap (λ (Ss : List Sorted). let d : Declaration = record { args = Ss; result = sorted_in h s.result } in d) (sorts_of_args arg s.args s.taken)
        ∙ ap (λ (S : Sorted). let d : Declaration = record { args = arg_sorts h arg; result = S } in d) (sort_written value s.result s.given)
