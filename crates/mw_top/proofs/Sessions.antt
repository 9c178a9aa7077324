-- Modules by the names and the numbers of their units, and in order.
use Rattle.std.proofs.Common.{◌≡◌, ◌∙◌, ◌<◌, ◌≤◌, append_assoc, ◌+◌, ◌-◌, not, ℕ, zero, suc, List, [], ◌∷◌, ◌++◌, get_or, take, length-append, length, map, Bool, true, false, cond, is_some, Option, Some, None, option_map, bytes_eq, position, slice_get, IsTrue, refl, sym, ap, inl, inr, arith, ⊎_elim, if◌then◌else◌}
use Rattle.std.specs.Borrow.{Bor}
use Rattle.std.specs.List.{position_or_len}
use Rattle.std.specs.Slice.{IsItemAt}
use Rattle.std.proofs.Math.Seq.{take-append_seam}
use Rattle.std.proofs.lemmas.List.Quantifiers.{position-Some}
use Rattle.std.proofs.lemmas.Option.{none-some, same_Some, slice_get_within, slice_get-get_or, slice_get_past}
use Rattle.std.proofs.lemmas.Slice.Eq.{bytes_eq-Decides}
use Rattle.mw_logic.specs.Signature.{Member}
use Rattle.mw_import.specs.Flat.{FlatUnit, number_named}
use Rattle.mw_import.proofs.Lists.{none_named}
use Rattle.mw_import.proofs.Tables.{number_within}
use Rattle.mw_build.specs.Modules.{Accepted}
use Rattle.mw_build.proofs.Pairwise.{there}
use Rattle.mw_top.specs.Commands.{module_named, module_at, is_kept, last_module}
use Rattle.mw_top.specs.Sources.{IsNameTaken}
use Rattle.std.specs.Option.{option_or}

abbrev pub names_of : List Accepted → List (List ℕ)
names_of ms = map (λ (a : Accepted). a.name) ms

place_named : (n : List ℕ) (us : List FlatUnit) (ms : List Accepted) → names_of ms ≡ map (λ (u : FlatUnit). u.name) us
    → position_or_len (λ (u : FlatUnit). bytes_eq n u.name) us ≡ position_or_len (λ (m : Accepted). bytes_eq n m.name) ms
place_named n [] [] e = refl
place_named n [] (m ∷ ms) e = cc
place_named n (u ∷ us) [] e = cc
place_named n (u ∷ us) (m ∷ ms) e =
    let name : u.name ≡ m.name = cc in
    let rest : names_of ms ≡ map (λ (u : FlatUnit). u.name) us = cc in
    ap (λ k. cond (not (bytes_eq n u.name)) (1 + k) 0) (place_named n us ms rest) ∙ ap (λ x. cond (not (bytes_eq n x)) (1 + position_or_len (λ (m : Accepted). bytes_eq n m.name) ms) 0) name

size_named : (us : List FlatUnit) (ms : List Accepted) → names_of ms ≡ map (λ (u : FlatUnit). u.name) us → length us ≡ length ms
size_named [] [] e = refl
size_named [] (m ∷ ms) e = cc
size_named (u ∷ us) [] e = cc
size_named (u ∷ us) (m ∷ ms) e = ap suc (size_named us ms (cc))

-- the unit of a name has the number of the module of that name
number_is : (n : List ℕ) (us : List FlatUnit) (ms : List Accepted) → names_of ms ≡ map (λ (u : FlatUnit). u.name) us
    → number_named us n ≡ position (λ (m : Accepted). bytes_eq n m.name) ms
number_is n us ms e = rw (place_named n us ms e, size_named us ms e) refl

-- the first module that has the name is the one that is found
first_named : (ms : List Accepted) (n : List ℕ) (k : ℕ) (d : Accepted) → k < length ms → bytes_eq n (get_or ms k d).name ≡ true
    → ((i : ℕ) → i < k → bytes_eq n (get_or ms i d).name ≡ false) → slice_get ms k ≡ module_named ms n
first_named [] n k d h here before = absurd (omega (arith, h))
first_named (m ∷ ms) n zero d h here before = ap (λ b. cond b (Some m) (module_named ms n)) (sym here)
first_named (m ∷ ms) n (suc k) d h here before =
    first_named ms n k d (omega (arith, h)) here (λ i l. before (suc i) (omega (arith, l))) ∙ ap (λ b. cond b (Some m) (module_named ms n)) (sym (before 0 (omega arith)))

none_found : (ms : List Accepted) (n : List ℕ) → ((k : ℕ) (m : Accepted) → slice_get ms k ≡ Some m → bytes_eq n m.name ≡ false) → module_named ms n ≡ None
none_found [] n none = refl
none_found (m ∷ ms) n none = ap (λ b. cond b (Some m) (module_named ms n)) (none 0 m refl) ∙ none_found ms n (λ k d at. none (suc k) d at)

module _ (us : List FlatUnit) (ms : List Accepted) (names : names_of ms ≡ map (λ (u : FlatUnit). u.name) us) (n : List ℕ) where
  -- the module of a unit's number is that of its name
  pub number_found : (k : ℕ) → number_named us n ≡ Some k → slice_get ms k ≡ module_named ms n
  number_found k e = of ms k (sym (number_is n us ms names) ∙ e)
    where
      of : (xs : List Accepted) (k : ℕ) → position (λ (m : Accepted). bytes_eq n m.name) xs ≡ Some k → slice_get xs k ≡ module_named xs n
      of [] k h = cc
      of (x ∷ xs) k h = let (low, here, before) = position-Some (λ (m : Accepted). bytes_eq n m.name) (x ∷ xs) k x h in first_named (x ∷ xs) n k x low here before

  -- where no unit has the name no module has
  pub number_none : number_named us n ≡ None → module_named ms n ≡ None
  number_none e = none_found ms n (λ k m at.
      let low = slice_get_within ms k m at in
      let (u, there_is) = there us k (let h = size_named us ms names in omega (arith, low, h)) in
      ap (bytes_eq n) (same_name us ms names k u m there_is at) ∙ none_named us n e k u there_is)
    where
      same_name : (us : List FlatUnit) (ms : List Accepted) → names_of ms ≡ map (λ (u : FlatUnit). u.name) us → (k : ℕ) (u : FlatUnit) (m : Accepted) → slice_get us k ≡ Some u
          → slice_get ms k ≡ Some m → m.name ≡ u.name
      same_name [] ms e k u m a b = absurd (none-some u a)
      same_name (v ∷ us) [] e k u m a b = absurd (none-some m b)
      same_name (v ∷ us) (l ∷ ms) e zero u m a b = let s : v ≡ u = same_Some v u a in let t : l ≡ m = same_Some l m b in cc
      same_name (v ∷ us) (l ∷ ms) e (suc k) u m a b = same_name us ms (cc) k u m a b

  -- so the module at it is that of the name
  pub number_at : (o : Option ℕ) → number_named us n ≡ o → module_at ms o ≡ module_named ms n
  number_at None e = sym (number_none e)
  number_at (Some k) e = number_found k e

  -- a name that isn't a module's is no unit's
  pub none_there : module_named ms n ≡ None → number_named us n ≡ None
  none_there h = of (number_named us n) refl
    where
      of : (o : Option ℕ) → number_named us n ≡ o → o ≡ None
      of None e = refl
      of (Some k) e =
          let low = number_within us n k e in
          let (m, at) = there ms k (let s = size_named us ms names in omega (arith, low, s)) in
          absurd (none-some m (sym h ∙ sym (number_found k e) ∙ at))

-- the last module of a source, where the modules behind these are the prelude's
pub last_kept : (ms : List Accepted) (a : Accepted) → is_kept a.name ≡ true → last_module (ms ++ a ∷ []) ≡ last_module ms
last_kept [] a h = rw h refl
last_kept (m ∷ ms) a h = ap (λ o. option_or o (if is_kept m.name then None else Some m)) (last_kept ms a h)

-- where the last one isn't
pub last_own : (ms : List Accepted) (a : Accepted) → is_kept a.name ≡ false → last_module (ms ++ a ∷ []) ≡ Some a
last_own [] a h = rw h refl
last_own (m ∷ ms) a h = ap (λ o. option_or o (if is_kept m.name then None else Some m)) (last_own ms a h)

-- what `get` lends
pub item_is : (xs : List Accepted) (i : ℕ) (r : Option (Bor Accepted)) → IsItemAt xs i r → option_map (λ (m : Bor Accepted). m.now) r ≡ slice_get xs i
item_is xs i None h = sym (slice_get_past xs i h.3)
item_is xs i (Some x) h = sym (slice_get-get_or xs i x.now h.3.0 ∙ ap (λ m. Some m) (sym h.1))

-- a module that is put behind others and taken away again
pub popped : (old new : List Accepted) (a : Accepted) → new ≡ old ++ a ∷ [] → (k : ℕ) → k ≡ length new → take (k - 1) new ≡ old
popped old new a e k is =
    let n : k - 1 ≡ length old = let h = ap length e ∙ length-append old (a ∷ []) in omega (arith, h, is) in
    ap (λ j. take j new) n ∙ ap (take (length old)) e ∙ take-append_seam old (a ∷ [])

by_bytes : {Y : Type 0} (n m : List ℕ) → (n ≡ m → Y) → (bytes_eq n m ≡ false → Y) → Y
by_bytes {Y} n m t f = by_test (bytes_eq n m) refl
  where
    by_test : (b : Bool) → bytes_eq n m ≡ b → Y
    by_test true e = t ((bytes_eq-Decides n m).0 e)
    by_test false e = f e

-- a module has the name exactly where it is among the names
pub found_named : (ms : List Accepted) (n : List ℕ) (a : Accepted) → module_named ms n ≡ Some a → Member n (names_of ms)
found_named [] n a h = cc
found_named (m ∷ ms) n a h =
    by_bytes n m.name (λ e. inl (sym e)) (λ b. inr (found_named ms n a (ap (λ c. cond c (Some m) (module_named ms n)) (sym b) ∙ h)))

pub named_found : (ms : List Accepted) (n : List ℕ) → module_named ms n ≡ None → Member n (names_of ms) → ⊥
named_found [] n h k = k
named_found (m ∷ ms) n h k =
    by_bytes n m.name
    (λ e. let b : bytes_eq n m.name ≡ true = (bytes_eq-Decides n m.name).1 e in
    let wrong : Some m ≡ None = ap (λ c. cond c (Some m) (module_named ms n)) (sym b) ∙ h in cc)
    (λ b. ⊎_elim (λ e. let t : bytes_eq n m.name ≡ true = (bytes_eq-Decides n m.name).1 (sym e) in let wrong : true ≡ false = sym t ∙ b in cc)
    (λ k'. named_found ms n (ap (λ c. cond c (Some m) (module_named ms n)) (sym b) ∙ h) k') k)

pub taken_by : (ms : List Accepted) (n : List ℕ) (o : Option Accepted) → module_named ms n ≡ o → (IsTrue (is_some o) → IsNameTaken ms n) × (IsNameTaken ms n → IsTrue (is_some o))
taken_by ms n (Some a) e = (λ h. found_named ms n a e, λ h. refl)
taken_by ms n None e = (λ h. let wrong : false ≡ true = h in cc, λ h. absurd (named_found ms n e h))

-- what isn't taken is no module's name
pub untaken_none : (ms : List Accepted) (n : List ℕ) (o : Option Accepted) → module_named ms n ≡ o → (IsNameTaken ms n → ⊥) → module_named ms n ≡ None
untaken_none ms n None e free = e
untaken_none ms n (Some a) e free = absurd (free (found_named ms n a e))

pub taken_as : {A : Type 0} (ms : List Accepted) (n : List ℕ) (b : Bool) (f : A → Accepted) (r : Option A) → option_map f r ≡ module_named ms n → b ≡ is_some r
    → (IsTrue b → IsNameTaken ms n) × (IsNameTaken ms n → IsTrue b)
taken_as ms n b f None e is = rw is (taken_by ms n None (sym e))
taken_as ms n b f (Some x) e is = rw is (taken_by ms n (Some (f x)) (sym e))

pub is_untaken : (ms : List Accepted) (n : List ℕ) → (IsNameTaken ms n → ⊥) → module_named ms n ≡ None
is_untaken ms n free = untaken_none ms n (module_named ms n) refl free

at_seam : (ms : List Accepted) (a : Accepted) (more : List Accepted) → slice_get (ms ++ a ∷ more) (length ms) ≡ Some a
at_seam [] a more = refl
at_seam (m ∷ ms) a more = at_seam ms a more

-- modules with the last one behind the others
split_last : (ms : List Accepted) (a : Accepted) → 1 ≤ length ms → a ≡ get_or ms (length ms - 1) a → ms ≡ take (length ms - 1) ms ++ a ∷ []
split_last [] a low is = absurd (omega (arith, low))
split_last (m ∷ []) a low is = ap (λ x. x ∷ []) (sym is)
split_last (m ∷ l ∷ ms) a low is =
    let n : length (m ∷ l ∷ ms) - 1 ≡ suc (length (l ∷ ms) - 1) = omega arith in
    let h : a ≡ get_or (l ∷ ms) (length (l ∷ ms) - 1) a = is ∙ ap (λ k. get_or (m ∷ l ∷ ms) k a) n in
    ap (λ xs. m ∷ xs) (split_last (l ∷ ms) a (omega arith) h) ∙ sym (ap (λ k. take k (m ∷ l ∷ ms) ++ a ∷ []) n)

module _ (all rest : List Accepted) (a : Accepted) (more : List Accepted) (front : all ≡ rest ++ more) (last : last_module all ≡ last_module rest) (low : 1 ≤ length rest)
    (is : a ≡ get_or rest (length rest - 1) a) where
  -- the last one is the source's own
  pub own_last : is_kept a.name ≡ false → slice_get all (length (take (length rest - 1) rest)) ≡ last_module all
  own_last h =
      let before = take (length rest - 1) rest in
      let s = split_last rest a low is in
      let whole : all ≡ before ++ a ∷ more = front ∙ ap (λ xs. xs ++ more) s ∙ append_assoc before (a ∷ []) more in
      ap (λ xs. slice_get xs (length before)) whole ∙ at_seam before a more ∙ sym (last_own before a h) ∙ ap last_module (sym s) ∙ sym last

  -- it is one of the prelude
  pub kept_front : (xs : List Accepted) × (all ≡ take (length rest - 1) rest ++ xs)
  kept_front = (a ∷ more, front ∙ ap (λ xs. xs ++ more) (split_last rest a low is) ∙ append_assoc (take (length rest - 1) rest) (a ∷ []) more)

  pub kept_last : is_kept a.name ≡ true → last_module all ≡ last_module (take (length rest - 1) rest)
  kept_last h = last ∙ ap last_module (split_last rest a low is) ∙ last_kept (take (length rest - 1) rest) a h
