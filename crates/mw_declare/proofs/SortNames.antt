-- Sorts of a module have different names.
use Rattle.std.proofs.Common.{◌≡◌, not, List, [], ◌∷◌, ◌++◌, Bool, true, false, bytes_eq, if◌then◌else◌, refl}
use Rattle.std.proofs.lemmas.Bool.{and_parts, or_parts, both_ways}
use Rattle.std.proofs.lemmas.Slice.Eq.{bytes_eq-Decides}
use Rattle.mw_logic.specs.Kinds.{same_name}
use Rattle.mw_logic.specs.Accepted.{is_named_among, names_differ}
use Rattle.mw_logic.proofs.Successor.{same_name-true}
use Rattle.mw_module.specs.Forms.{Shape, Sorts, Subsorts, Operators, Variables, Statement, Import, Class}
use Rattle.mw_module.specs.Units.{SeenLined}
use Rattle.mw_declare.specs.Meaning.{Name, is_among, with_name, with_names, with_sorts, sorts_from, sorts_of}

-- a name that isn't this one is another
other_name : (n m : Name) → bytes_eq n m ≡ false → same_name n m ≡ false
other_name n m e = of (same_name n m) refl
  where
    of : (b : Bool) → same_name n m ≡ b → b ≡ false
    of false k = refl
    of true k = absurd (both_ways (bytes_eq n m) e ((bytes_eq-Decides n m).1 (same_name-true n m k)))

named_push : (ns : List Name) (n m : Name) → is_named_among m ns ≡ false → same_name n m ≡ false → is_named_among m (ns ++ n ∷ []) ≡ false
named_push [] n m h e = rw e refl
named_push (k ∷ ns) n m h e = let p = or_parts (same_name k m) (is_named_among m ns) h in let rest = named_push ns n m p.1 e in rw (p.0, rest) refl

not_of : (b : Bool) → not b ≡ true → b ≡ false
not_of true e = cc
not_of false e = refl

differ_push : (ns : List Name) (n : Name) → names_differ ns ≡ true → is_among ns n ≡ false → names_differ (ns ++ n ∷ []) ≡ true
differ_push [] n d h = refl
differ_push (m ∷ ns) n d h =
    let p = or_parts (bytes_eq n m) (is_among ns n) h in
    let q = and_parts (not (is_named_among m ns)) (names_differ ns) d in
    let there = named_push ns n m (not_of (is_named_among m ns) q.0) (other_name n m p.0) in
    rw there (differ_push ns n q.1 p.1)

differ_with : (ns : List Name) (n : Name) → names_differ ns ≡ true → names_differ (with_name ns n) ≡ true
differ_with ns n d = of (is_among ns n) refl
  where
    of : (b : Bool) → is_among ns n ≡ b → names_differ (if b then ns else ns ++ n ∷ []) ≡ true
    of true e = d
    of false e = differ_push ns n d e

differ_names : (ns ms : List Name) → names_differ ns ≡ true → names_differ (with_names ns ms) ≡ true
differ_names ns [] d = d
differ_names ns (m ∷ ms) d = differ_names (with_name ns m) ms (differ_with ns m d)

differ_sorts : (ns : List Name) (s : Shape) → names_differ ns ≡ true → names_differ (with_sorts ns s) ≡ true
differ_sorts ns (Sorts names) d = differ_names ns names d
differ_sorts ns (Subsorts groups) d = d
differ_sorts ns (Operators names args result said) d = d
differ_sorts ns (Variables names S) d = d
differ_sorts ns (Statement rule left right fragments executable) d = d
differ_sorts ns (Import m) d = d
differ_sorts ns (Class c as_) d = d

differ_from : (ns : List Name) (ss : List SeenLined) → names_differ ns ≡ true → names_differ (sorts_from ns ss) ≡ true
differ_from ns [] d = d
differ_from ns (s ∷ ss) d = differ_from (with_sorts ns s.shape) ss (differ_sorts ns s.shape d)

pub sorts_differ : (ss : List SeenLined) → names_differ (sorts_of ss) ≡ true
sorts_differ ss = differ_from [] ss refl
