-- How the parts of a term are listed: the arguments of one after another come behind all.
use Rattle.std.specs.Prelude.{◌≡◌, ◌⊎◌, ◌<◌, ◌≤◌, ◌+◌, ℕ, zero, suc, List, [], ◌∷◌, ◌++◌, length, drop, true, Some, slice_get, refl}
use Rattle.std.proofs.Common.{sym, subst, ap, ◌∙◌, arith, inl, inr, ⊎_elim}
use Rattle.std.proofs.lemmas.Bool.{cases_lt}
use Rattle.std.proofs.lemmas.Option.{same_Some}
use Rattle.mw_logic.specs.Term.{RawTerm, RawTerms, numeral, quoted, variable, apply, nil, cons}
use Rattle.mw_logic.specs.Terms.{args_of, list_of}
use Rattle.mw_logic.specs.Signature.{Signature, Member, at_number}
use Rattle.mw_logic.specs.CanonicalPart.{IsOpen}
use Rattle.mw_logic.proofs.Members.{member-left}
use Rattle.mw_poset.proofs.Members.{member-last}
use Rattle.mw_term.specs.OperatorSets.{AreApart, operators_in, operators_in_all}
use Rattle.mw_term.proofs.OperatorSets.{lacks_top, arguments_apart, first_apart, others_apart}
use Rattle.mw_term.specs.declared.operators.Sought.{Sought}
use Rattle.mw_redex.specs.Replaced.{IsOpenArgument}
use Rattle.mw_index.specs.Index.{operator_of}
use Rattle.mw_redexes.specs.Spots.{IsInside, IsReached, IsWanted, IsSpot, AreSpots, AreAllSpots}
use Rattle.mw_redexes.specs.declared.spots.Spot.{Spot}
use Rattle.mw_redexes.specs.declared.spots.Wanted.{Wanted}
use Rattle.mw_redexes.specs.declared.spots.Wanted.TheVariants as wanted

-- what a term's operators are apart from, those of what stands in it are
inside_apart : (s : Sought) (t u : RawTerm) → AreApart (operators_in t) s → IsInside t u → AreApart (operators_in u) s
inside_apart s t _ h IsInside.itself = h
inside_apart s t u h (IsInside.argument f ts i _ k at) = by_number ts i (arguments_apart f ts s (inside_apart s t (apply f ts) h k)) at
  where
    by_number : (ts : RawTerms) (i : ℕ) → AreApart (operators_in_all ts) s → at_number (list_of ts) i ≡ Some u → AreApart (operators_in u) s
    by_number ts zero a e = cc
    by_number nil (suc i) a e = cc
    by_number (cons t ts) (suc zero) a e = subst (λ x. AreApart (operators_in x) s) (same_Some t u e) (first_apart t ts s a)
    by_number (cons t ts) (suc (suc i)) a e = by_number ts (suc i) (others_apart t ts s a) e

-- so nothing wanted stands in it
pub none_wanted : (s : Sought) (t u : RawTerm) → AreApart (operators_in t) s → IsInside t u → IsWanted (wanted.Operators s) u → ⊥
none_wanted s t u h k w = w.3 (lacks_top w.0 w.1 s (subst (λ x. AreApart (operators_in x) s) w.2 (inside_apart s t u h k)))

-- what is reached stands inside
pub reached_inside : (sig : Signature) (t u : RawTerm) → IsReached sig t u → IsInside t u
reached_inside sig t _ IsReached.itself = IsInside.itself
reached_inside sig t u (IsReached.argument f ts i _ h at o) = IsInside.argument f ts i u (reached_inside sig t (apply f ts) h) at

-- the part of this number, from 0, and what is reached in those behind it
got_or_next : {X : Type 0} (n : ℕ) (xs : List X) (x y : X) → slice_get xs n ≡ Some x → Member y (drop n xs) → (x ≡ y) ⊎ Member y (drop (suc n) xs)
got_or_next n [] x y e m = cc
got_or_next zero (z ∷ zs) x y e m = ⊎_elim (λ k. inl (sym (same_Some z x e) ∙ k)) (λ k. inr k) m
got_or_next (suc n) (z ∷ zs) x y e m = got_or_next n zs x y e m

got_or_later : {X : Type 0} (n : ℕ) (xs : List X) (x y : X) → slice_get xs n ≡ Some x → Member y (drop n xs) → (x ≡ y) ⊎ Member y (drop (n + 1) xs)
got_or_later n xs x y e m = let z : suc n ≡ n + 1 = omega arith in subst (λ k. (x ≡ y) ⊎ Member y (drop k xs)) z (got_or_next n xs x y e m)

member_got : {X : Type 0} (xs : List X) (n : ℕ) (x : X) → slice_get xs n ≡ Some x → Member x xs
member_got [] n x e = cc
member_got (z ∷ zs) zero x e = inl (same_Some z x e)
member_got (z ∷ zs) (suc n) x e = inr (member_got zs n x e)

pub get_left : {X : Type 0} (xs ys : List X) (k : ℕ) (x : X) → slice_get xs k ≡ Some x → slice_get (xs ++ ys) k ≡ Some x
get_left [] ys k x e = cc
get_left (z ∷ zs) ys zero x e = e
get_left (z ∷ zs) ys (suc k) x e = get_left zs ys k x e

pub get_pushed : {X : Type 0} (xs : List X) (y : X) (k : ℕ) (x : X) → slice_get (xs ++ y ∷ []) k ≡ Some x → (slice_get xs k ≡ Some x) ⊎ ((k ≡ length xs) × (y ≡ x))
get_pushed [] y zero x e = inr (refl, same_Some y x e)
get_pushed [] y (suc k) x e = cc
get_pushed (z ∷ zs) y zero x e = inl e
get_pushed (z ∷ zs) y (suc k) x e = ⊎_elim (λ h. inl h) (λ h. inr (ap suc h.0, h.1)) (get_pushed zs y k x e)

drop_pushed : {X : Type 0} (n : ℕ) (xs : List X) (y : X) → n ≤ length xs → drop n (xs ++ y ∷ []) ≡ drop n xs ++ y ∷ []
drop_pushed zero xs y l = refl
drop_pushed (suc n) [] y l = absurd (omega (arith, l))
drop_pushed (suc n) (z ∷ zs) y l = drop_pushed n zs y (omega (arith, l))

pub got_below : {X : Type 0} (xs : List X) (n : ℕ) (x : X) → slice_get xs n ≡ Some x → n < length xs
got_below [] n x e = cc
got_below (z ∷ zs) zero x e = omega arith
got_below (z ∷ zs) (suc n) x e = let h = got_below zs n x e in omega (arith, h)

number_below : (xs : List RawTerm) (k : ℕ) (u : RawTerm) → at_number xs k ≡ Some u → (0 < k) × (k ≤ length xs)
number_below xs zero u e = cc
number_below xs (suc k) u e = let h = got_below xs k u e in (omega arith, omega (arith, h))

-- argument k of v, behind the first i, and what is reached in it
pub record IsComing (sig : Signature) (v : RawTerm) (i : ℕ) (u : RawTerm) : Type 0 where
  pub number : ℕ
  pub later : i < number
  pub argument : RawTerm
  pub at : at_number (list_of (args_of v)) number ≡ Some argument
  pub free : (f : ℕ) (ts : RawTerms) → v ≡ apply f ts → IsOpen sig true f number
  pub reached : IsReached sig argument u

same_arguments : {f g : ℕ} {ts us : RawTerms} → apply f ts ≡ apply g us → (f ≡ g) × (ts ≡ us)
same_arguments e = (let z : _ ≡ _ = cc in z, cc)

-- what is reached in v is v, or is reached in an argument
first_way : (sig : Signature) (v u : RawTerm) → IsReached sig v u → (u ≡ v) ⊎ IsComing sig v 0 u
first_way sig v _ IsReached.itself = inl refl
first_way sig v u (IsReached.argument g us j _ h at o) = ⊎_elim at_once further (first_way sig v (apply g us) h)
  where
    at_once : apply g us ≡ v → (u ≡ v) ⊎ IsComing sig v 0 u
    at_once e = inr (record {
      number = j;
      later = (number_below (list_of us) j u at).0;
      argument = u;
      at = subst (λ x. at_number (list_of (args_of x)) j ≡ Some u) e at;
      free = λ f ts q. subst (λ k. IsOpen sig true k j) (same_arguments (e ∙ q)).0 o;
      reached = IsReached.itself;
    })

    further : IsComing sig v 0 (apply g us) → (u ≡ v) ⊎ IsComing sig v 0 u
    further c = inr (record { number = c.number; later = c.later; argument = c.argument; at = c.at; free = c.free; reached = IsReached.argument g us j u c.reached at o })

-- The parts, where the first i arguments of the part of number n were looked at.
pub record AreUpTo (sig : Signature) (w : Wanted) (root : RawTerm) (n : ℕ) (spot : Spot) (i : ℕ) (spots : List Spot) : Type 0 where
  pub sound : (j : ℕ) (s : Spot) → slice_get spots j ≡ Some s → IsSpot sig root spots j s
  pub there : slice_get spots n ≡ Some spot
  pub complete : (u : RawTerm) → IsReached sig root u → IsWanted w u
      → ((s : Spot) × Member s spots × (s.term.now ≡ u)) ⊎ (((s : Spot) × Member s (drop (n + 1) spots) × IsReached sig s.term.now u) ⊎ IsComing sig spot.term.now i u)

pub none_looked_at : (sig : Signature) (w : Wanted) (root : RawTerm) (n : ℕ) (spot : Spot) (spots : List Spot) → slice_get spots n ≡ Some spot → AreSpots sig w root n spots → AreUpTo sig w root n spot 0 spots
none_looked_at sig w root n spot spots at h = record {
  sound = h.sound;
  there = at;
  complete = λ u r k. ⊎_elim (λ x. inl x) (λ (s, m, way). ⊎_elim (λ e. first u (subst (λ (x : Spot). IsReached sig x.term.now u) (sym e) way)) (λ later. inr (inl (s, later, way))) (got_or_later n spots spot s at m)) (h.complete u r k);
}
  where
    first : (u : RawTerm) → IsReached sig spot.term.now u
        → ((s : Spot) × Member s spots × (s.term.now ≡ u)) ⊎ (((s : Spot) × Member s (drop (n + 1) spots) × IsReached sig s.term.now u) ⊎ IsComing sig spot.term.now 0 u)
    first u here = ⊎_elim (λ z. inl (spot, member_got spots n spot at, sym z)) (λ c. inr (inr c)) (first_way sig spot.term.now u here)

pub all_looked_at : (sig : Signature) (w : Wanted) (root : RawTerm) (n : ℕ) (spot : Spot) (i : ℕ) (spots : List Spot) → length (list_of (args_of spot.term.now)) ≤ i → AreUpTo sig w root n spot i spots → AreSpots sig w root (n + 1) spots
all_looked_at sig w root n spot i spots l h = record {
  sound = h.sound;
  complete = λ u r k. ⊎_elim (λ x. inl x) (⊎_elim (λ x. inr x) (λ c. let b = (number_below (list_of (args_of spot.term.now)) c.number c.argument c.at).1 in let a = c.later in absurd (omega (arith, a, b, l)))) (h.complete u r k);
}

module _ (sig : Signature) (w : Wanted) (root : RawTerm) (n : ℕ) (spot : Spot) (i : ℕ) (spots : List Spot) (t : RawTerm) (at : at_number (list_of (args_of spot.term.now)) (i + 1) ≡ Some t) (h : AreUpTo sig w root n spot i spots) where
  here_or_later : (u : RawTerm) → IsComing sig spot.term.now i u → (IsReached sig t u × ((f : ℕ) (ts : RawTerms) → spot.term.now ≡ apply f ts → IsOpen sig true f (i + 1))) ⊎ IsComing sig spot.term.now (i + 1) u
  here_or_later u c = ⊎_elim later now (cases_lt (i + 1) c.number)
    where
      later : i + 1 < c.number → (IsReached sig t u × ((f : ℕ) (ts : RawTerms) → spot.term.now ≡ apply f ts → IsOpen sig true f (i + 1))) ⊎ IsComing sig spot.term.now (i + 1) u
      later l = inr (record { number = c.number; later = l; argument = c.argument; at = c.at; free = c.free; reached = c.reached })

      now : c.number ≤ i + 1 → (IsReached sig t u × ((f : ℕ) (ts : RawTerms) → spot.term.now ≡ apply f ts → IsOpen sig true f (i + 1))) ⊎ IsComing sig spot.term.now (i + 1) u
      now l =
          let e : c.number ≡ i + 1 = let a = c.later in omega (arith, a, l) in
          let same : c.argument ≡ t = same_Some c.argument t (sym c.at ∙ ap (at_number (list_of (args_of spot.term.now))) e ∙ at) in
          inl (subst (λ x. IsReached sig x u) same c.reached, λ f ts q. subst (IsOpen sig true f) e (c.free f ts q))

  -- an argument that isn't listed
  pub passed : ((u : RawTerm) → IsReached sig t u → IsWanted w u → ((f : ℕ) (ts : RawTerms) → spot.term.now ≡ apply f ts → IsOpen sig true f (i + 1)) → ⊥) → AreUpTo sig w root n spot (i + 1) spots
  passed none = record {
    sound = h.sound;
    there = h.there;
    complete = λ u r k. ⊎_elim (λ x. inl x) (⊎_elim (λ x. inr (inl x)) (λ c. ⊎_elim (λ z. absurd (none u z.0 k z.1)) (λ z. inr (inr z)) (here_or_later u c))) (h.complete u r k);
  }

  -- an argument that is
  pub listed : (new : Spot) → new.term.now ≡ t → new.parent ≡ n → new.number ≡ i + 1 → ((f : ℕ) (ts : RawTerms) → spot.term.now ≡ apply f ts → IsOpen sig true f (i + 1)) → AreUpTo sig w root n spot (i + 1) (spots ++ new ∷ [])
  listed new term parent number open_there = record {
    sound = λ j s e. ⊎_elim (λ k. stays j s (h.sound j s k)) (λ k. subst (IsSpot sig root all j) k.1 (subst (λ x. IsSpot sig root all x new) (sym k.0) (is_new (shape spot.term.now refl)))) (get_pushed spots new j s e);
    there = get_left spots (new ∷ []) n spot h.there;
    complete = λ u r k. ⊎_elim
        (λ (s, m, e). inl (s, member-left s spots (new ∷ []) m, e))
        (⊎_elim
        (λ (s, m, way). inr (inl (s, subst (Member s) (sym behind) (member-left s (drop (n + 1) spots) (new ∷ []) m), way)))
        (λ c. ⊎_elim (λ z. inr (inl (new, subst (Member new) (sym behind) (member-last new (drop (n + 1) spots)), subst (λ x. IsReached sig x u) (sym term) z.0))) (λ z. inr (inr z)) (here_or_later u c)))
        (h.complete u r k);
  }
    where
      all : List Spot
      all = spots ++ new ∷ []

      below : n < length spots
      below = got_below spots n spot h.there

      behind : drop (n + 1) all ≡ drop (n + 1) spots ++ new ∷ []
      behind = drop_pushed (n + 1) spots new (omega (arith, below))

      stays : (j : ℕ) (s : Spot) → IsSpot sig root spots j s → IsSpot sig root all j s
      stays j s x = record { reached = x.reached; placed = ⊎_elim (λ a. inl a) (λ (p, e, low, f, ts, is, at, o). inr (p, get_left spots (new ∷ []) s.parent p e, low, f, ts, is, at, o)) x.placed }

      nothing : list_of (args_of spot.term.now) ≡ [] → ⊥
      nothing e = let b = (number_below (list_of (args_of spot.term.now)) (i + 1) t at).1 in let z = ap length e in omega (arith, b, z)

      -- it has arguments
      shape : (v : RawTerm) → spot.term.now ≡ v → (f : ℕ) × (ts : RawTerms) × (spot.term.now ≡ apply f ts)
      shape (numeral m) e = absurd (nothing (ap (λ x. list_of (args_of x)) e))
      shape (quoted q) e = absurd (nothing (ap (λ x. list_of (args_of x)) e))
      shape (variable x) e = absurd (nothing (ap (λ x. list_of (args_of x)) e))
      shape (apply f ts) e = (f, ts, e)

      is_new : (f : ℕ) × (ts : RawTerms) × (spot.term.now ≡ apply f ts) → IsSpot sig root all (length spots) new
      is_new (f, ts, e) =
          let before : IsReached sig root (apply f ts) = subst (IsReached sig root) e (h.sound n spot h.there).reached in
          let there : at_number (list_of ts) (i + 1) ≡ Some new.term.now = subst (λ x. at_number (list_of (args_of x)) (i + 1) ≡ Some t) e at ∙ ap Some (sym term) in
          let o : IsOpen sig true f (i + 1) = open_there f ts e in
          record {
            reached = IsReached.argument f ts (i + 1) new.term.now before there o;
            placed = inr (spot, subst (λ x. slice_get all x ≡ Some spot) (sym parent) (get_left spots (new ∷ []) n spot h.there), subst (λ x. x < length spots) (sym parent) below, f, ts, e, subst (λ x. at_number (list_of ts) x ≡ Some new.term.now) (sym number) there, subst (IsOpen sig true f) (sym number) o);
          }

-- the root alone
pub root_alone : (sig : Signature) (w : Wanted) (root : RawTerm) (spot : Spot) → spot.term.now ≡ root → AreSpots sig w root 0 (spot ∷ [])
root_alone sig w root spot e = record {
  sound = λ j s at. first j s at;
  complete = λ u r k. inr (spot, inl refl, subst (λ x. IsReached sig x u) (sym e) r);
}
  where
    first : (j : ℕ) (s : Spot) → slice_get (spot ∷ []) j ≡ Some s → IsSpot sig root (spot ∷ []) j s
    first zero s at =
        let z : spot ≡ s = same_Some spot s at in
        let t : s.term.now ≡ root = ap (λ (x : Spot). x.term.now) (sym z) ∙ e in
        record { reached = subst (IsReached sig root) (sym t) IsReached.itself; placed = inl (refl, t) }
    first (suc j) s at = cc

-- no part is left
pub all_listed : (sig : Signature) (w : Wanted) (root : RawTerm) (n : ℕ) (spots : List Spot) → length spots ≤ n → AreSpots sig w root n spots → AreAllSpots sig w root spots
all_listed sig w root n spots l h = record {
  sound = h.sound;
  complete = λ u r k. ⊎_elim (λ x. x) (λ (s, m, way). absurd (none n spots s l m)) (h.complete u r k);
}
  where
    none : (n : ℕ) (xs : List Spot) (s : Spot) → length xs ≤ n → Member s (drop n xs) → ⊥
    none zero [] s l m = m
    none zero (x ∷ xs) s l m = omega (arith, l)
    none (suc n) [] s l m = m
    none (suc n) (x ∷ xs) s l m = none n xs s (omega (arith, l)) m

-- an argument of that number isn't frozen, where the term has an operator
pub open_argument : (sig : Signature) (v : RawTerm) (k : ℕ) → ((f : ℕ) (ts : RawTerms) → v ≡ apply f ts → IsOpen sig true f k) → IsOpenArgument sig true v k
open_argument sig (numeral n) k h = tt
open_argument sig (quoted q) k h = tt
open_argument sig (variable x) k h = tt
open_argument sig (apply f ts) k h = h f ts refl

-- what has this operator on top
pub operator_is : (t : RawTerm) (f : ℕ) → operator_of t ≡ Some f → (ts : RawTerms) × (t ≡ apply f ts)
operator_is (numeral n) f e = cc
operator_is (quoted q) f e = cc
operator_is (variable x) f e = cc
operator_is (apply g ts) f e = (ts, ap (λ h. apply h ts) (same_Some g f e))
