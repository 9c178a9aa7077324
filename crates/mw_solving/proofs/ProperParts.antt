-- The matches for proper parts of a term on arguments: with some arguments left behind, or all from a number on.
use Rattle.std.specs.Prelude.{◌≡◌, ◌≤◌, ◌<◌, ◌+◌, ◌-◌, ◌⊎◌, ℕ, zero, suc, List, [], ◌∷◌, ◌++◌, length, Bool, true, false, cond, Option, Some, None, refl}
use Rattle.std.proofs.Common.{inl, inr, ap, sym, subst, ◌∙◌, arith, append-nil}
use Rattle.std.proofs.lemmas.Bool.{both_ways}
use Rattle.std.proofs.lemmas.Option.{same_Some}
use Rattle.mw_logic.specs.Term.{RawTerm, apply, RawTerms, nil, cons, join}
use Rattle.mw_logic.specs.Terms.{front, skip}
use Rattle.mw_logic.specs.Signature.{Signature}
use Rattle.mw_logic.specs.Accepted.{IsAccepted}
use Rattle.mw_logic.specs.CanonicalPart.{AreSeveral, IsCut}
use Rattle.mw_logic.specs.Parts.{is_assoc, number_of_terms}
use Rattle.mw_logic.specs.TermOrder.{sorted_terms}
use Rattle.mw_logic.specs.NormalForm.{is_comm, identity_of, is_identity, arranged}
use Rattle.mw_logic.proofs.Canonical.{IsCanonical, assoc-true}
use Rattle.mw_logic.proofs.Inside.{associative}
use Rattle.mw_logic.proofs.SortLaws.{join-nil, sorted_terms-right, sorted_terms-idempotent}
use Rattle.mw_logic.proofs.SortedLists.{Climbs, climbs, sorted_terms-climbing}
use Rattle.mw_split.specs.Lists.{AllOnce}
use Rattle.mw_position.specs.Positions.{counted, IsNumbered}
use Rattle.mw_arguments.specs.Places.{chosen, others, Rise, Follow, numbers_of}
use Rattle.mw_arguments.proofs.ListPieces.{front_join, join_parts, number_join, number_skip}
use Rattle.mw_arguments.proofs.Once.{once_mapped, once_flat_mapped, once_same}
use Rattle.mw_arguments.proofs.Places.{chosen_whole, chosen_climbs, numbers_rise, numbers_choose}
use Rattle.mw_matching.specs.Matches.{Theory, Fits, IsMatch, HasArities}
use Rattle.mw_matching.specs.Patterns.{theory}
use Rattle.mw_matching.specs.Found.{Values, fits, is_single, found, numbers_from}
use Rattle.mw_matching.proofs.FoundMatches.{found_once}
use Rattle.mw_matching.proofs.FoundRows.{numbers_once}
use Rattle.mw_matching.proofs.FoundShares.{AreElementsOf}
use Rattle.mw_matching.proofs.Multisets.{within_joined}
use Rattle.mw_solving.specs.Values.{IsValue}
use Rattle.mw_solving.specs.Inside.{AreLeast, IsProperPart, Entry, end_entry, left_entries, end_entries, entries_from}
use Rattle.mw_solving.proofs.Members.{once_joined}
use Rattle.mw_solving.proofs.Numbers.{chosen_number, least_numbers, numbers_least, length_from, chosen_from, rise_from, follow_from, from_follow}
use Rattle.mw_solving.proofs.Parts.{several_from, several_number, number_arranged, arguments_are, behind_are, several_canonical, arguments_several, part_value}
use Rattle.mw_solving.proofs.Lefts.{IsLeft, sizes, lefts_once}

-- what is taken is a proper part of t, and it is an instance of p by these values
abbrev pub HasPart : Signature → Theory → RawTerm → RawTerm → Values → Option (List ℕ) → Values → Type 0
HasPart sig T p t vs None us = ⊥
HasPart sig T p t vs (Some ks) us = (w : RawTerm) × IsProperPart sig ks t w × IsMatch sig T p w vs us

front_all : (ts : RawTerms) (n : ℕ) → n ≡ number_of_terms ts → front n ts ≡ ts
front_all nil zero e = refl
front_all nil (suc n) e = refl
front_all (cons t ts) zero e = absurd (omega (arith, e))
front_all (cons t ts) (suc n) e = ap (cons t) (front_all ts n (omega (arith, e)))

-- numbers that begin at one and are not none
abbrev Starts : ℕ → ℕ → Option (List ℕ) → Type 0
Starts i count o = (1 ≤ count) × (o ≡ Some (numbers_from (suc i) count))

starts_same : (i j a b : ℕ) (o : Option (List ℕ)) → Starts i a o → Starts j b o → (i ≡ j) × (a ≡ b)
starts_same i j zero b o (l, w) (k, v) = absurd (omega (arith, l))
starts_same i j (suc a) zero o (l, w) (k, v) = absurd (omega (arith, k))
starts_same i j (suc a) (suc b) o (l, w) (k, v) =
    let e : numbers_from (suc i) (suc a) ≡ numbers_from (suc j) (suc b) = same_Some (numbers_from (suc i) (suc a)) (numbers_from (suc j) (suc b)) (sym w ∙ v) in
    let first : suc i ≡ suc j = cc in
    (omega (arith, first), sym (length_from (suc i) (suc a)) ∙ ap length e ∙ length_from (suc j) (suc b))

module _ (sig : Signature) (ok : IsAccepted sig) (f : ℕ) (h : is_assoc sig f ≡ true) (args : RawTerms) where
  abbrev c : Bool
  c = is_comm sig f

  -- what numbers take of the operator's arguments
  pub record IsChosen (ks : List ℕ) (w : RawTerm) : Type 0 where
    pub rise : Rise 1 (suc (number_of_terms args)) ks
    pub several : AreSeveral (chosen 1 ks args)
    pub follow : c ≡ false → Follow ks
    pub least : c ≡ true → AreLeast ks args
    pub proper : length ks < number_of_terms args
    pub part : w ≡ apply f (chosen 1 ks args)

  pub chosen_part : (ks : List ℕ) (w : RawTerm) → IsChosen ks w → IsProperPart sig ks (apply f args) w
  chosen_part ks w d = record {
    takes = record {
      operator = f;
      args = args;
      term = refl;
      assoc = associative sig ok f h;
      rise = d.rise;
      several = d.several;
      follow = d.follow;
      part = d.part;
    };
    proper = d.proper;
    least = d.least;
  }

  pub part_chosen : (ks : List ℕ) (w : RawTerm) → IsProperPart sig ks (apply f args) w → IsChosen ks w
  part_chosen ks w d =
      let g : ℕ = d.takes.operator in
      let ts : RawTerms = d.takes.args in
      let t : apply f args ≡ apply g ts = d.takes.term in
      let is_f : g ≡ f = cc in
      let is_args : ts ≡ args = cc in
      record {
        rise = subst (λ ts. Rise 1 (suc (number_of_terms ts)) ks) is_args d.takes.rise;
        several = subst (λ ts. AreSeveral (chosen 1 ks ts)) is_args d.takes.several;
        follow = λ n. d.takes.follow (ap (is_comm sig) is_f ∙ n);
        least = λ n. subst (AreLeast ks) is_args (d.least (ap (is_comm sig) is_f ∙ n));
        proper = subst (λ ts. length ks < number_of_terms ts) is_args d.proper;
        part = d.takes.part ∙ ap (λ g. apply g (chosen 1 ks ts)) is_f ∙ ap (λ ts. apply f (chosen 1 ks ts)) is_args;
      }

  -- what numbers choose
  pub own_part : (ks : List ℕ) (own : RawTerms) → chosen 1 ks args ≡ own → Rise 1 (suc (number_of_terms args)) ks → AreSeveral own → number_of_terms own < number_of_terms args
      → (c ≡ false → Follow ks) → (c ≡ true → AreLeast ks args) → IsProperPart sig ks (apply f args) (apply f own)
  own_part ks own w r s l follow least =
      let n = chosen_number 1 ks args (subst (λ n. Rise 1 n ks) (omega arith) r) in
      let m : number_of_terms (chosen 1 ks args) ≡ number_of_terms own = ap number_of_terms w in
      chosen_part ks (apply f own) (record {
        rise = r;
        several = subst AreSeveral (sym w) s;
        follow = follow;
        least = least;
        proper = omega (arith, n, m, l);
        part = ap (apply f) (sym w);
      })

  -- neighbours that numbers choose, and the arguments behind them, are all from the first of them on
  pub neighbours : (i : ℕ) (ks : List ℕ) → Follow (suc i ∷ ks) → join (chosen 1 (suc i ∷ ks) args) (skip (suc (length ks)) (skip i args)) ≡ skip i args
  neighbours i ks follow =
      let count : ℕ = suc (length ks) in
      let own : chosen 1 (suc i ∷ ks) args ≡ front count (skip i args) = ap (λ ks. chosen 1 ks args) (from_follow (suc i) ks follow) ∙ chosen_from i count args in
      ap (λ ts. join ts (skip count (skip i args))) own ∙ join_parts count (skip i args)

  -- what they choose is cut out of the arguments
  pub chosen_cut : (ks : List ℕ) (w : RawTerm) → IsChosen ks w → arranged c args ≡ args → IsCut c args (chosen 1 ks args)
  chosen_cut ks w d order = by_comm c refl order
    where
      row : (ks : List ℕ) → Rise 1 (suc (number_of_terms args)) ks → AreSeveral (chosen 1 ks args) → Follow ks → IsCut false args (chosen 1 ks args)
      row [] r s follow = absurd s
      row (zero ∷ ks) r s follow = let a = r.0 in absurd (omega (arith, a))
      row (suc i ∷ ks) r s follow = record {
        before = front i args;
        after = skip (suc (length ks)) (skip i args);
        whole = ap (join (front i args)) (neighbours i ks follow) ∙ join_parts i args;
        in_order = refl;
      }

      by_comm : (b : Bool) → c ≡ b → arranged b args ≡ args → IsCut b args (chosen 1 ks args)
      by_comm true q o = record {
        before = nil;
        after = others 1 ks args;
        whole = chosen_whole 1 ks args ∙ o;
        in_order = sorted_terms-climbing (chosen 1 ks args) (chosen_climbs 1 ks args (climbs args o));
      }
      by_comm false q o = row ks d.rise d.several (d.follow q)

-- a proper part of a value is one
pub proper_value : (sig : Signature) → IsAccepted sig → (ks : List ℕ) (t w : RawTerm) → IsProperPart sig ks t w → IsValue sig t → IsValue sig w
proper_value sig ok ks t w d v =
    let f : ℕ = d.takes.operator in
    let args : RawTerms = d.takes.args in
    let h : is_assoc sig f ≡ true = assoc-true sig f d.takes.assoc.operator d.takes.assoc.is_there d.takes.assoc.assoc in
    let vt : IsValue sig (apply f args) = subst (IsValue sig) d.takes.term v in
    let s : AreSeveral args = arguments_several sig ok f h args vt in
    let q : IsChosen sig ok f h args ks w = part_chosen sig ok f h args ks w (subst (λ t. IsProperPart sig ks t w) d.takes.term d) in
    let cut = chosen_cut sig ok f h args ks w q (arguments_are sig ok f h args s vt.canonical).order in
    subst (IsValue sig) (sym q.part) (part_value sig ok f h args (chosen 1 ks args) s vt q.several cut)

module _ (sig : Signature) (ok : IsAccepted sig) (single : List (List ℕ)) (f : ℕ) (h : is_assoc sig f ≡ true) (p : RawTerm) (named : is_identity (identity_of sig f) p ≡ false) (vs : Values) (m : ℕ) (met : counted (length vs) p ≡ m) (args : RawTerms) where
  abbrev T : Theory
  T = theory sig (fits sig single) (is_single single)

  abbrev n : ℕ
  n = number_of_terms args

  abbrev Left : ℕ → Entry → Type 0
  Left i x = IsLeft sig ok single f h p named vs m met args i x

  abbrev Proper : Entry → Type 0
  Proper x = HasPart sig T p (apply f args) vs x.0 x.1

  -- all arguments from number j on
  abbrev End : ℕ → Entry → Type 0
  End j x = (x.0 ≡ Some (numbers_from (suc j) (n - j))) × IsMatch sig T p (apply f (skip j args)) vs x.1

  -- commutative
  module _ (ac : is_comm sig f ≡ true) (order : sorted_terms args ≡ args) where
    left_proper : (x : Entry) → 2 ≤ n → Left 0 x → Proper x
    left_proper x two y =
        let w : sorted_terms (join y.own y.left) ≡ args = subst (λ b. arranged b (join y.own y.left) ≡ args) ac y.whole in
        let own : Climbs y.own = climbs y.own (subst (λ b. arranged b y.own ≡ y.own) ac y.own_order) in
        let all : Climbs args = climbs args order in
        let size = sizes sig ok single f h p named vs m met args 0 (λ _. refl) (omega (arith, two)) y.own y.left y.whole in
        let some = y.some in
        let is_taken : x.0 ≡ Some (numbers_of 1 y.own args) = y.taken ∙ ap (λ b. Some (cond b (numbers_of 1 y.own args) (numbers_from 1 (number_of_terms y.own)))) ac in
        subst (λ o. HasPart sig T p (apply f args) vs o x.1) (sym is_taken) (
          apply f y.own,
          own_part sig ok f h args (numbers_of 1 y.own args) y.own (numbers_choose 1 y.own args own all (record { others = y.left; whole = w }))
              (subst (λ n. Rise 1 n (numbers_of 1 y.own args)) (omega arith) (numbers_rise 1 y.own args)) y.several (omega (arith, size, some))
              (λ k. absurd (both_ways _ k ac)) (λ k. numbers_least y.own args own all (within_joined y.own y.left args own w)),
          y.match,
        )

    proper_left : (x : Entry) → Proper x → Left 0 x
    proper_left (None, us) k = absurd k
    proper_left (Some ks, us) (w, d, mt) =
        let q = part_chosen sig ok f h args ks w d in
        let own : RawTerms = chosen 1 ks args in
        let left : RawTerms = sorted_terms (others 1 ks args) in
        let whole : sorted_terms (join own left) ≡ args = sorted_terms-right own (others 1 ks args) ∙ chosen_whole 1 ks args ∙ order in
        let size : number_of_terms (join own left) ≡ n = sym (number_arranged true (join own left)) ∙ ap number_of_terms whole in
        let parts = number_join own left in
        let count = chosen_number 1 ks args (subst (λ n. Rise 1 n ks) (omega arith) q.rise) in
        let less = q.proper in
        let own_order : sorted_terms own ≡ own = sorted_terms-climbing own (chosen_climbs 1 ks args (climbs args order)) in
        record {
          own = own;
          left = left;
          match = subst (λ w. IsMatch sig T p w vs us) q.part mt;
          several = q.several;
          some = omega (arith, size, parts, count, less);
          own_order = subst (λ b. arranged b own ≡ own) (sym ac) own_order;
          left_order = subst (λ b. arranged b left ≡ left) (sym ac) (sorted_terms-idempotent (others 1 ks args));
          whole = subst (λ b. arranged b (join own left) ≡ args) (sym ac) whole;
          taken = ap Some (sym (least_numbers ks args q.rise (q.least ac))) ∙ ap (λ b. Some (cond b (numbers_of 1 own args) (numbers_from 1 (number_of_terms own)))) (sym ac);
        }

  -- not commutative
  module _ (nc : is_comm sig f ≡ false) where
    none : {X : Type 0} → is_comm sig f ≡ true → X
    none k = absurd (both_ways _ nc k)

    in_list : (own left : RawTerms) (i : ℕ) → arranged (is_comm sig f) (join own left) ≡ skip i args → join own left ≡ skip i args
    in_list own left i w = subst (λ b. arranged b (join own left) ≡ skip i args) nc w

    left_taken : (i : ℕ) (x : Entry) (y : Left i x) → x.0 ≡ Some (numbers_from (suc i) (number_of_terms y.own))
    left_taken i x y = y.taken ∙ ap (λ b. Some (cond b (numbers_of 1 y.own args) (numbers_from (suc i) (number_of_terms y.own)))) nc

    left_proper_row : (i : ℕ) (x : Entry) → i + 2 ≤ n → Left i x → Proper x
    left_proper_row i x room y =
        let count : ℕ = number_of_terms y.own in
        let size = sizes sig ok single f h p named vs m met args i none room y.own y.left y.whole in
        let some = y.some in
        subst (λ o. HasPart sig T p (apply f args) vs o x.1) (sym (left_taken i x y)) (
          apply f y.own,
          own_part sig ok f h args (numbers_from (suc i) count) y.own (chosen_from i count args ∙ ap (front count) (sym (in_list y.own y.left i y.whole)) ∙ front_join y.own y.left)
              (rise_from 1 (suc i) count (suc n) (omega arith) (omega (arith, size))) y.several (omega (arith, size, some)) (λ k. follow_from (suc i) count) none,
          y.match,
        )

    end_proper : (j : ℕ) (x : Entry) → 1 ≤ j → j + 2 ≤ n → End j x → Proper x
    end_proper j x one room (w, mt) =
        let size = number_skip j args in
        subst (λ o. HasPart sig T p (apply f args) vs o x.1) (sym w) (
          apply f (skip j args),
          own_part sig ok f h args (numbers_from (suc j) (n - j)) (skip j args) (chosen_from j (n - j) args ∙ front_all (skip j args) (n - j) (sym size))
              (rise_from 1 (suc j) (n - j) (suc n) (omega arith) (omega (arith, room))) (several_from (skip j args) (omega (arith, size, room))) (omega (arith, size, one, room)) (λ k. follow_from (suc j) (n - j)) none,
          mt,
        )

    abbrev Behind : Entry → Type 0
    Behind x = (j : ℕ) × ((1 ≤ j) × (j < 1 + (n - 2))) × (End j x ⊎ Left j x)

    -- neighbours that are an instance
    stretch : (i count : ℕ) (us : Values) (own left : RawTerms) → join own left ≡ skip i args → number_of_terms own ≡ count → 2 ≤ count → count < n → count + number_of_terms left + i ≡ n → AreSeveral own
        → IsMatch sig T p (apply f own) vs us → Left 0 (Some (numbers_from (suc i) count), us) ⊎ Behind (Some (numbers_from (suc i) count), us)
    stretch i count us own nil w k two less size s mt =
        let is_own : own ≡ skip i args = sym (join-nil own) ∙ w in
        inr (i, (omega (arith, size, less), omega (arith, size, two)), inl (ap (λ n. Some (numbers_from (suc i) n)) (omega (arith, size)), subst (λ ts. IsMatch sig T p (apply f ts) vs us) is_own mt))
    stretch i count us own (cons z zs) w k two less size s mt = by_start i size here
      where
        here : Left i (Some (numbers_from (suc i) count), us)
        here = record {
          own = own;
          left = cons z zs;
          match = mt;
          several = s;
          some = omega arith;
          own_order = rw nc refl;
          left_order = rw nc refl;
          whole = rw nc w;
          taken = ap (λ n. Some (numbers_from (suc i) n)) (sym k) ∙ ap (λ b. Some (cond b (numbers_of 1 own args) (numbers_from (suc i) (number_of_terms own)))) (sym nc);
        }

        by_start : (j : ℕ) → count + suc (number_of_terms zs) + j ≡ n → Left j (Some (numbers_from (suc i) count), us) → Left 0 (Some (numbers_from (suc i) count), us) ⊎ Behind (Some (numbers_from (suc i) count), us)
        by_start zero size y = inl y
        by_start (suc j) size y = inr (suc j, (omega arith, omega (arith, size, two)), inr y)

    of_numbers : (ks : List ℕ) (us : Values) → Rise 1 (suc n) ks → AreSeveral (chosen 1 ks args) → Follow ks → length ks < n → IsMatch sig T p (apply f (chosen 1 ks args)) vs us → Left 0 (Some ks, us) ⊎ Behind (Some ks, us)
    of_numbers [] us r s fo l mt = absurd s
    of_numbers (zero ∷ ls) us r s fo l mt = let a = r.0 in absurd (omega (arith, a))
    of_numbers (suc i ∷ ls) us r s fo l mt =
        let count : ℕ = suc (length ls) in
        let own : RawTerms = chosen 1 (suc i ∷ ls) args in
        let left : RawTerms = skip count (skip i args) in
        let numbers : suc i ∷ ls ≡ numbers_from (suc i) count = from_follow (suc i) ls fo in
        let whole : join own left ≡ skip i args = neighbours sig ok f h args i ls fo in
        let is_count : number_of_terms own ≡ count = chosen_number 1 (suc i ∷ ls) args (subst (λ n. Rise 1 n (suc i ∷ ls)) (omega arith) r) in
        let parts : number_of_terms own + number_of_terms left ≡ number_of_terms (skip i args) = sym (number_join own left) ∙ ap number_of_terms whole in
        let size = number_skip i args in
        let two = several_number own s in
        subst (λ ks. Left 0 (Some ks, us) ⊎ Behind (Some ks, us)) (sym numbers)
        (stretch i count us own left whole is_count (omega (arith, two, is_count)) l (omega (arith, parts, size, two, is_count)) s mt)

    proper_row : (x : Entry) → Proper x → Left 0 x ⊎ Behind x
    proper_row (None, us) k = absurd k
    proper_row (Some ks, us) (w, d, mt) =
        let q = part_chosen sig ok f h args ks w d in
        of_numbers ks us q.rise q.several (q.follow nc) q.proper (subst (λ w. IsMatch sig T p w vs us) q.part mt)

    row_proper : (x : Entry) → 2 ≤ n → Left 0 x ⊎ Behind x → Proper x
    row_proper x two (inl y) = left_proper_row 0 x (omega (arith, two)) y
    row_proper x two (inr (j, (a, b), inl y)) = end_proper j x a (omega (arith, b, two)) y
    row_proper x two (inr (j, (a, b), inr y)) = left_proper_row j x (omega (arith, b, two)) y

    -- where they begin
    left_starts : (i : ℕ) (x : Entry) (y : Left i x) → Starts i (number_of_terms y.own) x.0
    left_starts i x y = let l = several_number y.own y.several in (omega (arith, l), left_taken i x y)

    end_starts : (j : ℕ) (x : Entry) → j + 2 ≤ n → End j x → Starts j (n - j) x.0
    end_starts j x room y = (omega (arith, room), y.0)

    apart : (j : ℕ) (x : Entry) → j + 2 ≤ n → End j x → Left j x → ⊥
    apart j x room y z =
        let a = (starts_same j j (n - j) (number_of_terms z.own) x.0 (end_starts j x room y) (left_starts j x z)).1 in
        let size = sizes sig ok single f h p named vs m met args j none room z.own z.left z.whole in
        let some = z.some in
        omega (arith, a, size, some, room)

    begins_at : (j : ℕ) (x : Entry) → j + 2 ≤ n → End j x ⊎ Left j x → (count : ℕ) × Starts j count x.0
    begins_at j x room (inl y) = (n - j, end_starts j x room y)
    begins_at j x room (inr y) = (number_of_terms y.own, left_starts j x y)

    one_start : (x : Entry) (i j : ℕ) → i + 2 ≤ n → j + 2 ≤ n → End i x ⊎ Left i x → End j x ⊎ Left j x → i ≡ j
    one_start x i j a b y z =
        let (k, s) = begins_at i x a y in
        let (l, t) = begins_at j x b z in
        (starts_same i j k l x.0 s t).0

  -- they are listed
  module _ (two : 2 ≤ n) (g : Fits sig T 0 vs) (numbered : IsNumbered (length vs) p) (a : HasArities sig p) (kt : IsCanonical sig (apply f args)) (free : length single ≤ m) where
    arguments : AreElementsOf sig ok f h args
    arguments = arguments_are sig ok f h args (several_from args two) kt

    lefts : (i : ℕ) → (is_comm sig f ≡ true → i ≡ 0) → i + 2 ≤ n → AllOnce (Left i) (left_entries sig single p m vs f args i)
    lefts i first room = lefts_once sig ok single f h p named vs m met args i first room g numbered a kt free

    comm_once : is_comm sig f ≡ true → AllOnce Proper (left_entries sig single p m vs f args 0 ++ [])
    comm_once ac =
        let order : sorted_terms args ≡ args = subst (λ b. arranged b args ≡ args) ac arguments.order in
        subst (AllOnce Proper) (sym (append-nil (left_entries sig single p m vs f args 0)))
        (once_same (Left 0) Proper (left_entries sig single p m vs f args 0) (λ x y. left_proper ac order x two y) (proper_left ac order) (lefts 0 (λ _. refl) (omega (arith, two))))

    module _ (nc : is_comm sig f ≡ false) where
      ends : (j : ℕ) → j + 2 ≤ n → AllOnce (End j) (end_entries sig single p m vs f args j)
      ends j room =
          let size = number_skip j args in
          let z = behind_are sig ok f h j args (none nc) arguments in
          let k : IsCanonical sig (apply f (skip j args)) = several_canonical sig ok f h (skip j args) z (several_from (skip j args) (omega (arith, size, room))) in
          once_mapped (IsMatch sig T p (apply f (skip j args)) vs) (End j) (end_entry sig f args j) (found sig single p (apply f (skip j args)) vs) (found_once sig ok single p (apply f (skip j args)) vs a numbered g k)
          (λ us mt. (refl, mt)) (λ x y. (x.1, y.1, ap {B = Entry} (λ o. (o, x.1)) (sym y.0))) (λ us ws mt nt e. ap (λ (x : Entry). x.1) e)

      behinds : AllOnce (Behind nc) (entries_from sig single p m vs f args 1 (n - 2))
      behinds =
          once_flat_mapped (λ j. (1 ≤ j) × (j < 1 + (n - 2))) (λ j x. End j x ⊎ Left j x) (λ j. end_entries sig single p m vs f args j ++ left_entries sig single p m vs f args j) (numbers_from 1 (n - 2))
          (numbers_once 1 (n - 2))
          (λ j b. (let l = b.1 in let room : j + 2 ≤ n = omega (arith, l, two) in once_joined (End j) (Left j) _ _ (ends j room) (lefts j (none nc) room) (λ x y z. apart nc j x room y z)))
          (λ x i j b d y z. (let k = b.1 in let l = d.1 in one_start nc x i j (omega (arith, k, two)) (omega (arith, l, two)) y z))

      row_once : AllOnce Proper (left_entries sig single p m vs f args 0 ++ entries_from sig single p m vs f args 1 (n - 2))
      row_once =
          once_same (λ x. Left 0 x ⊎ Behind nc x) Proper _ (λ x y. row_proper nc x two y) (proper_row nc)
          (once_joined (Left 0) (Behind nc) _ _ (lefts 0 (none nc) (omega (arith, two))) behinds
          (λ x y z. (let (j, b, d) = z in let k = b.0 in let l = b.1 in let i = one_start nc x 0 j (omega (arith, two)) (omega (arith, l, two)) (inr y) d in omega (arith, i, k))))

    pub parts_once : AllOnce Proper (left_entries sig single p m vs f args 0 ++ cond (is_comm sig f) [] (entries_from sig single p m vs f args 1 (n - 2)))
    parts_once = by_comm (is_comm sig f) refl
      where
        by_comm : (b : Bool) → is_comm sig f ≡ b → AllOnce Proper (left_entries sig single p m vs f args 0 ++ cond b [] (entries_from sig single p m vs f args 1 (n - 2)))
        by_comm true k = comm_once k
        by_comm false k = row_once k
