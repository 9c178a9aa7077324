-- Marks of the levels, from the last one on, and the walk along them.
use Rattle.std.proofs.Common.{◌≡◌, ◌∙◌, ℕ, zero, suc, ◌<◌, ◌≤◌, ◌+◌, ◌-◌, List, [], ◌∷◌, ◌++◌, length, take, drop, map, get_or, refl, ap, sym, subst, arith, length-append, append_assoc}
use Rattle.std.specs.Prelude.{slice_get, Option, Some, None, Bool, true, false, is_none, is_some, option_map, ◌||◌}
use Rattle.std.proofs.lemmas.Bool.{both_ways, or_left, or_right}
use Rattle.std.proofs.lemmas.List.{length-map, append-nil, drop_all, map-append, take_all, take_more}
use Rattle.std.proofs.lemmas.Option.{get_or_from_slice_get}
use Rattle.mw_logic.specs.Signature.{Sorted}
use Rattle.mw_sorts.specs.Diagrams.{Row, Level}
use Rattle.mw_sorts.specs.Sorting.{Sorting}
use Rattle.mw_sorts.specs.Marks.{width, AreLinked, HaveEntries, is_marked, marks_of, marks_behind, IsFirstMarked, IsFirstStep, IsFirstWalk}
use Rattle.mw_sorts.proofs.Getting.{some_same, get-none, get-left, get-last, get-same, get-map, drop-get, take-get}

-- the levels behind `rest` are marked
pub record AreMarkedSoFar (levels : List Level) (missing : List Bool) (rest : List Level) (marks : List Bool) (behind : List (List Bool)) : Type 0 where
  pub done : List Level
  pub split : levels ≡ rest ++ done
  pub marked : marks ≡ marks_of done missing
  pub stacked : behind ≡ marks_behind done missing

marked-somewhere : (marks : List Bool) (row : Row) (p n : ℕ) → slice_get row p ≡ Some n → get_or marks n false ≡ true → is_marked marks row ≡ true
marked-somewhere marks [] p n e m = absurd (get-none e)
marked-somewhere marks (x ∷ row) zero n e m = or_left _ _ (subst (λ (k : ℕ). get_or marks k false ≡ true) (sym (some_same e)) m)
marked-somewhere marks (x ∷ row) (suc p) n e m = or_right _ _ (marked-somewhere marks row p n e m)

marked-nowhere : (marks : List Bool) (row : Row) → ((j other : ℕ) → slice_get row j ≡ Some other → get_or marks other false ≡ false) → is_marked marks row ≡ false
marked-nowhere marks [] h = refl
marked-nowhere marks (x ∷ row) h = neither (h 0 x refl) (marked-nowhere marks row (λ j other e. h (suc j) other e))
  where
    neither : {a b : Bool} → a ≡ false → b ≡ false → (a || b) ≡ false
    neither {a} {b} e f = rw (e, f) refl

-- a row is marked where a first mark was found
pub marked-found : (row : Row) (marks : List Bool) (r : Option ℕ) → IsFirstMarked row marks r → is_some r ≡ is_marked marks row
marked-found row marks (Some p) h = sym (marked-somewhere marks row p (h.0).0 (h.0).1 (h.0).2)
marked-found row marks None h = sym (marked-nowhere marks row h)

-- where a row is marked, a first mark is found
pub found-there : (row : Row) (marks : List Bool) → IsFirstMarked row marks None → is_marked marks row ≡ true → ⊥
found-there row marks h e = both_ways _ (marked-nowhere marks row h) e

marks-length : (ls : List Level) (missing : List Bool) → length (marks_of ls missing) ≡ width ls (length missing)
marks-length [] missing = refl
marks-length (l ∷ ls) missing = length-map l (is_marked (marks_of ls missing))

linked-behind : (ls done : List Level) (n : ℕ) → AreLinked (ls ++ done) n → AreLinked done n
linked-behind [] done n h = h
linked-behind (l ∷ ls) done n h = linked-behind ls done n h.1

-- a level leads to the marks behind it
linked-marks : (l : Level) (done : List Level) (missing marks : List Bool) (n : ℕ) → n ≡ length missing → AreLinked (l ∷ done) n → marks ≡ marks_of done missing
    → (q : ℕ) (row : Row) (p next : ℕ) → slice_get l q ≡ Some row → slice_get row p ≡ Some next → next < length marks
linked-marks l done missing marks n e h m q row p next g f =
    let u = h.0 q row p next g f in
    let v : length (marks_of done missing) ≡ width done n = marks-length done missing ∙ ap (λ (k : ℕ). width done k) (sym e) in
    subst (λ (xs : List Bool). next < length xs) (sym m) (omega arith)

-- the last level that isn't marked yet
module _ (levels : List Level) (missing : List Bool) (rest before : List Level) (level : Level) (marks : List Bool) (behind : List (List Bool)) (h : AreMarkedSoFar levels missing rest marks behind) (e : rest ≡ before ++ level ∷ []) where
  split-more : levels ≡ before ++ (level ∷ h.done)
  split-more = h.split ∙ ap (λ (ls : List Level). ls ++ h.done) e ∙ append_assoc before (level ∷ []) h.done

  pub level-linked : (n : ℕ) → n ≡ length missing → AreLinked levels n → (q : ℕ) (row : Row) (p next : ℕ) → slice_get level q ≡ Some row → slice_get row p ≡ Some next → next < length marks
  level-linked n m l = linked-marks level h.done missing marks n m (linked-behind before (level ∷ h.done) n (subst (λ (ls : List Level). AreLinked ls n) split-more l)) h.marked

  pub marked-more : (new : List Bool) (more : List (List Bool)) → new ≡ map (is_marked marks) level → more ≡ behind ++ marks ∷ [] → AreMarkedSoFar levels missing before new more
  marked-more new more n b = record {
    done = level ∷ h.done;
    split = split-more;
    marked = n ∙ ap (λ (ms : List Bool). map (is_marked ms) level) h.marked;
    stacked = b ∙ ap (λ (ms : List Bool). behind ++ ms ∷ []) h.marked ∙ ap (λ (mss : List (List Bool)). mss ++ marks_of h.done missing ∷ []) h.stacked;
  }

pub marked-none : (levels : List Level) (missing marks : List Bool) (behind : List (List Bool)) → marks ≡ missing → behind ≡ [] → AreMarkedSoFar levels missing levels marks behind
marked-none levels missing marks behind m b = record { done = []; split = sym (append-nil levels); marked = m; stacked = b }

pub marked-all : (levels : List Level) (missing : List Bool) (rest : List Level) (marks : List Bool) (behind : List (List Bool)) → AreMarkedSoFar levels missing rest marks behind → rest ≡ [] → behind ≡ marks_behind levels missing
marked-all levels missing rest marks behind h e = h.stacked ∙ ap (λ (ls : List Level). marks_behind ls missing) (sym (h.split ∙ ap (λ (ls : List Level). ls ++ h.done) e))

pub behind-length : (ls : List Level) (missing : List Bool) → length (marks_behind ls missing) ≡ length ls
behind-length [] missing = refl
behind-length (l ∷ ls) missing = let u = length-append (marks_behind ls missing) (marks_of ls missing ∷ []) in let v = behind-length ls missing in omega arith

-- the marks behind level i
pub behind-at : (ls : List Level) (missing : List Bool) (i : ℕ) → i < length ls → slice_get (marks_behind ls missing) (length ls - 1 - i) ≡ Some (marks_of (drop (suc i) ls) missing)
behind-at [] missing i l = absurd (omega arith)
behind-at (k ∷ ls) missing zero l =
    let u : length (k ∷ ls) - 1 - 0 ≡ length (marks_behind ls missing) = let v = behind-length ls missing in omega arith in
    subst (λ (n : ℕ). slice_get (marks_behind ls missing ++ marks_of ls missing ∷ []) n ≡ Some (marks_of ls missing)) (sym u) (get-last (marks_behind ls missing) (marks_of ls missing))
behind-at (k ∷ ls) missing (suc i) l =
    let u : length (k ∷ ls) - 1 - suc i ≡ length ls - 1 - i = omega arith in
    subst (λ (n : ℕ). slice_get (marks_behind ls missing ++ marks_of ls missing ∷ []) n ≡ Some (marks_of (drop (suc i) ls) missing)) (sym u)
    (get-left (marks_behind ls missing) (marks_of ls missing ∷ []) _ _ (behind-at ls missing i (omega arith)))

-- the walk has come to row `state` of level i, by these sorts
pub record IsWalking (levels : List Level) (missing : List Bool) (entries : List (List Sorted)) (i state : ℕ) (sorts : List Sorted) : Type 0 where
  pub lit : get_or (marks_of (drop i levels) missing) state false ≡ true
  pub rest : (Ts : List Sorted) → IsFirstWalk (drop i levels) missing state (drop i entries) Ts → IsFirstWalk levels missing 0 entries (sorts ++ Ts)

pub walk-none : (levels : List Level) (missing : List Bool) (entries : List (List Sorted)) (sorts : List Sorted) → get_or (marks_of levels missing) 0 false ≡ true → sorts ≡ [] → IsWalking levels missing entries 0 0 sorts
walk-none levels missing entries sorts e s = record { lit = e; rest = λ Ts w. subst (λ (xs : List Sorted). IsFirstWalk levels missing 0 entries (xs ++ Ts)) (sym s) w }

-- one step of the walk
pub walk-more : (levels : List Level) (missing marks : List Bool) (entries : List (List Sorted)) (i state next : ℕ) (sorts sorts' : List Sorted) (level : Level) (es : List Sorted) (T : Sorted) → IsWalking levels missing entries i state sorts
    → slice_get levels i ≡ Some level → slice_get entries i ≡ Some es → marks ≡ marks_of (drop (suc i) levels) missing → IsFirstStep level marks state es T next → sorts' ≡ sorts ++ T ∷ []
    → IsWalking levels missing entries (i + 1) next sorts'
walk-more levels missing marks entries i state next sorts sorts' level es T h l k m s x = record {
  lit = subst (λ (n : ℕ). get_or (marks_of (drop n levels) missing) next false ≡ true) (sym after) (subst (λ (ms : List Bool). get_or ms next false ≡ true) m s.marked);
  rest = λ Ts w.
      let w1 : IsFirstWalk (drop (suc i) levels) missing next (drop (suc i) entries) Ts = subst (λ (n : ℕ). IsFirstWalk (drop n levels) missing next (drop n entries) Ts) after w in
      let w2 : IsFirstWalk (level ∷ drop (suc i) levels) missing state (es ∷ drop (suc i) entries) (T ∷ Ts) =
      (s.row, s.place, next, s.at_row, s.entry, s.leads, λ j other b e. subst (λ (ms : List Bool). get_or ms other false ≡ false) m (s.earlier j other b e), w1) in
      let w3 : IsFirstWalk (drop i levels) missing state (es ∷ drop (suc i) entries) (T ∷ Ts) = subst (λ (ls : List Level). IsFirstWalk ls missing state (es ∷ drop (suc i) entries) (T ∷ Ts)) (sym (drop-get levels i level l)) w2 in
      let w4 : IsFirstWalk (drop i levels) missing state (drop i entries) (T ∷ Ts) = subst (λ (ess : List (List Sorted)). IsFirstWalk (drop i levels) missing state ess (T ∷ Ts)) (sym (drop-get entries i es k)) w3 in
      let w5 : IsFirstWalk levels missing 0 entries (sorts ++ (T ∷ Ts)) = h.rest (T ∷ Ts) w4 in
      subst (λ (xs : List Sorted). IsFirstWalk levels missing 0 entries xs) (sym (append_assoc sorts (T ∷ []) Ts) ∙ ap (λ (xs : List Sorted). xs ++ Ts) (sym x)) w5;
}
  where
    after : i + 1 ≡ suc i
    after = omega arith

-- the walk is done
pub walk-done : (levels : List Level) (missing : List Bool) (entries : List (List Sorted)) (i state : ℕ) (sorts : List Sorted) → length levels ≤ i → length entries ≤ i → IsWalking levels missing entries i state sorts
    → IsFirstWalk levels missing 0 entries sorts
walk-done levels missing entries i state sorts l k h =
    let a : drop i levels ≡ [] = drop_all i levels l in
    let b : drop i entries ≡ [] = drop_all i entries k in
    let e : get_or missing state false ≡ true = subst (λ (ls : List Level). get_or (marks_of ls missing) state false ≡ true) a h.lit in
    let w : IsFirstWalk (drop i levels) missing state (drop i entries) [] =
    subst (λ (ls : List Level). IsFirstWalk ls missing state (drop i entries) []) (sym a) (subst (λ (ess : List (List Sorted)). IsFirstWalk [] missing state ess []) (sym b) e) in
    subst (λ (xs : List Sorted). IsFirstWalk levels missing 0 entries xs) (append-nil sorts) (h.rest [] w)

-- a marked place is there
pub lit-within : (xs : List Bool) (q : ℕ) → get_or xs q false ≡ true → q < length xs
lit-within [] q e = cc
lit-within (x ∷ xs) zero e = omega arith
lit-within (x ∷ xs) (suc q) e = let h = lit-within xs q e in omega arith

-- the row of a marked place
pub lit-there : (level : Level) (marks : List Bool) (q : ℕ) → get_or (map (is_marked marks) level) q false ≡ true → q < length level
lit-there level marks q e = let h = lit-within (map (is_marked marks) level) q e in let l = length-map level (is_marked marks) in omega arith

pub lit-marked : (level : Level) (marks : List Bool) (q : ℕ) (row : Row) → slice_get level q ≡ Some row → get_or (map (is_marked marks) level) q false ≡ true → is_marked marks row ≡ true
lit-marked level marks q row g e = sym (get_or_from_slice_get (map (is_marked marks) level) q (is_marked marks row) false (get-map (is_marked marks) level q row g)) ∙ e

pub step-found : (level : Level) (marks : List Bool) (q : ℕ) (entries : List Sorted) (row : Row) (p next : ℕ) (T : Sorted) → slice_get level q ≡ Some row → IsFirstMarked row marks (Some p) → slice_get entries p ≡ Some T → slice_get row p ≡ Some next
    → IsFirstStep level marks q entries T next
step-found level marks q entries row p next T g h e f = record {
  row = row;
  place = p;
  at_row = g;
  entry = e;
  leads = f;
  earlier = h.1;
  marked = let n = h.0 in subst (λ (x : ℕ). get_or marks x false ≡ true) (get-same row p n.0 next n.1 f) n.2;
}

-- one row more is marked
pub level-more : (level : Level) (marks : List Bool) (i : ℕ) (row : Row) (old new : List Bool) (b : Bool) → old ≡ map (is_marked marks) (take i level) → i < length level → slice_get level i ≡ Some row → b ≡ is_marked marks row → new ≡ old ++ b ∷ []
    → new ≡ map (is_marked marks) (take (i + 1) level)
level-more level marks i row old new b o l g e n =
    let after : i + 1 ≡ suc i = omega arith in
    let more : take (i + 1) level ≡ take i level ++ row ∷ [] = ap (λ (x : ℕ). take x level) after ∙ take-get level i row g in
    n ∙ ap (λ (xs : List Bool). xs ++ b ∷ []) o ∙ ap (λ (x : Bool). map (is_marked marks) (take i level) ++ x ∷ []) e ∙ sym (map-append (is_marked marks) (take i level) (row ∷ [])) ∙ ap (λ (rows : Level). map (is_marked marks) rows) (sym more)

-- a list and its last
pub last-split : {X : Type 0} (xs : List X) (x : X) → 1 ≤ length xs → x ≡ get_or xs (length xs - 1) x → xs ≡ take (length xs - 1) xs ++ x ∷ []
last-split xs x l e =
    let n : length xs ≤ length xs - 1 + 1 = omega arith in
    let b : length xs - 1 < length xs = omega arith in
    sym (take_all (length xs - 1 + 1) xs n) ∙ take_more xs (length xs - 1) x b ∙ ap (λ y. take (length xs - 1) xs ++ y ∷ []) (sym e)

-- each level has its entries
pub entries-many : (sorting : Sorting) (ls : List Level) (ess : List (List Sorted)) (Ks : List ℕ) → HaveEntries sorting ls ess Ks → length ess ≡ length ls
entries-many sorting [] [] Ks h = refl
entries-many sorting [] (es ∷ ess) Ks h = absurd h
entries-many sorting (l ∷ ls) [] Ks h = absurd h
entries-many sorting (l ∷ ls) (es ∷ ess) [] h = absurd h
entries-many sorting (l ∷ ls) (es ∷ ess) (K ∷ Ks) h = ap suc (entries-many sorting ls ess Ks h.2)

pub entries-wide : (sorting : Sorting) (ls : List Level) (ess : List (List Sorted)) (Ks : List ℕ) (i : ℕ) (l : Level) (es : List Sorted) → HaveEntries sorting ls ess Ks → slice_get ls i ≡ Some l → slice_get ess i ≡ Some es
    → (q : ℕ) (row : Row) → slice_get l q ≡ Some row → length row ≡ length es
entries-wide sorting [] ess Ks i l es h e f = absurd (get-none e)
entries-wide sorting (k ∷ ls) [] Ks i l es h e f = absurd h
entries-wide sorting (k ∷ ls) (fs ∷ ess) [] i l es h e f = absurd h
entries-wide sorting (k ∷ ls) (fs ∷ ess) (K ∷ Ks) zero l es h e f = λ q row g. h.1 q row (subst (λ (x : Level). slice_get x q ≡ Some row) (sym (some_same e)) g) ∙ ap (λ (x : List Sorted). length x) (some_same f)
entries-wide sorting (k ∷ ls) (fs ∷ ess) (K ∷ Ks) (suc i) l es h e f = entries-wide sorting ls ess Ks i l es h.2 e f

linked-at : (ls : List Level) (n i : ℕ) (l : Level) → AreLinked ls n → slice_get ls i ≡ Some l → AreLinked (l ∷ drop (suc i) ls) n
linked-at [] n i l h e = absurd (get-none e)
linked-at (k ∷ ls) n zero l h e = subst (λ (x : Level). AreLinked (x ∷ ls) n) (some_same e) h
linked-at (k ∷ ls) n (suc i) l h e = linked-at ls n i l h.1 e

-- level i leads to the marks behind it
pub walk-linked : (levels : List Level) (missing marks : List Bool) (i n : ℕ) (level : Level) → AreLinked levels n → n ≡ length missing → slice_get levels i ≡ Some level → marks ≡ marks_of (drop (suc i) levels) missing
    → (q : ℕ) (row : Row) (p next : ℕ) → slice_get level q ≡ Some row → slice_get row p ≡ Some next → next < length marks
walk-linked levels missing marks i n level h e l m = linked-marks level (drop (suc i) levels) missing marks n e (linked-at levels n i level h l) m

-- the row that the walk has come to is marked
pub walk-lit : (levels : List Level) (missing marks : List Bool) (entries : List (List Sorted)) (i state : ℕ) (sorts : List Sorted) (level : Level) → IsWalking levels missing entries i state sorts → slice_get levels i ≡ Some level
    → marks ≡ marks_of (drop (suc i) levels) missing → get_or (map (is_marked marks) level) state false ≡ true
walk-lit levels missing marks entries i state sorts level h l m =
    let e : get_or (marks_of (level ∷ drop (suc i) levels) missing) state false ≡ true = subst (λ (ls : List Level). get_or (marks_of ls missing) state false ≡ true) (drop-get levels i level l) h.lit in
    subst (λ (ms : List Bool). get_or (map (is_marked ms) level) state false ≡ true) (sym m) e

-- results that lack, before and after their sorts are seen as those of the logic
pub missing-seen : {X Y : Type 0} (f : X → Y) (ends : List (Option X)) → map is_none (map (option_map f) ends) ≡ map is_none ends
missing-seen f [] = refl
missing-seen f (Some x ∷ ends) = ap (λ bs. false ∷ bs) (missing-seen f ends)
missing-seen f (None ∷ ends) = ap (λ bs. true ∷ bs) (missing-seen f ends)
