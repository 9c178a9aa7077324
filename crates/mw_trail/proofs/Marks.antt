-- A trail that goes out again, and one that goes back to a mark.
use Rattle.std.specs.Prelude.{◌≡◌, ◌≤◌, ◌<◌, ◌-◌, ℕ, List, [], ◌∷◌, ◌++◌, length, take, drop, refl}
use Rattle.std.proofs.Common.{sym, subst, ap, ◌∙◌, arith, length-drop, length-append, append-nil, inl, inr}
use Rattle.std.proofs.lemmas.List.{take_all, take-append-le, drop_all, drop-append-le, take-append-drop, length-take-le}
use Rattle.mw_logic.specs.Module.{Module}
use Rattle.mw_deduction.specs.Replay.{Leaves}
use Rattle.mw_trail.specs.declared.trail.Item.{Item}
use Rattle.mw_trail.specs.declared.trail.Item.TheVariants.{Into, Among, Out}
use Rattle.mw_trail.specs.Tracks.{Track, moves, needs, counts, needed, counted, IsTrack, TakesBack, IsMark, KeepsBefore}
use Rattle.mw_trail.proofs.Tracks.{needed-append, counted-append, length-moves, IsJoined, moves-append, track_joined, keeps_joined, alone, track_alone, without_values, among_moves}

-- where one list begins another, it begins what is as long
begins_it : {A : Type 0} (xs ys us vs : List A) → xs ++ ys ≡ us ++ vs → length xs ≤ length us → us ≡ xs ++ drop (length xs) us
begins_it [] ys us vs e h = refl
begins_it (x ∷ xs) ys [] vs e h = absurd (omega (arith, h))
begins_it (x ∷ xs) ys (u ∷ us) vs e h =
    let a : x ≡ u = cc in let b : xs ++ ys ≡ us ++ vs = cc in
    ap (λ z. z ∷ us) (sym a) ∙ ap (λ zs. x ∷ zs) (begins_it xs ys us vs b (omega (arith, h)))

-- a trail begins with fewer terms and numbers
parts_within : (xs ys us : List Item) → us ≡ xs ++ ys → (needed xs ≤ needed us) × (counted xs ≤ counted us)
parts_within xs ys us e = let a = needed-append xs ys in let b = counted-append xs ys in rw e (omega (arith, a), omega (arith, b))

keeps_before : (u w t : Track) → IsTrack u → IsJoined u w t → length w.items ≡ 1 → KeepsBefore t u
keeps_before u w t h j e m s k l =
    let is = k.is in
    let f : length s.items ≤ length u.items = let a = ap length j.items in let b = length-append u.items w.items in omega (arith, is, l, a, b, e) in
    let x : u.items ≡ s.items ++ drop (length s.items) u.items = begins_it s.items k.more.items u.items w.items (sym k.items ∙ j.items) f in
    let p = parts_within s.items (drop (length s.items) u.items) u.items x in
    let p0 = p.0 in let p1 = p.1 in let s0 = k.track.values in let s1 = k.track.numbers in let u0 = h.values in let u1 = h.numbers in
    record {
      track = k.track;
      is = is;
      more = record { items = drop (length s.items) u.items; values = drop (length s.values) u.values; numbers = drop (length s.numbers) u.numbers };
      items = x;
      values = begins_it s.values k.more.values u.values w.values (sym k.values ∙ j.values) (omega (arith, p0, s0, u0));
      numbers = begins_it s.numbers k.more.numbers u.numbers w.numbers (sym k.numbers ∙ j.numbers) (omega (arith, p1, s1, u1));
    }

-- what out leaves: the trail with one item more, or the one with which it is joined
pub record IsLeft (n : ℕ) (t u : Track) : Type 0 where
  pub items : TakesBack t.items u.items n
  pub values : u.values ≡ t.values
  pub numbers : u.numbers ≡ take (length t.numbers - n) t.numbers

-- the three ways
module _ (t u : Track) (h : IsTrack t) where
  more : u.items ≡ t.items ++ Out ∷ [] → u.values ≡ t.values → u.numbers ≡ take (length t.numbers - 0) t.numbers → IsJoined t (alone Out [] []) u
  more a b c = without_values t u Out a b (c ∙ take_all (length t.numbers - 0) t.numbers (omega arith))

  -- the last item is taken back, with n numbers
  less : (x : Item) (n : ℕ) → needs x ≡ 0 → counts x ≡ n → t.items ≡ u.items ++ x ∷ [] → u.values ≡ t.values → u.numbers ≡ take (length t.numbers - n) t.numbers
      → IsTrack u × IsJoined u (alone x [] (drop (length t.numbers - n) t.numbers)) t × (n ≡ length (drop (length t.numbers - n) t.numbers))
  less x n a b e f g =
      let p = needed-append u.items (x ∷ []) in let q = counted-append u.items (x ∷ []) in
      let v : needed (u.items ++ x ∷ []) ≡ length t.values = subst (λ xs. needed xs ≡ length t.values) e h.values in
      let c : counted (u.items ++ x ∷ []) ≡ length t.numbers = subst (λ xs. counted xs ≡ length t.numbers) e h.numbers in
      let l : length (take (length t.numbers - n) t.numbers) ≡ length t.numbers - n = length-take-le (length t.numbers - n) t.numbers (omega arith) in
      let d : length (drop (length t.numbers - n) t.numbers) ≡ length t.numbers - (length t.numbers - n) = length-drop (length t.numbers - n) t.numbers in (
        record { values = rw f (omega (arith, p, v, a)); numbers = rw g (omega (arith, q, c, b, l)) },
        record { items = e; values = sym f ∙ sym (append-nil u.values); numbers = sym (take-append-drop (length t.numbers - n) t.numbers) ∙ ap (λ ns. ns ++ drop (length t.numbers - n) t.numbers) (sym g) },
        omega (arith, d, q, c, b),
      )

pub left_track : (n : ℕ) (t u : Track) → IsTrack t → IsLeft n t u → IsTrack u
left_track n t u h l = at n l.items l.numbers
  where
    at : (n : ℕ) → TakesBack t.items u.items n → u.numbers ≡ take (length t.numbers - n) t.numbers → IsTrack u
    at n (inl (a, e)) g = track_joined t (alone Out [] []) u h (track_alone Out [] [] refl refl) (more t u h a l.values (subst (λ k. u.numbers ≡ take (length t.numbers - k) t.numbers) e g))
    at n (inr (inl (i, a, e))) g = (less t u h (Into i) n refl (sym e) a l.values g).0
    at n (inr (inr a)) g = (less t u h (Among n) n refl refl a l.values g).0

pub left_moves : (M : Module) (n : ℕ) (t u : Track) → IsTrack t → IsLeft n t u → Leaves (moves M t) (moves M u)
left_moves M n t u h l = at n l.items l.numbers
  where
    at : (n : ℕ) → TakesBack t.items u.items n → u.numbers ≡ take (length t.numbers - n) t.numbers → Leaves (moves M t) (moves M u)
    at n (inl (a, e)) g = inl (moves-append M t (alone Out [] []) u h (more t u h a l.values (subst (λ k. u.numbers ≡ take (length t.numbers - k) t.numbers) e g)))
    at n (inr (inl (i, a, e))) g = let k = less t u h (Into i) n refl (sym e) a l.values g in inr (inl (i, moves-append M u (alone (Into i) [] (drop (length t.numbers - n) t.numbers)) t k.0 k.1))
    at n (inr (inr a)) g =
        let k = less t u h (Among n) n refl refl a l.values g in
        inr (inr (drop (length t.numbers - n) t.numbers, among_moves M u t n (drop (length t.numbers - n) t.numbers) k.0 k.2 k.1))

pub left_keeps : (n : ℕ) (t u : Track) → IsTrack t → IsLeft n t u → KeepsBefore t u
left_keeps n t u h l = at n l.items l.numbers
  where
    at : (n : ℕ) → TakesBack t.items u.items n → u.numbers ≡ take (length t.numbers - n) t.numbers → KeepsBefore t u
    at n (inl (a, e)) g = λ m s k _. keeps_joined t (alone Out [] []) u (more t u h a l.values (subst (λ k. u.numbers ≡ take (length t.numbers - k) t.numbers) e g)) m s k
    at n (inr (inl (i, a, e))) g = let k = less t u h (Into i) n refl (sym e) a l.values g in keeps_before u (alone (Into i) [] (drop (length t.numbers - n) t.numbers)) t k.0 k.1 refl
    at n (inr (inr a)) g = let k = less t u h (Among n) n refl refl a l.values g in keeps_before u (alone (Among n) [] (drop (length t.numbers - n) t.numbers)) t k.0 k.1 refl

-- the first m items, with what they take
pub record IsUntil (m : ℕ) (t u : Track) : Type 0 where
  pub items : u.items ≡ take m t.items
  pub values : u.values ≡ take (length t.values - needed (drop m t.items)) t.values
  pub numbers : u.numbers ≡ take (length t.numbers - counted (drop m t.items)) t.numbers

pub until_track : (m : ℕ) (t u : Track) → IsTrack t → IsUntil m t u → IsTrack u
until_track m t u h l =
    let a : needed (take m t.items ++ drop m t.items) ≡ length t.values = subst (λ xs. needed xs ≡ length t.values) (sym (take-append-drop m t.items)) h.values in
    let b : counted (take m t.items ++ drop m t.items) ≡ length t.numbers = subst (λ xs. counted xs ≡ length t.numbers) (sym (take-append-drop m t.items)) h.numbers in
    let p = needed-append (take m t.items) (drop m t.items) in let q = counted-append (take m t.items) (drop m t.items) in
    let v : length (take (length t.values - needed (drop m t.items)) t.values) ≡ length t.values - needed (drop m t.items) = length-take-le (length t.values - needed (drop m t.items)) t.values (omega arith) in
    let c : length (take (length t.numbers - counted (drop m t.items)) t.numbers) ≡ length t.numbers - counted (drop m t.items) = length-take-le (length t.numbers - counted (drop m t.items)) t.numbers (omega arith) in
    record { values = rw (l.items, l.values) (omega (arith, a, p, v)); numbers = rw (l.items, l.numbers) (omega (arith, b, q, c)) }

-- what comes behind
until_joined : (m : ℕ) (t u : Track) → IsUntil m t u → (w : Track) × IsJoined u w t
until_joined m t u l = (
  record { items = drop m t.items; values = drop (length t.values - needed (drop m t.items)) t.values; numbers = drop (length t.numbers - counted (drop m t.items)) t.numbers },
  record {
    items = rw l.items (sym (take-append-drop m t.items));
    values = rw l.values (sym (take-append-drop (length t.values - needed (drop m t.items)) t.values));
    numbers = rw l.numbers (sym (take-append-drop (length t.numbers - counted (drop m t.items)) t.numbers));
  },
)

take_it : {A : Type 0} (m : ℕ) (xs ys : List A) → length xs ≡ m → take m (xs ++ ys) ≡ xs
take_it m xs ys e = take-append-le m xs ys (omega (arith, e)) ∙ take_all m xs (omega (arith, e))

pub until_moves : (M : Module) (m : ℕ) (t u : Track) → IsTrack t → IsUntil m t u → m ≤ length t.items → moves M u ≡ take m (moves M t)
until_moves M m t u h l b =
    let (w, j) = until_joined m t u l in
    let e : length (moves M u) ≡ m = length-moves M u ∙ ap length l.items ∙ length-take-le m t.items b in
    sym (take_it m (moves M u) (moves M w) e) ∙ ap (take m) (sym (moves-append M u w t (until_track m t u h l) j))

pub until_all : (M : Module) (m : ℕ) (t : Track) → length t.items ≤ m → moves M t ≡ take m (moves M t)
until_all M m t b = let e = length-moves M t in sym (take_all m (moves M t) (omega (arith, e, b)))

-- back to the mark
pub until_exact : (m : ℕ) (s t u : Track) → IsTrack t → IsUntil m t u → IsMark m s t → u ≡ s
until_exact m s t u h l k =
    let is = k.is in let s0 = k.track.values in let s1 = k.track.numbers in
    let v : needed (s.items ++ k.more.items) ≡ length (s.values ++ k.more.values) = subst (λ xs. needed xs ≡ length (s.values ++ k.more.values)) k.items (subst (λ xs. needed t.items ≡ length xs) k.values h.values) in
    let c : counted (s.items ++ k.more.items) ≡ length (s.numbers ++ k.more.numbers) = subst (λ xs. counted xs ≡ length (s.numbers ++ k.more.numbers)) k.items (subst (λ xs. counted t.items ≡ length xs) k.numbers h.numbers) in
    let p = needed-append s.items k.more.items in let q = counted-append s.items k.more.items in
    let x = length-append s.values k.more.values in let y = length-append s.numbers k.more.numbers in
    let d : drop m (s.items ++ k.more.items) ≡ k.more.items = drop-append-le m s.items k.more.items (omega (arith, is)) ∙ ap (λ xs. xs ++ k.more.items) (drop_all m s.items (omega (arith, is))) in
    let a : u.items ≡ s.items = l.items ∙ ap (take m) k.items ∙ take_it m s.items k.more.items (sym is) in
    let b : u.values ≡ s.values = l.values ∙ rw (k.values, k.items, d) (take_it (length (s.values ++ k.more.values) - needed k.more.items) s.values k.more.values (omega (arith, v, p, x, s0))) in
    let f : u.numbers ≡ s.numbers = l.numbers ∙ rw (k.numbers, k.items, d) (take_it (length (s.numbers ++ k.more.numbers) - counted k.more.items) s.numbers k.more.numbers (omega (arith, c, q, y, s1))) in
    rw (a, b, f) refl

pub marks_itself : (m : ℕ) (t : Track) → IsTrack t → m ≡ length t.items → IsMark m t t
marks_itself m t h e = record {
  track = h;
  is = e;
  more = record { items = []; values = []; numbers = [] };
  items = sym (append-nil t.items);
  values = sym (append-nil t.values);
  numbers = sym (append-nil t.numbers);
}

-- what the items from a place on take is no more than all that there is
pub taken_fits : (m n : ℕ) (t : Track) → IsTrack t → length t.values < n → needed (drop m t.items) < n
taken_fits m n t h b =
    let a : needed (take m t.items ++ drop m t.items) ≡ length t.values = subst (λ xs. needed xs ≡ length t.values) (sym (take-append-drop m t.items)) h.values in
    let p = needed-append (take m t.items) (drop m t.items) in omega (arith, a, p, b)

pub counted_fits : (m n : ℕ) (t : Track) → IsTrack t → length t.numbers < n → counted (drop m t.items) < n
counted_fits m n t h b =
    let a : counted (take m t.items ++ drop m t.items) ≡ length t.numbers = subst (λ xs. counted xs ≡ length t.numbers) (sym (take-append-drop m t.items)) h.numbers in
    let p = counted-append (take m t.items) (drop m t.items) in omega (arith, a, p, b)

pub rest_is : (m : ℕ) (xs : List Item) → take (length xs - m) (drop m xs) ≡ drop m xs
rest_is m xs = let l = length-drop m xs in take_all (length xs - m) (drop m xs) (omega (arith, l))
