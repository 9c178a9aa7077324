-- The moves of a trail that grows, and of one that goes back.
use Rattle.std.specs.Prelude.{◌≡◌, ◌≤◌, ◌+◌, ℕ, suc, List, [], ◌∷◌, ◌++◌, length, drop, refl}
use Rattle.std.specs.List.{zip}
use Rattle.std.proofs.Common.{sym, ap, ◌∙◌, arith, length-drop, length-append, append-nil, append_assoc}
use Rattle.std.proofs.lemmas.List.{take_all, take-append-le, drop-append-le}
use Rattle.std.proofs.Math.Seq.{drop-append_seam}
use Rattle.mw_logic.specs.Term.{RawTerm}
use Rattle.mw_logic.specs.Module.{Module}
use Rattle.mw_canon.specs.Canonical.{meant}
use Rattle.mw_deduction.specs.Replay.{among, begins, applies, meets}
use Rattle.mw_trail.specs.declared.trail.Item.{Item}
use Rattle.mw_trail.specs.declared.trail.Item.TheVariants.{Into, Among, Out, Begin, End, Apply, Row}
use Rattle.mw_trail.specs.Tracks.{Track, variables_of, is_rule, needs, counts, first_of, move_of, moves_of, moves, needed, counted, IsTrack, Keeps}

first-append : (vs ws : List RawTerm) → 1 ≤ length vs → first_of (vs ++ ws) ≡ first_of vs
first-append [] ws h = absurd (omega (arith, h))
first-append (v ∷ vs) ws h = refl

-- an item's move lies in what it takes
move-append : (M : Module) (x : Item) (vs ws : List RawTerm) (ns os : List ℕ) → needs x ≤ length vs → counts x ≤ length ns → move_of M x (vs ++ ws) (ns ++ os) ≡ move_of M x vs ns
move-append M (Into i) vs ws ns os a b = refl
move-append M (Among n) vs ws ns os a b = ap among (take-append-le n ns os b)
move-append M Out vs ws ns os a b = refl
move-append M (Begin n) vs ws ns os a b =
    let l = length-drop n vs in ap begins (ap first_of (drop-append-le n vs ws (omega (arith, a))) ∙ first-append (drop n vs) ws (omega (arith, a, l)))
move-append M End vs ws ns os a b = refl
move-append M (Apply n k) vs ws ns os a b = ap (λ us. applies k (is_rule M k) (meant M.signature (zip (variables_of M k) us)) us) (take-append-le n vs ws a)
move-append M Row vs ws ns os a b = ap meets (first-append vs ws a)

moves_of-append : (M : Module) (xs ys : List Item) (vs ws : List RawTerm) (ns os : List ℕ) → needed xs ≡ length vs → counted xs ≡ length ns
    → moves_of M (xs ++ ys) (vs ++ ws) (ns ++ os) ≡ moves_of M xs vs ns ++ moves_of M ys ws os
moves_of-append M [] ys [] ws [] os a b = refl
moves_of-append M [] ys [] ws (n ∷ ns) os a b = absurd (omega (arith, b))
moves_of-append M [] ys (v ∷ vs) ws ns os a b = absurd (omega (arith, a))
moves_of-append M (x ∷ xs) ys vs ws ns os a b =
    let c : needs x ≤ length vs = omega (arith, a) in
    let d : counts x ≤ length ns = omega (arith, b) in
    let l = length-drop (needs x) vs in
    let k = length-drop (counts x) ns in
    let e : needed xs ≡ length (drop (needs x) vs) = omega (arith, a, l) in
    let f : counted xs ≡ length (drop (counts x) ns) = omega (arith, b, k) in
    rw (drop-append-le (needs x) vs ws c, drop-append-le (counts x) ns os d, move-append M x vs ws ns os c d)
    (ap (λ ms. move_of M x vs ns ∷ ms) (moves_of-append M xs ys (drop (needs x) vs) ws (drop (counts x) ns) os e f))

pub needed-append : (xs ys : List Item) → needed (xs ++ ys) ≡ needed xs + needed ys
needed-append [] ys = omega arith
needed-append (x ∷ xs) ys = let h = needed-append xs ys in omega (arith, h)

pub counted-append : (xs ys : List Item) → counted (xs ++ ys) ≡ counted xs + counted ys
counted-append [] ys = omega arith
counted-append (x ∷ xs) ys = let h = counted-append xs ys in omega (arith, h)

-- as many moves as items
length-moves_of : (M : Module) (xs : List Item) (vs : List RawTerm) (ns : List ℕ) → length (moves_of M xs vs ns) ≡ length xs
length-moves_of M [] vs ns = refl
length-moves_of M (x ∷ xs) vs ns = ap suc (length-moves_of M xs (drop (needs x) vs) (drop (counts x) ns))

pub length-moves : (M : Module) (t : Track) → length (moves M t) ≡ length t.items
length-moves M t = length-moves_of M t.items t.values t.numbers

-- u is t and then w
pub record IsJoined (t w u : Track) : Type 0 where
  pub items : u.items ≡ t.items ++ w.items
  pub values : u.values ≡ t.values ++ w.values
  pub numbers : u.numbers ≡ t.numbers ++ w.numbers

pub moves-append : (M : Module) (t w u : Track) → IsTrack t → IsJoined t w u → moves M u ≡ moves M t ++ moves M w
moves-append M t w u h j = rw (j.items, j.values, j.numbers) (moves_of-append M t.items w.items t.values w.values t.numbers w.numbers h.values h.numbers)

pub track_joined : (t w u : Track) → IsTrack t → IsTrack w → IsJoined t w u → IsTrack u
track_joined t w u h k j =
    let a = h.values in let b = k.values in let c = needed-append t.items w.items in let d = length-append t.values w.values in
    let e = h.numbers in let f = k.numbers in let g = counted-append t.items w.items in let i = length-append t.numbers w.numbers in
    record { values = rw (j.items, j.values) (omega (arith, a, b, c, d)); numbers = rw (j.items, j.numbers) (omega (arith, e, f, g, i)) }

pub keeps_joined : (t w u : Track) → IsJoined t w u → Keeps t u
keeps_joined t w u j m s h = record {
  track = h.track;
  is = h.is;
  more = record { items = h.more.items ++ w.items; values = h.more.values ++ w.values; numbers = h.more.numbers ++ w.numbers };
  items = j.items ∙ ap (λ xs. xs ++ w.items) h.items ∙ append_assoc s.items h.more.items w.items;
  values = j.values ∙ ap (λ xs. xs ++ w.values) h.values ∙ append_assoc s.values h.more.values w.values;
  numbers = j.numbers ∙ ap (λ xs. xs ++ w.numbers) h.numbers ∙ append_assoc s.numbers h.more.numbers w.numbers;
}

-- one item more, with the terms and the numbers that it takes
abbrev pub alone : Item → List RawTerm → List ℕ → Track
alone x vs ns = record { items = x ∷ []; values = vs; numbers = ns }

pub track_alone : (x : Item) (vs : List RawTerm) (ns : List ℕ) → needs x ≡ length vs → counts x ≡ length ns → IsTrack (alone x vs ns)
track_alone x vs ns a b = record { values = omega (arith, a); numbers = omega (arith, b) }

pub without_values : (t u : Track) (x : Item) → u.items ≡ t.items ++ x ∷ [] → u.values ≡ t.values → u.numbers ≡ t.numbers → IsJoined t (alone x [] []) u
without_values t u x a b c = record { items = a; values = b ∙ sym (append-nil t.values); numbers = c ∙ sym (append-nil t.numbers) }

pub with_values : (t u : Track) (x : Item) (vs : List RawTerm) → u.items ≡ t.items ++ x ∷ [] → u.values ≡ t.values ++ vs → u.numbers ≡ t.numbers → IsJoined t (alone x vs []) u
with_values t u x vs a b c = record { items = a; values = b; numbers = c ∙ sym (append-nil t.numbers) }

pub with_numbers : (t u : Track) (x : Item) (ns : List ℕ) → u.items ≡ t.items ++ x ∷ [] → u.values ≡ t.values → u.numbers ≡ t.numbers ++ ns → IsJoined t (alone x [] ns) u
with_numbers t u x ns a b c = record { items = a; values = b ∙ sym (append-nil t.values); numbers = c }

pub applied_moves : (M : Module) (t u : Track) (k n l : ℕ) (vs : List RawTerm) → IsTrack t → n ≡ length vs → k ≡ l → IsJoined t (alone (Apply n k) vs []) u
    → moves M u ≡ moves M t ++ applies l (is_rule M l) (meant M.signature (zip (variables_of M l) vs)) vs ∷ []
applied_moves M t u k n l vs h e f j =
    moves-append M t (alone (Apply n k) vs []) u h j
    ∙ ap (λ us. moves M t ++ applies k (is_rule M k) (meant M.signature (zip (variables_of M k) us)) us ∷ []) (take_all n vs (omega (arith, e)))
    ∙ ap (λ i. moves M t ++ applies i (is_rule M i) (meant M.signature (zip (variables_of M i) vs)) vs ∷ []) f

pub among_moves : (M : Module) (t u : Track) (n : ℕ) (ns : List ℕ) → IsTrack t → n ≡ length ns → IsJoined t (alone (Among n) [] ns) u → moves M u ≡ moves M t ++ among ns ∷ []
among_moves M t u n ns h e j = moves-append M t (alone (Among n) [] ns) u h j ∙ ap (λ os. moves M t ++ among os ∷ []) (take_all n ns (omega (arith, e)))

pub begun_moves : (M : Module) (t u : Track) (n : ℕ) (vs : List RawTerm) (v : RawTerm) → IsTrack t → n ≡ length vs → IsJoined t (alone (Begin n) (vs ++ v ∷ []) []) u → moves M u ≡ moves M t ++ begins v ∷ []
begun_moves M t u n vs v h e j =
    moves-append M t (alone (Begin n) (vs ++ v ∷ []) []) u h j ∙ ap (λ us. moves M t ++ begins (first_of us) ∷ []) (ap (λ k. drop k (vs ++ v ∷ [])) e ∙ drop-append_seam vs (v ∷ []))
