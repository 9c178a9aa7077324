-- The stack of open groups, whose innermost one is last; and an item under way.
use Rattle.std.proofs.Common.{◌≡◌, ◌≢◌, ◌∙◌, ◌<◌, ◌≤◌, ◌↔◌, ◌⊎◌, ℕ, suc, List, [], ◌∷◌, ◌++◌, length, reverse, Option, refl, ap, sym, subst, arith, append_assoc, append-nil, length-append, inl, inr}
use Rattle.std.proofs.lemmas.List.{reverse-reverse, reverse-append, length-reverse}
use Rattle.std.specs.Prelude.{codes}
use Rattle.mw_logic.specs.Module.{Module}
use Rattle.mw_items.specs.declared.Entry.{Entry}
use Rattle.mw_items.specs.Entries.{entries_of_item}
use Rattle.mw_items.specs.declared.Entry.TheVariants.{Open, Close}
use Rattle.mw_proofread.specs.declared.frame.Frame.{Frame}
use Rattle.mw_proofread.specs.Reading.{IsCount, entry_item}
use Rattle.mw_proofread.specs.Outside.{IsFollowed, HasItem}
use Rattle.mw_proofread.specs.Parts.{NotFirst, EndsLine, Line, by_statement, by_row, line_tokens, entry_of, HasLine, NoLine, Completes, HasEntries, Awaits, Steps, Stops, IsUnderWay}
use Rattle.mw_proofread.proofs.Completing.{line_ends, line_stops, line_opens, open_stops, no_line_stops, brace_ends, brace_opens}

reverse_last : (xs : List Frame) (x : Frame) → reverse (xs ++ x ∷ []) ≡ x ∷ reverse xs
reverse_last xs x = reverse-append xs (x ∷ [])

last_length : (xs : List Frame) (x : Frame) → length (xs ++ x ∷ []) ≡ suc (length xs)
last_length [] x = refl
last_length (y ∷ xs) x = ap suc (last_length xs x)

abbrev AsMany : Frame → Frame → Type 0
AsMany f g = (n : ℕ) → IsCount f.wanted (suc n) ↔ IsCount g.wanted n

line_shorter : (M : Module) (l : Line) (rest : List (List ℕ)) → length rest < length (line_tokens M.signature l ++ rest)
line_shorter M (by_statement k s vs) rest = omega (arith, length-append (line_tokens M.signature (by_statement k s vs)) rest)
line_shorter M (by_row s) rest = omega (arith, length-append (line_tokens M.signature (by_row s)) rest)

module _ (M : Module) where
  -- behind a brace
  module _ (before popped : List Frame) (f : Frame) (is : before ≡ popped ++ f ∷ []) where
    at_top : (P : List Frame → Type 0) → P (f ∷ reverse popped) → P (reverse before)
    at_top P h = subst P (sym (ap reverse is ∙ reverse_last popped f)) h

    pub closed_ends : (g : Frame) (rest : List (List ℕ)) (old new : List Entry) → AsMany f g → NotFirst (codes "{") rest → IsCount g.wanted 0 → length before ≤ 63 → new ≡ old ++ (Close ∷ []) → Steps M (reverse before) (reverse popped) (codes "}" ∷ rest) rest old new
    closed_ends g rest old new h n c deep p =
        let l = last_length popped f in
        let k : length before ≡ length (popped ++ f ∷ []) = ap length is in
        let r = length-reverse popped in
        at_top (λ z. Steps M z (reverse popped) (codes "}" ∷ rest) rest old new) (brace_ends M f (reverse popped) rest old new n ((h 0).1 c) (omega (arith, l, k, r, deep)) p)

    pub closed_opens : (g : Frame) (after : List Frame) (ts rest : List (List ℕ)) (old mid new : List Entry) → AsMany f g → after ≡ popped ++ g ∷ [] → ts ≡ codes "{" ∷ rest → mid ≡ old ++ (Close ∷ []) → new ≡ mid ++ (Open ∷ [])
        → Steps M (reverse before) (reverse after) (codes "}" ∷ ts) rest old new
    closed_opens g after ts rest old mid new h a e p q =
        let told : new ≡ old ++ (Close ∷ Open ∷ []) = q ∙ ap (λ z. z ++ (Open ∷ [])) p ∙ append_assoc old (Close ∷ []) (Open ∷ []) in
        at_top (λ z. Steps M z (reverse after) (codes "}" ∷ ts) rest old new)
        (subst (λ z. Steps M (f ∷ reverse popped) z (codes "}" ∷ ts) rest old new) (sym (ap reverse a ∙ reverse_last popped g))
        (subst (λ z. Steps M (f ∷ reverse popped) (g ∷ reverse popped) (codes "}" ∷ z) rest old new) (sym e) (brace_opens M f g (reverse popped) rest old new h told)))

  -- behind a line
  shorter_line : (l : Line) (tokens rest : List (List ℕ)) → tokens ≡ line_tokens M.signature l ++ rest → length rest < length tokens
  shorter_line l tokens rest e = let k = line_shorter M l rest in let h : length tokens ≡ length (line_tokens M.signature l ++ rest) = ap length e in omega (arith, k, h)

  pub begun_none : (before : List Frame) (tokens : List (List ℕ)) → NoLine M tokens → NotFirst (codes "}") tokens → Stops M (reverse before) tokens
  begun_none before tokens h n = no_line_stops M (reverse before) tokens h n

  module _ (before : List Frame) (tokens rest : List (List ℕ)) (wanted : Option ℕ) (old mid : List Entry) (h : HasLine M tokens rest wanted old mid) (n : NotFirst (codes "}") tokens) where
    pub begun_ends : EndsLine rest → NotFirst (codes "where") rest → IsCount wanted 0 → length before ≤ 63 → Steps M (reverse before) (reverse before) tokens rest old mid
    begun_ends e w c deep =
        let r = length-reverse before in
        line_ends M h.line (reverse before) tokens rest old mid h.is h.good e n w (subst (λ z. IsCount z 0) h.wants c) (omega (arith, r, deep)) h.pushed (shorter_line h.line tokens rest h.is)

    pub begun_stops : EndsLine rest → NotFirst (codes "where") rest → ¬ IsCount wanted 0 → Stops M (reverse before) tokens
    begun_stops e w c = line_stops M h.line (reverse before) tokens rest h.is h.good e n w (λ k. c (subst (λ z. IsCount z 0) (sym h.wants) k))

    pub begun_shut : (ws : List (List ℕ)) → rest ≡ codes "where" ∷ ws → NotFirst (codes "{") ws ⊎ (63 ≤ length before) → Stops M (reverse before) tokens
    begun_shut ws e d =
        let r = length-reverse before in
        open_stops M h.line (reverse before) tokens ws (h.is ∙ ap (λ z. line_tokens M.signature h.line ++ z) e) h.good n (elim d [ inl a ↦ inl a | inr a ↦ inr (omega (arith, a, r)) ])

    pub begun_opens : (ws behind : List (List ℕ)) (after : List Frame) (new : List Entry) → rest ≡ codes "where" ∷ ws → ws ≡ codes "{" ∷ behind → after ≡ before ++ (record { wanted = wanted } ∷ []) → new ≡ mid ++ (Open ∷ [])
        → Steps M (reverse before) (reverse after) tokens behind old new
    begun_opens ws behind after new e w a q =
        let whole : tokens ≡ line_tokens M.signature h.line ++ (codes "where" ∷ codes "{" ∷ behind) = h.is ∙ ap (λ z. line_tokens M.signature h.line ++ z) (e ∙ ap (λ z. codes "where" ∷ z) w) in
        let told : new ≡ old ++ (entry_of h.line ∷ Open ∷ []) = q ∙ ap (λ z. z ++ (Open ∷ [])) h.pushed ∙ append_assoc old (entry_of h.line ∷ []) (Open ∷ []) in
        let s : length (codes "where" ∷ codes "{" ∷ behind) < length tokens = shorter_line h.line tokens (codes "where" ∷ codes "{" ∷ behind) whole in
        subst (λ z. Steps M (reverse before) z tokens behind old new) (sym (ap reverse a ∙ reverse_last before (record { wanted = wanted })))
        (subst (λ (z : Option ℕ). Steps M (reverse before) (record { wanted = z } ∷ reverse before) tokens behind old new) (sym h.wants)
        (line_opens M h.line (reverse before) tokens behind old new whole h.good n told (omega (arith, s))))

  -- an item under way
  pub starts : (tokens : List (List ℕ)) (old : List Entry) (frames : List Frame) → frames ≡ [] → IsUnderWay M tokens old (reverse frames) tokens old
  starts tokens old frames e = subst (λ z. IsUnderWay M tokens old (reverse z) tokens old) (sym e) (record { sound = λ last es a. (es, refl, a); complete = λ last fs a. (fs, a) })

  awaits : (fs : List Frame) (rest last : List (List ℕ)) (es : List Entry) → fs ≢ [] → Completes M fs rest last es → Awaits M fs rest last es
  awaits [] rest last es n c = absurd (n refl)
  awaits (f ∷ fs) rest last es n c = c

  completes : (fs : List Frame) (rest last : List (List ℕ)) (es : List Entry) → fs ≢ [] → Awaits M fs rest last es → Completes M fs rest last es
  completes [] rest last es n a = absurd (n refl)
  completes (f ∷ fs) rest last es n a = a

  some_reversed : (fs : List Frame) → fs ≢ [] → reverse fs ≢ []
  some_reversed fs n e = n (sym (reverse-reverse fs) ∙ ap reverse e)

  module _ (tokens at rest : List (List ℕ)) (old told new : List Entry) (before after : List Frame) (u : IsUnderWay M tokens old (reverse before) at told) where
    pub goes_on : Steps M (reverse before) (reverse after) at rest told new → after ≢ [] → IsUnderWay M tokens old (reverse after) rest new
    goes_on s n = record {
      sound = λ last es a.
          let (gs, e, b) = s.sound last es (completes (reverse after) rest last es (some_reversed after n) a) in
          let (fs, i, h) = u.sound last gs b in
          (fs, e ∙ i, h);
      complete = λ last fs h.
          let (gs, b) = u.complete last fs h in
          let (es, c) = s.complete last gs b in
          (es, awaits (reverse after) rest last es (some_reversed after n) c);
    }

    pub item_ends : Steps M (reverse before) (reverse after) at rest told new → after ≡ [] → IsFollowed rest → (es : List Entry) × HasEntries M tokens rest es × (new ≡ old ++ es)
    item_ends s n f =
        let c : Completes M (reverse after) rest rest [] = subst (λ z. Completes M (reverse z) rest rest []) (sym n) (refl, f, refl) in
        let (gs, e, b) = s.sound rest [] c in
        let (fs, i, h) = u.sound rest gs b in
        (fs, h, sym (append-nil new) ∙ e ∙ i)

    has_entries : (last : List (List ℕ)) (h : HasItem M tokens last) → HasEntries M tokens last (entries_of_item (entry_item h.item))
    has_entries last h = record { item = h.item; is = h.is; has_form = h.has_form; nested = h.nested; followed = h.followed; entries = refl }

    pub item_stops : Stops M (reverse before) at → (last : List (List ℕ)) → ¬ HasItem M tokens last
    item_stops s last h = let (gs, b) = u.complete last _ (has_entries last h) in s last gs b

    pub item_breaks : Steps M (reverse before) (reverse after) at rest told new → after ≡ [] → ¬ IsFollowed rest → (last : List (List ℕ)) → ¬ HasItem M tokens last
    item_breaks s n f last h =
        let (gs, b) = u.complete last _ (has_entries last h) in
        let (es, c) = s.complete last gs b in
        let d : Completes M [] rest last es = subst (λ z. Completes M (reverse z) rest last es) n c in
        f (subst IsFollowed (sym d.0) d.1)
