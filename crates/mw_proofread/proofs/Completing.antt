-- What completes an item: how it goes on behind a line, and behind a brace.
use Rattle.std.proofs.Common.{◌≡◌, ◌≢◌, ◌∙◌, ◌+◌, ◌<◌, ◌≤◌, ◌↔◌, ◌⊎◌, inl, inr, ℕ, suc, max, List, [], ◌∷◌, ◌++◌, length, get_or, true, false, refl, ap, sym, subst, arith, append_assoc, append-nil}
use Rattle.std.specs.Prelude.{codes}
use Rattle.mw_logic.specs.Module.{Module}
use Rattle.mw_items.specs.Items.{Item, step, built, Items, none, more, Groups, end, group}
use Rattle.mw_items.specs.Entries.{entries_of, entries_of_item, entries_of_groups}
use Rattle.mw_items.specs.declared.Entry.{Entry}
use Rattle.mw_items.specs.declared.Entry.TheVariants.{Open, Close}
use Rattle.mw_proofread.specs.declared.frame.Frame.{Frame}
use Rattle.mw_proofread.specs.TokenTexts.{where_word, built_tokens, item_tokens, items_tokens, groups_tokens}
use Rattle.mw_proofread.specs.Reading.{IsCount, number_of_groups, HasForm, HaveForm, GroupsHaveForm, wheres, most_wheres, wheres_in, entry_item, entry_items, entry_groups}
use Rattle.mw_proofread.specs.Outside.{IsFollowed}
use Rattle.mw_proofread.specs.Parts.{NotFirst, EndsLine, ends_line, Line, by_statement, by_row, line_tokens, IsLine, wanted_groups, entry_of, Completes, Awaits, Steps, Stops, NoLine}
use Rattle.mw_proofread.proofs.Low.{next_ends, next_other}
use Rattle.mw_proofread.proofs.Fronts.{rest_is, not_first, line_one}

abbrev pub item_of : Line → Groups → Item
item_of (by_statement k s vs) gs = step false k s vs gs
item_of (by_row s) gs = built s

-- how many `where` stand inside one another, this one counted
abbrev wheres_under : Groups → ℕ
wheres_under end = 0
wheres_under (group g gs) = suc (max (most_wheres g) (wheres_in gs))

-- a line behind which an item may end or have groups
pub record IsBehind (ws : List (List ℕ)) : Type 0 where
  pub ends : EndsLine ws
  pub no_where : NotFirst (codes "where") ws
  pub no_brace : NotFirst (codes "{") ws

closing_not : codes "}" ≢ codes "{"
closing_not e = let h : 125 ≡ 123 = ap (λ z. get_or z 0 0) e in absurd (omega (arith, h))

module _ (M : Module) where
  item_text : (l : Line) (gs : Groups) → IsCount (wanted_groups M l) (number_of_groups gs) → item_tokens M.signature (item_of l gs) ≡ line_tokens M.signature l ++ (where_word gs ++ groups_tokens M.signature gs)
  item_text (by_statement k s vs) gs h = refl
  item_text (by_row s) end h = sym (append-nil (built_tokens s))
  item_text (by_row s) (group g gs) h = absurd (omega (arith, h))

  item_form : (l : Line) (gs : Groups) → IsLine M l → IsCount (wanted_groups M l) (number_of_groups gs) → GroupsHaveForm M gs → HasForm M (item_of l gs)
  item_form (by_statement k s vs) gs f c g = (refl, f.0, f.1, f.2, c, g)
  item_form (by_row s) gs f c g = f

  item_wheres : (l : Line) (gs : Groups) → IsCount (wanted_groups M l) (number_of_groups gs) → wheres (item_of l gs) ≡ wheres_under gs
  item_wheres (by_statement k s vs) end c = refl
  item_wheres (by_statement k s vs) (group g gs) c = refl
  item_wheres (by_row s) end c = refl
  item_wheres (by_row s) (group g gs) c = absurd (omega (arith, c))

  item_entries : (l : Line) (gs : Groups) → IsCount (wanted_groups M l) (number_of_groups gs) → entries_of_item (entry_item (item_of l gs)) ≡ entry_of l ∷ entries_of_groups (entry_groups gs)
  item_entries (by_statement k s vs) gs c = refl
  item_entries (by_row s) end c = refl
  item_entries (by_row s) (group g gs) c = absurd (omega (arith, c))

  -- each item of the form is a line with groups
  record IsOf (i : Item) : Type 0 where
    line : Line
    groups : Groups
    is : i ≡ item_of line groups
    good : IsLine M line
    count : IsCount (wanted_groups M line) (number_of_groups groups)
    have : GroupsHaveForm M groups

  divided : (i : Item) → HasForm M i → IsOf i
  divided (step true k s vs gs) f = let e : true ≡ false = f.0 in cc
  divided (step false k s vs gs) f = record { line = by_statement k s vs; groups = gs; is = refl; good = (f.1, f.2, f.3); count = f.4; have = f.5 }
  divided (built s) f = record { line = by_row s; groups = end; is = refl; good = f; count = refl; have = tt }

  pub item_first : (i : Item) → HasForm M i → (ws : List (List ℕ)) × (item_tokens M.signature i ≡ codes "step" ∷ ws)
  item_first (step true k s vs gs) f = let e : true ≡ false = f.0 in cc
  item_first (step false k s vs gs) f = (_, refl)
  item_first (built s) f = (_, refl)

  first_behind : (i : Item) (r : List (List ℕ)) → HasForm M i → (ws : List (List ℕ)) × (item_tokens M.signature i ++ r ≡ codes "step" ∷ ws)
  first_behind i r f = let (ws, e) = item_first i f in (ws ++ r, ap (λ z. z ++ r) e)

  -- what stands behind an item
  begins_behind : (w : List ℕ) (ws rest : List (List ℕ)) → rest ≡ w ∷ ws → ends_line w ≡ true → w ≢ codes "where" → w ≢ codes "{" → IsBehind rest
  begins_behind w ws rest e h n m = subst IsBehind (sym e) (record { ends = h; no_where = n; no_brace = m })

  pub items_behind : (is : Items) (r : List (List ℕ)) → HaveForm M is → IsBehind (items_tokens M.signature is ++ (codes "}" ∷ r))
  items_behind none r f = record { ends = refl; no_where = λ e. cc; no_brace = closing_not }
  items_behind (more i is) r f =
      let (ws, e) = first_behind i (items_tokens M.signature is ++ (codes "}" ∷ r)) f.0 in
      begins_behind (codes "step") ws _ (append_assoc (item_tokens M.signature i) (items_tokens M.signature is) (codes "}" ∷ r) ∙ e) refl (λ e. cc) (λ e. cc)

  pub followed_behind : (ws : List (List ℕ)) → IsFollowed ws → IsBehind ws
  followed_behind ws h = record { ends = next_ends ws h; no_where = next_other (codes "where") refl ws h; no_brace = next_other (codes "{") refl ws h }

  pub completes_behind : (fs : List Frame) (rest last : List (List ℕ)) (es : List Entry) → Completes M fs rest last es → IsBehind rest
  completes_behind [] rest last es (e, f, n) = subst IsBehind (sym e) (followed_behind last f)
  completes_behind (f ∷ fs) rest last es (b, o, r, c) = subst IsBehind (sym r.is) (items_behind r.items (groups_tokens M.signature r.groups ++ b) r.items_form)

  -- one more item
  pub add_item : (fs : List Frame) (i : Item) (behind last : List (List ℕ)) (es : List Entry) → HasForm M i → wheres i + length fs ≤ 63 → Completes M fs behind last es
      → Awaits M fs (item_tokens M.signature i ++ behind) last (entries_of_item (entry_item i) ++ es)
  add_item [] i behind last es f n (e, h, k) = record {
    item = i;
    is = ap (λ z. item_tokens M.signature i ++ z) e;
    has_form = f;
    nested = omega (arith, n);
    followed = h;
    entries = ap (λ z. entries_of_item (entry_item i) ++ z) k ∙ append-nil (entries_of_item (entry_item i));
  }
  add_item (g ∷ fs) i behind last es f n (b, o, r, c) =
      let x : List (List ℕ) = item_tokens M.signature i in
      let y : List (List ℕ) = items_tokens M.signature r.items in
      let z : List (List ℕ) = codes "}" ∷ (groups_tokens M.signature r.groups ++ b) in
      let u : List Entry = entries_of_item (entry_item i) in
      let v : List Entry = entries_of (entry_items r.items) in
      let w : List Entry = Close ∷ (entries_of_groups (entry_groups r.groups) ++ o) in
      let deep = r.items_nested in (
        b,
        o,
        record {
          items = more i r.items;
          groups = r.groups;
          is = ap (λ q. x ++ q) r.is ∙ sym (append_assoc x y z);
          items_form = (f, r.items_form);
          groups_form = r.groups_form;
          items_nested = omega (arith, n, deep);
          groups_nested = r.groups_nested;
          count = r.count;
          entries = ap (λ q. u ++ q) r.entries ∙ sym (append_assoc u v w);
        },
        c,
      )

  -- and one less
  record IsDropped (fs : List Frame) (rest last : List (List ℕ)) : Type 0 where
    item : Item
    behind : List (List ℕ)
    others : List Entry
    is : rest ≡ item_tokens M.signature item ++ behind
    form : HasForm M item
    nested : wheres item + length fs ≤ 63
    completes : Completes M fs behind last others

  drop_rest : (f : Frame) (fs : List Frame) (rest behind last : List (List ℕ)) (others : List Entry) (is : Items) (gs : Groups)
      → rest ≡ items_tokens M.signature is ++ (codes "}" ∷ (groups_tokens M.signature gs ++ behind)) → HaveForm M is → GroupsHaveForm M gs → most_wheres is + suc (length fs) ≤ 63 → wheres_in gs + suc (length fs) ≤ 63
      → IsCount f.wanted (suc (number_of_groups gs)) → Completes M fs behind last others → NotFirst (codes "}") rest → IsDropped (f ∷ fs) rest last
  drop_rest f fs rest behind last others none gs e a b m n c k h = absurd (not_first (codes "}") rest _ h e)
  drop_rest f fs rest behind last others (more i is) gs e a b m n c k h =
      let x : List (List ℕ) = item_tokens M.signature i in
      let y : List (List ℕ) = items_tokens M.signature is in
      let z : List (List ℕ) = codes "}" ∷ (groups_tokens M.signature gs ++ behind) in
      record {
        item = i;
        behind = y ++ z;
        others = entries_of (entry_items is) ++ (Close ∷ (entries_of_groups (entry_groups gs) ++ others));
        is = e ∙ append_assoc x y z;
        form = a.0;
        nested = omega (arith, m);
        completes = (
          behind,
          others,
          record {
            items = is;
            groups = gs;
            is = refl;
            items_form = a.1;
            groups_form = b;
            items_nested = omega (arith, m);
            groups_nested = n;
            count = c;
            entries = refl;
          },
          k,
        );
      }

  drop_item : (fs : List Frame) (rest last : List (List ℕ)) (es : List Entry) → NotFirst (codes "}") rest → Awaits M fs rest last es → IsDropped fs rest last
  drop_item [] rest last es h a = record { item = a.item; behind = last; others = []; is = a.is; form = a.has_form; nested = (let n = a.nested in omega (arith, n)); completes = (refl, a.followed, refl) }
  drop_item (f ∷ fs) rest last es h (b, o, r, c) = drop_rest f fs rest b last o r.items r.groups r.is r.items_form r.groups_form r.items_nested r.groups_nested r.count c h

  -- Behind a line: the groups of its item, and what comes behind them.
  record IsAtLine (l : Line) (fs : List Frame) (rest last : List (List ℕ)) : Type 0 where
    groups : Groups
    behind : List (List ℕ)
    others : List Entry
    is : rest ≡ (where_word groups ++ groups_tokens M.signature groups) ++ behind
    count : IsCount (wanted_groups M l) (number_of_groups groups)
    have : GroupsHaveForm M groups
    nested : wheres_under groups + length fs ≤ 63
    completes : Completes M fs behind last others

  pub groups_end : (gs : Groups) (ws : List (List ℕ)) → EndsLine ws → EndsLine ((where_word gs ++ groups_tokens M.signature gs) ++ ws)
  groups_end end ws h = h
  groups_end (group g gs) ws h = refl

  -- the item that completes it, as a line with groups
  record IsSplit (fs : List Frame) (tokens last : List (List ℕ)) : Type 0 where
    line : Line
    groups : Groups
    behind : List (List ℕ)
    others : List Entry
    is : tokens ≡ line_tokens M.signature line ++ ((where_word groups ++ groups_tokens M.signature groups) ++ behind)
    good : IsLine M line
    count : IsCount (wanted_groups M line) (number_of_groups groups)
    have : GroupsHaveForm M groups
    nested : wheres_under groups + length fs ≤ 63
    completes : Completes M fs behind last others
    ends : EndsLine ((where_word groups ++ groups_tokens M.signature groups) ++ behind)

  split_item : (fs : List Frame) (tokens last : List (List ℕ)) (es : List Entry) → NotFirst (codes "}") tokens → Awaits M fs tokens last es → IsSplit fs tokens last
  split_item fs tokens last es h a =
      let d = drop_item fs tokens last es h a in
      let o = divided d.item d.form in
      let w : List (List ℕ) = where_word o.groups ++ groups_tokens M.signature o.groups in
      let deep : wheres d.item + length fs ≤ 63 = d.nested in
      let same : wheres d.item ≡ wheres_under o.groups = ap wheres o.is ∙ item_wheres o.line o.groups o.count in
      record {
        line = o.line;
        groups = o.groups;
        behind = d.behind;
        others = d.others;
        is = d.is ∙ ap (λ i. item_tokens M.signature i ++ d.behind) o.is ∙ ap (λ z. z ++ d.behind) (item_text o.line o.groups o.count) ∙ append_assoc (line_tokens M.signature o.line) w d.behind;
        good = o.good;
        count = o.count;
        have = o.have;
        nested = omega (arith, deep, same);
        completes = d.completes;
        ends = groups_end o.groups d.behind (completes_behind fs d.behind last d.others d.completes).ends;
      }

  at_line : (l : Line) (fs : List Frame) (tokens rest last : List (List ℕ)) (es : List Entry) → tokens ≡ line_tokens M.signature l ++ rest → IsLine M l → EndsLine rest → NotFirst (codes "}") tokens → Awaits M fs tokens last es → IsAtLine l fs rest last
  at_line l fs tokens rest last es e f h n a =
      let s = split_item fs tokens last es n a in
      let (w, r) = line_one M l s.line rest ((where_word s.groups ++ groups_tokens M.signature s.groups) ++ s.behind) f s.good h s.ends (sym e ∙ s.is) in
      record {
        groups = s.groups;
        behind = s.behind;
        others = s.others;
        is = r;
        count = subst (λ c. IsCount c (number_of_groups s.groups)) (sym (ap (wanted_groups M) w)) s.count;
        have = s.have;
        nested = s.nested;
        completes = s.completes;
      }

  pub no_line_stops : (fs : List Frame) (tokens : List (List ℕ)) → NoLine M tokens → NotFirst (codes "}") tokens → Stops M fs tokens
  no_line_stops fs tokens missing n last es a =
      let s = split_item fs tokens last es n a in
      missing s.line ((where_word s.groups ++ groups_tokens M.signature s.groups) ++ s.behind) s.good s.ends s.is

  -- without groups
  line_alone : (l : Line) (fs : List Frame) (rest last : List (List ℕ)) → NotFirst (codes "where") rest → IsAtLine l fs rest last → IsCount (wanted_groups M l) 0 × ((es : List Entry) × Completes M fs rest last es)
  line_alone l fs rest last n a = by a.groups a.is a.count
    where
      by : (gs : Groups) → rest ≡ (where_word gs ++ groups_tokens M.signature gs) ++ a.behind → IsCount (wanted_groups M l) (number_of_groups gs) → IsCount (wanted_groups M l) 0 × ((es : List Entry) × Completes M fs rest last es)
      by end e c = (c, (a.others, subst (λ z. Completes M fs z last a.others) (sym e) a.completes))
      by (group g gs) e c = absurd (not_first (codes "where") rest _ n e)

  pub line_ends : (l : Line) (fs : List Frame) (tokens rest : List (List ℕ)) (old new : List Entry) → tokens ≡ line_tokens M.signature l ++ rest → IsLine M l → EndsLine rest → NotFirst (codes "}") tokens
      → NotFirst (codes "where") rest → IsCount (wanted_groups M l) 0 → length fs ≤ 63 → new ≡ old ++ (entry_of l ∷ []) → length rest < length tokens → Steps M fs fs tokens rest old new
  line_ends l fs tokens rest old new e f h n w c deep p s = record {
    sound = λ last es k.
        let i : Item = item_of l end in
        let text : tokens ≡ item_tokens M.signature i ++ rest = e ∙ ap (λ z. z ++ rest) (sym (append-nil (line_tokens M.signature l))) ∙ ap (λ z. z ++ rest) (sym (item_text l end c)) in
        let a = add_item fs i rest last es (item_form l end f c tt) (let z = item_wheres l end c in omega (arith, z, deep)) k in (
          entry_of l ∷ es,
          ap (λ z. z ++ es) p ∙ append_assoc old (entry_of l ∷ []) es,
          subst (λ z. Awaits M fs tokens last z) (ap (λ z. z ++ es) (item_entries l end c)) (subst (λ z. Awaits M fs z last (entries_of_item (entry_item i) ++ es)) (sym text) a),
        );
    complete = λ last es a. (line_alone l fs rest last w (at_line l fs tokens rest last es e f h n a)).1;
    shorter = s;
  }

  pub line_stops : (l : Line) (fs : List Frame) (tokens rest : List (List ℕ)) → tokens ≡ line_tokens M.signature l ++ rest → IsLine M l → EndsLine rest → NotFirst (codes "}") tokens
      → NotFirst (codes "where") rest → ¬ IsCount (wanted_groups M l) 0 → Stops M fs tokens
  line_stops l fs tokens rest e f h n w c last es a = c (line_alone l fs rest last w (at_line l fs tokens rest last es e f h n a)).0

  -- with groups
  record IsOpen (l : Line) (fs : List Frame) (rest last : List (List ℕ)) : Type 0 where
    behind : List (List ℕ)
    is : rest ≡ codes "{" ∷ behind
    deep : suc (length fs) ≤ 63
    entries : List Entry
    completes : Completes M (record { wanted = wanted_groups M l } ∷ fs) behind last entries

  line_open : (l : Line) (fs : List Frame) (rest last : List (List ℕ)) → IsAtLine l fs (codes "where" ∷ rest) last → IsOpen l fs rest last
  line_open l fs rest last a = by a.groups a.is a.count a.have a.nested
    where
      by : (gs : Groups) → codes "where" ∷ rest ≡ (where_word gs ++ groups_tokens M.signature gs) ++ a.behind → IsCount (wanted_groups M l) (number_of_groups gs) → GroupsHaveForm M gs → wheres_under gs + length fs ≤ 63 → IsOpen l fs rest last
      by end e c g n = absurd (not_first (codes "where") a.behind rest (completes_behind fs a.behind last a.others a.completes).no_where (sym e))
      by (group g gs) e c h n =
          let x : List (List ℕ) = items_tokens M.signature g in
          let y : List (List ℕ) = codes "}" ∷ groups_tokens M.signature gs in
          record {
            behind = x ++ (y ++ a.behind);
            is = rest_is e ∙ ap (λ z. codes "{" ∷ z) (append_assoc x y a.behind);
            deep = omega (arith, n);
            entries = entries_of (entry_items g) ++ (Close ∷ (entries_of_groups (entry_groups gs) ++ a.others));
            completes = (
              a.behind,
              a.others,
              record {
                items = g;
                groups = gs;
                is = refl;
                items_form = h.0;
                groups_form = h.1;
                items_nested = omega (arith, n);
                groups_nested = omega (arith, n);
                count = c;
                entries = refl;
              },
              a.completes,
            );
          }

  pub line_opens : (l : Line) (fs : List Frame) (tokens rest : List (List ℕ)) (old new : List Entry) → tokens ≡ line_tokens M.signature l ++ (codes "where" ∷ codes "{" ∷ rest) → IsLine M l → NotFirst (codes "}") tokens
      → new ≡ old ++ (entry_of l ∷ Open ∷ []) → length rest < length tokens → Steps M fs (record { wanted = wanted_groups M l } ∷ fs) tokens rest old new
  line_opens l fs tokens rest old new e f n p s = record {
    sound = λ last es (b, o, r, c).
        let gs : Groups = group r.items r.groups in
        let i : Item = item_of l gs in
        let x : List (List ℕ) = items_tokens M.signature r.items in
        let y : List (List ℕ) = codes "}" ∷ groups_tokens M.signature r.groups in
        let u : List Entry = entries_of (entry_items r.items) in
        let v : List Entry = Close ∷ entries_of_groups (entry_groups r.groups) in
        let m = r.items_nested in
        let d = r.groups_nested in
        let z = item_wheres l gs r.count in
        let a = add_item fs i b last o (item_form l gs f r.count (r.items_form, r.groups_form)) (omega (arith, z, m, d)) c in
        let text : tokens ≡ item_tokens M.signature i ++ b
        = e ∙ ap (λ q. line_tokens M.signature l ++ (codes "where" ∷ codes "{" ∷ q)) (r.is ∙ sym (append_assoc x y b))
        ∙ sym (append_assoc (line_tokens M.signature l) (codes "where" ∷ codes "{" ∷ (x ++ y)) b) ∙ ap (λ q. q ++ b) (sym (item_text l gs r.count)) in
        let told : entries_of_item (entry_item i) ++ o ≡ entry_of l ∷ Open ∷ es
        = ap (λ q. q ++ o) (item_entries l gs r.count) ∙ ap (λ q. entry_of l ∷ Open ∷ q) (append_assoc u v o ∙ sym r.entries) in (
          entry_of l ∷ Open ∷ es,
          ap (λ q. q ++ es) p ∙ append_assoc old (entry_of l ∷ Open ∷ []) es,
          subst (λ q. Awaits M fs tokens last q) told (subst (λ q. Awaits M fs q last (entries_of_item (entry_item i) ++ o)) (sym text) a),
        );
    complete = λ last es a.
        let k = line_open l fs (codes "{" ∷ rest) last (at_line l fs tokens (codes "where" ∷ codes "{" ∷ rest) last es e f refl n a) in
        (k.entries, subst (λ q. Completes M (record { wanted = wanted_groups M l } ∷ fs) q last k.entries) (sym (rest_is k.is)) k.completes);
    shorter = s;
  }

  pub open_stops : (l : Line) (fs : List Frame) (tokens rest : List (List ℕ)) → tokens ≡ line_tokens M.signature l ++ (codes "where" ∷ rest) → IsLine M l → NotFirst (codes "}") tokens → NotFirst (codes "{") rest ⊎ (63 ≤ length fs) → Stops M fs tokens
  open_stops l fs tokens rest e f n h last es a =
      let k = line_open l fs rest last (at_line l fs tokens (codes "where" ∷ rest) last es e f refl n a) in
      let deep = k.deep in
      elim h [ inl b ↦ not_first (codes "{") rest k.behind b k.is | inr b ↦ absurd (omega (arith, b, deep)) ]

  -- Behind the brace that closes a group: the groups beside it.
  record IsClosed (f : Frame) (fs : List Frame) (rest last : List (List ℕ)) : Type 0 where
    groups : Groups
    behind : List (List ℕ)
    others : List Entry
    is : rest ≡ groups_tokens M.signature groups ++ behind
    have : GroupsHaveForm M groups
    nested : wheres_in groups + suc (length fs) ≤ 63
    count : IsCount f.wanted (suc (number_of_groups groups))
    completes : Completes M fs behind last others

  at_brace : (f : Frame) (fs : List Frame) (rest last : List (List ℕ)) (es : List Entry) → Awaits M (f ∷ fs) (codes "}" ∷ rest) last es → IsClosed f fs rest last
  at_brace f fs rest last es (b, o, r, c) = by r.items r.is r.items_form
    where
      by : (is : Items) → codes "}" ∷ rest ≡ items_tokens M.signature is ++ (codes "}" ∷ (groups_tokens M.signature r.groups ++ b)) → HaveForm M is → IsClosed f fs rest last
      by none e h = record { groups = r.groups; behind = b; others = o; is = rest_is e; have = r.groups_form; nested = r.groups_nested; count = r.count; completes = c }
      by (more i is) e h =
          let (ws, k) = first_behind i (items_tokens M.signature is ++ (codes "}" ∷ (groups_tokens M.signature r.groups ++ b))) h.0 in
          let all : codes "}" ∷ rest ≡ codes "step" ∷ ws = e ∙ append_assoc (item_tokens M.signature i) (items_tokens M.signature is) (codes "}" ∷ (groups_tokens M.signature r.groups ++ b)) ∙ k in
          cc

  pub no_group_stops : (rest : List (List ℕ)) → Stops M [] (codes "}" ∷ rest)
  no_group_stops rest last es a = let (ws, e) = first_behind a.item last a.has_form in let all : codes "}" ∷ rest ≡ codes "step" ∷ ws = a.is ∙ e in cc

  pub too_many_stops : (f : Frame) (fs : List Frame) (rest : List (List ℕ)) → ((n : ℕ) → ¬ IsCount f.wanted (suc n)) → Stops M (f ∷ fs) (codes "}" ∷ rest)
  too_many_stops f fs rest h last es (b, o, r, c) = h (number_of_groups r.groups) r.count

  last_group : (f : Frame) (fs : List Frame) (rest last : List (List ℕ)) → NotFirst (codes "{") rest → IsClosed f fs rest last → IsCount f.wanted 1 × ((es : List Entry) × Completes M fs rest last es)
  last_group f fs rest last n a = by a.groups a.is a.count
    where
      by : (gs : Groups) → rest ≡ groups_tokens M.signature gs ++ a.behind → IsCount f.wanted (suc (number_of_groups gs)) → IsCount f.wanted 1 × ((es : List Entry) × Completes M fs rest last es)
      by end e c = (c, (a.others, subst (λ z. Completes M fs z last a.others) (sym e) a.completes))
      by (group g gs) e c = absurd (not_first (codes "{") rest _ n e)

  pub brace_ends : (f : Frame) (fs : List Frame) (rest : List (List ℕ)) (old new : List Entry) → NotFirst (codes "{") rest → IsCount f.wanted 1 → length fs < 63 → new ≡ old ++ (Close ∷ []) → Steps M (f ∷ fs) fs (codes "}" ∷ rest) rest old new
  brace_ends f fs rest old new n c deep p = record {
    sound = λ last es k. (
      Close ∷ es,
      ap (λ q. q ++ es) p ∙ append_assoc old (Close ∷ []) es,
      (
        rest,
        es,
        record {
          items = none;
          groups = end;
          is = refl;
          items_form = tt;
          groups_form = tt;
          items_nested = omega (arith, deep);
          groups_nested = omega (arith, deep);
          count = c;
          entries = refl;
        },
        k,
      ),
    );
    complete = λ last es a. (last_group f fs rest last n (at_brace f fs rest last es a)).1;
    shorter = omega arith;
  }

  pub brace_stops : (f : Frame) (fs : List Frame) (rest : List (List ℕ)) → NotFirst (codes "{") rest → ¬ IsCount f.wanted 1 → Stops M (f ∷ fs) (codes "}" ∷ rest)
  brace_stops f fs rest n c last es a = c (last_group f fs rest last n (at_brace f fs rest last es a)).0

  pub brace_opens : (f g : Frame) (fs : List Frame) (rest : List (List ℕ)) (old new : List Entry) → ((n : ℕ) → IsCount f.wanted (suc n) ↔ IsCount g.wanted n) → new ≡ old ++ (Close ∷ Open ∷ [])
      → Steps M (f ∷ fs) (g ∷ fs) (codes "}" ∷ codes "{" ∷ rest) rest old new
  brace_opens f g fs rest old new h p = record {
    sound = λ last es (b, o, r, c).
        let x : List (List ℕ) = items_tokens M.signature r.items in
        let y : List (List ℕ) = codes "}" ∷ groups_tokens M.signature r.groups in
        let u : List Entry = entries_of (entry_items r.items) in
        let v : List Entry = Close ∷ entries_of_groups (entry_groups r.groups) in
        let m = r.items_nested in
        let d = r.groups_nested in (
          Close ∷ Open ∷ es,
          ap (λ q. q ++ es) p ∙ append_assoc old (Close ∷ Open ∷ []) es,
          (
            b,
            o,
            record {
              items = none;
              groups = group r.items r.groups;
              is = ap (λ q. codes "}" ∷ codes "{" ∷ q) (r.is ∙ sym (append_assoc x y b));
              items_form = tt;
              groups_form = (r.items_form, r.groups_form);
              items_nested = omega (arith, m);
              groups_nested = omega (arith, m, d);
              count = (h (suc (number_of_groups r.groups))).1 r.count;
              entries = ap (λ q. Close ∷ Open ∷ q) (r.entries ∙ sym (append_assoc u v o));
            },
            c,
          ),
        );
    complete = λ last es a. next_group last (at_brace f fs (codes "{" ∷ rest) last es a);
    shorter = omega arith;
  }
    where
      next_group : (last : List (List ℕ)) → IsClosed f fs (codes "{" ∷ rest) last → (es : List Entry) × Completes M (g ∷ fs) rest last es
      next_group last a = by a.groups a.is a.count a.have a.nested
        where
          by : (gs : Groups) → codes "{" ∷ rest ≡ groups_tokens M.signature gs ++ a.behind → IsCount f.wanted (suc (number_of_groups gs)) → GroupsHaveForm M gs → wheres_in gs + suc (length fs) ≤ 63 → (es : List Entry) × Completes M (g ∷ fs) rest last es
          by end e c k n = absurd (not_first (codes "{") a.behind rest (completes_behind fs a.behind last a.others a.completes).no_brace (sym e))
          by (group i gs) e c k n =
              let x : List (List ℕ) = items_tokens M.signature i in
              let y : List (List ℕ) = codes "}" ∷ groups_tokens M.signature gs in (
                entries_of (entry_items i) ++ (Close ∷ (entries_of_groups (entry_groups gs) ++ a.others)),
                (
                  a.behind,
                  a.others,
                  record {
                    items = i;
                    groups = gs;
                    is = rest_is e ∙ append_assoc x y a.behind;
                    items_form = k.0;
                    groups_form = k.1;
                    items_nested = omega (arith, n);
                    groups_nested = omega (arith, n);
                    count = (h (suc (number_of_groups gs))).0 c;
                    entries = refl;
                  },
                  a.completes,
                ),
              )
