-- Where tokens leave the form they are no text, and they leave it in one part.
use Rattle.std.proofs.Common.{◌≡◌, ◌∙◌, ◌≤◌, ℕ, zero, suc, List, ◌∷◌, ◌++◌, true, false, refl, ap, sym, subst, arith, append_assoc}
use Rattle.std.specs.Prelude.{codes}
use Rattle.mw_logic.specs.Term.{RawTerm}
use Rattle.mw_logic.specs.Module.{Module}
use Rattle.mw_print.proofs.PrefixTold.{prefix_told}
use Rattle.mw_items.specs.Items.{Item, step, built, Items, none, more, Groups, end, group}
use Rattle.mw_proofread.specs.TokenTexts.{where_word, form_tokens, item_tokens, items_tokens, groups_tokens, head_tokens, end_tokens}
use Rattle.mw_proofread.specs.Reading.{HasForm, HaveForm, GroupsHaveForm, most_wheres, IsWritten, IsText}
use Rattle.mw_proofread.specs.Outside.{IsFollowed, HasHead, HasItem, HasEnd, HasItems, IsOutside, OutsideIsNoText, OutsideIsOne, TextsTell}
use Rattle.mw_proofread.specs.Parts.{NotFirst, by_statement, by_row, line_tokens}
use Rattle.mw_proofread.proofs.Low.{form_low, low_one, next_ends, ends_high}
use Rattle.mw_proofread.proofs.Fronts.{first_is, rest_is, not_first, not_built, line_one}
use Rattle.mw_proofread.proofs.Completing.{item_of, IsBehind, item_first, items_behind, followed_behind, groups_end}

module _ (M : Module) where
  -- groups without the first brace
  group_apart : (x : Items) (gs : Groups) (y : Items) (hs : Groups) (r s : List (List ℕ)) → groups_tokens M.signature (group x gs) ++ r ≡ groups_tokens M.signature (group y hs) ++ s
      → items_tokens M.signature x ++ (codes "}" ∷ (groups_tokens M.signature gs ++ r)) ≡ items_tokens M.signature y ++ (codes "}" ∷ (groups_tokens M.signature hs ++ s))
  group_apart x gs y hs r s e =
      sym (append_assoc (items_tokens M.signature x) (codes "}" ∷ groups_tokens M.signature gs) r) ∙ rest_is e ∙ append_assoc (items_tokens M.signature y) (codes "}" ∷ groups_tokens M.signature hs) s

  -- Items in front of what ends them are one, and what stands behind them too.
  mutual
    item_one : (i j : Item) → HasForm M i → HasForm M j → (r s : List (List ℕ)) → IsBehind r → IsBehind s → item_tokens M.signature i ++ r ≡ item_tokens M.signature j ++ s → (i ≡ j) × (r ≡ s)
    item_one (step true i a ts gs) j f g r s h k e = let c : true ≡ false = f.0 in cc
    item_one (step false i a ts gs) (step true j b us hs) f g r s h k e = let c : true ≡ false = g.0 in cc
    item_one (step false i a ts gs) (step false j b us hs) f g r s h k e =
        let x : List (List ℕ) = where_word gs ++ groups_tokens M.signature gs in
        let y : List (List ℕ) = where_word hs ++ groups_tokens M.signature hs in
        let l = by_statement i a ts in
        let m = by_statement j b us in
        let (line, rest) = line_one M l m (x ++ r) (y ++ s) (f.1, f.2, f.3) (g.1, g.2, g.3) (groups_end M gs r h.ends) (groups_end M hs s k.ends)
        (sym (append_assoc (line_tokens M.signature l) x r) ∙ e ∙ append_assoc (line_tokens M.signature m) y s) in
        let (groups, behind) = wheres_one gs hs f.5 g.5 r s h k rest in
        ((λ z. item_of (line z) (groups z)), behind)
    item_one (step false i a ts gs) (built b) f g r s h k e = absurd (not_built i (first_is (rest_is e)))
    item_one (built a) (step true j b us hs) f g r s h k e = let c : true ≡ false = g.0 in cc
    item_one (built a) (step false j b us hs) f g r s h k e = absurd (not_built j (sym (first_is (rest_is e))))
    item_one (built a) (built b) f g r s h k e =
        let (line, behind) = line_one M (by_row a) (by_row b) r s f g h.ends k.ends e in
        (ap (λ l. item_of l end) line, behind)

    wheres_one : (gs hs : Groups) → GroupsHaveForm M gs → GroupsHaveForm M hs → (r s : List (List ℕ)) → IsBehind r → IsBehind s
        → (where_word gs ++ groups_tokens M.signature gs) ++ r ≡ (where_word hs ++ groups_tokens M.signature hs) ++ s → (gs ≡ hs) × (r ≡ s)
    wheres_one end end f g r s h k e = (refl, e)
    wheres_one end (group x hs) f g r s h k e = absurd (not_first (codes "where") r _ h.no_where e)
    wheres_one (group x gs) end f g r s h k e = absurd (not_first (codes "where") s _ k.no_where (sym e))
    wheres_one (group x gs) (group y hs) f g r s h k e =
        let (items, rest) = items_one x y f.0 g.0 (groups_tokens M.signature gs ++ r) (groups_tokens M.signature hs ++ s) (group_apart x gs y hs r s (rest_is e)) in
        let (groups, behind) = groups_one gs hs f.1 g.1 r s h.no_brace k.no_brace rest in
        ((λ z. group (items z) (groups z)), behind)

    groups_one : (gs hs : Groups) → GroupsHaveForm M gs → GroupsHaveForm M hs → (r s : List (List ℕ)) → NotFirst (codes "{") r → NotFirst (codes "{") s → groups_tokens M.signature gs ++ r ≡ groups_tokens M.signature hs ++ s
        → (gs ≡ hs) × (r ≡ s)
    groups_one end end f g r s h k e = (refl, e)
    groups_one end (group y hs) f g r s h k e = absurd (not_first (codes "{") r _ h e)
    groups_one (group x gs) end f g r s h k e = absurd (not_first (codes "{") s _ k (sym e))
    groups_one (group x gs) (group y hs) f g r s h k e =
        let (items, rest) = items_one x y f.0 g.0 (groups_tokens M.signature gs ++ r) (groups_tokens M.signature hs ++ s) (group_apart x gs y hs r s e) in
        let (groups, behind) = groups_one gs hs f.1 g.1 r s h k rest in
        ((λ z. group (items z) (groups z)), behind)

    items_one : (is js : Items) → HaveForm M is → HaveForm M js → (r s : List (List ℕ)) → items_tokens M.signature is ++ (codes "}" ∷ r) ≡ items_tokens M.signature js ++ (codes "}" ∷ s) → (is ≡ js) × (r ≡ s)
    items_one none none f g r s e = (refl, rest_is e)
    items_one none (more j js) f g r s e =
        let (ws, k) = item_first M j g.0 in
        let all : codes "}" ∷ r ≡ codes "step" ∷ (ws ++ (items_tokens M.signature js ++ (codes "}" ∷ s))) = e ∙ append_assoc (item_tokens M.signature j) (items_tokens M.signature js) (codes "}" ∷ s) ∙ ap (λ z. z ++ (items_tokens M.signature js ++ (codes "}" ∷ s))) k in
        cc
    items_one (more i is) none f g r s e =
        let (ws, k) = item_first M i f.0 in
        let all : codes "}" ∷ s ≡ codes "step" ∷ (ws ++ (items_tokens M.signature is ++ (codes "}" ∷ r))) = sym e ∙ append_assoc (item_tokens M.signature i) (items_tokens M.signature is) (codes "}" ∷ r) ∙ ap (λ z. z ++ (items_tokens M.signature is ++ (codes "}" ∷ r))) k in
        cc
    items_one (more i is) (more j js) f g r s e =
        let (item, rest) = item_one i j f.0 g.0 (items_tokens M.signature is ++ (codes "}" ∷ r)) (items_tokens M.signature js ++ (codes "}" ∷ s)) (items_behind M is r f.1) (items_behind M js s g.1)
        (sym (append_assoc (item_tokens M.signature i) (items_tokens M.signature is) (codes "}" ∷ r)) ∙ e ∙ append_assoc (item_tokens M.signature j) (items_tokens M.signature js) (codes "}" ∷ s)) in
        let (items, behind) = items_one is js f.1 g.1 r s rest in
        ((λ z. more (item z) (items z)), behind)

  pub one_item : (tokens r s : List (List ℕ)) → HasItem M tokens r → HasItem M tokens s → r ≡ s
  one_item tokens r s h k = (item_one h.item k.item h.has_form k.has_form r s (followed_behind M r h.followed) (followed_behind M s k.followed) (sym h.is ∙ k.is)).1

  one_head : (tokens r s : List (List ℕ)) → HasHead M tokens r → HasHead M tokens s → r ≡ s
  one_head tokens r s h k =
      let same = rest_is (rest_is (rest_is (rest_is (rest_is (sym h.is ∙ k.is))))) in
      (low_one (form_tokens M.signature h.from) (form_tokens M.signature k.from) r s (form_low M.signature h.from h.written.told) (form_low M.signature k.from k.written.told)
      (ends_high r (next_ends r h.followed)) (ends_high s (next_ends s k.followed)) same).1

  -- what is left of a text behind some items
  rest_followed : (is : Items) (to : RawTerm) → HaveForm M is → IsFollowed (items_tokens M.signature is ++ end_tokens M.signature to)
  rest_followed none to h = refl
  rest_followed (more i is) to h =
      let (ws, k) = item_first M i h.0 in
      subst IsFollowed (sym (append_assoc (item_tokens M.signature i) (items_tokens M.signature is) (end_tokens M.signature to) ∙ ap (λ z. z ++ (items_tokens M.signature is ++ end_tokens M.signature to)) k)) refl

  first_item : (i : Item) (is : Items) (to : RawTerm) → HaveForm M (more i is) → most_wheres (more i is) ≤ 63 → HasItem M (items_tokens M.signature (more i is) ++ end_tokens M.signature to) (items_tokens M.signature is ++ end_tokens M.signature to)
  first_item i is to h n = record {
    item = i;
    is = append_assoc (item_tokens M.signature i) (items_tokens M.signature is) (end_tokens M.signature to);
    has_form = h.0;
    nested = omega (arith, n);
    followed = rest_followed is to h.1;
  }

  goes_on : (n : ℕ) (is : Items) (to : RawTerm) (rest : List (List ℕ)) → HaveForm M is → most_wheres is ≤ 63 → IsWritten M.signature to → HasItems M n (items_tokens M.signature is ++ end_tokens M.signature to) rest
      → ¬ HasEnd M rest → ((behind : List (List ℕ)) → ¬ HasItem M rest behind) → ⊥
  goes_on zero none to rest f m w h e i = e (record { to = to; is = sym h; written = w })
  goes_on zero (more j is) to rest f m w h e i = i _ (subst (λ z. HasItem M z (items_tokens M.signature is ++ end_tokens M.signature to)) h (first_item j is to f m))
  goes_on (suc n) none to rest f m w (b, k, h) e i =
      let (ws, l) = item_first M k.item k.has_form in
      let all : end_tokens M.signature to ≡ codes "step" ∷ (ws ++ b) = k.is ∙ ap (λ z. z ++ b) l in
      cc
  goes_on (suc n) (more j is) to rest f m w (b, k, h) e i =
      let same = one_item _ b (items_tokens M.signature is ++ end_tokens M.signature to) k (first_item j is to f m) in
      goes_on n is to rest f.1 (omega (arith, m)) w (subst (λ z. HasItems M n z rest) same h) e i

  text_head : (tokens : List (List ℕ)) (version : ℕ) (from : RawTerm) (items : Items) (to : RawTerm) → IsText M tokens version from items to → HasHead M tokens (items_tokens M.signature items ++ end_tokens M.signature to)
  text_head tokens version from items to t = record {
    name = t.name;
    from = from;
    is = t.is ∙ ap (λ v. head_tokens M.signature v t.name from ++ (items_tokens M.signature items ++ end_tokens M.signature to)) t.version_is;
    written = t.begins;
    followed = rest_followed items to t.have_form;
  }

  no_text : (tokens : List (List ℕ)) (j : ℕ) → IsOutside M tokens j → (version : ℕ) (from : RawTerm) (items : Items) (to : RawTerm) → ¬ IsText M tokens version from items to
  no_text tokens zero h version from items to t = h _ (text_head tokens version from items to t)
  no_text tokens (suc n) h version from items to t =
      let same = one_head tokens h.items (items_tokens M.signature items ++ end_tokens M.signature to) h.head (text_head tokens version from items to t) in
      goes_on n items to h.rest t.have_form t.nested t.ends (subst (λ z. HasItems M n z h.rest) same h.before) h.no_end h.no_item

  -- both stop behind as many items
  stop_one : (m n : ℕ) (ws r s : List (List ℕ)) → HasItems M m ws r → HasItems M n ws s → ((b : List (List ℕ)) → ¬ HasItem M r b) → ((b : List (List ℕ)) → ¬ HasItem M s b) → m ≡ n
  stop_one zero zero ws r s h k a b = refl
  stop_one zero (suc n) ws r s h (c, k, l) a b = absurd (a c (subst (λ z. HasItem M z c) h k))
  stop_one (suc m) zero ws r s (c, k, l) h a b = absurd (b c (subst (λ z. HasItem M z c) h k))
  stop_one (suc m) (suc n) ws r s (c, i, h) (d, j, k) a b = let e = one_item ws c d i j in ap suc (stop_one m n d r s (subst (λ z. HasItems M m z r) e h) k a b)

  one_part : (tokens : List (List ℕ)) (i j : ℕ) → IsOutside M tokens i → IsOutside M tokens j → i ≡ j
  one_part tokens zero zero h k = refl
  one_part tokens zero (suc n) h k = absurd (h k.items k.head)
  one_part tokens (suc m) zero h k = absurd (k h.items h.head)
  one_part tokens (suc m) (suc n) h k =
      let e = one_head tokens h.items k.items h.head k.head in
      ap suc (stop_one m n k.items h.rest k.rest (subst (λ z. HasItems M m z h.rest) e h.before) k.before h.no_item k.no_item)

  -- behind a head both the items and the last term are one
  tails_one : (is js : Items) (to last : RawTerm) → HaveForm M is → HaveForm M js → IsWritten M.signature to → IsWritten M.signature last
      → items_tokens M.signature is ++ end_tokens M.signature to ≡ items_tokens M.signature js ++ end_tokens M.signature last → (is ≡ js) × (to ≡ last)
  tails_one none none to last f g w v e = (refl, prefix_told M.signature to last w.told v.told (rest_is e))
  tails_one none (more j js) to last f g w v e =
      let (ws, k) = item_first M j g.0 in
      let all : end_tokens M.signature to ≡ codes "step" ∷ (ws ++ (items_tokens M.signature js ++ end_tokens M.signature last)) = e ∙ append_assoc (item_tokens M.signature j) (items_tokens M.signature js) (end_tokens M.signature last) ∙ ap (λ z. z ++ (items_tokens M.signature js ++ end_tokens M.signature last)) k in
      cc
  tails_one (more i is) none to last f g w v e =
      let (ws, k) = item_first M i f.0 in
      let all : end_tokens M.signature last ≡ codes "step" ∷ (ws ++ (items_tokens M.signature is ++ end_tokens M.signature to)) = sym e ∙ append_assoc (item_tokens M.signature i) (items_tokens M.signature is) (end_tokens M.signature to) ∙ ap (λ z. z ++ (items_tokens M.signature is ++ end_tokens M.signature to)) k in
      cc
  tails_one (more i is) (more j js) to last f g w v e =
      let r : List (List ℕ) = items_tokens M.signature is ++ end_tokens M.signature to in
      let s : List (List ℕ) = items_tokens M.signature js ++ end_tokens M.signature last in
      let (item, rest) = item_one i j f.0 g.0 r s (followed_behind M r (rest_followed is to f.1)) (followed_behind M s (rest_followed js last g.1))
      (sym (append_assoc (item_tokens M.signature i) (items_tokens M.signature is) (end_tokens M.signature to)) ∙ e ∙ append_assoc (item_tokens M.signature j) (items_tokens M.signature js) (end_tokens M.signature last)) in
      let (items, ends) = tails_one is js to last f.1 g.1 w v rest in
      ((λ z. more (item z) (items z)), ends)

  one_text : (tokens : List (List ℕ)) (version other : ℕ) (from first : RawTerm) (items others : Items) (to last : RawTerm) → IsText M tokens version from items to → IsText M tokens other first others last
      → (from ≡ first) × (items ≡ others) × (to ≡ last)
  one_text tokens version other from first items others to last t u =
      let r : List (List ℕ) = items_tokens M.signature items ++ end_tokens M.signature to in
      let s : List (List ℕ) = items_tokens M.signature others ++ end_tokens M.signature last in
      let (forms, rest) = low_one (form_tokens M.signature from) (form_tokens M.signature first) r s (form_low M.signature from t.begins.told) (form_low M.signature first u.begins.told)
      (ends_high r (next_ends r (rest_followed items to t.have_form))) (ends_high s (next_ends s (rest_followed others last u.have_form))) (rest_is (rest_is (rest_is (rest_is (rest_is (sym t.is ∙ u.is)))))) in
      let (same, ends) = tails_one items others to last t.have_form u.have_form t.ends u.ends rest in
      (prefix_told M.signature from first t.begins.told u.begins.told forms, same, ends)

pub text_tells : TextsTell
text_tells M tokens version other from first items others to last t u = one_text M tokens version other from first items others to last t u

pub outside_no_text : OutsideIsNoText
outside_no_text M tokens j h = no_text M tokens j h

pub outside_one : OutsideIsOne
outside_one M tokens i j h k = one_part M tokens i j h k
