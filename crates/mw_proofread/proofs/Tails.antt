-- Heads, and what stands behind them.
use Rattle.std.proofs.Common.{◌≡◌, ◌≢◌, ◌∙◌, ◌<◌, ℕ, zero, suc, List, [], ◌∷◌, ◌++◌, length, refl, ap, sym, subst, arith, append_assoc, append-nil, length-append}
use Rattle.std.specs.Prelude.{codes}
use Rattle.mw_logic.specs.Term.{RawTerm}
use Rattle.mw_logic.specs.Signature.{Signature}
use Rattle.mw_logic.specs.Module.{Module}
use Rattle.mw_items.specs.Items.{Items, none, more}
use Rattle.mw_items.specs.Entries.{entries_of}
use Rattle.mw_items.specs.declared.Entry.{Entry}
use Rattle.mw_proofread.specs.Numbers.{number_text}
use Rattle.mw_proofread.specs.TokenTexts.{form_tokens, items_tokens, item_tokens, head_tokens, end_tokens}
use Rattle.mw_proofread.specs.Reading.{IsWritten, IsText, entry_items}
use Rattle.mw_proofread.specs.Outside.{IsFollowed, HasHead, HasItem, HasEnd, HasItems}
use Rattle.mw_proofread.specs.Parts.{IsHigh, NotFirst, HasValue, HasEntries}
use Rattle.mw_proofread.specs.Whole.{title_tokens, HasTail}
use Rattle.mw_proofread.proofs.Low.{form_low, low_one, next_ends, ends_high}
use Rattle.mw_proofread.proofs.Fronts.{rest_is, not_first}
use Rattle.mw_proofread.proofs.Completing.{item_first}

pub one_text : number_text 1 ≡ codes "1"
unfolding number_text
one_text = refl

followed_high : (ws : List (List ℕ)) → IsFollowed ws → IsHigh ws
followed_high ws h = ends_high ws (next_ends ws h)

behind_title : (a b : List ℕ) (r s : List (List ℕ)) → title_tokens a ++ r ≡ title_tokens b ++ s → r ≡ s
behind_title a b r s e = rest_is (rest_is (rest_is (rest_is e)))

-- titles, a token at a time
pub not_one : (ts behind : List (List ℕ)) → ts ≡ codes "proof" ∷ behind → NotFirst (codes "1") behind → (name : List ℕ) (rest : List (List ℕ)) → ts ≢ title_tokens name ++ rest
not_one ts behind e n name rest k = not_first (codes "1") behind (codes "in" ∷ name ∷ rest) n (rest_is (sym e ∙ k) ∙ ap (λ z. z ∷ codes "in" ∷ name ∷ rest) one_text)

pub title_is : (ts a b d rest : List (List ℕ)) (name : List ℕ) → ts ≡ codes "proof" ∷ a → a ≡ codes "1" ∷ b → b ≡ codes "in" ∷ d → d ≡ name ∷ rest → ts ≡ title_tokens name ++ rest
title_is ts a b d rest name e f g h =
    e ∙ ap (λ z. codes "proof" ∷ z) (f ∙ ap (λ z. codes "1" ∷ z) (g ∙ ap (λ z. codes "in" ∷ z) h)) ∙ ap (λ z. codes "proof" ∷ z ∷ codes "in" ∷ name ∷ rest) (sym one_text)

-- a value in front of words is one
pub value_one : (sig : Signature) (ts : List (List ℕ)) (t u : RawTerm) (r s : List (List ℕ)) → HasValue sig ts t r → IsWritten sig u → IsHigh s → ts ≡ form_tokens sig u ++ s → r ≡ s
value_one sig ts t u r s v w h e = (low_one (form_tokens sig t) (form_tokens sig u) r s (form_low sig t v.written.told) (form_low sig u w.told) v.ends h (sym v.is ∙ e)).1

module _ (M : Module) where
  -- heads
  module _ (tokens all mid : List (List ℕ)) (name : List ℕ) (title : tokens ≡ title_tokens name ++ all) (word : all ≡ codes "from" ∷ mid) where
    pub head_is : (from : RawTerm) (rest : List (List ℕ)) → HasValue M.signature mid from rest → IsFollowed rest → (h : HasHead M tokens rest) × (h.from ≡ from)
    head_is from rest v f = (record { name = name; from = from; is = title ∙ ap (λ z. title_tokens name ++ z) (word ∙ ap (λ z. codes "from" ∷ z) v.is); written = v.written; followed = f }, refl)

    head_behind : (rest : List (List ℕ)) (h : HasHead M tokens rest) → mid ≡ form_tokens M.signature h.from ++ rest
    head_behind rest h = rest_is (sym word ∙ behind_title name h.name all (codes "from" ∷ (form_tokens M.signature h.from ++ rest)) (sym title ∙ h.is))

    pub unfollowed_head : (from : RawTerm) (rest : List (List ℕ)) → HasValue M.signature mid from rest → ¬ IsFollowed rest → (last : List (List ℕ)) → ¬ HasHead M tokens last
    unfollowed_head from rest v n last h = n (subst IsFollowed (sym (value_one M.signature mid from h.from rest last v h.written (followed_high last h.followed) (head_behind last h))) h.followed)

  -- ends
  pub end_is : (ts : List (List ℕ)) (to : RawTerm) (rest : List (List ℕ)) → HasValue M.signature ts to rest → rest ≡ [] → (h : HasEnd M (codes "to" ∷ ts)) × (h.to ≡ to)
  end_is ts to rest v e = (record { to = to; is = ap (λ z. codes "to" ∷ z) (v.is ∙ ap (λ z. form_tokens M.signature to ++ z) e ∙ append-nil (form_tokens M.signature to)); written = v.written }, refl)

  pub other_end : (ts : List (List ℕ)) (to : RawTerm) (rest : List (List ℕ)) → HasValue M.signature ts to rest → rest ≢ [] → ¬ HasEnd M (codes "to" ∷ ts)
  other_end ts to rest v n h = n (value_one M.signature ts to h.to rest [] v h.written tt (rest_is h.is ∙ sym (append-nil (form_tokens M.signature h.to))))

  -- what stands behind a head
  pub tail_end : (ts ws : List (List ℕ)) (to : RawTerm) (old : List Entry) → ts ≡ codes "to" ∷ ws → (h : HasEnd M (codes "to" ∷ ws)) → h.to ≡ to → HasTail M ts to old old
  tail_end ts ws to old k h e = record {
    items = none;
    is = k ∙ h.is ∙ ap (end_tokens M.signature) e;
    have_form = tt;
    nested = omega arith;
    ends = subst (IsWritten M.signature) e h.written;
    entries = sym (append-nil old);
  }

  pub tail_more : (ts rest : List (List ℕ)) (es : List Entry) (to : RawTerm) (old mid new : List Entry) → HasEntries M ts rest es → mid ≡ old ++ es → HasTail M rest to mid new → HasTail M ts to old new
  tail_more ts rest es to old mid new h p t =
      let a = h.nested in
      let b = t.nested in
      record {
        items = more h.item t.items;
        is = h.is ∙ ap (λ z. item_tokens M.signature h.item ++ z) t.is ∙ sym (append_assoc (item_tokens M.signature h.item) (items_tokens M.signature t.items) (end_tokens M.signature to));
        have_form = (h.has_form, t.have_form);
        nested = omega (arith, a, b);
        ends = t.ends;
        entries = t.entries ∙ ap (λ z. z ++ entries_of (entry_items t.items)) (p ∙ ap (λ z. old ++ z) h.entries) ∙ append_assoc old _ (entries_of (entry_items t.items));
      }

  has_item : (ts rest : List (List ℕ)) (es : List Entry) → HasEntries M ts rest es → HasItem M ts rest
  has_item ts rest es h = record { item = h.item; is = h.is; has_form = h.has_form; nested = h.nested; followed = h.followed }

  pub items_more : (n : ℕ) (ts mid rest : List (List ℕ)) (es : List Entry) → HasItems M n ts mid → HasEntries M mid rest es → HasItems M (suc n) ts rest
  items_more zero ts mid rest es e h = (rest, subst (λ z. HasItem M z rest) (sym e) (has_item mid rest es h), refl)
  items_more (suc n) ts mid rest es (b, k, e) h = (b, k, items_more n b mid rest es e h)

  pub item_shorter : (ts rest : List (List ℕ)) (es : List Entry) → HasEntries M ts rest es → length rest < length ts
  item_shorter ts rest es h =
      let (ws, e) = item_first M h.item h.has_form in
      let k : length ts ≡ length (codes "step" ∷ (ws ++ rest)) = ap length (h.is ∙ ap (λ z. z ++ rest) e) in
      omega (arith, k, length-append ws rest)

  -- the whole
  pub text_is : (tokens mid : List (List ℕ)) (from to : RawTerm) (old new : List Entry) (h : HasHead M tokens mid) → h.from ≡ from → old ≡ [] → HasTail M mid to old new
      → (items : Items) × IsText M tokens 1 from items to × (new ≡ entries_of (entry_items items))
  text_is tokens mid from to old new h f o t = (
    t.items,
    record {
      name = h.name;
      is = h.is ∙ ap (λ z. head_tokens M.signature 1 h.name h.from ++ z) t.is ∙ ap (λ z. head_tokens M.signature 1 h.name z ++ (items_tokens M.signature t.items ++ end_tokens M.signature to)) f;
      version_is = refl;
      begins = subst (IsWritten M.signature) f h.written;
      have_form = t.have_form;
      nested = t.nested;
      ends = t.ends;
    },
    t.entries ∙ ap (λ z. z ++ entries_of (entry_items t.items)) o,
  )
