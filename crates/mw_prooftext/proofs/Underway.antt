-- A trail that is told so far.
use Rattle.std.specs.Prelude.{◌≡◌, ◌≤◌, ◌<◌, ◌+◌, ℕ, List, [], ◌∷◌, ◌++◌, length, drop, reverse, true, refl}
use Rattle.std.proofs.Common.{sym, subst, ap, ◌∙◌, arith, length-drop, get_or, add-one, drop-cons, append_assoc}
use Rattle.mw_logic.specs.Term.{RawTerm}
use Rattle.mw_logic.specs.Signature.{Signature}
use Rattle.mw_logic.specs.Accepted.{IsAccepted}
use Rattle.mw_logic.specs.Parts.{nested}
use Rattle.mw_logic.specs.Module.{Module}
use Rattle.mw_logic.proofs.Canonical.{IsCanonical, canonical}
use Rattle.mw_deduction.specs.Replay.{Stand, begun, whole, plays, play, AreMoves, IsMove}
use Rattle.mw_deduction.specs.Stands.{AreStanding}
use Rattle.mw_deduction.proofs.Concluding.{IsOutermostOf, played_of}
use Rattle.mw_deduction.proofs.MoveStands.{begun_stands, move_stands}
use Rattle.mw_trail.specs.declared.trail.Item.{Item}
use Rattle.mw_trail.specs.declared.trail.Item.TheVariants.{Into}
use Rattle.mw_trail.specs.Tracks.{Track, IsTrack, move_of, moves_of, moves, needs, counts, needed, counted}
use Rattle.mw_proof.specs.Deductions.{Deduction, IsDeduction, first_of, end_of, deduced, IsKept}
use Rattle.mw_prooftext.specs.declared.chains.Chain.{Chain}
use Rattle.mw_prooftext.specs.Texts.{lines_text, head_text, end_text}
use Rattle.mw_prooftext.specs.Tells.{Tells}
use Rattle.mw_prooftext.specs.Passing.{Passes}
use Rattle.mw_prooftext.specs.Chains.{IsChain, AreChains, IsMadeSomewhere}
use Rattle.mw_prooftext.specs.Told.{told_items}
use Rattle.mw_prooftext.specs.Denoting.{HasItems, IsTextOf}
use Rattle.mw_prooftext.proofs.ChainLaws.{reverse_behind}

-- The items that are left may be carried out from some stands on, and end where the whole trail does; the chains are those of these stands.
pub record IsUnderWay (M : Module) (head : List ℕ) (chains : List Chain) (items : List Item) (values : List RawTerm) (numbers : List ℕ) (last : List Stand) : Type 0 where
  pub stands : List Stand
  pub standing : AreStanding M stands
  pub may : AreMoves M (moves_of M items values numbers) stands
  pub reach : plays M (moves_of M items values numbers) stands ≡ last
  pub told : AreChains M head (reverse chains) stands
  pub values_left : needed items ≡ length values
  pub numbers_left : counted items ≡ length numbers

-- the next item, and those behind it
pub at_next : {M : Module} {head : List ℕ} {chains : List Chain} {values : List RawTerm} {numbers : List ℕ} {last : List Stand} (xs : List Item) (i : ℕ) → i < length xs
    → IsUnderWay M head chains (drop i xs) values numbers last → IsUnderWay M head chains (get_or xs i (Into 0) ∷ drop (i + 1) xs) values numbers last
at_next {M} {head} {chains} {values} {numbers} {last} xs i h w =
    let e : drop i xs ≡ get_or xs i (Into 0) ∷ drop (i + 1) xs = rw (add-one, drop-cons xs i (Into 0)) refl in
    subst (λ ys. IsUnderWay M head chains ys values numbers last) e w

-- the same terms and numbers
pub same_left : {M : Module} {head : List ℕ} {chains : List Chain} {items : List Item} {us vs : List RawTerm} {ms ns : List ℕ} {last : List Stand} → vs ≡ us → ns ≡ ms
    → IsUnderWay M head chains items us ms last → IsUnderWay M head chains items vs ns last
same_left {M} {head} {chains} {items} {us} {vs} {ms} {ns} {last} e f w =
    subst (λ x. IsUnderWay M head chains items x ns last) (sym e) (subst (λ x. IsUnderWay M head chains items us x last) (sym f) w)

module _ (M : Module) (ok : IsAccepted M.signature) where
  -- at the beginning
  pub begins_under_way : (head : List ℕ) (c : Chain) (n : ℕ) (t u : RawTerm) (k : Track) → IsKept M n t u k → IsTrack k → c.outer ≡ true → ((m : ℕ) → IsCanonical M.signature t → IsChain M head c (begun m t))
      → IsUnderWay M head (c ∷ []) k.items k.values k.numbers (plays M (moves M k) (begun n t ∷ []))
  begins_under_way head c n t u k h track outer chain =
      let a : IsCanonical M.signature t = subst (IsCanonical M.signature) h.begins.canonical (canonical M.signature ok (nested M.signature t)) in
      record {
        stands = begun n t ∷ [];
        standing = (begun_stands M ok n t a h.begins.raw h.begins.admitted, tt);
        may = h.made;
        reach = refl;
        told = (outer, chain n a);
        values_left = track.values;
        numbers_left = track.numbers;
      }

  pub begins_here : (head : List ℕ) (c : Chain) (n : ℕ) (t u f : RawTerm) (k : Track) (chains : List Chain) (items : List Item) (values : List RawTerm) (numbers : List ℕ) → IsKept M n t u k → IsTrack k → c.outer ≡ true
      → ((X : Module) (m : ℕ) → IsCanonical X.signature f → IsChain X head c (begun m f)) → f ≡ t → chains ≡ c ∷ [] → items ≡ k.items → values ≡ k.values → numbers ≡ k.numbers
      → IsUnderWay M head chains items values numbers (plays M (moves_of M items values numbers) (begun n t ∷ []))
  begins_here head c n t u f k chains items values numbers h track outer chain e cs is vs ns =
      let chained : (m : ℕ) → IsCanonical M.signature t → IsChain M head c (begun m t) = subst (λ x. (m : ℕ) → IsCanonical M.signature x → IsChain M head c (begun m x)) e (chain M) in
      let w = begins_under_way head c n t u k h track outer chained in
      let P : List Chain → List Item → List RawTerm → List ℕ → Type 0 = λ qs xs us ls. IsUnderWay M head qs xs us ls (plays M (moves_of M xs us ls) (begun n t ∷ [])) in
      subst (λ qs. P qs items values numbers) (sym cs) (subst (λ xs. P (c ∷ []) xs values numbers) (sym is) (subst (λ us. P (c ∷ []) k.items us numbers) (sym vs) (subst (λ ls. P (c ∷ []) k.items k.values ls) (sym ns) w)))

  module _ {head : List ℕ} {chains : List Chain} {x : Item} {xs : List Item} {values : List RawTerm} {numbers : List ℕ} {last : List Stand} (h : IsUnderWay M head chains (x ∷ xs) values numbers last) where
    pub next_values : needs x ≤ length values
    next_values = let e = h.values_left in omega (arith, e)

    pub next_numbers : counts x ≤ length numbers
    next_numbers = let e = h.numbers_left in omega (arith, e)

    pub next_may : IsMadeSomewhere M (move_of M x values numbers)
    next_may = record { stands = h.stands; standing = h.standing; may = h.may.0 }

    -- one item further
    pub next_under_way : (new : List Chain) → ((B : List Stand) → AreStanding M B → IsMove M (move_of M x values numbers) B → AreChains M head (reverse chains) B → AreChains M head (reverse new) (play M (move_of M x values numbers) B))
        → IsUnderWay M head new xs (drop (needs x) values) (drop (counts x) numbers) last
    next_under_way new g = record {
      stands = play M (move_of M x values numbers) h.stands;
      standing = move_stands M ok (move_of M x values numbers) h.stands h.standing h.may.0;
      may = h.may.1;
      reach = h.reach;
      told = g h.stands h.standing h.may.0 h.told;
      values_left = left_values;
      numbers_left = left_numbers;
    }
      where
        left_values : needed xs ≡ length (drop (needs x) values)
        left_values = let e = h.values_left in omega (arith, e, length-drop (needs x) values)

        left_numbers : counted xs ≡ length (drop (counts x) numbers)
        left_numbers = let e = h.numbers_left in omega (arith, e, length-drop (counts x) numbers)

  -- at the end
  pub ended_under_way : (head : List ℕ) (c : Chain) (chains : List Chain) (n : ℕ) (t u : RawTerm) (k : Track) (values : List RawTerm) (numbers : List ℕ) → IsKept M n t u k
      → IsUnderWay M head (chains ++ c ∷ []) [] values numbers (plays M (moves M k) (begun n t ∷ [])) → HasItems (deduced M n t u k) head c.text.items
  ended_under_way head c chains n t u k values numbers h w =
      let e : w.stands ≡ h.last ∷ [] = w.reach ∙ h.stands in
      let a : AreChains M head (reverse (chains ++ c ∷ [])) (h.last ∷ []) = subst (AreChains M head (reverse (chains ++ c ∷ []))) e w.told in
      let b : AreChains M head (c ∷ reverse chains) (h.last ∷ []) = subst (λ xs. AreChains M head xs (h.last ∷ [])) (reverse_behind chains c) a in
      let (outer, chain) = one_chain (reverse chains) b in
      let (r, f) = subst (IsOutermostOf n t) h.stands (played_of M (moves M k) n t (begun n t ∷ []) (refl, refl)) in
      let z : whole M.signature h.last.opens h.last.hand ≡ u = ap (λ os. whole M.signature os h.last.hand) h.closed ∙ h.reaches in
      let q : h.last.run ≡ (end_of M n t k).run = ap (λ B. (first_of B).run) (sym h.stands) in
      let told = chain.told in
      record {
        items = told.items;
        text_is = told.text_is ∙ ap (λ o. head ++ told_items M.signature o told.items) outer;
        tells = subst (λ x. Tells M told.items x u (end_of M n t k).run) f (subst (λ y. Tells M told.items h.last.from y (end_of M n t k).run) z (subst (Tells M told.items h.last.from (whole M.signature h.last.opens h.last.hand)) q told.tells));
        passes = subst (λ m. Passes M m told.items t u) r (subst (λ x. Passes M h.last.rank told.items x u) f (subst (Passes M h.last.rank told.items h.last.from) z told.passes));
        narrow = told.narrow;
      }
    where
      one_chain : (cs : List Chain) → AreChains M head (c ∷ cs) (h.last ∷ []) → (c.outer ≡ true) × IsChain M head c h.last
      one_chain [] a = a
      one_chain (d ∷ cs) a = absurd a

  -- at the end, with each term and number as it was taken
  pub ended_here : (d : Deduction) (head : List ℕ) (c : Chain) (all chains : List Chain) (left items : List Item) (first values : List RawTerm) (numbers rest : List ℕ) (k : Track) → IsKept M d.rank d.from d.to k → d ≡ deduced M d.rank d.from d.to k
      → items ≡ k.items → first ≡ k.values → numbers ≡ k.numbers → left ≡ [] → all ≡ chains ++ c ∷ []
      → IsUnderWay M head all left values rest (plays M (moves_of M items first numbers) (begun d.rank d.from ∷ [])) → HasItems d head c.text.items
  ended_here d head c all chains left items first values numbers rest k h e is vs ns none cs w =
      let P : List Chain → List Item → List Item → List RawTerm → List ℕ → Type 0 = λ qs ls xs us ms. IsUnderWay M head qs ls values rest (plays M (moves_of M xs us ms) (begun d.rank d.from ∷ [])) in
      let a : P (chains ++ c ∷ []) [] k.items k.values k.numbers =
      subst (λ ms. P (chains ++ c ∷ []) [] k.items k.values ms) ns (subst (λ us. P (chains ++ c ∷ []) [] k.items us numbers) vs (subst (λ xs. P (chains ++ c ∷ []) [] xs first numbers) is
      (subst (λ ls. P (chains ++ c ∷ []) ls items first numbers) none (subst (λ qs. P qs left items first numbers) cs w)))) in
      subst (λ x. HasItems x head c.text.items) (sym e) (ended_under_way head c chains d.rank d.from d.to k values rest h a)

-- between its head and its end
pub text_written : (d : Deduction) (version : ℕ) (name head text all : List ℕ) (sig : Signature) (from to : RawTerm) → IsDeduction d → sig ≡ d.over.signature → from ≡ d.from → to ≡ d.to
    → head ≡ head_text sig version name from → HasItems d head text → all ≡ text ++ end_text sig to → IsTextOf d version name all
text_written d version name head text all sig from to h s f t begins w ends =
    let g : Signature = d.over.signature in
    let first : head ≡ head_text g version name d.from = begins ∙ ap (λ x. head_text x version name from) s ∙ ap (head_text g version name) f in
    let last : end_text sig to ≡ end_text g d.to = ap (λ x. end_text x to) s ∙ ap (end_text g) t in
    record {
      items = w.items;
      is = ends ∙ ap (λ x. text ++ x) last ∙ ap (λ x. x ++ end_text g d.to) w.text_is ∙ append_assoc head (lines_text g w.items) (end_text g d.to) ∙ ap (λ x. x ++ (lines_text g w.items ++ end_text g d.to)) first;
      tells = w.tells;
      passes = w.passes;
      narrow = w.narrow;
      denotes = h.denotes;
    }
