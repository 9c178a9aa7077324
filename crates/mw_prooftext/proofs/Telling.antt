-- What is told stays told, and one more move is told behind it.
use Rattle.std.specs.Prelude.{◌≡◌, ◌<◌, ◌^◌, ℕ, suc, List, [], ◌∷◌, ◌++◌, Bool, true, false, cond, IsTrue, Some, refl}
use Rattle.std.proofs.Common.{ap, sym, subst, ◌∙◌, append_assoc, append-nil}
use Rattle.mw_logic.specs.Term.{RawTerm}
use Rattle.mw_logic.specs.Signature.{Signature, at_number}
use Rattle.mw_logic.specs.Accepted.{IsAccepted}
use Rattle.mw_logic.specs.Substitution.{Substitution, instance}
use Rattle.mw_logic.specs.NormalForm.{normal_form}
use Rattle.mw_logic.specs.Module.{Module, Statement, IsStatement}
use Rattle.mw_logic.specs.Proof.{replacement, row}
use Rattle.mw_logic.proofs.Canonical.{IsCanonical}
use Rattle.mw_logic.proofs.Ranks.{row_within}
use Rattle.mw_redex.specs.Replaced.{ReplacesAt}
use Rattle.mw_deduction.specs.Runs.{by_statement, by_row}
use Rattle.mw_deduction.specs.Runs as runs
use Rattle.mw_deduction.specs.Replay.{Stand, begun, whole, replacing, becomes, showing, all_sides, MayApply, MayMeet, MayEnd}
use Rattle.mw_deduction.specs.Stands.{IsStanding}
use Rattle.mw_deduction.proofs.MoveStands.{becomes_is}
use Rattle.mw_items.specs.Items.{Spot, Item, step, built, Items, none, Groups, end, with_item, with_group}
use Rattle.mw_prooftext.specs.Texts.{item_text, where_word, groups_text, step_text, built_text}
use Rattle.mw_prooftext.specs.Tells.{IsStep, IsBuilt, Tells}
use Rattle.mw_prooftext.specs.Passing.{TakesSome, a_statement, Passes, nothing}
use Rattle.mw_prooftext.specs.Narrow.{IsNarrowSpot}
use Rattle.mw_prooftext.specs.Told.{ShowsSides, told_items, item_start, word_before, item_end, braced, IsTold}
use Rattle.mw_prooftext.proofs.TextLaws.{told-with, groups-with, word_is}
use Rattle.mw_prooftext.proofs.TellLaws.{tells_then, shows-with, no_groups, no_sides, sides_told}
use Rattle.mw_prooftext.proofs.PassingLaws.{passes_then, row_passes, all_bound, applied_admitted, met_admitted}
use Rattle.mw_prooftext.proofs.NarrowLaws.{narrow-with, narrow-group}
use Rattle.mw_prooftext.proofs.Wholes.{IsSameTold}

-- three pieces behind a text
pub three_behind : (text a b d x y z : List ℕ) → x ≡ text ++ a → y ≡ x ++ b → z ≡ y ++ d → z ≡ text ++ (a ++ (b ++ d))
three_behind text a b d x y z e f g =
    g ∙ ap (λ w. w ++ d) f ∙ ap (λ w. (w ++ b) ++ d) e ∙ append_assoc (text ++ a) b d ∙ append_assoc text a (b ++ d)

module _ (M : Module) where
  abbrev sig : Signature
  sig = M.signature

  -- nothing is told yet
  pub begun_told : (head : List ℕ) (outer : Bool) (n : ℕ) (t : RawTerm) → IsCanonical sig t → IsTold M head outer head [] (begun n t)
  begun_told head outer n t canonical = record {
    canonical = canonical;
    items = none;
    text_is = sym (by_kind outer);
    tells = (refl, refl);
    passes = nothing;
    narrow = tt;
    sides = end;
    groups_are = refl;
    shows = refl;
    narrow_sides = tt;
  }
    where
      by_kind : (outer : Bool) → head ++ told_items sig outer none ≡ head
      by_kind true = append-nil head
      by_kind false = append-nil head

  -- into arguments and out of them
  pub told_same : {head : List ℕ} {outer : Bool} {text groups : List ℕ} (S Q : Stand) → IsSameTold sig S Q → IsTold M head outer text groups S → IsTold M head outer text groups Q
  told_same S Q (n, f, w, r, s) h = record {
    canonical = subst (IsCanonical sig) (sym f) h.canonical;
    items = h.items;
    text_is = h.text_is;
    tells = rw (f, w, r) h.tells;
    passes = rw (n, f, w) h.passes;
    narrow = h.narrow;
    sides = h.sides;
    groups_are = h.groups_are;
    shows = rw (n, s) h.shows;
    narrow_sides = h.narrow_sides;
  }

  -- the same text, and the same groups
  pub told_as : {head : List ℕ} {outer : Bool} {S : Stand} (text words groups waiting : List ℕ) → text ≡ words → groups ≡ waiting → IsTold M head outer words waiting S → IsTold M head outer text groups S
  told_as {head} {outer} {S} text words groups waiting e f h = subst (λ t. IsTold M head outer t groups S) (sym e) (subst (λ g. IsTold M head outer words g S) (sym f) h)

  -- an item behind the others
  text_with : (head text groups : List ℕ) (outer : Bool) (is : Items) (i : Item) (words : List ℕ) → text ≡ head ++ told_items sig outer is → item_text sig i ≡ words ++ (word_before groups ++ groups)
      → text ++ (item_start outer ++ (words ++ item_end outer groups)) ≡ head ++ told_items sig outer (with_item is i)
  text_with head text groups outer is i words e f =
      let n : List ℕ = cond outer (10 ∷ []) [] in
      let a : words ++ item_end outer groups ≡ item_text sig i ++ n = sym (append_assoc words (word_before groups ++ groups) n) ∙ ap (λ x. x ++ n) (sym f) in
      ap (λ x. text ++ (item_start outer ++ x)) a ∙ ap (λ x. x ++ (item_start outer ++ (item_text sig i ++ n))) e ∙ append_assoc head (told_items sig outer is) (item_start outer ++ (item_text sig i ++ n))
      ∙ ap (λ x. head ++ x) (sym (told-with sig outer is i))

  same_statement : {k : ℕ} {e f : Statement} → IsStatement M k f → at_number M.statements k ≡ Some e → IsStatement M k e
  same_statement {k} {e} {f} i h = let q : f ≡ e = cc (i.is_there, h) in record { is_there = h; executable = subst (λ (x : Statement). IsTrue x.executable) q i.executable }

  module _ (ok : IsAccepted M.signature) where
    -- a statement
    pub step_told : {head : List ℕ} {outer : Bool} {text groups : List ℕ} {k : ℕ} {r : Bool} {s : Substitution} {vs : List RawTerm} (S : Stand) (p : Spot) → k < 2 ^ 32 → IsNarrowSpot p → IsStanding M S → (m : MayApply M k r s vs S)
        → ReplacesAt sig r S.hand (becomes M k s S.hand) p.path p.take (whole sig S.opens S.hand) (whole sig S.opens (becomes M k s S.hand)) → TakesSome p (whole sig S.opens S.hand) → IsTold M head outer text groups S
        → IsTold M head outer (text ++ (item_start outer ++ (step_text sig m.statement.owise k p vs ++ item_end outer groups))) []
        (replacing sig (replacement k r s S.read.ready) (by_statement k s S.sides) (becomes M k s S.hand) S)
    step_told {head} {outer} {text} {groups} {k} {r} {s} {vs} S p few short stands m there takes h =
        let e : Statement = m.statement in
        let i : Item = step e.owise k p vs h.sides in
        let y : becomes M k s S.hand ≡ normal_form sig (instance s e.right) = becomes_is M ok k s S.hand e m.is_there in
        let u : RawTerm = whole sig S.opens (becomes M k s S.hand) in
        let a : ReplacesAt sig e.rule (normal_form sig (instance s e.left)) (normal_form sig (instance s e.right)) p.path p.take (whole sig S.opens S.hand) u =
        subst (λ b. ReplacesAt sig b (normal_form sig (instance s e.left)) (normal_form sig (instance s e.right)) p.path p.take (whole sig S.opens S.hand) u) (sym m.rule)
        (subst (λ w. ReplacesAt sig r w (normal_form sig (instance s e.right)) p.path p.take (whole sig S.opens S.hand) u) (sym m.may.is_part)
        (subst (λ x. ReplacesAt sig r S.hand x p.path p.take (whole sig S.opens S.hand) u) y there)) in
        let (told_sides, passing_sides) = sides_told M ok S.rank h.sides S.sides s (all_sides e.fragments) h.shows m.starts in
        let x : IsStep M e.owise k p vs (whole sig S.opens S.hand) u = record {
          statement = e;
          is_there = same_statement m.replaces.is_there m.is_there;
          kind = refl;
          subst = s;
          values = m.values;
          replaces = a;
        } in
        record {
          canonical = h.canonical;
          items = with_item h.items i;
          text_is = text_with head text groups outer h.items i (step_text sig e.owise k p vs) h.text_is (ap (λ z. step_text sig e.owise k p vs ++ z) (words h.sides groups h.groups_are));
          tells = tells_then M h.items i S.from (whole sig S.opens S.hand) u S.run _ h.tells (x, S.sides, refl, told_sides);
          passes = passes_then M S.rank h.items i S.from (whole sig S.opens S.hand) u h.passes (a_statement x m.replaces.substitution (all_bound M m) takes passing_sides) (applied_admitted M ok k r s vs S stands m);
          narrow = narrow-with h.items i h.narrow (few, short, h.narrow_sides);
          sides = end;
          groups_are = refl;
          shows = refl;
          narrow_sides = tt;
        }
      where
        words : (gs : Groups) (groups : List ℕ) → groups ≡ groups_text sig gs → where_word gs ++ groups_text sig gs ≡ word_before groups ++ groups
        words gs groups f = ap (λ w. w ++ groups_text sig gs) (sym (word_is sig gs)) ∙ ap (λ g. word_before g ++ g) (sym f)

    -- a row, with no groups before it
    pub row_told : {head : List ℕ} {outer : Bool} {text groups : List ℕ} {t : RawTerm} (S : Stand) (p : Spot) → IsNarrowSpot p → IsStanding M S → (m : MayMeet M t S)
        → ReplacesAt sig false S.hand t p.path p.take (whole sig S.opens S.hand) (whole sig S.opens t) → TakesSome p (whole sig S.opens S.hand) → IsTold M head outer text groups S
        → IsTold M head outer (text ++ (item_start outer ++ (built_text p ++ item_end outer groups))) [] (replacing sig row by_row t S)
    row_told {head} {outer} {text} {groups} {t} S p short stands m there takes h =
        let u : RawTerm = whole sig S.opens t in
        let none_shown : S.sides ≡ runs.end = no_sides M S stands m.nothing_waits in
        let none_wait : h.sides ≡ end = no_groups M S.rank h.sides (subst (ShowsSides M S.rank h.sides) none_shown h.shows) in
        let nothing : groups ≡ [] = h.groups_are ∙ ap (groups_text sig) none_wait in
        let a : ReplacesAt sig false (normal_form sig m.form) (normal_form sig m.result) p.path p.take (whole sig S.opens S.hand) u =
        subst (λ w. ReplacesAt sig false w (normal_form sig m.result) p.path p.take (whole sig S.opens S.hand) u) (sym m.may.is_part)
        (subst (λ x. ReplacesAt sig false S.hand x p.path p.take (whole sig S.opens S.hand) u) (sym m.is) there) in
        let x : IsBuilt M p (whole sig S.opens S.hand) u = record {
          form = m.form;
          result = m.result;
          row = row_within (λ v n. tt) m.meets;
          clean = m.clean;
          replaces = a;
        } in
        record {
          canonical = h.canonical;
          items = with_item h.items (built p);
          text_is = text_with head text groups outer h.items (built p) (built_text p) h.text_is (sym (append-nil (built_text p)) ∙ ap (λ g. built_text p ++ (word_before g ++ g)) (sym nothing));
          tells = tells_then M h.items (built p) S.from (whole sig S.opens S.hand) u S.run _ h.tells (x, refl);
          passes = passes_then M S.rank h.items (built p) S.from (whole sig S.opens S.hand) u h.passes (row_passes M S t p (whole sig S.opens S.hand) u m a takes) (met_admitted M ok t S stands m);
          narrow = narrow-with h.items (built p) h.narrow short;
          sides = end;
          groups_are = refl;
          shows = refl;
          narrow_sides = tt;
        }

  -- a side that ends becomes one more group
  pub side_told : {head : List ℕ} {outer : Bool} {text groups side waiting : List ℕ} (S Q : Stand) → MayEnd S → Q.rank ≡ suc S.rank → IsTold M [] false side waiting S
      → IsTold M head outer text groups Q → IsTold M head outer text (groups ++ braced side) (showing sig S Q)
  side_told {groups = groups} {side = side} S Q m below s h =
      let w : whole sig S.opens S.hand ≡ S.hand = ap (λ os. whole sig os S.hand) m.outside in
      record {
        canonical = h.canonical;
        items = h.items;
        text_is = h.text_is;
        tells = h.tells;
        passes = h.passes;
        narrow = h.narrow;
        sides = with_group h.sides s.items;
        groups_are = ap (λ g. g ++ braced side) h.groups_are ∙ ap (λ x. groups_text sig h.sides ++ braced x) s.text_is ∙ sym (groups-with sig h.sides s.items);
        shows = shows-with M Q.rank S.rank h.sides Q.sides s.items S.from S.hand S.run below h.shows s.canonical (subst (λ u. Tells M s.items S.from u S.run) w s.tells) (subst (Passes M S.rank s.items S.from) w s.passes);
        narrow_sides = narrow-group h.sides s.items h.narrow_sides s.narrow;
      }
