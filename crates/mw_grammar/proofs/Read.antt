-- What stands in the chart's sense between two places is so in each sense that is closed under the forms, by the tokens between.
use Rattle.std.proofs.Common.{ℕ, zero, suc, ◌≡◌, ◌<◌, ◌≤◌, ◌⊎◌, ◌∙◌, ◌+◌, List, [], ◌∷◌, ◌++◌, length, take, drop, codes, Some, refl, sym, ap, subst, inl, inr, arith, append_assoc, append-nil, length-append}
use Rattle.std.specs.List.{slice_get}
use Rattle.mw_logic.specs.Term.{Variable, RawTerm, apply, RawTerms, nil, cons, join}
use Rattle.mw_logic.specs.Signature.{Signature}
use Rattle.mw_chart.specs.Tree.{Tree, leaf, head, app}
use Rattle.mw_chart.specs.Spelling.{NextAt, IsProduction, TokenAt, IsItem, predicted, scanned, completed, grouped, alone}
use Rattle.mw_chart.specs.declared.table.Next.{Next}
use Rattle.mw_chart.specs.declared.table.Next.TheVariants.{Token, Hole, Whole}
use Rattle.mw_chart.specs.declared.table.Table.{Table}
use Rattle.mw_chart.specs.declared.terminal.Terminal.{Terminal}
use Rattle.mw_grammar.specs.declared.parts.Symbol.{Symbol}
use Rattle.mw_grammar.specs.declared.parts.Symbol.TheVariants as part
use Rattle.mw_grammar.specs.Notations.{Notation}
use Rattle.mw_grammar.specs.Notations.{IsNotation}
use Rattle.mw_grammar.specs.Readable.{AreKinds, AreVariables}
use Rattle.mw_grammar.specs.Leaves.{IsAlone, IsKindOf}
use Rattle.mw_grammar.specs.Compiled.{IsNumber, Leads, there, past_piece, past_hole, IsCompiled}
use Rattle.mw_grammar.specs.Worded.{AreWords}
use Rattle.mw_grammar.specs.Meaning.{leaf_at, with_last, term_of}
use Rattle.mw_grammar.proofs.Over.{Over, done, snoc_piece, snoc_hole}
use Rattle.mw_grammar.proofs.Closed.{IsClosed}
use Rattle.mw_grammar.proofs.Numbers.{same_number}
use Rattle.mw_grammar.proofs.LeafTerms.{alone_within}
use Rattle.mw_grammar.proofs.Placed.{some_at, member_at}

pub one_there : {X : Type 0} (xs : List X) (k : ℕ) (x y : X) → slice_get xs k ≡ Some x → slice_get xs k ≡ Some y → x ≡ y
one_there xs k x y a b = cc

pub below : {X : Type 0} (xs : List X) (k : ℕ) (x : X) → slice_get xs k ≡ Some x → k < length xs
below [] k x e = let bad : ⊥ = (cc) in absurd bad
below (y ∷ xs) zero x e = omega arith
below (y ∷ xs) (suc k) x e = let h = below xs k x e in omega arith

-- from a state that leads over parts to a whole one, a step goes over the first part
leads_token : (steps : List Next) (names : List (List ℕ)) (s x next w kind p : ℕ) (parts : List Symbol) → Leads steps names s parts w → slice_get steps s ≡ Some (Token x next)
    → slice_get steps w ≡ Some (Whole kind p) → (name : List ℕ) × (rest : List Symbol) × (parts ≡ part.Piece name ∷ rest) × IsNumber names x name × Leads steps names next rest w
leads_token steps names s x next w kind p parts (there s2) st wh = let bad : ⊥ = (let q = one_there steps s _ _ st wh in cc) in absurd bad
leads_token steps names s x next w kind p parts (past_piece s2 y n2 w2 name rest st2 num d) st wh =
    let q = one_there steps s _ _ st2 st in
    let same : n2 ≡ next = (cc) in
    let same2 : y ≡ x = (cc) in
    (name, rest, refl, subst (λ (m : ℕ). IsNumber names m name) same2 num, subst (λ (m : ℕ). Leads steps names m rest w) same d)
leads_token steps names s x next w kind p parts (past_hole s2 k2 b2 n2 w2 rest st2 d) st wh = let bad : ⊥ = (let q = one_there steps s _ _ st2 st in cc) in absurd bad

pub leads_hole : (steps : List Next) (names : List (List ℕ)) (s k3 b3 next w kind p : ℕ) (parts : List Symbol) → Leads steps names s parts w → slice_get steps s ≡ Some (Hole k3 b3 next)
    → slice_get steps w ≡ Some (Whole kind p) → (rest : List Symbol) × (parts ≡ part.Hole k3 b3 ∷ rest) × Leads steps names next rest w
leads_hole steps names s k3 b3 next w kind p parts (there s2) st wh = let bad : ⊥ = (let q = one_there steps s _ _ st wh in cc) in absurd bad
leads_hole steps names s k3 b3 next w kind p parts (past_piece s2 y n2 w2 name rest st2 num d) st wh = let bad : ⊥ = (let q = one_there steps s _ _ st2 st in cc) in absurd bad
leads_hole steps names s k3 b3 next w kind p parts (past_hole s2 k2 b2 n2 w2 rest st2 d) st wh =
    let q = one_there steps s _ _ st2 st in
    let same : n2 ≡ next = (cc) in
    let a : k2 ≡ k3 = (cc) in
    let b : b2 ≡ b3 = (cc) in
    (rest, ap (λ m. part.Hole m b2 ∷ rest) a ∙ ap (λ m. part.Hole k3 m ∷ rest) b, subst (λ (m : ℕ). Leads steps names m rest w) same d)

pub leads_whole : (steps : List Next) (names : List (List ℕ)) (s w kind p : ℕ) (parts : List Symbol) → Leads steps names s parts w → slice_get steps s ≡ Some (Whole kind p) → (parts ≡ []) × (s ≡ w)
leads_whole steps names s w kind p parts (there s2) st = (refl, refl)
leads_whole steps names s w kind p parts (past_piece s2 y n2 w2 name rest st2 num d) st = let bad : ⊥ = (let q = one_there steps s _ _ st2 st in cc) in absurd bad
leads_whole steps names s w kind p parts (past_hole s2 k2 b2 n2 w2 rest st2 d) st = let bad : ⊥ = (let q = one_there steps s _ _ st2 st in cc) in absurd bad

head_of : (a post : List (List ℕ)) (x : List ℕ) → slice_get (a ++ post) (length a) ≡ Some x → (rest : List (List ℕ)) × (post ≡ x ∷ rest)
head_of [] [] x e = let bad : ⊥ = (cc) in absurd bad
head_of [] (y ∷ ys) x e = let same : y ≡ x = (cc) in (ys, ap (λ m. m ∷ ys) same)
head_of (z ∷ a) post x e = head_of a post x e

last_of : (pre q : List (List ℕ)) (i : ℕ) (x : List ℕ) → length pre ≡ i + 1 → slice_get (pre ++ q) i ≡ Some x → (p : List (List ℕ)) × (pre ≡ p ++ x ∷ []) × (length p ≡ i)
last_of [] q i x len e = absurd (omega (arith, len))
last_of (y ∷ []) q zero x len e = let same : y ≡ x = (cc) in ([], ap (λ m. m ∷ []) same, refl)
last_of (y ∷ []) q (suc i) x len e = absurd (omega (arith, len))
last_of (y ∷ z ∷ ps) q zero x len e = absurd (omega (arith, len))
last_of (y ∷ z ∷ ps) q (suc i) x len e =
    let r = last_of (z ∷ ps) q i x (omega (arith, len)) e in (y ∷ r.0, ap (λ m. y ∷ m) r.1, ap suc r.2)

same_list : (x y : List ℕ) (a c : List (List ℕ)) → x ≡ y → a ≡ c → x ∷ a ≡ y ∷ c
same_list x y a c e f = ap (λ m. m ∷ a) e ∙ ap (λ m. y ∷ m) f

split_same : (a b c d : List (List ℕ)) → a ++ b ≡ c ++ d → length a ≡ length c → (a ≡ c) × (b ≡ d)
split_same [] b [] d e len = (refl, e)
split_same [] b (y ∷ c) d e len = absurd (omega (arith, len))
split_same (x ∷ a) b [] d e len = absurd (omega (arith, len))
split_same (x ∷ a) b (y ∷ c) d e len =
    let tails : a ++ b ≡ c ++ d = (cc) in
    let heads : x ≡ y = (cc) in
    let r = split_same a b c d tails (omega (arith, len)) in
    (same_list x y a c heads r.0, r.1)

parted : (full : List (List ℕ)) (i : ℕ) → take i full ++ drop i full ≡ full
parted [] zero = refl
parted [] (suc i) = refl
parted (x ∷ xs) zero = refl
parted (x ∷ xs) (suc i) = ap (λ m. x ∷ m) (parted xs i)

length_front : (full : List (List ℕ)) (i : ℕ) → i ≤ length full → length (take i full) ≡ i
length_front [] zero h = refl
length_front [] (suc i) h = absurd (omega arith)
length_front (x ∷ xs) zero h = refl
length_front (x ∷ xs) (suc i) h = ap suc (length_front xs i (omega arith))

-- the tokens from i to k
pub record Between (full text : List (List ℕ)) (i k : ℕ) : Type 0 where
  pub before : List (List ℕ)
  pub behind : List (List ℕ)
  pub parts : full ≡ before ++ (text ++ behind)
  pub from : length before ≡ i
  pub to : i + length text ≡ k

module _ (sig : Signature) (variables : List Variable) (kind : ℕ → ℕ) (ks : AreKinds sig kind) (vs : AreVariables sig variables) where
  module _ (names : List (List ℕ)) (g : Table) (compiled : IsCompiled (length sig.sorts) (IsNotation kind sig) names g) where
    module _ (leaves : List RawTerm) (full : List (List ℕ)) (words : List Terminal) (worded : AreWords sig variables kind names leaves full words) where
      module _ (S : ℕ → ℕ → RawTerm → List (List ℕ) → Type 0) (closed : IsClosed sig variables kind S) where
        -- how far a form's text has come
        pub record Progress (s : ℕ) (v : Tree) (text : List (List ℕ)) : Type 0 where
          pub form : Notation
          pub member : IsNotation kind sig form
          pub front : List Symbol
          pub back : List Symbol
          pub terms : RawTerms
          pub parts : form.parts ≡ front ++ back
          pub over : Over S front terms text
          pub value : term_of leaves v ≡ apply form.operator terms
          pub last : ℕ
          pub leads : Leads g.steps.items names s back last
          pub whole : NextAt g last (Whole form.kind form.precedence)

        abbrev pub IsComplete : ℕ → Tree → List (List ℕ) → Type 0
        IsComplete s v text = (K : ℕ) × NextAt g s (Whole K 0) × S K 0 (term_of leaves v) text

        pub whole_read : (s K p : ℕ) (v : Tree) (text : List (List ℕ)) → Progress s v text ⊎ IsComplete s v text → NextAt g s (Whole K p) → S K p (term_of leaves v) text
        whole_read s K p v text (inl r) wh =
            let e = leads_whole g.steps.items names s r.last K p r.back r.leads wh in
            let parts : r.form.parts ≡ r.front = r.parts ∙ ap (λ m. r.front ++ m) e.0 ∙ append-nil r.front in
            let wh2 : NextAt g s (Whole r.form.kind r.form.precedence) = subst (λ (m : ℕ). NextAt g m (Whole r.form.kind r.form.precedence)) (sym e.1) r.whole in
            let q = one_there g.steps.items s _ _ wh2 wh in
            let a : r.form.kind ≡ K = (cc) in
            let b : r.form.precedence ≡ p = (cc) in
            let d = closed.formed r.form r.terms text r.member (subst (λ (m : List Symbol). Over S m r.terms text) (sym parts) r.over) in
            subst (λ (m : RawTerm). S K p m text) (sym r.value)
            (subst (λ (m : ℕ). S K m (apply r.form.operator r.terms) text) b (subst (λ (m : ℕ). S m r.form.precedence (apply r.form.operator r.terms) text) a d))
        whole_read s K p v text (inr (k2, wh2, d)) wh =
            let q = one_there g.steps.items s _ _ wh2 wh in
            let a : k2 ≡ K = (cc) in
            let b : 0 ≡ p = (cc) in
            subst (λ (m : ℕ). S K m (term_of leaves v) text) b (subst (λ (m : ℕ). S m 0 (term_of leaves v) text) a d)

        abbrev Readable : ℕ → Tree → ℕ → ℕ → Type 0
        Readable s v i k = (text : List (List ℕ)) × Between full text i k × (Progress s v text ⊎ IsComplete s v text)

        -- the token at a place, by its number
        named_at : (k n : ℕ) (name : List ℕ) → TokenAt words k n → IsNumber names n name → slice_get full k ≡ Some name
        named_at k n name at num =
            let h = below words k at.0 at.1 in
            let c = worded.count in
            let r = some_at full k (omega (arith, h, c)) in
            let w = worded.each k r.0 at.0 r.1 at.1 in
            let same : r.0 ≡ name = same_number names n name r.0 num (sym w.number ∙ at.2) in
            r.1 ∙ ap (λ m. Some m) same

        opened_read : (s op i : ℕ) → IsProduction g s op → i ≤ length full → Readable s (head op) i i
        opened_read s op i start h =
            let f = compiled.sound start.0 start.1 start.2 in (
              [],
              record { before = take i full; behind = drop i full; parts = sym (parted full i); from = length_front full i h; to = omega arith },
              inl (record {
                form = f.0;
                member = f.1;
                front = [];
                back = f.0.parts;
                terms = nil;
                parts = refl;
                over = done;
                value = ap (λ m. apply m nil) (sym start.4 ∙ f.2.operator);
                last = f.2.last;
                leads = subst (λ (m : ℕ). Leads g.steps.items names m f.0.parts f.2.last) start.3 f.2.leads;
                whole = f.2.whole;
              }),
            )

        -- one token more
        token_read : (s next x : ℕ) (v : Tree) (i k : ℕ) → NextAt g s (Token x next) → TokenAt words k x → Readable s v i k → Readable next v i (k + 1)
        token_read s next x v i k st got (text, between, inr (k3, wh, sp)) = let bad : ⊥ = (let q = one_there g.steps.items s _ _ wh st in cc) in absurd bad
        token_read s next x v i k st got (text, between, inl p) =
            let way = leads_token g.steps.items names s x next p.last p.form.kind p.form.precedence p.back p.leads st p.whole in
            let pre = between.before in
            let post = between.behind in
            let whole : full ≡ (pre ++ text) ++ post = between.parts ∙ sym (append_assoc pre text post) in
            let at : k ≡ length (pre ++ text) = sym between.to ∙ ap (λ m. m + length text) (sym between.from) ∙ sym (length-append pre text) in
            let here : slice_get full k ≡ Some way.0 = named_at k x way.0 got way.3 in
            let next_one = head_of (pre ++ text) post way.0 (subst (λ (m : ℕ). slice_get ((pre ++ text) ++ post) m ≡ Some way.0) at (subst (λ (m : List (List ℕ)). slice_get m k ≡ Some way.0) whole here)) in
            let e : full ≡ pre ++ ((text ++ way.0 ∷ []) ++ next_one.0) =
            between.parts ∙ ap (λ m. pre ++ (text ++ m)) next_one.1 ∙ ap (λ m. pre ++ m) (sym (append_assoc text (way.0 ∷ []) next_one.0)) in
            let len : i + length (text ++ way.0 ∷ []) ≡ k + 1 = (let a = length-append text (way.0 ∷ []) in let b = between.to in omega (arith, a, b)) in (
              text ++ way.0 ∷ [],
              record { before = pre; behind = next_one.0; parts = e; from = between.from; to = len },
              inl (record {
                form = p.form;
                member = p.member;
                front = p.front ++ part.Piece way.0 ∷ [];
                back = way.1;
                terms = p.terms;
                parts = p.parts ∙ ap (λ m. p.front ++ m) way.2 ∙ sym (append_assoc p.front (part.Piece way.0 ∷ []) way.1);
                over = snoc_piece S p.front p.terms text way.0 p.over;
                value = p.value;
                last = p.last;
                leads = way.4;
                whole = p.whole;
              }),
            )

        -- one hole more
        hole_read : (s next K b : ℕ) (v : Tree) (i k : ℕ) → NextAt g s (Hole K b next) → (w p : ℕ) (t : Tree) (e : ℕ) → NextAt g w (Whole K p) → p < b → Readable w t k e → Readable s v i k
            → Readable next (app v t) i e
        hole_read s next K b v i k st w p t e wh le two (text, between, inr (k3, wh3, sp)) = let bad : ⊥ = (let q = one_there g.steps.items s _ _ wh3 st in cc) in absurd bad
        hole_read s next K b v i k st w p t e wh le (text2, between2, r2) (text, between, inl r) =
            let way = leads_hole g.steps.items names s K b next r.last r.form.kind r.form.precedence r.back r.leads st r.whole in
            let sp = whole_read w K p t text2 r2 wh in
            let pre = between.before in
            let post = between.behind in
            let whole : full ≡ (pre ++ text) ++ post = between.parts ∙ sym (append_assoc pre text post) in
            let at : length (pre ++ text) ≡ k = length-append pre text ∙ ap (λ m. m + length text) between.from ∙ between.to in
            let same = split_same (pre ++ text) post between2.before (text2 ++ between2.behind) (sym whole ∙ between2.parts) (at ∙ sym between2.from) in
            let e2 : full ≡ pre ++ ((text ++ text2) ++ between2.behind) = between.parts ∙ ap (λ m. pre ++ (text ++ m)) same.1 ∙ ap (λ m. pre ++ m) (sym (append_assoc text text2 between2.behind)) in
            let len : i + length (text ++ text2) ≡ e = (let a = length-append text text2 in let b = between.to in let c = between2.to in omega (arith, a, b, c)) in (
              text ++ text2,
              record { before = pre; behind = between2.behind; parts = e2; from = between.from; to = len },
              inl (record {
                form = r.form;
                member = r.member;
                front = r.front ++ part.Hole K b ∷ [];
                back = way.0;
                terms = join r.terms (cons (term_of leaves t) nil);
                parts = r.parts ∙ ap (λ m. r.front ++ m) way.1 ∙ sym (append_assoc r.front (part.Hole K b ∷ []) way.0);
                over = snoc_hole S r.front r.terms text text2 K b p (term_of leaves t) sp le r.over;
                value = ap (λ m. with_last m (term_of leaves t)) r.value;
                last = r.last;
                leads = way.2;
                whole = r.whole;
              }),
            )

        group_read : (w K p : ℕ) (t : Tree) (i e : ℕ) → TokenAt words i g.open → NextAt g w (Whole K p) → TokenAt words e g.close → (s : ℕ) → slice_get g.groups.items K ≡ Some s
            → Readable w t (i + 1) e → Readable s t i (e + 1)
        group_read w K p t i e o wh c s gr (text, between, r) =
            let sp = whole_read w K p t text r wh in
            let pre = between.before in
            let post = between.behind in
            let opening : slice_get full i ≡ Some (codes "(") = named_at i g.open (codes "(") o compiled.opens in
            let closing : slice_get full e ≡ Some (codes ")") = named_at e g.close (codes ")") c compiled.closes in
            let first = last_of pre (text ++ post) i (codes "(") between.from (subst (λ (m : List (List ℕ)). slice_get m i ≡ Some (codes "(")) between.parts opening) in
            let whole : full ≡ (pre ++ text) ++ post = between.parts ∙ sym (append_assoc pre text post) in
            let at : e ≡ length (pre ++ text) = sym between.to ∙ ap (λ m. m + length text) (sym between.from) ∙ sym (length-append pre text) in
            let next_one = head_of (pre ++ text) post (codes ")") (subst (λ (m : ℕ). slice_get ((pre ++ text) ++ post) m ≡ Some (codes ")")) at (subst (λ (m : List (List ℕ)). slice_get m e ≡ Some (codes ")")) whole closing)) in
            let inner : full ≡ first.0 ++ ((codes "(" ∷ text ++ codes ")" ∷ []) ++ next_one.0) =
            between.parts ∙ ap (λ m. m ++ (text ++ post)) first.1 ∙ append_assoc first.0 (codes "(" ∷ []) (text ++ post)
            ∙ ap (λ m. first.0 ++ (codes "(" ∷ text ++ m)) next_one.1 ∙ ap (λ m. first.0 ++ (codes "(" ∷ m)) (sym (append_assoc text (codes ")" ∷ []) next_one.0)) in
            let len : i + length (codes "(" ∷ text ++ codes ")" ∷ []) ≡ e + 1 = (let a = length-append text (codes ")" ∷ []) in let b = between.to in omega (arith, a, b)) in
            let q = compiled.groups.only K s gr in
            let state : NextAt g s (Whole K 0) = subst (λ (m : ℕ). NextAt g m (Whole K 0)) (sym q.1) (compiled.kinds K q.0) in (
              codes "(" ∷ text ++ codes ")" ∷ [],
              record { before = first.0; behind = next_one.0; parts = inner; from = first.2; to = len },
              inr (K, state, closed.enclosed K p (term_of leaves t) text q.0 sp),
            )

        leaf_read : (s x i : ℕ) (word : Terminal) → slice_get words i ≡ Some word → (token : List ℕ) → slice_get full i ≡ Some token
            → (t : RawTerm) → slice_get leaves x ≡ Some t → IsAlone sig variables token t → IsKindOf sig kind t s → Readable s (leaf x) i (i + 1)
        leaf_read s x i word at token here t is h k =
            let n = below full i token here in
            let split = parted full i in
            let l = length_front full i (omega (arith, n)) in
            let rest = head_of (take i full) (drop i full) token (subst (λ (m : List (List ℕ)). slice_get m (length (take i full)) ≡ Some token) (sym split) (subst (λ (m : ℕ). slice_get full m ≡ Some token) (sym l) here)) in
            let K = kind k.one in
            let e : s ≡ K = k.all k.one k.has in
            let whole = compiled.kinds K (alone_within sig variables kind ks vs t k.one k.has token h) in
            let value : t ≡ term_of leaves (leaf x) = ap leaf_at (sym is) in (
              token ∷ [],
              record { before = take i full; behind = rest.0; parts = sym split ∙ ap (λ m. take i full ++ m) rest.1; from = l; to = omega arith },
              inr (K, subst (λ (m : ℕ). NextAt g m (Whole K 0)) (sym e) whole, subst (λ (m : RawTerm). S K 0 m (token ∷ [])) value (closed.alone t k.one token h k.has)),
            )

        pub read : (s : ℕ) (v : Tree) (i k : ℕ) → IsItem g words s v i k → i ≤ length full → Readable s v i k
        read s v i k (predicted s2 op i2 start) h = opened_read s op i start h
        read s v i k (scanned s2 next x v2 i2 k2 d st got) h = token_read s2 next x v2 i2 k2 st got (read s2 v2 i2 k2 d h)
        read s v i k (completed s2 next K b v2 i2 k2 d st w p t e2 rd wh le) h =
            let r = read s2 v2 i2 k2 d h in
            hole_read s2 next K b v2 i2 k2 st w p t e2 wh le (read w t k2 e2 rd (end_within k2 r.0 i2 r.1)) r
          where
            end_within : (k : ℕ) (text : List (List ℕ)) (i : ℕ) → Between full text i k → k ≤ length full
            end_within k text i b =
                let l = length-append b.before (text ++ b.behind) in
                let m = length-append text b.behind in
                let n = ap length b.parts in
                let f = b.from in
                let t = b.to in
                omega (arith, l, m, n, f, t)
        read s v i k (grouped w K p t i2 e2 o rd wh c s2 gr) h =
            let at = below words i2 o.0 o.1 in
            let n = worded.count in
            group_read w K p t i2 e2 o wh c s2 gr (read w t (i2 + 1) e2 rd (omega (arith, at, n)))
        read s v i k (alone s2 x i2 (word, at, leafs)) h =
            let b = below words i2 word at in
            let n = worded.count in
            let r = some_at full i2 (omega (arith, b, n)) in
            let w = worded.each i2 r.0 word r.1 at in
            let y = w.sound leafs.1 (member_at word.leaves.items leafs.0 leafs.1 leafs.2) in
            leaf_read s2 x i2 word at r.0 r.1 y.0 (ap (slice_get leaves) (sym leafs.4) ∙ y.1.0) y.2 (subst (IsKindOf sig kind y.0) leafs.3 y.1.1)

        none_left : (xs : List (List ℕ)) → length xs ≡ 0 → xs ≡ []
        none_left [] e = refl
        none_left (x ∷ xs) e = absurd (omega (arith, e))

        -- a whole text
        pub read_all : (s K p : ℕ) (v : Tree) → IsItem g words s v 0 (length words) → NextAt g s (Whole K p) → S K p (term_of leaves v) full
        read_all s K p v d wh =
            let r = read s v 0 (length words) d (omega arith) in
            let b = r.1 in
            let l = ap length b.parts ∙ length-append b.before (r.0 ++ b.behind) in
            let m = length-append r.0 b.behind in
            let n = worded.count in
            let f = none_left b.before b.from in
            let t = b.to in
            let from = b.from in
            let e = none_left b.behind (omega (arith, l, m, n, t, from)) in
            let same : full ≡ r.0 = b.parts ∙ ap (λ m. m ++ (r.0 ++ b.behind)) f ∙ ap (λ m. r.0 ++ m) e ∙ append-nil r.0 in
            subst (S K p (term_of leaves v)) (sym same) (whole_read s K p v r.0 r.2 wh)
