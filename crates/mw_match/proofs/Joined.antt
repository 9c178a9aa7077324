-- Proper parts that are picked are all proper parts that a pattern matches.
use Rattle.std.specs.Prelude.{◌≡◌, ◌≤◌, ◌<◌, ◌+◌, ◌-◌, Bool, true, false, not, ◌&&◌, ℕ, List, [], ◌++◌, length, drop, get_or, map, cond, None, IsTrue, refl}
use Rattle.std.proofs.Common.{sym, ap, subst, ◌∙◌, arith}
use Rattle.std.proofs.lemmas.Bool.{both_ways}
use Rattle.std.proofs.lemmas.List.{append-nil}
use Rattle.mw_logic.specs.Term.{RawTerm, apply, RawTerms, nil, cons}
use Rattle.mw_logic.specs.Terms.{args_of, terms_of}
use Rattle.mw_logic.specs.Signature.{Signature, Member}
use Rattle.mw_logic.specs.Accepted.{IsAccepted}
use Rattle.mw_logic.specs.CanonicalPart.{AreSeveral}
use Rattle.mw_logic.specs.Parts.{is_assoc, number_of_terms}
use Rattle.mw_logic.specs.NormalForm.{is_comm, identity_of, elements}
use Rattle.mw_logic.proofs.Canonical.{IsCanonical, nat_eq-refl}
use Rattle.mw_position.specs.Positions.{counted, IsNumbered}
use Rattle.mw_matching.specs.Matches.{Fits, HasArities}
use Rattle.mw_matching.specs.Patterns.{is_rigid, theory}
use Rattle.mw_matching.specs.Found.{Values, value_of, are_none, fits, is_single}
use Rattle.mw_solving.specs.Inside.{Entry, joins, left_entries, entries_from, proper_entries, whole_entries, entries}
use Rattle.mw_solving.proofs.Parts.{several_from, elements_several, arguments_are}
use Rattle.mw_search.specs.Goals.{top_of}
use Rattle.mw_search.proofs.BagLists.{number_terms, terms_at, terms_past}
use Rattle.mw_compile.specs.declared.compiled.Compiled.{Compiled}
use Rattle.mw_match.specs.Choices.{picked, part_entry, ArePicked}
use Rattle.mw_match.specs.Parts.{rest_of}
use Rattle.mw_match.specs.Hands.{first_entries, picked_entries}
use Rattle.mw_match.specs.Picks.{MayPick}
use Rattle.mw_match.specs.declared.parts.Parts.{Parts}
use Rattle.mw_match.proofs.PickedLaw.{picks_are_lefts}
use Rattle.mw_logic.proofs.Members.{member-left}
use Rattle.mw_match.proofs.Inside.{Sized, both_lists, own_rest, own_entries, all_entries}

-- what stands on several arguments becomes several elements under its operator
joined : (sig : Signature) (single : List (List ℕ)) (f : ℕ) (qs : RawTerms) → AreSeveral qs → joins sig single f (apply f qs) ≡ true
joined sig single f nil s = absurd s
joined sig single f (cons q nil) s = absurd s
joined sig single f (cons q (cons r qs)) s =
    let p : RawTerm = apply f (cons q (cons r qs)) in
    let loose : is_rigid sig (is_single single) f p ≡ false = rw (nat_eq-refl f) refl in
    let some : not (are_none (elements (identity_of sig f) f p)) ≡ true = ap (λ ts. not (are_none ts)) (elements_several (identity_of sig f) f (cons q (cons r qs)) tt) in
    ap (λ b. not b && not (are_none (elements (identity_of sig f) f p))) loose ∙ some

picked_under : (sig : Signature) → IsAccepted sig → (single : List (List ℕ)) (m f : ℕ) (args qs : RawTerms) (vs : Values) → is_assoc sig f ≡ true → is_comm sig f ≡ true → 2 ≤ number_of_terms qs → number_of_terms qs < number_of_terms args
    → ArePicked sig single f qs → IsCanonical sig (apply f args) → length single ≤ m → HasArities sig (apply f qs) → IsNumbered (length vs) (apply f qs) → counted (length vs) (apply f qs) ≡ m
    → Fits sig (theory sig (fits sig single) (is_single single)) 0 vs → map part_entry (picked sig single args qs [] vs) ≡ proper_entries sig single (apply f qs) m vs (apply f args)
picked_under sig ok single m f args qs vs h ac two fewer a k bound arities numbered all fit =
    let several : AreSeveral args = several_from args (omega (arith, two, fewer)) in
    let those : AreSeveral qs = several_from qs two in
    let join : joins sig single f (apply f qs) ≡ true = joined sig single f qs those in
    let law : left_entries sig single (apply f qs) m vs f args 0 ≡ map part_entry (picked sig single args qs [] vs) =
    picks_are_lefts sig ok single f h ac args (arguments_are sig ok f h args several k) m bound (apply f qs) qs vs (elements_several (identity_of sig f) f qs those) a
    (record { fit = fit; numbered = numbered; arities = arities.1; all = all }) two fewer several in
    let lefts : List Entry = left_entries sig single (apply f qs) m vs f args 0 in
    let more : List Entry = entries_from sig single (apply f qs) m vs f args 1 (number_of_terms args - 2) in
    sym (ap (λ b. cond (b && joins sig single f (apply f qs)) (lefts ++ cond (is_comm sig f) [] more) []) h ∙ ap (λ b. cond b (lefts ++ cond (is_comm sig f) [] more) []) join
    ∙ ap (λ b. lefts ++ cond b [] more) ac ∙ append-nil lefts ∙ law)

pub picked_proper : (sig : Signature) → IsAccepted sig → (c : Compiled) (t : RawTerm) (vs : Values) → MayPick sig c t → IsCanonical sig t → length c.positions.single.items ≤ length c.variables
    → HasArities sig c.pattern → IsNumbered (length vs) c.pattern → counted (length vs) c.pattern ≡ length c.variables
    → Fits sig (theory sig (fits sig c.positions.single.items) (is_single c.positions.single.items)) 0 vs
    → map part_entry (picked sig c.positions.single.items (args_of t) (args_of c.pattern) [] vs) ≡ proper_entries sig c.positions.single.items c.pattern (length c.variables) vs t
picked_proper sig ok c t vs k canonical bound arities numbered all fit =
    let single : List (List ℕ) = c.positions.single.items in
    let m : ℕ = length c.variables in
    picked_under sig ok single m (top_of t) (args_of t) (args_of c.pattern) vs k.assoc k.comm k.two k.fewer k.picked (subst (IsCanonical sig) k.term canonical) bound
    (subst (HasArities sig) k.pattern arities) (subst (IsNumbered (length vs)) k.pattern numbered) (ap (counted (length vs)) (sym k.pattern) ∙ all) fit
    ∙ ap (λ q. proper_entries sig single q m vs (apply (top_of t) (args_of t))) (sym k.pattern)
    ∙ ap (proper_entries sig single c.pattern m vs) (sym k.term)

-- Proper parts come from searches with a rest behind the pattern, or are picked.
abbrev pub TakesParts : Parts → Values → RawTerm → Bool → Bool → Type 0
TakesParts p vs t inside false = p.rest ≡ cond inside (rest_of vs (own_rest p vs t)) None
TakesParts p vs t true true = (p.rest ≡ None) × MayPick p.context.now.signature p.compiled.now t
TakesParts p vs t false true = ⊥

pub may_pick : (p : Parts) (vs : Values) (t : RawTerm) (inside by_picks : Bool) → TakesParts p vs t inside by_picks → by_picks ≡ true → MayPick p.context.now.signature p.compiled.now t
may_pick p vs t inside false h e = absurd (both_ways false refl e)
may_pick p vs t true true h e = h.1
may_pick p vs t false true h e = absurd h

-- so solutions begin with all entries
pub all_taken : (p : Parts) (vs : Values) (inside by_picks : Bool) (t : RawTerm) → p.subject ≡ t → TakesParts p vs t inside by_picks → (by_picks ≡ true → picked_entries p vs ≡ own_entries p vs t)
    → Sized (length p.compiled.now.variables) (entries p.context.now.signature p.compiled.now.positions.single.items p.compiled.now.pattern (length p.compiled.now.variables) vs inside t)
    → first_entries p vs ++ cond by_picks (picked_entries p vs) [] ≡ entries p.context.now.signature p.compiled.now.positions.single.items p.compiled.now.pattern (length p.compiled.now.variables) vs inside t
all_taken p vs inside false t subject h proper sized = append-nil (first_entries p vs) ∙ all_entries p vs inside t subject h sized
all_taken p vs false true t subject h proper sized = absurd h
all_taken p vs true true t subject h proper sized =
    let whole : List Entry = whole_entries p.context.now.signature p.compiled.now.positions.single.items p.compiled.now.pattern (length p.compiled.now.variables) vs t in
    let alone : Sized (length p.compiled.now.variables) (whole ++ []) = λ e l. sized e (member-left e whole (own_entries p vs t) (subst (Member e) (append-nil whole) l)) in
    both_lists (all_entries p vs false t subject h.0 alone ∙ append-nil whole) (proper refl)

-- as it is found out
pub taken_from : (p : Parts) (vs : Values) (t : RawTerm) (by_picks : Bool) → (IsTrue by_picks → MayPick p.context.now.signature p.compiled.now t) → p.rest ≡ cond by_picks None (rest_of vs (own_rest p vs t)) → TakesParts p vs t true by_picks
taken_from p vs t false pick rest = rest
taken_from p vs t true pick rest = (rest, pick refl)

-- a pattern that may pick, as it is told by its parts
pub pick_there : (sig : Signature) (c : Compiled) (t : RawTerm) (f g : ℕ) (ps ts : List RawTerm) (comm : Bool) → c.pattern ≡ apply g (terms_of ps) → t ≡ apply f (terms_of ts) → is_assoc sig f ≡ true → is_comm sig f ≡ comm → comm ≡ true → g ≡ f
    → 2 ≤ length ps → length ps < length ts → ArePicked sig c.positions.single.items f (terms_of ps) → MayPick sig c t
pick_there sig c t f g ps ts comm pattern term assoc comm_is commutes same two fewer each =
    let top : top_of t ≡ f = ap top_of term in
    let args : args_of t ≡ terms_of ts = ap args_of term in
    let qs : args_of c.pattern ≡ terms_of ps = ap args_of pattern in
    let m = number_terms ps in
    let n = number_terms ts in
    let number_qs : number_of_terms (args_of c.pattern) ≡ number_of_terms (terms_of ps) = ap number_of_terms qs in
    let number_args : number_of_terms (args_of t) ≡ number_of_terms (terms_of ts) = ap number_of_terms args in
    record {
      pattern = pattern ∙ ap (λ g. apply g (terms_of ps)) (same ∙ sym top) ∙ ap (apply (top_of t)) (sym qs);
      term = term ∙ ap (λ f. apply f (terms_of ts)) (sym top) ∙ ap (apply (top_of t)) (sym args);
      assoc = ap (is_assoc sig) top ∙ assoc;
      comm = ap (is_comm sig) top ∙ comm_is ∙ commutes;
      two = omega (arith, two, m, number_qs);
      fewer = omega (arith, fewer, m, n, number_qs, number_args);
      picked = subst (λ f. ArePicked sig c.positions.single.items f (args_of c.pattern)) (sym top) (subst (ArePicked sig c.positions.single.items f) (sym qs) each);
    }

-- one argument more is no variable and becomes one element
pub picked_on : (sig : Signature) (single : List (List ℕ)) (f i : ℕ) (ps : List RawTerm) (p : RawTerm) → i < length ps → p ≡ get_or ps i p → ((vs : Values) → value_of p vs ≡ None) → is_rigid sig (is_single single) f p ≡ true
    → (ArePicked sig single f (terms_of (drop i ps)) → ArePicked sig single f (terms_of ps)) → ArePicked sig single f (terms_of (drop (i + 1) ps)) → ArePicked sig single f (terms_of ps)
picked_on sig single f i ps p h is none rigid so more = so (subst (ArePicked sig single f) (sym (terms_at ps i p h is)) (none, rigid, more))

pub picked_end : (sig : Signature) (single : List (List ℕ)) (f i : ℕ) (ps : List RawTerm) → length ps ≤ i → (ArePicked sig single f (terms_of (drop i ps)) → ArePicked sig single f (terms_of ps)) → ArePicked sig single f (terms_of ps)
picked_end sig single f i ps h so = so (subst (ArePicked sig single f) (sym (terms_past ps i h)) tt)
