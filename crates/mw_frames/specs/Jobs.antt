-- What waits, and what frames mean, over the terms that are done and the values of right sides.
use Rattle.std.specs.Prelude.{◌≡◌, ℕ, ◌+◌, List, [], ◌∷◌, take, drop, Bool, not, ◌||◌, nat_eq, slice_get, unwrap_or}
use Rattle.mw_logic.specs.Term.{RawTerm, numeral, quoted, variable, apply, RawTerms, nil, cons, join}
use Rattle.mw_logic.specs.Terms.{terms_of}
use Rattle.mw_logic.specs.Signature.{Signature, IsSuccessor}
use Rattle.mw_logic.specs.Parts.{number_of_terms}
use Rattle.mw_logic.specs.NormalForm.{is_comm, arranged}
use Rattle.mw_position.specs.Positions.{position}
use Rattle.mw_matching.specs.Matches.{evaluated}
use Rattle.mw_pattern.specs.Clean.{clean}
use Rattle.mw_deduction.specs.Standing.{Open, round}
use Rattle.mw_deduction.proofs.Depths.{level_in}
use Rattle.mw_frames.specs.declared.job.Job.{Job}
use Rattle.mw_frames.specs.declared.job.Job.TheVariants.{Walk, Try, Normal, Made, Built}
use Rattle.mw_frames.specs.declared.job.Frame.{Frame}

-- The value at a position, of those from a place on.
abbrev pub value_at : List RawTerm → ℕ → ℕ → RawTerm
value_at vs base i = unwrap_or (slice_get (drop base vs) i) (variable (position i))

-- Where the values of a right side may not be normal: the operator on top is that of the redex, or there are no arguments.
abbrev pub is_sure : ℕ → RawTerm → Bool
is_sure top (numeral n) = nat_eq top 0
is_sure top (quoted q) = nat_eq top 0
is_sure top (variable x) = nat_eq top 0
is_sure top (apply f nil) = nat_eq top 0
is_sure top (apply f (cons t ts)) = nat_eq top 0 || not (nat_eq f top)

module _ (sig : Signature) (vs : List RawTerm) where
  -- the canonical instance of a pattern
  abbrev pub instance_of : RawTerm → ℕ → RawTerm
  instance_of p base = evaluated sig (drop base vs) p

  abbrev pub term_of : Job → RawTerm
  term_of (Walk t) = t
  term_of (Try t) = t
  term_of (Normal t) = t
  term_of (Made p base top) = instance_of (clean p.now) base
  term_of (Built t p base top) = t

  -- what waits, in order: the next one stands last in the list
  abbrev pub rest : List Job → RawTerms
  rest [] = nil
  rest (x ∷ xs) = join (rest xs) (cons (term_of x) nil)

  -- all arguments of a frame, those that are done first
  abbrev pub arguments : Frame → List RawTerm → List Job → RawTerms
  arguments f ds js = join (terms_of (drop f.from ds)) (rest (drop f.waits js))

  -- A frame with a hole is this open operator: with any term in the hole its arguments, in order, are the same.
  pub record IsOpenedAs (f : Frame) (o : Open) (own waiting : RawTerms) : Type 0 where
    pub operator : o.operator ≡ f.op
    pub same : (t : RawTerm) → arranged (is_comm sig f.op) (join o.before (cons t o.after)) ≡ arranged (is_comm sig f.op) (join own (cons t waiting))
    -- `s_` has no other argument
    pub alone : IsSuccessor sig f.op → number_of_terms own + number_of_terms waiting ≡ 0

  -- so are frames, the innermost first, each at its level
  abbrev pub AreOpened : List Frame → List RawTerm → List Job → List Open → Type 0
  AreOpened [] ds js os = os ≡ []
  AreOpened (f ∷ fs) ds js [] = ⊥
  AreOpened (f ∷ fs) ds js (o ∷ os) =
      IsOpenedAs f o (terms_of (drop f.from ds)) (rest (drop f.waits js)) × (f.level ≡ level_in sig (round sig os) (apply f.op nil)) × AreOpened fs (take f.from ds) (take f.waits js) os

-- Work: a term to be walked costs for each of its operators and leaves, one to be tried for its top alone, a done one nothing. A pattern costs what its
-- instance does, and for its own operators again, since an operator with axioms may leave nothing of itself.
abbrev mutual
  pub size : RawTerm → ℕ
  size (numeral n) = 5
  size (quoted q) = 5
  size (variable x) = 5
  size (apply f ts) = 5 + sizes ts

  pub sizes : RawTerms → ℕ
  sizes nil = 0
  sizes (cons t ts) = size t + sizes ts

abbrev mutual
  pub nodes : RawTerm → ℕ
  nodes (numeral n) = 0
  nodes (quoted q) = 0
  nodes (variable x) = 0
  nodes (apply f ts) = 5 + nodes_in ts

  pub nodes_in : RawTerms → ℕ
  nodes_in nil = 0
  nodes_in (cons t ts) = nodes t + nodes_in ts

module _ (sig : Signature) (vs : List RawTerm) where
  abbrev pub weight : Job → ℕ
  weight (Walk t) = size t
  weight (Try t) = 3
  weight (Normal t) = 2
  weight (Made p base top) = size (instance_of sig vs (clean p.now) base) + nodes (clean p.now)
  weight (Built t p base top) = size (instance_of sig vs (clean p.now) base) + nodes (clean p.now)

  abbrev pub weights : List Job → ℕ
  weights [] = 0
  weights (x ∷ xs) = weight x + weights xs

  -- frames, the innermost first, and all that waits
  abbrev pub work : List Frame → List Job → ℕ
  work [] js = weights js
  work (f ∷ fs) js = 3 + work fs js
