-- What is known of a right side that comes where an equation is applied.
use Rattle.std.specs.Prelude.{◌≡◌, ◌<◌, ℕ, List, ◌++◌, length, drop, Bool, true, false, IsTrue, IsFalse, refl}
use Rattle.std.proofs.Common.{sym, subst, ap, ◌∙◌, arith}
use Rattle.std.proofs.Math.Seq.{drop-append_seam}
use Rattle.mw_logic.specs.Term.{RawTerm, RawTerms, numeral, quoted, variable, apply}
use Rattle.mw_logic.specs.Signature.{Signature}
use Rattle.mw_matching.specs.Matches.{evaluated}
use Rattle.mw_pattern.specs.Clean.{clean}
use Rattle.mw_frames.specs.declared.applying.Applied.{Applied}
use Rattle.mw_frames.specs.declared.job.Job.{Job}
use Rattle.mw_frames.specs.declared.job.Job.TheVariants.{Try}
use Rattle.mw_frames.specs.Jobs.{instance_of}
use Rattle.mw_frames.specs.State.{Run, Data, IsRun, InHand, Settled, IsKnownIn}
use Rattle.mw_frames.specs.Redex.{HasOnTop}
use Rattle.mw_frames.specs.Fires.{IsApplied}
use Rattle.mw_frames.specs.Arrivals.{Comes, IsNewFrame, level_over}
use Rattle.mw_logic.specs.Module.{Module}
use Rattle.mw_logic.proofs.CanonicalTerms.{not_successor}
use Rattle.mw_stack.specs.Own.{spread}
use Rattle.mw_deduction.specs.Replay.{Move, Stand}
use Rattle.mw_frames.specs.declared.job.Frame.{Frame}
use Rattle.mw_frames.specs.Taking.{IsPartAsked, Receives}
use Rattle.mw_frames.proofs.OpeningAmong.{come_settled}
use Rattle.mw_frames.proofs.FiringHere.{top_positive, right_known_here, free_right_known_here}

-- a new frame, of its own operator
pub same_frame : (sig : Signature) (fs : List Frame) (ds : List RawTerm) (js : List Job) (g : ℕ) (f : Frame) → IsNewFrame sig fs ds js g f → IsNewFrame sig fs ds js f.op f
same_frame sig fs ds js g f h = record { operator = refl; level = subst (λ o. f.level ≡ level_over sig fs o) (sym h.operator) h.level; from = h.from; waits = h.waits }

-- its values come behind others
pub instance_behind : (sig : Signature) (us vs ws : List RawTerm) (p : RawTerm) (base : ℕ) → ws ≡ us ++ vs → base ≡ length us → instance_of sig ws p base ≡ evaluated sig vs p
instance_behind sig us vs ws p base e b = ap (λ zs. evaluated sig zs p) (ap (λ zs. drop base zs) e ∙ ap (λ n. drop n (us ++ vs)) b ∙ drop-append_seam us vs)

module _ (K : Run) (sig : Signature) (run : IsRun K sig) (count : ℕ) (m : Data) (w : RawTerm) (h : InHand K count m (Try w)) where
  pub known_applied : (us : List RawTerm) (e : Applied) (ss : List Move) (vs : List RawTerm) → IsApplied K.over K.rank e ss vs w → (top b : ℕ) → HasOnTop top w → (((f : ℕ) (ts : RawTerms) → w ≡ apply f ts → ⊥) → top ≡ 1) → (IsTrue e.sure → b ≡ 0) → (IsFalse e.sure → b ≡ top)
      → IsKnownIn K.over K.rank (us ++ vs) (length us) b (clean e.right.now)
  known_applied us e ss vs a top b on leaf s u = by_sure e.sure refl
    where
      Known : ℕ → Type 0
      Known n = IsKnownIn K.over K.rank (us ++ vs) (length us) n (clean e.right.now)

      positive : 0 < top
      positive = by_shape w refl
        where
          one : ((f : ℕ) (ts : RawTerms) → w ≡ apply f ts → ⊥) → 0 < top
          one none = let z = leaf none in omega (arith, z)

          by_shape : (t : RawTerm) → w ≡ t → 0 < top
          by_shape (numeral n) q = one (λ f ts r. let z : numeral n ≡ apply f ts = sym q ∙ r in cc)
          by_shape (quoted n) q = one (λ f ts r. let z : quoted n ≡ apply f ts = sym q ∙ r in cc)
          by_shape (variable x) q = one (λ f ts r. let z : variable x ≡ apply f ts = sym q ∙ r in cc)
          by_shape (apply f ts) q =
              subst (λ g. 0 < g) (on f ts q) (top_positive K sig run count us m.values m.moves m.frames m.done m.jobs e.number ss vs (clean e.right.now) w h a.redex f ts q)

      by_sure : (c : Bool) → e.sure ≡ c → Known b
      by_sure true q = subst Known (sym (s q)) (free_right_known_here K sig run count us m.values m.moves m.frames m.done m.jobs e.number ss vs (clean e.right.now) w h a.redex (a.sure q))
      by_sure false q = subst Known (sym (u q)) (right_known_here K sig run count us m.values m.moves m.frames m.done m.jobs e.number ss vs (clean e.right.now) w h a.redex top positive on)

-- What came for several arguments comes among the others.
module _ (K : Run) (sig : Signature) (run : IsRun K sig) (count : ℕ) where
  pub several_settled : (vs : List RawTerm) (ms : List Move) (f : Frame) (fs : List Frame) (ds ds' : List RawTerm) (js js' : List Job) (t : RawTerm) (Known : Module → ℕ → Type 0)
      → Receives K count (record { frames = fs; done = ds; jobs = js; values = vs; moves = ms }) f t → Known K.over K.rank → Comes K.over.signature vs f (spread K.over.signature f.op t) Known ds ds' js js'
      → Settled K count (record { frames = fs; done = ds'; jobs = js'; values = vs; moves = ms }) f
  several_settled vs ms f fs ds ds' js js' t Known r known comes =
      come_settled K count run.accepted run.sorted vs ms f fs ds ds' js js' r.stand t Known r.leads r.opened r.level r.hand r.fair r.canonical (not_successor K.over.signature run.accepted f.op r.assoc) r.good known comes

-- What is known of a right side that comes for several arguments: by the operator of the whole.
module _ (K : Run) (sig : Signature) (run : IsRun K sig) (count : ℕ) where
  pub part_known : (m : Data) (f : Frame) (w : RawTerm) → (S : Stand) → IsPartAsked K count m f w S → (us : List RawTerm) (e : Applied) (ss : List Move) (vs : List RawTerm) → IsApplied K.over K.rank e ss vs w
      → IsKnownIn K.over K.rank (us ++ vs) (length us) f.op (clean e.right.now)
  part_known m f w S part us e ss vs a =
      let h = part.asked.holds in
      let top : HasOnTop f.op w = λ g ts q. same_operator (sym q ∙ part.is) in
      right_known_here K sig run count us m.values m.moves m.frames m.done m.jobs e.number ss vs (clean e.right.now) w h a.redex f.op
      (top_positive K sig run count us m.values m.moves m.frames m.done m.jobs e.number ss vs (clean e.right.now) w h a.redex f.op part.args part.is) top
    where
      same_operator : {g j : ℕ} {ts us : RawTerms} → apply g ts ≡ apply j us → g ≡ j
      same_operator q = cc
