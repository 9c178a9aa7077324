use Rattle.std.proofs.Common.{refl, ap, sym, subst, ◌∷◌, ◌++◌, [], true, arith}
use Rattle.mw_logic.specs.Parts.{nested}
use Rattle.mw_logic.specs.Module.{Module}
use Rattle.mw_logic.specs.Judgements.{admitted_judgements}
use Rattle.mw_logic.specs.Ends.{IsFinal}
use Rattle.mw_deduction.specs.Tops.{IsNormalTerm}
use Rattle.mw_index.specs.Choices.{tried_of}
use Rattle.mw_index.specs.declared.choices.Choice.{Choice}
use Rattle.mw_frames.specs.Machines.{data_of}
use Rattle.mw_frames.specs.Steps.{IsEnd}
use Rattle.mw_solving.specs.Values.{IsValue}
use Rattle.mw_reduce.specs.Attempts.{IsAttempt, IsMade, IsHaltingAt}
use Rattle.mw_reduce.proofs.Asks.{none_failed, failed_more}
use Rattle.mw_redexes.specs.Spots.{IsReached, AreAllSpots}
use Rattle.mw_redexes.specs.Redexes.{IsFoundAt, IsFoundIn, AreAsked}
use Rattle.mw_rule.specs.Stepped.{IsMadeAt}
use Rattle.mw_redexes.specs.declared.redexes.Found.{Found}
use Rattle.mw_rule.proofs.Finals.{all_fail, reached_value}
use Rattle.mw_rule.proofs.Looking.{spots_values, triable, made_in, made_first}
use Rattle.mw_rule.proofs.Untold.{untold}
use Rattle.mw_rule.proofs.rewriting.look.Goals as goal

pub loop-rounds-init : goal.loop-rounds-init
loop-rounds-init c = (refl, λ n. ([], none_failed c.args.context.now 63, c.new-redexes.ensures c.args.context.now c.args.rules.now c.in_ok-spots.spots.items))

pub returns-in_default : goal.returns-in_default
returns-in_default c = λ K k run here rank e.
    let M : Module = c.args.context.now in
    let t = c.args.term.now in
    let ss = c.in_ok-spots.spots.items in
    let n : IsNormalTerm M (admitted_judgements M 63).Fails t = subst (λ r. IsNormalTerm M (admitted_judgements M r).Fails t) rank (subst (λ (N : Module). IsNormalTerm N (admitted_judgements N K.rank).Fails t) here e.normal) in
    let listed : AreAllSpots M.signature c.args.wanted t ss = subst (λ g. AreAllSpots g c.args.wanted t ss) c.facts.ensures c.in_ok-spots.ensures in
    let (tried, failed, asked) = c.loop-rounds.invariant.1 n in
    let all = rw c.in_default.is at (rw c.as_slice.ensures.value at c.in_ok-found.ensures.is tried (spots_values M c.shows.ensures t n c.args.wanted ss listed) asked) in (
      subst (λ m. IsEnd K k (data_of K.over m) t) (sym c.loop-rounds.invariant.0) e,
      subst (λ (N : Module). IsFinal N (nested N.signature t)) (sym here) (all_fail M c.shows.ensures t n c.args.wanted c.args.rules.now c.requires.rules c.requires.wanted ss listed tried failed all),
    )

pub loop-rounds-preserved-in-Fails : goal.loop-rounds-preserved-in-Fails
loop-rounds-preserved-in-Fails c = (
  c.loop-rounds.invariant.0,
  λ n.
      let M : Module = c.args.context.now in
      let t = c.args.term.now in
      let ss = c.in_ok-spots.spots.items in
      let q : Choice = c.in-Some.found.choice in
      let listed : AreAllSpots M.signature c.args.wanted t ss = subst (λ g. AreAllSpots g c.args.wanted t ss) c.facts.ensures c.in_ok-spots.ensures in
      let (tried, failed, asked) = c.loop-rounds.invariant.1 n in
      let z : IsFoundIn M ss c.in-Some.found × AreAsked M c.args.rules.now ss (tried ++ tried_of q ∷ []) c.next.new.self =
      rw c.in-Some.is at (rw c.as_slice.ensures.value at c.in_ok-found.ensures.is tried (spots_values M c.shows.ensures t n c.args.wanted ss listed) asked) in
      let told = c.in_ok-sides.ensures.means z.0.spot.term.now (triable M c.shows.ensures t n c.args.wanted ss listed c.in-Some.found z.0) in
      (tried ++ tried_of q ∷ [], failed_more M 63 tried (tried_of q) failed (rw c.in-Fails.is at told), z.1),
)

pub loop-rounds-preserved : goal.loop-rounds-preserved
loop-rounds-preserved c = (
  c.loop-rounds.invariant.0,
  λ n.
      let M : Module = c.args.context.now in
      let t = c.args.term.now in
      let ss = c.in_ok-spots.spots.items in
      let q : Choice = c.in-Some.found.choice in
      let listed : AreAllSpots M.signature c.args.wanted t ss = subst (λ g. AreAllSpots g c.args.wanted t ss) c.facts.ensures c.in_ok-spots.ensures in
      let (tried, failed, asked) = c.loop-rounds.invariant.1 n in
      let z : IsFoundIn M ss c.in-Some.found × AreAsked M c.args.rules.now ss (tried ++ tried_of q ∷ []) c.next.new.self =
      rw c.in-Some.is at (rw c.as_slice.ensures.value at c.in_ok-found.ensures.is tried (spots_values M c.shows.ensures t n c.args.wanted ss listed) asked) in
      let told = c.in_ok-sides.ensures.means z.0.spot.term.now (triable M c.shows.ensures t n c.args.wanted ss listed c.in-Some.found z.0) in
      (tried ++ tried_of q ∷ [], failed_more M 63 tried (tried_of q) failed (rw c.in-Fails.is at told), z.1),
)

pub returns-then-found-eq0 : goal.returns-then-found-eq0
returns-then-found-eq0 c = λ K k run here rank e.
    let M : Module = c.args.context.now in
    let t = c.args.term.now in
    let ss = c.in_ok-spots.spots.items in
    let q : Choice = c.in-Some.found.choice in
    let n : IsNormalTerm M (admitted_judgements M 63).Fails t = subst (λ r. IsNormalTerm M (admitted_judgements M r).Fails t) rank (subst (λ (N : Module). IsNormalTerm N (admitted_judgements N K.rank).Fails t) here e.normal) in
    let listed : AreAllSpots M.signature c.args.wanted t ss = subst (λ g. AreAllSpots g c.args.wanted t ss) c.facts.ensures c.in_ok-spots.ensures in
    let (tried, failed, asked) = c.loop-rounds.invariant.1 n in
    let z : IsFoundIn M ss c.in-Some.found × AreAsked M c.args.rules.now ss (tried ++ tried_of q ∷ []) c.next.new.self =
    rw c.in-Some.is at (rw c.as_slice.ensures.value at c.in_ok-found.ensures.is tried (spots_values M c.shows.ensures t n c.args.wanted ss listed) asked) in
    let told = c.in_ok-sides.ensures.means z.0.spot.term.now (triable M c.shows.ensures t n c.args.wanted ss listed c.in-Some.found z.0) in
    let made : IsMade M 63 z.0.spot.term.now c.try_choice.new.choice c.in-Made.sides.items = subst (IsAttempt M 63 c.args.side z.0.spot.term.now q c.try_choice.new.choice) c.in-Made.is told in
    let same = c.in_ok-sides.ensures.same in
    let x : Found = record { at = c.in-Some.found.at; choice = c.try_choice.new.choice } in
    let is : IsMadeAt K ss t x c.in-Made.sides.items = made_in M K here rank t c.args.wanted ss listed c.in-Some.found z.0 c.try_choice.new.choice c.in-Made.sides.items (ap (λ (y : Choice). y.by.now.rule) same) (ap (λ (y : Choice). y.take) same) made in
    let old : IsEnd K k (data_of K.over c.loop-rounds.machine) t = subst (λ m. IsEnd K k (data_of K.over m) t) (sym c.loop-rounds.invariant.0) e in
    (old, made_first K t ss x c.in-Made.sides.items (omega (arith, c.if-found-eq0.true)) is)

pub returns-in-Made : goal.returns-in-Made
returns-in-Made c = λ K k run here rank e.
    let M : Module = c.args.context.now in
    let t = c.args.term.now in
    let ss = c.in_ok-spots.spots.items in
    let q : Choice = c.in-Some.found.choice in
    let n : IsNormalTerm M (admitted_judgements M 63).Fails t = subst (λ r. IsNormalTerm M (admitted_judgements M r).Fails t) rank (subst (λ (N : Module). IsNormalTerm N (admitted_judgements N K.rank).Fails t) here e.normal) in
    let listed : AreAllSpots M.signature c.args.wanted t ss = subst (λ g. AreAllSpots g c.args.wanted t ss) c.facts.ensures c.in_ok-spots.ensures in
    let (tried, failed, asked) = c.loop-rounds.invariant.1 n in
    let z : IsFoundIn M ss c.in-Some.found × AreAsked M c.args.rules.now ss (tried ++ tried_of q ∷ []) c.next.new.self =
    rw c.in-Some.is at (rw c.as_slice.ensures.value at c.in_ok-found.ensures.is tried (spots_values M c.shows.ensures t n c.args.wanted ss listed) asked) in
    let told = c.in_ok-sides.ensures.means z.0.spot.term.now (triable M c.shows.ensures t n c.args.wanted ss listed c.in-Some.found z.0) in
    let made : IsMade M 63 z.0.spot.term.now c.try_choice.new.choice c.in-Made.sides.items = subst (IsAttempt M 63 c.args.side z.0.spot.term.now q c.try_choice.new.choice) c.in-Made.is told in
    let same = c.in_ok-sides.ensures.same in
    let x : Found = record { at = c.in-Some.found.at; choice = c.try_choice.new.choice } in
    let is : IsMadeAt K ss t x c.in-Made.sides.items = made_in M K here rank t c.args.wanted ss listed c.in-Some.found z.0 c.try_choice.new.choice c.in-Made.sides.items (ap (λ (y : Choice). y.by.now.rule) same) (ap (λ (y : Choice). y.take) same) made in
    let old : IsEnd K k (data_of K.over c.loop-rounds.machine) t = subst (λ m. IsEnd K k (data_of K.over m) t) (sym c.loop-rounds.invariant.0) e in
    c.in_ok-fired-in-Made.ensures K k t run here old (subst (λ ys. IsMadeAt K ys t x c.in-Made.sides.items) (sym c.as_slice-in-Made.ensures.value) is)

pub returns-in-Halts : goal.returns-in-Halts
returns-in-Halts c = λ K k run here rank e.
    let M : Module = c.args.context.now in
    let t = c.args.term.now in
    let ss = c.in_ok-spots.spots.items in
    let q : Choice = c.in-Some.found.choice in
    let n : IsNormalTerm M (admitted_judgements M 63).Fails t = subst (λ r. IsNormalTerm M (admitted_judgements M r).Fails t) rank (subst (λ (N : Module). IsNormalTerm N (admitted_judgements N K.rank).Fails t) here e.normal) in
    let listed : AreAllSpots M.signature c.args.wanted t ss = subst (λ g. AreAllSpots g c.args.wanted t ss) c.facts.ensures c.in_ok-spots.ensures in
    let (tried, failed, asked) = c.loop-rounds.invariant.1 n in
    let z : IsFoundIn M ss c.in-Some.found × AreAsked M c.args.rules.now ss (tried ++ tried_of q ∷ []) c.next.new.self =
    rw c.in-Some.is at (rw c.as_slice.ensures.value at c.in_ok-found.ensures.is tried (spots_values M c.shows.ensures t n c.args.wanted ss listed) asked) in
    let told = c.in_ok-sides.ensures.means z.0.spot.term.now (triable M c.shows.ensures t n c.args.wanted ss listed c.in-Some.found z.0) in
    let u = z.0.spot.term.now in
    let why = c.in-Halts.reason in
    let halting : IsHaltingAt M q.by.now.rule 63 c.args.side u q.take why = subst (IsAttempt M 63 c.args.side u q c.try_choice.new.choice) c.in-Halts.is told in
    let of_rule : IsHaltingAt M true 63 c.args.side u q.take why = subst (λ b. IsHaltingAt M b 63 c.args.side u q.take why) z.0.found.rule halting in
    let at_rank : IsHaltingAt K.over true K.rank c.args.side u q.take why = subst (λ r. IsHaltingAt K.over true r c.args.side u q.take why) (sym rank) (subst (λ (N : Module). IsHaltingAt N true 63 c.args.side u q.take why) (sym here) of_rule) in
    let reached = (listed.sound c.in-Some.found.at z.0.spot z.0.there).reached in
    let found : IsFoundAt K.over u q = subst (λ (N : Module). IsFoundAt N u q) (sym here) z.0.found in
    let value : IsValue K.over.signature u = subst (λ (N : Module). IsValue N.signature u) (sym here) (reached_value M c.shows.ensures t n u reached) in (
      subst (λ m. IsEnd K k (data_of K.over m) t) (sym c.loop-rounds.invariant.0) e,
      untold K c.args.context.now.signature run c.args.side t u e.normal (subst (λ (N : Module). IsReached N.signature t u) (sym here) reached) value q found why at_rank,
    )
