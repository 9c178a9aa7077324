-- What the steps of the enumeration do to what is still to come.
use Rattle.std.proofs.Common.{inl, inr, ◌≡◌, ◌∙◌, ℕ, ◌-◌, ◌<◌, ◌≤◌, true, false, cond, List, [], ◌∷◌, ◌++◌, length, get_or, take, set, ap, sym, refl, subst, arith, append_assoc, length-append}
use Rattle.std.specs.Prelude.{◌⊎◌, Some, None, slice_get}
use Rattle.std.proofs.Math.Path.{fun_ext}
use Rattle.std.proofs.Math.Seq.{take-length, take-append_seam}
use Rattle.std.proofs.lemmas.List.{append-nil, length-take-le}
use Rattle.mw_logic.specs.Term.{RawTerm}
use Rattle.mw_logic.specs.Signature.{Signature}
use Rattle.std.specs.List.{flat_map}
use Rattle.mw_matching.specs.Found.{Values, found}
use Rattle.mw_search.specs.Traces.{Trace, finish, ticked, somes}
use Rattle.mw_search.specs.Clashes.{IsBarren}
use Rattle.mw_search.specs.Goals.{Share, goal_trace, goal_found, share_trace, shares_left, hand_trace, outcome_trace, Serves}
use Rattle.mw_search.specs.Lacking.{HasItsSort, LacksItsSort, HaveTheirSorts, Each}
use Rattle.mw_search.specs.Machines.{Rise, choice_trace, stack_trace, machine_trace, IsReady, IsLeftOut, Stepped, Applied}
use Rattle.mw_search.specs.declared.positions.Positions.{Positions}
use Rattle.mw_search.specs.declared.shares.Shares.{Shares}
use Rattle.mw_search.specs.declared.goals.Goal.{Goal}
use Rattle.mw_search.specs.declared.goals.Goal.TheVariants.{Meet}
use Rattle.mw_search.specs.declared.goals.Outcome.{Outcome}
use Rattle.mw_search.specs.declared.goals.Outcome.TheVariants.{Binds, Becomes, First, Opens}
use Rattle.mw_search.specs.declared.machine.Choice.{Choice}
use Rattle.mw_search.specs.declared.machine.Machine.{Machine}
use Rattle.mw_arguments.proofs.Once.{flat_map-flat_map, flat_map-same}
use Rattle.mw_search.proofs.Finding.{somes-append, finds_goal}
use Rattle.mw_search.proofs.Beginning.{hand_all}
use Rattle.mw_search.proofs.BagLists.{is_last_of}
use Rattle.mw_search.proofs.Ends.{set_last, set_below, set_end, take_less, take_twice, got_taken, got_pushed, got_last}

-- marks
rise_least : (m n : ℕ) (cs : List Choice) → Rise m cs n → m ≤ n
rise_least m n [] r = r
rise_least m n (c ∷ cs) r = let h = rise_least c.below n cs r.1 in let k = r.0 in omega (arith, h, k)

pub rise_more : (m n o : ℕ) (cs : List Choice) → Rise m cs n → n ≤ o → Rise m cs o
rise_more m n o [] r h = omega (arith, r, h)
rise_more m n o (c ∷ cs) r h = (r.0, rise_more c.below n o cs r.1 h)

pub rise_push : (m n o : ℕ) (cs : List Choice) (c : Choice) → Rise m cs n → n ≤ c.below → c.below ≤ o → Rise m (cs ++ c ∷ []) o
rise_push m n o [] c r h k = (omega (arith, r, h), k)
rise_push m n o (d ∷ cs) c r h k = (r.0, rise_push d.below n o cs c r.1 h k)

pub rise_pop : (m n : ℕ) (cs : List Choice) (c : Choice) → Rise m (cs ++ c ∷ []) n → Rise m cs c.below × (c.below ≤ n)
rise_pop m n [] c r = (r.0, r.1)
rise_pop m n (d ∷ cs) c r = let (i, j) = rise_pop d.below n cs c r.1 in ((r.0, i), j)

module _ (sig : Signature) (ps : Positions) where
  pub hand_push : (gs : List Goal) (g : Goal) (vs : Values) (k : Values → Trace) → hand_trace sig ps.single.items (gs ++ g ∷ []) vs k ≡ goal_trace sig ps.single.items g vs (λ us. hand_trace sig ps.single.items gs us k)
  hand_push [] g vs k = refl
  hand_push (h ∷ gs) g vs k = hand_push gs g vs (λ us. goal_trace sig ps.single.items h us k)

  pub hand_two : (gs : List Goal) (g h : Goal) (vs : Values) (k : Values → Trace)
      → hand_trace sig ps.single.items ((gs ++ g ∷ []) ++ h ∷ []) vs k ≡ goal_trace sig ps.single.items h vs (λ us. goal_trace sig ps.single.items g us (λ ws. hand_trace sig ps.single.items gs ws k))
  hand_two gs g h vs k = hand_push (gs ++ g ∷ []) h vs k ∙ ap (goal_trace sig ps.single.items h vs) (fun_ext (λ us. hand_push gs g us k))

  pub stack_push : (cs : List Choice) (c : Choice) (vs : Values) → stack_trace sig ps (cs ++ c ∷ []) vs ≡ choice_trace sig ps c vs ++ stack_trace sig ps cs vs
  stack_push [] c vs = sym (append-nil (choice_trace sig ps c vs))
  stack_push (d ∷ cs) c vs = ap (λ l. l ++ choice_trace sig ps d vs) (stack_push cs c vs) ∙ append_assoc (choice_trace sig ps c vs) (stack_trace sig ps cs vs) (choice_trace sig ps d vs)

  choice_kept : (c : Choice) (vs ws : Values) → take c.below vs ≡ take c.below ws → choice_trace sig ps c vs ≡ choice_trace sig ps c ws
  choice_kept c vs ws e = ap (λ us. ticked (share_trace sig ps.single.items c.pattern us (λ us. hand_trace sig ps.single.items c.goals.items us finish)) (shares_left c.shares)) e

  -- values above the marks don't matter
  pub stack_kept : (m n : ℕ) (cs : List Choice) (vs ws : Values) → Rise m cs n → take n vs ≡ take n ws → stack_trace sig ps cs vs ≡ stack_trace sig ps cs ws
  stack_kept m n [] vs ws r e = refl
  stack_kept m n (c ∷ cs) vs ws r e =
      ap (λ l. l ++ choice_trace sig ps c vs) (stack_kept c.below n cs vs ws r.1 e)
      ∙ ap (λ l. stack_trace sig ps cs ws ++ l) (choice_kept c vs ws (take_less c.below n vs ws (rise_least c.below n cs r.1) e))

  -- what is ready
  ready_by : (new : Machine) (g : ℕ) (vs : Values) (cs : List Choice) → new.given ≡ g → new.values.items ≡ vs → new.stack.items ≡ cs → Rise g cs (length vs) → HaveTheirSorts sig ps.sorts g vs → IsReady sig ps new
  ready_by new g vs cs eg ev es r h = record {
    marked = subst (λ m. Rise m new.stack.items (length new.values.items)) (sym eg)
        (subst (λ (ws : Values). Rise g new.stack.items (length ws)) (sym ev) (subst (λ ds. Rise g ds (length vs)) (sym es) r));
    sorted = subst (λ m. HaveTheirSorts sig ps.sorts m new.values.items) (sym eg) (subst (λ ws. HaveTheirSorts sig ps.sorts g ws) (sym ev) h);
  }

  sorted_taken : (g n : ℕ) (vs : Values) → HaveTheirSorts sig ps.sorts g vs → HaveTheirSorts sig ps.sorts g (take n vs)
  sorted_taken g n vs h = λ i t l e. h i t l (got_taken n i vs t e)

  sorted_pushed : (g : ℕ) (vs : Values) (t : RawTerm) → HaveTheirSorts sig ps.sorts g vs → HasItsSort sig ps.sorts (length vs) t → HaveTheirSorts sig ps.sorts g (vs ++ t ∷ [])
  sorted_pushed g vs t h k = λ i u l e. by_place i u l (got_pushed vs t i u e)
    where
      by_place : (i : ℕ) (u : RawTerm) → g ≤ i → (slice_get vs i ≡ Some u) ⊎ ((i ≡ length vs) × (t ≡ u)) → HasItsSort sig ps.sorts i u
      by_place i u l (inl e) = h i u l e
      by_place i u l (inr (e, d)) = subst (λ m. HasItsSort sig ps.sorts m u) (sym e) (subst (HasItsSort sig ps.sorts (length vs)) d k)

  -- nothing was left out
  all_applied : (o : Outcome) (old new : Machine)
      → machine_trace sig ps new ≡ outcome_trace sig ps.single.items o old.values.items (λ us. hand_trace sig ps.single.items (take (length old.goals.items - 1) old.goals.items) us finish) ++ stack_trace sig ps old.stack.items old.values.items
      → new.given ≡ old.given → IsReady sig ps new → Applied sig ps o old new
  all_applied o old new e g r = record { dropped = []; lack = tt; leads = sym e; given = g; ready = r }

  one_step : (old new : Machine) (dropped : Trace) → Each (IsLeftOut sig ps old) (somes dropped) → machine_trace sig ps old ≡ None ∷ (dropped ++ machine_trace sig ps new) → new.given ≡ old.given → IsReady sig ps new → Stepped sig ps old new
  one_step old new dropped n e g r = record {
    left = somes dropped;
    lack = n;
    step = ap somes e ∙ somes-append dropped (machine_trace sig ps new);
    fewer = (let l = ap length e in let m = length-append dropped (machine_trace sig ps new) in omega (arith, l, m));
    given = g;
    ready = r;
  }

  all_stepped : (old new : Machine) → machine_trace sig ps old ≡ None ∷ machine_trace sig ps new → new.given ≡ old.given → IsReady sig ps new → Stepped sig ps old new
  all_stepped old new e g r = one_step old new [] tt e g r

  pub opened : (old new : Machine) (p : RawTerm) (s : Shares) (c d : Choice) → IsReady sig ps old → new.given ≡ old.given → new.running ≡ false → new.values.items ≡ old.values.items
      → new.stack.items ≡ set (old.stack.items ++ c ∷ []) (length old.stack.items) d → d.pattern ≡ p → d.shares ≡ s → d.goals.items ≡ take (length old.goals.items - 1) old.goals.items
      → d.below ≡ length old.values.items → Applied sig ps (Opens p s) old new
  opened old new p s c d m gv er ev es ep eh eg eb =
      let vs : Values = old.values.items in
      let gs : List Goal = take (length old.goals.items - 1) old.goals.items in
      let stack : new.stack.items ≡ old.stack.items ++ d ∷ [] = es ∙ set_end old.stack.items d c in
      let choice : choice_trace sig ps d vs ≡ ticked (share_trace sig ps.single.items p vs (λ us. hand_trace sig ps.single.items gs us finish)) (shares_left s) =
      ap (λ q. ticked (share_trace sig ps.single.items q (take d.below vs) (λ us. hand_trace sig ps.single.items d.goals.items us finish)) (shares_left d.shares)) ep
      ∙ ap (λ (h : Shares). ticked (share_trace sig ps.single.items p (take d.below vs) (λ us. hand_trace sig ps.single.items d.goals.items us finish)) (shares_left h)) eh
      ∙ ap (λ (hs : List Goal). ticked (share_trace sig ps.single.items p (take d.below vs) (λ us. hand_trace sig ps.single.items hs us finish)) (shares_left s)) eg
      ∙ ap (λ ws. ticked (share_trace sig ps.single.items p ws (λ us. hand_trace sig ps.single.items gs us finish)) (shares_left s)) (ap (λ n. take n vs) eb ∙ take-length vs) in
      all_applied (Opens p s) old new
      (ap (λ b. cond b (hand_trace sig ps.single.items new.goals.items new.values.items finish) [] ++ stack_trace sig ps new.stack.items new.values.items) er
      ∙ ap (λ ws. stack_trace sig ps new.stack.items ws) ev ∙ ap (λ cs. stack_trace sig ps cs vs) stack ∙ stack_push old.stack.items d vs ∙ ap (λ l. l ++ stack_trace sig ps old.stack.items vs) choice)
      gv
      (ready_by new old.given vs (old.stack.items ++ d ∷ []) gv ev stack (rise_push old.given (length vs) (length vs) old.stack.items d m.marked (omega (arith, eb)) (omega (arith, eb))) m.sorted)

  pub bound : (old new : Machine) (t : RawTerm) → IsReady sig ps old → new.given ≡ old.given → HasItsSort sig ps.sorts (length old.values.items) t → old.running ≡ true → new.running ≡ old.running
      → new.goals.items ≡ take (length old.goals.items - 1) old.goals.items → new.values.items ≡ old.values.items ++ t ∷ [] → new.stack.items ≡ old.stack.items → Applied sig ps (Binds t) old new
  bound old new t m gv has ot er eg ev es =
      let vs : Values = old.values.items in
      let ws : Values = old.values.items ++ t ∷ [] in
      all_applied (Binds t) old new
      (ap (λ b. cond b (hand_trace sig ps.single.items new.goals.items new.values.items finish) [] ++ stack_trace sig ps new.stack.items new.values.items) (er ∙ ot)
      ∙ ap (λ us. hand_trace sig ps.single.items new.goals.items us finish ++ stack_trace sig ps new.stack.items us) ev
      ∙ ap (λ (gs : List Goal). hand_trace sig ps.single.items gs ws finish ++ stack_trace sig ps new.stack.items ws) eg
      ∙ ap (λ (cs : List Choice). hand_trace sig ps.single.items (take (length old.goals.items - 1) old.goals.items) ws finish ++ stack_trace sig ps cs ws) es
      ∙ ap (λ l. hand_trace sig ps.single.items (take (length old.goals.items - 1) old.goals.items) ws finish ++ l) (stack_kept old.given (length vs) old.stack.items ws vs m.marked (take-append_seam vs (t ∷ []) ∙ sym (take-length vs))))
      gv
      (ready_by new old.given ws old.stack.items gv ev es (rise_more old.given (length vs) (length ws) old.stack.items m.marked (let l = length-append vs (t ∷ []) in omega (arith, l))) (sorted_pushed old.given vs t m.sorted has))

  -- a value that lacks its sort ends this way: all matches that are left out begin with it
  pub unbound : (old new : Machine) (t : RawTerm) → IsReady sig ps old → new.given ≡ old.given → LacksItsSort sig ps.sorts (length old.values.items) t → new.running ≡ false
      → new.values.items ≡ old.values.items → new.stack.items ≡ old.stack.items → Applied sig ps (Binds t) old new
  unbound old new t m gv lacks er ev es =
      let vs : Values = old.values.items in
      let gs : List Goal = take (length old.goals.items - 1) old.goals.items in
      let within : old.given ≤ length vs = rise_least old.given (length vs) old.stack.items m.marked in
      record {
        dropped = hand_trace sig ps.single.items gs (vs ++ t ∷ []) finish;
        lack = hand_all sig ps.single.items (IsLeftOut sig ps old) gs (vs ++ t ∷ []) finish
            (λ us on. (record { position = length vs; value = t; new = within; is = ap (λ (ws : Values). slice_get ws (length vs)) on.is ∙ got_last vs t on.more; lacks = lacks }, tt));
        leads = ap (λ l. hand_trace sig ps.single.items gs (vs ++ t ∷ []) finish ++ l)
            (sym (ap (λ b. cond b (hand_trace sig ps.single.items new.goals.items new.values.items finish) [] ++ stack_trace sig ps new.stack.items new.values.items) er
            ∙ ap (λ ws. stack_trace sig ps new.stack.items ws) ev ∙ ap (λ cs. stack_trace sig ps cs vs) es));
        given = gv;
        ready = ready_by new old.given vs old.stack.items gv ev es m.marked m.sorted;
      }

  -- the goals alone change
  pub changed : (old new : Machine) (o : Outcome) → IsReady sig ps old → new.given ≡ old.given → old.running ≡ true → new.running ≡ old.running → new.values.items ≡ old.values.items → new.stack.items ≡ old.stack.items
      → hand_trace sig ps.single.items new.goals.items old.values.items finish ≡ outcome_trace sig ps.single.items o old.values.items (λ us. hand_trace sig ps.single.items (take (length old.goals.items - 1) old.goals.items) us finish) → Applied sig ps o old new
  changed old new o m gv ot er ev es h =
      all_applied o old new
      (ap (λ b. cond b (hand_trace sig ps.single.items new.goals.items new.values.items finish) [] ++ stack_trace sig ps new.stack.items new.values.items) (er ∙ ot)
      ∙ ap (λ us. hand_trace sig ps.single.items new.goals.items us finish ++ stack_trace sig ps new.stack.items us) ev
      ∙ ap (λ (cs : List Choice). hand_trace sig ps.single.items new.goals.items old.values.items finish ++ stack_trace sig ps cs old.values.items) es
      ∙ ap (λ l. l ++ stack_trace sig ps old.stack.items old.values.items) h)
      gv
      (ready_by new old.given old.values.items old.stack.items gv ev es m.marked m.sorted)

  pub became : (old new : Machine) (g : Goal) → IsReady sig ps old → new.given ≡ old.given → old.running ≡ true → 0 < length old.goals.items → new.running ≡ old.running → new.values.items ≡ old.values.items → new.stack.items ≡ old.stack.items
      → new.goals.items ≡ set old.goals.items (length old.goals.items - 1) g → Applied sig ps (Becomes g) old new
  became old new g m gv ot h er ev es eg =
      changed old new (Becomes g) m gv ot er ev es
      (ap (λ gs. hand_trace sig ps.single.items gs old.values.items finish) (eg ∙ set_last old.goals.items g h) ∙ hand_push (take (length old.goals.items - 1) old.goals.items) g old.values.items finish)

  pub first : (old new : Machine) (p t : RawTerm) (g : Goal) → IsReady sig ps old → new.given ≡ old.given → old.running ≡ true → 0 < length old.goals.items → new.running ≡ old.running → new.values.items ≡ old.values.items
      → new.stack.items ≡ old.stack.items → new.goals.items ≡ set (old.goals.items ++ Meet p t ∷ []) (length old.goals.items - 1) g → Applied sig ps (First p t g) old new
  first old new p t g m gv ot h er ev es eg =
      changed old new (First p t g) m gv ot er ev es
      (ap (λ gs. hand_trace sig ps.single.items gs old.values.items finish) (eg ∙ set_below old.goals.items g (Meet p t) h) ∙ hand_two (take (length old.goals.items - 1) old.goals.items) g (Meet p t) old.values.items finish)

  pub met : (old new : Machine) (o : Outcome) (g : Goal) → old.running ≡ true → 0 < length old.goals.items → g ≡ get_or old.goals.items (length old.goals.items - 1) g
      → Serves sig ps.single.items g old.values.items o → Applied sig ps o old new → Stepped sig ps old new
  met old new o g ot h eg io a =
      let gs : List Goal = take (length old.goals.items - 1) old.goals.items in
      let vs : Values = old.values.items in
      let K : Values → Trace = λ us. hand_trace sig ps.single.items gs us finish in
      let stack : Trace = stack_trace sig ps old.stack.items vs in
      let asked : Trace = goal_trace sig ps.single.items g vs K in
      let done : Trace = outcome_trace sig ps.single.items o vs K in
      let before : machine_trace sig ps old ≡ asked ++ stack =
      ap (λ b. cond b (hand_trace sig ps.single.items old.goals.items vs finish) [] ++ stack) ot
      ∙ ap (λ hs. hand_trace sig ps.single.items hs vs finish ++ stack) (is_last_of old.goals.items g h eg)
      ∙ ap (λ l. l ++ stack) (hand_push gs g vs finish) in
      record {
        left = somes a.dropped;
        lack = a.lack;
        step = ap somes before ∙ somes-append asked stack ∙ ap (λ l. l ++ somes stack) (io K).matches ∙ sym (somes-append done stack)
            ∙ ap somes a.leads ∙ somes-append a.dropped (machine_trace sig ps new);
        fewer = (let i = (io K).fewer in let u = ap length before in let v = length-append asked stack in let w = length-append done stack in
            let x = ap length a.leads in let y = length-append a.dropped (machine_trace sig ps new) in omega (arith, i, u, v, w, x, y));
        given = a.given;
        ready = a.ready;
      }

  -- the choice on top has no more shares
  pub closed : (old new : Machine) (c : Choice) → IsReady sig ps old → new.given ≡ old.given → old.running ≡ false → 0 < length old.stack.items → c ≡ get_or old.stack.items (length old.stack.items - 1) c → shares_left c.shares ≡ []
      → new.running ≡ old.running → new.values.items ≡ old.values.items → new.stack.items ≡ take (length old.stack.items - 1) old.stack.items → Stepped sig ps old new
  closed old new c m gv ot h ec n er ev es =
      let vs : Values = old.values.items in
      let cs : List Choice = take (length old.stack.items - 1) old.stack.items in
      let s : old.stack.items ≡ cs ++ c ∷ [] = is_last_of old.stack.items c h ec in
      let r = rise_pop old.given (length vs) cs c (subst (λ ds. Rise old.given ds (length vs)) s m.marked) in
      all_stepped old new
      (ap (λ b. cond b (hand_trace sig ps.single.items old.goals.items vs finish) [] ++ stack_trace sig ps old.stack.items vs) ot
      ∙ ap (λ ds. stack_trace sig ps ds vs) s ∙ stack_push cs c vs
      ∙ ap (λ (ss : List Share). ticked (share_trace sig ps.single.items c.pattern (take c.below vs) (λ us. hand_trace sig ps.single.items c.goals.items us finish)) ss ++ stack_trace sig ps cs vs) n
      ∙ ap (λ l. None ∷ l) (sym (ap (λ b. cond b (hand_trace sig ps.single.items new.goals.items new.values.items finish) [] ++ stack_trace sig ps new.stack.items new.values.items) (er ∙ ot)
      ∙ ap (λ ws. stack_trace sig ps new.stack.items ws) ev ∙ ap (λ ds. stack_trace sig ps ds vs) es)))
      gv
      (ready_by new old.given vs cs gv ev es (rise_more old.given c.below (length vs) cs r.0 r.1) m.sorted)

  -- the choice on top goes on with its next share
  pub turned : (old new : Machine) (c d : Choice) (t : RawTerm) (g : Goal) (ss : List Share) → IsReady sig ps old → new.given ≡ old.given → old.running ≡ false → 0 < length old.stack.items
      → c ≡ get_or old.stack.items (length old.stack.items - 1) c → shares_left c.shares ≡ (t, g) ∷ ss → d.pattern ≡ c.pattern → d.goals.items ≡ c.goals.items → d.below ≡ c.below → shares_left d.shares ≡ ss
      → new.running ≡ true → new.values.items ≡ take c.below old.values.items → new.stack.items ≡ set old.stack.items (length old.stack.items - 1) d
      → new.goals.items ≡ (c.goals.items ++ g ∷ []) ++ Meet c.pattern t ∷ [] → Stepped sig ps old new
  turned old new c d t g ss m gv ot h ec en ep eg eb ed er ev es egs =
      let vs : Values = old.values.items in
      let ws : Values = take c.below vs in
      let cs : List Choice = take (length old.stack.items - 1) old.stack.items in
      let K : Values → Trace = λ us. hand_trace sig ps.single.items c.goals.items us finish in
      let s : old.stack.items ≡ cs ++ c ∷ [] = is_last_of old.stack.items c h ec in
      let s2 : new.stack.items ≡ cs ++ d ∷ [] = es ∙ set_last old.stack.items d h in
      let r = rise_pop old.given (length vs) cs c (subst (λ ds. Rise old.given ds (length vs)) s m.marked) in
      let choice : choice_trace sig ps d ws ≡ ticked (share_trace sig ps.single.items c.pattern ws K) ss =
      ap (λ q. ticked (share_trace sig ps.single.items q (take d.below ws) (λ us. hand_trace sig ps.single.items d.goals.items us finish)) (shares_left d.shares)) ep
      ∙ ap (λ (hs : List Goal). ticked (share_trace sig ps.single.items c.pattern (take d.below ws) (λ us. hand_trace sig ps.single.items hs us finish)) (shares_left d.shares)) eg
      ∙ ap (λ (hs : List Share). ticked (share_trace sig ps.single.items c.pattern (take d.below ws) K) hs) ed
      ∙ ap (λ us. ticked (share_trace sig ps.single.items c.pattern us K) ss) (ap (λ n. take n ws) eb ∙ take_twice c.below vs) in
      let low : stack_trace sig ps cs ws ≡ stack_trace sig ps cs vs = stack_kept old.given c.below cs ws vs r.0 (take_twice c.below vs) in
      let after : machine_trace sig ps new ≡ share_trace sig ps.single.items c.pattern ws K (t, g) ++ (ticked (share_trace sig ps.single.items c.pattern ws K) ss ++ stack_trace sig ps cs vs) =
      ap (λ b. cond b (hand_trace sig ps.single.items new.goals.items new.values.items finish) [] ++ stack_trace sig ps new.stack.items new.values.items) er
      ∙ ap (λ us. hand_trace sig ps.single.items new.goals.items us finish ++ stack_trace sig ps new.stack.items us) ev
      ∙ ap (λ (gs : List Goal). hand_trace sig ps.single.items gs ws finish ++ stack_trace sig ps new.stack.items ws) egs
      ∙ ap (λ l. l ++ stack_trace sig ps new.stack.items ws) (hand_two c.goals.items g (Meet c.pattern t) ws finish)
      ∙ ap (λ (ds : List Choice). share_trace sig ps.single.items c.pattern ws K (t, g) ++ stack_trace sig ps ds ws) s2
      ∙ ap (λ l. share_trace sig ps.single.items c.pattern ws K (t, g) ++ l) (stack_push cs d ws ∙ ap (λ l. l ++ stack_trace sig ps cs ws) choice ∙ ap (λ l. ticked (share_trace sig ps.single.items c.pattern ws K) ss ++ l) low) in
      let size : length ws ≡ c.below = length-take-le c.below vs r.1 in
      all_stepped old new
      (ap (λ b. cond b (hand_trace sig ps.single.items old.goals.items vs finish) [] ++ stack_trace sig ps old.stack.items vs) ot
      ∙ ap (λ ds. stack_trace sig ps ds vs) s ∙ stack_push cs c vs
      ∙ ap (λ (hs : List Share). ticked (share_trace sig ps.single.items c.pattern ws K) hs ++ stack_trace sig ps cs vs) en
      ∙ ap (λ l. None ∷ l) (append_assoc (share_trace sig ps.single.items c.pattern ws K (t, g)) (ticked (share_trace sig ps.single.items c.pattern ws K) ss) (stack_trace sig ps cs vs) ∙ sym after))
      gv
      (ready_by new old.given ws (cs ++ d ∷ []) gv ev s2 (rise_push old.given c.below (length ws) cs d r.0 (omega (arith, eb)) (omega (arith, size, eb))) (sorted_taken old.given c.below vs m.sorted))

  -- the choice on top passes over a share of which no match comes
  pub passed : (old new : Machine) (c d : Choice) (t : RawTerm) (g : Goal) (ss : List Share) → IsReady sig ps old → new.given ≡ old.given → old.running ≡ false → 0 < length old.stack.items
      → c ≡ get_or old.stack.items (length old.stack.items - 1) c → shares_left c.shares ≡ (t, g) ∷ ss → IsBarren sig ps.single.items (take c.below old.values.items) c.pattern (t, g)
      → d.pattern ≡ c.pattern → d.goals.items ≡ c.goals.items → d.below ≡ c.below → shares_left d.shares ≡ ss
      → new.running ≡ old.running → new.values.items ≡ old.values.items → new.stack.items ≡ set old.stack.items (length old.stack.items - 1) d → Stepped sig ps old new
  passed old new c d t g ss m gv ot h ec en nn ep eg eb ed er ev es =
      let vs : Values = old.values.items in
      let ws : Values = take c.below vs in
      let cs : List Choice = take (length old.stack.items - 1) old.stack.items in
      let K : Values → Trace = λ us. hand_trace sig ps.single.items c.goals.items us finish in
      let s : old.stack.items ≡ cs ++ c ∷ [] = is_last_of old.stack.items c h ec in
      let s2 : new.stack.items ≡ cs ++ d ∷ [] = es ∙ set_last old.stack.items d h in
      let r = rise_pop old.given (length vs) cs c (subst (λ ds. Rise old.given ds (length vs)) s m.marked) in
      let choice : choice_trace sig ps d vs ≡ ticked (share_trace sig ps.single.items c.pattern ws K) ss =
      ap (λ q. ticked (share_trace sig ps.single.items q (take d.below vs) (λ us. hand_trace sig ps.single.items d.goals.items us finish)) (shares_left d.shares)) ep
      ∙ ap (λ (hs : List Goal). ticked (share_trace sig ps.single.items c.pattern (take d.below vs) (λ us. hand_trace sig ps.single.items hs us finish)) (shares_left d.shares)) eg
      ∙ ap (λ (hs : List Share). ticked (share_trace sig ps.single.items c.pattern (take d.below vs) K) hs) ed
      ∙ ap (λ n. ticked (share_trace sig ps.single.items c.pattern (take n vs) K) ss) eb in
      let after : machine_trace sig ps new ≡ ticked (share_trace sig ps.single.items c.pattern ws K) ss ++ stack_trace sig ps cs vs =
      ap (λ b. cond b (hand_trace sig ps.single.items new.goals.items new.values.items finish) [] ++ stack_trace sig ps new.stack.items new.values.items) (er ∙ ot)
      ∙ ap (λ us. stack_trace sig ps new.stack.items us) ev ∙ ap (λ ds. stack_trace sig ps ds vs) s2
      ∙ stack_push cs d vs ∙ ap (λ l. l ++ stack_trace sig ps cs vs) choice in
      let lost : somes (share_trace sig ps.single.items c.pattern ws K (t, g)) ≡ [] =
      finds_goal sig ps.single.items (Meet c.pattern t) ws (λ us. goal_trace sig ps.single.items g us K)
      ∙ flat_map-same _ _ (found sig ps.single.items c.pattern t ws) (λ us. finds_goal sig ps.single.items g us K)
      ∙ sym (flat_map-flat_map (λ us. somes (K us)) (λ us. goal_found sig ps.single.items g us) (found sig ps.single.items c.pattern t ws))
      ∙ ap (flat_map (λ us. somes (K us))) nn in
      one_step old new (share_trace sig ps.single.items c.pattern ws K (t, g)) (subst (Each (IsLeftOut sig ps old)) (sym lost) tt)
      (ap (λ b. cond b (hand_trace sig ps.single.items old.goals.items vs finish) [] ++ stack_trace sig ps old.stack.items vs) ot
      ∙ ap (λ ds. stack_trace sig ps ds vs) s ∙ stack_push cs c vs
      ∙ ap (λ (hs : List Share). ticked (share_trace sig ps.single.items c.pattern ws K) hs ++ stack_trace sig ps cs vs) en
      ∙ ap (λ l. None ∷ l) (append_assoc (share_trace sig ps.single.items c.pattern ws K (t, g)) (ticked (share_trace sig ps.single.items c.pattern ws K) ss) (stack_trace sig ps cs vs)
      ∙ ap (λ l. share_trace sig ps.single.items c.pattern ws K (t, g) ++ l) (sym after)))
      gv
      (ready_by new old.given vs (cs ++ d ∷ []) gv ev s2 (rise_push old.given c.below (length vs) cs d r.0 (omega (arith, eb)) (let b = r.1 in omega (arith, b, eb))) m.sorted)
