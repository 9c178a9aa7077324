use Rattle.std.proofs.Common.{◌≡◌, ◌≤◌, ◌<◌, ◌∙◌, Result, Ok, Err, IfOk, IfErr, false, sym, subst}
use Rattle.std.proofs.lemmas.Result.{IfOk-weaker, IfErr-weaker}
use Rattle.mw_logic.specs.Term.{RawTerm}
use Rattle.mw_logic.specs.Signature.{Signature}
use Rattle.mw_logic.specs.NormalForm.{height, has_largest}
use Rattle.mw_canon.specs.Causes.{IsLimit}
use Rattle.mw_frames.proofs.instances.instance.Goals as goal

passed : {E : Type 0} (P : RawTerm → Type 0) (r : Result RawTerm E) (t : RawTerm) → IfOk r (λ u. u ≡ t) → IfOk r (λ _. P t) → IfOk r P
passed P (Ok u) t e h = subst P (sym e) h
passed P (Err x) t e h = tt

pub returns-clause-term : goal.returns-clause-term
returns-clause-term c = IfOk-weaker c.limited.result _ _ (λ u e. e ∙ c.in_ok-term.ensures.term) c.limited.ensures.is

pub returns-clause-low : goal.returns-clause-low
returns-clause-low c = passed (λ t. height t ≤ 1000) c.limited.result c.in_ok-term.term c.limited.ensures.is c.limited.ensures.low

pub returns-clause-small : goal.returns-clause-small
returns-clause-small c = λ small.
    let sig : Signature = c.args.facts.now in
    passed (λ t. has_largest sig t ≡ false) c.limited.result c.in_ok-term.term c.limited.ensures.is (IfOk-weaker c.limited.result _ _ (λ u e. sym (c.in_ok-term.ensures.told small) ∙ e) c.limited.ensures.small)

pub returns-clause-deep : goal.returns-clause-deep
returns-clause-deep c =
    IfErr-weaker c.limited.result _ _ (λ e h is. subst (λ t. 1000 < height t) c.in_ok-term.ensures.term (subst (IsLimit (height c.in_ok-term.term) c.build.new.large) is h)) c.limited.ensures.cause

pub returns-clause-cause : goal.returns-clause-cause
returns-clause-cause c = λ small.
    let sig : Signature = c.args.facts.now in
    subst (λ t. IfErr c.limited.result (IsLimit (height t) (has_largest sig t))) c.in_ok-term.ensures.term
    (subst (λ l. IfErr c.limited.result (IsLimit (height c.in_ok-term.term) l)) (c.in_ok-term.ensures.told small) c.limited.ensures.cause)
