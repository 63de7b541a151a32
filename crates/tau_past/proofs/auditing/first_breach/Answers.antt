use Rattle.std.proofs.Common.{subst, sym, ap, ◌∙◌, arith, length, ◌≡◌, List, Bool, Option}
use Rattle.tau_points.specs.declared.point.Point.{Point}
use Rattle.tau_trace.specs.Run.{len}
use Rattle.tau_past.specs.Inner.Searching.{IsComplete}
use Rattle.tau_past.specs.Audits.{Checked}
use Rattle.tau_past.proofs.Breaches.{breach_found, breach_none, checking_first, slice_back}
use Rattle.tau_past.proofs.auditing.first_breach.Goals as goal

pub returns-in-Some : goal.returns-in-Some
returns-in-Some c =
    let T = c.args.index.now in
    breach_found T c.loop-place.place c.in-Some.point c.loop-place.found c.check_place.new.found c.loop-place.found c.loop-place.invariant.checking
    (subst (λ (o : Option Point). Checked T c.loop-place.place c.loop-place.found c.check_place.new.found o) c.in-Some.is c.in_ok-point.ensures.checked)

pub loop-place-preserved : goal.loop-place-preserved
loop-place-preserved c =
    let T = c.args.index.now in
    let new = c.check_place.new.passed in
    let same_length : length new ≡ length c.loop-place.passed.items = c.check_place.auto.passed ∙ ap length c.deref_mut.ensures.value in
    let back = slice_back new c.loop-place.passed.items c.loop-place.passed.len (omega (arith, c.loop-place.passed.ok.0)) same_length in
    record {
      complete = subst (λ (ps : List Bool). IsComplete T c.check_place.new.found ps) (sym back) c.in_ok-point.ensures.complete;
      checking = checking_first T c.loop-place.place c.in_ok-point.field-0 c.loop-place.found c.check_place.new.found c.in_default.is c.in_ok-point.ensures.checked c.loop-place.invariant.checking;
      length = ap length back ∙ same_length ∙ c.loop-place.invariant.length;
    }

pub returns : goal.returns
returns c = breach_none c.args.index.now c.loop-place.place c.loop-place.found (omega (arith, c.loop-place-test.false, c.len-place-end.ensures)) c.loop-place.invariant.checking
