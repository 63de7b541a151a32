use Rattle.std.proofs.Common.{◌≡◌, ℕ, ◌+◌, List, [], ◌∷◌, ◌++◌, length, take, refl, sym, ap, ◌∙◌, subst, arith, rules, length-append}
use Rattle.std.proofs.lemmas.List.{take_all}
use Rattle.std.proofs.lemmas.Result.{on_ok_weaker}
use Rattle.tau_tree.specs.declared.entries.Entry.{Entry}
use Rattle.tau_tree.specs.declared.entries.Failure.{Failure}
use Rattle.tau_tree.specs.declared.programs.Program.{Program}
use Rattle.tau_tree.specs.declared.entries.Failure.TheVariants.{Fail}
use Rattle.tau_trace.specs.Run.{Run, len}
use Rattle.tau_script.specs.declared.cursor.Cursor.{Cursor}
use Rattle.tau_revival.specs.Revival.{LeadsOn}
use Rattle.tau_faults.specs.declared.setting.FaultCounts.{FaultCounts}
use Rattle.tau_faults.specs.Faults.{fewer}
use Rattle.tau_faults.specs.Ends.{EndsFrom, EndsBelow, none, EndsWith, no_fault}
use Rattle.tau_faults.specs.Inner.Walking.{HasSeen}
use Rattle.tau_faults.proofs.SeenLemmas.{seen_none}
use Rattle.tau_faults.proofs.WalkLemmas.{none_below, never_over, AreListed, are_listed, seen_from, seen_place, seen_fault}
use Rattle.tau_faults.proofs.walk.+visit.Goals as goal

pub visit_each-loop-fault-init : goal.visit_each-loop-fault-init
visit_each-loop-fault-init g t c = record {
  program = refl;
  ends = λ T entries few all. seen_none g.V.Visit.visits (EndsWith c.args.storm.setting c.args.storm.seed c.args.progress.left entries c.args.program.now T c.args.spot.place []) c.args.visitor.now no_fault;
}

pub visit_each-loop-fault-preserved : goal.visit_each-loop-fault-preserved
visit_each-loop-fault-preserved g t c = record {
  program = c.in_ok-visit_with.ensures.program ∙ c.loop-fault.invariant.program;
  ends = λ T entries few all. seen_fault g.V.Visit.visits c.args.storm.setting c.args.storm.seed c.args.progress.left entries c.args.program.now c.loop-fault.program T c.args.spot.place c.args.spot.entry c.args.faults.now
      c.loop-fault.fault-index (Fail 0) c.args.visitor.now c.loop-fault.visitor c.visit_with.new.visitor c.loop-fault.invariant.program (omega arith) all
      (c.loop-fault.invariant.ends T entries few all) (c.in_ok-visit_with.ensures.ends entries few);
}

pub visit_each-returns-clause-ends : goal.visit_each-returns-clause-ends
visit_each-returns-clause-ends g t c = λ T entries few all.
    let fs = c.args.faults.now in
    let whole : take c.loop-fault.fault-index fs ≡ fs = take_all c.loop-fault.fault-index fs (omega arith) in
    subst (λ (gs : List Failure). HasSeen g.V.Visit.visits (EndsWith c.args.storm.setting c.args.storm.seed c.args.progress.left entries c.args.program.now T c.args.spot.place gs) c.args.visitor.now c.loop-fault.visitor) whole
    (c.loop-fault.invariant.ends T entries few all)

pub visit_from-returns-then-is_over-clause-ends : goal.visit_from-returns-then-is_over-clause-ends
visit_from-returns-then-is_over-clause-ends g t c = λ faults few.
    let S = c.args.storm.setting in
    let left = c.args.progress.left in
    let P = c.args.program.now in
    let T = c.in_ok-trace.trace.run in
    let below = none_below S c.args.storm.seed left faults P T c.args.progress.from (never_over S c.args.storm.seed left faults P T (c.if-is_over.ensures.over (search rules))) (len T) in
    seen_from g.V.Visit.visits S c.args.storm.seed left faults c.args.progress.from P T c.args.visitor.now c.visit_own.new.visitor c.visit_own.new.visitor c.in_ok-trace.ensures.serial
    (c.in_ok-trace.ensures.visits faults few)
    (seen_none g.V.Visit.visits (EndsBelow S c.args.storm.seed left c.args.progress.from faults P T (len T)) c.visit_own.new.visitor below)

pub visit_from-returns-clause-ends : goal.visit_from-returns-clause-ends
visit_from-returns-clause-ends g t c =
    let S = c.args.storm.setting in
    let left = c.args.progress.left in
    let P = c.args.program.now in
    let T = c.in_ok-trace.trace.run in
    on_ok_weaker c.visit_further.result
    (λ ends faults few. seen_from g.V.Visit.visits S c.args.storm.seed left faults c.args.progress.from P T c.args.visitor.now c.visit_own.new.visitor c.visit_further.new.visitor c.in_ok-trace.ensures.serial
    (c.in_ok-trace.ensures.visits faults few) (ends faults few))
    c.visit_further.ensures.ends

pub visit_further-loop-place-init : goal.visit_further-loop-place-init
visit_further-loop-place-init g t c =
    let T = c.args.trace.now.run in
    let opens : c.in_ok-so_far.so_far.run ≡ record { opening = T.opening; steps = [] } = search rules in
    record {
      program = refl;
      so_far = opens;
      leads = subst (λ (d : Cursor). LeadsOn c.args.program.now.script c.in_ok-so_far.so_far.run d) (sym c.first-cursor.ensures) (c.cursors_lead_on.ensures.first c.args.program.now.script c.in_ok-so_far.so_far.run (ap (λ (R : Run). R.steps) opens));
      ends = λ faults few. seen_none g.V.Visit.visits (EndsBelow c.args.storm.setting c.args.storm.seed c.args.progress.left c.args.progress.from faults c.args.program.now T 0) c.args.visitor.now none;
    }

pub visit_further-loop-place-preserved : goal.visit_further-loop-place-preserved
visit_further-loop-place-preserved g t c =
    let S = c.args.storm.setting in
    let left = c.args.progress.left in
    let from = c.args.progress.from in
    let P = c.args.program.now in
    let A = c.loop-place.program in
    let T = c.args.trace.now.run in
    let U = c.loop-place.so_far.run in
    let k = c.loop-place.place in
    let at_place = c.come_to.new.cursor in
    let leads = c.loop-place.invariant.leads in
    let listed : AreListed S.every from left A T k at_place.entry c.deref.result.now =
    subst (λ (fs : List Failure). AreListed S.every from left A T k at_place.entry fs) (sym c.deref.ensures.value)
    (are_listed c.local_by_agreement.ensures c.scripts_are_local.ensures S.every from left A T U k at_place c.in_ok-faults.faults.items c.loop-place.invariant.so_far (search rules)
    c.in_ok-faults.ensures.early (c.in_ok-faults.ensures.faults leads)) in
    let one = c.in_ok-go_on.ensures.step in
    record {
      program = c.in_ok-visit_each.ensures.program ∙ c.loop-place.invariant.program;
      so_far = c.in_ok-go_on.ensures.more;
      leads = subst (λ (X : Program). LeadsOn X.script c.go_on.new.so_far.run at_place) (sym c.in_ok-visit_each.ensures.program)
          (subst (λ (R : Run). LeadsOn A.script R at_place) (sym one.1) (c.cursors_lead_on.ensures.next A.script U at_place one.0 (c.in_ok-faults.ensures.moved leads)));
      ends = λ faults few. seen_place g.V.Visit.visits S c.args.storm.seed left faults from P A T k at_place.entry c.deref.result.now c.args.visitor.now c.loop-place.visitor c.visit_each.new.visitor
          c.loop-place.invariant.program listed (c.loop-place.invariant.ends faults few) (c.in_ok-visit_each.ensures.ends T faults few listed.each);
    }

pub visit_further-returns-clause-ends : goal.visit_further-returns-clause-ends
visit_further-returns-clause-ends g t c = λ faults few.
    let T = c.args.trace.now.run in
    let ends : c.loop-place.place ≡ len T = search rules in
    subst (λ (n : ℕ). HasSeen g.V.Visit.visits (EndsBelow c.args.storm.setting c.args.storm.seed c.args.progress.left c.args.progress.from faults c.args.program.now T n) c.args.visitor.now c.loop-place.visitor) ends
    (c.loop-place.invariant.ends faults few)

pub visit_with-returns-clause-ends : goal.visit_with-returns-clause-ends
visit_with-returns-clause-ends g t c = λ entries few.
    let S = c.args.storm.setting in
    let e : Entry = record { at = c.args.spot.place; failure = c.args.fault } in
    let k = c.args.spot.place in
    let long : length (entries ++ e ∷ []) ≡ c.args.progress.placed + 1 = omega (arith, few, length-append entries (e ∷ [])) in
    let fewer_left : HasSeen g.V.Visit.visits (EndsFrom S c.args.storm.seed (fewer c.args.progress.left c.args.fault) (k + 1) (entries ++ e ∷ []) c.place_fault.new.program) c.args.visitor.now c.visit_from.new.visitor =
    subst (λ (left : FaultCounts). HasSeen g.V.Visit.visits (EndsFrom S c.args.storm.seed left (k + 1) (entries ++ e ∷ []) c.place_fault.new.program) c.args.visitor.now c.visit_from.new.visitor)
    c.one_fewer.ensures.left (c.in_ok-visit_from.ensures.ends (entries ++ e ∷ []) long) in
    subst (λ (X : Program). HasSeen g.V.Visit.visits (EndsFrom S c.args.storm.seed (fewer c.args.progress.left c.args.fault) (k + 1) (entries ++ e ∷ []) X) c.args.visitor.now c.visit_from.new.visitor)
    c.in_ok-kept.ensures.placed fewer_left
