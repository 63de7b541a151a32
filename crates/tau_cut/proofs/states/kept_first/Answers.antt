use Rattle.std.proofs.Common.{◌∙◌, ap, arith, map, Some, List}
use Rattle.std.proofs.lemmas.List.{take_all}
use Rattle.tau_states.specs.declared.state_record.StateRecord.{StateRecord}
use Rattle.tau_cut.specs.Inner.Keeping.{kept_of}
use Rattle.tau_cut.proofs.KeptLemmas.{firsts_start, firsts_more, first_of_firsts}
use Rattle.tau_cut.proofs.states.kept_first.Goals as goal

pub loop-who-init : goal.loop-who-init
loop-who-init c = firsts_start c.args.records.now c.loop-record.kept.items (c.loop-record.invariant ∙ ap (λ (l : List StateRecord). map (λ r. Some (kept_of r)) l) (take_all c.loop-record.record-index c.args.records.now c.loop-record-test.false))

pub loop-who-preserved : goal.loop-who-preserved
loop-who-preserved c = firsts_more c.args.records.now c.loop-who._who c.loop-who.kept.items c.push-in-loop-who.new.self.items c.in_ok-push-2.ensures.items c.loop-who.invariant

pub returns : goal.returns
returns c = first_of_firsts c.args.records.now c.args.born c.loop-who._who c.loop-who.kept.items c.loop-who.invariant (λ le. let end = c.loop-who.auto._who-end le in omega (arith, end, c.loop-who-test.false))
