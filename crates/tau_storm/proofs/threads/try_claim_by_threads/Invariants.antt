use Rattle.tau_storm.specs.Inner.Claiming.{IsTrial, TellsTrial}
use Rattle.tau_storm.proofs.DealLemmas.{IsDealt}
use Rattle.tau_storm.proofs.threads.try_claim_by_threads.Given as goal

abbrev pub invariant-loop-part : goal.invariant-loop-part
invariant-loop-part g l = IsDealt (IsTrial l.fn.behaviour) (TellsTrial l.fn.behaviour) l.setting l.program (record { seed = l.seed; seeds = l.seeds; workers = l.workers }) l.part-iterator.rest.items l.trial
