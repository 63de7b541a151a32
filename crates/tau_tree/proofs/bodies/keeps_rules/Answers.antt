use Rattle.tau_tree.proofs.RuleLemmas.{rules_of_seq, rules_of_apply}
use Rattle.tau_tree.proofs.bodies.keeps_rules.Goals as goal

pub returns-in-Seq : goal.returns-in-Seq
returns-in-Seq c = rules_of_seq _ _ _ _ _ c.in-Seq.is c.is_empty.ensures

pub returns-in-Apply : goal.returns-in-Apply
returns-in-Apply c = rules_of_apply _ _ _ _ _ _ _ c.in-Apply.is c.len-in-Apply.ensures c.arity.ensures
