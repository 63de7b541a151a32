use Rattle.std.proofs.Common.{◌++◌, ◌∙◌, map, drop}
use Rattle.tau_value.specs.Value.{val_of}
use Rattle.tau_eval.proofs.course.Course.evaluate.Goals as goal

pub returns-in-Ok-clause-ok : goal.returns-in-Ok-clause-ok
returns-in-Ok-clause-ok c = record {
  within = c.requires.within;
  follows = λ rs. c.requires.follows rs ∙ c.in-Ok.ensures.reached (drop c.args.self.now.used (map val_of c.args.self.now.replies.items) ++ rs);
}

pub returns-in-Err-clause-err : goal.returns-in-Err-clause-err
returns-in-Err-clause-err c = record {
  within = c.requires.within;
  follows = λ rs. c.requires.follows rs ∙ c.in-Err.ensures.stays (drop c.args.self.now.used (map val_of c.args.self.now.replies.items) ++ rs);
}
