use Rattle.std.proofs.Common.{arith}
use Rattle.tau_sexpr.specs.Form.{tree_of}
use Rattle.tau_value.specs.Meaning.{counted}
use Rattle.tau_value.specs.Sizes.{IsInBounds}
use Rattle.tau_value.proofs.AnswerLemmas.{value_told, names_told, fault_told, read_told, too_large_told, too_large_means}
use Rattle.tau_value.proofs.reading.value_of.Goals as goal
use Rattle.tau_value.proofs.reading.value_of.Goals.{then-extent-gt65536-via-then-extent-gt65536, then-extent-gt65536-via-else-extent-gt65536+then-extent-gt64}

pub returns-then-extent-gt65536-clause-fault : goal.returns-then-extent-gt65536-clause-fault
returns-then-extent-gt65536-clause-fault c =
    too_large_told c.args.names.now c.args.bound (tree_of c.args.form.now) (λ within.
    elim c.then-extent-gt65536.branch [
      | then-extent-gt65536-via-then-extent-gt65536 w ↦ omega arith
      | then-extent-gt65536-via-else-extent-gt65536+then-extent-gt64 w ↦ omega arith
    ])

pub returns-then-extent-gt65536-clause-read : goal.returns-then-extent-gt65536-clause-read
returns-then-extent-gt65536-clause-read c =
    λ v means. absurd (too_large_means c.args.names.now c.args.bound (tree_of c.args.form.now) v (λ within.
    elim c.then-extent-gt65536.branch [
      | then-extent-gt65536-via-then-extent-gt65536 w ↦ omega arith
      | then-extent-gt65536-via-else-extent-gt65536+then-extent-gt64 w ↦ omega arith
    ]) means)

pub returns-clause-value : goal.returns-clause-value
returns-clause-value c =
    let within : IsInBounds (counted c.args.names.now c.args.bound (tree_of c.args.form.now)) = (omega arith, omega arith) in
    value_told c.args.names.now c.args.bound (tree_of c.args.form.now) c.read.new.node c.read.result within c.read.ensures

pub returns-clause-names : goal.returns-clause-names
returns-clause-names c = names_told c.args.names.now c.args.bound (tree_of c.args.form.now) c.read.new.node c.read.result c.requires c.read.ensures

pub returns-clause-fault : goal.returns-clause-fault
returns-clause-fault c =
    let within : IsInBounds (counted c.args.names.now c.args.bound (tree_of c.args.form.now)) = (omega arith, omega arith) in
    fault_told c.args.names.now c.args.bound (tree_of c.args.form.now) c.read.new.node c.read.result within c.read.ensures

pub returns-clause-read : goal.returns-clause-read
returns-clause-read c =
    λ v means.
    let within : IsInBounds (counted c.args.names.now c.args.bound (tree_of c.args.form.now)) = (omega arith, omega arith) in
    read_told c.args.names.now c.args.bound (tree_of c.args.form.now) c.read.new.node c.read.result v within c.read.ensures means
