use Rattle.std.proofs.Common.{refl, sym, ◌∙◌}
use Rattle.tau_output.proofs.ExplainLemmas.{is_asked, from_input, from_input_no_lack, from_memory, from_memory_no_lack}
use Rattle.tau_output.proofs.explaining.explain_run.Goals as goal

pub returns-in_err-input-clause-fault : goal.returns-in_err-input-clause-fault
returns-in_err-input-clause-fault c = from_input _ _ _ c.from_residual.ensures.1 c.in_err-input.ensures.fault

pub returns-in_err-input-clause-lacking : goal.returns-in_err-input-clause-lacking
returns-in_err-input-clause-lacking c = from_input_no_lack _ _ _ c.from_residual.ensures.1

pub returns-in_err-answer-clause-fault : goal.returns-in_err-answer-clause-fault
returns-in_err-answer-clause-fault c = from_memory _ _ c.from_residual-in_err-answer.ensures.1

pub returns-in_err-answer-clause-lacking : goal.returns-in_err-answer-clause-lacking
returns-in_err-answer-clause-lacking c = from_memory_no_lack _ _ c.from_residual-in_err-answer.ensures.1

pub returns-clause-output : goal.returns-clause-output
returns-clause-output c =
    let input = c.in_ok-input.input in
    let answer = c.in_ok-answer.answer in (
      record {
        program = input.program;
        run = input.trace.run;
        read = c.in_ok-input.ensures.text;
        asked = is_asked input.trace.run c.args.place answer c.in_ok-answer.ensures.answer (sym c.is_not_asked.ensures ∙ c.if-is_not_asked.false);
        answer = answer;
        explains = c.in_ok-answer.ensures.answer;
        is_text = c.in_ok-why_text.ensures;
      },
      refl,
    )

pub returns-in_err-why_text-clause-fault : goal.returns-in_err-why_text-clause-fault
returns-in_err-why_text-clause-fault c = from_memory _ _ c.from_residual-in_err-why_text.ensures.1

pub returns-in_err-why_text-clause-lacking : goal.returns-in_err-why_text-clause-lacking
returns-in_err-why_text-clause-lacking c = from_memory_no_lack _ _ c.from_residual-in_err-why_text.ensures.1
