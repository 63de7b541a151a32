use Rattle.std.proofs.Common.{ap, refl, subst}
use Rattle.std.specs.Prelude.{option_map}
use Rattle.tau_output.specs.declared.refusals.Wanted.TheVariants.{Step}
use Rattle.tau_picture.specs.Pictures.{IsDrawn}
use Rattle.tau_output.proofs.ExplainLemmas.{from_input, from_input_no_lack, from_memory, from_memory_no_lack}
use Rattle.tau_output.proofs.drawing.draw_run.Goals as goal

pub returns-in_err-input-clause-fault : goal.returns-in_err-input-clause-fault
returns-in_err-input-clause-fault c = from_input _ _ _ c.from_residual.ensures.1 c.in_err-input.ensures.fault

pub returns-in_err-input-clause-lacking : goal.returns-in_err-input-clause-lacking
returns-in_err-input-clause-lacking c = from_input_no_lack _ _ _ c.from_residual.ensures.1

pub returns-in_err-text-clause-fault : goal.returns-in_err-text-clause-fault
returns-in_err-text-clause-fault c = from_memory _ _ c.from_residual-in_err-text.ensures.1

pub returns-in_err-text-clause-lacking : goal.returns-in_err-text-clause-lacking
returns-in_err-text-clause-lacking c = from_memory_no_lack _ _ c.from_residual-in_err-text.ensures.1

pub returns-in-Picture-clause-output : goal.returns-in-Picture-clause-output
returns-in-Picture-clause-output c =
    let input = c.in_ok-input.input in
    let drawn = subst (IsDrawn input.program input.trace.run c.args.from c.args.to c.args.ask) c.in-Picture.is c.in_ok-text.ensures in (
      record {
        program = input.program;
        run = input.trace.run;
        read = c.in_ok-input.ensures.text;
        well_formed = c.len-length.ensures.well_formed;
        asked = drawn.0;
        is_text = drawn.1;
      },
      refl,
    )

pub returns-in-Some-clause-lacking : goal.returns-in-Some-clause-lacking
returns-in-Some-clause-lacking c =
    let input = c.in_ok-input.input in
    record {
      wants = ap (option_map (λ place. Step place)) c.in-Some.is;
      few = c.requires;
      lacks = record {
        program = input.program;
        run = input.trace.run;
        read = c.in_ok-input.ensures.text;
        in_vain = subst (IsDrawn input.program input.trace.run c.args.from c.args.to c.args.ask) c.in-NotAsked.is c.in_ok-text.ensures;
      };
    }
