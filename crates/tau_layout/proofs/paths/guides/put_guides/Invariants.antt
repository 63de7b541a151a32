use Rattle.tau_svg.specs.Shapes.Each.{EachPlace, Writes}
use Rattle.tau_layout.specs.Paths.Guides.{IsGuide}
use Rattle.tau_layout.proofs.paths.guides.put_guides.Given as goal

abbrev pub invariant-loop-place : goal.invariant-loop-place
invariant-loop-place l = Writes (EachPlace (IsGuide l.trace.run l.layout) l.layout.window.from l.place) l.initial.out.items l.out.items
