use Rattle.std.proofs.Common.{◌≡◌, ◌∙◌, sym, subst, length, List}
use Rattle.tau_tree.specs.declared.programs.Program.{Program}
use Rattle.tau_trace.specs.Known.{IsSound}
use Rattle.tau_trace.specs.Run.{Run}
use Rattle.tau_script.specs.Openings.{program_opening}
use Rattle.tau_states.specs.Table.{opened_run}
use Rattle.tau_tree.specs.declared.posts.Post.{Post}
use Rattle.tau_tree.specs.declared.starts.Start.{Start}
use Rattle.tau_rules.specs.Records.{HasStarts, HasPosts}
use Rattle.tau_rules.specs.System.{IsSystem}
use Rattle.tau_rules.proofs.OpeningLemmas.{opens, length-map}
use Rattle.tau_rules.proofs.system.System.open.Goals as goal

pub invariant_of-result : goal.invariant_of-result
invariant_of-result g c =
    let P : Program = c.args.program.now in
    let is : c.in_ok-trace.trace.run ≡ opened_run (program_opening P) = c.in_ok-trace.ensures.run in
    let holds = c.in_ok-states.ensures (program_opening P) (length-map (λ s. s.name) P.starts) in
    let opening : IsSound (program_opening P) = c.in_ok-trace.ensures.sound in
    let starts : HasStarts P.starts c.in_ok-records.records.items = subst (λ (ss : List Start). HasStarts ss c.in_ok-records.records.items) c.items-2.ensures c.in_ok-records.ensures in
    let posts : HasPosts P.posts c.in_ok-values.values.items = subst (λ (qs : List Post). HasPosts qs c.in_ok-values.values.items) c.items.ensures c.in_ok-values.ensures in
    let system : IsSystem P c.in_ok-trace.trace.run c.in_ok-states.states.records c.in_ok-records.records.items c.in_ok-values.values.items =
    subst (λ (T : Run). IsSystem P T c.in_ok-states.states.records c.in_ok-records.records.items c.in_ok-values.values.items) (sym is)
    (opens P c.in_ok-states.states.records c.in_ok-records.records.items c.in_ok-values.values.items c.requires opening holds starts posts) in
    let starting : length (program_opening P).names ≡ c.len.result = length-map (λ s. s.name) P.starts ∙ sym c.len.ensures in
    let posted : length (program_opening P).targets ≡ c.len-2.result = length-map (λ q. q.to) P.posts ∙ sym c.len-2.ensures in
    let knows = subst (λ (T : Run). g.K.Knowledge.knows c.in_ok-known.known T) (sym is)
    (c.in_ok-known.ensures (program_opening P) opening starting posted) in
    (system, knows)
