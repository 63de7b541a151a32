-- The states with which the start transactors open.
use Rattle.std.specs.Prelude.{List, map}
use Rattle.tau_value.specs.declared.shared.Value.{Value}
use Rattle.tau_tree.specs.declared.starts.Start.{Start}

abbrev pub opening_states : List Start → List Value
opening_states starts = map (λ s. s.state) starts
