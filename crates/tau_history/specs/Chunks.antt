-- Chunks of closed numbers, each on top of those before it.
use Rattle.std.specs.Prelude.{ℕ, List, [], Option, None, Some}
use Rattle.std.specs.declared.sync.Arc.{Arc}
use Rattle.std.specs.declared.alloc.Global.{Global}
use Rattle.tau_history.specs.declared.chunk.Chunk.{Chunk}

-- the numbers of a chunk and those before it, none where there is no chunk
abbrev pub held : Option (Arc Chunk Global) → List ℕ
held None = []
held (Some shared) = shared.value
