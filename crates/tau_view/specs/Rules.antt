-- What the rules make of what a view holds (docs/rules.md, "Views", "Merge of facts").
use Rattle.std.specs.Prelude.{ℕ, Bool, true, false, ◌&&◌, ◌||◌, ◌==◌, not, Option, Some, None, nat_lt, if◌then◌else◌}
use Rattle.tau_history.specs.Timeline.{Timeline}
use Rattle.tau_history.specs.Order.{later_of}
use Rattle.tau_points.specs.declared.point.Point.{Point}
use Rattle.tau_view.specs.Edges.{edges_to, both_edges}
use Rattle.tau_view.specs.Held.{Held, Histories, Points, same_point}

-- nothing
abbrev pub nothing : Held
nothing = record { history = λ _. None; edge = λ _ _. false; root = λ _. false }

-- the history of a transactor becomes this one
abbrev pub noted_in : ℕ → Timeline → Histories → Histories
noted_in who h hs u = if u == who then Some h else hs u

abbrev pub noted : ℕ → Timeline → Held → Held
noted who h v = record v { history = noted_in who h v.history }

-- the point is added to the roots
abbrev pub touched : Point → Held → Held
touched p v = record v { root = λ q. v.root q || same_point q p }

-- edges from the point to each other root are added
abbrev pub depended : Point → Held → Held
depended p v = record v { edge = both_edges v.edge (edges_to p v.root) }

-- the later one of two histories, or the only one
abbrev pub later_history : Option Timeline → Option Timeline → Option Timeline
later_history None k = k
later_history (Some h) None = Some h
later_history (Some h) (Some k) = Some (later_of h k)

-- the later history of each transactor
abbrev pub merged_in : Histories → Histories → Histories
merged_in hs ks u = later_history (hs u) (ks u)

-- the later histories and the edges of both; the roots stay
abbrev pub merged : Held → Held → Held
merged v w = record v { history = merged_in v.history w.history; edge = both_edges v.edge w.edge }

-- the roots become these
abbrev pub with_roots : Points → Held → Held
with_roots roots v = record v { root = roots }

-- the roots become none
abbrev pub with_no_roots : Held → Held
with_no_roots v = record v { root = λ _. false }
