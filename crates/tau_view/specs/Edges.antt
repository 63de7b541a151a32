-- Sets of edges.
use Rattle.std.specs.Prelude.{Bool, ◌&&◌, ◌||◌, not}
use Rattle.tau_points.specs.declared.point.Point.{Point}
use Rattle.tau_view.specs.Held.{Points, Edges, same_point}

-- from the point to each other point of the set
abbrev pub edges_to : Point → Points → Edges
edges_to p roots x y = same_point x p && (roots y && not (same_point y p))

-- the edges of both sets
abbrev pub both_edges : Edges → Edges → Edges
both_edges e f x y = e x y || f x y
