-- The measures of a picture (docs/formats.md, "Pictures").
use Rattle.std.specs.Prelude.{ℕ, ◌+◌, ◌-◌, ◌*◌, ◌/◌, ◌&&◌, max, nat_lt, nat_le, if◌then◌else◌}
use Rattle.tau_svg.specs.declared.shapes.grid.Grid.{Grid}
use Rattle.tau_svg.specs.declared.shapes.window.Window.{Window}
use Rattle.tau_svg.specs.Shapes.Windows.{count, row_of}

-- the distance of two lanes, where there are so many
abbrev pub lane_width : ℕ → ℕ
lane_width lanes = if nat_le lanes 6 then 116 else if nat_le lanes 24 then 44 else 28

-- the distance of two rows, where there are so many
abbrev pub row_height : ℕ → ℕ
row_height rows = if nat_le rows 200 then 18 else 14

-- the height of the strip of the whole window, which stands where there are more than 100 rows and at most 64 lanes
abbrev pub strip_height : ℕ → ℕ → ℕ
strip_height rows lanes = if nat_lt 100 rows && nat_le lanes 64 then 8 * lanes + 30 else 0

-- where the first row stands, below a band of nodes that begins at this height; `longest` is the number of bytes of the
-- longest name
abbrev pub first_row : ℕ → ℕ → ℕ → ℕ
first_row band lanes longest = if nat_le lanes 6 then band + 58 else band + 46 + 7 * longest

-- the height of a line of names, which stands below each 50 rows and has the name of each lane again
abbrev pub names_height : ℕ → ℕ → ℕ
names_height lanes longest = if nat_le lanes 6 then 22 else 7 * longest + 14

-- how far so many rows go down, of this height, with lines of names of that height
abbrev pub rows_height : ℕ → ℕ → ℕ → ℕ
rows_height row names rows = row * rows + names * (rows / 50)

abbrev pub picture_width : ℕ → ℕ → ℕ
picture_width lanes nodes = max (384 + lane_width lanes * lanes + 12 * nodes) 804

-- how many states that may be kept stand side by side
abbrev pub end_columns : ℕ → ℕ → ℕ
end_columns lanes nodes = (picture_width lanes nodes - 32) / 250

-- so many rows, lanes, nodes that have a lane, and bytes of the longest name
abbrev pub grid_of : ℕ → ℕ → ℕ → ℕ → Grid
grid_of rows lanes nodes longest =
    let band = 78 + strip_height rows lanes in
    let top = first_row band lanes longest in
    let foot = top + rows_height (row_height rows) (names_height lanes longest) rows in
    let columns = end_columns lanes nodes in
    let key = foot + 52 + 16 * ((lanes + columns - 1) / columns) in
    record {
      is_wide = nat_le lanes 6;
      lane = lane_width lanes;
      row = row_height rows;
      names = names_height lanes longest;
      over = strip_height rows lanes;
      band = band;
      top = top;
      foot = foot;
      width = picture_width lanes nodes;
      columns = columns;
      key = key;
      height = key + 74;
    }

-- the middle of the lane with so many lanes before it, and so many nodes before its node
abbrev pub x_of : Grid → ℕ → ℕ → ℕ
x_of g rank group = 372 + g.lane * rank + 12 * group + g.lane / 2

-- the middle of the row of place k
abbrev pub y_of : Grid → Window → ℕ → ℕ
y_of g v k = g.top + rows_height g.row g.names (row_of v k)

-- where place k stands in the strip
abbrev pub strip_of : Grid → Window → ℕ → ℕ
strip_of g v k = 54 + (g.width - 78) * row_of v k / count v
