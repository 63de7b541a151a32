-- Rows: for each key the places that have it, each naming the one before it.
use Rattle.std.specs.Prelude.{◌≡◌, ◌↔◌, ℕ, ◌<◌, List, [], ◌∷◌, Option, Some, None, Contains, slice_get, set, length, map}
use Rattle.tau_points.specs.declared.point.Point.{Point}
use Rattle.tau_trace.specs.Run.{Run}
use Rattle.tau_past.specs.declared.carrying.Carrying.{Carrying}
use Rattle.tau_past.specs.Tables.{Lists, TellsCarried}

-- the place, if there is one, is below j
abbrev pub IsBelow : Option ℕ → ℕ → Type 0
IsBelow o j = (i : ℕ) → o ≡ Some i → i < j

-- the places of a row, from the one at hand on: each names the one before it
abbrev pub IsRow : List (Option ℕ) → Option ℕ → List ℕ → Type 0
IsRow earlier o [] = o ≡ None
IsRow earlier o (j ∷ js) = (o ≡ Some j) × ((before : Option ℕ) × (slice_get earlier j ≡ Some before) × IsBelow before j × IsRow earlier before js)

-- from the one at hand on, a row goes through the places that have the key
pub record TellsRow {K : Type 0} (earlier : List (Option ℕ)) (keys : List (Option K)) (key : K) (last : Option ℕ) : Type 0 where
  pub places : List ℕ
  pub row : IsRow earlier last places
  pub all : (j : ℕ) → Contains places j ↔ (slice_get keys j ≡ Some (Some key))

-- the points that are touched, and the places on which places rest
abbrev pub touched_by : List Carrying → List (Option Point)
touched_by cs = map (λ c. c.touched) cs

abbrev pub rests_of : List Carrying → List (Option ℕ)
rests_of cs = map (λ c. c.rest) cs

-- a place is put last into the row of the place on which it rests, if there is one; the one that was last comes back
abbrev pub PutsResting : Option ℕ → ℕ → List (Option ℕ) → List (Option ℕ) → Option ℕ → Type 0
PutsResting None place last0 last before = (last ≡ last0) × (before ≡ None)
PutsResting (Some i) place last0 last before = (last ≡ set last0 i (Some place)) × (slice_get last0 i ≡ Some before)

-- rows by the point touched last and by the place rested on, of the first n places, which carry so
pub record AreRows (T : Run) (n : ℕ) (carrying : List Carrying) (last_touching : Point → Option ℕ) (earlier_touching last_resting earlier_resting : List (Option ℕ)) : Type 0 where
  pub tells : Lists n (TellsCarried T) carrying
  pub touching_count : length earlier_touching ≡ n
  pub touching : (q : Point) → TellsRow earlier_touching (touched_by carrying) q (last_touching q)
  pub resting_count : length earlier_resting ≡ n
  pub last_count : length last_resting ≡ n
  pub resting : (i : ℕ) (o : Option ℕ) → slice_get last_resting i ≡ Some o → TellsRow earlier_resting (rests_of carrying) i o

-- the same, for some list of what the places carry
pub record HasRows (T : Run) (n : ℕ) (last_touching : Point → Option ℕ) (earlier_touching last_resting earlier_resting : List (Option ℕ)) : Type 0 where
  pub carrying : List Carrying
  pub rows : AreRows T n carrying last_touching earlier_touching last_resting earlier_resting
