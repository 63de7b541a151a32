-- Whichever room what is kept has, it says the same.
use Rattle.std.proofs.Common.{◌≡◌, ℕ, zero, suc, ◌-◌, ◌<◌, Bool, List, [], ◌∷◌, length, get_or, Option, Some, None, refl, sym, ap, ◌∙◌, subst, arith}
use Rattle.std.specs.Prelude.{slice_get, vec_len}
use Rattle.std.specs.Vec.{vec_capacity}
use Rattle.std.specs.declared.alloc.Global.{Global}
use Rattle.std.specs.declared.vec.Vec.{Vec}
use Rattle.std.specs.Option.{option_map_or}
use Rattle.std.proofs.lemmas.Option.{slice_get_within}
use Rattle.tau_points.specs.declared.point.Point.{Point}
use Rattle.tau_trace.specs.declared.step.Step.{Step}
use Rattle.tau_trace.specs.Steps.{actor}
use Rattle.tau_trace.specs.Run.{Run, len}
use Rattle.tau_trace.specs.Known.{MayFollow, WellFormed}
use Rattle.tau_knowledge.specs.Knowing.{IsReady}
use Rattle.tau_past.specs.Carried.{is_set}
use Rattle.tau_past.specs.Heard.{heard_by, Heard, HeardBy}
use Rattle.tau_trace.proofs.Lists.{same_some}
use Rattle.tau_versions.specs.declared.logs.version.Version.{Version}
use Rattle.tau_versions.specs.Logs.Versions.{IsLatest}
use Rattle.tau_versions.specs.Logs.Told.{Told}
use Rattle.tau_heard.specs.declared.own.Own.{Own}
use Rattle.tau_heard.specs.declared.letter.Letter.{Letter}
use Rattle.tau_heard.specs.declared.letter.Sender.{Sender}
use Rattle.tau_heard.specs.declared.hearing.Hearing.{Hearing}
use Rattle.tau_heard.specs.Bounds.{TellsNumber, TellsBounds, TellsHeardBy, last_number}
use Rattle.tau_heard.specs.Changed.{HasRoomToHear}
use Rattle.tau_heard.specs.Hears.{TellsOwn, Hears, Knows}
use Rattle.tau_heard.specs.Kept.{IsSameLog, AreSameLogs, IsSameOwn, AreSameOwn, IsSameKept, HasListRoom, HasActorStepRoom}
use Rattle.tau_versions.specs.Search.Logs.{TellsLog, AreLogs}
use Rattle.tau_heard.specs.Next.{IsNext, HasStepRoom, HasRoomNext}
use Rattle.tau_heard.proofs.Bounds.{IsNumberAt, number_of, number_told}

element : {A : Type 0} (xs : List A) (i : ℕ) → i < length xs → (x : A) × (slice_get xs i ≡ Some x)
element [] i l = absurd (omega arith)
element (x ∷ xs) zero l = (x, refl)
element (x ∷ xs) (suc i) l = element xs i (omega arith)

-- a log with other room
with_room : List Version → List Point → List ℕ → Told → Told
with_room vs ps cs l = record { versions = vs; takes = ps; closed = cs; spare_versions = l.spare_versions; spare_takes = l.spare_takes; spare_closed = l.spare_closed }

tells_log : (T : Run) (u n : ℕ) (old new : Told) → IsSameLog old new → TellsLog T u n old → TellsLog T u n new
unfolding with_room
tells_log T u n old new same x =
    let F : List Version → Type 0 = λ vs. TellsLog T u n (with_room vs old.takes old.closed new) in
    let G : List Point → Type 0 = λ ps. TellsLog T u n (with_room new.versions ps old.closed new) in
    let H : List ℕ → Type 0 = λ cs. TellsLog T u n (with_room new.versions new.takes cs new) in
    subst H (sym same.2) (subst G (sym same.1) (subst F (sym same.0) (record {
      opens = x.opens;
      few = x.few;
      histories = record { begun = x.histories.begun; told = x.histories.told; closed_is = x.histories.closed_is };
      takes = record { within = x.takes.within; told = x.takes.told };
    })))

module _ (L G : List Told) (same : AreSameLogs L G) where
  pub logs_same : (T : Run) (n : ℕ) → AreLogs T n L → AreLogs T n G
  logs_same T n x = record { count = same.count ∙ x.count; each = each } where
    each : (u : ℕ) (log : Told) → slice_get G u ≡ Some log → TellsLog T u n log
    each u log e =
        let y = element L u (omega (arith, slice_get_within G u log e, same.count)) in
        let z = same.each u y.0 y.1 in
        let F : Told → Type 0 = TellsLog T u n in
        subst F (same_some (sym z.1 ∙ e)) (tells_log T u n y.0 z.0 z.2 (x.each u y.0 y.1))

  number_same : (u a i : ℕ) → IsNumberAt L u a i → IsNumberAt G u a i
  number_same u a i x =
      let z = same.each u x.log x.stands in
      let F : List Version → Type 0 = λ vs. IsLatest vs a i x.version in
      record { log = z.0; stands = z.1; version = x.version; latest = subst F (sym z.2.0) x.latest }

  told_same : (T : Run) (H : ℕ → Type 0) (n u i : ℕ) → TellsNumber T H n L u i → TellsNumber T H n G u i
  told_same T H n u i x = number_told x.tells.place x.tells.within x.tells.bound (number_same u x.tells.place i (number_of x))

  bounds_same : (T : Run) (H : ℕ → Type 0) (n who version : ℕ) (xs : List ℕ) → TellsBounds T H n L who version xs → TellsBounds T H n G who version xs
  bounds_same T H n who version xs x = record {
    own = told_same T H n who version x.own;
    others = λ u lt ne. told_same T H n u (get_or xs u 0) (x.others u (omega (arith, lt, same.count)) ne);
    not_later = x.not_later;
    few = omega (arith, x.few, same.count);
  }

  pub last_same : (u : ℕ) → u < length L → last_number G u ≡ last_number L u
  last_same u lt =
      let y = element L u lt in
      let z = same.each u y.0 y.1 in
      let F : Option Told → ℕ = λ o. option_map_or (λ (l : Told). length l.versions - 1) o 0 in
      ap F z.1 ∙ ap (λ vs. length vs - 1) z.2.0 ∙ sym (ap F y.1)

  heard_same : (T : Run) (m n : ℕ) (sender : Option Sender) → TellsHeardBy T m n L sender → TellsHeardBy T m n G sender
  heard_same T m n None x = λ u lt. told_same T (HeardBy T m) n u 0 (x u (omega (arith, lt, same.count)))
  heard_same T m n (Some s) x = (x.0, bounds_same T (HeardBy T m) n s.who s.version s.numbers.value.items x.1)

pub hears_same : (T : Run) (n : ℕ) (h g : Hearing) → IsSameKept h g → Hears T n h.logs.items h.own.items h.letters.items h.falls → Hears T n g.logs.items g.own.items g.letters.items g.falls
hears_same T n h g same x = record {
  logs_are = logs_same h.logs.items g.logs.items same.logs T n x.logs_are;
  transactors = same.own.count ∙ x.transactors;
  each = each;
  messages = ap length same.letters ∙ x.messages;
  letter = λ m l e.
      let y = x.letter m l (ap (λ ls. slice_get ls m) (sym same.letters) ∙ e) in record {
        heard = heard_same h.logs.items g.logs.items same.logs T m n l.sender y.heard;
        roots = y.roots;
      };
  in_flight = λ m f. let y = x.in_flight m f in (y.0, ap (λ ls. slice_get ls m) same.letters ∙ y.1);
  falls_is = same.falls ∙ x.falls_is;
} where
  each : (t : ℕ) (z : Own) → slice_get g.own.items t ≡ Some z → TellsOwn T t n g.logs.items z
  each t z e =
      let there = slice_get_within g.own.items t z e in
      let y = element h.own.items t (omega (arith, there, same.own.count)) in
      let w = same.own.each t y.0 y.1 in
      let tells = x.each t y.0 y.1 in
      let last = last_same h.logs.items g.logs.items same.logs t (omega (arith, there, same.own.count, x.transactors, x.logs_are.count)) in
      let F : ℕ → Type 0 = λ v. TellsBounds T (Heard T t n) n g.logs.items t v y.0.numbers.numbers in
      let G : Own → Type 0 = TellsOwn T t n g.logs.items in
      let heard = subst F (sym last) (bounds_same h.logs.items g.logs.items same.logs T (Heard T t n) n t (last_number h.logs.items t) y.0.numbers.numbers tells.heard) in
      let K : List ℕ → Type 0 = TellsBounds T (Heard T t n) n g.logs.items t (last_number g.logs.items t) in
      subst G (same_some (sym w.1 ∙ e)) (record { heard = subst K (sym w.2.numbers) heard; turn = rw (w.2.roots, w.2.touched, w.2.depended) tells.turn })

-- Lists of which one item has other room.

same_log : (l : Told) → IsSameLog l l
same_log l = (refl, refl, refl)

same_own : (x : Own) → IsSameOwn x x
same_own x = record { numbers = refl; roots = refl; touched = refl; depended = refl }

pub own_is_same : (L : List Own) → AreSameOwn L L
own_is_same L = record { count = refl; each = λ t x e. (x, e, same_own x) }

pub logs_are_same : (L : List Told) → AreSameLogs L L
logs_are_same L = record { count = refl; each = λ u l e. (l, e, same_log l) }

-- lists that are equal are the same
pub equal_kept : (h g k : Hearing) → g.logs.items ≡ h.logs.items → g.own.items ≡ h.own.items → g.letters.items ≡ h.letters.items → g.falls ≡ h.falls → IsSameKept g k → IsSameKept h k
equal_kept h g k logs own letters falls x = record {
  logs = let F : List Told → Type 0 = λ L. AreSameLogs L k.logs.items in subst F logs x.logs;
  own = let F : List Own → Type 0 = λ L. AreSameOwn L k.own.items in subst F own x.own;
  letters = x.letters ∙ letters;
  falls = x.falls ∙ falls;
}

pub kept_same : (h : Hearing) → IsSameKept h h
kept_same h = record { logs = logs_are_same h.logs.items; own = own_is_same h.own.items; letters = refl; falls = refl }

-- what is kept is right for the step, whichever room it has
pub next_of : (h g : Hearing) (T : Run) (s : Step) → Knows h T → WellFormed T → MayFollow T s → IsReady T s → IsSameKept h g → HasRoomNext g s → IsNext g T s
next_of h g T s knows known follows ready same room = record { knows = hears_same T (len T) h g same knows; well_formed = known; follows = follows; ready = ready; room = room }

-- room for the transactor that makes the step is room for the step
pub room_next : (g : Hearing) (s : Step) (who : ℕ) (sets : Bool) (message : Option ℕ) → HasListRoom g → who < length g.logs.items → actor s ≡ Some who → sets ≡ is_set s → message ≡ heard_by s → HasActorStepRoom g who sets message → HasRoomNext g s
room_next g s who sets message lists there by set heard room = record {
  logs = lists.0;
  own = lists.1;
  letters = lists.2;
  log = λ t log x a e f.
      let same : t ≡ who = same_some (sym a ∙ by) in
      let F : Bool → Type 0 = λ b. HasStepRoom b log x in
      subst F set (room log x (ap (slice_get g.logs.items) (sym same) ∙ e) (ap (slice_get g.own.items) (sym same) ∙ f)).0;
  hears = λ t m x a h f.
      let same : t ≡ who = same_some (sym a ∙ by) in
      let l = element g.logs.items who there in
      let F : Option ℕ → Type 0 = λ o. HasRoomToHear o g.letters.items x.numbers in
      subst F (heard ∙ h) (room l.0 x l.1 (ap (slice_get g.own.items) (sym same) ∙ f)).1;
}

-- where the step hears of nothing, the numbers of the transactors need no room
module _ (h g : Hearing) (T : Run) (s : Step) (next : IsNext h T s) (none : heard_by s ≡ None) (logs : g.logs ≡ h.logs) (own : AreSameOwn h.own.items g.own.items)
    (room : (vec_len g.own ≡ vec_len h.own) × (vec_capacity g.own ≡ vec_capacity h.own)) (letters : g.letters ≡ h.letters) (falls : g.falls ≡ h.falls) where
  same_kept : IsSameKept h g
  same_kept = record {
    logs = let F : Vec Told Global → Type 0 = λ v. AreSameLogs h.logs.items v.items in subst F (sym logs) (logs_are_same h.logs.items);
    own = own;
    letters = ap (λ v. v.items) letters;
    falls = falls;
  }

  step_room : (t : ℕ) (log : Told) (x : Own) → actor s ≡ Some t → slice_get g.logs.items t ≡ Some log → slice_get g.own.items t ≡ Some x → HasStepRoom (is_set s) log x
  step_room t log x a e f =
      let y = element h.own.items t (omega (arith, slice_get_within g.own.items t x f, own.count)) in
      let w = own.each t y.0 y.1 in
      let F : Vec Told Global → Type 0 = λ v. slice_get v.items t ≡ Some log in
      let z = next.room.log t log y.0 a (subst F logs e) y.1 in
      let same : x ≡ w.0 = same_some (sym f ∙ w.1) in
      record { versions = z.versions; takes = λ d. omega (arith, z.takes d, ap length (ap (λ o. o.roots) same ∙ w.2.roots)); closed = z.closed }

  pub shared_next : IsNext g T s
  shared_next = next_of h g T s next.knows next.well_formed next.follows next.ready same_kept (record {
    logs = let F : Vec Told Global → Type 0 = λ v. vec_len v < vec_capacity v in subst F (sym logs) next.room.logs;
    own = omega (arith, next.room.own, room.0, room.1);
    letters = let F : Vec (Option Letter) Global → Type 0 = λ v. vec_len v < vec_capacity v in subst F (sym letters) next.room.letters;
    log = step_room;
    hears = λ t m x a e f. let both : None ≡ Some m = sym none ∙ e in absurd (cc);
  })
