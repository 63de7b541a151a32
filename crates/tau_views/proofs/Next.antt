-- Views of a run that a step may follow: what they say of its transactors, and changes of one view.
use Rattle.std.proofs.Common.{◌≡◌, ℕ, suc, ◌+◌, ◌-◌, ◌^◌, ◌<◌, ◌≤◌, Bool, true, false, map, Option, Some, None, sym, ap, ◌∙◌, subst, arith}
use Rattle.std.specs.Prelude.{slice_get, if◌then◌else◌, nat_lt, nat_le, ◌&&◌}
use Rattle.std.specs.Option.{option_map}
use Rattle.tau_history.specs.Timeline.{Timeline, Move, interval, moved}
use Rattle.tau_history.specs.Order.{MayMove, here, more}
use Rattle.tau_view.specs.Held.{Held, AllComparable}
use Rattle.tau_view.specs.Trim.{EdgeTest, RootTest, trim}
use Rattle.tau_view.specs.Laws.{MayNote}
use Rattle.tau_trace.specs.declared.step.Step.{Step}
use Rattle.tau_trace.specs.Steps.{actor, removed_by, is_new, makes_message}
use Rattle.tau_trace.specs.Run.{Run, len, starts, appended}
use Rattle.tau_trace.specs.Numbering.{born, sent}
use Rattle.tau_trace.specs.Histories.{history, move_at, is_close, is_fall}
use Rattle.tau_trace.specs.Known.{WellFormed}
use Rattle.tau_trace.proofs.Agreement.{agree_appended, history-same, same_at}
use Rattle.tau_trace.proofs.Counts.{count-le}
use Rattle.tau_trace.proofs.Counted.{counted}
use Rattle.tau_trace.proofs.Lists.{same_some}
use Rattle.tau_trace.proofs.Quiet.{known_actor}
use Rattle.tau_trace.specs.Turns.{HasOpenTurn}
use Rattle.tau_views.specs.Views.{IsViewOf}
use Rattle.tau_views.specs.declared.views.Views.{Views}
use Rattle.tau_views.specs.declared.views.ViewChange.{ViewChange}
use Rattle.tau_views.specs.Kept.{AreViews, held_of, letters_of}
use Rattle.tau_views.specs.Changes.{own_after, letters_after, with_last, with_item, without_item, with_letter}
use Rattle.tau_views.specs.Inner.Next.{IsNext, AreNext}
use Rattle.tau_views.proofs.HeardLaws.{views_have_the_own_history, views_lack_the_unborn, views_are_comparable}
use Rattle.tau_views.proofs.Trimmed.{same_history, comparable_trimmed}
use Rattle.tau_views.proofs.Lists.{numbered, map-with_item, map-with_last, map-without_item, map-with_letter}
use Rattle.tau_views.proofs.Follows.{Follows, views_follow}

-- the numbers of a history are at most the number of steps, and one more
one_at_most : (b : Bool) → (if b then 1 else 0) ≤ 1
one_at_most true = omega arith
one_at_most false = omega arith

few_intervals : (T : Run) (t k : ℕ) → interval (history T t k) ≤ k + 1
few_intervals T t k = omega (arith, (counted T t k).interval_is, count-le (λ j. is_close (move_at T t j)) k, one_at_most (nat_lt t (starts T)))

few_incarnations : (T : Run) (t k : ℕ) → (history T t k).last ≤ k
few_incarnations T t k =
    let c = counted T t k in
    omega (arith, c.incarnation_is, count-le (λ j. nat_le c.since j && is_fall (move_at T t j)) k)

-- a step that makes no transactor and no message, and takes none out of flight
pub record IsPlain (s : Step) : Type 0 where
  pub new : is_new s ≡ false
  pub send : makes_message s ≡ false
  pub removed : removed_by s ≡ None

-- a change, by what its views hold
abbrev pub held_change : {V : Type 0} → (V → Held) → ViewChange V → ViewChange Held
held_change held c = record { own = option_map (numbered held) c.own; newborn = option_map held c.newborn; letter = option_map held c.letter; gone = c.gone }

-- a change of one transactor's view
abbrev pub own_change : {V : Type 0} → ℕ → V → Option ℕ → ViewChange V
own_change t a gone = record { own = Some (t, a); newborn = None; letter = None; gone = gone }

-- what holds of the views of a run alone
module _ (de : EdgeTest) (dr : RootTest) {V : Type 0} (held : V → Held) (v : Views V) (T : Run) (views : AreViews de dr T (held_of held v.own.items) (letters_of held v.letters.items)) (w : WellFormed T) where
  pub own_history_is : (t : ℕ) (h : Held) → t < born T (len T) → slice_get (held_of held v.own.items) t ≡ Some h → h.history t ≡ Some (history T t (len T))
  own_history_is t h l e =
      let x = views.each t h e in
      same_history de dr h x.whole t x.is ∙ views_have_the_own_history T t (len T) x.whole w l x.is_whole

  pub unborn_history : (t : ℕ) (h : Held) → t < born T (len T) → slice_get (held_of held v.own.items) t ≡ Some h → h.history (born T (len T)) ≡ None
  unborn_history t h l e =
      let x = views.each t h e in
      same_history de dr h x.whole (born T (len T)) x.is ∙ views_lack_the_unborn T t (len T) x.whole w l x.is_whole

  pub comparable : (t m : ℕ) (h l : Held) → t < born T (len T) → m < sent T (len T) → slice_get (held_of held v.own.items) t ≡ Some h → slice_get (letters_of held v.letters.items) m ≡ Some (Some l) → AllComparable h.history l.history
  comparable t m h l at sent_before e f =
      let x = views.each t h e in
      let y = views.letter m l f in
      comparable_trimmed de dr h l x.whole y.whole x.is y.is (views_are_comparable T t (len T) m x.whole y.whole w at sent_before x.is_whole y.is_whole)

module _ {de : EdgeTest} {dr : RootTest} {V : Type 0} {held : V → Held} {v : Views V} {T : Run} {s : Step} (next : IsNext de dr held v T s) where
  pub actor_exists : (t : ℕ) → actor s ≡ Some t → t < born T (len T)
  actor_exists t by = known_actor T.opening (born T (len T)) (sent T (len T)) t s next.follows.known by

  -- the own history after a move follows the one that the view has
  pub may_move : (m : Move) (t : ℕ) (k : Timeline) (h : Held) → MayMove m (history T t (len T)) → k ≡ moved m (history T t (len T)) → h.history t ≡ Some (history T t (len T)) → MayNote t k h.history
  may_move m t k h may is own j f =
      let same : history T t (len T) ≡ j = same_some (sym own ∙ f) in
      more here m (subst (MayMove m) same may) (is ∙ ap (moved m) same)

  pub may_fall : (t : ℕ) → (history T t (len T)).last < 2 ^ 32 - 1
  may_fall t = omega (arith, few_incarnations T t (len T), next.follows.few_steps)

  pub may_close : (t : ℕ) → interval (history T t (len T)) < 2 ^ 32 - 1
  may_close t = omega (arith, few_intervals T t (len T), next.follows.few_steps)

  pub turn_then : (t : ℕ) → HasOpenTurn T t (len T) → HasOpenTurn (appended T s) t (len T)
  turn_then t o = (o.0, (o.1.0, ((same_at T (appended T s) (len T) (agree_appended T s)).turn t o.0 o.1.0).0 o.1.1))

  pub history_then : (t : ℕ) → history (appended T s) t (len T) ≡ history T t (len T)
  history_then t = sym (history-same t (len T) (agree_appended T s))

  -- a change that follows gives the next views
  pub next_by : (c : ViewChange V) → Follows de dr T s (held_change held c) → AreNext de dr held v T s c
  next_by c f =
      let own : map held (own_after c v.own.items) ≡ own_after (held_change held c) (map held v.own.items) = map-with_last held c.newborn (with_item c.own v.own.items) ∙ ap (with_last (option_map held c.newborn)) (map-with_item held c.own v.own.items) in
      let letters : map (option_map held) (letters_after c v.letters.items) ≡ letters_after (held_change held c) (map (option_map held) v.letters.items) = map-with_letter held c.letter (without_item c.gone v.letters.items) ∙ ap (with_letter (option_map held c.letter)) (map-without_item held c.gone v.letters.items) in
      let given = views_follow de dr T s (held_of held v.own.items) (letters_of held v.letters.items) next.well_formed next.follows next.views (held_change held c) f in
      subst (λ xs. AreViews de dr (appended T s) xs (letters_of held (letters_after c v.letters.items))) (sym own)
      (subst (AreViews de dr (appended T s) (own_after (held_change held c) (held_of held v.own.items))) (sym letters) given)

  -- a step of t that changes t's view alone
  pub next_own : (t : ℕ) (a : V) (gone : Option ℕ) (x : Held) (c : ViewChange V) → c ≡ own_change t a gone → actor s ≡ Some t → is_new s ≡ false → makes_message s ≡ false → gone ≡ removed_by s → held a ≡ trim de dr x → IsViewOf (appended T s) t (suc (len T)) x → AreNext de dr held v T s c
  next_own t a gone x c is by new send removed e after =
      let P : ViewChange V → Type 0 = λ d. AreNext de dr held v T s d in
      subst P (sym is) (next_by (own_change t a gone) (record {
        own = (by, record { whole = x; is_whole = after; is = e });
        newborn = new;
        letter = send;
        gone = removed;
      }))
