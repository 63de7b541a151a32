-- A step that follows a run, and the views then.
use Rattle.std.specs.Prelude.{Bool, true, false}
use Rattle.tau_view.specs.Held.{Held}
use Rattle.tau_view.specs.Trim.{EdgeTest, RootTest}
use Rattle.tau_trace.specs.declared.step.Step.{Step}
use Rattle.tau_trace.specs.declared.step.Step.TheVariants.{Void, Trap, Fail, Lose}
use Rattle.tau_trace.specs.Run.{Run, appended}
use Rattle.tau_trace.specs.Known.{MayFollow, WellFormed}
use Rattle.tau_knowledge.specs.Knowing.{IsReady}
use Rattle.tau_views.specs.declared.views.Views.{Views}
use Rattle.tau_views.specs.declared.views.ViewChange.{ViewChange}
use Rattle.tau_views.specs.Kept.{AreViews, held_of, letters_of}
use Rattle.tau_views.specs.Changes.{own_after, letters_after}

-- the views and the run that a step finds, and the step
pub record Transition (V : Type 0) : Type 0 where
  pub views : Views V
  pub run : Run
  pub step : Step

-- the views are those of the run, and the step may follow it
pub record IsNext (de : EdgeTest) (dr : RootTest) {V : Type 0} (held : V → Held) (v : Views V) (T : Run) (s : Step) : Type 0 where
  pub views : AreViews de dr T (held_of held v.own.items) (letters_of held v.letters.items)
  pub well_formed : WellFormed T
  pub follows : MayFollow T s
  pub ready : IsReady T s

-- after the change the views are those of the run and the step
abbrev pub AreNext : EdgeTest → RootTest → {V : Type 0} → (V → Held) → Views V → Run → Step → ViewChange V → Type 0
AreNext de dr held v T s c = AreViews de dr (appended T s) (held_of held (own_after c v.own.items)) (letters_of held (letters_after c v.letters.items))

abbrev pub IsChange : EdgeTest → RootTest → {V : Type 0} → (V → Held) → Transition V → ViewChange V → Type 0
IsChange de dr held n = AreNext de dr held n.views n.run n.step

-- the kinds that make a volatile transactor fall, and end the turn of a stable one
abbrev pub falls_if_volatile : Step → Bool
falls_if_volatile (Trap t c) = true
falls_if_volatile (Fail t) = true
falls_if_volatile s = false

-- the kinds that take a message out of flight of which nobody hears
abbrev pub only_removes : Step → Bool
only_removes (Void t m) = true
only_removes (Lose m) = true
only_removes s = false
