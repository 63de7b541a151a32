-- The views of a run after one more step.
use Rattle.std.proofs.Common.{ℕ, suc, ◌<◌, sym, subst, arith}
use Rattle.tau_view.specs.Held.{Held}
use Rattle.tau_trace.specs.declared.step.Step.{Step}
use Rattle.tau_trace.specs.Run.{Run, len, appended}
use Rattle.tau_trace.specs.Numbering.{born, sent}
use Rattle.tau_trace.specs.Known.{MayFollow, WellFormed}
use Rattle.tau_trace.proofs.Agreement.{agree_appended}
use Rattle.tau_trace.proofs.Indexing.{len-appended}
use Rattle.tau_rules.proofs.AppendedRuns.{born_here, well_formed_then}
use Rattle.tau_views.specs.Views.{IsViewOf, IsMessageView}
use Rattle.tau_views.specs.Laws.{ViewAfterStep}
use Rattle.tau_views.proofs.HeardLaws.{views_step_by_step, views_are_local}

module _ (T : Run) (s : Step) where
  pub at_end : (t : ℕ) (x : Held) → IsViewOf (appended T s) t (suc (len T)) x → IsViewOf (appended T s) t (len (appended T s)) x
  at_end t x v = let P : ℕ → Type 0 = λ k. IsViewOf (appended T s) t k x in subst P (sym (len-appended T s)) v

  module _ (w : WellFormed T) (may : MayFollow T s) where
    own_stays : (t : ℕ) (x : Held) → t < born T (len T) → IsViewOf T t (len T) x → IsViewOf (appended T s) t (len T) x
    own_stays = (views_are_local T (appended T s) (len T) w (well_formed_then T s w may) (agree_appended T s)).transactor

    pub message_stays : (m : ℕ) (x : Held) → m < sent T (len T) → IsMessageView T m x → IsMessageView (appended T s) m x
    message_stays = (views_are_local T (appended T s) (len T) w (well_formed_then T s w may) (agree_appended T s)).message

    -- what becomes of a view by the step
    pub after_step : (t : ℕ) (x : Held) → t < born T (len T) → IsViewOf T t (len T) x → ViewAfterStep (appended T s) t (len T) x
    after_step t x l v = views_step_by_step (appended T s) t (len T) x (well_formed_then T s w may) (omega (arith, l, born_here T s)) (own_stays t x l v)
