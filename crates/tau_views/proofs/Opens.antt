-- The views before the first step.
use Rattle.std.proofs.Common.{◌≡◌, ⊎_elim, false, ℕ, ◌+◌, List, [], ◌∷◌, ◌++◌, length, Option, Some, sym, ap, ◌∙◌, arith, length-append}
use Rattle.std.specs.Option.{option_map_or}
use Rattle.std.proofs.lemmas.Option.{slice_get_within}
use Rattle.tau_history.specs.Timeline.{opening}
use Rattle.tau_view.specs.Held.{Held}
use Rattle.tau_view.specs.Rules.{nothing, noted}
use Rattle.tau_view.specs.Trim.{EdgeTest, RootTest, trim}
use Rattle.tau_trace.specs.declared.opening.Opening.{Opening}
use Rattle.tau_trace.specs.Steps.{is_new, makes_message}
use Rattle.tau_trace.specs.Run.{Run, step_at}
use Rattle.tau_trace.specs.Numbering.{sent}
use Rattle.tau_trace.specs.Known.{IsSound, WellFormed}
use Rattle.tau_trace.proofs.Counts.{count-zero}
use Rattle.tau_trace.proofs.Lists.{same_some, slice_get-push_cases}
use Rattle.tau_views.specs.Kept.{AreViews}
use Rattle.tau_views.specs.Inner.Opened.{AreStarts, ArePosts}
use Rattle.tau_views.proofs.HeardLaws.{starts_open_alone, posts_have_heard_nothing}
use Rattle.tau_views.proofs.Lists.{element}

-- the run without steps
abbrev opened : Opening → Run
opened o = record { opening = o; steps = [] }

opened_well_formed : (o : Opening) → IsSound o → WellFormed (opened o)
opened_well_formed o sound = record { opening = sound; known = λ k s e. absurd (cc); versions = λ k s e. absurd (cc); few_steps = omega arith }

module _ (de : EdgeTest) (dr : RootTest) where
  -- one start more
  pub starts_more : (own : List Held) (n : ℕ) (h : Held) → h ≡ trim de dr (noted n opening nothing) → AreStarts de dr own n → AreStarts de dr (own ++ h ∷ []) (n + 1)
  starts_more own n h is given = record {
    starts = omega (arith, length-append own (h ∷ []), given.starts);
    each = λ t k e. ⊎_elim
        (λ a. given.each t k a)
        (λ b. let at : n ≡ t = omega (arith, b.0, given.starts) in sym b.1 ∙ is ∙ ap (λ u. trim de dr (noted u opening nothing)) at)
        (slice_get-push_cases own h k t e);
  }

  -- one post more
  pub posts_more : (letters : List (Option Held)) (n : ℕ) (h : Held) → h ≡ trim de dr nothing → ArePosts de dr letters n → ArePosts de dr (letters ++ Some h ∷ []) (n + 1)
  posts_more letters n h is given = record {
    posts = omega (arith, length-append letters (Some h ∷ []), given.posts);
    letter = λ m o e. ⊎_elim (λ a. given.letter m o a) (λ b. sym b.1 ∙ ap Some is) (slice_get-push_cases letters (Some h) o m e);
  }

  -- the views of starts and posts are those of the run without steps
  pub opens : (o : Opening) (own : List Held) (letters : List (Option Held)) → IsSound o → AreStarts de dr own (length o.names) → ArePosts de dr letters (length o.targets) → AreViews de dr (record { opening = o; steps = [] }) own letters
  opens o own letters sound starting posting = record {
    transactors = omega (arith, starting.starts, count-zero (λ j. option_map_or is_new (step_at (opened o) j) false));
    each = λ t h e. record {
      whole = noted t opening nothing;
      is_whole = starts_open_alone (opened o) t (opened_well_formed o sound) (omega (arith, slice_get_within own t h e, starting.starts));
      is = starting.each t h e;
    };
    messages = sent_first;
    letter = λ m h e. record {
      whole = nothing;
      is_whole = posts_have_heard_nothing (opened o) m (omega (arith, slice_get_within letters m (Some h) e, posting.posts));
      is = same_some (posting.letter m (Some h) e);
    };
    in_flight = λ m f.
        let x = element letters m (omega (arith, f.exists, sent_first)) in
        (trim de dr nothing, x.1 ∙ ap Some (posting.letter m x.0 x.1));
    gone = λ m l not. absurd (not (record { exists = l; not_removed = λ j b. absurd (omega arith) }));
  } where
    sent_first : length letters ≡ sent (opened o) 0
    sent_first = omega (arith, posting.posts, count-zero (λ j. option_map_or makes_message (step_at (opened o) j) false))
