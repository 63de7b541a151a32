-- A cursor comes to each place of a trace.
use Rattle.std.proofs.Common.{◌≡◌, inr, ℕ, suc, ◌+◌, List, [], ◌∷◌, ◌++◌, take, Some, sym, ap, ◌∙◌, subst, arith}
use Rattle.std.proofs.lemmas.List.{take_more, take_all}
use Rattle.std.proofs.lemmas.Option.{slice_get_within, get_or_from_slice_get}
use Rattle.tau_tree.specs.declared.entries.Entry.{Entry}
use Rattle.tau_trace.specs.declared.step.Step.{Step}
use Rattle.tau_trace.specs.Run.{Run, len, step_at, appended}
use Rattle.tau_trace.proofs.Prefix.{prefix, run_of}
use Rattle.tau_trace.proofs.Indexing.{len-appended}
use Rattle.tau_script.specs.declared.cursor.Cursor.{Cursor}
use Rattle.tau_script.specs.Cursors.{first_cursor, MovedFrom, CursorAt, ComesTo, IsCurrent}
use Rattle.tau_script.specs.Laws.{CursorsGoOn}
use Rattle.tau_script.proofs.Passing.{current}
use Rattle.tau_revival.specs.Revival.{LeadsOn}

-- at the first
pub current_first : (S : List Entry) (T U : Run) (c : Cursor) → U ≡ record { opening = T.opening; steps = [] } → c ≡ first_cursor → IsCurrent S U (len U) c
current_first S T U c is first = subst (λ (V : Run). IsCurrent S V (len V) c) (sym is) (inr first)

-- at the next
pub current_next : CursorsGoOn → (S : List Entry) (U V : Run) (s : Step) (c : Cursor) → MovedFrom (CursorAt S U (len U)) S U (len U) c → V ≡ appended U s → IsCurrent S V (len V) c
current_next law S U V s c moved is =
    let comes : ComesTo S (appended U s) (suc (len U)) c = subst (λ (d : Cursor). ComesTo S (appended U s) (suc (len U)) d) (sym moved.moved) (law S U moved.before moved.step s moved.stood moved.due) in
    subst (λ (W : Run). IsCurrent S W (len W) c) (sym is) (inr (subst (λ (n : ℕ). ComesTo S (appended U s) n c) (sym (len-appended U s)) comes))

-- from there one comes to the script's own
pub leads_first : (S : List Entry) (T U : Run) (c : Cursor) → U ≡ record { opening = T.opening; steps = [] } → c ≡ first_cursor → LeadsOn S U c
leads_first S T U c is first = λ d p. current S U (len U) c d (current_first S T U c is first) p

pub leads_next : CursorsGoOn → (S : List Entry) (U V : Run) (s : Step) (c : Cursor) → MovedFrom (CursorAt S U (len U)) S U (len U) c → V ≡ appended U s → LeadsOn S V c
leads_next law S U V s c moved is = λ d p. current S V (len V) c d (current_next law S U V s c moved is) p

-- the run so far
pub prefix_next : (T U V : Run) (k : ℕ) (s : Step) → U ≡ prefix T k → V ≡ appended U s → step_at T k ≡ Some s → V ≡ prefix T (k + 1)
prefix_next T U V k s so_far is stands =
    let more : take (k + 1) T.steps ≡ take k T.steps ++ s ∷ [] = take_more T.steps k s (slice_get_within T.steps k s stands) ∙ ap (λ (x : Step). take k T.steps ++ x ∷ []) (get_or_from_slice_get T.steps k s s stands) in
    is ∙ ap (λ (W : Run). appended W s) so_far ∙ ap (run_of T.opening) (sym more)

pub prefix_whole : (T U : Run) (k : ℕ) → U ≡ prefix T k → k ≡ len T → U ≡ T
prefix_whole T U k is whole = is ∙ ap (run_of T.opening) (take_all k T.steps (omega (arith, whole)))
