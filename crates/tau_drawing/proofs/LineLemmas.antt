-- The lines of steps, as they are written.
use Rattle.std.proofs.Common.{◌≡◌, ◌↔◌, ℕ, suc, ◌<◌, Bool, true, List, [], ◌∷◌, Option, Some, None, refl, sym, ap, ◌∙◌, subst, arith}
use Rattle.std.specs.Prelude.{IsTrue, is_none, slice_get, option_and_then}
use Rattle.std.proofs.lemmas.Option.{slice_get_within}
use Rattle.tau_svg.specs.Markup.Lines.{Line, with_line}
use Rattle.tau_tree.specs.declared.programs.Program.{Program}
use Rattle.tau_script.specs.Openings.{program_opening}
use Rattle.tau_trace.specs.declared.step.Step.{Step}
use Rattle.tau_trace.specs.declared.step.Step.TheVariants.{Send, New, Repeat}
use Rattle.tau_value.specs.declared.shared.Value.{Value}
use Rattle.tau_trace.specs.Steps.{removed_by, makes_message}
use Rattle.tau_trace.specs.Run.{Run, len, step_at}
use Rattle.tau_trace.specs.Places.{IsFirst}
use Rattle.tau_trace.specs.Numbering.{sent, born, IsNew, Receives, IsReceiver, Removes, number_made}
use Rattle.tau_trace.specs.Stored.{IsMadeAt}
use Rattle.tau_trace.proofs.Lists.{same_some}
use Rattle.tau_trace.proofs.Agreement.{sent-grows}
use Rattle.tau_trace.proofs.Once.{maker-rises}
use Rattle.tau_svg.specs.declared.shapes.grid.Grid.{Grid}
use Rattle.tau_svg.specs.Shapes.Each.{Writes}
use Rattle.tau_svg.proofs.Writing.{nothing, these, told_as}
use Rattle.tau_layout.specs.Plans.{Plan, grid, row_y, HasX, IsX}
use Rattle.tau_layout.specs.Inner.Marking.{IsMarked, AreMarks}
use Rattle.tau_layout.specs.declared.paths.spots.Middle.{Middle}
use Rattle.tau_layout.specs.declared.paths.spots.Spot.{Spot}
use Rattle.tau_layout.specs.declared.paths.sources.Source.{Source}
use Rattle.tau_layout.specs.Paths.Senders.{met_by}
use Rattle.tau_layout.specs.Paths.Spots.{IsMiddle, IsSpot, IsSource}
use Rattle.tau_drawing.specs.declared.messages.bearers.Bearer.{Bearer}
use Rattle.tau_drawing.specs.Messages.Arrows.{receipt_line, sent_line, new_line}
use Rattle.tau_drawing.specs.Messages.Messages.{IsMet, IsReceiptLine, receipt_leads, receipt_nowhere, IsSentLine, sent_leads, sent_met, sent_nowhere, IsNewLine, new_leads, new_nowhere, IsLineTo, IsLineOf, IsMessageLine}
use Rattle.tau_drawing.specs.Messages.Inner.Bearers.{AreBearers, borne}
use Rattle.tau_drawing.proofs.BearerLemmas.{value_borne}

spot_of : (p : Spot) (x y : ℕ) → p.x ≡ x → p.y ≡ y → p ≡ record { x = x; y = y }
spot_of p x y a b = λ i. record { x = a i; y = b i }

-- the line to a step
pub receipt_written : (P : Program) (T : Run) (plan : Plan) (k m : ℕ) (s : Step) (mid : Middle) (b : Bearer) (bs : List Bearer) (source : Source) (g : Grid) (p : Spot) (out new : List ℕ)
    → T.opening ≡ program_opening P → AreBearers T (len T) bs → slice_get bs m ≡ Some b → IsMiddle T plan k (Some mid) → IsSource T plan m mid.who source → g ≡ grid plan → p.x ≡ mid.x → p.y ≡ row_y plan k
    → new ≡ with_line out (receipt_line T.opening.names g k s m mid.who (borne P T b) source p) → Writes (IsReceiptLine P T plan k s m) out new
receipt_written P T plan k m s mid b bs source g p out new o bearers at middle from is x y e =
    let line = receipt_line T.opening.names g k s m mid.who (borne P T b) source p in
    let at_spot : p ≡ record { x = mid.x; y = row_y plan k } = spot_of p mid.x (row_y plan k) x y in
    let lines : line ∷ [] ≡ receipt_line T.opening.names (grid plan) k s m mid.who (borne P T b) source (record { x = mid.x; y = row_y plan k }) ∷ [] = λ i. receipt_line T.opening.names (is i) k s m mid.who (borne P T b) source (at_spot i) ∷ [] in
    these (IsReceiptLine P T plan k s m) out new (line ∷ []) (receipt_leads source middle.0 middle.1 (value_borne P T o m b (bearers.each m b at)) from lines) e

pub receipt_none : (P : Program) (T : Run) (plan : Plan) (k m : ℕ) (s : Step) (out : List ℕ) → IsMiddle T plan k None → Writes (IsReceiptLine P T plan k s m) out out
receipt_none P T plan k m s out none = nothing (IsReceiptLine P T plan k s m) out (receipt_nowhere none refl)

pub sent_written : (P : Program) (T : Run) (plan : Plan) (k m t : ℕ) (s : Step) (b : Bearer) (bs : List Bearer) (marks : List Bool) (flies : Bool) (p : Spot) (out new : List ℕ)
    → T.opening ≡ program_opening P → AreBearers T (len T) bs → slice_get bs m ≡ Some b → AreMarks (IsMet T plan.window) (sent T (len T)) marks → m < sent T (len T) → ¬ IsMarked marks m → Receives T m t
    → (IsTrue flies ↔ ((j : ℕ) → ¬ Removes T m j)) → IsSpot T plan k p → new ≡ with_line out (sent_line T.opening.names k s m t (borne P T b) flies p) → Writes (IsSentLine P T plan k s m) out new
sent_written P T plan k m t s b bs marks flies p out new o bearers at a lt none r f spot e =
    these (IsSentLine P T plan k s m) out new (sent_line T.opening.names k s m t (borne P T b) flies p ∷ [])
    (sent_leads (λ h. none ((a.marked m).1 (h, lt))) r (value_borne P T o m b (bearers.each m b at)) f spot refl)
    e

-- the line of a New
pub new_written : (T : Run) (plan : Plan) (k t u x : ℕ) (p : Spot) (out new : List ℕ) → IsNew T k t u → HasX plan u x → IsSpot T plan k p → new ≡ with_line out (new_line T.opening.names k t u p x) → Writes (IsNewLine T plan k t) out new
new_written T plan k t u x p out new n h spot e = these (IsNewLine T plan k t) out new (new_line T.opening.names k t u p x ∷ []) (new_leads n h spot refl) e

pub new_none : (T : Run) (plan : Plan) (k t u : ℕ) (out : List ℕ) → IsNew T k t u → IsX plan u None → Writes (IsNewLine T plan k t) out out
new_none T plan k t u out n none = nothing (IsNewLine T plan k t) out (new_nowhere n none refl)

-- the line of a step by its kind
pub line_of_send : (P : Program) (T : Run) (plan : Plan) (k m t u : ℕ) (v : Value) (s : Step) (out new : List ℕ) → s ≡ Send t u v → step_at T k ≡ Some s → IsMadeAt T k m → Writes (IsSentLine P T plan k s m) out new → Writes (IsLineOf P T plan k s) out new
line_of_send P T plan k m t u v s out new e at made w =
    let number : m ≡ sent T k = made s at ∙ ap (λ x. number_made x (born T k) (sent T k)) e in
    told_as (IsSentLine P T plan k s m) (IsLineOf P T plan k s) out new
    (λ ls h. subst (λ (x : Step). IsLineOf P T plan k x ls) (sym e) (subst (λ (n : ℕ). IsSentLine P T plan k (Send t u v) n ls) number (subst (λ (x : Step). IsSentLine P T plan k x m ls) e h))) w

pub line_of_repeat : (P : Program) (T : Run) (plan : Plan) (k m n : ℕ) (s : Step) (out new : List ℕ) → s ≡ Repeat n → step_at T k ≡ Some s → IsMadeAt T k m → Writes (IsSentLine P T plan k s m) out new → Writes (IsLineOf P T plan k s) out new
line_of_repeat P T plan k m n s out new e at made w =
    let number : m ≡ sent T k = made s at ∙ ap (λ x. number_made x (born T k) (sent T k)) e in
    told_as (IsSentLine P T plan k s m) (IsLineOf P T plan k s) out new
    (λ ls h. subst (λ (x : Step). IsLineOf P T plan k x ls) (sym e) (subst (λ (i : ℕ). IsSentLine P T plan k (Repeat n) i ls) number (subst (λ (x : Step). IsSentLine P T plan k x m ls) e h))) w

pub line_of_new : (P : Program) (T : Run) (plan : Plan) (k t b n : ℕ) (v : Value) (s : Step) (out new : List ℕ) → s ≡ New t b n v → Writes (IsNewLine T plan k t) out new → Writes (IsLineOf P T plan k s) out new
line_of_new P T plan k t b n v s out new e w = told_as (IsNewLine T plan k t) (IsLineOf P T plan k s) out new (λ ls h. subst (λ (x : Step). IsLineOf P T plan k x ls) (sym e) h) w

-- the message that a Send or a Repeat makes exists
made_below : (T : Run) (k m : ℕ) (s : Step) → step_at T k ≡ Some s → makes_message s ≡ true → m ≡ sent T k → m < sent T (len T)
made_below T k m s e makes is = omega (arith, is, maker-rises T k (sent T k) (record { step = s; stands = e; makes = makes; made = refl }), sent-grows T (suc k) (len T) (omega (arith, slice_get_within T.steps k s e)))

pub send_below : (T : Run) (k m t u : ℕ) (v : Value) (s : Step) → s ≡ Send t u v → step_at T k ≡ Some s → IsMadeAt T k m → m < sent T (len T)
send_below T k m t u v s e at made = made_below T k m s at (ap makes_message e) (made s at ∙ ap (λ x. number_made x (born T k) (sent T k)) e)

pub repeat_below : (T : Run) (k m n : ℕ) (s : Step) → s ≡ Repeat n → step_at T k ≡ Some s → IsMadeAt T k m → m < sent T (len T)
repeat_below T k m n s e at made = made_below T k m s at (ap makes_message e) (made s at ∙ ap (λ x. number_made x (born T k) (sent T k)) e)

-- and the New of a step
pub new_made : (T : Run) (k u t b n : ℕ) (v : Value) (s : Step) → s ≡ New t b n v → step_at T k ≡ Some s → IsMadeAt T k u → IsNew T k t u
new_made T k u t b n v s e at made = record { behaviour = b; node = n; state = v; stands = at ∙ ap Some e; made = made s at ∙ ap (λ x. number_made x (born T k) (sent T k)) e }
