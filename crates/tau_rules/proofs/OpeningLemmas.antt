-- What a system keeps when it opens.
use Rattle.std.proofs.Common.{◌≡◌, ℕ, zero, suc, false, Some, List, [], ◌∷◌, length, refl, sym, ap, ◌∙◌, arith}
use Rattle.std.specs.Prelude.{slice_get, map}
use Rattle.std.specs.Option.{option_map_or}
use Rattle.tau_value.specs.declared.shared.Value.{Value}
use Rattle.tau_value.specs.Value.{val_of}
use Rattle.tau_tree.specs.declared.starts.Start.{Start}
use Rattle.tau_tree.specs.declared.posts.Post.{Post}
use Rattle.tau_tree.specs.declared.programs.Program.{Program}
use Rattle.tau_tree.specs.Sound.{Sound}
use Rattle.tau_trace.specs.Steps.{is_new, makes_message}
use Rattle.tau_trace.specs.Run.{Run, step_at}
use Rattle.tau_trace.specs.Numbering.{born, sent}
use Rattle.tau_trace.specs.Known.{IsSound}
use Rattle.tau_trace.proofs.Counts.{count-zero}
use Rattle.tau_script.specs.Openings.{program_opening}
use Rattle.tau_states.specs.declared.state_record.StateRecord.{StateRecord}
use Rattle.tau_states.specs.Opening.{opening_states}
use Rattle.tau_states.specs.Table.{Holds, opened_run}
use Rattle.tau_legal.specs.Turns.{start, HasValue, post}
use Rattle.tau_rules.specs.declared.records.Record.{Record}
use Rattle.tau_rules.specs.Records.{IsRecord, HasStarts, HasPosts}
use Rattle.tau_rules.specs.System.{IsSystem}

-- an item of a list whose images are those of another one has a counterpart there
counterpart : {A B C : Type 0} (f : A → C) (g : B → C) (xs : List A) (ys : List B) (k : ℕ) (x : A) → map f xs ≡ map g ys → slice_get xs k ≡ Some x → (y : B) × (slice_get ys k ≡ Some y) × (g y ≡ f x)
counterpart f g [] ys k x e at = absurd (cc)
counterpart f g (z ∷ zs) [] k x e at = absurd (cc)
counterpart f g (z ∷ zs) (y ∷ ys) zero x e at =
    let same : z ≡ x = cc in
    let heads : f z ≡ g y = cc in
    (y, refl, sym heads ∙ ap f same)
counterpart f g (z ∷ zs) (y ∷ ys) (suc k) x e at =
    let tails : map f zs ≡ map g ys = cc in
    counterpart f g zs ys k x tails at

-- a list of images is as long as the list
pub length-map : {A B : Type 0} (f : A → B) (xs : List A) → length (map f xs) ≡ length xs
length-map f [] = refl
length-map f (x ∷ xs) = ap suc (length-map f xs)

-- lists with the same images are of one length
same_lengths : {A B C : Type 0} (f : A → C) (g : B → C) (xs : List A) (ys : List B) → map f xs ≡ map g ys → length xs ≡ length ys
same_lengths f g xs ys e = sym (length-map f xs) ∙ ap length e ∙ length-map g ys

-- the run of a program before its first step
abbrev opened : Program → Run
opened P = opened_run (program_opening P)

-- a system opens
pub opens : (P : Program) (states : List StateRecord) (records : List Record) (values : List Value) → Sound P → IsSound (program_opening P) → Holds (opened P) (opening_states P.starts) states → HasStarts P.starts records → HasPosts P.posts values → IsSystem P (opened P) states records values
opens P states records values sound opening holds starts posts = record {
  sound = sound;
  well_formed = record { opening = opening; known = λ k s e. absurd (cc); versions = λ k s e. absurd (cc); few_steps = omega arith };
  fitting = record { opening = refl; steps = λ k s e. absurd (cc) };
  states_hold = holds;
  records_are = record {
    count = same_lengths (λ r. r.behaviour) (λ s. s.behaviour) records P.starts starts ∙ sym (born_first P);
    each = λ t r e. is_record t r (counterpart (λ r. r.behaviour) (λ s. s.behaviour) records P.starts t r starts e);
  };
  values_are = record {
    count = same_lengths val_of (λ q. val_of q.value) values P.posts posts ∙ sym (sent_first P);
    each = λ m v e. has_value m v (counterpart val_of (λ q. val_of q.value) values P.posts m v posts e);
  };
} where
  born_first : (P : Program) → born (opened P) 0 ≡ length P.starts
  born_first P = omega (arith, count-zero (λ j. option_map_or is_new (step_at (opened P) j) false), length-map (λ s. s.name) P.starts)

  sent_first : (P : Program) → sent (opened P) 0 ≡ length P.posts
  sent_first P = omega (arith, count-zero (λ j. option_map_or makes_message (step_at (opened P) j) false), length-map (λ q. q.to) P.posts)

  is_record : (t : ℕ) (r : Record) → (s : Start) × (slice_get P.starts t ≡ Some s) × (s.behaviour ≡ r.behaviour) → IsRecord P (opened P) t r
  is_record t r c = record { behaviour = start c.1 c.2; turn = λ place m u. absurd (omega (arith, u.before)) }

  has_value : (m : ℕ) (v : Value) → (q : Post) × (slice_get P.posts m ≡ Some q) × (val_of q.value ≡ val_of v) → HasValue P (opened P) m (val_of v)
  has_value m v c = post c.1 c.2
