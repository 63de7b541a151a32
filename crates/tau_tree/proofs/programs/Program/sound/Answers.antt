use Rattle.std.proofs.Common.{◌≢◌, ◌↔◌, IsTrue, map, sym, ◌∙◌}
use Rattle.std.specs.List.{All, AllPairs}
use Rattle.std.proofs.lemmas.Bool.{false≢true}
use Rattle.std.proofs.lemmas.Result.{IfOk-weaker}
use Rattle.tau_tree.specs.Sound.{Sound}
use Rattle.tau_tree.specs.Checks.{IsSoundBehaviour}
use Rattle.tau_tree.proofs.SoundLemmas.{AreOf, starts_from_sound, behaviours_from_sound, sound_from_answers}
use Rattle.tau_tree.proofs.programs.Program.sound.Goals as goal

pub returns-then-not-branch : goal.returns-then-not-branch
returns-then-not-branch c =
    let of : AreOf c.args.self.now c.len-2.result c.len.result c.items.result.now c.items-2.result.now c.items-3.result.now = record {
      starts_number = c.len-2.ensures;
      behaviours_number = c.len.ensures;
      posts_are = c.items.ensures;
      script_are = c.items-2.ensures;
      starts_are = c.items-3.ensures;
    } in (
      λ h. absurd (false≢true h),
      λ s. sym c.if-not-branch.true ∙ c.in_ok-are_sound_starts.ensures.1 (starts_from_sound _ _ _ _ _ _ of s),
    )

pub returns : goal.returns
returns c =
    let of : AreOf c.args.self.now c.len-2.result c.len.result c.items.result.now c.items-2.result.now c.items-3.result.now = record {
      starts_number = c.len-2.ensures;
      behaviours_number = c.len.ensures;
      posts_are = c.items.ensures;
      script_are = c.items-2.ensures;
      starts_are = c.items-3.ensures;
    } in
    let checked = All (IsSoundBehaviour c.len-2.result c.len.result) c.items-4.result.now × AllPairs (λ v w. v ≢ w) (map (λ b. b.name) c.items-4.result.now) in
    IfOk-weaker c.are_sound_behaviours.result (λ b. IsTrue b ↔ checked) (λ b. IsTrue b ↔ Sound c.args.self.now) (λ b h. (
      λ t. sound_from_answers _ _ _ _ _ _ of _ c.items-4.ensures (c.keeps_limits.ensures.0 c.if-not-keeps_limits.false) (c.are_sound_posts.ensures.0 c.if-not-are_sound_posts.false) (c.are_sound_entries.ensures.0 c.if-not-are_sound_entries.false) (c.in_ok-are_sound_starts.ensures.0 c.if-not-branch.false) (h.0 t),
      λ s. h.1 (behaviours_from_sound _ _ _ _ _ _ of _ c.items-4.ensures s),
    )) c.are_sound_behaviours.ensures
