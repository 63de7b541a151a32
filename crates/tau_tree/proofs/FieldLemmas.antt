-- Equality of starts and posts, by their fields.
use Rattle.std.proofs.Common.{◌≡◌, ◌↔◌, Bool, IsTrue, ap}
use Rattle.tau_value.specs.Value.{val_of}
use Rattle.tau_value.proofs.ValueLemmas.{val_of_inj}
use Rattle.tau_tree.specs.declared.starts.Start.{Start}
use Rattle.tau_tree.specs.declared.posts.Post.{Post}

pub same_posts : (p q : Post) (b : Bool) → p.to ≡ q.to → (IsTrue b ↔ (val_of p.value ≡ val_of q.value)) → IsTrue b ↔ (p ≡ q)
same_posts p q b to value = (
  λ h. let values = val_of_inj p.value q.value (value.0 h) in λ i. record { to = to i; value = values i },
  λ h. value.1 (ap (λ r. val_of r.value) h),
)

pub same_starts : (s t : Start) (b : Bool) → s.name ≡ t.name → s.behaviour ≡ t.behaviour → s.node ≡ t.node → (IsTrue b ↔ (val_of s.state ≡ val_of t.state)) → IsTrue b ↔ (s ≡ t)
same_starts s t b name behaviour node state = (
  λ h. let states = val_of_inj s.state t.state (state.0 h) in
      λ i. record { name = name i; behaviour = behaviour i; node = node i; state = states i },
  λ h. state.1 (ap (λ r. val_of r.state) h),
)
