-- Forms mean one program at most.
use Rattle.std.proofs.Common.{◌≡◌, List, [], ◌∷◌, map, refl, sym, ap, ap₂, ◌∙◌}
use Rattle.tau_sexpr.specs.Tree.{Tree}
use Rattle.tau_value.proofs.ValueLemmas.{val_of_inj}
use Rattle.tau_tree.specs.declared.posts.Post.{Post}
use Rattle.tau_tree.specs.declared.programs.Program.{Program}
use Rattle.tau_tree.specs.declared.starts.Start.{Start}
use Rattle.tau_forms.specs.Meaning.{PlainStart, PlainPost, PlainProgram, plain_start, plain_post, plain_of, Means}

head_same : {X : Type 0} (x y : X) (xs ys : List X) → x ∷ xs ≡ y ∷ ys → x ≡ y
head_same x y xs ys e = cc

tail_same : {X : Type 0} (x y : X) (xs ys : List X) → x ∷ xs ≡ y ∷ ys → xs ≡ ys
tail_same x y xs ys e = cc

map_inj : {X Y : Type 0} (f : X → Y) → ((x y : X) → f x ≡ f y → x ≡ y) → (xs ys : List X) → map f xs ≡ map f ys → xs ≡ ys
map_inj f inj [] [] e = refl
map_inj f inj [] (y ∷ ys) e = cc
map_inj f inj (x ∷ xs) [] e = cc
map_inj f inj (x ∷ xs) (y ∷ ys) e =
    ap₂ (λ z zs. z ∷ zs) (inj x y (head_same (f x) (f y) (map f xs) (map f ys) e)) (map_inj f inj xs ys (tail_same (f x) (f y) (map f xs) (map f ys) e))

start_inj : (s t : Start) → plain_start s ≡ plain_start t → s ≡ t
start_inj s t e =
    let name : s.name ≡ t.name = ap (λ (x : PlainStart). x.name) e in
    let behaviour : s.behaviour ≡ t.behaviour = ap (λ (x : PlainStart). x.behaviour) e in
    let node : s.node ≡ t.node = ap (λ (x : PlainStart). x.node) e in
    let state : s.state ≡ t.state = val_of_inj s.state t.state (ap (λ (x : PlainStart). x.state) e) in
    λ i. record { name = name i; behaviour = behaviour i; node = node i; state = state i }

post_inj : (q r : Post) → plain_post q ≡ plain_post r → q ≡ r
post_inj q r e =
    let to : q.to ≡ r.to = ap (λ (x : PlainPost). x.to) e in
    let value : q.value ≡ r.value = val_of_inj q.value r.value (ap (λ (x : PlainPost). x.value) e) in
    λ i. record { to = to i; value = value i }

program_inj : (p q : Program) → plain_of p ≡ plain_of q → p ≡ q
program_inj p q e =
    let version : p.version ≡ q.version = ap (λ (x : PlainProgram). x.version) e in
    let nodes : p.nodes ≡ q.nodes = ap (λ (x : PlainProgram). x.nodes) e in
    let behaviours : p.behaviours ≡ q.behaviours = ap (λ (x : PlainProgram). x.behaviours) e in
    let starts : p.starts ≡ q.starts = map_inj plain_start start_inj p.starts q.starts (ap (λ (x : PlainProgram). x.starts) e) in
    let posts : p.posts ≡ q.posts = map_inj plain_post post_inj p.posts q.posts (ap (λ (x : PlainProgram). x.posts) e) in
    let script : p.script ≡ q.script = ap (λ (x : PlainProgram). x.script) e in
    λ i. record { version = version i; nodes = nodes i; behaviours = behaviours i; starts = starts i; posts = posts i; script = script i }

pub one_program : (ts : List Tree) (p q : Program) → Means ts p → Means ts q → p ≡ q
one_program ts p q mp mq = program_inj p q (mp.is ∙ sym mq.is)
