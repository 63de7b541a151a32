-- Seeds that follow one another, and how they are dealt out.
use Rattle.std.proofs.Common.{◌≡◌, ℕ, suc, ◌+◌, ◌*◌, ◌/◌, ◌%◌, ◌^◌, ◌<◌, ◌≤◌, List, [], ◌∷◌, ◌++◌, length, append-nil, append_assoc, sym, ap, ◌∙◌, subst, arith, Result, Ok, IfOk}
use Rattle.std.specs.Prelude.{slice_index_or}
use Rattle.std.specs.declared.alloc.AllocError.{AllocError}
use Rattle.std.proofs.lemmas.Result.{IfOk-at_ok}
use Rattle.std.proofs.lemmas.Nat.{mul-le, le-div, div-mul-add}
use Rattle.std.proofs.Math.Nat.{mod-add-mod, div-mul-le_self}
use Rattle.tau_tree.specs.declared.programs.Program.{Program}
use Rattle.tau_faults.specs.declared.setting.Setting.{Setting}
use Rattle.tau_faults.specs.Ends.{End, AreEnds}
use Rattle.tau_storm.specs.declared.dealing.Deal.{Deal}
use Rattle.tau_storm.specs.Seeds.{seed_from, AreEndsOfSeeds, none, more}
use Rattle.tau_storm.specs.Inner.Telling.{TellsSeeds}
use Rattle.tau_storm.specs.Inner.Dealing.{seeds_before, first_seed, seed_count, TellsPart}

-- numbers of seeds add
seed_later : (seed n m : ℕ) → seed_from (seed_from seed n) m ≡ seed_from seed (n + m)
seed_later seed n m =
    let same : seed + n + m ≡ seed + (n + m) = omega arith in
    mod-add-mod (seed + n) (2 ^ 64) m ∙ ap (λ (k : ℕ). k % (2 ^ 64)) same

-- the ends of seeds, and of those that follow on them
pub seeds_append : (S : Setting) (O : Program) (seed n m : ℕ) (before behind : List End) → AreEndsOfSeeds S O seed n before → AreEndsOfSeeds S O (seed_from seed n) m behind → AreEndsOfSeeds S O seed (n + m) (before ++ behind)
seeds_append S O seed n m before behind a none =
    let whole : AreEndsOfSeeds S O seed n (before ++ []) = subst (AreEndsOfSeeds S O seed n) (sym (append-nil before)) a in
    subst (λ (k : ℕ). AreEndsOfSeeds S O seed k (before ++ [])) (omega arith) whole
seeds_append S O seed n m before behind a (more {n = k} {before = xs} {ends = ys} b are) =
    let here : AreEnds S (seed_from seed (n + k)) O ys = subst (λ (j : ℕ). AreEnds S j O ys) (seed_later seed n k) are in
    let all : AreEndsOfSeeds S O seed (suc (n + k)) ((before ++ xs) ++ ys) = more (seeds_append S O seed n k before xs a b) here in
    let there : AreEndsOfSeeds S O seed (suc (n + k)) (before ++ (xs ++ ys)) = subst (AreEndsOfSeeds S O seed (suc (n + k))) (append_assoc before xs ys) all in
    subst (λ (j : ℕ). AreEndsOfSeeds S O seed j (before ++ (xs ++ ys))) (omega arith) there

-- what is told of the ends of a worker's seeds, by a program that is the same
pub part_told : {V : Type 0} (Tells : List End → V → Type 0) (S : Setting) (O P : Program) (d : Deal) (worker first count : ℕ) (v : V) → P ≡ O → first ≡ first_seed d worker → count ≡ seed_count d worker → TellsSeeds Tells S P first count v → TellsPart Tells S O d worker v
part_told Tells S O P d worker first count v same first_is count_is told =
    let there : TellsSeeds Tells S O first count v = subst (λ (Q : Program). TellsSeeds Tells S Q first count v) same told in
    let here : TellsSeeds Tells S O (first_seed d worker) count v = subst (λ (n : ℕ). TellsSeeds Tells S O n count v) first_is there in
    subst (λ (n : ℕ). TellsSeeds Tells S O (first_seed d worker) n v) count_is here

-- none are dealt out before the first worker, and all before the one behind the last
pub before_first : (d : Deal) → 1 ≤ d.workers → seeds_before d 0 ≡ 0
before_first d some =
    let same : d.seeds * 0 ≡ 0 * d.workers + 0 = omega arith in
    ap (λ (n : ℕ). n / d.workers) same ∙ div-mul-add 0 d.workers 0 (omega arith)

pub before_end : (d : Deal) → 1 ≤ d.workers → seeds_before d d.workers ≡ d.seeds
before_end d some =
    let same : d.seeds * d.workers ≡ d.seeds * d.workers + 0 = omega arith in
    ap (λ (n : ℕ). n / d.workers) same ∙ div-mul-add d.seeds d.workers 0 (omega arith)

pub before_grows : (d : Deal) (a b : ℕ) → 1 ≤ d.workers → a ≤ b → seeds_before d a ≤ seeds_before d b
before_grows d a b some le =
    let low : d.seeds * a / d.workers * d.workers ≤ d.seeds * a = div-mul-le_self (d.seeds * a) d.workers in
    let high : d.seeds * a ≤ d.seeds * b = mul-le d.seeds a d.seeds b (omega arith) le in
    le-div (d.seeds * a / d.workers) (d.seeds * b) d.workers (omega arith) (omega (arith, low, high))

-- the results are those of the workers from this one on
abbrev pub AreParts : {W : Type 0} → (ℕ → W → Type 0) → ℕ → List (Result W AllocError) → Type 0
AreParts P worker [] = Unit {0}
AreParts P worker (r ∷ rs) = IfOk r (P worker) × AreParts P (worker + 1) rs

pub parts_from : {W : Type 0} (P : ℕ → W → Type 0) (worker : ℕ) (rs : List (Result W AllocError)) → ((k : ℕ) (d : Result W AllocError) → k < length rs → IfOk (slice_index_or rs k d) (P (worker + k))) → AreParts P worker rs
parts_from P worker [] each = tt
parts_from {W} P worker (r ∷ rs) each = (
  subst (λ (n : ℕ). IfOk r (P n)) (omega arith) (each 0 r (omega arith)),
  parts_from P (worker + 1) rs (λ k d lt. subst (λ (n : ℕ). IfOk (slice_index_or rs k d) (P n)) (omega arith) (each (suc k) d (omega (arith, lt)))),
)

-- the parts so far are told together, and those are left
pub record IsDealt {V W : Type 0} (Tells : List End → V → Type 0) (Says : List End → W → Type 0) (S : Setting) (O : Program) (d : Deal) (rest : List (Result W AllocError)) (v : V) : Type 0 where
  pub worker : ℕ
  pub left : worker + length rest ≡ d.workers
  pub parts : AreParts (TellsPart Says S O d) worker rest
  pub told : TellsSeeds Tells S O d.seed (seeds_before d worker) v

module _ {V W : Type 0} (Tells : List End → V → Type 0) (Says : List End → W → Type 0) (S : Setting) (O : Program) (d : Deal) (some : 1 ≤ d.workers) where
  pub dealt_first : (rs : List (Result W AllocError)) (v : V) → length rs ≡ d.workers → ((k : ℕ) (r : Result W AllocError) → k < d.workers → IfOk (slice_index_or rs k r) (TellsPart Says S O d k)) → Tells [] v → IsDealt Tells Says S O d rs v
  dealt_first rs v long each is = record {
    worker = 0;
    left = omega (arith, long);
    parts = parts_from (TellsPart Says S O d) 0 rs (λ k r lt. subst (λ (n : ℕ). IfOk (slice_index_or rs k r) (TellsPart Says S O d n)) (omega arith) (each k r (omega (arith, lt, long))));
    told = record { ends = []; are = subst (λ (n : ℕ). AreEndsOfSeeds S O d.seed n []) (sym (before_first d some)) none; tells = is };
  }

  -- one part more is told
  pub dealt_next : (all rest : List (Result W AllocError)) (part : Result W AllocError) (w : W) (old new : V) → all ≡ part ∷ rest → part ≡ Ok w → ((ends more : List End) → Tells ends old → Says more w → Tells (ends ++ more) new) → IsDealt Tells Says S O d all old → IsDealt Tells Says S O d rest new
  dealt_next all rest part w old new is ok joins dealt =
      let n = dealt.worker in
      let parts : AreParts (TellsPart Says S O d) n (part ∷ rest) = subst (AreParts (TellsPart Says S O d) n) is dealt.parts in
      let here : TellsPart Says S O d n w = IfOk-at_ok (TellsPart Says S O d n) ok parts.0 in
      let long : length all ≡ suc (length rest) = ap length is in
      let grows : seeds_before d n ≤ seeds_before d (n + 1) = before_grows d n (n + 1) some (omega arith) in
      let sum : seeds_before d n + seed_count d n ≡ seeds_before d (n + 1) = omega (arith, grows) in
      record {
        worker = n + 1;
        left = omega (arith, dealt.left, long);
        parts = parts.1;
        told = record {
          ends = dealt.told.ends ++ here.ends;
          are = subst (λ (k : ℕ). AreEndsOfSeeds S O d.seed k (dealt.told.ends ++ here.ends)) sum (seeds_append S O d.seed (seeds_before d n) (seed_count d n) dealt.told.ends here.ends dealt.told.are here.are);
          tells = joins dealt.told.ends here.ends dealt.told.tells here.tells;
        };
      }

  -- once all are, what is told is that of all seeds
  pub dealt_all : (rest : List (Result W AllocError)) (v : V) → length rest ≡ 0 → IsDealt Tells Says S O d rest v → TellsSeeds Tells S O d.seed d.seeds v
  dealt_all rest v none_left dealt =
      let last : dealt.worker ≡ d.workers = omega (arith, dealt.left, none_left) in
      subst (λ (n : ℕ). TellsSeeds Tells S O d.seed n v) (ap (seeds_before d) last ∙ before_end d some) dealt.told
