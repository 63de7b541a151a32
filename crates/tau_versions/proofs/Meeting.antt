-- What a search has met and what is left of it.
use Rattle.std.proofs.Common.{◌≡◌, ◌≢◌, ◌⊎◌, ◌↔◌, inl, inr, ⊎_elim, ℕ, zero, suc, ◌+◌, ◌<◌, Bool, true, false, IsTrue, List, [], ◌∷◌, ◌++◌, length, take, get_or, set, replicate, Some, refl, sym, ap, ◌∙◌, subst, arith, length-set, length-append}
use Rattle.std.specs.Prelude.{slice_get, Contains, IsFalse}
use Rattle.std.specs.Bool.{OnTrue, OnFalse}
use Rattle.std.proofs.lemmas.Bool.{cases_eq}
use Rattle.std.proofs.lemmas.List.{length-replicate, take_more}
use Rattle.std.proofs.lemmas.List.Elements.{Contains-append_left, Contains-push, Contains-push_cases}
use Rattle.tau_history.specs.declared.fate.Fate.{Fate}
use Rattle.tau_points.specs.declared.point.Point.{Point}
use Rattle.tau_points.specs.Reach.{start, next}
use Rattle.tau_points.proofs.Membership.{Contains-none}
use Rattle.tau_points.proofs.Reach.{least}
use Rattle.tau_past.specs.Pasts.{Is}
use Rattle.tau_versions.specs.Logs.Told.{Told}
use Rattle.tau_versions.specs.Search.Searching.{fate_of, takes_of, goes_on, Leads, Found, Finds, IsPassed, FoundNone}
use Rattle.tau_versions.specs.Search.Walks.{Meets, known, fresh, unmet, HasWanted, IsOpenIn, Comes}

-- Lists of those met.

pub set_here : (xs : List Bool) (u : ℕ) (b c : Bool) → slice_get xs u ≡ Some b → slice_get (set xs u c) u ≡ Some c
set_here [] u b c e = cc
set_here (x ∷ xs) zero b c e = refl
set_here (x ∷ xs) (suc u) b c e = set_here xs u b c e

pub set_other : (xs : List Bool) (u v : ℕ) (c : Bool) → v ≢ u → slice_get (set xs u c) v ≡ slice_get xs v
set_other [] u v c n = refl
set_other (x ∷ xs) zero zero c n = absurd (n refl)
set_other (x ∷ xs) zero (suc v) c n = refl
set_other (x ∷ xs) (suc u) zero c n = refl
set_other (x ∷ xs) (suc u) (suc v) c n = set_other xs u v c (λ e. n (ap suc e))

-- whoever is met is no longer unmet
unmet_fewer : (xs : List Bool) (u : ℕ) → slice_get xs u ≡ Some false → unmet (set xs u true) + 1 ≡ unmet xs
unmet_fewer [] u e = cc
unmet_fewer (true ∷ xs) zero e = cc
unmet_fewer (false ∷ xs) zero e = refl
unmet_fewer (true ∷ xs) (suc u) e = unmet_fewer xs u e
unmet_fewer (false ∷ xs) (suc u) e = ap (λ k. k + 1) (unmet_fewer xs u e)

-- those met before are met after a set, and the other way round but for the one that is set
set_keeps : (xs : List Bool) (u v : ℕ) → slice_get xs u ≡ Some false → slice_get xs v ≡ Some true → slice_get (set xs u true) v ≡ Some true
set_keeps xs u v e f = ⊎_elim (λ s. subst (λ w. slice_get (set xs u true) w ≡ Some true) (sym s) (set_here xs u false true e)) (λ n. set_other xs u v true n ∙ f) (cases_eq v u)

set_back : (xs : List Bool) (u v : ℕ) → slice_get (set xs u true) v ≡ Some true → (v ≡ u) ⊎ (slice_get xs v ≡ Some true)
set_back xs u v e = ⊎_elim (λ s. inl s) (λ n. inr (sym (set_other xs u v true n) ∙ e)) (cases_eq v u)

module _ (wanted : Fate → Bool) (logs : List Told) (numbers : ℕ → ℕ) where
  -- what is passed stays so where more is met
  pub passed_on : (met0 met : List Bool) (q : Point) → ((u : ℕ) → slice_get met0 u ≡ Some true → slice_get met u ≡ Some true) → IsPassed wanted logs numbers met0 q → IsPassed wanted logs numbers met q
  passed_on met0 met q kept p = record { not_wanted = p.not_wanted; met_too = λ g. kept q.who (p.met_too g) }

  -- one point

  pub comes_past : (p : Point) (met : List Bool) (left : List ℕ) → IsFalse (wanted (fate_of logs numbers p)) → IsFalse (goes_on (fate_of logs numbers p)) → Comes wanted logs numbers (Is p) met met left left
  comes_past p met left not_wanted stops = record {
    count = refl;
    kept = λ u e. e;
    fresh_left = λ u e. inl e;
    left_kept = λ u c. c;
    left_open = λ u c. inl c;
    passed = λ q e. subst (IsPassed wanted logs numbers met) (sym e) (record { not_wanted = not_wanted; met_too = λ g. absurd (let clash = sym g ∙ stops in cc) });
    fewer = omega arith;
  }

  pub comes_met : (p : Point) (met0 met : List Bool) (left0 left : List ℕ) → IsFalse (wanted (fate_of logs numbers p)) → IsTrue (goes_on (fate_of logs numbers p)) → Meets p.who met0 met left0 left → Comes wanted logs numbers (Is p) met0 met left0 left
  comes_met p met0 met left0 left not_wanted goes (known e f g) =
      let F : List Bool → Type 0 = λ ms. Comes wanted logs numbers (Is p) met0 ms left0 left in
      let G : List ℕ → Type 0 = λ ls. Comes wanted logs numbers (Is p) met0 met0 left0 ls in
      subst F (sym f) (subst G (sym g) (record {
        count = refl;
        kept = λ u h. h;
        fresh_left = λ u h. inl h;
        left_kept = λ u c. c;
        left_open = λ u c. inl c;
        passed = λ q s. subst (IsPassed wanted logs numbers met0) (sym s) (record { not_wanted = not_wanted; met_too = λ h. e });
        fewer = omega arith;
      }))
  comes_met p met0 met left0 left not_wanted goes (fresh e f g) =
      let F : List Bool → Type 0 = λ ms. Comes wanted logs numbers (Is p) met0 ms left0 left in
      let G : List ℕ → Type 0 = λ ls. Comes wanted logs numbers (Is p) met0 (set met0 p.who true) left0 ls in
      subst F (sym f) (subst G (sym g) (record {
        count = length-set met0 p.who true;
        kept = λ u h. set_keeps met0 p.who u e h;
        fresh_left = λ u h. ⊎_elim (λ (s : u ≡ p.who). inr (subst (Contains (left0 ++ p.who ∷ [])) (sym s) (Contains-push left0 p.who))) (λ i. inl i) (set_back met0 p.who u h);
        left_kept = λ u c. Contains-append_left left0 (p.who ∷ []) u c;
        left_open = λ u c. ⊎_elim (λ h. inl h) (λ (s : p.who ≡ u). inr (record { point = p; in_set = refl; goes = goes; by = s })) (Contains-push_cases left0 p.who u c);
        passed = λ q s. subst (IsPassed wanted logs numbers (set met0 p.who true)) (sym s) (record { not_wanted = not_wanted; met_too = λ h. set_here met0 p.who false true e });
        fewer = omega (arith, unmet_fewer met0 p.who e, length-append left0 (p.who ∷ []));
      }))

  -- several points

  pub comes_none : (P : Point → Type 0) (met : List Bool) (left : List ℕ) → ((q : Point) → ¬ P q) → Comes wanted logs numbers P met met left left
  comes_none P met left none = record {
    count = refl;
    kept = λ u e. e;
    fresh_left = λ u e. inl e;
    left_kept = λ u c. c;
    left_open = λ u c. inl c;
    passed = λ q h. absurd (none q h);
    fewer = omega arith;
  }

  open_on : (P R : Point → Type 0) (u : ℕ) → ((q : Point) → P q → R q) → IsOpenIn logs numbers P u → IsOpenIn logs numbers R u
  open_on P R u more o = record { point = o.point; in_set = more o.point o.in_set; goes = o.goes; by = o.by }

  pub comes_join : (P Q R : Point → Type 0) (met0 met1 met2 : List Bool) (left0 left1 left2 : List ℕ) → ((q : Point) → R q ↔ (P q ⊎ Q q)) → Comes wanted logs numbers P met0 met1 left0 left1 → Comes wanted logs numbers Q met1 met2 left1 left2 → Comes wanted logs numbers R met0 met2 left0 left2
  comes_join P Q R met0 met1 met2 left0 left1 left2 both a b = record {
    count = b.count ∙ a.count;
    kept = λ u e. b.kept u (a.kept u e);
    fresh_left = λ u e. ⊎_elim (λ h. ⊎_elim (λ i. inl i) (λ c. inr (b.left_kept u c)) (a.fresh_left u h)) (λ c. inr c) (b.fresh_left u e);
    left_kept = λ u c. b.left_kept u (a.left_kept u c);
    left_open = λ u c. ⊎_elim
        (λ h. ⊎_elim (λ i. inl i) (λ o. inr (open_on P R u (λ q p. (both q).1 (inl p)) o)) (a.left_open u h))
        (λ o. inr (open_on Q R u (λ q p. (both q).1 (inr p)) o)) (b.left_open u c);
    passed = λ q h. ⊎_elim (λ p. passed_on met1 met2 q b.kept (a.passed q p)) (λ p. b.passed q p) ((both q).0 h);
    fewer = omega (arith, a.fewer, b.fewer);
  }

  -- the first k points, and the next one
  pub comes_next : (points : List Point) (k : ℕ) (d : Point) (met0 met1 met2 : List Bool) (left0 left1 left2 : List ℕ) → k < length points
      → Comes wanted logs numbers (Contains (take k points)) met0 met1 left0 left1 → Comes wanted logs numbers (Is (get_or points k d)) met1 met2 left1 left2
      → Comes wanted logs numbers (Contains (take (k + 1) points)) met0 met2 left0 left2
  comes_next points k d met0 met1 met2 left0 left1 left2 lt = comes_join (Contains (take k points)) (Is (get_or points k d)) (Contains (take (k + 1) points)) met0 met1 met2 left0 left1 left2 both where
    p : Point
    p = get_or points k d

    grown : take (k + 1) points ≡ take k points ++ p ∷ []
    grown = take_more points k d lt

    both : (q : Point) → Contains (take (k + 1) points) q ↔ (Contains (take k points) q ⊎ (q ≡ get_or points k d))
    both q = (
      λ c. ⊎_elim (λ h. inl h) (λ (e : p ≡ q). inr (sym e)) (Contains-push_cases (take k points) p q (subst (λ (xs : List Point). Contains xs q) grown c)),
      λ c. subst (λ (xs : List Point). Contains xs q) (sym grown) (⊎_elim (λ h. Contains-append_left (take k points) (p ∷ []) q h) (λ (e : q ≡ p). subst (Contains (take k points ++ p ∷ [])) (sym e) (Contains-push (take k points) p)) c),
    )

  -- the whole search

  -- what it keeps: the points from which it began are passed, those left are found, and what follows from the others is passed
  pub record Walks (from : List Point) (met : List Bool) (left : List ℕ) : Type 0 where
    pub count : length met ≡ length logs
    pub begun : (q : Point) → Contains from q → IsPassed wanted logs numbers met q
    pub left_found : (u : ℕ) → Contains left u → IsOpenIn logs numbers (Found logs numbers (Contains from)) u
    pub passed : (u : ℕ) (q : Point) → slice_get met u ≡ Some true → Contains (takes_of logs numbers u) q → IsPassed wanted logs numbers met q ⊎ Contains left u

module _ (wanted : Fate → Bool) (logs : List Told) (numbers : ℕ → ℕ) (from : List Point) where
  -- what a point that was left has taken is found
  follows : (u : ℕ) (q : Point) → IsOpenIn logs numbers (Found logs numbers (Contains from)) u → Contains (takes_of logs numbers u) q → Found logs numbers (Contains from) q
  follows u q o c = next o.in_set (record { goes = o.goes; taken = subst (λ w. Contains (takes_of logs numbers w) q) (sym o.by) c })

  pub walks_start : (met0 met : List Bool) (left0 left : List ℕ) → left0 ≡ [] → FoundNone wanted logs numbers met0 → Comes wanted logs numbers (Contains from) met0 met left0 left → Walks wanted logs numbers from met left
  walks_start met0 met left0 left none f c = record {
    count = c.count ∙ f.count;
    begun = λ q h. c.passed q h;
    left_found = λ u h. ⊎_elim
        (λ i. absurd (Contains-none u (subst (λ (ls : List ℕ). Contains ls u) none i)))
        (λ o. record { point = o.point; in_set = start o.in_set; goes = o.goes; by = o.by }) (c.left_open u h);
    passed = λ u q e t. ⊎_elim (λ h. inl (passed_on wanted logs numbers met0 met q c.kept (f.passed u q h t))) (λ h. inr h) (c.fresh_left u e);
  }

  module _ (met1 met2 : List Bool) (left0 left1 left2 : List ℕ) (u : ℕ) (popped : left0 ≡ left1 ++ u ∷ []) (w : Walks wanted logs numbers from met1 left0) where
    -- u comes off what is left
    off : (v : ℕ) → Contains left0 v → Contains left1 v ⊎ (u ≡ v)
    off v c = Contains-push_cases left1 u v (subst (λ (ls : List ℕ). Contains ls v) popped c)

    on : (v : ℕ) → Contains left1 v → Contains left0 v
    on v c = subst (λ (ls : List ℕ). Contains ls v) (sym popped) (Contains-append_left left1 (u ∷ []) v c)

    popped_found : IsOpenIn logs numbers (Found logs numbers (Contains from)) u
    popped_found = w.left_found u (subst (λ (ls : List ℕ). Contains ls u) (sym popped) (Contains-push left1 u))

    came_on : Comes wanted logs numbers (Contains (takes_of logs numbers u)) met1 met2 left1 left2 → Walks wanted logs numbers from met2 left2
    came_on c = record {
      count = c.count ∙ w.count;
      begun = λ q h. passed_on wanted logs numbers met1 met2 q c.kept (w.begun q h);
      left_found = λ v h. ⊎_elim
          (λ i. w.left_found v (on v i))
          (λ o. record { point = o.point; in_set = follows u o.point popped_found o.in_set; goes = o.goes; by = o.by }) (c.left_open v h);
      passed = λ v q e t. ⊎_elim
          (λ h. ⊎_elim
          (λ p. inl (passed_on wanted logs numbers met1 met2 q c.kept p))
          (λ l. ⊎_elim (λ i. inr (c.left_kept v i)) (λ (s : u ≡ v). inl (c.passed q (subst (λ z. Contains (takes_of logs numbers z) q) (sym s) t))) (off v l))
          (w.passed v q h t))
          (λ l. inr l) (c.fresh_left v e);
    }

    pub walks_on : (takes : List Point) → takes ≡ takes_of logs numbers u → Comes wanted logs numbers (Contains takes) met1 met2 left1 left2 → Walks wanted logs numbers from met2 left2
    walks_on takes is c = let F : List Point → Type 0 = λ ts. Comes wanted logs numbers (Contains ts) met1 met2 left1 left2 in came_on (subst F is c)

    pub walks_finds : (takes : List Point) → takes ≡ takes_of logs numbers u → HasWanted wanted logs numbers (Contains takes) → Finds wanted logs numbers (Contains from)
    walks_finds takes is h = record { point = h.point; found = follows u h.point popped_found (subst (λ (ts : List Point). Contains ts h.point) is h.in_set); is = h.is }

  pub begins_finds : HasWanted wanted logs numbers (Contains from) → Finds wanted logs numbers (Contains from)
  begins_finds h = record { point = h.point; found = start h.in_set; is = h.is }

  pub walks_end : (met : List Bool) (left : List ℕ) → left ≡ [] → Walks wanted logs numbers from met left → FoundNone wanted logs numbers met
  walks_end met left none w = record {
    count = w.count;
    passed = λ u q e t. ⊎_elim (λ p. p) (λ c. absurd (Contains-none u (subst (λ (ls : List ℕ). Contains ls u) none c))) (w.passed u q e t);
  }

  pub nothing_found : (met : List Bool) (left : List ℕ) → left ≡ [] → Walks wanted logs numbers from met left → ¬ Finds wanted logs numbers (Contains from)
  nothing_found met left none w f = let clash = sym f.is ∙ (all f.point f.found).not_wanted in cc where
    ended : FoundNone wanted logs numbers met
    ended = walks_end met left none w

    all : (q : Point) → Found logs numbers (Contains from) q → IsPassed wanted logs numbers met q
    all = least (Leads logs numbers) (Contains from) (IsPassed wanted logs numbers met) (record { starts = λ q c. w.begun q c; follows = λ p q h l. ended.passed p.who q (h.met_too l.goes) l.taken })

-- nobody was met
pub none_met : (wanted : Fate → Bool) (logs : List Told) (numbers : ℕ → ℕ) (met : List Bool) (n : ℕ) → met ≡ replicate n false → n ≡ length logs → FoundNone wanted logs numbers met
none_met wanted logs numbers met n is count = record {
  count = ap length is ∙ length-replicate n false ∙ count;
  passed = λ u q e t. absurd (never n u (sym (ap (λ ms. slice_get ms u) is) ∙ e));
} where
  never : (k u : ℕ) → slice_get (replicate k false) u ≡ Some true → ⊥
  never zero u e = cc
  never (suc k) zero e = cc
  never (suc k) (suc u) e = never k u e

-- Clauses for one answer.

pub when_true : (b : Bool) (P : Type 0) → b ≡ true → OnTrue b P → P
when_true true P e h = h
when_true false P e h = cc

pub when_false : (b : Bool) (P : Type 0) → b ≡ false → OnFalse b P → P
when_false true P e h = cc
when_false false P e h = h
