-- To which point a point goes on, and by which step.
use Rattle.std.proofs.Common.{◌≡◌, ◌⊎◌, ◌↔◌, inl, inr, ⊎_elim, ℕ, suc, ◌<◌, ◌≤◌, Bool, List, [], ◌∷◌, ◌++◌, Option, Some, None, refl, sym, ap, ◌∙◌, subst, arith}
use Rattle.std.specs.Prelude.{slice_get}
use Rattle.std.specs.declared.cmp.Ordering.TheVariants.{Less}
use Rattle.std.specs.Ordering.{ordering_reverse}
use Rattle.std.proofs.lemmas.Bool.{cases_lt}
use Rattle.std.proofs.lemmas.Option.{slice_get_cases}
use Rattle.tau_points.specs.declared.point.Point.{Point}
use Rattle.tau_points.specs.Order.{point_cmp}
use Rattle.tau_points.proofs.PointOrder.{point_cmp-total}
use Rattle.tau_explain.specs.declared.chains.chained.Chained.{Chained}
use Rattle.tau_explain.specs.Chains.Chains.{IsNotAfter, HasNoChain}
use Rattle.tau_explain.specs.Chains.Inner.Distances.{IsFar, IsNearest, GoesOn}
use Rattle.tau_explain.proofs.Firsts.{first_shortest, no_chain}
use Rattle.tau_explain.proofs.NearestLemmas.{not_after_trans}
use Rattle.tau_trace.specs.Run.{Run, len}
use Rattle.tau_trace.specs.Histories.{Closes}
use Rattle.tau_trace.specs.Points.{point_at}
use Rattle.tau_trace.proofs.Lists.{same_some}
use Rattle.tau_trace.proofs.PointLemmas.{no_return}
use Rattle.tau_past.specs.Carried.{Carried}
use Rattle.tau_past.specs.Pasts.{ClosesAt, checkpoint, opening, Everywhere}
use Rattle.tau_past.specs.Tables.{TakesAt, IsLast, ClosesBefore, TellsEarlier}
use Rattle.tau_explain.specs.Links.Links.{Makes, takes, closes, HaveMakers, points_of}
use Rattle.tau_explain.specs.Links.Marks.{IsMarked}
use Rattle.tau_explain.specs.Links.Inner.Dependents.{CameTo, IsLinked, Takes, TellsCheckpoint}
use Rattle.tau_explain.specs.Links.Inner.Linking.{TellsNearest, IsUpToLink, IsUpToAny, IsLeastLink, IsLinkAt, TakesNearest, ClosesAtDistance, LinksAtDistance, AreLevels, GoesOnTo, GoOn, GoesTo, GoesDown, IsFirstByMarks}
use Rattle.tau_explain.proofs.PushLemmas.{taker_linked, taker_makes, takes_of, takes_within}

not_less_self : (p : Point) → point_cmp p p ≡ Less → ⊥
not_less_self p e = let f = sym e ∙ point_cmp-total.antisymm p p ∙ ap ordering_reverse e in cc

link_trans : (x y z : Point × ℕ) → IsUpToLink x y → IsUpToLink y z → IsUpToLink x z
link_trans x y z a b = ⊎_elim
    (λ less. ⊎_elim (λ l. inl (point_cmp-total.trans x.0 y.0 z.0 less l)) (λ s. inl (subst (λ p. point_cmp x.0 p ≡ Less) s.0 less)) b)
    (λ same. ⊎_elim (λ l. inl (subst (λ p. point_cmp p z.0 ≡ Less) (sym same.0) l)) (λ s. inr (same.0 ∙ s.0, omega (arith, same.1, s.1))) b)
    a

-- the lesser of the least links of two sets is the least of both
module _ (A B P : Point → ℕ → Type 0) (both : (q : Point) (j : ℕ) → P q j ↔ (A q j ⊎ B q j)) where
  up_to : (S : Point → ℕ → Type 0) (o : Option (Point × ℕ)) (x : Point × ℕ) → IsLeastLink S o → IsUpToAny (Some x) o → (q : Point) (j : ℕ) → S q j → IsUpToLink x (q, j)
  up_to S None x least up q j s = absurd (least q j s)
  up_to S (Some y) x least up q j s = link_trans x y (q, j) (subst (λ z. IsUpToLink z y) (same_some (sym up.1)) up.2) (least.1 q j s)

  held : (S : Point → ℕ → Type 0) (o : Option (Point × ℕ)) (x : Point × ℕ) → ((q : Point) (j : ℕ) → S q j → P q j) → IsLeastLink S o → Some x ≡ o → P x.0 x.1
  held S None x within least e = absurd (cc)
  held S (Some y) x within least e = subst (λ z. P z.0 z.1) (same_some (sym e)) (within y.0 y.1 least.0)

  empty : (S : Point → ℕ → Type 0) (o : Option (Point × ℕ)) → IsLeastLink S o → IsUpToAny None o → (q : Point) (j : ℕ) → ¬ S q j
  empty S None least up q j s = least q j s
  empty S (Some y) least up q j s = let e = up.1 in cc

  pub lesser_cases : (first second result : Option (Point × ℕ)) → IsLeastLink A first → IsLeastLink B second → (result ≡ first) ⊎ (result ≡ second) → IsUpToAny result first → IsUpToAny result second → IsLeastLink P result
  lesser_cases first second None a b either up1 up2 = λ q j p. ⊎_elim (empty A first a up1 q j) (empty B second b up2 q j) ((both q j).0 p)
  lesser_cases first second (Some x) a b either up1 up2 = (
    ⊎_elim (λ e. held A first x (λ q j s. (both q j).1 (inl s)) a e) (λ e. held B second x (λ q j s. (both q j).1 (inr s)) b e) either,
    λ q j p. ⊎_elim (up_to A first x a up1 q j) (up_to B second x b up2 q j) ((both q j).0 p),
  )

-- the places at which a point takes, from the last on
pub record Taken (T : Run) (marks : List Bool) (nearest : List (Option (Point × ℕ))) (p : Point) (distance : ℕ) (least : Option (Point × ℕ)) (next : Option ℕ) : Type 0 where
  pub bound : ℕ
  pub last : IsLast (TakesAt T p) bound next
  pub least_is : IsLeastLink (λ q j. TakesNearest T marks nearest p distance q j × (bound ≤ j)) least
  pub within : bound ≤ len T

module _ (T : Run) (marks : List Bool) (nearest : List (Option (Point × ℕ))) (p : Point) (distance : ℕ) where
  pub taken_start : (next : Option ℕ) → IsLast (TakesAt T p) (len T) next → Taken T marks nearest p distance None next
  taken_start next last = record { bound = len T; last = last; least_is = λ q j t. omega (arith, t.1, takes_within T p j t.0.takes.takes); within = omega arith }

  pub link_least : (place : ℕ) (o : Option (Point × ℕ)) → ((q : Point) (j : ℕ) → (o ≡ Some (q, j)) ↔ IsLinkAt marks nearest place distance q j) → IsLeastLink (λ q j. IsLinkAt marks nearest place distance q j) o
  link_least place None told = λ q j l. let e = (told q j).1 l in cc
  link_least place (Some x) told = ((told x.0 x.1).0 refl, λ q j l. let same : x ≡ (q, j) = same_some ((told q j).1 l) in let place_is : x.1 ≡ j = ap (λ (z : Point × ℕ). z.1) same in inr (ap (λ (z : Point × ℕ). z.0) same, omega (arith, place_is)))

  pub taken_on : (place : ℕ) (old link new : Option (Point × ℕ)) (now next : Option ℕ) → now ≡ Some place → TellsEarlier T place next → ((q : Point) (j : ℕ) → (link ≡ Some (q, j)) ↔ IsLinkAt marks nearest place distance q j) → (new ≡ old) ⊎ (new ≡ link) → IsUpToAny new old → IsUpToAny new link
      → Taken T marks nearest p distance old now → Taken T marks nearest p distance new next
  taken_on place old link new now next is earlier told either up1 up2 t = record {
    bound = place;
    last = earlier p here.1;
    least_is = lesser_cases (λ q j. TakesNearest T marks nearest p distance q j × (t.bound ≤ j)) (λ q j. IsLinkAt marks nearest place distance q j) (λ q j. TakesNearest T marks nearest p distance q j × (place ≤ j)) both old link new t.least_is (link_least place link told) either up1 up2;
    within = omega (arith, here.0, t.within);
  } where
    here : (place < t.bound) × TakesAt T p place × ((j : ℕ) → place < j → j < t.bound → ¬ TakesAt T p j)
    here = subst (IsLast (TakesAt T p) t.bound) is t.last

    both : (q : Point) (j : ℕ) → (TakesNearest T marks nearest p distance q j × (place ≤ j)) ↔ ((TakesNearest T marks nearest p distance q j × (t.bound ≤ j)) ⊎ IsLinkAt marks nearest place distance q j)
    both q j = (
      λ a. ⊎_elim
          (λ lt. ⊎_elim (λ above. absurd (here.2 j above lt a.0.takes.takes))
          (λ le. let e : j ≡ place = omega (arith, le, a.1) in inr (record { place_is = e; marked = subst (IsMarked marks) e a.0.takes.marked; nearest_is = subst (λ i. slice_get nearest i ≡ Some (Some (q, distance))) e a.0.nearest_is })) (cases_lt place j))
          (λ le. inl (a.0, le)) (cases_lt j t.bound),
      λ s. ⊎_elim (λ a. (a.0, omega (arith, here.0, a.1)))
          (λ l. (record { takes = record { marked = subst (IsMarked marks) (sym l.place_is) l.marked; takes = subst (TakesAt T p) (sym l.place_is) here.1 }; nearest_is = subst (λ i. slice_get nearest i ≡ Some (Some (q, distance))) (sym l.place_is) l.nearest_is }, omega (arith, l.place_is))) s,
    )

  pub taken_within : (place : ℕ) (least : Option (Point × ℕ)) (now : Option ℕ) → now ≡ Some place → Taken T marks nearest p distance least now → (place < len T) × TakesAt T p place
  taken_within place least now is t = let here : (place < t.bound) × TakesAt T p place × ((j : ℕ) → place < j → j < t.bound → ¬ TakesAt T p j) = subst (IsLast (TakesAt T p) t.bound) is t.last in (omega (arith, here.0, t.within), here.1)

  least_all : (least : Option (Point × ℕ)) (A B : Point → ℕ → Type 0) → ((q : Point) (j : ℕ) → A q j ↔ B q j) → IsLeastLink A least → IsLeastLink B least
  least_all None A B same l = λ q j b. l q j ((same q j).1 b)
  least_all (Some x) A B same l = ((same x.0 x.1).0 l.0, λ q j b. l.1 q j ((same q j).1 b))

  pub taken_end : (least : Option (Point × ℕ)) (now : Option ℕ) → now ≡ None → Taken T marks nearest p distance least now → IsLeastLink (TakesNearest T marks nearest p distance) least
  taken_end least now is t = least_all least (λ q j. TakesNearest T marks nearest p distance q j × (t.bound ≤ j)) (TakesNearest T marks nearest p distance)
      (λ q j. (λ a. a.0, λ b. (b, ⊎_elim (λ lt. absurd (none j lt b.takes.takes)) (λ le. le) (cases_lt j t.bound)))) t.least_is where
        none : (j : ℕ) → j < t.bound → ¬ TakesAt T p j
        none = subst (IsLast (TakesAt T p) t.bound) is t.last

-- the closing point

closes_earlier : (T : Run) (t i j : ℕ) → Closes T t i → point_at T t i ≡ point_at T t j → i < j → ⊥
closes_earlier T t i j c e lt = no_return T t i j i (omega arith) lt e (inl c)

closes_once : (T : Run) (t i j : ℕ) → Closes T t i → Closes T t j → point_at T t i ≡ point_at T t j → i ≡ j
closes_once T t i j a b e = ⊎_elim (λ lt. absurd (closes_earlier T t i j a e lt)) (λ le. ⊎_elim (λ lt. absurd (closes_earlier T t j i b (sym e) lt)) (λ le2. omega (arith, le, le2)) (cases_lt j i)) (cases_lt i j)

module _ (T : Run) (marks : List Bool) (far : Point → Option ℕ) (p : Point) (distance : ℕ) (closing : Option Point) (told : (q : Point) → ClosesBefore T p q ↔ (closing ≡ Some q)) where
  is_closing : (q : Point) (j : ℕ) → ClosesAtDistance T marks far p distance q j → closing ≡ Some q
  is_closing q j c = (told q).0 (q.interval, c.interval_is, checkpoint tt c.closes c.at_point refl)

  pub no_closing : closing ≡ None → IsLeastLink (ClosesAtDistance T marks far p distance) None
  no_closing e q j c = let f = sym e ∙ is_closing q j c in cc

  module _ (x : Point) (is : closing ≡ Some x) where
    same_closing : (q : Point) (j : ℕ) → ClosesAtDistance T marks far p distance q j → x ≡ q
    same_closing q j c = same_some (sym is ∙ is_closing q j c)

    pub not_closed : (o : Option ℕ) → o ≡ None → TellsCheckpoint T marks x o → IsLeastLink (ClosesAtDistance T marks far p distance) None
    not_closed None e none q j c = none j c.marked (record { by = p.who; closes = c.closes; at_point = same_closing q j c ∙ c.at_point })
    not_closed (Some i) e none q j c = cc

    pub not_at : (far x ≡ Some distance → ⊥) → IsLeastLink (ClosesAtDistance T marks far p distance) None
    not_at ne q j c = ne (ap far (same_closing q j c) ∙ c.at)

    -- the interval before p's was closed at x
    closed_interval : ClosesBefore T p x → (p.interval ≡ suc x.interval) × (x.who ≡ p.who)
    closed_interval b = by b.0 b.1 b.2 where
      by : (i : ℕ) → p.interval ≡ suc i → ClosesAt T Everywhere p.who i x → (p.interval ≡ suc x.interval) × (x.who ≡ p.who)
      by i e (checkpoint h c at f) = (e ∙ ap suc (sym f), ap (λ (z : Point). z.who) at)
      by i e (opening w f o) = (e ∙ ap suc (f ∙ sym o.interval_is), w)

    pub closed_at : (place : ℕ) → TellsCheckpoint T marks x (Some place) → far x ≡ Some distance → IsLeastLink (ClosesAtDistance T marks far p distance) (Some (x, place))
    closed_at place c at = (
      record { marked = c.0; closes = closed; at_point = at_p; interval_is = interval.0; at = at },
      λ q j d. let same = same_closing q j d in inr (same, omega (arith, closes_once T p.who place j closed d.closes (sym at_p ∙ same ∙ d.at_point))),
    ) where
      interval : (p.interval ≡ suc x.interval) × (x.who ≡ p.who)
      interval = closed_interval ((told x).1 is)

      who : c.1.by ≡ p.who
      who = sym (ap (λ (z : Point). z.who) c.1.at_point) ∙ interval.1

      closed : Closes T p.who place
      closed = subst (λ u. Closes T u place) who c.1.closes

      at_p : x ≡ point_at T p.who place
      at_p = subst (λ u. x ≡ point_at T u place) who c.1.at_point

-- the least link at a distance is the one to go on by

module _ (T : Run) (marks : List Bool) (far : Point → Option ℕ) (nearest : List (Option (Point × ℕ))) (checkpoints : Point → Option ℕ) (levels : AreLevels T marks far nearest checkpoints) (p : Point) (distance : ℕ) (from : far p ≡ Some (suc distance)) where
  -- a point that p takes, or p itself, is not nearer than the distance
  not_nearer : (q : Point) (m : ℕ) → (p ≡ q) ⊎ IsLinked T marks p q → far q ≡ Some m → distance ≤ m
  not_nearer q m c e = ⊎_elim
      (λ same. let n : suc distance ≡ m = same_some (sym from ∙ ap far same ∙ e) in omega (arith, n))
      (λ l. let near = levels.levels.near p q m l e in let n : near.0 ≡ suc distance = same_some (sym near.1 ∙ from) in omega (arith, n, near.2))
      c

  other_point : (q : Point) → far q ≡ Some distance → p ≡ q → ⊥
  other_point q e same = let n : suc distance ≡ distance = same_some (sym from ∙ ap far same ∙ e) in omega (arith, n)

  -- each link by which p goes on is one
  link_is : (q : Point) (j : ℕ) → LinksAtDistance T marks nearest far p distance q j → IsMarked marks j × Makes T j p q × (far q ≡ Some distance) × (CameTo T p → IsLinked T marks p q)
  link_is q j (inl t) =
      let at : IsNearest (Carried T j) far q distance = levels.nearest_told.each j (Some (q, distance)) t.nearest_is in
      let makes : Makes T j p q = ⊎_elim (λ same. absurd (other_point q at.at same)) (λ m. m) (taker_makes T p q j t.takes.takes at.begins) in
      (t.takes.marked, makes, at.at, λ came. record { came = came; place = j; marked = t.takes.marked; makes = makes })
  link_is q j (inr c) = (c.marked, closes c.closes c.at_point c.interval_is, c.at, λ came. record { came = came; place = j; marked = c.marked; makes = closes c.closes c.at_point c.interval_is })

  -- each step that makes a link to a point at the distance makes one that is not after it
  covers : (q : Point) (j : ℕ) → IsMarked marks j → Makes T j p q → far q ≡ Some distance → (y : Point) × LinksAtDistance T marks nearest far p distance y j × IsNotAfter y q
  covers q j marked (closes c e i) at = (q, inr (record { marked = marked; closes = c; at_point = e; interval_is = i; at = at }), inl refl)
  covers q j marked (takes t) at = by told.0 told.1 (levels.nearest_told.each j told.0 told.1) where
    parts : TakesAt T p j × Carried T j q
    parts = takes_of T p q j t

    taking : Takes T marks p j
    taking = record { marked = marked; takes = parts.0 }

    told : (o : Option (Point × ℕ)) × (slice_get nearest j ≡ Some o)
    told = ⊎_elim (λ x. (x.0, x.2)) (λ x. absurd (omega (arith, x.0, takes_within T p j parts.0, levels.nearest_told.count))) (slice_get_cases nearest j).1

    by : (o : Option (Point × ℕ)) → slice_get nearest j ≡ Some o → TellsNearest T far j o → (y : Point) × LinksAtDistance T marks nearest far p distance y j × IsNotAfter y q
    by None e none = absurd (let f = sym (none q parts.1) ∙ at in cc)
    by (Some y) e near =
        let low = not_nearer y.0 y.1 (taker_linked T marks p y.0 j taking near.begins) near.at in
        ⊎_elim (λ less. absurd (omega (arith, less, low)))
        (λ same. (y.0, inl (record { takes = taking; nearest_is = e ∙ ap (λ n. Some (Some (y.0, n))) same.0 }), same.1)) (near.best q distance parts.1 at)

  pub no_link : IsLeastLink (LinksAtDistance T marks nearest far p distance) None → ⊥
  no_link none =
      let on = levels.levels.on p distance from in
      let c = covers on.0 on.1.place on.1.marked on.1.makes on.2 in
      none c.0 on.1.place c.1

  pub goes_on_to : (x : Point × ℕ) → IsLeastLink (LinksAtDistance T marks nearest far p distance) (Some x) → GoesOnTo T marks far p (record { point = x.0; by = Some x.1 }) distance
  goes_on_to x least = record {
    next = record {
      from = from;
      leads = here.3 came;
      nearer = here.2;
      least = λ r l e. let c = covers r l.place l.marked l.makes e in not_after_trans x.0 c.0 r (not_after c.0 l.place (least.1 c.0 l.place c.1)) c.2;
    };
    place = x.1;
    by_is = refl;
    least = record { held = here.0; makes = here.1; least = λ j m makes. let c = covers x.0 j m makes here.2 in place_up_to j c.0 c.2 (least.1 c.0 j c.1) };
  } where
    here : IsMarked marks x.1 × Makes T x.1 p x.0 × (far x.0 ≡ Some distance) × (CameTo T p → IsLinked T marks p x.0)
    here = link_is x.0 x.1 least.0

    came : CameTo T p
    came = (levels.levels.on p distance from).1.came

    not_after : (y : Point) (j : ℕ) → IsUpToLink x (y, j) → IsNotAfter x.0 y
    not_after y j u = ⊎_elim (λ less. inr less) (λ same. inl same.0) u

    place_up_to : (j : ℕ) (y : Point) → IsNotAfter y x.0 → IsUpToLink x (y, j) → x.1 ≤ j
    place_up_to j y up u = ⊎_elim
        (λ less. absurd (not_less_self x.0 (⊎_elim (λ (e : y ≡ x.0). subst (λ z. point_cmp x.0 z ≡ Less) e less) (λ l. point_cmp-total.trans x.0 y x.0 less l) up)))
        (λ same. same.1) u

-- a chain, one point after the other

module _ (T : Run) (marks : List Bool) (far : Point → Option ℕ) where
  go_more : (p : Point) (cs : List Chained) (last : Point) (c : Chained) (n : ℕ) → GoOn T marks far p cs last → GoesOnTo T marks far last c n → GoOn T marks far p (cs ++ c ∷ []) c.point
  go_more p [] last c n e g = ((n, subst (λ (z : Point). GoesOnTo T marks far z c n) (sym e) g), refl)
  go_more p (d ∷ ds) last c n e g = (e.0, go_more d.point ds last c n e.1 g)

  pub goes_start : (p : Point) (chain : List Chained) → chain ≡ [] ++ record { point = p; by = None } ∷ [] → GoesTo T marks far p chain p
  goes_start p chain e = record { rest = []; is = e; goes = refl }

  pub goes_more : (p : Point) (chain chain2 : List Chained) (last : Point) (c : Chained) (n : ℕ) → GoesTo T marks far p chain last → GoesOnTo T marks far last c n → chain2 ≡ chain ++ c ∷ [] → GoesTo T marks far p chain2 c.point
  goes_more p chain chain2 last c n g to e = record { rest = g.rest ++ c ∷ []; is = e ∙ ap (λ (l : List Chained). l ++ c ∷ []) g.is; goes = go_more p g.rest last c n g.goes to }

  go_points : (p : Point) (cs : List Chained) (last : Point) → GoOn T marks far p cs last → GoesOn (IsLinked T marks) far p (points_of cs) last
  go_points p [] last e = e
  go_points p (c ∷ cs) last e = ((e.0.0, e.0.1.next), go_points c.point cs last e.1)

  go_makers : (p : Point) (cs : List Chained) (last : Point) → GoOn T marks far p cs last → HaveMakers T (IsMarked marks) p cs
  go_makers p [] last e = tt
  go_makers p (c ∷ cs) last e = ((e.0.1.place, e.0.1.by_is, e.0.1.least), go_makers c.point cs last e.1)

  pub first_by_marks : (S C : Point → Type 0) (p : Point) (n : ℕ) (chain : List Chained) → IsFar (IsLinked T marks) C far → IsNearest S far p n → GoesDown T marks far p chain → IsFirstByMarks T marks S C chain
  first_by_marks S C p n chain f near g = subst (IsFirstByMarks T marks S C) (sym g.goes.is) (record {
    told = (refl, go_makers p g.goes.rest g.last g.goes.goes);
    first = first_shortest (IsLinked T marks) C far f S p (points_of g.goes.rest) g.last n near (go_points p g.goes.rest g.last g.goes.goes) g.ends;
  })

  pub no_first : (S C : Point → Type 0) → IsFar (IsLinked T marks) C far → ((q : Point) → S q → far q ≡ None) → HasNoChain (IsLinked T marks) S C
  no_first S C f none = no_chain (IsLinked T marks) C far f S none

pub last_below : (P : ℕ → Type 0) (n : ℕ) (o : Option ℕ) → IsLast P n o → (i : ℕ) → o ≡ Some i → i < n
last_below P n None l i e = absurd (cc)
last_below P n (Some k) l i e = let same : k ≡ i = same_some e in omega (arith, same, l.0)

-- one of both is the least
pub least_of_both : (T : Run) (marks : List Bool) (nearest : List (Option (Point × ℕ))) (far : Point → Option ℕ) (p : Point) (distance : ℕ) (first second result : Option (Point × ℕ)) → IsLeastLink (TakesNearest T marks nearest p distance) first → IsLeastLink (ClosesAtDistance T marks far p distance) second
    → (result ≡ first) ⊎ (result ≡ second) → IsUpToAny result first → IsUpToAny result second → IsLeastLink (LinksAtDistance T marks nearest far p distance) result
least_of_both T marks nearest far p distance first second result a b either up1 up2 =
    lesser_cases (TakesNearest T marks nearest p distance) (ClosesAtDistance T marks far p distance) (LinksAtDistance T marks nearest far p distance) (λ q j. (λ x. x, λ x. x)) first second result a b either up1 up2
