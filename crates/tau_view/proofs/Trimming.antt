-- The first law: trimming the views that a call is given changes nothing.
use Rattle.std.proofs.Common.{◌≡◌, Bool, true, false, not, ◌&&◌, ◌||◌, IsTrue, Some, refl, cond, eqb}
use Rattle.tau_view.specs.Held.{Histories, same_point}
use Rattle.tau_view.specs.Rules.{later_history}
use Rattle.tau_view.specs.Trim.{EdgeTest, RootTest, unless, trim, DropsClosedRoots, DropsForGood}
use Rattle.tau_view.specs.Laws.{NoteIgnoresTrim, TouchIgnoresTrim, DependIgnoresTrim, MergeIgnoresTrim, TakingRootsIgnoresTrim, ClearingRootsIgnoresTrim}
use Rattle.tau_view.proofs.Later.{left_precedes, right_precedes, noted_precedes}

-- what is dropped first is dropped later too
twice : (d e b : Bool) → (IsTrue d → IsTrue e) → unless e (unless d b) ≡ unless e b
twice true true b f = refl
twice true false b f = let h : IsTrue false = f refl in cc
twice false e b f = refl

twice_or : (d e b c : Bool) → (IsTrue d → IsTrue e) → unless e (unless d b || c) ≡ unless e (b || c)
twice_or true true b c f = refl
twice_or true false b c f = let h : IsTrue false = f refl in cc
twice_or false e b c f = refl

twice_both : (d1 d2 e b c : Bool) → (IsTrue d1 → IsTrue e) → (IsTrue d2 → IsTrue e) → unless e (unless d1 b || unless d2 c) ≡ unless e (b || c)
twice_both d1 d2 true b c f g = refl
twice_both true d2 false b c f g = let h : IsTrue false = f refl in cc
twice_both false true false b c f g = let h : IsTrue false = g refl in cc
twice_both false false false b c f g = refl

-- d: the edge is dropped; r: the root is
twice_depend : (d r e s b n : Bool) → (IsTrue r → IsTrue d) → unless d (unless d e || (s && (unless r b && n))) ≡ unless d (e || (s && (b && n)))
twice_depend true r e s b n f = refl
twice_depend false true e s b n f = let h : IsTrue false = f refl in cc
twice_depend false false e s b n f = refl

module _ (drops_edge : EdgeTest) (drops_root : RootTest) where
  pub note_ignores_trim : DropsForGood drops_edge drops_root → NoteIgnoresTrim (trim drops_edge drops_root)
  note_ignores_trim for_good who h v may =
      let hs : Histories = λ u. cond (eqb u who) (Some h) (v.history u) in
      let later = noted_precedes who h v.history may in
      λ i. record {
        history = hs;
        edge = λ p q. twice (drops_edge v.history p q) (drops_edge hs p q) (v.edge p q) (for_good.edge v.history hs p q later) i;
        root = λ q. twice (drops_root v.history q) (drops_root hs q) (v.root q) (for_good.root v.history hs q later) i;
      }

  pub touch_ignores_trim : TouchIgnoresTrim (trim drops_edge drops_root)
  touch_ignores_trim p v =
      λ i. record {
        history = v.history;
        edge = λ x y. twice (drops_edge v.history x y) (drops_edge v.history x y) (v.edge x y) (λ d. d) i;
        root = λ q. twice_or (drops_root v.history q) (drops_root v.history q) (v.root q) (same_point q p) (λ d. d) i;
      }

  pub depend_ignores_trim : DropsClosedRoots drops_edge drops_root → DependIgnoresTrim (trim drops_edge drops_root)
  depend_ignores_trim closed_roots p v =
      λ i. record {
        history = v.history;
        edge = λ x y. twice_depend (drops_edge v.history x y) (drops_root v.history y) (v.edge x y) (same_point x p) (v.root y) (not (same_point y p)) (λ d. (closed_roots v.history y d).edges x) i;
        root = λ q. twice (drops_root v.history q) (drops_root v.history q) (v.root q) (λ d. d) i;
      }

  pub merge_ignores_trim : DropsForGood drops_edge drops_root → MergeIgnoresTrim (trim drops_edge drops_root)
  merge_ignores_trim for_good v w c =
      let hs : Histories = λ u. later_history (v.history u) (w.history u) in
      let left = left_precedes v.history w.history c in
      let right = right_precedes v.history w.history c in
      λ i. record {
        history = hs;
        edge = λ p q. twice_both (drops_edge v.history p q) (drops_edge w.history p q) (drops_edge hs p q) (v.edge p q) (w.edge p q) (for_good.edge v.history hs p q left) (for_good.edge w.history hs p q right) i;
        root = λ q. twice (drops_root v.history q) (drops_root hs q) (v.root q) (for_good.root v.history hs q left) i;
      }

  pub taking_roots_ignores_trim : DropsForGood drops_edge drops_root → TakingRootsIgnoresTrim (trim drops_edge drops_root)
  taking_roots_ignores_trim for_good v w c =
      λ i. record {
        history = v.history;
        edge = λ p q. twice (drops_edge v.history p q) (drops_edge v.history p q) (v.edge p q) (λ d. d) i;
        root = λ q. twice (drops_root w.history q) (drops_root v.history q) (w.root q) (for_good.root w.history v.history q c) i;
      }

  pub clearing_roots_ignores_trim : ClearingRootsIgnoresTrim (trim drops_edge drops_root)
  clearing_roots_ignores_trim v =
      λ i. record {
        history = v.history;
        edge = λ p q. twice (drops_edge v.history p q) (drops_edge v.history p q) (v.edge p q) (λ d. d) i;
        root = λ q. unless (drops_root v.history q) false;
      }
