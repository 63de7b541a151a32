-- Letters in blocks: where a message can be, and what a change of one block makes of them all.
use Rattle.std.proofs.Common.{◌≡◌, ℕ, zero, suc, ◌<◌, ◌≤◌, ◌+◌, ◌-◌, Bool, false, List, [], ◌∷◌, ◌++◌, length, get_or, set, take, drop, remove, find, filter, slice_get, All, Some, sym, refl, ap, ◌∙◌, subst, append_assoc, add-one, arith}
use Rattle.std.proofs.lemmas.Bool.Decides.{nat_tests}
use Rattle.std.proofs.lemmas.List.{length-append, length_push, get_or_read, get_or_default, at_drop_more, take_all, get_or_append_left, get_or-append-add, append-nil}
use Rattle.std.proofs.lemmas.List.Kept.{AllPairs-filter}
use Rattle.std.proofs.lemmas.List.Quantifiers.{all_pairs_push}
use Rattle.std.proofs.lemmas.List.Elements.{All-append, All-set, All-take, All-drop, filter-append}
use Rattle.std.proofs.lemmas.List.Edits.{get_or-remove_below}
use Rattle.tau_mailbox.specs.declared.letter.Letter.{Letter}
use Rattle.tau_mailbox.specs.Letters.{WithRoom, is_message, is_other, is_to, IsAscending, AllBelow}
use Rattle.tau_mailbox.specs.Order.{all_of, AllFilled, Reaches, IsBlockOf, IsOrder}
use Rattle.tau_mailbox.proofs.Lists.{filter-all, filter-none, find-append, find-none}
use Rattle.tau_mailbox.proofs.Leaving.{split, leaves-found}

-- ---- ascending lists in parts

pub across : (xs ys : List Letter) → IsAscending (xs ++ ys) → (i j : ℕ) (d : Letter) → i < length xs → j < length ys → (get_or xs i d).message < (get_or ys j d).message
across xs ys up i j d lt within =
    let h : (get_or (xs ++ ys) i d).message < (get_or (xs ++ ys) (length xs + j) d).message = up i (length xs + j) d (omega (arith, lt)) (omega (arith, length-append xs ys, within)) in
    rw (get_or_append_left xs ys d i lt, get_or-append-add xs ys j d) at h

pub ascending-left : (xs ys : List Letter) → IsAscending (xs ++ ys) → IsAscending xs
ascending-left xs ys up i j d lt within =
    let short : i < length xs = omega (arith, lt, within) in
    let h : (get_or (xs ++ ys) i d).message < (get_or (xs ++ ys) j d).message = up i j d lt (omega (arith, length-append xs ys, within)) in
    rw (get_or_append_left xs ys d i short, get_or_append_left xs ys d j within) at h

pub ascending-right : (xs ys : List Letter) → IsAscending (xs ++ ys) → IsAscending ys
ascending-right xs ys up i j d lt within =
    let h : (get_or (xs ++ ys) (length xs + i) d).message < (get_or (xs ++ ys) (length xs + j) d).message = up (length xs + i) (length xs + j) d (omega (arith, lt)) (omega (arith, length-append xs ys, within)) in
    rw (get_or-append-add xs ys i d, get_or-append-add xs ys j d) at h

-- what comes after a part that reaches m is above m
pub above-reached : (m : ℕ) (xs ys : List Letter) → IsAscending (xs ++ ys) → Reaches m xs → All (λ l. m < l.message) ys
above-reached m xs ys up r k d lt =
    let here : (get_or xs r.0 d).message ≡ r.1.message = ap (λ (l : Letter). l.message) (get_or_default xs r.0 d r.1 r.2 ∙ r.3) in
    omega (arith, across xs ys up r.0 k d r.2 lt, r.4)

-- what comes before a part below m is below m
pub below-part : (m : ℕ) (xs ys : List Letter) → IsAscending (xs ++ ys) → 1 ≤ length ys → AllBelow m ys → AllBelow m xs
below-part m xs ys up some below k d lt = omega (arith, across xs ys up k 0 d lt (omega (arith, some)), below 0 d (omega (arith, some)))

-- an ascending list below m has at most m letters
rank : (ls : List Letter) → IsAscending ls → (k : ℕ) (d : Letter) → k < length ls → k ≤ (get_or ls k d).message
rank ls up zero d lt = omega arith
rank ls up (suc k) d lt = omega (arith, rank ls up k d (omega (arith, lt)), up k (suc k) d (omega arith) lt)

pub length-below : (m : ℕ) (ls : List Letter) → IsAscending ls → AllBelow m ls → length ls ≤ m
length-below m [] up below = omega arith
length-below m (l ∷ ls) up below = omega (arith, rank (l ∷ ls) up (length ls) l (omega arith), below (length ls) l (omega arith))

-- one letter fewer once one is found and left out
pub length-left : (x : Letter) (ls : List Letter) → IsAscending ls → find (is_message x.message) ls ≡ Some x → length (filter (is_other x.message) ls) + 1 ≡ length ls
length-left x ls up e = let s = split x ls up e in omega (arith, ap length s.whole, ap length s.rest, length-append s.before (x ∷ s.after), length-append s.before s.after)

-- ---- blocks

pub all-around : (bs : List WithRoom) (k : ℕ) (d : WithRoom) → k < length bs → all_of bs ≡ all_of (take k bs) ++ ((get_or bs k d).letters ++ all_of (drop (suc k) bs))
all-around [] k d lt = absurd (omega (arith, lt))
all-around (b ∷ bs) zero d lt = refl
all-around (b ∷ bs) (suc k) d lt = rw (all-around bs k d (omega (arith, lt))) (sym (append_assoc b.letters (all_of (take k bs)) ((get_or bs k d).letters ++ all_of (drop (suc k) bs))))

pub all-set : (bs : List WithRoom) (k : ℕ) (b : WithRoom) → k < length bs → all_of (set bs k b) ≡ all_of (take k bs) ++ (b.letters ++ all_of (drop (suc k) bs))
all-set [] k c lt = absurd (omega (arith, lt))
all-set (b ∷ bs) zero c lt = refl
all-set (b ∷ bs) (suc k) c lt = rw (all-set bs k c (omega (arith, lt))) (sym (append_assoc b.letters (all_of (take k bs)) (c.letters ++ all_of (drop (suc k) bs))))

pub all-more : (bs : List WithRoom) (k : ℕ) (d : WithRoom) → k < length bs → all_of (take (suc k) bs) ≡ all_of (take k bs) ++ (get_or bs k d).letters
all-more [] k d lt = absurd (omega (arith, lt))
all-more (b ∷ bs) zero d lt = append-nil b.letters
all-more (b ∷ bs) (suc k) d lt = rw (all-more bs k d (omega (arith, lt))) (sym (append_assoc b.letters (all_of (take k bs)) (get_or bs k d).letters))

pub all-parts : (bs : List WithRoom) (k : ℕ) → all_of bs ≡ all_of (take k bs) ++ all_of (drop k bs)
all-parts bs zero = refl
all-parts [] (suc k) = refl
all-parts (b ∷ bs) (suc k) = rw (all-parts bs k) (sym (append_assoc b.letters (all_of (take k bs)) (all_of (drop k bs))))

-- up to a block below m all is below m
pub below-more : (m : ℕ) (bs : List WithRoom) (k : ℕ) (d : WithRoom) → IsAscending (all_of bs) → AllFilled bs → k < length bs → AllBelow m (get_or bs k d).letters → AllBelow m (all_of (take (suc k) bs))
below-more m bs k d up filled lt below =
    let front = all_of (take k bs) in
    let block = (get_or bs k d).letters in
    let whole : IsAscending ((front ++ block) ++ all_of (drop (suc k) bs)) = subst IsAscending (all-around bs k d lt ∙ sym (append_assoc front block (all_of (drop (suc k) bs)))) up in
    let before : AllBelow m front = below-part m front block (ascending-left (front ++ block) (all_of (drop (suc k) bs)) whole) (filled k d lt) below in
    rw (all-more bs k d lt) (All-append (λ l. l.message < m) front block before below)

-- ---- where a message can be

-- behind letters without the message it is found only among those
find-left : {X : Type 0} (p : X → Bool) (xs ys : List X) → All (λ x. p x ≡ false) ys → find p (xs ++ ys) ≡ find p xs
find-left p [] ys fails = find-none p ys fails
find-left p (x ∷ xs) ys fails = rw (find-left p xs ys fails) refl

pub find-middle : (m : ℕ) (front block back : List Letter) → AllBelow m front → All (λ l. m < l.message) back → find (is_message m) (front ++ (block ++ back)) ≡ find (is_message m) block
find-middle m front block back below above =
    find-append (is_message m) front (block ++ back) (λ k d lt. grind (arith, nat_tests, below k d lt)) ∙ find-left (is_message m) block back (λ k d lt. grind (arith, nat_tests, above k d lt))

pub filter-middle : (m : ℕ) (front block back : List Letter) → AllBelow m front → All (λ l. m < l.message) back → filter (is_other m) (front ++ (block ++ back)) ≡ front ++ (filter (is_other m) block ++ back)
filter-middle m front block back below above =
    rw (
      filter-append (is_other m) front (block ++ back),
      filter-append (is_other m) block back,
      filter-all (is_other m) front (λ k d lt. grind (arith, nat_tests, below k d lt)),
      filter-all (is_other m) back (λ k d lt. grind (arith, nat_tests, above k d lt)),
    ) refl

-- all letters as those before a block, the block's, and those after it
pub whole-around : (bs : List WithRoom) (tail : List Letter) (k : ℕ) (d : WithRoom) → k < length bs → all_of bs ++ tail ≡ all_of (take k bs) ++ ((get_or bs k d).letters ++ (all_of (drop (suc k) bs) ++ tail))
whole-around bs tail k d lt =
    let block = (get_or bs k d).letters in
    let rest = all_of (drop (suc k) bs) in
    rw (all-around bs k d lt, append_assoc (all_of (take k bs)) (block ++ rest) tail, append_assoc block rest tail) refl

-- past the block that reaches m all is above m
above-block : (m : ℕ) (bs : List WithRoom) (tail : List Letter) (k : ℕ) (d : WithRoom) → IsAscending (all_of bs ++ tail) → IsBlockOf m bs k → k < length bs → All (λ l. m < l.message) (all_of (drop (suc k) bs) ++ tail)
above-block m bs tail k d up at lt =
    let front = all_of (take k bs) in
    let block = (get_or bs k d).letters in
    let back = all_of (drop (suc k) bs) ++ tail in
    let whole : IsAscending (front ++ (block ++ back)) = subst IsAscending (whole-around bs tail k d lt) up in
    above-reached m block back (ascending-right front (block ++ back) whole) (at.reaches d lt)

-- a message is found only in its block
pub find-in-block : (m : ℕ) (bs : List WithRoom) (tail : List Letter) (k : ℕ) (d : WithRoom) → IsAscending (all_of bs ++ tail) → IsBlockOf m bs k → k < length bs → find (is_message m) (all_of bs ++ tail) ≡ find (is_message m) (get_or bs k d).letters
find-in-block m bs tail k d up at lt =
    ap (find (is_message m)) (whole-around bs tail k d lt)
    ∙ find-middle m (all_of (take k bs)) (get_or bs k d).letters (all_of (drop (suc k) bs) ++ tail) at.below (above-block m bs tail k d up at lt)

-- and leaves only there
pub filter-in-block : (m : ℕ) (bs : List WithRoom) (tail : List Letter) (k : ℕ) (d : WithRoom) → IsAscending (all_of bs ++ tail) → IsBlockOf m bs k → k < length bs
    → (all_of (take k bs) ++ (filter (is_other m) (get_or bs k d).letters ++ all_of (drop (suc k) bs))) ++ tail ≡ filter (is_other m) (all_of bs ++ tail)
filter-in-block m bs tail k d up at lt =
    let front = all_of (take k bs) in
    let block = (get_or bs k d).letters in
    let rest = all_of (drop (suc k) bs) in
    rw (append_assoc front (filter (is_other m) block ++ rest) tail, append_assoc (filter (is_other m) block) rest tail)
    (sym (ap (filter (is_other m)) (whole-around bs tail k d lt) ∙ filter-middle m front block (rest ++ tail) at.below (above-block m bs tail k d up at lt)))

-- past the last block all is below m
all-below : (m : ℕ) (bs : List WithRoom) (k : ℕ) → IsBlockOf m bs k → length bs ≤ k → AllBelow m (all_of bs)
all-below m bs k at far = subst (λ cs. AllBelow m (all_of cs)) (take_all k bs far) at.below

-- where all blocks are below m, the message is in the tail
pub find-in-tail : (m : ℕ) (bs : List WithRoom) (tail : List Letter) (k : ℕ) → IsBlockOf m bs k → length bs ≤ k → find (is_message m) (all_of bs ++ tail) ≡ find (is_message m) tail
find-in-tail m bs tail k at far = find-append (is_message m) (all_of bs) tail (λ j d lt. grind (arith, nat_tests, all-below m bs k at far j d lt))

pub filter-in-tail : (m : ℕ) (bs : List WithRoom) (tail : List Letter) (k : ℕ) → IsBlockOf m bs k → length bs ≤ k → filter (is_other m) (all_of bs ++ tail) ≡ all_of bs ++ filter (is_other m) tail
filter-in-tail m bs tail k at far = rw (filter-append (is_other m) (all_of bs) tail, filter-all (is_other m) (all_of bs) (λ j d lt. grind (arith, nat_tests, all-below m bs k at far j d lt))) refl

-- ---- the letter at a place

slice_get-left : (xs ys : List Letter) (k : ℕ) → k < length xs → slice_get (xs ++ ys) k ≡ slice_get xs k
slice_get-left [] ys k lt = absurd (omega (arith, lt))
slice_get-left (x ∷ xs) ys zero lt = refl
slice_get-left (x ∷ xs) ys (suc k) lt = slice_get-left xs ys k (omega (arith, lt))

slice_get-right : (xs ys : List Letter) (k j : ℕ) → k ≡ length xs + j → slice_get (xs ++ ys) k ≡ slice_get ys j
slice_get-right [] ys k j e = rw (let same : k ≡ j = omega (arith, e) in same) refl
slice_get-right (x ∷ xs) ys zero j e = absurd (omega (arith, e))
slice_get-right (x ∷ xs) ys (suc k) j e = slice_get-right xs ys k j (omega (arith, e))

-- within the next block
pub get-in-block : (bs : List WithRoom) (tail : List Letter) (i k : ℕ) (d : WithRoom) → i < length bs → k < length (get_or bs i d).letters → slice_get (all_of (drop i bs) ++ tail) k ≡ slice_get (get_or bs i d).letters k
get-in-block bs tail i k d lt within =
    let block = (get_or bs i d).letters in
    let rest = all_of (drop (i + 1) bs) in
    ap (λ ls. slice_get (ls ++ tail) k) (at_drop_more all_of bs i d lt) ∙ ap (λ ls. slice_get ls k) (append_assoc block rest tail) ∙ slice_get-left block (rest ++ tail) k within

-- or after it
pub get-after-block : (bs : List WithRoom) (tail : List Letter) (i k : ℕ) (d : WithRoom) → i < length bs → length (get_or bs i d).letters ≤ k → slice_get (all_of (drop (i + 1) bs) ++ tail) (k - length (get_or bs i d).letters) ≡ slice_get (all_of (drop i bs) ++ tail) k
get-after-block bs tail i k d lt far =
    let block = (get_or bs i d).letters in
    let rest = all_of (drop (i + 1) bs) in
    sym (ap (λ ls. slice_get (ls ++ tail) k) (at_drop_more all_of bs i d lt) ∙ ap (λ ls. slice_get ls k) (append_assoc block rest tail) ∙ slice_get-right block (rest ++ tail) k (k - length block) (omega (arith, far)))

-- ---- how many letters there are up to a message

count-middle : (m : ℕ) (front block back : List Letter) → AllBelow m front → All (λ l. m < l.message) back → length (filter (is_to m) (front ++ (block ++ back))) ≡ length front + length (filter (is_to m) block)
count-middle m front block back below above =
    rw (
      filter-append (is_to m) front (block ++ back),
      filter-append (is_to m) block back,
      filter-all (is_to m) front (λ k d lt. grind (arith, nat_tests, below k d lt)),
      filter-none (is_to m) back (λ k d lt. grind (arith, nat_tests, above k d lt)),
      append-nil (filter (is_to m) block),
    ) (length-append front (filter (is_to m) block))

-- those before the block, and those in it
pub count-in-block : (m : ℕ) (bs : List WithRoom) (tail : List Letter) (k : ℕ) (d : WithRoom) → IsAscending (all_of bs ++ tail) → IsBlockOf m bs k → k < length bs
    → length (filter (is_to m) (all_of bs ++ tail)) ≡ length (all_of (take k bs)) + length (filter (is_to m) (get_or bs k d).letters)
count-in-block m bs tail k d up at lt =
    ap (λ ls. length (filter (is_to m) ls)) (whole-around bs tail k d lt)
    ∙ count-middle m (all_of (take k bs)) (get_or bs k d).letters (all_of (drop (suc k) bs) ++ tail) at.below (above-block m bs tail k d up at lt)

-- those of all blocks, and those in the tail
pub count-in-tail : (m : ℕ) (bs : List WithRoom) (tail : List Letter) (k : ℕ) → IsBlockOf m bs k → length bs ≤ k → length (filter (is_to m) (all_of bs ++ tail)) ≡ length (all_of (take k bs)) + length (filter (is_to m) tail)
count-in-tail m bs tail k at far =
    rw (
      take_all k bs far,
      filter-append (is_to m) (all_of bs) tail,
      filter-all (is_to m) (all_of bs) (λ j d lt. grind (arith, nat_tests, all-below m bs k at far j d lt)),
    ) (length-append (all_of bs) (filter (is_to m) tail))

-- the blocks before a place have no more letters than there are
pub length-before : (bs : List WithRoom) (tail : List Letter) (k : ℕ) → length (all_of (take k bs)) ≤ length (all_of bs ++ tail)
length-before bs tail k = omega (arith, ap length (all-parts bs k), length-append (all_of (take k bs)) (all_of (drop k bs)), length-append (all_of bs) tail)

-- ---- changes

-- one block lost the message m
pub all-changed : (m : ℕ) (bs : List WithRoom) (k : ℕ) (old new d : WithRoom) → k < length bs → old ≡ get_or bs k old → new.letters ≡ filter (is_other m) old.letters
    → all_of (set bs k new) ≡ all_of (take k bs) ++ (filter (is_other m) (get_or bs k d).letters ++ all_of (drop (k + 1) bs))
all-changed m bs k old new d lt is e =
    let same : old ≡ get_or bs k d = get_or_read bs k old lt is d in
    rw (add-one k, ← same, ← e) (all-set bs k new lt)

-- what stands below m at the end of a list
pub below-right : (m : ℕ) (xs ys : List Letter) → AllBelow m (xs ++ ys) → AllBelow m ys
below-right m xs ys below k d lt = rw (get_or-append-add xs ys k d) at (below (length xs + k) d (omega (arith, length-append xs ys, lt)))

-- a letter goes to the tail
pub order-pushed : (bs : List WithRoom) (tail : List Letter) (len : ℕ) (x : Letter) → IsOrder bs tail len → AllBelow x.message (all_of bs ++ tail) → IsOrder bs (tail ++ x ∷ []) (len + 1)
order-pushed bs tail len x o below = record {
  ascending = subst IsAscending (append_assoc (all_of bs) tail (x ∷ [])) (all_pairs_push (λ (a b : Letter). a.message < b.message) (all_of bs ++ tail) x o.ascending (λ k d lt. below k d lt));
  filled = o.filled;
  counted = omega (arith, o.counted, ap length (append_assoc (all_of bs) tail (x ∷ [])), length_push (all_of bs ++ tail) x);
}

-- a letter leaves
pub order-left : (m : ℕ) (bs cs : List WithRoom) (tail rest : List Letter) (len : ℕ) (x : Letter) → IsOrder bs tail len → AllFilled cs → find (is_message m) (all_of bs ++ tail) ≡ Some x → all_of cs ++ rest ≡ filter (is_other m) (all_of bs ++ tail) → IsOrder cs rest (len - 1)
order-left m bs cs tail rest len x o filled e left =
    let leaves = leaves-found m x (all_of bs ++ tail) (all_of cs ++ rest) o.ascending e left in
    record {
      ascending = rw left (AllPairs-filter (λ (a b : Letter). a.message < b.message) (is_other m) (all_of bs ++ tail) o.ascending);
      filled = filled;
      counted = omega (arith, o.counted, ap length leaves.rest, length-left x (all_of bs ++ tail) o.ascending leaves.found);
    }

-- a block took the letters of the next one
pub all-joined : (bs : List WithRoom) (k : ℕ) (b d e : WithRoom) → suc k < length bs → b.letters ≡ (get_or bs k d).letters ++ (get_or bs (suc k) e).letters → all_of (set (remove bs (suc k)) k b) ≡ all_of bs
all-joined [] k b d e lt is = absurd (omega (arith, lt))
all-joined (x ∷ []) k b d e lt is = absurd (omega (arith, lt))
all-joined (x ∷ y ∷ bs) zero b d e lt is = rw is (append_assoc x.letters y.letters (all_of bs))
all-joined (x ∷ y ∷ bs) (suc k) b d e lt is = ap (λ ls. x.letters ++ ls) (all-joined (y ∷ bs) k b d e (omega (arith, lt)) is)

-- neighbours ascend together
pub ascending-neighbours : (bs : List WithRoom) (k : ℕ) (d e : WithRoom) → IsAscending (all_of bs) → suc k < length bs → IsAscending ((get_or bs k d).letters ++ (get_or bs (suc k) e).letters)
ascending-neighbours [] k d e up lt = absurd (omega (arith, lt))
ascending-neighbours (x ∷ []) k d e up lt = absurd (omega (arith, lt))
ascending-neighbours (x ∷ y ∷ bs) zero d e up lt = ascending-left (x.letters ++ y.letters) (all_of bs) (subst IsAscending (sym (append_assoc x.letters y.letters (all_of bs))) up)
ascending-neighbours (x ∷ y ∷ bs) (suc k) d e up lt = ascending-neighbours (y ∷ bs) k d e (ascending-right x.letters (all_of (y ∷ bs)) up) (omega (arith, lt))

-- a block, the next one, and the blocks without the next one
pub record Neighbours (bs cs : List WithRoom) (k : ℕ) (b next : WithRoom) : Type 0 where
  pub within : suc k < length bs
  pub first : b ≡ get_or bs k b
  pub second : next ≡ get_or bs (suc k) next
  pub left : cs ≡ remove bs (suc k)

pub neighbours-from : (bs cs : List WithRoom) (k : ℕ) (b next : WithRoom) → k + 1 < length bs → cs ≡ remove bs (k + 1) → b ≡ get_or cs k b → next ≡ get_or bs (k + 1) next → Neighbours bs cs k b next
neighbours-from bs cs k b next lt left first second = record {
  within = omega (arith, lt);
  first = first ∙ ap (λ ds. get_or ds k b) left ∙ get_or-remove_below bs (k + 1) b k (omega arith) lt;
  second = rw add-one at second;
  left = rw add-one at left;
}

pub neighbours-ascending : (bs cs : List WithRoom) (k : ℕ) (b next : WithRoom) → Neighbours bs cs k b next → IsAscending (all_of bs) → IsAscending (b.letters ++ next.letters)
neighbours-ascending bs cs k b next n up =
    subst IsAscending (ap (λ (c : WithRoom). c.letters ++ (get_or bs (suc k) next).letters) (sym n.first) ∙ ap (λ (c : WithRoom). b.letters ++ c.letters) (sym n.second))
    (ascending-neighbours bs k b next up n.within)

pub neighbours-joined : (bs cs : List WithRoom) (k : ℕ) (b next new : WithRoom) → Neighbours bs cs k b next → new.letters ≡ b.letters ++ next.letters → all_of (set cs k new) ≡ all_of bs
neighbours-joined bs cs k b next new n is =
    ap (λ ds. all_of (set ds k new)) n.left
    ∙ all-joined bs k new b next n.within (is ∙ ap (λ (c : WithRoom). c.letters ++ next.letters) n.first ∙ ap (λ (c : WithRoom). (get_or bs k b).letters ++ c.letters) n.second)

pub neighbours-filled : (bs cs : List WithRoom) (k : ℕ) (b next new : WithRoom) → Neighbours bs cs k b next → new.letters ≡ b.letters ++ next.letters → AllFilled bs → AllFilled (set cs k new)
neighbours-filled bs cs k b next new n is filled =
    let some : 1 ≤ length b.letters = subst (λ (c : WithRoom). 1 ≤ length c.letters) (sym n.first) (filled k b (omega (arith, n.within))) in
    rw n.left
    (All-set (λ (c : WithRoom). 1 ≤ length c.letters) (remove bs (suc k)) k new (omega (arith, ap length is, length-append b.letters next.letters, some))
    (All-append (λ (c : WithRoom). 1 ≤ length c.letters) (take (suc k) bs) (drop (suc (suc k)) bs)
    (All-take (λ (c : WithRoom). 1 ≤ length c.letters) (suc k) bs filled) (All-drop (λ (c : WithRoom). 1 ≤ length c.letters) (suc (suc k)) bs filled)))
