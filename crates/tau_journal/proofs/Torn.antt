-- What a crash may leave of a disk in memory, by what was written since the last sync.
use Rattle.std.proofs.Common.{◌≡◌, inl, inr, ⊎_elim, ◌⊎◌, ℕ, ◌+◌, ◌-◌, ◌<◌, ◌≤◌, max, min, List, [], ◌∷◌, ◌++◌, length, get_or, take, drop, sym, ◌∙◌, ap, subst, arith, length-append, length-take, length-drop}
use Rattle.std.specs.Prelude.{⊤}
use Rattle.std.proofs.lemmas.List.{take_all, take-take, drop_all, get_or-take, get_or-drop, get_or_append_left, get_or-append_right, ext_get_or}
use Rattle.std.proofs.lemmas.Bool.{cases_lt}
use Rattle.tau_journal.specs.Disk.Bytes.{overwritten, Torn}
use Rattle.tau_journal.specs.Disk.Calls.{held, TornFrom, Left, IsImage, AreWithin}
use Rattle.tau_journal.specs.Disk.Inner.{torn_overwritten, torn_same}
use Rattle.tau_journal.specs.Disk.Torn.{HasNoSync, EndsSynced, furthest, IsUnwritten, IsTorn, ImagesAreTorn}
use Rattle.tau_journal.specs.declared.disk.memory_disk.Call.{Call}
use Rattle.tau_journal.specs.declared.disk.memory_disk.Call.TheVariants.{Looked, Wrote, Tore, Synced}
use Rattle.tau_journal.proofs.Pushed.{held-push}
use Rattle.tau_journal.proofs.Stopped.{torn_wider}

-- what was left by fewer images
left_weaker : (I J : List ℕ → Type 0) → ((c : List ℕ) → I c → J c) → (b : List ℕ) (cs : List Call) (c : List ℕ) → Left I b cs c → Left J b cs c
left_weaker I J is b [] c now = is c now
left_weaker I J is b (Looked ∷ cs) c now = left_weaker I J is b cs c now
left_weaker I J is b (Wrote at bytes ∷ cs) c now =
    left_weaker (TornFrom I at (length bytes)) (TornFrom J at (length bytes)) (λ e x. (x.0, is x.0 x.1, x.2)) (overwritten b at bytes) cs c now
left_weaker I J is b (Tore at bytes ∷ cs) c now = left_weaker (TornFrom I at (length bytes)) (TornFrom J at (length bytes)) (λ e x. (x.0, is x.0 x.1, x.2)) b cs c now
left_weaker I J is b (Synced ∷ cs) c now = now

-- calls behind others
left_split : (I : List ℕ → Type 0) (b : List ℕ) (cs ds : List Call) (c : List ℕ) → Left I b (cs ++ ds) c → Left (λ d. Left I b cs d) (held b cs) ds c
left_split I b [] ds c now = now
left_split I b (Looked ∷ cs) ds c now = left_split I b cs ds c now
left_split I b (Wrote at bytes ∷ cs) ds c now = left_split (TornFrom I at (length bytes)) (overwritten b at bytes) cs ds c now
left_split I b (Tore at bytes ∷ cs) ds c now = left_split (TornFrom I at (length bytes)) b cs ds c now
left_split I b (Synced ∷ cs) ds c now = left_split (λ d. d ≡ b) b cs ds c now

left_joined : (I : List ℕ → Type 0) (b : List ℕ) (cs ds : List Call) (c : List ℕ) → Left (λ d. Left I b cs d) (held b cs) ds c → Left I b (cs ++ ds) c
left_joined I b [] ds c now = now
left_joined I b (Looked ∷ cs) ds c now = left_joined I b cs ds c now
left_joined I b (Wrote at bytes ∷ cs) ds c now = left_joined (TornFrom I at (length bytes)) (overwritten b at bytes) cs ds c now
left_joined I b (Tore at bytes ∷ cs) ds c now = left_joined (TornFrom I at (length bytes)) b cs ds c now
left_joined I b (Synced ∷ cs) ds c now = left_joined (λ d. d ≡ b) b cs ds c now

within_behind : (b : List ℕ) (cs ds : List Call) → AreWithin b (cs ++ ds) → AreWithin (held b cs) ds
within_behind b [] ds within = within
within_behind b (Looked ∷ cs) ds within = within_behind b cs ds within
within_behind b (Wrote at bytes ∷ cs) ds within = within_behind (overwritten b at bytes) cs ds within.1
within_behind b (Tore at bytes ∷ cs) ds within = within_behind b cs ds within.1
within_behind b (Synced ∷ cs) ds within = within_behind b cs ds within

-- a byte outside a write's range
front_byte : (at i : ℕ) (c d : List ℕ) → i < at → take at c ≡ take at d → get_or c i 0 ≡ get_or d i 0
front_byte at i c d l same = sym (get_or-take at c i 0 l) ∙ ap (λ (x : List ℕ). get_or x i 0) same ∙ get_or-take at d i 0 l

back_byte : (end i : ℕ) (c d : List ℕ) → end ≤ i → drop end c ≡ drop end d → get_or c i 0 ≡ get_or d i 0
back_byte end i c d l same =
    let there : end + (i - end) ≡ i = omega (arith, l) in
    let of : (x : List ℕ) → get_or (drop end x) (i - end) 0 ≡ get_or x i 0 = λ x. get_or-drop end x (i - end) 0 ∙ ap (λ (k : ℕ). get_or x k 0) there in
    sym (of c) ∙ ap (λ (x : List ℕ). get_or x (i - end) 0) same ∙ of d

module _ (B : List ℕ) where
  -- no shorter than the synced bytes, no longer than so much, and the same at the open places
  abbrev IsTornTo : ℕ → (ℕ → Type 0) → List ℕ → Type 0
  IsTornTo far Open c = (length B ≤ length c) × (length c ≤ far) × ((i : ℕ) → i < length B → Open i → get_or c i 0 ≡ get_or B i 0)

  module _ (far : ℕ) (Open : ℕ → Type 0) (at n : ℕ) where
    abbrev OpenStill : ℕ → Type 0
    OpenStill i = Open i × ((i < at) ⊎ (at + n ≤ i))

    -- after one write more
    torn_more : (c : List ℕ) → TornFrom (IsTornTo far Open) at n c → IsTornTo (max far (at + n)) OpenStill c
    torn_more c (d, h, torn) = (
      omega (arith, h.0, torn.no_shorter),
      omega (arith, h.1, torn.no_longer),
      λ i l o. ⊎_elim (λ front. front_byte at i c d front torn.before) (λ back. back_byte (at + n) i c d back torn.after) o.1 ∙ h.2 i l o.0,
    )

    -- and each such image comes of one before it
    module _ (c : List ℕ) (within : at ≤ far) (base : length B ≤ far) (h : IsTornTo (max far (at + n)) OpenStill c) where
      short : length c < at → TornFrom (IsTornTo far Open) at n c
      short l = (c, (h.0, omega (arith, l, within), λ i k o. h.2 i k (o, inl (omega (arith, k, h.0, l)))), torn_same at n c)

      module _ (reaches : at ≤ length c) where
        abbrev piece : List ℕ
        piece = take n (drop at B)

        piece_long : length piece ≡ min n (length B - at)
        piece_long = length-take n (drop at B) ∙ ap (min n) (length-drop at B)

        abbrev put_back : List ℕ
        put_back = overwritten c at piece

        back_is : Torn at (length piece) c put_back
        back_is = torn_overwritten c at piece reaches

        as_long : length put_back ≡ length c
        as_long = omega (arith, back_is.no_shorter, back_is.no_longer, piece_long, h.0, reaches)

        byte_in : (i : ℕ) → at ≤ i → i < at + length piece → get_or put_back i 0 ≡ get_or B i 0
        byte_in i l k =
            let front : length (take at c) ≡ at = omega (arith, length-take at c, reaches) in
            let both : length (take at c ++ piece) ≡ at + length piece = omega (arith, length-append (take at c) piece, front) in
            let there : at + (i - at) ≡ i = omega (arith, l) in
            get_or_append_left (take at c ++ piece) (drop (at + length piece) c) 0 i (omega (arith, k, both))
            ∙ get_or-append_right (take at c) piece at i 0 front l
            ∙ get_or-take n (drop at B) (i - at) 0 (omega (arith, k, l, piece_long))
            ∙ get_or-drop at B (i - at) 0 ∙ ap (λ (j : ℕ). get_or B j 0) there

        byte : (i : ℕ) → i < length B → Open i → get_or put_back i 0 ≡ get_or B i 0
        byte i l o = ⊎_elim
            (λ (low : i < at). front_byte at i put_back c low back_is.before ∙ h.2 i l (o, inl low))
            (λ (high : at ≤ i). ⊎_elim
            (λ (in_it : i < at + length piece). byte_in i high in_it)
            (λ (past : at + length piece ≤ i). back_byte (at + length piece) i put_back c past back_is.after ∙ h.2 i l (o, inr (omega (arith, past, l, piece_long))))
            (cases_lt i (at + length piece)))
            (cases_lt i at)

        abbrev earlier : List ℕ
        earlier = take far put_back

        earlier_long : length earlier ≡ min far (length c)
        earlier_long = length-take far put_back ∙ ap (min far) as_long

        tail : drop (at + n) c ≡ drop (at + n) earlier
        tail = ⊎_elim
            (λ (more : far < length c). drop_all (at + n) c (omega (arith, more, h.1)) ∙ sym (drop_all (at + n) earlier (omega (arith, more, h.1, earlier_long))))
            (λ (fits : length c ≤ far). sym (torn_wider at (length piece) n c put_back (omega (arith, piece_long)) back_is).after ∙ ap (drop (at + n)) (sym (take_all far put_back (omega (arith, fits, as_long)))))
            (cases_lt far (length c))

        long : TornFrom (IsTornTo far Open) at n c
        long = (
          earlier,
          (omega (arith, earlier_long, base, h.0), omega (arith, earlier_long), λ i l o. get_or-take far put_back i 0 (omega (arith, l, base)) ∙ byte i l o),
          record {
            before = sym (take-take at far put_back within ∙ back_is.before);
            after = tail;
            no_shorter = omega (arith, earlier_long);
            no_longer = omega (arith, earlier_long, h.1);
          },
        )

      torn_before : TornFrom (IsTornTo far Open) at n c
      torn_before = ⊎_elim (λ (l : length c < at). short l) (λ (r : at ≤ length c). long r) (cases_lt (length c) at)

  held_long : (h : List ℕ) (at : ℕ) (bytes : List ℕ) (far : ℕ) → at ≤ length h → length h ≤ far → length (overwritten h at bytes) ≤ max far (at + length bytes)
  held_long h at bytes far within l = omega (arith, (torn_overwritten h at bytes within).no_longer, l)

  -- after any calls without a sync
  torn_to : (far : ℕ) (Open : ℕ → Type 0) (h : List ℕ) (cs : List Call) (c : List ℕ) → HasNoSync cs → Left (IsTornTo far Open) h cs c → IsTornTo (furthest far cs) (λ i. Open i × IsUnwritten i cs) c
  torn_to far Open h [] c none now = (now.0, now.1, λ i l o. now.2 i l o.0)
  torn_to far Open h (Looked ∷ cs) c none now = torn_to far Open h cs c none now
  torn_to far Open h (Wrote at bytes ∷ cs) c none now =
      let n = length bytes in
      let t = torn_to (max far (at + n)) (OpenStill far Open at n) (overwritten h at bytes) cs c none (left_weaker (TornFrom (IsTornTo far Open) at n) (IsTornTo (max far (at + n)) (OpenStill far Open at n)) (torn_more far Open at n) (overwritten h at bytes) cs c now) in
      (t.0, t.1, λ i l o. t.2 i l ((o.0, o.1.0), o.1.1))
  torn_to far Open h (Tore at bytes ∷ cs) c none now =
      let n = length bytes in
      let t = torn_to (max far (at + n)) (OpenStill far Open at n) h cs c none (left_weaker (TornFrom (IsTornTo far Open) at n) (IsTornTo (max far (at + n)) (OpenStill far Open at n)) (torn_more far Open at n) h cs c now) in
      (t.0, t.1, λ i l o. t.2 i l ((o.0, o.1.0), o.1.1))
  torn_to far Open h (Synced ∷ cs) c none now = absurd none

  torn_from : (far : ℕ) (Open : ℕ → Type 0) (h : List ℕ) (cs : List Call) (c : List ℕ) → HasNoSync cs → AreWithin h cs → length h ≤ far → length B ≤ far
      → IsTornTo (furthest far cs) (λ i. Open i × IsUnwritten i cs) c → Left (IsTornTo far Open) h cs c
  torn_from far Open h [] c none within l base t = (t.0, t.1, λ i k o. t.2 i k (o, tt))
  torn_from far Open h (Looked ∷ cs) c none within l base t = torn_from far Open h cs c none within l base t
  torn_from far Open h (Wrote at bytes ∷ cs) c none within l base t =
      let n = length bytes in
      left_weaker (IsTornTo (max far (at + n)) (OpenStill far Open at n)) (TornFrom (IsTornTo far Open) at n) (λ d x. torn_before far Open at n d (omega (arith, within.0, l)) base x) (overwritten h at bytes) cs c
      (torn_from (max far (at + n)) (OpenStill far Open at n) (overwritten h at bytes) cs c none within.1 (held_long h at bytes far within.0 l) (omega (arith, base)) (t.0, t.1, λ i k o. t.2 i k (o.0.0, (o.0.1, o.1))))
  torn_from far Open h (Tore at bytes ∷ cs) c none within l base t =
      let n = length bytes in
      left_weaker (IsTornTo (max far (at + n)) (OpenStill far Open at n)) (TornFrom (IsTornTo far Open) at n) (λ d x. torn_before far Open at n d (omega (arith, within.0, l)) base x) h cs c
      (torn_from (max far (at + n)) (OpenStill far Open at n) h cs c none within.1 (omega (arith, l)) (omega (arith, base)) (t.0, t.1, λ i k o. t.2 i k (o.0.0, (o.0.1, o.1))))
  torn_from far Open h (Synced ∷ cs) c none within l base t = absurd none

  -- with the synced bytes as the one image before them
  abbrev AnyPlace : ℕ → Type 0
  AnyPlace i = ⊤

  only : (d : List ℕ) → IsTornTo (length B) AnyPlace d → d ≡ B
  only d t = ext_get_or 0 d B (omega (arith, t.0, t.1)) (λ i l. t.2 i (omega (arith, l, t.0, t.1)) tt)

  itself : (d : List ℕ) → d ≡ B → IsTornTo (length B) AnyPlace d
  itself d same = (omega (arith, ap length same), omega (arith, ap length same), λ i l o. ap (λ (x : List ℕ). get_or x i 0) same)

  is_torn : (cs : List Call) (c : List ℕ) → HasNoSync cs → Left (λ d. d ≡ B) B cs c → IsTorn B cs c
  is_torn cs c none now =
      let t = torn_to (length B) AnyPlace B cs c none (left_weaker (λ d. d ≡ B) (IsTornTo (length B) AnyPlace) itself B cs c now) in
      record { no_shorter = t.0; no_longer = t.1; outside = λ i l o. t.2 i l (tt, o) }

  from_torn : (cs : List Call) (c : List ℕ) → HasNoSync cs → AreWithin B cs → IsTorn B cs c → Left (λ d. d ≡ B) B cs c
  from_torn cs c none within t =
      left_weaker (IsTornTo (length B) AnyPlace) (λ d. d ≡ B) only B cs c (torn_from (length B) AnyPlace B cs c none within (omega arith) (omega arith) (t.no_shorter, t.no_longer, λ i l o. t.outside i l o.1))

-- after a sync the bytes are the one image
one_image : (first : List ℕ) (before : List Call) → EndsSynced before → (d : List ℕ) → IsImage first before d → d ≡ held first before
one_image first calls (inl none) d now = subst (λ (l : List Call). d ≡ held first l) (sym none) (subst (λ (l : List Call). IsImage first l d) none now)
one_image first calls (inr (front, is)) d now =
    left_split (λ x. x ≡ first) first front (Synced ∷ []) d (subst (λ (l : List Call). IsImage first l d) is now) ∙ sym (held-push first front Synced) ∙ ap (held first) (sym is)

that_image : (first : List ℕ) (before : List Call) → EndsSynced before → (d : List ℕ) → d ≡ held first before → IsImage first before d
that_image first calls (inl none) d same = subst (λ (l : List Call). IsImage first l d) (sym none) (subst (λ (l : List Call). d ≡ held first l) none same)
that_image first calls (inr (front, is)) d same =
    subst (λ (l : List Call). IsImage first l d) (sym is) (left_joined (λ x. x ≡ first) first front (Synced ∷ []) d (same ∙ ap (held first) is ∙ held-push first front Synced))

pub images_torn : ImagesAreTorn
images_torn first before since c within ends none =
    let B = held first before in (
      λ now. is_torn B since c none (left_weaker (λ d. IsImage first before d) (λ d. d ≡ B) (one_image first before ends) B since c (left_split (λ x. x ≡ first) first before since c now)),
      λ t. left_joined (λ x. x ≡ first) first before since c
          (left_weaker (λ d. d ≡ B) (λ d. IsImage first before d) (that_image first before ends) B since c (from_torn B since c none (within_behind first before since within) t)),
    )
