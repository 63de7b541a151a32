use Rattle.std.proofs.Common.{◌≡◌, ◌≢◌, ◌↔◌, ◌∙◌, Bool, true, false, not, true≢false, List, [], ◌∷◌, length, IsTrue, arith, refl, sym, ap}
use Rattle.tau_seat.proofs.seat_book.knows_still.Goals as goal

-- where it isn't so that some are there, none are
none_there : {X : Type 0} (b : Bool) (xs : List X) → (IsTrue b ↔ (xs ≢ [])) → IsTrue (not b) → xs ≡ []
none_there b [] iff e = refl
none_there true (x ∷ xs) iff e = absurd (true≢false (sym e))
none_there false (x ∷ xs) iff e = absurd (true≢false (sym (iff.1 (λ same. omega (arith, ap length same)))))

pub returns-then-knows-clause-none_back : goal.returns-then-knows-clause-none_back
returns-then-knows-clause-none_back g c = none_there c.has_returned-has_returned.result c.args.book.now.store c.has_returned-has_returned.ensures

-- where none are there, it is not so that some are
nothing_there : {X : Type 0} (b : Bool) (xs : List X) → (IsTrue b ↔ (xs ≢ [])) → xs ≡ [] → not b ≡ true
nothing_there false xs iff none = refl
nothing_there true xs iff none = absurd (iff.0 refl none)

pub returns-then-knows-clause-on : goal.returns-then-knows-clause-on
returns-then-knows-clause-on g c = λ none. nothing_there c.has_returned-has_returned.result c.args.book.now.store c.has_returned-has_returned.ensures none ∙ sym c.if-knows.true
