use Rattle.std.proofs.Common.{◌↔◌, ℕ, [], ◌∷◌, List, IsTrue, sym, ◌∙◌, subst}
use Rattle.std.specs.Prelude.{Contains}
use Rattle.tau_trace.specs.Run.{len}
use Rattle.tau_past.specs.Decisions.{fall, drop, take}
use Rattle.tau_versions.specs.Logs.Told.{Told}
use Rattle.tau_versions.specs.Search.Numbered.{with_version, later}
use Rattle.tau_versions.specs.Search.Searching.{Finds, FoundNone, is_fallen}
use Rattle.tau_heard.proofs.Decisions.{falls_found, drops_found}
use Rattle.tau_heard.proofs.hearing.Hearing.search_verdict.Goals as goal

pub finds_fallen-requires : goal.finds_fallen-requires
finds_fallen-requires c =
    let both : ℕ → ℕ = later (with_version c.heard_of-own.result.who c.heard_of-own.result.version c.heard_of-own.result.numbers.now) (with_version c.heard_by.result.who c.heard_by.result.version c.heard_by.result.numbers.now) in
    let F : List Told → Type 0 = λ logs. FoundNone is_fallen logs both c.in_ok-search.search in subst F (c.deref.ensures.value ∙ sym c.deref-2.ensures.value) (c.in_ok-search.ensures is_fallen both)

pub returns-then-branch : goal.returns-then-branch
returns-then-branch c =
    let F : List Told → Type 0 = λ logs. IsTrue c.in_ok-finds_fallen.field-0 ↔ Finds is_fallen logs (later (with_version c.heard_of-own.result.who c.heard_of-own.result.version c.heard_of-own.result.numbers.now) (with_version c.heard_by.result.who c.heard_by.result.version c.heard_by.result.numbers.now)) (Contains (c.point_of-me.result ∷ [])) in
    let falls =
    falls_found c.args.trace.now.run c.args.self.now c.requires.knows c.args.who c.requires.exists c.len-steps.ensures.well_formed c.requires.rules
    (with_version c.heard_of-own.result.who c.heard_of-own.result.version c.heard_of-own.result.numbers.now) c.heard_of-own.ensures c.point_of-me.result c.point_of-me.ensures c.args.message c.requires.in_flight c.letter_of-letter.result.now c.letter_of-letter.ensures
    (with_version c.heard_by.result.who c.heard_by.result.version c.heard_by.result.numbers.now)
    (c.heard_by.ensures c.args.trace.now.run c.args.message (len c.args.trace.now.run) c.args.self.now.logs.items (c.requires.knows.letter c.args.message c.letter_of-letter.result.now c.letter_of-letter.ensures).heard)
    c.in_ok-finds_fallen.field-0 (subst F c.deref-2.ensures.value c.in_ok-finds_fallen.ensures.found) in
    fall (falls.0 c.if-branch.true)

pub returns-then-branch-2 : goal.returns-then-branch-2
returns-then-branch-2 c =
    let F : List Told → Type 0 = λ logs. IsTrue c.in_ok-finds_fallen.field-0 ↔ Finds is_fallen logs (later (with_version c.heard_of-own.result.who c.heard_of-own.result.version c.heard_of-own.result.numbers.now) (with_version c.heard_by.result.who c.heard_by.result.version c.heard_by.result.numbers.now)) (Contains (c.point_of-me.result ∷ [])) in
    let falls =
    falls_found c.args.trace.now.run c.args.self.now c.requires.knows c.args.who c.requires.exists c.len-steps.ensures.well_formed c.requires.rules
    (with_version c.heard_of-own.result.who c.heard_of-own.result.version c.heard_of-own.result.numbers.now) c.heard_of-own.ensures c.point_of-me.result c.point_of-me.ensures c.args.message c.requires.in_flight c.letter_of-letter.result.now c.letter_of-letter.ensures
    (with_version c.heard_by.result.who c.heard_by.result.version c.heard_by.result.numbers.now)
    (c.heard_by.ensures c.args.trace.now.run c.args.message (len c.args.trace.now.run) c.args.self.now.logs.items (c.requires.knows.letter c.args.message c.letter_of-letter.result.now c.letter_of-letter.ensures).heard)
    c.in_ok-finds_fallen.field-0 (subst F c.deref-2.ensures.value c.in_ok-finds_fallen.ensures.found) in
    let G : List Told → Type 0 = λ logs. IsTrue c.in_ok-finds_fallen_root.field-0 ↔ Finds is_fallen logs (later (with_version c.heard_of-own.result.who c.heard_of-own.result.version c.heard_of-own.result.numbers.now) (with_version c.heard_by.result.who c.heard_by.result.version c.heard_by.result.numbers.now)) (Contains c.letter_of-letter.result.now.roots) in
    let drops =
    drops_found c.args.trace.now.run c.args.self.now c.requires.knows c.args.who c.requires.exists c.len-steps.ensures.well_formed c.requires.rules
    (with_version c.heard_of-own.result.who c.heard_of-own.result.version c.heard_of-own.result.numbers.now) c.heard_of-own.ensures c.point_of-me.result c.point_of-me.ensures c.args.message c.requires.in_flight c.letter_of-letter.result.now c.letter_of-letter.ensures
    (with_version c.heard_by.result.who c.heard_by.result.version c.heard_by.result.numbers.now)
    (c.heard_by.ensures c.args.trace.now.run c.args.message (len c.args.trace.now.run) c.args.self.now.logs.items (c.requires.knows.letter c.args.message c.letter_of-letter.result.now c.letter_of-letter.ensures).heard)
    c.in_ok-finds_fallen_root.field-0 (subst G c.deref-3.ensures.value c.in_ok-finds_fallen_root.ensures) in
    drop (λ f. absurd (let clash = sym c.if-branch.false ∙ falls.1 f in cc)) (drops.0 c.if-branch-2.true)

pub returns : goal.returns
returns c =
    let F : List Told → Type 0 = λ logs. IsTrue c.in_ok-finds_fallen.field-0 ↔ Finds is_fallen logs (later (with_version c.heard_of-own.result.who c.heard_of-own.result.version c.heard_of-own.result.numbers.now) (with_version c.heard_by.result.who c.heard_by.result.version c.heard_by.result.numbers.now)) (Contains (c.point_of-me.result ∷ [])) in
    let falls =
    falls_found c.args.trace.now.run c.args.self.now c.requires.knows c.args.who c.requires.exists c.len-steps.ensures.well_formed c.requires.rules
    (with_version c.heard_of-own.result.who c.heard_of-own.result.version c.heard_of-own.result.numbers.now) c.heard_of-own.ensures c.point_of-me.result c.point_of-me.ensures c.args.message c.requires.in_flight c.letter_of-letter.result.now c.letter_of-letter.ensures
    (with_version c.heard_by.result.who c.heard_by.result.version c.heard_by.result.numbers.now)
    (c.heard_by.ensures c.args.trace.now.run c.args.message (len c.args.trace.now.run) c.args.self.now.logs.items (c.requires.knows.letter c.args.message c.letter_of-letter.result.now c.letter_of-letter.ensures).heard)
    c.in_ok-finds_fallen.field-0 (subst F c.deref-2.ensures.value c.in_ok-finds_fallen.ensures.found) in
    let G : List Told → Type 0 = λ logs. IsTrue c.in_ok-finds_fallen_root.field-0 ↔ Finds is_fallen logs (later (with_version c.heard_of-own.result.who c.heard_of-own.result.version c.heard_of-own.result.numbers.now) (with_version c.heard_by.result.who c.heard_by.result.version c.heard_by.result.numbers.now)) (Contains c.letter_of-letter.result.now.roots) in
    let drops =
    drops_found c.args.trace.now.run c.args.self.now c.requires.knows c.args.who c.requires.exists c.len-steps.ensures.well_formed c.requires.rules
    (with_version c.heard_of-own.result.who c.heard_of-own.result.version c.heard_of-own.result.numbers.now) c.heard_of-own.ensures c.point_of-me.result c.point_of-me.ensures c.args.message c.requires.in_flight c.letter_of-letter.result.now c.letter_of-letter.ensures
    (with_version c.heard_by.result.who c.heard_by.result.version c.heard_by.result.numbers.now)
    (c.heard_by.ensures c.args.trace.now.run c.args.message (len c.args.trace.now.run) c.args.self.now.logs.items (c.requires.knows.letter c.args.message c.letter_of-letter.result.now c.letter_of-letter.ensures).heard)
    c.in_ok-finds_fallen_root.field-0 (subst G c.deref-3.ensures.value c.in_ok-finds_fallen_root.ensures) in
    take (λ f. absurd (let clash = sym c.if-branch.false ∙ falls.1 f in cc)) (λ f. absurd (let clash = sym c.if-branch-2.false ∙ drops.1 f in cc))
