-- Spelling and first faults, by the reader.
use Rattle.std.proofs.Common.{◌≡◌, ◌≢◌, ℕ, ◌≤◌, List, [], Result, Ok, Err, refl, sym, ap, subst, ◌⊎◌, ⊎_elim, inl, inr, arith}
use Rattle.std.specs.Result.{IfOk, IfErr}
use Rattle.std.specs.List.{All}
use Rattle.tau_sexpr.specs.Tree.{Tree, Trees, inside, items_of-inside, depth_of_all, depths, depth_of_all-inside, HasWords, AllHaveWords, All-items_of}
use Rattle.tau_sexpr.specs.Spelling.{Spells, at_end, at_closing, a_blank, a_comment, a_word, a_text, a_list, IsSpelling, IsUnlessNoMemory}
use Rattle.tau_sexpr.specs.Faults.{place_of, IsFirstFault}
use Rattle.tau_sexpr.specs.Laws.{SpellsOnce, SpellsWithoutFault, HasFormsOrFault, FailsOnce}
use Rattle.tau_sexpr.specs.Inner.Reader.{run, finish, read_all, TellsFormFault, Gives}
use Rattle.tau_sexpr.specs.declared.faults.FormError.{FormError}
use Rattle.tau_sexpr.specs.declared.faults.FormError.TheVariants.{BadByte, Unopened, Unclosed, BadText, TooDeep, NoMemory}
use Rattle.tau_sexpr.proofs.RunLemmas.{run_forms}
use Rattle.tau_sexpr.proofs.SoundLemmas.{read_spells}
use Rattle.tau_sexpr.proofs.FaultLemmas.{Judged, judge_all, one_fault}

-- what is spelled is read
pub spelled_read : (bs : List ℕ) (ts : List Tree) → IsSpelling bs ts → read_all bs ≡ Ok ts
unfolding run finish
spelled_read bs ts h = run_forms h 0 [] [] refl (Ok ts) (λ at. ap (λ us. Ok us) (items_of-inside ts))

one_answer : (r : Result (List Tree) FormError) (ts us : List Tree) → r ≡ Ok ts → r ≡ Ok us → ts ≡ us
one_answer r ts us one two = cc

one_error : (r : Result (List Tree) FormError) (e f : FormError) → r ≡ Err e → r ≡ Err f → e ≡ f
one_error r e f one two = cc

-- the first fault is answered
pub fault_read : (bs : List ℕ) (e : FormError) → IsFirstFault bs e → read_all bs ≡ Err e
fault_read bs e h = by (read_all bs) (judge_all bs)
  where
    by : (r : Result (List Tree) FormError) → Judged bs r → r ≡ Err e
    by (Ok ts) none = absurd (none e h.fault)
    by (Err f) first =
        let one : place_of e ≤ place_of f = h.first f first.fault in
        let two : place_of f ≤ place_of e = first.first e h.fault in
        ap (λ g. Err g) (one_fault bs f e first.fault h.fault (omega arith))

pub read_fault : (bs : List ℕ) (e : FormError) → read_all bs ≡ Err e → IsFirstFault bs e
read_fault bs e h = subst (Judged bs) h (judge_all bs)

pub once : (bs : List ℕ) → SpellsOnce bs
once bs ts us one two = one_answer (read_all bs) ts us (spelled_read bs ts one) (spelled_read bs us two)

pub without_fault : (bs : List ℕ) → SpellsWithoutFault bs
without_fault bs ts e h = subst (Judged bs) (spelled_read bs ts h) (judge_all bs) e

pub forms_or_fault : (bs : List ℕ) → HasFormsOrFault bs
forms_or_fault bs = by (read_all bs) refl
  where
    by : (r : Result (List Tree) FormError) → read_all bs ≡ r → HasFormsOrFault bs
    by (Ok ts) e = inl (ts, read_spells bs ts e)
    by (Err f) e = inr (f, read_fault bs f e)

pub fails_once : (bs : List ℕ) → FailsOnce bs
fails_once bs e f one two = one_error (read_all bs) e f (fault_read bs e one) (fault_read bs f two)

-- the clauses of reading, from what the reader gives
pub answer_spelled : (r : Result (List Tree) FormError) (bs : List ℕ) → Gives r (read_all bs) → IfOk r (λ ts. IsSpelling bs ts)
answer_spelled (Ok ts) bs h = read_spells bs ts h
answer_spelled (Err e) bs h = tt

pub tells : (e : FormError) (r : Result (List Tree) FormError) → TellsFormFault e r → e ≢ NoMemory → r ≡ Err e
tells (BadByte p) r h ne = h
tells (Unopened p) r h ne = h
tells (Unclosed p) r h ne = h
tells (BadText p) r h ne = h
tells (TooDeep p) r h ne = h
tells NoMemory r h ne = absurd (ne refl)

tells_or : (e : FormError) (r : Result (List Tree) FormError) → TellsFormFault e r → (r ≡ Err e) ⊎ (e ≡ NoMemory)
tells_or (BadByte p) r h = inl h
tells_or (Unopened p) r h = inl h
tells_or (Unclosed p) r h = inl h
tells_or (BadText p) r h = inl h
tells_or (TooDeep p) r h = inl h
tells_or NoMemory r h = inr refl

-- an answer is what the reader gives, but for want of memory
gives_or : (r z : Result (List Tree) FormError) → Gives r z → IsUnlessNoMemory r z
gives_or (Ok ts) z h = inl (sym h)
gives_or (Err e) z h = ⊎_elim (λ same. inl (sym same)) (λ out. inr (ap (λ f. Err f) out)) (tells_or e z h)

pub answer_read : (r : Result (List Tree) FormError) (bs : List ℕ) → Gives r (read_all bs) → (ts : List Tree) → IsSpelling bs ts → IsUnlessNoMemory r (Ok ts)
answer_read r bs h ts spelled = subst (IsUnlessNoMemory r) (spelled_read bs ts spelled) (gives_or r (read_all bs) h)

pub answer_faulty : (r : Result (List Tree) FormError) (bs : List ℕ) → Gives r (read_all bs) → IfErr r (λ e. e ≢ NoMemory → IsFirstFault bs e)
answer_faulty (Ok ts) bs h = tt
answer_faulty (Err e) bs h = λ ne. read_fault bs e (tells e (read_all bs) h ne)

pub answer_first : (r : Result (List Tree) FormError) (bs : List ℕ) → Gives r (read_all bs) → (e : FormError) → IsFirstFault bs e → IsUnlessNoMemory r (Err e)
answer_first r bs h e first = subst (IsUnlessNoMemory r) (fault_read bs e first) (gives_or r (read_all bs) h)

-- no list is deeper than may be, and no word is empty
spelled_depth : {d : ℕ} {bs rest : List ℕ} {ts : Trees} → Spells d bs ts rest → depth_of_all ts ≤ d
spelled_depth at_end = omega arith
spelled_depth at_closing = omega arith
spelled_depth (a_blank is spelled) = spelled_depth spelled
spelled_depth (a_comment line bs all ends spelled) = spelled_depth spelled
spelled_depth (a_word w bs all ends spelled) = let h = spelled_depth spelled in omega arith
spelled_depth (a_text quotes spelled) = let h = spelled_depth spelled in omega arith
spelled_depth (a_list inner spelled) = let g = spelled_depth inner in let h = spelled_depth spelled in omega arith

spelled_words : {d : ℕ} {bs rest : List ℕ} {ts : Trees} → Spells d bs ts rest → AllHaveWords ts
spelled_words at_end = tt
spelled_words at_closing = tt
spelled_words (a_blank is spelled) = spelled_words spelled
spelled_words (a_comment line bs all ends spelled) = spelled_words spelled
spelled_words (a_word w bs all ends spelled) = (λ h. cc, spelled_words spelled)
spelled_words (a_text quotes spelled) = (tt, spelled_words spelled)
spelled_words (a_list inner spelled) = (spelled_words inner, spelled_words spelled)

pub answer_depth : (r : Result (List Tree) FormError) (bs : List ℕ) → Gives r (read_all bs) → IfOk r (λ ts. depths ts ≤ 200)
answer_depth (Ok ts) bs h = let deep = spelled_depth (read_spells bs ts h) in omega (arith, depth_of_all-inside ts)
answer_depth (Err e) bs h = tt

pub answer_words : (r : Result (List Tree) FormError) (bs : List ℕ) → Gives r (read_all bs) → IfOk r (λ ts. All HasWords ts)
answer_words (Ok ts) bs h = subst (All HasWords) (items_of-inside ts) (All-items_of (inside ts) (spelled_words (read_spells bs ts h)))
answer_words (Err e) bs h = tt
