-- What a program is revived to, by the cursor at the end of the run.
use Rattle.std.proofs.Common.{◌≡◌, ℕ, ◌+◌, ◌≤◌, List, length, sym, ap, ◌∙◌, subst}
use Rattle.tau_value.specs.declared.limits.TheConstants.{ENTRY_LIMIT}
use Rattle.tau_tree.specs.declared.entries.Entry.{Entry}
use Rattle.tau_tree.specs.declared.programs.Program.{Program}
use Rattle.tau_tree.specs.Sound.{Sound}
use Rattle.tau_trace.specs.Run.{Run, len}
use Rattle.tau_script.specs.declared.cursor.Cursor.{Cursor}
use Rattle.tau_script.specs.Cursors.{CursorAt}
use Rattle.tau_revival.specs.Revival.{IsRevival, LeadsOn, revived}
use Rattle.tau_revival.specs.Laws.{RevivalKeepsDue}
use Rattle.tau_revival.proofs.Keeping.{sound_revived}

module _ (P : Program) (T : Run) (c : Cursor) (at : CursorAt P.script T (len T) c) (few : length P.script + P.nodes ≤ ENTRY_LIMIT) (Q : Program) (is : Q ≡ record P { script = revived P.script P.nodes (len T) c.entry }) where
  pub is_revival : IsRevival P T Q
  is_revival = record { cursor = c; stands = at; few = few; is = is }

  pub is_sound : Sound P → Sound Q
  is_sound sound = subst Sound (sym is) (sound_revived P (len T) c.entry sound few)

  pub leads_on : RevivalKeepsDue → Sound P → LeadsOn Q.script T c
  leads_on law sound = subst (λ (S : List Entry). LeadsOn S T c) (sym (ap (λ (X : Program). X.script) is)) (law P.script T P.nodes c sound.some_nodes at).goes_on

-- with the script that was made
pub made_of : (P : Program) (n m e : ℕ) (S : List Entry) (Q : Program) → Q ≡ record P { script = S } → S ≡ revived P.script P.nodes m e → m ≡ n → Q ≡ record P { script = revived P.script P.nodes n e }
made_of P n m e S Q is script same = is ∙ ap (λ (R : List Entry). record P { script = R }) (script ∙ ap (λ (k : ℕ). revived P.script P.nodes k e) same)
