-- A behaviour as contracts see it.
use Rattle.std.specs.Prelude.{ℕ, List, refl}
use Rattle.std.specs.Coded.{Coded, code_by, coded×}
use Rattle.tau_tree.specs.Code.{Code, code_code, word_code}

-- a name, and the expression that it stands for
pub record NamedCode : Type 0 where
  pub name : List ℕ
  pub body : Code

abbrev pub named_code : Coded NamedCode
named_code =
    code_by (List ℕ × Code) (coded× word_code code_code) (λ b. (b.name, b.body)) (λ p. record { name = p.0; body = p.1 }) (λ _. refl)
