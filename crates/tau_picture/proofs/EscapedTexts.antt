-- In an escaped text an ampersand begins an entity, and no angle bracket stands.
use Rattle.std.proofs.Common.{◌≡◌, ◌≢◌, ℕ, Bool, true, false, cond, eqb, List, [], ◌∷◌, ◌++◌, refl, eq-eqb}
use Rattle.std.specs.Prelude.{codes}
use Rattle.tau_svg.specs.Markup.Texts.{escaped_byte, escaped}
use Rattle.tau_picture.specs.Laws.{IsEscaped, ends, ampersand, less, greater, other}

is_other : (b c : ℕ) → eqb b c ≡ false → b ≢ c
is_other b c e = λ g. let t = eq-eqb b c g in cc

byte_escaped : (b : ℕ) (rest : List ℕ) → IsEscaped rest → IsEscaped (escaped_byte b ++ rest)
unfolding escaped_byte
byte_escaped b rest h = by (eqb b 38) (eqb b 60) (eqb b 62) refl refl refl where
  by : (c d e : Bool) → eqb b 38 ≡ c → eqb b 60 ≡ d → eqb b 62 ≡ e → IsEscaped (cond c (codes "&amp;") (cond d (codes "&lt;") (cond e (codes "&gt;") (b ∷ []))) ++ rest)
  by true d e p q r = ampersand h
  by false true e p q r = less h
  by false false true p q r = greater h
  by false false false p q r = other (is_other b 38 p) (is_other b 60 q) (is_other b 62 r) h

pub texts_escaped : (s : List ℕ) → IsEscaped (escaped s)
texts_escaped [] = ends
texts_escaped (b ∷ s) = byte_escaped b (escaped s) (texts_escaped s)
