-- The three classes as the code names them; rules/specs/Tariff.antt has what each pays.
use Rattle.std.specs.Prelude.{ℕ, ◌≡◌, false, Result, MatchResult}
use Rattle.rules.specs.Tariff.{is_class}
use Rattle.tariff.specs.declared.classes.Class.{Class}
use Rattle.tariff.specs.declared.classes.Class.TheVariants.{Residential, SinglePhase, ThreePhase}
use Rattle.tariff.specs.declared.classes.UnknownClass.{UnknownClass}

-- the rules' number of a class
abbrev pub class_number : Class → ℕ
class_number Residential = 1
class_number SinglePhase = 2
class_number ThreePhase = 3

-- the class that has the number, or the number of none
abbrev pub Decodes : ℕ → Result Class UnknownClass → Type 0
Decodes n r = MatchResult r (λ c. class_number c ≡ n) (λ e. (e.0 ≡ n) × (is_class n ≡ false))
