-- An event that is no certificate and no approval.
use mathlib.Core.Path.{◌≡◌}
use mathlib.Core.Bool.{false, ◌||◌}
use native.Mathlib.Omega.{arith}
use Rattle.rules.specs.declared.Event.{Event}
use Rattle.rules.specs.Kinds.{certificate, approval}
use Rattle.rules.specs.History.{is}
use Rattle.medical.specs.declared.Medical.{Medical}
use Rattle.medical.specs.Medical.{medical_after}

-- an event of another kind leaves the part as it is
pub untouched : (m : Medical) (e : Event) → (is certificate e || is approval e) ≡ false → m ≡ medical_after m e
untouched m e f = grind arith
