-- Service on, off or closed.
use Rattle.std.specs.Prelude.{ℕ, Bool, true, false, cond, List, [], ◌∷◌}
use Rattle.basics.specs.Ascii.{ascii}
use Rattle.rules.specs.declared.Service.{Service}
use Rattle.rules.specs.declared.Service.TheVariants.{On, Off, Closed}
use Rattle.rules.specs.Kinds.{disconnection, reconnection, closing}
use Rattle.rules.specs.History.{History, is}

-- as the last event that sets it says, on if none does
abbrev pub service : History → Service
service [] = On
service (e ∷ h) =
    cond (is disconnection e) Off
    (cond (is reconnection e) On
    (cond (is closing e) Closed
    (service h)))

abbrev pub is_on : Service → Bool
is_on On = true
is_on Off = false
is_on Closed = false

abbrev pub is_off : Service → Bool
is_off On = false
is_off Off = true
is_off Closed = false

-- closed is neither on nor off
abbrev pub is_closed : Service → Bool
is_closed On = false
is_closed Off = false
is_closed Closed = true

-- the word that `standing` prints
abbrev pub word_of : Service → List ℕ
word_of On = ascii "on"
word_of Off = ascii "off"
word_of Closed = ascii "closed"
