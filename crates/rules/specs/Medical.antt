-- Medical certificates and the superintendent's approvals.
use Rattle.std.specs.Prelude.{ℕ, ◌+◌, Bool, ◌&&◌, leb, ltb}
use Rattle.std.specs.List.{list_any}
use Rattle.rules.specs.declared.Event.{Event}
use Rattle.rules.specs.Kinds.{certificate, approval}
use Rattle.rules.specs.History.{History, is, since}

-- t lies in e's day to e's day + n − 1, n being e's amount
unfoldable pub covers : Event → ℕ → Bool
covers e t = leb e.day t && ltb t (e.day + e.amount)

-- some certificate is live on t; a later one does not end it
abbrev pub certified : History → ℕ → Bool
certified h t = list_any (λ e. is certificate e && covers e t) h

-- an approval posted after the last certificate covers t: a certificate voids the approvals before it
abbrev pub approved : History → ℕ → Bool
approved h t = list_any (λ e. is approval e && covers e t) (since (is certificate) h)
