-- Texts of sample books, which the checker computes: document 01's worked example, and ours.
use Prim.Native.Nat.{ℕ}
use mathlib.Core.Path.{◌≡◌, refl}
use mathlib.Core.List.{[], ◌∷◌}
use Rattle.std.specs.Fmt.{digits}
use Rattle.basics.specs.Ascii.{ascii}
use Rattle.rules.specs.declared.Event.{Event}
use Rattle.rules.specs.Table.{refusal_by}
use Rattle.rules.specs.History.{within, total}
use Rattle.rules.specs.Range.{in_range}
use Rattle.little.specs.Little.{num, un, le}
use Rattle.bookformat.specs.Book.{AccountList, encode}
use Rattle.report.specs.Report.{line_of, listing, refused_text, text_of}

abbrev event : ℕ → ℕ → ℕ → ℕ → Event
event k o t m = record { kind = k; option = o; day = t; amount = m }

-- bill 10,000 day 100, bill 5,000 day 130, payment 4,000 day 131, disconnection day 131
abbrev worked : AccountList
worked = (event 1 0 100 10000 ∷ event 1 0 130 5000 ∷ event 2 0 131 4000 ∷ event 14 0 131 0 ∷ []) ∷ []

pub worked_example : text_of (encode worked) ≡ ascii "account owed held open service refused\n0 11075 0 2 on 1\n"
unfolding num un le digits line_of listing refusal_by in_range within total
worked_example = refl

-- a credit with a deposit held; no events; closed, and nothing goes in after it
abbrev three : AccountList
three =
    (event 2 0 0 150 ∷ event 5 0 1 700 ∷ event 6 0 2 40 ∷ [])
    ∷ []
    ∷ (event 16 0 5 0 ∷ event 1 0 6 100 ∷ event 16 0 7 0 ∷ [])
    ∷ []

pub three_accounts : text_of (encode three) ≡ ascii "account owed held open service refused\n0 -150 40 0 on 0\n1 0 0 0 on 0\n2 0 0 0 closed 2\n"
unfolding num un le digits line_of listing refusal_by in_range within total
three_accounts = refl

pub no_bytes : text_of [] ≡ ascii "book refused 20\n"
unfolding num un digits refused_text
no_bytes = refl

-- kind 17
pub unknown_kind : text_of (encode ((event 17 0 0 0 ∷ []) ∷ [])) ≡ ascii "book refused 21\n"
unfolding num un le digits refused_text
unknown_kind = refl
