-- Document 02's own examples, ticket by ticket.
use mathlib.Core.List.{List, [], ◌∷◌, ◌++◌}
use Rattle.rules.specs.Tariff.{cents_of}
use Rattle.rules.proofs.Events.{bill, payment, payment_at, returned, returned_at, certificate, moved, times, owed, receipt, Case, ends, shows, bills}
use Rattle.rules.proofs.Dates.{full_from}

abbrev pub tickets : List Case
tickets =
    bills "1: class 1 at 1,000" 1 1_000 8_341
    ∷ bills "1: class 3 at 60,000" 3 60_000 390_418
    ∷ shows "1: posted as before" owed (bill 0 (cents_of 1 1_000) ∷ []) 8_341
    ∷ shows "3: each till counts from 1" receipt (payment 0 9 ∷ payment 0 9 ∷ payment_at 4 0 9 ∷ []) 1
    ∷ shows "3: option 0 is till 0" receipt (payment 0 9 ∷ payment_at 4 0 9 ∷ payment 0 9 ∷ []) 2
    ∷ ends "3: a return names its till" (payment 0 9 ∷ payment_at 4 0 9 ∷ payment_at 4 0 9 ∷ returned_at 4 0 2 ∷ []) 0
    ∷ ends "3: a stored return finds only 16" (times 20 (payment 0 9 ∷ []) ++ (returned 0 1 ∷ [])) 6
    ∷ ends "3: an option over 4, of a payment" (payment_at 5 0 9 ∷ []) 3
    ∷ ends "3: an option over 4, of a return" (payment 0 9 ∷ returned_at 5 0 1 ∷ []) 3
    ∷ ends "6: 90 days on day 9,497" (certificate 9_497 90 ∷ []) 0
    ∷ ends "6: more than 90 days on day 9,497" (certificate 9_497 91 ∷ []) 3
    ∷ ends "7: full on 29 February 2024, the day before 1 March 2025" (full_from 8_825 ++ (moved 9_190 ∷ [])) 8
    ∷ ends "7: full on 29 February 2024, from 1 March 2025" (full_from 8_825 ++ (moved 9_191 ∷ [])) 0
    ∷ ends "7: full on 1 March 2023, the day before 1 March 2024" (full_from 8_460 ++ (moved 8_825 ∷ [])) 8
    ∷ ends "7: full on 1 March 2023, from 1 March 2024" (full_from 8_460 ++ (moved 8_826 ∷ [])) 0
    ∷ ends "7: a date after 31 December 2199" (full_from 72_684 ++ (moved 73_048 ∷ [])) 8
    ∷ []
