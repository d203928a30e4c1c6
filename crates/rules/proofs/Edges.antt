-- Our own cases: both sides of every bound of the rules. The papers' examples alone pin the rules weakly.
use Prim.Native.Nat.{ℕ}
use mathlib.Core.List.{List, [], ◌∷◌, ◌++◌}
use Rattle.std.specs.Prelude.{Some, None}
use Rattle.rules.specs.declared.Event.{Event}
use Rattle.rules.specs.Tariff.{no_line}
use Rattle.rules.proofs.Events.{
  event,
  bill,
  payment,
  returned,
  payment_at,
  returned_at,
  fee,
  asked_deposit,
  paid,
  moved,
  payout,
  certificate,
  approval,
  arrangement,
  notice,
  call,
  cut_off,
  reconnection,
  close,
  times,
  receipt,
  owed,
  credit,
  held,
  required,
  open_count,
  open_day,
  open_part,
  arrears,
  service_is,
  live,
  certified,
  stands,
  refused,
  Case,
  ends,
  shows,
  gives,
  bills,
  unbilled,
  uses,
  prices,
  finds,
  finds_some,
  pays_for,
  unread,
}
use Rattle.rules.proofs.Paper.{b, d}

-- a full deposit of 100 on day 0
abbrev pub full : List Event
full = asked_deposit 0 100 ∷ paid 0 100 ∷ []

-- events of day t that make no item
abbrev quiet : ℕ → List Event
quiet t = asked_deposit t 9 ∷ paid t 9 ∷ certificate t 1 ∷ approval t 1 ∷ payment t 1 ∷ []

-- the same, and some that make one
abbrev common : ℕ → List Event
common t = quiet t ++ (returned t 1 ∷ fee t 1 ∷ bill t 9 ∷ [])

-- 64 open items of day 0
abbrev crowd : List Event
crowd = times 64 (fee 0 1 ∷ [])

-- payments of 990,000,000,000
abbrev pub rich : List Event
rich = times 99 (payment 0 10000000000 ∷ [])

-- bills of 990,000,000,000, each paid
abbrev settled : List Event
settled = times 99 (bill 0 10000000000 ∷ payment 0 10000000000 ∷ [])

abbrev days : List Case
days =
    ends "the last day" (call 73048 ∷ []) 0
    ∷ ends "the same day again" (call 5 ∷ call 5 ∷ []) 0
    ∷ shows "a refused event has no day" refused (call 5 ∷ bill 9 0 ∷ call 5 ∷ []) 1
    ∷ []

abbrev ranges : List Case
ranges =
    ends "kind 0" (event 0 0 0 0 ∷ []) 3
    ∷ ends "kind 17" (event 17 0 0 0 ∷ []) 3
    ∷ ends "kind 255" (event 255 0 0 1 ∷ []) 3
    ∷ ends "largest bill" (bill 0 10000000000 ∷ []) 0
    ∷ ends "bill too large" (bill 0 10000000001 ∷ []) 3
    ∷ ends "bill with an option" (event 1 0 1 5 ∷ []) 3
    ∷ ends "no payment" (payment 0 0 ∷ []) 3
    ∷ ends "largest payment" (payment 0 10000000000 ∷ []) 0
    ∷ ends "payment too large" (payment 0 10000000001 ∷ []) 3
    ∷ ends "payment with an option, which is its till" (event 2 0 1 5 ∷ []) 0
    ∷ ends "payment at the last till" (payment_at 4 0 5 ∷ []) 0
    ∷ ends "payment past the last till" (payment_at 5 0 5 ∷ []) 3
    ∷ ends "payment at no till there could be" (payment_at 255 0 5 ∷ []) 3
    ∷ ends "no payment at the last till" (payment_at 4 0 0 ∷ []) 3
    ∷ ends "largest payment at the last till" (payment_at 4 0 10000000000 ∷ []) 0
    ∷ ends "payment too large at the last till" (payment_at 4 0 10000000001 ∷ []) 3
    ∷ ends "receipt 0" (returned 0 0 ∷ []) 3
    ∷ ends "a receipt over the largest amount" (returned 0 10000000001 ∷ []) 6
    ∷ ends "any receipt is in range" (returned 0 10000000002 ∷ []) 6
    ∷ ends "the largest receipt" (returned 0 18446744073709551615 ∷ []) 6
    ∷ ends "returned with an option, which is its till" (event 3 0 1 1 ∷ []) 6
    ∷ ends "returned at the last till" (payment_at 4 0 9 ∷ returned_at 4 0 1 ∷ []) 0
    ∷ ends "returned past the last till" (payment_at 4 0 9 ∷ returned_at 5 0 1 ∷ []) 3
    ∷ ends "returned at no till there could be" (returned_at 255 0 1 ∷ []) 3
    ∷ ends "receipt 0 at the last till" (returned_at 4 0 0 ∷ []) 3
    ∷ ends "the largest receipt at the last till" (returned_at 4 0 18446744073709551615 ∷ []) 6
    ∷ ends "fee 0" (fee 0 0 ∷ []) 3
    ∷ ends "fee 1" (fee 0 1 ∷ []) 0
    ∷ ends "fee 3" (fee 0 3 ∷ []) 0
    ∷ ends "fee 4" (fee 0 4 ∷ []) 3
    ∷ ends "fee with an amount" (event 4 0 1 1 ∷ []) 3
    ∷ ends "no deposit asked" (asked_deposit 0 0 ∷ []) 3
    ∷ ends "largest deposit asked" (asked_deposit 0 100000000 ∷ []) 0
    ∷ ends "deposit asked too large" (asked_deposit 0 100000001 ∷ []) 3
    ∷ ends "deposit asked with an option" (event 5 0 1 1 ∷ []) 3
    ∷ ends "no deposit paid" (paid 0 0 ∷ []) 3
    ∷ ends "largest deposit paid" (paid 0 10000000000 ∷ []) 7
    ∷ ends "largest deposit paid that is required" (asked_deposit 0 100000000 ∷ paid 0 100000000 ∷ []) 0
    ∷ ends "deposit paid too large" (paid 0 10000000001 ∷ []) 3
    ∷ ends "deposit paid with an option" (event 6 0 1 1 ∷ []) 3
    ∷ ends "deposit moved with an option" (event 7 0 1 0 ∷ []) 3
    ∷ ends "deposit moved with an amount" (event 7 0 0 1 ∷ []) 3
    ∷ ends "no payout" (payout 0 0 ∷ []) 3
    ∷ ends "largest payout" (payout 0 10000000000 ∷ []) 7
    ∷ ends "largest payout of a credit" (payment 0 10000000000 ∷ payout 0 10000000000 ∷ []) 0
    ∷ ends "payout too large" (payout 0 10000000001 ∷ []) 3
    ∷ ends "payout with an option" (event 8 0 1 1 ∷ []) 3
    ∷ ends "certificate of 0 days" (certificate 0 0 ∷ []) 3
    ∷ ends "certificate of 180 days" (certificate 0 180 ∷ []) 0
    ∷ ends "certificate of 181 days" (certificate 0 181 ∷ []) 3
    ∷ ends "certificate of 180 days on day 9,496" (certificate 9_496 180 ∷ []) 0
    ∷ ends "certificate of 181 days on day 9,496" (certificate 9_496 181 ∷ []) 3
    ∷ ends "certificate of 180 days on day 9,497" (certificate 9_497 180 ∷ []) 3
    ∷ ends "certificate of 181 days on day 9,497" (certificate 9_497 181 ∷ []) 3
    ∷ ends "certificate of 0 days on day 9,497" (certificate 9_497 0 ∷ []) 3
    ∷ ends "certificate with an option on day 9,497" (event 9 9_497 1 1 ∷ []) 3
    ∷ ends "certificate of 91 days on 1 January 2027" (certificate 9_862 91 ∷ []) 3
    ∷ ends "certificate of 90 days on the last day" (certificate 73_048 90 ∷ []) 0
    ∷ ends "certificate of 91 days on the last day" (certificate 73_048 91 ∷ []) 3
    ∷ ends "approval of 30 days on day 9,497" (approval 9_497 30 ∷ []) 0
    ∷ ends "approval of 31 days on day 9,497" (approval 9_497 31 ∷ []) 3
    ∷ ends "arrangement in 6 parts on day 9,497" (bill 9_477 60 ∷ arrangement 9_497 6 ∷ []) 0
    ∷ ends "payment of 91 cents on day 9,497" (payment 9_497 91 ∷ []) 0
    ∷ ends "certificate with an option" (event 9 0 1 1 ∷ []) 3
    ∷ ends "approval of 0 days" (approval 0 0 ∷ []) 3
    ∷ ends "approval of 30 days" (approval 0 30 ∷ []) 0
    ∷ ends "approval of 31 days" (approval 0 31 ∷ []) 3
    ∷ ends "approval with an option" (event 10 0 1 1 ∷ []) 3
    ∷ ends "arrangement in 1 part" (arrangement 0 1 ∷ []) 3
    ∷ ends "arrangement in 2 parts" (bill 0 60 ∷ arrangement 20 2 ∷ []) 0
    ∷ ends "arrangement in 6 parts" (bill 0 60 ∷ arrangement 20 6 ∷ []) 0
    ∷ ends "arrangement in 7 parts" (arrangement 0 7 ∷ []) 3
    ∷ ends "arrangement with an amount" (event 11 0 2 1 ∷ []) 3
    ∷ ends "notice with an option" (event 12 0 1 0 ∷ []) 3
    ∷ ends "notice with an amount" (event 12 0 0 1 ∷ []) 3
    ∷ ends "call with an option" (event 13 0 1 0 ∷ []) 3
    ∷ ends "call with an amount" (event 13 0 0 1 ∷ []) 3
    ∷ ends "cut with an option" (event 14 0 1 0 ∷ []) 3
    ∷ ends "cut with an amount" (event 14 0 0 1 ∷ []) 3
    ∷ ends "reconnection 2" (reconnection 0 2 ∷ []) 3
    ∷ ends "reconnection with an amount" (event 15 0 0 1 ∷ []) 3
    ∷ ends "close with an option" (event 16 0 1 0 ∷ []) 3
    ∷ ends "close with an amount" (event 16 0 0 1 ∷ []) 3
    ∷ []

abbrev charges : List Case
charges =
    shows "fee 1" owed (fee 0 1 ∷ []) 7500
    ∷ shows "fee 2" owed (fee 0 2 ∷ []) 15000
    ∷ shows "fee 3" owed (fee 0 3 ∷ []) 3000
    ∷ shows "a notice's fee" owed b 7500
    ∷ shows "a returned payment and its fee" owed (payment 0 100 ∷ returned 1 1 ∷ []) 2500
    ∷ shows "reconnection in hours" owed (d ++ (arrangement 26 2 ∷ reconnection 26 0 ∷ [])) 9500
    ∷ shows "reconnection after hours" owed (d ++ (arrangement 26 2 ∷ reconnection 26 1 ∷ [])) 15000
    ∷ shows "owed 266, late charge 1" owed (bill 0 266 ∷ bill 1 1000 ∷ []) 1267
    ∷ shows "owed 267, late charge 2" owed (bill 0 267 ∷ bill 1 1000 ∷ []) 1269
    ∷ shows "owed 399, late charge 2" owed (bill 0 399 ∷ bill 1 1000 ∷ []) 1401
    ∷ shows "owed 400, late charge 3" owed (bill 0 400 ∷ bill 1 1000 ∷ []) 1403
    ∷ shows "late charge on what is owed, not on C" owed (bill 0 10000 ∷ payment 0 9900 ∷ bill 1 1000 ∷ []) 1100
    ∷ shows "late charge on fees too" owed (fee 0 2 ∷ bill 0 1000 ∷ []) 16112
    ∷ shows "late charge on a large sum" owed (bill 0 10000000000 ∷ bill 0 1 ∷ []) 10075000001
    ∷ shows "late charge on late charges, on ever larger sums" owed (times 60 (bill 0 10000000000 ∷ [])) 754241369217
    ∷ shows "no late charge on a fee" owed (bill 0 10000 ∷ fee 0 1 ∷ []) 17500
    ∷ shows "no late charge on what is paid" owed (bill 0 10000 ∷ payment 0 10000 ∷ bill 1 1000 ∷ []) 1000
    ∷ shows "a deposit held is no credit" owed (bill 0 1000 ∷ asked_deposit 0 500 ∷ paid 0 500 ∷ []) 1000
    ∷ shows "a payout is taken from the credits" credit (payment 0 100 ∷ payout 0 60 ∷ []) 40
    ∷ shows "a bill and its late charge are one item" open_count (bill 0 10000 ∷ bill 0 10000 ∷ []) 2
    ∷ shows "credits pay the oldest first" open_count (bill 0 100 ∷ bill 1 130 ∷ payment 1 150 ∷ []) 1
    ∷ shows "the day of what is open" (open_day 0) (bill 0 100 ∷ bill 1 130 ∷ payment 1 150 ∷ []) 1
    ∷ shows "its unpaid part" (open_part 0) (bill 0 100 ∷ bill 1 130 ∷ payment 1 150 ∷ []) 80
    ∷ shows "an item that nothing has paid" (open_part 1) (bill 0 100 ∷ bill 1 130 ∷ payment 1 50 ∷ []) 130
    ∷ shows "paid to the cent" open_count (bill 0 100 ∷ payment 1 100 ∷ []) 0
    ∷ shows "one cent is open" open_count (bill 0 100 ∷ payment 1 99 ∷ []) 1
    ∷ shows "a call makes no item" open_count (call 0 ∷ asked_deposit 0 9 ∷ certificate 0 9 ∷ []) 0
    ∷ shows "arrears after 20 days" (arrears 20) (bill 0 100 ∷ bill 1 200 ∷ []) 100
    ∷ shows "arrears a day later" (arrears 21) (bill 0 100 ∷ bill 1 200 ∷ []) 300
    ∷ shows "arrears are unpaid parts" (arrears 21) (bill 0 100 ∷ bill 1 200 ∷ payment 2 130 ∷ []) 170
    ∷ shows "arrears before 20 days" (arrears 19) (bill 0 100 ∷ []) 0
    ∷ shows "a fee in arrears" (arrears 25) (fee 5 1 ∷ fee 6 2 ∷ []) 7500
    ∷ shows "a returned payment is a new item" (arrears 34) (bill 0 6000 ∷ payment 10 6000 ∷ returned 15 1 ∷ []) 0
    ∷ shows "in arrears 20 days after its return" (arrears 35) (bill 0 6000 ∷ payment 10 6000 ∷ returned 15 1 ∷ []) 8500
    ∷ shows "a notice's fee in arrears" (arrears 40) b 7500
    ∷ shows "and before" (arrears 39) b 6000
    ∷ shows "a reconnection's fee in arrears" (arrears 46) (d ++ (arrangement 26 2 ∷ reconnection 26 1 ∷ [])) 15000
    ∷ shows "one cent in arrears" (arrears 20) (bill 0 100 ∷ payment 0 99 ∷ []) 1
    ∷ []

abbrev receipts : List Case
receipts =
    shows "the third receipt" receipt (payment 0 9 ∷ call 0 ∷ payment 0 9 ∷ payment 0 9 ∷ []) 3
    ∷ shows "no other event counts" receipt (common 0 ++ (payment 0 9 ∷ [])) 2
    ∷ shows "no receipt for a bill" receipt (payment 0 9 ∷ bill 0 9 ∷ []) 0
    ∷ shows "no receipt for a deposit" receipt (asked_deposit 0 9 ∷ paid 0 9 ∷ []) 0
    ∷ shows "a returned payment still counts" receipt (payment 0 9 ∷ returned 0 1 ∷ payment 0 9 ∷ []) 2
    ∷ shows "a receipt after closing" receipt (payment 0 9 ∷ close 0 ∷ payment 0 9 ∷ []) 2
    ∷ ends "returned twice" (payment 0 9 ∷ returned 0 1 ∷ returned 0 1 ∷ []) 6
    ∷ ends "each returned once" (payment 0 9 ∷ payment 0 9 ∷ returned 0 1 ∷ returned 0 2 ∷ []) 0
    ∷ ends "an older one after a newer" (payment 0 9 ∷ payment 0 9 ∷ returned 0 2 ∷ returned 0 1 ∷ []) 0
    ∷ ends "both neighbours of a returned one" (times 3 (payment 0 9 ∷ []) ++ (returned 0 2 ∷ returned 0 1 ∷ returned 0 3 ∷ [])) 0
    ∷ ends "returned twice, another between" (payment 0 9 ∷ payment 0 9 ∷ returned 0 1 ∷ returned 0 2 ∷ returned 0 1 ∷ []) 6
    ∷ ends "a receipt not given yet" (payment 0 9 ∷ returned 0 2 ∷ []) 6
    ∷ ends "nothing but a payment has a receipt" (asked_deposit 0 9 ∷ paid 0 9 ∷ bill 0 9 ∷ fee 0 1 ∷ certificate 0 9 ∷ call 0 ∷ returned 0 1 ∷ []) 6
    ∷ ends "the oldest of 16" (times 16 (payment 0 9 ∷ []) ++ (returned 0 1 ∷ [])) 0
    ∷ ends "four of 16 returned, the newest first" (times 17 (payment 0 9 ∷ []) ++ (returned 0 17 ∷ returned 0 16 ∷ returned 0 3 ∷ returned 0 2 ∷ [])) 0
    ∷ ends "past the newest 32" (times 33 (payment 0 9 ∷ []) ++ (returned 0 1 ∷ [])) 6
    ∷ ends "past the newest 16" (times 17 (payment 0 9 ∷ []) ++ (returned 0 1 ∷ [])) 6
    ∷ ends "the oldest of the newest 16" (times 17 (payment 0 9 ∷ []) ++ (returned 0 2 ∷ [])) 0
    ∷ ends "the newest of 33" (times 33 (payment 0 9 ∷ []) ++ (returned 0 33 ∷ [])) 0
    ∷ ends "a returned one keeps its place" (times 16 (payment 0 9 ∷ []) ++ (returned 0 5 ∷ payment 0 9 ∷ returned 0 1 ∷ [])) 6
    ∷ shows "the amount of the receipt, the oldest" owed (payment 0 100 ∷ payment 0 200 ∷ payment 0 300 ∷ payout 0 600 ∷ returned 0 1 ∷ []) 2600
    ∷ shows "the amount of the receipt, between" owed (payment 0 100 ∷ payment 0 200 ∷ payment 0 300 ∷ payout 0 600 ∷ returned 0 2 ∷ []) 2700
    ∷ shows "the amount of the receipt, the newest" owed (payment 0 100 ∷ payment 0 200 ∷ payment 0 300 ∷ payout 0 600 ∷ returned 0 3 ∷ []) 2800
    ∷ shows "the largest payment, returned" owed (payment 0 10000000000 ∷ payout 0 10000000000 ∷ returned 0 1 ∷ []) 10000002500
    ∷ []

-- 40 payments at till 1
abbrev queue : List Event
queue = times 40 (payment_at 1 0 9 ∷ [])

abbrev tills : List Case
tills =
    shows "the first receipt of another till" receipt (queue ++ (payment_at 2 0 9 ∷ [])) 1
    ∷ shows "a till's second, another between" receipt (payment_at 3 0 9 ∷ payment 0 9 ∷ payment_at 3 0 9 ∷ []) 2
    ∷ shows "a till's receipt after its return" receipt (payment_at 4 0 9 ∷ returned_at 4 0 1 ∷ payment_at 4 0 9 ∷ []) 2
    ∷ shows "a return at a till is no payment there" receipt (payment 0 9 ∷ payment_at 1 0 9 ∷ returned_at 1 0 1 ∷ payment 0 9 ∷ []) 2
    ∷ shows "no receipt for a return at a till" receipt (payment_at 1 0 9 ∷ returned_at 1 0 1 ∷ []) 0
    ∷ ends "the 16th newest of a till, another having 40" (times 16 (payment_at 2 0 9 ∷ []) ++ (queue ++ (returned_at 2 0 1 ∷ []))) 0
    ∷ ends "the 17th newest of a till, another having 40" (times 17 (payment_at 2 0 9 ∷ []) ++ (queue ++ (returned_at 2 0 1 ∷ []))) 6
    ∷ ends "the 16th newest of the till that has 40" (payment_at 2 0 9 ∷ (queue ++ (returned_at 1 0 25 ∷ []))) 0
    ∷ ends "the 17th newest of the till that has 40" (payment_at 2 0 9 ∷ (queue ++ (returned_at 1 0 24 ∷ []))) 6
    ∷ ends "a receipt that another till has given" (queue ++ (returned_at 2 0 40 ∷ [])) 6
    ∷ ends "one that the till itself has not given yet" (queue ++ (payment_at 2 0 9 ∷ returned_at 2 0 2 ∷ [])) 6
    ∷ ends "the same number in two tills, each returned once" (payment 0 9 ∷ payment_at 1 0 9 ∷ returned 0 1 ∷ returned_at 1 0 1 ∷ []) 0
    ∷ ends "the same number in two tills, one returned twice"
    (payment 0 9 ∷ payment_at 1 0 9 ∷ returned 0 1 ∷ returned_at 1 0 1 ∷ returned_at 1 0 1 ∷ []) 6
    ∷ shows "the amount is that of the till" owed (payment 0 100 ∷ payment_at 1 0 200 ∷ payout 0 300 ∷ returned_at 1 0 1 ∷ []) 2700
    ∷ shows "the amount is that of the other till" owed (payment 0 100 ∷ payment_at 1 0 200 ∷ payout 0 300 ∷ returned 0 1 ∷ []) 2600
    ∷ shows "the amount of a till's receipt, the oldest" owed (payment 0 100 ∷ payment_at 1 0 200 ∷ payment_at 1 0 400 ∷ payout 0 700 ∷ returned_at 1 0 1 ∷ []) 2700
    ∷ shows "the amount of a till's receipt, the newest" owed (payment 0 100 ∷ payment_at 1 0 200 ∷ payment_at 1 0 400 ∷ payout 0 700 ∷ returned_at 1 0 2 ∷ []) 2900
    ∷ shows "payments of every till are credits" credit (payment 0 1 ∷ payment_at 1 0 2 ∷ payment_at 2 0 4 ∷ payment_at 3 0 8 ∷ payment_at 4 0 16 ∷ []) 31
    ∷ ends "payments of two tills keep an arrangement" (bill 0 6000 ∷ arrangement 20 2 ∷ payment_at 1 20 1000 ∷ payment_at 2 50 2000 ∷ arrangement 50 2 ∷ []) 9
    ∷ ends "payments of two tills, a cent short" (bill 0 6000 ∷ arrangement 20 2 ∷ payment_at 1 20 1000 ∷ payment_at 2 50 1999 ∷ arrangement 50 2 ∷ []) 0
    ∷ ends "what an arrangement loses is the till's own payment"
    (bill 0 6000 ∷ arrangement 20 2 ∷ payment 20 3000 ∷ payment_at 1 20 3000 ∷ payment_at 1 20 9 ∷ payment 20 10 ∷ returned_at 1 21 2 ∷ returned 21 2 ∷ arrangement 50 2 ∷ [])
    9
    ∷ ends "the payment of a till, returned after an arrangement" (bill 0 6000 ∷ arrangement 20 2 ∷ payment 20 1 ∷ payment_at 1 20 3000 ∷ returned_at 1 21 1 ∷ arrangement 50 2 ∷ []) 0
    ∷ ends "the same number of another till, returned after it" (bill 0 6000 ∷ arrangement 20 2 ∷ payment 20 1 ∷ payment_at 1 20 3000 ∷ returned 21 1 ∷ arrangement 50 2 ∷ []) 9
    ∷ ends "payments of two tills up to the limit" (rich ++ (payment_at 4 0 10000000000 ∷ [])) 0
    ∷ ends "payments of two tills over the limit" (rich ++ (payment_at 4 0 10000000000 ∷ payment_at 3 0 1 ∷ [])) 19
    ∷ ends "closed: a payment at a till" (close 0 ∷ payment_at 3 0 1 ∷ []) 0
    ∷ ends "closed: returned at a till" (payment_at 3 0 1 ∷ close 0 ∷ returned_at 3 0 1 ∷ []) 0
    ∷ []

abbrev deposits : List Case
deposits =
    ends "paid, none asked" (paid 0 1 ∷ []) 7
    ∷ ends "paid in part" (asked_deposit 0 100 ∷ paid 0 60 ∷ []) 0
    ∷ ends "paid to the required" (asked_deposit 0 100 ∷ paid 0 60 ∷ paid 0 40 ∷ []) 0
    ∷ ends "paid over" (asked_deposit 0 100 ∷ paid 0 60 ∷ paid 0 41 ∷ []) 7
    ∷ ends "asked, not over the held" (asked_deposit 0 100 ∷ paid 0 60 ∷ asked_deposit 0 60 ∷ []) 7
    ∷ ends "asked less, over the held" (asked_deposit 0 100 ∷ paid 0 60 ∷ asked_deposit 0 61 ∷ paid 0 1 ∷ []) 0
    ∷ ends "asked again, the same sum being held" (full ++ (asked_deposit 0 100 ∷ [])) 7
    ∷ ends "asked, a cent over the held" (full ++ (asked_deposit 0 101 ∷ [])) 0
    ∷ shows "the last asked is required" required (asked_deposit 0 100 ∷ asked_deposit 0 70 ∷ []) 70
    ∷ shows "held" held (asked_deposit 0 100 ∷ paid 0 60 ∷ paid 0 40 ∷ []) 100
    ∷ ends "moved, none required" (moved 400 ∷ []) 7
    ∷ ends "moved, not full" (asked_deposit 0 100 ∷ paid 0 99 ∷ moved 400 ∷ []) 7
    ∷ ends "moved, a sum asked and nothing paid" (asked_deposit 0 100 ∷ moved 400 ∷ []) 7
    ∷ ends "full for a year" (asked_deposit 10 100 ∷ paid 10 100 ∷ moved 376 ∷ []) 0
    ∷ ends "full from the last part on" (asked_deposit 0 100 ∷ paid 0 60 ∷ paid 10 40 ∷ moved 375 ∷ []) 8
    ∷ ends "full from the last part on, a year" (asked_deposit 0 100 ∷ paid 0 60 ∷ paid 10 40 ∷ moved 376 ∷ []) 0
    ∷ ends "later events leave it full" (full ++ (call 5 ∷ bill 6 9 ∷ moved 366 ∷ [])) 0
    ∷ ends "a higher sum asked ends it" (full ++ (asked_deposit 5 150 ∷ moved 400 ∷ [])) 7
    ∷ ends "and it begins again" (full ++ (asked_deposit 5 150 ∷ paid 10 50 ∷ moved 375 ∷ [])) 8
    ∷ ends "and is earned again" (full ++ (asked_deposit 5 150 ∷ paid 10 50 ∷ moved 376 ∷ [])) 0
    ∷ shows "moved: nothing is held" held (full ++ (moved 366 ∷ [])) 0
    ∷ shows "moved: nothing is required" required (full ++ (moved 366 ∷ [])) 0
    ∷ shows "moved: a credit" credit (full ++ (moved 366 ∷ [])) 100
    ∷ ends "moved twice" (full ++ (moved 366 ∷ moved 800 ∷ [])) 7
    ∷ ends "paid after it was moved" (full ++ (moved 366 ∷ paid 366 1 ∷ [])) 7
    ∷ shows "a second deposit, moved" credit (full ++ (moved 366 ∷ asked_deposit 366 50 ∷ paid 366 50 ∷ moved 731 ∷ [])) 150
    ∷ shows "a second deposit, held" held (full ++ (moved 366 ∷ asked_deposit 366 50 ∷ paid 366 50 ∷ [])) 50
    ∷ ends "a second deposit has its own year" (full ++ (moved 366 ∷ asked_deposit 366 50 ∷ paid 367 50 ∷ moved 731 ∷ [])) 8
    ∷ ends "two notices in the year" (full ++ (bill 0 90000 ∷ notice 20 ∷ notice 41 ∷ moved 366 ∷ [])) 0
    ∷ ends "three notices in the year" (full ++ (bill 0 90000 ∷ notice 20 ∷ notice 41 ∷ notice 62 ∷ moved 384 ∷ [])) 8
    ∷ ends "three notices, one before the year" (full ++ (bill 0 90000 ∷ notice 20 ∷ notice 41 ∷ notice 62 ∷ moved 385 ∷ [])) 0
    ∷ ends "two notices, one on the day it is moved" (full ++ (bill 0 90000 ∷ notice 41 ∷ notice 366 ∷ moved 366 ∷ [])) 0
    ∷ ends "three notices, one on the day it is moved" (full ++ (bill 0 90000 ∷ notice 20 ∷ notice 41 ∷ notice 384 ∷ moved 384 ∷ [])) 8
    ∷ ends "one before the year, one on the day it is moved" (full ++ (bill 0 90000 ∷ notice 20 ∷ notice 41 ∷ notice 385 ∷ moved 385 ∷ [])) 0
    ∷ ends "a lapsed notice counts" (full ++ (bill 0 6000 ∷ bill 5 90000 ∷ notice 20 ∷ payment 20 1001 ∷ notice 41 ∷ notice 62 ∷ moved 384 ∷ [])) 8
    ∷ ends "four notices, two before the year" (full ++ (bill 0 90000 ∷ notice 20 ∷ notice 41 ∷ notice 62 ∷ notice 83 ∷ moved 406 ∷ [])) 0
    ∷ ends "a cut in the year" (full ++ d ++ (moved 389 ∷ [])) 8
    ∷ ends "a cut before the year" (full ++ d ++ (moved 390 ∷ [])) 0
    ∷ ends "a cut on the day it is moved" (full ++ (bill 0 6000 ∷ notice 360 ∷ call 364 ∷ cut_off 366 ∷ moved 366 ∷ [])) 8
    ∷ ends "the same without the cut" (full ++ (bill 0 6000 ∷ notice 360 ∷ call 364 ∷ moved 366 ∷ [])) 0
    ∷ ends "a cut in the year, and a reconnection" (full ++ d ++ (arrangement 26 2 ∷ reconnection 26 0 ∷ moved 389 ∷ [])) 8
    ∷ ends "both before the year" (full ++ d ++ (arrangement 26 2 ∷ reconnection 26 0 ∷ moved 390 ∷ [])) 0
    ∷ shows "close moves what is held" credit (asked_deposit 0 100 ∷ paid 0 60 ∷ close 0 ∷ []) 60
    ∷ shows "close: nothing is held" held (asked_deposit 0 100 ∷ paid 0 60 ∷ close 0 ∷ []) 0
    ∷ shows "close: nothing is required" required (asked_deposit 0 100 ∷ paid 0 60 ∷ close 0 ∷ []) 0
    ∷ []

abbrev services : List Case
services =
    shows "on at first" service_is [] 0
    ∷ shows "off by a cut" service_is d 1
    ∷ shows "on by a reconnection" service_is (d ++ (arrangement 26 2 ∷ reconnection 26 0 ∷ call 26 ∷ [])) 0
    ∷ shows "closed" service_is (close 0 ∷ payment 0 9 ∷ []) 2
    ∷ ends "off: close" (d ++ (close 26 ∷ [])) 0
    ∷ ends "off: notice" (d ++ (notice 26 ∷ [])) 5
    ∷ ends "off: call" (d ++ (call 26 ∷ [])) 5
    ∷ ends "off: cut" (d ++ (cut_off 26 ∷ [])) 5
    ∷ ends "off: bill" (d ++ (bill 26 9 ∷ [])) 0
    ∷ ends "off: what is no notice, call or cut" (d ++ common 26 ++ (arrangement 26 2 ∷ [])) 0
    ∷ ends "off: deposit moved" (full ++ d ++ (moved 400 ∷ [])) 0
    ∷ ends "off: payout" (d ++ (payment 26 7600 ∷ payout 26 100 ∷ [])) 0
    ∷ ends "on again: reconnection" (d ++ (arrangement 26 2 ∷ reconnection 26 0 ∷ reconnection 26 0 ∷ [])) 5
    ∷ ends "closed: bill" (close 0 ∷ bill 0 9 ∷ []) 4
    ∷ ends "closed: payment" (close 0 ∷ payment 0 9 ∷ []) 0
    ∷ ends "closed: returned" (payment 0 9 ∷ close 0 ∷ returned 0 1 ∷ []) 0
    ∷ ends "closed: a receipt that is not known" (payment 0 9 ∷ close 0 ∷ returned 0 2 ∷ []) 6
    ∷ ends "closed: fee" (close 0 ∷ fee 0 1 ∷ []) 4
    ∷ ends "closed: deposit asked" (close 0 ∷ asked_deposit 0 9 ∷ []) 4
    ∷ ends "closed: deposit paid" (close 0 ∷ paid 0 9 ∷ []) 4
    ∷ ends "closed: deposit moved" (close 0 ∷ moved 0 ∷ []) 4
    ∷ ends "closed: payout" (payment 0 9 ∷ close 0 ∷ payout 0 9 ∷ []) 0
    ∷ ends "closed: payout over the credit" (payment 0 9 ∷ close 0 ∷ payout 0 10 ∷ []) 7
    ∷ ends "closed: certificate" (close 0 ∷ certificate 0 9 ∷ []) 4
    ∷ ends "closed: approval" (close 0 ∷ approval 0 9 ∷ []) 4
    ∷ ends "closed: arrangement" (close 0 ∷ arrangement 0 2 ∷ []) 4
    ∷ ends "closed: notice" (close 0 ∷ notice 0 ∷ []) 4
    ∷ ends "closed: call" (close 0 ∷ call 0 ∷ []) 4
    ∷ ends "closed: cut" (close 0 ∷ cut_off 0 ∷ []) 4
    ∷ ends "closed: reconnection" (close 0 ∷ reconnection 0 0 ∷ []) 4
    ∷ ends "reconnection, nothing in arrears" (d ++ (payment 26 6000 ∷ reconnection 26 0 ∷ [])) 0
    ∷ ends "after hours, nothing in arrears" (d ++ (payment 26 6000 ∷ reconnection 26 1 ∷ [])) 0
    ∷ ends "reconnection, one cent in arrears" (d ++ (payment 26 5999 ∷ reconnection 26 0 ∷ [])) 16
    ∷ ends "after hours, one cent in arrears" (d ++ (payment 26 5999 ∷ reconnection 26 1 ∷ [])) 16
    ∷ ends "reconnection, an arrangement" (d ++ (arrangement 26 2 ∷ reconnection 26 0 ∷ [])) 0
    ∷ ends "reconnection, an arrangement that is behind" (d ++ (arrangement 26 2 ∷ reconnection 56 0 ∷ [])) 16
    ∷ ends "the day before" (d ++ (arrangement 26 2 ∷ reconnection 55 0 ∷ [])) 0
    ∷ ends "reconnection, the deposit paid" (d ++ (payment 26 7500 ∷ asked_deposit 26 100 ∷ paid 26 100 ∷ reconnection 26 0 ∷ [])) 0
    ∷ ends "reconnection, the deposit a cent short" (d ++ (payment 26 7500 ∷ asked_deposit 26 100 ∷ paid 26 99 ∷ reconnection 26 0 ∷ [])) 17
    ∷ ends "after hours, the deposit a cent short" (d ++ (payment 26 7500 ∷ asked_deposit 26 100 ∷ paid 26 99 ∷ reconnection 26 1 ∷ [])) 17
    ∷ ends "after hours, the deposit paid" (d ++ (payment 26 7500 ∷ asked_deposit 26 100 ∷ paid 26 100 ∷ reconnection 26 1 ∷ [])) 0
    ∷ []

abbrev payouts : List Case
payouts =
    ends "the whole credit" (payment 0 100 ∷ payout 0 60 ∷ payout 0 40 ∷ []) 0
    ∷ ends "over the credit" (payment 0 100 ∷ payout 0 60 ∷ payout 0 41 ∷ []) 7
    ∷ ends "less what is charged" (bill 0 30 ∷ payment 0 100 ∷ payout 0 71 ∷ []) 7
    ∷ ends "up to what is charged" (bill 0 30 ∷ payment 0 100 ∷ payout 0 70 ∷ []) 0
    ∷ ends "a deposit moved, paid out" (full ++ (moved 366 ∷ payout 366 100 ∷ [])) 0
    ∷ ends "over a deposit moved" (full ++ (moved 366 ∷ payout 366 101 ∷ [])) 7
    ∷ ends "a deposit held is not paid out" (full ++ (payout 0 1 ∷ [])) 7
    ∷ ends "while owing" (bill 0 100 ∷ payment 0 50 ∷ payout 0 1 ∷ []) 7
    ∷ []

abbrev notices : List Case
notices =
    ends "arrears of 5,000" (bill 0 6000 ∷ payment 0 1000 ∷ notice 20 ∷ []) 0
    ∷ ends "arrears of 4,999" (bill 0 6000 ∷ payment 0 1001 ∷ notice 20 ∷ []) 10
    ∷ ends "live on its last day" (b ++ (notice 40 ∷ [])) 11
    ∷ ends "not live after it" (b ++ (notice 41 ∷ [])) 0
    ∷ ends "still live with arrears of 5,000" (b ++ (call 22 ∷ payment 22 1000 ∷ cut_off 25 ∷ [])) 0
    ∷ ends "lapsed by a payment, though arrears are back" (bill 0 6000 ∷ bill 5 6000 ∷ notice 20 ∷ call 22 ∷ payment 22 1001 ∷ cut_off 25 ∷ []) 12
    ∷ ends "not lapsed, 5,000 being left" (bill 0 6000 ∷ bill 5 6000 ∷ notice 20 ∷ call 22 ∷ payment 22 1000 ∷ cut_off 25 ∷ []) 0
    ∷ ends "lapsed, so a new one may follow" (bill 0 6000 ∷ bill 5 6000 ∷ notice 20 ∷ payment 22 1001 ∷ notice 25 ∷ []) 0
    ∷ ends "lapsed by a deposit that is moved" (full ++ (bill 300 5050 ∷ bill 347 6000 ∷ notice 360 ∷ moved 366 ∷ call 366 ∷ cut_off 367 ∷ [])) 12
    ∷ ends "the same, nothing moved" (full ++ (bill 300 5050 ∷ bill 347 6000 ∷ notice 360 ∷ call 366 ∷ cut_off 367 ∷ [])) 0
    ∷ ends "looked at on the day of the payment" (bill 0 6000 ∷ bill 5 6000 ∷ notice 20 ∷ call 24 ∷ payment 25 6000 ∷ cut_off 25 ∷ []) 0
    ∷ ends "other events leave it" (b ++ common 21 ++ (call 22 ∷ cut_off 25 ∷ [])) 0
    ∷ ends "a deposit moved leaves it" (full ++ (bill 300 6000 ∷ notice 360 ∷ moved 366 ∷ call 366 ∷ cut_off 367 ∷ [])) 0
    ∷ ends "used up by a cut" (d ++ (arrangement 26 2 ∷ reconnection 26 0 ∷ call 27 ∷ cut_off 28 ∷ [])) 12
    ∷ ends "used up, so a new one may follow" (d ++ (arrangement 26 2 ∷ reconnection 26 0 ∷ notice 26 ∷ [])) 0
    ∷ ends "a second cut, by a second notice" (d ++ (arrangement 26 2 ∷ reconnection 26 0 ∷ notice 56 ∷ call 60 ∷ cut_off 61 ∷ [])) 0
    ∷ ends "a new notice after 20 days has its own days" (b ++ (notice 41 ∷ call 44 ∷ cut_off 45 ∷ [])) 12
    ∷ ends "a new notice's days" (b ++ (notice 41 ∷ call 45 ∷ cut_off 46 ∷ [])) 0
    ∷ shows "live on its first day" (live 20) b 1
    ∷ shows "live on its last day, as a question" (live 40) b 1
    ∷ shows "not live a day later" (live 41) b 0
    ∷ shows "live after closing" (live 40) (b ++ (close 21 ∷ [])) 1
    ∷ shows "lapsed after closing" (live 40) (b ++ (close 21 ∷ payment 21 1001 ∷ [])) 0
    ∷ shows "lapsed by closing, a deposit being moved" (live 40) (asked_deposit 0 1001 ∷ paid 0 1001 ∷ (b ++ (close 21 ∷ []))) 0
    ∷ shows "used up" (live 26) d 0
    ∷ ends "a call on the day before" (b ++ (call 24 ∷ cut_off 25 ∷ [])) 0
    ∷ ends "a call two days before" (b ++ (call 23 ∷ cut_off 25 ∷ [])) 0
    ∷ ends "calls too old and on the day itself" (b ++ (call 21 ∷ call 25 ∷ cut_off 25 ∷ [])) 13
    ∷ ends "a call on the day itself" (b ++ (call 25 ∷ cut_off 25 ∷ [])) 13
    ∷ []

-- a bill of the first day of short certificates, a notice of it and a call
abbrev debt : List Event
debt = bill 9_497 6000 ∷ notice 9_570 ∷ call 9_578 ∷ []

-- the longest certificate of the day before, and what a disconnection wants near its end
abbrev long : List Event
long = bill 9_496 6000 ∷ certificate 9_496 180 ∷ notice 9_666 ∷ call 9_674 ∷ []

abbrev certificates : List Case
certificates =
    ends "from its own day" (b ++ (call 22 ∷ certificate 25 1 ∷ cut_off 25 ∷ [])) 15
    ∷ ends "one of a day is over on the next" (b ++ (certificate 24 1 ∷ call 24 ∷ cut_off 25 ∷ [])) 0
    ∷ ends "one of 180 days on its last" (bill 0 6000 ∷ certificate 0 180 ∷ notice 170 ∷ call 178 ∷ cut_off 179 ∷ []) 15
    ∷ ends "and a day later" (bill 0 6000 ∷ certificate 0 180 ∷ notice 170 ∷ call 178 ∷ cut_off 180 ∷ []) 0
    ∷ shows "its first day, as a question" (certified 5) (certificate 5 180 ∷ []) 1
    ∷ shows "its last day" (certified 184) (certificate 5 180 ∷ []) 1
    ∷ shows "a day later" (certified 185) (certificate 5 180 ∷ []) 0
    ∷ shows "none" (certified 5) (approval 5 30 ∷ []) 0
    ∷ shows "after closing too" (certified 5) (certificate 5 1 ∷ close 5 ∷ []) 1
    ∷ shows "one of 180 days of day 9,496 on its last" (certified 9_675) (certificate 9_496 180 ∷ []) 1
    ∷ shows "one of 180 days of day 9,496 a day later" (certified 9_676) (certificate 9_496 180 ∷ []) 0
    ∷ ends "it bars a disconnection on its last" (long ++ (cut_off 9_675 ∷ [])) 15
    ∷ ends "it bars none a day later" (long ++ (cut_off 9_676 ∷ [])) 0
    ∷ shows "one of 90 days of day 9,497 on its last" (certified 9_586) (certificate 9_497 90 ∷ []) 1
    ∷ shows "one of 90 days of day 9,497 a day later" (certified 9_587) (certificate 9_497 90 ∷ []) 0
    ∷ shows "and another of 90 days that follows it" (certified 9_676) (certificate 9_497 90 ∷ certificate 9_587 90 ∷ []) 1
    ∷ shows "one that is refused is live on no day" (certified 9_497) (certificate 9_497 91 ∷ []) 0
    ∷ shows "one that is refused voids no approval" service_is (long ++ (approval 9_674 5 ∷ certificate 9_674 91 ∷ cut_off 9_675 ∷ [])) 1
    ∷ ends "a short one voids the approvals before it" (long ++ (approval 9_674 5 ∷ certificate 9_674 90 ∷ cut_off 9_675 ∷ [])) 15
    ∷ ends "a long one runs on past a short one posted after it" (certificate 9_400 180 ∷ certificate 9_497 1 ∷ (debt ++ (cut_off 9_579 ∷ []))) 15
    ∷ ends "and ends where it would without" (certificate 9_400 180 ∷ certificate 9_497 1 ∷ (debt ++ (cut_off 9_580 ∷ []))) 0
    ∷ ends "an earlier one runs on" (b ++ (certificate 21 30 ∷ call 22 ∷ certificate 22 1 ∷ cut_off 25 ∷ [])) 15
    ∷ ends "a later one that is longer" (b ++ (certificate 21 1 ∷ call 22 ∷ certificate 22 30 ∷ cut_off 25 ∷ [])) 15
    ∷ ends "an approval that has run out" (b ++ (certificate 21 9 ∷ call 22 ∷ approval 22 3 ∷ cut_off 25 ∷ [])) 15
    ∷ ends "an approval of the day itself" (b ++ (certificate 21 9 ∷ call 22 ∷ approval 25 1 ∷ cut_off 25 ∷ [])) 0
    ∷ ends "an approval of 30 days on its last" (bill 0 6000 ∷ certificate 0 180 ∷ approval 0 30 ∷ notice 20 ∷ call 28 ∷ cut_off 29 ∷ []) 0
    ∷ ends "an approval of 30 days, over" (bill 0 6000 ∷ certificate 0 180 ∷ approval 0 30 ∷ notice 20 ∷ call 28 ∷ cut_off 30 ∷ []) 15
    ∷ ends "an earlier approval runs on" (b ++ (certificate 21 9 ∷ call 22 ∷ approval 22 9 ∷ approval 23 1 ∷ cut_off 25 ∷ [])) 0
    ∷ ends "a certificate voids the approvals before it" (b ++ (certificate 20 30 ∷ approval 21 30 ∷ certificate 22 1 ∷ call 22 ∷ cut_off 25 ∷ [])) 15
    ∷ ends "an approval after the last covers all" (b ++ (certificate 20 30 ∷ certificate 21 30 ∷ call 22 ∷ approval 22 4 ∷ cut_off 25 ∷ [])) 0
    ∷ ends "a payment is no approval" (b ++ (certificate 21 9 ∷ call 22 ∷ payment 22 30 ∷ cut_off 25 ∷ [])) 15
    ∷ ends "a certificate bars no notice" (bill 0 6000 ∷ certificate 20 30 ∷ notice 20 ∷ []) 0
    ∷ []

abbrev arrangements : List Case
arrangements =
    ends "nothing delinquent" (bill 0 6000 ∷ arrangement 19 2 ∷ []) 9
    ∷ ends "one cent in arrears" (bill 0 1 ∷ arrangement 20 2 ∷ []) 0
    ∷ ends "in force, nothing due yet" (bill 0 6000 ∷ arrangement 20 2 ∷ arrangement 49 2 ∷ []) 9
    ∷ ends "behind after 30 days" (bill 0 6000 ∷ arrangement 20 2 ∷ arrangement 50 2 ∷ []) 0
    ∷ ends "the first part paid" (bill 0 6000 ∷ arrangement 20 2 ∷ payment 50 3000 ∷ arrangement 50 2 ∷ []) 9
    ∷ ends "the first part a cent short" (bill 0 6000 ∷ arrangement 20 2 ∷ payment 50 2999 ∷ arrangement 50 2 ∷ []) 0
    ∷ ends "a part is rounded up" (bill 0 6001 ∷ arrangement 20 2 ∷ payment 50 3000 ∷ arrangement 50 2 ∷ []) 0
    ∷ ends "a part, rounded up" (bill 0 6001 ∷ arrangement 20 2 ∷ payment 50 3001 ∷ arrangement 50 2 ∷ []) 9
    ∷ ends "two parts due" (bill 0 6000 ∷ arrangement 20 3 ∷ payment 50 3999 ∷ arrangement 80 2 ∷ []) 0
    ∷ ends "two parts paid" (bill 0 6000 ∷ arrangement 20 3 ∷ payment 50 4000 ∷ arrangement 80 2 ∷ []) 9
    ∷ ends "before the second part is due" (bill 0 6000 ∷ arrangement 20 3 ∷ payment 50 2000 ∷ arrangement 79 2 ∷ []) 9
    ∷ ends "three parts due" (bill 0 6000 ∷ arrangement 20 6 ∷ payment 50 2999 ∷ arrangement 110 2 ∷ []) 0
    ∷ ends "before the third" (bill 0 6000 ∷ arrangement 20 6 ∷ payment 50 2000 ∷ arrangement 109 2 ∷ []) 9
    ∷ ends "four parts due" (bill 0 6000 ∷ arrangement 20 6 ∷ payment 50 3999 ∷ arrangement 140 2 ∷ []) 0
    ∷ ends "before the fourth" (bill 0 6000 ∷ arrangement 20 6 ∷ payment 50 3000 ∷ arrangement 139 2 ∷ []) 9
    ∷ ends "five parts due" (bill 0 6000 ∷ arrangement 20 6 ∷ payment 50 4999 ∷ arrangement 170 2 ∷ []) 0
    ∷ ends "before the fifth" (bill 0 6000 ∷ arrangement 20 6 ∷ payment 50 4000 ∷ arrangement 169 2 ∷ []) 9
    ∷ ends "five parts paid, on the last of 180 days" (bill 0 6000 ∷ arrangement 20 6 ∷ payment 50 5000 ∷ arrangement 199 2 ∷ []) 9
    ∷ ends "over after 180 days" (bill 0 6000 ∷ arrangement 20 6 ∷ payment 50 5000 ∷ arrangement 200 2 ∷ []) 0
    ∷ ends "a part short on the last of 180 days" (bill 0 6000 ∷ arrangement 20 6 ∷ payment 50 4999 ∷ arrangement 199 2 ∷ []) 0
    ∷ ends "caught up" (bill 0 6000 ∷ arrangement 20 3 ∷ call 60 ∷ payment 70 2000 ∷ arrangement 70 2 ∷ []) 9
    ∷ ends "no more than the debt is due" (bill 0 7 ∷ arrangement 20 6 ∷ payment 20 7 ∷ bill 25 100 ∷ arrangement 140 2 ∷ []) 9
    ∷ ends "on its last day" (bill 0 6000 ∷ arrangement 20 2 ∷ payment 20 6000 ∷ bill 25 500 ∷ arrangement 79 2 ∷ []) 9
    ∷ ends "over after its last day" (bill 0 6000 ∷ arrangement 20 2 ∷ payment 20 6000 ∷ bill 25 500 ∷ arrangement 80 2 ∷ []) 0
    ∷ ends "the debt is the arrears of its day" (bill 0 6000 ∷ bill 1 9000 ∷ arrangement 20 2 ∷ payment 50 3000 ∷ arrangement 50 2 ∷ []) 9
    ∷ ends "payments before it do not count" (bill 0 6000 ∷ payment 0 1000 ∷ arrangement 20 2 ∷ payment 50 2499 ∷ arrangement 50 2 ∷ []) 0
    ∷ ends "payments after it do" (bill 0 6000 ∷ payment 0 1000 ∷ arrangement 20 2 ∷ payment 50 2500 ∷ arrangement 50 2 ∷ []) 9
    ∷ ends "payments of its day, posted before it" (bill 0 6000 ∷ payment 20 1000 ∷ arrangement 20 2 ∷ payment 50 2499 ∷ arrangement 50 2 ∷ []) 0
    ∷ ends "a deposit paid is no payment" (bill 0 6000 ∷ arrangement 20 2 ∷ asked_deposit 20 9000 ∷ paid 20 9000 ∷ arrangement 50 2 ∷ []) 0
    ∷ ends "a deposit that is moved is no payment"
    (asked_deposit 0 3000 ∷ paid 0 3000 ∷ bill 300 6000 ∷ arrangement 340 2 ∷ moved 366 ∷ arrangement 370 2 ∷ []) 0
    ∷ ends "returns count without their fee" (bill 0 6000 ∷ arrangement 20 2 ∷ payment 20 4000 ∷ payment 20 3000 ∷ returned 21 1 ∷ arrangement 50 2 ∷ []) 9
    ∷ ends "returns count against it" (bill 0 6000 ∷ arrangement 20 2 ∷ payment 20 4000 ∷ payment 20 2999 ∷ returned 21 1 ∷ arrangement 50 2 ∷ []) 0
    ∷ ends "a payment older than it, returned after it" (bill 0 6000 ∷ payment 0 10 ∷ arrangement 20 2 ∷ returned 20 1 ∷ arrangement 20 2 ∷ []) 0
    ∷ ends "the same, made good" (bill 0 6000 ∷ payment 0 10 ∷ arrangement 20 2 ∷ returned 20 1 ∷ payment 20 10 ∷ arrangement 20 2 ∷ []) 9
    ∷ ends "a new one has its own debt" (bill 0 6000 ∷ arrangement 20 2 ∷ payment 49 2999 ∷ arrangement 50 2 ∷ payment 80 1500 ∷ arrangement 80 2 ∷ []) 0
    ∷ ends "the new one paid" (bill 0 6000 ∷ arrangement 20 2 ∷ payment 49 2999 ∷ arrangement 50 2 ∷ payment 80 1501 ∷ arrangement 80 2 ∷ []) 9
    ∷ ends "returns before the new one do not" (bill 0 6000 ∷ payment 0 10 ∷ arrangement 20 2 ∷ returned 20 1 ∷ arrangement 20 2 ∷ arrangement 20 2 ∷ []) 9
    ∷ ends "a return of its day, posted before it" (bill 0 6000 ∷ payment 0 10 ∷ returned 20 1 ∷ arrangement 20 2 ∷ arrangement 20 2 ∷ []) 9
    ∷ shows "in force, as a question" (stands 49) (bill 0 6000 ∷ arrangement 20 2 ∷ []) 1
    ∷ shows "not in force" (stands 50) (bill 0 6000 ∷ arrangement 20 2 ∷ []) 0
    ∷ shows "after closing too" (stands 49) (bill 0 6000 ∷ arrangement 20 2 ∷ close 20 ∷ []) 1
    ∷ shows "caught up after closing" (stands 50) (bill 0 6000 ∷ arrangement 20 2 ∷ close 20 ∷ payment 50 3000 ∷ []) 1
    ∷ shows "a deposit moved by closing is no payment" (stands 50) (bill 0 6000 ∷ arrangement 20 2 ∷ asked_deposit 20 3000 ∷ paid 20 3000 ∷ close 20 ∷ []) 0
    ∷ ends "no cut on the last day without a part due" (bill 0 6000 ∷ arrangement 20 2 ∷ notice 44 ∷ call 48 ∷ cut_off 49 ∷ []) 14
    ∷ ends "a cut on the day the part is due" (bill 0 6000 ∷ arrangement 20 2 ∷ notice 44 ∷ call 48 ∷ cut_off 50 ∷ []) 0
    ∷ []

abbrev limits : List Case
limits =
    ends "the 64th item" crowd 0
    ∷ ends "the 64th, a bill" (times 63 (fee 0 1 ∷ []) ++ (bill 0 1 ∷ [])) 0
    ∷ ends "the 64th, a returned payment" (payment 0 1 ∷ (times 63 (fee 0 1 ∷ []) ++ (returned 0 1 ∷ []))) 0
    ∷ ends "the 64th, a notice" (times 63 (fee 0 1 ∷ []) ++ (notice 20 ∷ [])) 0
    ∷ ends "the 64th, a reconnection" (times 62 (fee 0 1 ∷ []) ++ (notice 20 ∷ call 22 ∷ cut_off 25 ∷ arrangement 25 2 ∷ reconnection 25 1 ∷ [])) 0
    ∷ ends "64 open: bill" (crowd ++ (bill 0 1 ∷ [])) 18
    ∷ ends "64 open: returned" (payment 0 1 ∷ (crowd ++ (returned 0 1 ∷ []))) 18
    ∷ ends "64 open: notice" (crowd ++ (notice 20 ∷ [])) 18
    ∷ ends "64 open: reconnection" (times 62 (fee 0 1 ∷ []) ++ (notice 20 ∷ call 22 ∷ cut_off 25 ∷ fee 25 1 ∷ arrangement 25 2 ∷ reconnection 25 0 ∷ [])) 18
    ∷ ends "64 open: after hours" (times 62 (fee 0 1 ∷ []) ++ (notice 20 ∷ call 22 ∷ cut_off 25 ∷ fee 25 1 ∷ arrangement 25 2 ∷ reconnection 25 1 ∷ [])) 18
    ∷ ends "64 open: what makes no item" (crowd ++ quiet 20 ++ (call 20 ∷ arrangement 20 2 ∷ close 20 ∷ [])) 0
    ∷ ends "a closed item gives up its place" (crowd ++ (payment 0 7500 ∷ fee 0 1 ∷ [])) 0
    ∷ ends "an item is open to the last cent" (crowd ++ (payment 0 7499 ∷ fee 0 1 ∷ [])) 18
    ∷ ends "C up to the limit" (settled ++ (bill 0 9999992500 ∷ fee 0 1 ∷ [])) 0
    ∷ ends "C over the limit by a cent" (settled ++ (bill 0 9999992501 ∷ fee 0 1 ∷ [])) 19
    ∷ ends "C at the limit" (settled ++ (bill 0 10000000000 ∷ [])) 0
    ∷ ends "C over the limit by a fee" (settled ++ (bill 0 10000000000 ∷ fee 0 1 ∷ [])) 19
    ∷ ends "C over the limit by its late charge" (settled ++ (fee 0 1 ∷ bill 0 9999992500 ∷ [])) 19
    ∷ ends "C at the limit with its late charge" (settled ++ (fee 0 1 ∷ bill 0 9999992444 ∷ [])) 0
    ∷ ends "C at the limit by a returned payment" (settled ++ (bill 0 9999997499 ∷ payment 0 1 ∷ returned 0 100 ∷ [])) 0
    ∷ ends "C over the limit by a returned payment" (settled ++ (bill 0 9999997500 ∷ payment 0 1 ∷ returned 0 100 ∷ [])) 19
    ∷ ends "C at the limit by a notice" (settled ++ (bill 0 9999998500 ∷ notice 20 ∷ [])) 0
    ∷ ends "C over the limit by a notice" (settled ++ (bill 0 9999998501 ∷ notice 20 ∷ [])) 19
    ∷ ends "C at the limit by a reconnection" (settled ++ (bill 0 9999996500 ∷ notice 20 ∷ call 22 ∷ cut_off 25 ∷ arrangement 25 2 ∷ reconnection 25 0 ∷ [])) 0
    ∷ ends "C over the limit by a reconnection"
    (settled ++ (bill 0 9999996501 ∷ notice 20 ∷ call 22 ∷ cut_off 25 ∷ arrangement 25 2 ∷ reconnection 25 0 ∷ [])) 19
    ∷ ends "C at the limit: what makes no item" (settled ++ (bill 0 10000000000 ∷ quiet 20) ++ (call 20 ∷ arrangement 20 2 ∷ close 20 ∷ [])) 0
    ∷ ends "payments up to the limit" (rich ++ (payment 0 10000000000 ∷ [])) 0
    ∷ ends "payments over the limit" (rich ++ (payment 0 10000000000 ∷ payment 0 1 ∷ [])) 19
    ∷ ends "one payment over the limit by a cent" (rich ++ (payment 0 9999999999 ∷ payment 0 2 ∷ [])) 19
    ∷ ends "payments at the limit: a bill" (rich ++ (payment 0 10000000000 ∷ bill 0 10000000000 ∷ [])) 0
    ∷ ends "payments at the limit: a close, nothing being held" (rich ++ (payment 0 10000000000 ∷ close 0 ∷ [])) 0
    ∷ ends "payments over the limit after closing" (rich ++ (payment 0 10000000000 ∷ close 0 ∷ payment 0 1 ∷ [])) 19
    ∷ ends "payouts do not make room" (rich ++ (payment 0 10000000000 ∷ payout 0 9 ∷ payment 0 1 ∷ [])) 19
    ∷ ends "a deposit moved over the limit" (full ++ rich ++ (payment 0 9999999901 ∷ moved 366 ∷ [])) 19
    ∷ ends "a deposit moved up to the limit" (full ++ rich ++ (payment 0 9999999900 ∷ moved 366 ∷ [])) 0
    ∷ ends "a close over the limit" (full ++ rich ++ (payment 0 9999999901 ∷ close 0 ∷ [])) 19
    ∷ ends "a close up to the limit" (full ++ rich ++ (payment 0 9999999900 ∷ close 0 ∷ [])) 0
    ∷ ends "deposits moved count in the limit" (full ++ rich ++ (moved 366 ∷ payment 366 9999999901 ∷ [])) 19
    ∷ ends "up to the limit with a deposit moved" (full ++ rich ++ (moved 366 ∷ payment 366 9999999900 ∷ [])) 0
    ∷ ends "a deposit paid has no limit of its own" (rich ++ (payment 0 10000000000 ∷ asked_deposit 0 9 ∷ paid 0 9 ∷ [])) 0
    ∷ []

abbrev readings : List Case
readings =
    bills "class 1: the basic charge" 1 0 1_031
    ∷ bills "class 2: the basic charge" 2 0 1_229
    ∷ bills "class 3: the basic charge" 3 0 2_218
    ∷ bills "class 1: one kilowatt-hour" 1 1 1_038
    ∷ bills "class 2: one kilowatt-hour" 2 1 1_237
    ∷ bills "class 3: one kilowatt-hour" 3 1 2_226
    ∷ bills "class 1: half a cent up" 1 50 1_397
    ∷ bills "class 1: 49 hundredths down" 1 79 1_608
    ∷ bills "class 2: half a cent up" 2 50 1_613
    ∷ bills "class 2: 49 hundredths down" 2 47 1_589
    ∷ bills "class 3: half a cent up" 3 50 2_602
    ∷ bills "class 3: 49 hundredths down" 3 47 2_578
    ∷ bills "class 1 at 15,000: one price" 1 15_000 110_681
    ∷ bills "class 1 at 15,001: one price" 1 15_001 110_688
    ∷ bills "class 1 at 50,000: one price" 1 50_000 366_531
    ∷ bills "class 1 at 50,001: one price" 1 50_001 366_538
    ∷ bills "class 2 at 15,000: one price" 2 15_000 116_279
    ∷ bills "class 2 at 15,001: one price" 2 15_001 116_287
    ∷ bills "class 2 at 50,000: one price" 2 50_000 384_729
    ∷ bills "class 2 at 50,001: one price" 2 50_001 384_737
    ∷ bills "class 3 at 14,999" 3 14_999 117_260
    ∷ bills "class 3 at 15,000" 3 15_000 117_268
    ∷ bills "class 3 at 15,001" 3 15_001 117_274
    ∷ bills "class 3 at 49,999" 3 49_999 343_712
    ∷ bills "class 3 at 50,000" 3 50_000 343_718
    ∷ bills "class 3 at 50,001" 3 50_001 343_723
    ∷ bills "class 1: the most usage" 1 10_000_000 73_101_031
    ∷ bills "class 2: the most usage" 2 10_000_000 76_701_229
    ∷ bills "class 3: the most usage" 3 10_000_000 46_810_218
    ∷ unbilled "class 1: one more" 1 10_000_001 23
    ∷ unbilled "class 2: one more" 2 10_000_001 23
    ∷ unbilled "class 3: one more" 3 10_000_001 23
    ∷ unbilled "class 0" 0 0 23
    ∷ unbilled "class 4" 4 0 23
    ∷ unbilled "class 255" 255 0 23
    ∷ unbilled "class 0 and too much" 0 10_000_001 23
    ∷ unbilled "the largest usage" 1 18_446_744_073_709_551_615 23
    ∷ unbilled "the most usage: no number" 1 10_000_000 0
    ∷ bills "class 4: no cents" 4 0 0
    ∷ uses "class 1 at 50,001: a line for each block" 1 50_001 (15_000 ∷ 35_000 ∷ 1 ∷ [])
    ∷ uses "class 2 at 50,001: a line for each block" 2 50_001 (15_000 ∷ 35_000 ∷ 1 ∷ [])
    ∷ uses "class 3 at 50,001: a line for each block" 3 50_001 (15_000 ∷ 35_000 ∷ 1 ∷ [])
    ∷ uses "class 3 at 50,000: nothing in the last block" 3 50_000 (15_000 ∷ 35_000 ∷ 0 ∷ [])
    ∷ uses "class 3 at 15,001: one in the second block" 3 15_001 (15_000 ∷ 1 ∷ 0 ∷ [])
    ∷ uses "class 3 at 15,000: all in the first block" 3 15_000 (15_000 ∷ 0 ∷ 0 ∷ [])
    ∷ uses "the most usage: the lines" 1 10_000_000 (15_000 ∷ 35_000 ∷ 9_950_000 ∷ [])
    ∷ uses "no usage: the lines" 2 0 (0 ∷ 0 ∷ 0 ∷ [])
    ∷ uses "too much usage: no lines" 3 10_000_001 []
    ∷ uses "class 4: no lines" 4 0 []
    ∷ prices "class 1: its prices" 1 0 (731 ∷ 731 ∷ 731 ∷ [])
    ∷ prices "class 2: its prices" 2 50_001 (767 ∷ 767 ∷ 767 ∷ [])
    ∷ prices "class 3: its prices" 3 10_000_000 (767 ∷ 647 ∷ 467 ∷ [])
    ∷ gives "past the last line: no kilowatt-hours" no_line.used 0
    ∷ gives "past the last line: no price" no_line.price 0
    ∷ []

abbrev budgets : List Case
budgets =
    finds "class 1: one cent under the basic charge" 1 1_030 None
    ∷ finds_some "class 1: the basic charge pays for some usage" 1 1_031
    ∷ finds "class 2: one cent under the basic charge" 2 1_228 None
    ∷ finds_some "class 2: the basic charge pays for some usage" 2 1_229
    ∷ finds "class 3: one cent under the basic charge" 3 2_217 None
    ∷ finds_some "class 3: the basic charge pays for some usage" 3 2_218
    ∷ pays_for "class 1: the basic charge" 1 1_031 0
    ∷ pays_for "class 1: one cent under the bill of 1" 1 1_037 0
    ∷ pays_for "class 1: the bill of 14,999" 1 110_674 14_999
    ∷ pays_for "class 1: one cent under the bill of 15,000" 1 110_680 14_999
    ∷ pays_for "class 1: the bill of 15,000" 1 110_681 15_000
    ∷ pays_for "class 1: one cent under the bill of 15,001" 1 110_687 15_000
    ∷ pays_for "class 1: the bill of 49,999" 1 366_524 49_999
    ∷ pays_for "class 1: one cent under the bill of 50,000" 1 366_530 49_999
    ∷ pays_for "class 1: the bill of 50,000" 1 366_531 50_000
    ∷ pays_for "class 1: one cent under the bill of 50,001" 1 366_537 50_000
    ∷ finds "class 1: the bill of 9,999,999" 1 73_101_024 (Some 9_999_999)
    ∷ finds "class 1: one cent under the bill of the most usage" 1 73_101_030 (Some 9_999_999)
    ∷ finds "class 1: the bill of the most usage" 1 73_101_031 (Some 10_000_000)
    ∷ finds "class 1: the largest sum" 1 18_446_744_073_709_551_615 (Some 10_000_000)
    ∷ pays_for "class 2: the basic charge" 2 1_229 0
    ∷ pays_for "class 2: one cent under the bill of 1" 2 1_236 0
    ∷ pays_for "class 2: the bill of 14,999" 2 116_271 14_999
    ∷ pays_for "class 2: one cent under the bill of 15,000" 2 116_278 14_999
    ∷ pays_for "class 2: the bill of 15,000" 2 116_279 15_000
    ∷ pays_for "class 2: one cent under the bill of 15,001" 2 116_286 15_000
    ∷ pays_for "class 2: the bill of 49,999" 2 384_721 49_999
    ∷ pays_for "class 2: one cent under the bill of 50,000" 2 384_728 49_999
    ∷ pays_for "class 2: the bill of 50,000" 2 384_729 50_000
    ∷ pays_for "class 2: one cent under the bill of 50,001" 2 384_736 50_000
    ∷ finds "class 2: the bill of 9,999,999" 2 76_701_221 (Some 9_999_999)
    ∷ finds "class 2: one cent under the bill of the most usage" 2 76_701_228 (Some 9_999_999)
    ∷ finds "class 2: the bill of the most usage" 2 76_701_229 (Some 10_000_000)
    ∷ finds "class 2: the largest sum" 2 18_446_744_073_709_551_615 (Some 10_000_000)
    ∷ pays_for "class 3: the basic charge" 3 2_218 0
    ∷ pays_for "class 3: one cent under the bill of 1" 3 2_225 0
    ∷ pays_for "class 3: the bill of 14,999" 3 117_260 14_999
    ∷ pays_for "class 3: one cent under the bill of 15,000" 3 117_267 14_999
    ∷ pays_for "class 3: the bill of 15,000" 3 117_268 15_000
    ∷ pays_for "class 3: one cent under the bill of 15,001" 3 117_273 15_000
    ∷ pays_for "class 3: the bill of 49,999" 3 343_712 49_999
    ∷ pays_for "class 3: one cent under the bill of 50,000" 3 343_717 49_999
    ∷ pays_for "class 3: the bill of 50,000" 3 343_718 50_000
    ∷ pays_for "class 3: one cent under the bill of 50,001" 3 343_722 50_000
    ∷ finds "class 3: the bill of 9,999,999" 3 46_810_213 (Some 9_999_999)
    ∷ finds "class 3: one cent under the bill of the most usage" 3 46_810_217 (Some 9_999_999)
    ∷ finds "class 3: the bill of the most usage" 3 46_810_218 (Some 10_000_000)
    ∷ finds "class 3: the largest sum" 3 18_446_744_073_709_551_615 (Some 10_000_000)
    ∷ pays_for "the most usage: no next bill is asked" 1 73_101_031 10_000_000
    ∷ unread "class 0, a sum" 0 5_000 23
    ∷ unread "class 4, a sum" 4 5_000 23
    ∷ unread "class 255, no sum" 255 0 23
    ∷ unread "no sum: no number" 1 0 0
    ∷ []

abbrev pub edges : List Case
edges =
    readings
    ++ (budgets ++ (days ++ (ranges ++ (charges ++ (receipts ++ (tills ++ (deposits ++ (services ++ (payouts ++ (notices ++ (certificates ++ (arrangements ++ limits))))))))))))
