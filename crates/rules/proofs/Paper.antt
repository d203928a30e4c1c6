-- Document 01's own examples: the marked histories a to l, the example of each row of the table, and that of `standing`.
use mathlib.Core.List.{List, [], ◌∷◌, ◌++◌}
use Rattle.rules.specs.declared.Event.{Event}
use Rattle.rules.proofs.Events.{
  bill,
  payment,
  returned,
  fee,
  asked_deposit,
  paid,
  moved,
  payout,
  certificate,
  approval,
  arrangement,
  notice,
  call,
  cut_off,
  reconnection,
  close,
  times,
  owed,
  held,
  open_count,
  service_is,
  refused,
  Case,
  ends,
  shows,
}

-- the bill and the notice that the histories begin with, and the disconnection of d
abbrev pub b : List Event
b = bill 0 6000 ∷ notice 20 ∷ []

abbrev pub d : List Event
d = b ++ (call 22 ∷ cut_off 25 ∷ [])

abbrev standing : List Event
standing = bill 100 10000 ∷ bill 130 5000 ∷ payment 131 4000 ∷ cut_off 131 ∷ []

abbrev pub paper : List Case
paper =
    ends "a: notice before 20 days" (bill 0 6000 ∷ notice 19 ∷ []) 10
    ∷ ends "b: notice after 20 days" b 0
    ∷ ends "c: cut before the notice's days" (b ++ (call 22 ∷ cut_off 24 ∷ [])) 12
    ∷ ends "d: cut in the notice's days" d 0
    ∷ ends "e: cut on the notice's last day" (b ++ (call 22 ∷ call 39 ∷ cut_off 40 ∷ [])) 0
    ∷ ends "e: cut a day later" (b ++ (call 22 ∷ call 39 ∷ cut_off 41 ∷ [])) 12
    ∷ ends "f: the call is too old" (b ++ (call 21 ∷ cut_off 25 ∷ [])) 13
    ∷ ends "g: a later call on the day of the cut" (b ++ (call 24 ∷ call 25 ∷ cut_off 25 ∷ [])) 0
    ∷ ends "h: an arrangement" (b ++ (call 22 ∷ arrangement 22 2 ∷ cut_off 25 ∷ [])) 14
    ∷ ends "i: a certificate that has run out" (b ++ (certificate 21 4 ∷ call 22 ∷ cut_off 25 ∷ [])) 0
    ∷ ends "j: a certificate on its last day" (b ++ (certificate 21 5 ∷ call 22 ∷ cut_off 25 ∷ [])) 15
    ∷ ends "j: with an approval" (b ++ (certificate 21 5 ∷ call 22 ∷ approval 22 4 ∷ cut_off 25 ∷ [])) 0
    ∷ ends "j: the approval posted before" (b ++ (approval 21 30 ∷ certificate 21 5 ∷ call 22 ∷ cut_off 25 ∷ [])) 15
    ∷ ends "k: arrears paid below 5,000" (b ++ (call 22 ∷ payment 22 1001 ∷ cut_off 25 ∷ [])) 10
    ∷ shows "l: owed 133, late charge 0" owed (bill 0 133 ∷ bill 1 1000 ∷ []) 1133
    ∷ shows "l: owed 134, late charge 1" owed (bill 0 134 ∷ bill 1 1000 ∷ []) 1135
    -- the rows of the table
    ∷ ends "1: after the last day" (bill 73049 1 ∷ []) 1
    ∷ ends "2: before the last accepted" (call 5 ∷ call 4 ∷ []) 2
    ∷ ends "3: no amount" (bill 0 0 ∷ []) 3
    ∷ ends "4: closed" (close 0 ∷ close 0 ∷ []) 4
    ∷ ends "5: not off" (reconnection 0 0 ∷ []) 5
    ∷ ends "6: no such receipt" (returned 0 1 ∷ []) 6
    ∷ ends "7: nothing to pay out" (payout 0 1 ∷ []) 7
    ∷ ends "8: full for 364 days" (asked_deposit 10 100 ∷ paid 10 100 ∷ moved 374 ∷ []) 8
    ∷ ends "9: nothing in arrears" (arrangement 0 2 ∷ []) 9
    ∷ ends "10: no arrears" (cut_off 0 ∷ []) 10
    ∷ ends "11: a notice is live" (b ++ (notice 20 ∷ [])) 11
    ∷ ends "12: case c" (b ++ (call 22 ∷ cut_off 24 ∷ [])) 12
    ∷ ends "13: case f" (b ++ (call 21 ∷ cut_off 25 ∷ [])) 13
    ∷ ends "14: case h" (b ++ (call 22 ∷ arrangement 22 2 ∷ cut_off 25 ∷ [])) 14
    ∷ ends "15: case j" (b ++ (certificate 21 5 ∷ call 22 ∷ cut_off 25 ∷ [])) 15
    ∷ ends "16: cut, reconnection" (d ++ (reconnection 26 0 ∷ [])) 16
    ∷ ends "17: cut, debt paid, deposit asked" (d ++ (payment 26 7500 ∷ asked_deposit 26 100 ∷ reconnection 26 0 ∷ [])) 17
    ∷ ends "18: the 65th fee" (times 65 (fee 0 1 ∷ [])) 18
    ∷ ends "19: 100 bills, each paid" (times 100 (bill 0 10000000000 ∷ payment 0 10000000000 ∷ []) ++ (bill 0 1 ∷ [])) 19
    -- `standing`
    ∷ shows "standing: owed" owed standing 11075
    ∷ shows "standing: held" held standing 0
    ∷ shows "standing: open items" open_count standing 2
    ∷ shows "standing: service on" service_is standing 0
    ∷ shows "standing: refused" refused standing 1
    -- errors that document 01 has seen
    ∷ ends "lapse tested only at the cut" (bill 0 6000 ∷ bill 5 6000 ∷ notice 20 ∷ payment 21 1001 ∷ call 24 ∷ cut_off 25 ∷ []) 12
    ∷ shows "late charge on a credit" owed (payment 0 50000 ∷ bill 1 51000 ∷ []) 1000
    ∷ ends "fees in a notice's own arrears" (bill 0 5000 ∷ bill 5 5000 ∷ notice 20 ∷ payment 21 1 ∷ call 24 ∷ cut_off 25 ∷ []) 12
    ∷ []
