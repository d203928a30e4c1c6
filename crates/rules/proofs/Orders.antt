-- Our own cases: where several rows refuse an event, the lowest number answers. In each case as many of them refuse as can meet;
-- rows 1 and 2 never do.
use Prim.Native.Nat.{ℕ}
use mathlib.Core.List.{List, [], ◌∷◌, ◌++◌}
use Rattle.rules.specs.declared.Event.{Event}
use Rattle.rules.proofs.Events.{
  event,
  bill,
  payment,
  returned,
  returned_at,
  fee,
  asked_deposit,
  paid,
  moved,
  certificate,
  arrangement,
  notice,
  call,
  cut_off,
  reconnection,
  close,
  times,
  Case,
  ends,
}
use Rattle.rules.proofs.Paper.{b, d}
use Rattle.rules.proofs.Edges.{full, rich}

-- n bills, each paid: C grows, and nothing is owed
abbrev paid_bills : ℕ → List Event
paid_bills n = times n (bill 0 10000000000 ∷ payment 0 10000000000 ∷ [])

-- C at the limit by late charges too, and 64 open items of day 0: rows 18 and 19 refuse every new item
abbrev pub brim : List Event
brim = paid_bills 19 ++ times 63 (bill 0 10000000000 ∷ []) ++ (bill 0 2423303858 ∷ [])

-- a live notice, and one fee short of the same
abbrev warned : List Event
warned = paid_bills 22 ++ times 61 (bill 0 10000000000 ∷ []) ++ (bill 0 4327575168 ∷ notice 20 ∷ [])

-- the same as at the brim, with service off
abbrev off : List Event
off = warned ++ (call 22 ∷ cut_off 25 ∷ fee 25 1 ∷ [])

-- small arrears, an arrangement in force and a certificate: rows 10 and 12 to 15 refuse a cut
abbrev guarded : List Event
guarded = bill 0 100 ∷ arrangement 20 2 ∷ certificate 20 9 ∷ []

abbrev pub orders : List Case
orders =
    ends "1 before 3" (event 99 73049 9 9 ∷ []) 1
    ∷ ends "1 before 4" (close 5 ∷ bill 73049 1 ∷ []) 1
    ∷ ends "2 before 3" (call 5 ∷ event 99 4 9 9 ∷ []) 2
    ∷ ends "2 before 4" (close 5 ∷ bill 4 1 ∷ []) 2
    ∷ ends "1 before 3, a certificate" (certificate 73_049 91 ∷ []) 1
    ∷ ends "2 before 3, a certificate" (call 9_498 ∷ certificate 9_497 91 ∷ []) 2
    ∷ ends "3 before 4" (close 0 ∷ bill 0 0 ∷ []) 3
    ∷ ends "3 before 4, a certificate" (close 9_497 ∷ certificate 9_497 91 ∷ []) 3
    ∷ ends "3 before 4, no kind" (close 0 ∷ event 99 0 0 0 ∷ []) 3
    ∷ ends "3 before 5" (reconnection 0 2 ∷ []) 3
    ∷ ends "3 before 9" (arrangement 0 7 ∷ []) 3
    ∷ ends "3 before 18 and 19" (brim ++ (bill 0 0 ∷ [])) 3
    -- bill, fee
    ∷ ends "bill: 4 before 18 and 19" (brim ++ (close 0 ∷ bill 0 1 ∷ [])) 4
    ∷ ends "bill: 18 before 19" (brim ++ (bill 0 1 ∷ [])) 18
    ∷ ends "fee: 4 before 18 and 19" (brim ++ (close 0 ∷ fee 0 1 ∷ [])) 4
    ∷ ends "fee: 18 before 19" (brim ++ (fee 0 1 ∷ [])) 18
    -- returned payment
    ∷ ends "returned: 6 before 18 and 19" (brim ++ (returned 0 20 ∷ [])) 6
    ∷ ends "returned: 3 before 6, 18 and 19" (brim ++ (returned_at 5 0 20 ∷ [])) 3
    ∷ ends "returned: 18 before 19" (brim ++ (returned 0 19 ∷ [])) 18
    -- deposits
    ∷ ends "deposit paid: 4 before 7" (close 0 ∷ paid 0 1 ∷ []) 4
    ∷ ends "deposit moved: 4 before 7 and 8" (full ++ (close 0 ∷ moved 0 ∷ [])) 4
    ∷ ends "deposit moved: 7 before 8 and 19" (asked_deposit 0 100 ∷ paid 0 60 ∷ (rich ++ (payment 0 10000000000 ∷ moved 0 ∷ []))) 7
    ∷ ends "deposit moved: 8 before 19" (full ++ rich ++ (payment 0 10000000000 ∷ moved 364 ∷ [])) 8
    -- arrangement
    ∷ ends "arrangement: 4 before 9" (bill 0 100 ∷ arrangement 20 2 ∷ close 20 ∷ arrangement 20 2 ∷ []) 4
    -- notice
    ∷ ends "notice: 4 before 5, 10, 18 and 19" (brim ++ (close 0 ∷ notice 0 ∷ [])) 4
    ∷ ends "notice: 4 before 11" (b ++ (close 20 ∷ notice 20 ∷ [])) 4
    ∷ ends "notice: 5 before 10" (d ++ (payment 26 7500 ∷ notice 26 ∷ [])) 5
    ∷ ends "notice: 5 before 18 and 19" (off ++ (notice 25 ∷ [])) 5
    ∷ ends "notice: 10 before 18 and 19" (brim ++ (notice 19 ∷ [])) 10
    ∷ ends "notice: 11 before 18 and 19" (warned ++ (fee 20 1 ∷ notice 20 ∷ [])) 11
    ∷ ends "notice: 18 before 19" (brim ++ (notice 20 ∷ [])) 18
    -- call
    ∷ ends "call: 4 before 5" (close 0 ∷ call 0 ∷ []) 4
    -- cut
    ∷ ends "cut: 4 before 5, 10 and 12 to 15" (guarded ++ (close 20 ∷ cut_off 20 ∷ [])) 4
    ∷ ends "cut: 5 before 10 and 12 to 15" (d ++ (payment 26 5900 ∷ arrangement 26 2 ∷ certificate 26 9 ∷ cut_off 26 ∷ [])) 5
    ∷ ends "cut: 10 before 12 to 15" (guarded ++ (cut_off 20 ∷ [])) 10
    ∷ ends "cut: 12 before 13 to 15" (b ++ (arrangement 20 2 ∷ certificate 20 9 ∷ cut_off 24 ∷ [])) 12
    ∷ ends "cut: 13 before 14 and 15" (b ++ (arrangement 22 2 ∷ certificate 22 9 ∷ cut_off 25 ∷ [])) 13
    ∷ ends "cut: 14 before 15" (b ++ (call 22 ∷ arrangement 22 2 ∷ certificate 22 9 ∷ cut_off 25 ∷ [])) 14
    -- reconnection
    ∷ ends "reconnection: 4 before 5, 16, 18 and 19" (off ++ (close 25 ∷ reconnection 25 0 ∷ [])) 4
    ∷ ends "reconnection: 5 before 16 to 19" (brim ++ (asked_deposit 20 9 ∷ reconnection 20 0 ∷ [])) 5
    ∷ ends "reconnection: 16 before 17 to 19" (off ++ (asked_deposit 25 9 ∷ reconnection 25 0 ∷ [])) 16
    ∷ ends "reconnection: 17 before 18 and 19" (off ++ (arrangement 25 2 ∷ asked_deposit 25 9 ∷ reconnection 25 0 ∷ [])) 17
    ∷ ends "reconnection: 18 before 19" (off ++ (arrangement 25 2 ∷ reconnection 25 0 ∷ [])) 18
    ∷ []
