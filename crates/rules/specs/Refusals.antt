-- The refusals and their numbers: document 01's table, 23 and 24 of document 02, and 0.
use Rattle.std.specs.Prelude.{ℕ, List, [], ◌∷◌, get_or}
use Rattle.rules.specs.declared.refusals.Refusal.{Refusal}
use Rattle.rules.specs.declared.refusals.Refusal.TheVariants.{
  NoAccount,
  PastLastDay,
  BeforeLastEvent,
  OutOfRange,
  Closed,
  WrongService,
  NoPayment,
  WrongSum,
  NotEarned,
  NothingToArrange,
  LowArrears,
  NoticeLive,
  NoNotice,
  NoCall,
  Arranged,
  Certified,
  InArrears,
  DepositShort,
  TooManyOpen,
  PastLimit,
  BadBook,
  BadRecord,
  TooShort,
  NoTariff,
  OutsideCalendar,
}

-- the number of a refusal
abbrev pub refusal_number : Refusal → ℕ
refusal_number NoAccount = 0
refusal_number PastLastDay = 1
refusal_number BeforeLastEvent = 2
refusal_number OutOfRange = 3
refusal_number Closed = 4
refusal_number WrongService = 5
refusal_number NoPayment = 6
refusal_number WrongSum = 7
refusal_number NotEarned = 8
refusal_number NothingToArrange = 9
refusal_number LowArrears = 10
refusal_number NoticeLive = 11
refusal_number NoNotice = 12
refusal_number NoCall = 13
refusal_number Arranged = 14
refusal_number Certified = 15
refusal_number InArrears = 16
refusal_number DepositShort = 17
refusal_number TooManyOpen = 18
refusal_number PastLimit = 19
refusal_number BadBook = 20
refusal_number BadRecord = 21
refusal_number TooShort = 22
refusal_number NoTariff = 23
refusal_number OutsideCalendar = 24

-- the refusals by number, from 0 on
abbrev pub refusals : List Refusal
refusals =
    NoAccount
    ∷ PastLastDay
    ∷ BeforeLastEvent
    ∷ OutOfRange
    ∷ Closed
    ∷ WrongService
    ∷ NoPayment
    ∷ WrongSum
    ∷ NotEarned
    ∷ NothingToArrange
    ∷ LowArrears
    ∷ NoticeLive
    ∷ NoNotice
    ∷ NoCall
    ∷ Arranged
    ∷ Certified
    ∷ InArrears
    ∷ DepositShort
    ∷ TooManyOpen
    ∷ PastLimit
    ∷ BadBook
    ∷ BadRecord
    ∷ TooShort
    ∷ NoTariff
    ∷ OutsideCalendar
    ∷ []

-- the refusal of a number
abbrev pub refusal_of : ℕ → Refusal
refusal_of n = get_or refusals n NoAccount
