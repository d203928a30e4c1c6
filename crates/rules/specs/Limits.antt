-- The paper's limits, each by one name; src/limits.rt has the same names.
use Rattle.std.specs.Prelude.{ℕ}

-- the last day, 31 December 2199
abbrev pub final_day : ℕ
final_day = 73_048

-- the most that the charges, or payments plus deposits moved, may come to
abbrev pub limit : ℕ
limit = 1_000_000_000_000

-- the largest amount A
abbrev pub most_amount : ℕ
most_amount = 10_000_000_000

-- the largest sum that may be asked as a deposit
abbrev pub most_deposit : ℕ
most_deposit = 100_000_000

-- a receipt is any number from 1 on: up to the largest that an event can hold
abbrev pub most_receipt : ℕ
most_receipt = 18_446_744_073_709_551_615

-- the most items that may be open
abbrev pub most_open : ℕ
most_open = 64

-- tills are numbered from 0 to this one
abbrev pub last_till : ℕ
last_till = 4

-- so many of each till's newest payments are known by their receipts
abbrev pub known_receipts : ℕ
known_receipts = 16

-- an item is delinquent from so many days after its own
abbrev pub grace : ℕ
grace = 20

-- arrears under this bar a notice or a disconnection, and make a notice lapse
abbrev pub enough : ℕ
enough = 5_000

-- a disconnection wants a notice that has waited so many days, or with a calendar so many working days
abbrev pub notice_from : ℕ
notice_from = 5

-- and a notice is live for so many days after its own
abbrev pub notice_to : ℕ
notice_to = 20

-- a calendar has so many days, and as many bits in words of 64
abbrev pub calendar_days : ℕ
calendar_days = 2_048

abbrev pub calendar_words : ℕ
calendar_words = 32

-- a call counts on so many days after its own
abbrev pub call_days : ℕ
call_days = 3

-- a deposit's notices and disconnections are looked for in so many days, in a leap year too
abbrev pub conduct_days : ℕ
conduct_days = 365

-- the most notices in those days
abbrev pub most_notices : ℕ
most_notices = 2

-- the longest certificate, in days, and the longest since they are shorter
abbrev pub certificate_days : ℕ
certificate_days = 180

abbrev pub short_certificate_days : ℕ
short_certificate_days = 90

-- 1 January 2026, the first day of shorter certificates
abbrev pub short_certificates_from : ℕ
short_certificates_from = 9_497

-- the longest approval, in days
abbrev pub approval_days : ℕ
approval_days = 30

-- an arrangement's parts, at least and at most, and the days of each
abbrev pub least_parts : ℕ
least_parts = 2

abbrev pub most_parts : ℕ
most_parts = 6

abbrev pub part_days : ℕ
part_days = 30

-- a bill is worked out for classes from 1 to this one
abbrev pub last_class : ℕ
last_class = 3

-- and for at most so many kilowatt-hours
abbrev pub most_usage : ℕ
most_usage = 10_000_000
