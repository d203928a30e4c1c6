-- The sixteen kinds of event, by document 01's numbers.
use Rattle.std.specs.Prelude.{ℕ, ◌≡◌, Bool, false, ◌&&◌, leb, Result, MatchResult}
use Rattle.rules.specs.declared.kinds.Kind.{Kind}
use Rattle.rules.specs.declared.kinds.Kind.TheVariants as kind
use Rattle.rules.specs.declared.kinds.UnknownKind.{UnknownKind}

abbrev pub bill : ℕ
bill = 1

abbrev pub payment : ℕ
payment = 2

-- a payment that the bank sent back (document 01: returned)
abbrev pub returned_payment : ℕ
returned_payment = 3

abbrev pub fee : ℕ
fee = 4

abbrev pub deposit_asked : ℕ
deposit_asked = 5

abbrev pub deposit_paid : ℕ
deposit_paid = 6

abbrev pub deposit_moved : ℕ
deposit_moved = 7

abbrev pub payout : ℕ
payout = 8

-- a medical certificate
abbrev pub certificate : ℕ
certificate = 9

-- the superintendent's approval of a disconnection in spite of a certificate
abbrev pub approval : ℕ
approval = 10

-- a payment arrangement
abbrev pub arrangement : ℕ
arrangement = 11

abbrev pub final_notice : ℕ
final_notice = 12

abbrev pub call : ℕ
call = 13

-- document 01: cut
abbrev pub disconnection : ℕ
disconnection = 14

abbrev pub reconnection : ℕ
reconnection = 15

-- document 01: close
abbrev pub closing : ℕ
closing = 16

-- ---- the kinds as the code names them
-- document 01's number of a kind
abbrev pub kind_number : Kind → ℕ
kind_number kind.Bill = bill
kind_number kind.Payment = payment
kind_number kind.ReturnedPayment = returned_payment
kind_number kind.Fee = fee
kind_number kind.DepositAsked = deposit_asked
kind_number kind.DepositPaid = deposit_paid
kind_number kind.DepositMoved = deposit_moved
kind_number kind.Payout = payout
kind_number kind.Certificate = certificate
kind_number kind.Approval = approval
kind_number kind.Arrangement = arrangement
kind_number kind.FinalNotice = final_notice
kind_number kind.Call = call
kind_number kind.Disconnection = disconnection
kind_number kind.Reconnection = reconnection
kind_number kind.Closing = closing

-- a number is one of the sixteen kinds
abbrev pub is_kind : ℕ → Bool
is_kind n = leb bill n && leb n closing

-- the kind that has the number, or the number of none
abbrev pub Decodes : ℕ → Result Kind UnknownKind → Type 0
Decodes n r = MatchResult r (λ k. kind_number k ≡ n) (λ e. (e.0 ≡ n) × (is_kind n ≡ false))
