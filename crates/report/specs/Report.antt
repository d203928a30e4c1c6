-- The text that `standing` prints for a book, by the rules over events alone.
use Rattle.std.specs.Prelude.{ℕ, zero, suc, ◌+◌, ◌*◌, ◌-◌, ◌≡◌, Bool, cond, List, [], ◌∷◌, ◌++◌, ltb, ℤ, length, drop, Result, None}
use Rattle.std.specs.Result.{result_unwrap_or}
use Rattle.std.specs.Fmt.{decimal, signed_decimal}
use Rattle.basics.specs.Ascii.{ascii}
use Rattle.rules.specs.declared.Event.{Event}
use Rattle.rules.specs.declared.Service.{Service}
use Rattle.rules.specs.History.{History}
use Rattle.rules.specs.Deposit.{held}
use Rattle.rules.specs.Money.{owed, open_items}
use Rattle.rules.specs.Service.{service, word_of}
use Rattle.rules.specs.declared.refusals.Refusal.{Refusal}
use Rattle.rules.specs.Answer.{number_of}
use Rattle.rules.specs.Accepted.{accepted}
use Rattle.bookformat.specs.Book.{AccountList, most_accounts, book_refusal, decode}

-- words with one space between, and the end of the line
abbrev pub spaced : List (List ℕ) → List ℕ
spaced [] = 10 ∷ []
spaced (w ∷ []) = w ++ (10 ∷ [])
spaced (w ∷ v ∷ ws) = (w ++ (32 ∷ [])) ++ spaced (v ∷ ws)

-- an account's line: its index, owed in cents, held, open items, service, refused count
abbrev pub line : ℕ → ℤ → ℕ → ℕ → Service → ℕ → List ℕ
line i owes holds opens serves refuses =
    spaced (decimal i ∷ signed_decimal owes ∷ decimal holds ∷ decimal opens ∷ word_of serves ∷ decimal refuses ∷ [])

-- the line of account i, whose records are es and whose accepted events are h
abbrev pub line_by : ℕ → List Event → History → List ℕ
line_by i es h = line i (owed h) (held h) (length (open_items h)) (service h) (length es - length h)

-- an account of a book has no calendar
unfoldable pub line_of : ℕ → List Event → List ℕ
line_of i es = line_by i es (accepted None es)

-- the lines of the accounts, numbered from i on
abbrev pub lines_of : ℕ → AccountList → List ℕ
lines_of i [] = []
lines_of i (es ∷ rest) = line_of i es ++ lines_of (i + 1) rest

abbrev pub heading : List ℕ
heading = ascii "account owed held open service refused\n"

-- the text for an accepted book
unfoldable pub listing : List ℕ → List ℕ
listing b = heading ++ lines_of 0 (decode b)

-- the text for a book that is refused with n
unfoldable pub refused_text : ℕ → List ℕ
refused_text n = ascii "book refused " ++ (decimal n ++ (10 ∷ []))

abbrev pub text_by : ℕ → List ℕ → List ℕ
text_by zero b = listing b
text_by (suc n) b = refused_text (suc n)

-- the text that is printed for the bytes b
abbrev pub text_of : List ℕ → List ℕ
text_of b = text_by (book_refusal b) b

-- the longest file that `standing` reads
abbrev pub longest_input : ℕ
longest_input = 65_536

-- the text that `standing` prints for what it read: a file of more than 65,536 bytes is refused with 20
abbrev pub input_text : List ℕ → List ℕ
input_text b = cond (ltb longest_input (length b)) (refused_text 20) (text_of b)

-- no line of an account is longer
abbrev pub longest_line : ℕ
longest_line = 113

-- bytes that hold the text of n accounts: the heading, and so many for each line; and those that hold every text
abbrev pub room_for : ℕ → ℕ
room_for n = 39 + longest_line * n

abbrev pub most_room : ℕ
most_room = room_for most_accounts

-- ---- writing a text
-- the output is too short for the text
abbrev pub short_for : List ℕ → List ℕ → Bool
short_for text old = ltb (length old) (length text)

-- row 22
abbrev pub print_refusal : List ℕ → List ℕ → ℕ
print_refusal text old = cond (short_for text old) 22 0

-- how many bytes the text takes; none where the output is too short
abbrev pub print_length : List ℕ → List ℕ → ℕ
print_length text old = cond (short_for text old) 0 (length text)

-- the output afterwards: the text and then the old tail; where it is too short, all as it was
abbrev pub printed_in : List ℕ → List ℕ → List ℕ
printed_in text old = cond (short_for text old) old (text ++ drop (length text) old)

-- what writing a text does: its answer, by document 01's number and value, and every byte of the output. No text is empty, so that
-- number and value are those of one answer only (`one_answer` in proofs/Texts.antt)
pub record WroteText (text old new : List ℕ) (r : Result ℕ Refusal) : Type 0 where
  pub number : number_of r ≡ print_refusal text old
  pub written : result_unwrap_or r 0 ≡ print_length text old
  pub bytes : new ≡ printed_in text old

-- what a report of the bytes b does
abbrev pub Reported : List ℕ → List ℕ → List ℕ → Result ℕ Refusal → Type 0
Reported b old new r = WroteText (text_of b) old new r
