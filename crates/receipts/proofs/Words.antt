-- The part and its words: each is all of the other.
use Prim.Native.Nat.{ℕ}
use mathlib.Core.Path.{◌≡◌}
use mathlib.Core.List.{List}
use lib.ListN.{length}
use Rattle.std.proofs.lemmas.List.{take-append-drop, take_at, drop_at}
use Rattle.receipts.specs.Receipts.{Receipts, tills, receipts_size, receipts_on, receipts_words}

pub receipts_whole : (w : List ℕ) → length w ≡ receipts_size → receipts_words (receipts_on w) ≡ w
receipts_whole w l = take-append-drop tills w

pub receipts_back : (s : Receipts) → length s.counts ≡ tills → receipts_on (receipts_words s) ≡ s
receipts_back s l = λ i. record { counts = take_at s.counts s.recent tills l i; recent = drop_at s.counts s.recent tills l i }
