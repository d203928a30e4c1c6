use mathlib.Core.Path.{◌≡◌, ◌∙◌}
use borrow.Author.Rules.{rules}
use Rattle.bookformat.specs.Finding.{record_at}
use Rattle.bookformat.proofs.Found.{record_of_lem}
use Rattle.book.proofs.record.Goals as goal

pub returns-then-whole_records-k : goal.returns-then-whole_records-k
returns-then-whole_records-k c =
    let s = c.args in
    let e : record { kind = 0; option = 0; day = 0; amount = 0 } ≡ record_at s.b.now s.k = search rules in
    record { value = e; in_book = λ z. e ∙ record_of_lem s.b.now s.k z }

pub returns : goal.returns
returns c =
    let s = c.args in
    let e : c.event_at.result ≡ record_at s.b.now s.k = search rules in
    record { value = e; in_book = λ z. e ∙ record_of_lem s.b.now s.k z }
