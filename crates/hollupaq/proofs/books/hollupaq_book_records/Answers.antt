use Rattle.std.proofs.Common.{arith, rules}
use Rattle.bookformat.specs.Book.{records}
use Rattle.bookformat.proofs.Told.{book_facts}
use Rattle.hollupaq.proofs.Told.{header_word}
use Rattle.hollupaq.proofs.books.hollupaq_book_records.Goals as goal

pub returns : goal.returns
returns c =
    let b = c.args.book.now in
    header_word b (records b) _ _ c.read.result c.map.result c.read.ensures c.map.ensures.cases (λ x y q l. rw (← q) (search rules)) (λ z. omega (arith, (book_facts b z).0)) c.word_of.ensures
