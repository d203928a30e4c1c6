use Rattle.std.proofs.Common.{rules}
use Rattle.hollupaq.proofs.Told.{mapped_size, stored}
use Rattle.hollupaq.proofs.books.hollupaq_book_write.Goals as goal

pub returns : goal.returns
returns c =
    stored _ _ _ _ _ _ c.write.ensures.wrote_book
    (mapped_size _ _ _ _ _ c.write.ensures.outcome c.map.ensures.cases (λ x y l. search rules)) c.word_of.ensures
