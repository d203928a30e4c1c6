use Rattle.hollupaq.proofs.Told.{reading_told}
use Rattle.hollupaq.proofs.bills.hollupaq_reading.Goals as goal

pub returns-in-Ok-Some : goal.returns-in-Ok-Some
returns-in-Ok-Some c =
    let r = c.in-Ok-Some in
    let largest = rw r.field-0-is at r.ensures.largest in
    reading_told r.usage c.word_of.result _ largest.in_range (rw r.field-0-is at r.ensures.reading) c.word_of.ensures
