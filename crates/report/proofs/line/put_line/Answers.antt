use Rattle.text.proofs.Numerals.{put_then}
use Rattle.report.specs.Standing.{standing_line}
use Rattle.report.proofs.line.put_line.Goals as goal

pub returns : goal.returns
unfolding standing_line
returns c =
    let money = put_then _ _ _ _ _ _ _ _ c.put_number-owed_at.ensures (put_then _ _ _ _ _ _ _ _ c.put_difference-held_at.ensures c.put_number-open_at.ensures) in
    let state = put_then _ _ _ _ _ _ _ _ c.put_number-word_at.ensures (put_then _ _ _ _ _ _ _ _ c.put_word-refused_at.ensures c.put_number.ensures) in
    put_then _ _ _ _ _ _ _ _ money state
