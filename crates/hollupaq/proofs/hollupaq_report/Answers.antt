use Rattle.std.proofs.Common.{◌∙◌}
use Rattle.hollupaq.proofs.hollupaq_report.Goals as goal

pub returns : goal.returns
returns c =
    let p = c.report in
    record { answer = c.unwrap_or.ensures ∙ p.ensures.written; bytes = p.ensures.bytes }
