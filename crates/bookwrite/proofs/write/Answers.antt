use Rattle.std.proofs.Common.{◌≡◌, ◌∙◌, length, arith}
use Rattle.rules.proofs.Numbered.{handed_on, answered_ok, answered_err}
use Rattle.bookformat.specs.Lent.{write_refusal}
use Rattle.bookformat.proofs.Told.{write_facts}
use Rattle.bookformat.proofs.Stored.{wrote_none, wrote_done}
use Rattle.bookwrite.specs.Lists.{columns_of}
use Rattle.bookwrite.proofs.write.Goals as goal

pub returns-in_err-check-clause-wrote_book : goal.returns-in_err-check-clause-wrote_book
returns-in_err-check-clause-wrote_book c =
    let left = handed_on _ c.from_residual.ensures.1 in
    rw left (wrote_none _ _ _ c.in_err-check.ensures)

pub returns-in_err-check-clause-outcome : goal.returns-in_err-check-clause-outcome
returns-in_err-check-clause-outcome c = handed_on _ c.from_residual.ensures.1 ∙ (answered_err _ _ _ _ c.in_err-check.ensures).1

pub size-requires : goal.size-requires
size-requires c =
    let l = c.args.list in
    let z = (answered_ok _ _ _ c.in_ok-check.ensures).0 in
    let w = write_facts (columns_of l) (length c.args.out.now) z in
    record { few_accounts = omega (arith, w.sizes); few_records = omega (arith, w.sizes) }

pub returns-clause-wrote_book : goal.returns-clause-wrote_book
returns-clause-wrote_book c = wrote_done _ _ _ _ c.in_ok-check.ensures c.put_book.ensures

pub returns-clause-outcome : goal.returns-clause-outcome
returns-clause-outcome c =
    let l = c.args.list in
    let z : write_refusal (columns_of l) (length c.args.out.now) ≡ 0 =
    (answered_ok _ _ _ c.in_ok-check.ensures).0 in
    rw (z, c.size.ensures)
