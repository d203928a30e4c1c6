use borrow.Author.Rules.{rules}
use borrow.Author.Tests.{tests}
use Rattle.std.proofs.lemmas.Iterator.{YieldsList-from_slice}
use Rattle.std.proofs.lemmas.Iterator.Search.{all_from_yields_List}
use Rattle.bookformat.specs.Book.{kind_fine}
use Rattle.bookwrite.proofs.kinds_fine.Goals as goal

pub returns : goal.returns
returns c =
    all_from_yields_List kind_fine _ _ c.all.result c.all.ensures.ran (YieldsList-from_slice c.args.kinds.now (cc)) (λ x b q k. search (rules, tests))
