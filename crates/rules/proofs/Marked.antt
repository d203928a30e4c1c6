-- The marked list: the papers' examples and our own, one list and one theorem, which the checker computes.
use mathlib.Core.Path.{◌≡◌, refl}
use mathlib.Core.List.{List, [], ◌∷◌, ◌++◌}
use lib.Dec.{eqb}
use Rattle.basics.proofs.Cases.{on}
use Rattle.rules.specs.History.{within, total}
use Rattle.rules.specs.Dates.{leap, year_length, date_in, date_of, year_later}
use Rattle.rules.specs.Workdays.{bit_set, bit_in, working, working_days}
use Rattle.rules.specs.Medical.{covers}
use Rattle.rules.specs.Range.{in_range}
use Rattle.rules.specs.Table.{refusal_by}
use Rattle.rules.specs.Tariff.{cents_of}
use Rattle.rules.specs.Budget.{largest_where}
use Rattle.rules.proofs.Events.{Case, wrong}
use Rattle.rules.proofs.Paper.{paper}
use Rattle.rules.proofs.Tickets.{tickets}
use Rattle.rules.proofs.Dates.{dates}
use Rattle.rules.proofs.Edges.{edges}
use Rattle.rules.proofs.Orders.{orders}
use Rattle.rules.proofs.Calendars.{calendars}

abbrev pub cases : List Case
cases = paper ++ (tickets ++ (dates ++ (edges ++ (orders ++ calendars))))

-- where no case of two lists is wrong, none is of both
both : (cs ds : List Case) → wrong cs ≡ [] → wrong ds ≡ [] → wrong (cs ++ ds) ≡ []
both [] ds p q = q
both (c ∷ cs) ds p q =
    on (eqb (c.asks c.calendar c.events) c.expected)
    (λ z. rw z (both cs ds (rw z at p) q))
    (λ z. let f : (c.name ∷ wrong cs) ≡ [] = rw z at p in absurd (cc))

no_paper : wrong paper ≡ []
unfolding within total covers in_range refusal_by cents_of largest_where bit_set bit_in working working_days leap year_length date_in date_of year_later
no_paper = refl

no_tickets : wrong tickets ≡ []
unfolding within total covers in_range refusal_by cents_of largest_where bit_set bit_in working working_days leap year_length date_in date_of year_later
no_tickets = refl

no_dates : wrong dates ≡ []
unfolding within total covers in_range refusal_by cents_of largest_where bit_set bit_in working working_days leap year_length date_in date_of year_later
no_dates = refl

no_edges : wrong edges ≡ []
unfolding within total covers in_range refusal_by cents_of largest_where bit_set bit_in working working_days leap year_length date_in date_of year_later
no_edges = refl

no_orders : wrong orders ≡ []
unfolding within total covers in_range refusal_by cents_of largest_where bit_set bit_in working working_days leap year_length date_in date_of year_later
no_orders = refl

no_calendars : wrong calendars ≡ []
unfolding within total covers in_range refusal_by cents_of largest_where bit_set bit_in working working_days leap year_length date_in date_of year_later
no_calendars = refl

-- no case is wrong
pub marked : wrong cases ≡ []
marked =
    both paper (tickets ++ (dates ++ (edges ++ (orders ++ calendars)))) no_paper
    (both tickets (dates ++ (edges ++ (orders ++ calendars))) no_tickets
    (both dates (edges ++ (orders ++ calendars)) no_dates
    (both edges (orders ++ calendars) no_edges
    (both orders calendars no_orders no_calendars))))
