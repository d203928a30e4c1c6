-- Demand 3 holds of every list posted on a lent account.
use mathlib.Core.Path.{refl, ap}
use mathlib.Core.List.{List, [], ◌∷◌}
use Rattle.std.specs.Prelude.{Option}
use Rattle.rules.specs.declared.Event.{Event}
use Rattle.rules.specs.declared.Calendar.{Calendar}
use Rattle.rules.specs.Answer.{Answer}
use Rattle.account.specs.declared.Account.{Account}
use Rattle.account.specs.Post.{posted, Leaves}
use Rattle.claim.specs.Run.{run, answers, LeftBy}
use Rattle.claim.proofs.Demand.{demand_3_left}
use Rattle.lent.specs.Left.{LeavesLent, begun_account, LentClaim}

-- an account that is lent is its memory
in_memory : (a : Account) (es : List Event) (said : List Answer) (z : Account) → LeftBy LeavesLent a es said z → LeftBy Leaves a.memory es said z.memory
in_memory a [] [] z h = ap (λ b. b.memory) h
in_memory a [] (s ∷ said) z h = absurd h
in_memory a (e ∷ es) [] z h = absurd h
in_memory a (e ∷ es) (s ∷ said) z h =
    (h.0.memory, (record { answer_is = h.1.0.answer_is; words_are = ap (λ b. b.memory) h.1.0.account_is }, in_memory h.0 es said z h.1.1))

-- DEMAND 3
pub demand_3_lent : (c : Option Calendar) (es : List Event) (said : List Answer) (z : Account) → LentClaim c es said z
demand_3_lent c es said z t h = demand_3_left c es said z.memory t (in_memory (begun_account c) es said z h)

-- every list can be posted so
pub any_list_lent : (a : Account) (es : List Event) → LeftBy LeavesLent a es (answers a.memory es) (record { memory = run a.memory es })
any_list_lent a [] = refl
any_list_lent a (e ∷ es) = ((posted a e).account, (record { answer_is = refl; account_is = refl }, any_list_lent (posted a e).account es))
