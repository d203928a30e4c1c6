-- The rows that concern a kind, in the order of the table: the number of the first that refuses, 0 for none.
use Rattle.std.specs.Prelude.{ℕ, ◌+◌, cond, not, ◌&&◌, ◌||◌, leb, ltb, eqb, drop}
use Rattle.rules.specs.declared.Event.{Event}
use Rattle.rules.specs.declared.View.{View}
use Rattle.rules.specs.Service.{is_on, is_off}
use Rattle.rules.specs.Limits.{enough, limit, most_open}
use Rattle.rules.specs.Table.{table, first_of}

-- what row 4 leaves to the rows after it
unfoldable pub from_row5 : View → Event → ℕ
from_row5 v e = first_of (drop 1 table) v e 0

-- 18, 19: a new item, n being open and c charged
abbrev pub item_rows : ℕ → ℕ → ℕ → ℕ
item_rows n c charge = cond (leb most_open n) 18 (cond (ltb limit (c + charge)) 19 0)

-- 19: a credit, after those credited
abbrev pub credit_rows : ℕ → ℕ → ℕ
credit_rows credited credit = cond (ltb limit (credited + credit)) 19 0

-- a returned payment: 6, 18, 19
abbrev pub returned_rows : View → ℕ → ℕ
returned_rows v charge = cond (eqb v.payment 0) 6 (item_rows v.open_count v.charged charge)

-- a deposit moved: 7, 8, 19
abbrev pub moved_rows : View → ℕ
moved_rows v =
    cond (eqb v.required 0 || not (eqb v.held v.required)) 7
    (cond (not v.earned) 8 (credit_rows v.credited v.held))

-- 5, 24, 10: what bars a final notice and a disconnection alike; rest where none refuses
abbrev pub collection_rows : View → ℕ → ℕ
collection_rows v rest = cond (not (is_on v.service)) 5 (cond (not v.in_calendar) 24 (cond (ltb v.arrears enough) 10 rest))

-- a final notice: 5, 24, 10, 11, 18, 19
abbrev pub notice_rows : View → ℕ → ℕ
notice_rows v charge = collection_rows v (cond v.notice_live 11 (item_rows v.open_count v.charged charge))

-- a disconnection: 5, 24, 10, 12, 13, 14, 15
abbrev pub cut_rows : View → ℕ
cut_rows v =
    collection_rows v
    (cond (not v.notice_in_days) 12
    (cond (not v.called) 13
    (cond v.in_force 14
    (cond (v.certified && not v.approved) 15 0))))

-- a reconnection: 5, 16, 17, 18, 19
abbrev pub reconnection_rows : View → ℕ → ℕ
reconnection_rows v charge =
    cond (not (is_off v.service)) 5
    (cond (ltb 0 v.arrears && not v.in_force) 16
    (cond (ltb v.held v.required) 17 (item_rows v.open_count v.charged charge)))
