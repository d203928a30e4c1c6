-- The service, the final notice and the calls that an account keeps.
use Rattle.std.specs.Prelude.{ℕ, ◌+◌, ◌-◌, Bool, cond, not, ◌&&◌, ◌||◌, List, [], ◌∷◌, leb, eqb, get_or, Option}
use Rattle.rules.specs.declared.Event.{Event}
use Rattle.rules.specs.declared.Calendar.{Calendar}
use Rattle.rules.specs.declared.Service.{Service}
use Rattle.rules.specs.declared.Service.TheVariants.{On, Off, Closed}
use Rattle.rules.specs.Kinds.{final_notice, call, disconnection, reconnection, closing}
use Rattle.rules.specs.Limits.{final_day, enough, notice_to, call_days}
use Rattle.rules.specs.History.{History, is, within}
use Rattle.rules.specs.Money.{arrears}
use Rattle.rules.specs.Workdays.{waited}
use Rattle.collection.specs.declared.Notice.{Notice}
use Rattle.collection.specs.declared.Calls.{Calls}
use Rattle.collection.specs.declared.Collection.{Collection}

-- ---- service
-- the word of a service, and the service of a word
abbrev pub service_number : Service → ℕ
service_number On = 0
service_number Off = 1
service_number Closed = 2

abbrev pub service_by : ℕ → Service
service_by n = cond (eqb n 0) On (cond (eqb n 1) Off Closed)

abbrev pub served_after : ℕ → Event → ℕ
served_after n e =
    cond (is disconnection e) (service_number Off)
    (cond (is reconnection e) (service_number On)
    (cond (is closing e) (service_number Closed) n))

-- ---- final notice; owing are the arrears after e, on its day
abbrev pub no_notice : Notice
no_notice = record { day = 0; live = 0 }

abbrev pub notice_after : Notice → Event → ℕ → Notice
notice_after n e owing =
    record {
      day = cond (is final_notice e) e.day n.day;
      live = cond ((is final_notice e || eqb n.live 1) && not (is disconnection e) && leb enough owing) 1 0;
    }

-- live on t, and in its days by the calendar c or without one
abbrev pub live_by : Notice → ℕ → Bool
live_by n t = eqb n.live 1 && within n.day (n.day + notice_to) t

abbrev pub in_days_by : Option Calendar → Notice → ℕ → Bool
in_days_by c n t = eqb n.live 1 && (leb t (n.day + notice_to) && waited c n.day t)

-- ---- calls
abbrev pub no_calls : Calls
no_calls = record { last = 0; earlier = 0 }

abbrev pub calls_after : Calls → Event → Calls
calls_after c e =
    record {
      last = cond (is call e) (e.day + 1) c.last;
      earlier = cond (is call e) (cond (eqb c.last (e.day + 1)) c.earlier c.last) c.earlier;
    }

-- next is the day after some day from t − 3 to t − 1
unfoldable pub recent_by : ℕ → ℕ → Bool
recent_by next t = leb 1 next && within next (next + (call_days - 1)) t

abbrev pub called_by : Calls → ℕ → Bool
called_by c t = recent_by c.last t || recent_by c.earlier t

-- ---- all three
abbrev pub no_collection : Collection
no_collection = record { service = service_number On; notice = no_notice; calls = no_calls }

abbrev pub collection_after : Collection → Event → ℕ → Collection
collection_after c e owing =
    record { service = served_after c.service e; notice = notice_after c.notice e owing; calls = calls_after c.calls e }

-- there is a notice after e that low arrears would make lapse
abbrev pub watched : Collection → Event → Bool
watched c e = is final_notice e || eqb c.notice.live 1

-- e sets the service, or is a notice or a call
abbrev pub concerns : Event → Bool
concerns e = is final_notice e || is call e || is disconnection e || is reconnection e || is closing e

-- an event that is none of collection's: a notice may lapse
abbrev pub lapsed_by : Collection → ℕ → Collection
lapsed_by c owing =
    record {
      service = c.service;
      notice = record { day = c.notice.day; live = cond (eqb c.notice.live 1 && leb enough owing) 1 0 };
      calls = c.calls;
    }

-- the part after a history
unfoldable pub collection_of : History → Collection
collection_of [] = no_collection
collection_of (e ∷ h) = collection_after (collection_of h) e (arrears (e ∷ h) e.day)

-- a service and a mark that there are, days in range, and the calls in order
abbrev pub collection_ok : Collection → Bool
collection_ok c =
    leb c.service 2
    && leb c.notice.live 1
    && leb c.notice.day final_day
    && leb c.calls.last (final_day + 1)
    && leb c.calls.earlier c.calls.last

-- ---- its words
abbrev pub collection_size : ℕ
collection_size = 5

abbrev pub collection_on : List ℕ → Collection
collection_on w =
    record {
      service = get_or w 0 0;
      notice = record { day = get_or w 1 0; live = get_or w 2 0 };
      calls = record { last = get_or w 3 0; earlier = get_or w 4 0 };
    }

abbrev pub collection_words : Collection → List ℕ
collection_words c = c.service ∷ c.notice.day ∷ c.notice.live ∷ c.calls.last ∷ c.calls.earlier ∷ []
