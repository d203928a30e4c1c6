-- The certificates and approvals that an account keeps, in two words of its memory.
use Rattle.std.specs.Prelude.{ℕ, ◌+◌, max, Bool, cond, ◌&&◌, List, [], ◌∷◌, leb, ltb, get_or}
use Rattle.rules.specs.declared.Event.{Event}
use Rattle.rules.specs.Kinds.{certificate, approval}
use Rattle.rules.specs.Limits.{final_day, certificate_days, approval_days}
use Rattle.rules.specs.History.{History, is}
use Rattle.medical.specs.declared.Medical.{Medical}

-- ---- its words
abbrev pub medical_size : ℕ
medical_size = 2

abbrev pub medical_on : List ℕ → Medical
medical_on w = record { certified_to = get_or w 0 0; approved_to = get_or w 1 0 }

-- all of them: equal parts are equal memory
abbrev pub medical_words : Medical → List ℕ
medical_words m = m.certified_to ∷ m.approved_to ∷ []

-- ---- its step
abbrev pub no_medical : Medical
no_medical = record { certified_to = 0; approved_to = 0 }

-- a certificate may end later than the others, and voids the approvals; an approval may end later than the others
abbrev pub medical_after : Medical → Event → Medical
medical_after m e =
    record {
      certified_to = max m.certified_to (cond (is certificate e) (e.day + e.amount) 0);
      approved_to = cond (is certificate e) 0 (max m.approved_to (cond (is approval e) (e.day + e.amount) 0));
    }

-- the part after a history
unfoldable pub medical_of : History → Medical
medical_of [] = no_medical
medical_of (e ∷ h) = medical_after (medical_of h) e

-- ---- what it tells
abbrev pub certified_by : Medical → ℕ → Bool
certified_by m t = ltb t m.certified_to

abbrev pub approved_by : Medical → ℕ → Bool
approved_by m t = ltb t m.approved_to

-- at most 180 days past the last day, the longest certificate of any day, and 30
abbrev pub medical_ok : Medical → Bool
medical_ok m = leb m.certified_to (final_day + certificate_days) && leb m.approved_to (final_day + approval_days)
