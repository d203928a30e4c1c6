-- What an event does that is none of collection's, and which arrears are looked at.
use Prim.Native.Nat.{ℕ, ◌<◌}
use mathlib.Core.Path.{◌≡◌}
use mathlib.Core.Bool.{cond}
use native.Mathlib.Omega.{arith}
use Rattle.rules.specs.declared.Event.{Event}
use Rattle.rules.specs.Kinds.{final_notice}
use Rattle.collection.specs.declared.Collection.{Collection}
use Rattle.collection.specs.Collection.{collection_after, watched, lapsed_by}

-- ---- which arrears are looked at
-- where there is no notice that could lapse, they say nothing
pub collection_watched : (c : Collection) (e : Event) (n : ℕ) → collection_after c e (cond (watched c e) n 0) ≡ collection_after c e n
collection_watched c e n = grind arith

-- ---- an event that is none of collection's
pub collection_other : (c : Collection) (e : Event) (n : ℕ) → e.kind < final_notice → collection_after c e n ≡ lapsed_by c n
collection_other c e n l = grind arith
