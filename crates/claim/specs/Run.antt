-- A list of events posted one after another: to what memory, with what answers.
use Rattle.std.specs.Prelude.{ℕ, ◌≡◌, List, [], ◌∷◌}
use Rattle.rules.specs.declared.Event.{Event}
use Rattle.rules.specs.Answer.{Answer}
use Rattle.account.specs.Post.{answer_to, words_after}

-- in the order posted: each event to the account that the posting before it returned or left
abbrev pub run : List ℕ → List Event → List ℕ
run m [] = m
run m (e ∷ es) = run (words_after m e) es

abbrev pub answers : List ℕ → List Event → List Answer
answers m [] = []
answers m (e ∷ es) = answer_to m e ∷ answers (words_after m e) es

-- a list of postings, each as its contract says it: the account was a, said are the answers to es, and z is what the last one
-- left. Between two postings the account is its keeper's
abbrev pub LeftBy : {A S : Type 0} → (A → Event → S → A → Type 0) → A → List Event → List S → A → Type 0
LeftBy leaves a [] [] z = z ≡ a
LeftBy leaves a [] (s ∷ said) z = ⊥
LeftBy leaves a (e ∷ es) [] z = ⊥
LeftBy {A} leaves a (e ∷ es) (s ∷ said) z = (b : A) × (leaves a e s b × LeftBy leaves b es said z)
