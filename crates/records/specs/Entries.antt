-- The lists of a call's edges, plans and memo entries beside a record that has n of them from byte `at` on. Definitions only.
use Rattle.std.specs.Prelude.{ℕ, ◌+◌, Bool, List, [], ◌∷◌, Float}
use Rattle.records.specs.Listed.{all_of, longs_listed, words_listed, numbers_listed}

-- an edge has 28 bytes
abbrev pub edges_listed : List ℕ → ℕ → ℕ → List ℕ → List ℕ → List ℕ → List ℕ → List ℕ → Bool
edges_listed bs at n left right predicate source kind =
    all_of
    (longs_listed bs at 28 n left
    ∷ longs_listed bs (at + 8) 28 n right
    ∷ words_listed bs (at + 16) 28 n predicate
    ∷ words_listed bs (at + 20) 28 n source
    ∷ words_listed bs (at + 24) 28 n kind
    ∷ [])

-- a plan has 40 bytes
abbrev pub plans_listed : List ℕ → ℕ → ℕ → List ℕ → List ℕ → List ℕ → List ℕ → List ℕ → List Float → List Float → Bool
plans_listed bs at n set left right lead kind rows cost =
    all_of
    (longs_listed bs at 40 n set
    ∷ words_listed bs (at + 8) 40 n left
    ∷ words_listed bs (at + 12) 40 n right
    ∷ words_listed bs (at + 16) 40 n lead
    ∷ words_listed bs (at + 20) 40 n kind
    ∷ numbers_listed bs (at + 24) 40 n rows
    ∷ numbers_listed bs (at + 32) 40 n cost
    ∷ [])

-- a memo entry has 12 bytes
abbrev pub memo_listed : List ℕ → ℕ → ℕ → List ℕ → List ℕ → Bool
memo_listed bs at n set plan = all_of (longs_listed bs at 12 n set ∷ words_listed bs (at + 8) 12 n plan ∷ [])
