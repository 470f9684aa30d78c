-- Samples of the index, computed: sets of one home, a walk that goes round at the end, and the 513th entry. Assumes nothing.
use Rattle.std.proofs.Common.{◌≡◌, refl, List, [], ◌∷◌, ℕ, take, drop, replicate, Some, None}
use Rattle.memo_index.specs.Index.{next, free, probe, lookup, entered, noted, index_of}

-- homes 3, 3, 3 and 4
abbrev alike : List ℕ
alike = 3 ∷ 1024 ∷ 2045 ∷ 4 ∷ []

alike_places : take 8 (index_of alike 4) ≡ 0 ∷ 0 ∷ 0 ∷ 1 ∷ 2 ∷ 3 ∷ 4 ∷ 0 ∷ []
unfolding index_of noted entered free next
alike_places = refl

alike_found : lookup (index_of alike 4) alike 1024 ≡ Some 1
unfolding lookup probe index_of noted entered free next
alike_found = refl

-- home 3, and none of them
alike_missed : lookup (index_of alike 4) alike 3066 ≡ None
unfolding lookup probe index_of noted entered free next
alike_missed = refl

-- homes 1020, 1020, 1020, 1020, 1020 and 0: upward past 1023 to 0
abbrev round : List ℕ
round = 1020 ∷ 2041 ∷ 3062 ∷ 4083 ∷ 5104 ∷ 1021 ∷ []

round_last : drop 1019 (index_of round 6) ≡ 0 ∷ 1 ∷ 2 ∷ 3 ∷ 4 ∷ []
unfolding index_of noted entered free next
round_last = refl

round_first : take 3 (index_of round 6) ≡ 5 ∷ 6 ∷ 0 ∷ []
unfolding index_of noted entered free next
round_first = refl

round_found : lookup (index_of round 6) round 5104 ≡ Some 4
unfolding lookup probe index_of noted entered free next
round_found = refl

-- home 0, where another stands: it is one further up
round_pushed : lookup (index_of round 6) round 1021 ≡ Some 5
unfolding lookup probe index_of noted entered free next
round_pushed = refl

-- the 512th entry is noted, the 513th is not
entry_512 : take 8 (noted (replicate 1024 0) 5 511) ≡ 0 ∷ 0 ∷ 0 ∷ 0 ∷ 0 ∷ 512 ∷ 0 ∷ 0 ∷ []
unfolding noted entered free next
entry_512 = refl

entry_513 : take 8 (noted (replicate 1024 0) 5 512) ≡ 0 ∷ 0 ∷ 0 ∷ 0 ∷ 0 ∷ 0 ∷ 0 ∷ 0 ∷ []
unfolding noted entered free next
entry_513 = refl

-- a list of another length is no index
other_length : noted (0 ∷ 0 ∷ []) 0 0 ≡ 0 ∷ 0 ∷ []
unfolding noted entered free next
other_length = refl
