-- What a contract sees of a CopyVec.
use Rattle.std.specs.Prelude.{true, false, ℕ, List, [], ◌∷◌, ◌++◌, ◌+◌, ◌-◌, length, take, drop, ltb}

-- the elements in order, what stands in the places behind them, and how many more are counted than there are places
pub record CopyVec (T : Type 0) : Type 0 where
  pub items : List T
  pub spare : List T
  pub beyond : ℕ

module _ {T : Type 0} where
  -- its count: the elements, and what is counted beyond the places
  abbrev pub count_of : CopyVec T → ℕ
  count_of v = length v.items + v.beyond

  -- of the same places the first n count, or all where they are fewer, and the others of n are beyond them
  abbrev pub counted : ℕ → CopyVec T → CopyVec T
  counted n v = let places = v.items ++ v.spare in record { items = take n places; spare = drop n places; beyond = n - length places }

  -- one element more, in the first place behind them; where there is such a place, none is counted beyond the places
  abbrev pub pushed : T → CopyVec T → CopyVec T
  pushed x v = record { items = v.items ++ (x ∷ []); spare = drop 1 v.spare; beyond = 0 }

  -- the first n elements alone; the others stay in their places, and where any is left out, none is counted beyond the places
  abbrev pub shortened : ℕ → CopyVec T → CopyVec T
  shortened n v =
      record {
        items = take n v.items;
        spare = drop n v.items ++ v.spare;
        beyond = elim (ltb n (length v.items)) [ true ↦ 0 | false ↦ v.beyond ];
      }
