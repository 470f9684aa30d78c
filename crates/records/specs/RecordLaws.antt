-- What stands in a record, by whether it has enough bytes. Assumes nothing.
use Rattle.std.specs.Prelude.{ℕ, ◌+◌, ◌-◌, ◌*◌, ◌/◌, ◌≤◌, ◌<◌, List, [], ◌≡◌, length, take, drop}
use Rattle.std.proofs.Common.{sym, le-leb, take_all, arith}
use Rattle.std.proofs.lemmas.Bool.{lt-leb}
use Rattle.std.proofs.Math.ListN.{length-drop, drop_of_length-le}
use Rattle.definition.specs.Sheet.{word}
use Rattle.records.specs.Records.{word_at, long_at, sheet_of, after_sheet}

module _ (bs : List ℕ) where
  module _ (at : ℕ) where
    pub word_there : at + 4 ≤ length bs → word_at bs at ≡ word bs at
    unfolding word_at
    word_there h = rw (le-leb _ _ h, word_at)

    pub word_past : length bs < at + 4 → word_at bs at ≡ 0
    unfolding word_at
    word_past h = rw (lt-leb _ _ h, word_at)

    pub long_there : at + 8 ≤ length bs → long_at bs at ≡ word bs at + 4294967296 * word bs (at + 4)
    unfolding long_at
    long_there h = rw (le-leb _ _ h, long_at)

    pub long_past : length bs < at + 8 → long_at bs at ≡ 0
    unfolding long_at
    long_past h = rw (lt-leb _ _ h, long_at)

  pub sheet_whole : 4 + word_at bs 0 ≤ length bs → sheet_of bs ≡ take (word_at bs 0) (drop 4 bs)
  unfolding sheet_of
  sheet_whole h = rw (le-leb _ _ h, sheet_of)

  pub sheet_none : length bs < 4 + word_at bs 0 → sheet_of bs ≡ []
  unfolding sheet_of
  sheet_none h = rw (lt-leb _ _ h, sheet_of)

  -- all bytes from the place on are what follows, and none where it is past the end
  pub rest_there : (at : ℕ) → at ≡ 4 + (word_at bs 0 + 3) / 4 * 4 → after_sheet bs ≡ take (length bs - at) (drop at bs)
  unfolding after_sheet
  rest_there at e = rw (← e) (sym (take_all (length bs - at) (drop at bs) (omega (arith, length-drop at bs))))

  pub rest_past : length bs ≤ 4 + (word_at bs 0 + 3) / 4 * 4 → after_sheet bs ≡ []
  unfolding after_sheet
  rest_past h = drop_of_length-le bs h
