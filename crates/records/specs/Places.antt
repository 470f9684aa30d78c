-- How many entries a recorded call has of each kind, and where they begin. Definitions only.
use Rattle.std.specs.Prelude.{ℕ, ◌+◌, ◌*◌, min, List}
use Rattle.records.specs.Records.{word_at}
use Rattle.records.specs.PlacesFit.{edges_fit, plans_fit, memo_fit, bounds_fit}
use Rattle.records.specs.declared.call.Places.{Places}

-- a record has at most 256 edges, 1,088 plans and 512 memo entries
abbrev pub edges_in : List ℕ → ℕ
edges_in ws = min (word_at ws 64) 256

abbrev pub plans_in : List ℕ → ℕ
plans_in ws = min (word_at ws 68) 1088

abbrev pub memo_in : List ℕ → ℕ
memo_in ws = min (word_at ws 72) 512

-- the edges follow the 21 words, the plans the edges, and the memo entries the plans
abbrev pub places_in : List ℕ → Places
places_in ws =
    record {
      edges = record { at = 84; count = edges_in ws; within = edges_fit (word_at ws 64) };
      plans = record { at = 84 + 28 * edges_in ws; count = plans_in ws; within = plans_fit (word_at ws 64) (word_at ws 68) };
      memo = record { at = 84 + 28 * edges_in ws + 40 * plans_in ws; count = memo_in ws; within = memo_fit (word_at ws 64) (word_at ws 68) (word_at ws 72) };
      end = 84 + 28 * edges_in ws + 40 * plans_in ws + 12 * memo_in ws;
      bounds = bounds_fit (word_at ws 64) (word_at ws 68) (word_at ws 72);
    }
