-- Document 01, 'The tried list': its text for sheet A, from the sheet's words, with others, in one table with one computed test.
use Rattle.std.specs.Prelude.{◌≡◌, refl, ℕ, List, [], ◌∷◌, map}
use Prim.Native.Char.{code}
use Prim.Native.String.{String}
use Prim.Native.String as string
use Rattle.definition.specs.Lists.{concat_map}
use Rattle.definition.specs.Search.{Pair}
use Rattle.definition.specs.TriedList.{list_limit, decimal_digits, decimal, hex_digits, line, tried_lines, tried_list}
use Rattle.definition.proofs.DocumentSamples.{computed, ample, pair, sheet_a, no_items}

pub record Sample : Type 0 where
  pub printed : List ℕ
  pub lines : List String

-- the characters of a text, each one byte
unfoldable pub bytes : String → List ℕ
bytes string.[] = []
bytes (string.◌∷◌ c s) = code c ∷ bytes s

unfoldable pub listed : ℕ → ℕ → List Pair → List ℕ
unfolding decimal_digits decimal hex_digits line tried_lines tried_list
listed answer visits ps = tried_list answer visits ps

-- what the program prints for a sheet's words
unfoldable pub of_sheet : List ℕ → List ℕ
unfolding computed listed
of_sheet ws = let o = computed ws ample list_limit in listed o.answer o.visits o.tried

-- document 01's text for sheet A; no items; a sheet that is torn; one digit and two; the largest numbers,
-- and every hexadecimal digit
abbrev samples : List Sample
samples =
    record {
      printed = of_sheet sheet_a;
      lines =
          "0 4 8\n" ∷
          "0 0000000000000002 0000000000000004\n" ∷
          "1 0000000000000001 0000000000000002\n" ∷
          "2 0000000000000001 0000000000000006\n" ∷
          "3 0000000000000003 0000000000000004\n" ∷ [];
    }
    ∷ record { printed = of_sheet no_items; lines = "15 0 0\n" ∷ [] }
    ∷ record { printed = of_sheet []; lines = "1 0 0\n" ∷ [] }
    ∷ record { printed = listed 9 10 []; lines = "9 0 10\n" ∷ [] }
    ∷ record {
      printed = listed 14 4294967295 (pair 0x0123456789abcdef 0xfedcba9876543210 ∷ pair 0xffffffffffffffff 10 ∷ []);
      lines =
          "14 2 4294967295\n" ∷
          "0 0123456789abcdef fedcba9876543210\n" ∷
          "1 ffffffffffffffff 000000000000000a\n" ∷ [];
    }
    ∷ []

pub texts : map (λ (s : Sample). s.printed) samples ≡ map (λ (s : Sample). concat_map bytes s.lines) samples
unfolding of_sheet listed bytes concat_map
texts = refl
