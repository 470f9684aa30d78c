-- The lengths of the stores, and what a call that is not refused has room for. Assumes nothing.
use Rattle.std.specs.Prelude.{◌≡◌, Bool, ◌||◌, List, [], ◌∷◌, ◌++◌, ℕ, zero, suc, ◌≤◌, ◌<◌, min, fold}
use Rattle.std.proofs.Math.Path.{refl}
use Rattle.std.proofs.Common.{ap₂, ◌∙◌, arith}
use Rattle.std.proofs.Math.Bool.{true, false}
use Rattle.std.proofs.Math.Dec.{ltb}
use borrow.Author.Tests.{ltb-false, lt-ltb, le-ltb}
use Rattle.definition.specs.Answers.{too_many_edges, store_too_small}
use Rattle.definition.specs.Question.{Question, open_question, leaf_count}
use Rattle.definition.specs.Sheet.{check, first_failing, sheet_answer, question_of}
use Rattle.definition.specs.Edges.{edge_count}
use Rattle.definition.specs.Call.{Rooms, store_length, edge_checks, store_checks, refused_with}

-- ---- the shortest list

-- no longer than the first list, nor than the store of the others
pub store_first : (n : ℕ) (ns : List ℕ) → store_length (n ∷ ns) ≤ n
unfolding store_length
store_first n ns = omega arith

pub store-rest : (n : ℕ) (ns : List ℕ) → store_length (n ∷ ns) ≤ store_length ns
unfolding store_length
store-rest n ns = omega arith

-- no longer than the longest that counts
pub store_bound : (ns : List ℕ) → store_length ns ≤ 16777216
unfolding store_length
store_bound [] = omega arith
store_bound (n ∷ ns) = omega (arith, store_bound ns)

-- the shortest of some lengths, each compared with the shortest before it
pub store_fold : (ns : List ℕ) (s : ℕ) → s ≤ 16777216 → fold min s ns ≡ min s (store_length ns)
unfolding store_length
store_fold [] s h = omega arith
store_fold (n ∷ ns) s h = store_fold ns (min s n) (omega arith) ∙ omega arith

pub rooms_eq : {a b c d e f : ℕ} → a ≡ d → b ≡ e → c ≡ f
    → ◌≡◌ {A = Rooms} (record { edges = a; plans = b; memo = c }) (record { edges = d; plans = e; memo = f })
rooms_eq p q r = cc

-- ---- 10 and 11, and neither

module _ (q : Question) (rooms : Rooms) where
  abbrev edges : ℕ
  edges = edge_count (open_question q).items

  abbrev leaves : ℕ
  leaves = leaf_count (open_question q).items

  abbrev small : Bool
  small = ltb rooms.edges edges || ltb rooms.plans leaves || ltb rooms.memo leaves

  abbrev stores_number : ℕ
  stores_number = first_failing (edge_checks q ++ store_checks q rooms)

  pub many_edges : 256 < edges → too_many_edges ≡ stores_number
  unfolding first_failing
  many_edges h = rw (lt-ltb 256 edges h, first_failing)

  pub small_store : edges ≤ 256 → small ≡ true → store_too_small ≡ stores_number
  unfolding first_failing
  small_store h e = rw (le-ltb 256 edges h, e, first_failing)

  pub stores_fit : edges ≤ 256 → small ≡ false → 0 ≡ stores_number
  unfolding first_failing
  stores_fit h e = rw (le-ltb 256 edges h, e, first_failing)

  pub small_is : {e n : ℕ} {b : Bool} → e ≡ edges → n ≡ leaves → b ≡ (ltb rooms.edges e || ltb rooms.plans n || ltb rooms.memo n) → b ≡ small
  small_is e n f = f ∙ ap₂ (λ (x y : ℕ). ltb rooms.edges x || ltb rooms.plans y || ltb rooms.memo y) e n

  -- where neither fails there is room for the edges and for the leaves
  pub record Room : Type 0 where
    pub few : edges ≤ 256
    pub edges_fit : edges ≤ rooms.edges
    pub plans_fit : leaves ≤ rooms.plans
    pub memo_fit : leaves ≤ rooms.memo

  room : stores_number ≡ 0 → Room
  unfolding first_failing
  room = go (ltb 256 edges) (ltb rooms.edges edges) (ltb rooms.plans leaves) (ltb rooms.memo leaves) refl refl refl refl
    where
      go : (t a b c : Bool) → ltb 256 edges ≡ t → ltb rooms.edges edges ≡ a → ltb rooms.plans leaves ≡ b → ltb rooms.memo leaves ≡ c
          → first_failing (check t too_many_edges ∷ (check (a || b || c) store_too_small ∷ [])) ≡ 0 → Room
      go true a b c e f g h z = absurd (omega arith)
      go false true b c e f g h z = absurd (omega arith)
      go false false true c e f g h z = absurd (omega arith)
      go false false false true e f g h z = absurd (omega arith)
      go false false false false e f g h z =
          record {
            few = ltb-false 256 edges e;
            edges_fit = ltb-false rooms.edges edges f;
            plans_fit = ltb-false rooms.plans leaves g;
            memo_fit = ltb-false rooms.memo leaves h;
          }

-- a call that is not refused
pub not_refused : (bs : List ℕ) (rooms : Rooms) → refused_with bs rooms ≡ 0 → (sheet_answer bs ≡ 0) × Room (question_of bs) rooms
unfolding refused_with
not_refused bs rooms = go (sheet_answer bs) refl
  where
    refused : ℕ → ℕ
    refused n = elim n [ zero ↦ stores_number (question_of bs) rooms | suc k ↦ suc k ]

    go : (n : ℕ) → sheet_answer bs ≡ n → refused n ≡ 0 → (sheet_answer bs ≡ 0) × Room (question_of bs) rooms
    go zero e z = (e, room (question_of bs) rooms z)
    go (suc k) e z = absurd (omega arith)

-- the sheet's own answer comes first
pub sheet_refused : (bs : List ℕ) (rooms : Rooms) {n : ℕ} → n ≡ sheet_answer bs → 0 < n → n ≡ refused_with bs rooms
unfolding refused_with
sheet_refused bs rooms {n} e h = go (sheet_answer bs) e
  where
    go : (k : ℕ) → n ≡ k → n ≡ (elim k [ zero ↦ stores_number (question_of bs) rooms | suc j ↦ suc j ])
    go zero z = absurd (omega arith)
    go (suc j) z = z

pub sheet_passes : (bs : List ℕ) (rooms : Rooms) {n : ℕ} → sheet_answer bs ≡ 0 → n ≡ stores_number (question_of bs) rooms → n ≡ refused_with bs rooms
unfolding refused_with
sheet_passes bs rooms e f = rw (e, refused_with) f
