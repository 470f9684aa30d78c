-- Nine lists that are equal one by one. Assumes nothing.
use Rattle.std.specs.Prelude.{◌≡◌, List, ℕ, Float}
use Rattle.candidate.specs.Store.{lists}

pub lists_eq : {a a' b b' c c' d d' e e' : List ℕ} {f f' g g' : List Float} {h h' i i' : List ℕ}
    → a ≡ a' → b ≡ b' → c ≡ c' → d ≡ d' → e ≡ e' → f ≡ f' → g ≡ g' → h ≡ h' → i ≡ i' → lists a b c d e f g h i ≡ lists a' b' c' d' e' f' g' h' i'
lists_eq ea eb ec ed ee ef eg eh ei = rw (ea, eb, ec, ed, ee, ef, eg, eh, ei)
