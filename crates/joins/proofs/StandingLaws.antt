-- Laws that stood before the structs, kept as they were; no proof needs them now. Assumes nothing.
use Rattle.std.specs.Prelude.{◌≡◌, List, ℕ}
use Rattle.ses.proofs.StandingLaws.{Fits}
use Rattle.builder.proofs.StandingLaws.{section}

pub fits_same : (sheet : List ℕ) {m n : ℕ} (numbers : List ℕ) → m ≡ n → Fits sheet n (section 64 numbers) (section 128 numbers)
    → Fits sheet m (section 64 numbers) (section 128 numbers)
fits_same sheet numbers e f = rw e f
