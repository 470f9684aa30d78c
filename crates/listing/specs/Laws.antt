-- Laws of the text's definitions. Assumes nothing.
use Rattle.std.specs.Prelude.{◌≡◌, refl, List, [], ◌∷◌, ◌++◌, ℕ, zero, suc, ◌+◌, ◌-◌, ◌/◌, ◌%◌, ◌^◌, ◌≤◌, ◌<◌, length, set}
use Rattle.std.proofs.Common.{sym, ap, ap₂, ◌∙◌, add-zero, add-suc, suc-add, lt_of_not-le, pow-suc, arith, length-append, lt-ltb, le-ltb}
use Rattle.std.proofs.Math.Decide.{dec_le}
use Rattle.std.proofs.lemmas.List.Edits.{sets}
use Rattle.definition.specs.TriedList.{space, newline, decimal_digits, decimal, hex_digit, hex_digits, line}
use Rattle.listing.specs.Text.{Puts}

-- ---- bytes written

pub sets-append : (xs ys l : List ℕ) (i : ℕ) → sets l i (xs ++ ys) ≡ sets (sets l i xs) (i + length xs) ys
sets-append [] ys l i = ap (λ (k : ℕ). sets l k ys) (sym (add-zero i))
sets-append (x ∷ xs) ys l i =
    sets-append xs ys (set l i x) (suc i) ∙ ap (λ (k : ℕ). sets (sets (set l i x) (suc i) xs) k ys) (suc-add i (length xs) ∙ sym (add-suc i (length xs)))

-- nothing, and two runs one behind the other
pub puts_none : (l : List ℕ) (at : ℕ) → Puts [] l l at at
puts_none l at = record { list = refl; place = sym (add-zero at) }

pub puts_byte : {l m : List ℕ} {at b : ℕ} → m ≡ set l at b → Puts (b ∷ []) l m at (at + 1)
puts_byte e = record { list = e; place = refl }

pub puts_then : {xs ys a b c : List ℕ} {at m n : ℕ} → Puts xs a b at m → Puts ys b c m n → Puts (xs ++ ys) a c at n
puts_then {xs} {ys} {a} {b} {c} {at} {m} {n} p q =
    record {
      list = q.list ∙ ap₂ (λ (l : List ℕ) (k : ℕ). sets l k ys) p.list p.place ∙ sym (sets-append xs ys a at);
      place = omega (arith, p.place, q.place, length-append xs ys);
    }

-- ---- digits

digits_small : (k n : ℕ) → n < 10 → decimal_digits (suc k) n ≡ (48 + n) ∷ []
unfolding decimal_digits
digits_small k n h = rw (decimal_digits, lt-ltb n 10 h)

digits_more : (k n : ℕ) → 10 ≤ n → decimal_digits (suc k) n ≡ decimal_digits k (n / 10) ++ ((48 + n % 10) ∷ [])
unfolding decimal_digits
digits_more k n h = rw (decimal_digits, le-ltb n 10 h)

-- once there are enough, the allowance of digits changes nothing
digits_enough : (j k n : ℕ) → n < j → n < k → decimal_digits j n ≡ decimal_digits k n
digits_enough zero k n h l = absurd (omega arith)
digits_enough (suc j) zero n h l = absurd (omega arith)
digits_enough (suc j) (suc k) n h l =
    elim (dec_le 10 n) [
      | no s ↦ digits_small j n (lt_of_not-le s) ∙ sym (digits_small k n (lt_of_not-le s))
      | yes g ↦
          digits_more j n g ∙ ap (λ (d : List ℕ). d ++ ((48 + n % 10) ∷ [])) (digits_enough j k (n / 10) (omega arith) (omega arith)) ∙ sym (digits_more k n g)
    ]

pub decimal_small : (n : ℕ) → n < 10 → decimal n ≡ (48 + n) ∷ []
unfolding decimal
decimal_small n h = digits_small n n h

pub decimal_more : (n : ℕ) → 10 ≤ n → decimal n ≡ decimal (n / 10) ++ ((48 + n % 10) ∷ [])
unfolding decimal
decimal_more n h =
    digits_more n n h ∙ ap (λ (d : List ℕ). d ++ ((48 + n % 10) ∷ [])) (digits_enough n (suc (n / 10)) (n / 10) (omega arith) (omega arith))

-- the number of digits
pub decimal_longer : (n : ℕ) → 10 ≤ n → length (decimal n) ≡ length (decimal (n / 10)) + 1
decimal_longer n h = ap length (decimal_more n h) ∙ length-append (decimal (n / 10)) ((48 + n % 10) ∷ [])

pub decimal-length : (k n : ℕ) → n < 10 ^ suc k → length (decimal n) ≤ suc k
decimal-length zero n h = omega (arith, ap length (decimal_small n h))
decimal-length (suc k) n h =
    elim (dec_le 10 n) [
      | no s ↦ omega (arith, ap length (decimal_small n (lt_of_not-le s)))
      | yes g ↦
          omega (arith, decimal_longer n g, decimal-length k (n / 10) (omega (arith, pow-suc 10 (suc k))))
    ]

pub decimal_ten : (n : ℕ) → n < 2 ^ 32 → length (decimal n) ≤ 10
decimal_ten n h = decimal-length 9 n (omega arith)

pub length_hex : (k s : ℕ) → length (hex_digits k s) ≡ k
unfolding hex_digits
length_hex zero s = refl
length_hex (suc k) s = length-append (hex_digits k (s / 16)) (hex_digit (s % 16) ∷ []) ∙ omega (arith, length_hex k (s / 16))

pub hex_low : (d : ℕ) → d < 10 → 48 + d ≡ hex_digit d
hex_low d h = rw (hex_digit, lt-ltb d 10 h)

pub hex_high : (d : ℕ) → 10 ≤ d → 87 + d ≡ hex_digit d
hex_high d h = rw (hex_digit, le-ltb d 10 h)

-- ---- digits written

pub decimal_one : {a b : List ℕ} {at m : ℕ} (n : ℕ) → n < 10 → Puts ((48 + n) ∷ []) a b at m → Puts (decimal n) a b at m
decimal_one n h p = rw (decimal_small n h) p

pub decimal_then : {a b c : List ℕ} {at m e : ℕ} (n : ℕ) → 10 ≤ n → Puts (decimal (n / 10)) a b at m → Puts ((48 + n % 10) ∷ []) b c m e
    → Puts (decimal n) a c at e
decimal_then n h p q = rw (decimal_more n h) (puts_then p q)

pub hex_none : (k s : ℕ) {a : List ℕ} {at : ℕ} → k ≡ 0 → Puts (hex_digits k s) a a at at
unfolding hex_digits
hex_none k s {a} {at} z = rw z (puts_none a at)

pub hex_then : (k s : ℕ) {a b c : List ℕ} {at m e d : ℕ} → (k ≡ 0 → ⊥) → d ≡ hex_digit (s % 16) → Puts (hex_digits (k - 1) (s / 16)) a b at m
    → Puts (d ∷ []) b c m e → Puts (hex_digits k s) a c at e
unfolding hex_digits
hex_then zero s z h p q = absurd (z refl)
hex_then (suc k) s z h p q = let e : suc k - 1 ≡ k = omega arith in rw (h, e) at (puts_then p q)

-- where they end
pub decimal_end : (n : ℕ) {a b : List ℕ} {at m : ℕ} → Puts (decimal n) a b at m → n < 2 ^ 32 → m ≤ at + 10
decimal_end n p h = omega (arith, p.place, decimal_ten n h)

pub hex_end : (k s : ℕ) {a b : List ℕ} {at m : ℕ} → Puts (hex_digits k s) a b at m → m ≡ at + k
hex_end k s p = omega (arith, p.place, length_hex k s)

-- ---- lines written

pub puts_line : {a b c d e f g : List ℕ} {x y z : List ℕ} {at i j k l m n : ℕ} → Puts x a b at i → Puts (space ∷ []) b c i j → Puts y c d j k
    → Puts (space ∷ []) d e k l → Puts z e f l m → Puts (newline ∷ []) f g m n → Puts (line x y z) a g at n
unfolding line
puts_line p q r s t u = puts_then (puts_then (puts_then (puts_then (puts_then p q) r) s) t) u

pub line-length : (a b c : List ℕ) → length (line a b c) ≡ length a + length b + length c + 3
unfolding line
line-length a b c = simp length-append (omega arith)

pub head_end : (x y z : ℕ) {a b : List ℕ} {at m : ℕ} → Puts (line (decimal x) (decimal y) (decimal z)) a b at m → x < 2 ^ 32 → y < 2 ^ 32 → z < 2 ^ 32
    → m ≤ at + 33
head_end x y z p h k l = omega (arith, p.place, line-length (decimal x) (decimal y) (decimal z), decimal_ten x h, decimal_ten y k, decimal_ten z l)
