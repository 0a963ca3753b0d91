-- Numbers in 32-bit words, the lowest first.
use Rattle.std.specs.Prelude.{◌≡◌, ℕ, ◌+◌, ◌-◌, ◌*◌, ◌^◌, ◌<◌, ◌≤◌, Bool, true, false, cond, List, [], ◌∷◌, length, ℤ, pos, neg_ℤ, nat_lt}
use Rattle.std.specs.List.{AllByRecursion}

abbrev pub number : List ℕ → ℕ
number [] = 0
number (w ∷ ws) = w + 2 ^ 32 * number ws

-- eight words of 32 bits
pub record Eight (ws : List ℕ) : Type 0 where
  pub long : length ws ≡ 8
  pub words32 : AllByRecursion (λ w. w < 2 ^ 32) ws

-- as two's complement
abbrev pub twos_complement : List ℕ → ℤ
twos_complement ws = cond (nat_lt (number ws) (2 ^ 255)) (pos (number ws)) (neg_ℤ (pos (2 ^ 256 - number ws)))

-- x was added to a, which left b and carried r; or, down, x was taken from a, which left b and borrowed r
abbrev pub Balanced : (down : Bool) → (a x b r : ℕ) → Type 0
Balanced false a x b r = b + r ≡ a + x
Balanced true a x b r = b + x ≡ a + r

-- n was added, or down, taken away, modulo 2^256
abbrev pub Moved : Bool → List ℕ → ℕ → List ℕ → Type 0
Moved down ws n vs = Eight vs × ((r : ℕ) × (r ≤ 1) × Balanced down (number ws) n (number vs) (r * 2 ^ 256))

-- one was added to any words, or taken from them, modulo what so many words hold
abbrev pub PassesOn : Bool → List ℕ → List ℕ → Type 0
PassesOn down ws vs = (length vs ≡ length ws) × AllByRecursion (λ w. w < 2 ^ 32) vs × ((r : ℕ) × (r ≤ 1) × Balanced down (number ws) 1 (number vs) (r * 2 ^ (32 * length ws)))
