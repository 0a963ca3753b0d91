-- How far an addition can raise the size of a sum.
use Rattle.std.proofs.Common.{◌≡◌, ℕ, ◌+◌, ◌≤◌, Bool, true, false, ℤ, ◌+ℤ◌, nat_abs, ap, arith}
use Rattle.std.proofs.lemmas.Int.{ints}
use Rattle.formats.specs.Value.{Value, nan, infinite, finite, signed}
use Rattle.formats.specs.ValueLaws.{abs_signed}
use Rattle.sums.specs.Exact.{plus}
use Rattle.sums.specs.Sums.{value, size_of, size}
use Rattle.sums.specs.declared.sum.Sum.{Sum}

abs_plus : (x y : ℤ) → nat_abs (x +ℤ y) ≤ nat_abs x + nat_abs y
abs_plus x y = grind (arith, ints)

-- by as much as what is added, where that is finite
size_plus : (v w : Value) → size_of (plus v w) ≤ size_of v + size_of w
size_plus nan w = omega arith
size_plus (infinite s) nan = omega arith
size_plus (infinite true) (infinite true) = omega arith
size_plus (infinite true) (infinite false) = omega arith
size_plus (infinite false) (infinite true) = omega arith
size_plus (infinite false) (infinite false) = omega arith
size_plus (infinite s) (finite y) = omega arith
size_plus (finite x) nan = omega arith
size_plus (finite x) (infinite t) = omega arith
size_plus (finite x) (finite y) = abs_plus x y

pub term_size : (s s' : Sum) (n : ℕ) (negative : Bool) → value s' ≡ plus (value s) (finite (signed negative n)) → size s' ≤ size s + n
term_size s s' n negative e = omega (arith, ap size_of e, size_plus (value s) (finite (signed negative n)), abs_signed negative n)

pub sum_size : (s t s' : Sum) → value s' ≡ plus (value s) (value t) → size s' ≤ size s + size t
sum_size s t s' e = omega (arith, ap size_of e, size_plus (value s) (value t))
