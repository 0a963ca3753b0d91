-- Laws of exact addition, and of the exact sum of a list by its parts.
use Rattle.std.proofs.Common.{◌≡◌, Bool, true, false, cond, ◌&&◌, ◌||◌, List, [], ◌∷◌, ◌++◌, ℤ, pos, ◌+ℤ◌, sym, refl, ap, ◌∙◌, arith}
use lib.IntN.{+ℤ_idl, +ℤ_idr, +ℤ_assoc, +ℤ_comm}
use Rattle.formats.specs.Value.{Value, nan, infinite, finite, is_nan}
use Rattle.sums.specs.Exact.{plus}
use Rattle.terms.specs.Terms.{any, is_infinite, part, total, exact_sum}

pub plus_zero : (v : Value) → plus v (finite (pos 0)) ≡ v
plus_zero nan = refl
plus_zero (infinite s) = refl
plus_zero (finite x) = ap finite (+ℤ_idr x)

pub zero_plus : (v : Value) → plus (finite (pos 0)) v ≡ v
zero_plus nan = refl
zero_plus (infinite s) = refl
zero_plus (finite x) = ap finite (+ℤ_idl x)

pub plus_comm : (x y : Value) → plus x y ≡ plus y x
plus_comm nan nan = refl
plus_comm nan (infinite t) = refl
plus_comm nan (finite y) = refl
plus_comm (infinite s) nan = refl
plus_comm (infinite true) (infinite true) = refl
plus_comm (infinite true) (infinite false) = refl
plus_comm (infinite false) (infinite true) = refl
plus_comm (infinite false) (infinite false) = refl
plus_comm (infinite s) (finite y) = refl
plus_comm (finite x) nan = refl
plus_comm (finite x) (infinite t) = refl
plus_comm (finite x) (finite y) = ap finite (+ℤ_comm x y)

pub plus_assoc : (x y z : Value) → plus (plus x y) z ≡ plus x (plus y z)
plus_assoc nan y z = refl
plus_assoc (infinite s) nan z = refl
plus_assoc (infinite s) (infinite t) nan = grind arith
plus_assoc (infinite s) (infinite t) (infinite u) = grind arith
plus_assoc (infinite s) (infinite t) (finite z) = grind arith
plus_assoc (infinite s) (finite y) nan = refl
plus_assoc (infinite s) (finite y) (infinite u) = refl
plus_assoc (infinite s) (finite y) (finite z) = refl
plus_assoc (finite x) nan z = refl
plus_assoc (finite x) (infinite t) nan = refl
plus_assoc (finite x) (infinite t) (infinite u) = grind arith
plus_assoc (finite x) (infinite t) (finite z) = refl
plus_assoc (finite x) (finite y) nan = refl
plus_assoc (finite x) (finite y) (infinite u) = refl
plus_assoc (finite x) (finite y) (finite z) = ap finite (+ℤ_assoc x y z)

-- the sum that the three flags and the total give
abbrev answer : Bool → Bool → Bool → ℤ → Value
answer nans ups downs z = cond (nans || (ups && downs)) nan (cond ups (infinite false) (cond downs (infinite true) (finite z)))

-- one more term
more : (t : Value) (nans ups downs : Bool) (z : ℤ) →
    answer (is_nan t || nans) (is_infinite false t || ups) (is_infinite true t || downs) (part t +ℤ z) ≡ plus t (answer nans ups downs z)
more nan nans ups downs z = refl
more (infinite s) nans ups downs z = grind arith
more (finite x) nans ups downs z = grind arith

pub exact_sum_none : exact_sum [] ≡ finite (pos 0)
unfolding exact_sum
exact_sum_none = refl

pub exact_sum_first : (t : Value) (ts : List Value) → exact_sum (t ∷ ts) ≡ plus t (exact_sum ts)
unfolding exact_sum
exact_sum_first t ts = more t (any is_nan ts) (any (is_infinite false) ts) (any (is_infinite true) ts) (total ts)

pub exact_sum_one : (t : Value) → exact_sum (t ∷ []) ≡ t
exact_sum_one t = exact_sum_first t [] ∙ ap (plus t) exact_sum_none ∙ plus_zero t

pub exact_sum-++ : (ts us : List Value) → exact_sum (ts ++ us) ≡ plus (exact_sum ts) (exact_sum us)
exact_sum-++ [] us = sym (ap (λ v. plus v (exact_sum us)) exact_sum_none ∙ zero_plus (exact_sum us))
exact_sum-++ (t ∷ ts) us = rw (exact_sum_first t (ts ++ us), exact_sum-++ ts us, exact_sum_first t ts) (sym (plus_assoc t (exact_sum ts) (exact_sum us)))

pub exact_sum_last : (ts : List Value) (t : Value) → exact_sum (ts ++ (t ∷ [])) ≡ plus (exact_sum ts) t
exact_sum_last ts t = exact_sum-++ ts (t ∷ []) ∙ ap (plus (exact_sum ts)) (exact_sum_one t)
