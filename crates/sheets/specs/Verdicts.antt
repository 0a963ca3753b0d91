-- What becomes of a record, by the lists of terms of the registers.
use Rattle.std.specs.Prelude.{ℕ, ◌+◌, cond, List, [], length, ◌==◌, nat_le}
use Rattle.formats.specs.Value.{Value}
use Rattle.records.specs.Entries.{clearing, calling, Parsed, refused, asks}
use Rattle.records.specs.Refusals.{Refusal, refusal, in_arithmetic}
use Rattle.registers.specs.Calls.{limit}
use Rattle.registers.specs.Histories.{Call, add, product, dot, join, read, Book, note}
use Rattle.registers.specs.Runs.{dot_offer}
use Rattle.rounding.specs.Projection.{projected}
use Rattle.rounding.specs.declared.answers.Mark.{Mark}
use Rattle.terms.specs.Offers as offers
use Rattle.terms.specs.Offers.{Offer, add_offer, product_offer}
use Rattle.terms.specs.Terms.{exact_sum}

pub data Verdict : Type 0 where
  refuses : Refusal → Verdict
  silent : Verdict
  -- a register, the code and the mark that it reads, and its count of terms
  tells : (r code : ℕ) → Mark → (count : ℕ) → Verdict

-- more terms for a list, or refusal 5 at the record where it would be too long
abbrev pub longer : List Value → List Value → Verdict
longer old new = cond (nat_le (length old + length new) limit) silent (refuses (refusal 5 in_arithmetic 0))

-- the terms of an offer, or its refusal, whose place counts from an offset
abbrev pub offered : (ℕ → ℕ) → List Value → Offer → Verdict
offered offset old (offers.refusal number place) = refuses (refusal number in_arithmetic (offset number + place))
offered offset old (offers.terms new) = longer old new

-- an add's code begins at 6
abbrev pub add_offset : ℕ → ℕ
add_offset number = 6

-- a dot's scale is at 7, and its first code at 8
abbrev pub dot_offset : ℕ → ℕ
dot_offset number = cond (number == 4) 7 8

abbrev pub called : Book → Call → Verdict
called b (add r f code) = offered add_offset (b r) (add_offer f code)
called b (product r f g k x y) = offered add_offset (b r) (product_offer f g k x y)
called b (dot r f g k run) = offered dot_offset (b r) (dot_offer f g k run)
called b (join r o) = longer (b r) (b o)
called b (read r f rule mode) = let answer = projected f rule mode (exact_sum (b r)) in tells r answer.0 answer.1 (length (b r))

abbrev pub verdict : Book → Parsed → Verdict
verdict b (refused r) = refuses r
verdict b (asks (clearing r)) = silent
verdict b (asks (calling c)) = called b c

-- the lists after a record: a cleared register has none, and a call is noted in the book
abbrev pub lists_after : Book → Parsed → Book
lists_after b (refused r) i = b i
lists_after b (asks (clearing r)) i = cond (i == r) [] (b i)
lists_after b (asks (calling c)) i = note c b i
