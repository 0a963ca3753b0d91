-- The bodies of records, field by field. Places are counted from the record's first byte: its body begins at 4.
use Rattle.std.specs.Prelude.{ℕ, ◌-◌, ◌/◌, ◌%◌, Bool, cond, ◌&&◌, ◌||◌, List, length, drop, ℤ, pos, neg_ℤ, ◌==◌, nat_le, nat_lt, slice_index}
use Rattle.formats.specs.AnyFormat.{byte_meaning}
use Rattle.registers.specs.Histories.{add, dot, join, read}
use Rattle.registers.specs.Runs.{wide, code_bytes, code_at}
use Rattle.rounding.specs.Rule.{Rule}
use Rattle.rounding.specs.Rules.{ties_to_even, ties_to_away, toward_positive, toward_negative, toward_zero}
use Rattle.rounding.specs.declared.answers.Saturation.{Saturation}
use Rattle.rounding.specs.declared.answers.Saturation.TheVariants.{SatFinite, SatPropagate, OvfInf}
use Rattle.records.specs.Entries.{clearing, calling, Parsed, refused, asks}
use Rattle.records.specs.Refusals.{refusal, in_arithmetic, in_record}
use Rattle.records.specs.declared.kind.Kind.{Kind}
use Rattle.records.specs.declared.kind.Kind.TheVariants.{Clear, Add, Dot, Join, Read}

-- 0, or 16 × K + P with K from 3 to 8 and P from 2 to K - 1
abbrev pub is_format : ℕ → Bool
is_format b = b == 0 || (nat_le 3 (b / 16) && nat_le (b / 16) 8 && nat_le 2 (b % 16) && nat_lt (b % 16) (b / 16))

abbrev pub rule_of : ℕ → Rule
rule_of b = cond (b == 0) ties_to_even (cond (b == 1) ties_to_away (cond (b == 2) toward_positive (cond (b == 3) toward_negative toward_zero)))

abbrev pub mode_of : ℕ → Saturation
mode_of b = cond (b == 0) SatFinite (cond (b == 1) SatPropagate OvfInf)

-- a byte as two's complement
abbrev pub signed_byte : ℕ → ℤ
signed_byte b = cond (nat_lt b 128) (pos b) (neg_ℤ (pos (256 - b)))

-- one of so many registers, rules or modes, and what follows; or refusal 10 at the byte
abbrev pub one_of : ℕ → ℕ → ℕ → Parsed → Parsed
one_of count place byte next = cond (nat_lt byte count) next (refused (refusal 10 in_record place))

-- a format byte, and what follows; or refusal 1 at the byte
abbrev pub format : ℕ → ℕ → Parsed → Parsed
format place byte next = cond (is_format byte) next (refused (refusal 1 in_arithmetic place))

abbrev pub clear_fields : ℕ → Parsed
clear_fields r = one_of 4 4 r (asks (clearing r))

-- the code bytes are one code, or refusal 6 at the first of them
abbrev pub add_fields : ℕ → ℕ → List ℕ → Parsed
add_fields r f code =
    let m = byte_meaning f in
    one_of 4 4 r
    (format 5 f
    (cond (length code == code_bytes m) (asks (calling (add r m (code_at (wide m) code 0)))) (refused (refusal 6 in_arithmetic 6))))

abbrev pub dot_fields : ℕ → ℕ → ℕ → ℕ → List ℕ → Parsed
dot_fields r f g scale pairs =
    one_of 4 4 r (format 5 f (format 6 g (asks (calling (dot r (byte_meaning f) (byte_meaning g) (signed_byte scale) pairs)))))

abbrev pub join_fields : ℕ → ℕ → Parsed
join_fields r o = one_of 4 4 r (one_of 4 5 o (asks (calling (join r o))))

abbrev pub read_fields : ℕ → ℕ → ℕ → ℕ → Parsed
read_fields r f rule mode =
    one_of 4 4 r
    (format 5 f (one_of 5 6 rule (one_of 3 7 mode (asks (calling (read r (byte_meaning f) (rule_of rule) (mode_of mode)))))))

-- the length that the kind asks for, or refusal 9 at the record
abbrev pub of_length : Bool → Parsed → Parsed
of_length fits next = cond fits next (refused (refusal 9 in_record 0))

abbrev pub byte : List ℕ → ℕ → ℕ
byte body i = slice_index body i

abbrev pub parsed : Kind → List ℕ → Parsed
parsed Clear b = of_length (length b == 1) (clear_fields (byte b 0))
parsed Add b = of_length (nat_le 3 (length b) && nat_le (length b) 4) (add_fields (byte b 0) (byte b 1) (drop 2 b))
parsed Dot b = of_length (nat_le 4 (length b)) (dot_fields (byte b 0) (byte b 1) (byte b 2) (byte b 3) (drop 4 b))
parsed Join b = of_length (length b == 2) (join_fields (byte b 0) (byte b 1))
parsed Read b = of_length (length b == 4) (read_fields (byte b 0) (byte b 1) (byte b 2) (byte b 3))
