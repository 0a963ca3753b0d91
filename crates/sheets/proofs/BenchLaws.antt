-- What a call on one of the four registers makes of the bench, and what its answer tells.
use Rattle.std.proofs.Common.{◌≡◌, ℕ, zero, suc, ◌+◌, ◌<◌, ◌≤◌, Bool, true, false, cond, eqb, List, [], ◌∷◌, length, get_or, set, ℤ, Some, None, Ok, Err, Option, Result, sym, refl, ap, ◌∙◌, subst, ap₂, ⊎_elim, arith, w8, to_z, length-set, get_or-set_other, get_or-set_same}
use lib.Seq.{set-get_or}
use Rattle.std.proofs.lemmas.Bool.Decides.{nat_tests}
use Rattle.std.proofs.lemmas.Int.{ints}
use Rattle.std.proofs.lemmas.Bool.{cases_eq, eq-eqb, ne_eqb, lt-ltb, le-leb, lt-leb}
use Rattle.formats.specs.AnyFormat.{meaning_of}
use Rattle.formats.specs.Meaning.{Meaning}
use Rattle.formats.specs.Refusals.{number_of, Refuses}
use Rattle.formats.specs.Value.{Value}
use Rattle.formats.specs.declared.any.AnyFormat.{AnyFormat}
use Rattle.formats.specs.declared.fault.Fault.{Fault}
use Rattle.formats.specs.declared.fault.Fault.TheVariants.{NoSuchFormat, CodeTooLarge, ValueNotRepresentable, ScaleOutOfRange, RegisterFull, NotWholeCodes}
use Rattle.records.specs.Bodies.{clear_fields, add_fields, dot_fields, join_fields, read_fields, signed_byte}
use Rattle.records.specs.Entries.{calling, asks}
use Rattle.records.specs.Fields.{fields_of, RegisterAt, FormatAt, RuleAt, ModeAt, OneCode}
use Rattle.records.specs.Refusals.{refusal, in_arithmetic, refusal_of}
use Rattle.records.specs.declared.fault.RecordFault.{RecordFault}
use Rattle.records.specs.declared.fault.RecordFault.TheVariants.{Arithmetic}
use Rattle.records.specs.declared.record.Record.{Record}
use Rattle.registers.specs.Calls.{New, Has, limit, Brings, Answers, Joins, read_of}
use Rattle.registers.specs.Histories.{add, dot, join, read, entered, Book}
use Rattle.registers.specs.Runs.{code_bytes, Found, none, at, unless_bad, bad_code, pairs, pair_terms, dot_offer}
use Rattle.registers.specs.declared.register.Register.{Register}
use Rattle.registers.proofs.HistoryLaws.{has_new, brings_has}
use Rattle.rounding.specs.Projection.{projected}
use Rattle.rounding.specs.Rules.{table_of}
use Rattle.rounding.specs.declared.answers.Mark.{Mark}
use Rattle.rounding.specs.declared.answers.Saturation.{Saturation}
use Rattle.rounding.specs.declared.rules.AnyRule.{AnyRule}
use Rattle.sums.specs.Sums.{value}
use Rattle.terms.specs.Offers as offers
use Rattle.terms.specs.Offers.{Offer, terms, scale_fits, code_fits, add_offer}
use Rattle.terms.specs.Terms.{exact_sum}
use Rattle.sheets.specs.Sheets.{line}
use Rattle.sheets.specs.Steps.{Keeps, Tells, Left, Performs, offset_of, Placed}
use Rattle.sheets.specs.Verdicts.{longer, offered, add_offset, dot_offset}
use Rattle.sheets.specs.declared.bench.Bench.{Bench}
use Rattle.sheets.specs.declared.line.Line.{Line}

-- the bench with one register changed
abbrev pub changed : Bench → ℕ → Register → Bench
changed bench i new = record { registers = set bench.registers i new }

pub keeps_new : (r : Register) → New r → Keeps (record { registers = r ∷ r ∷ r ∷ r ∷ [] }) (λ i. [])
keeps_new r new = record { four = refl; each = all }
  where
    has : Has r []
    has = has_new r new

    all : (i : ℕ) (d : Register) → i < 4 → Has (get_or (r ∷ r ∷ r ∷ r ∷ []) i d) []
    all zero d lt = has
    all (suc zero) d lt = has
    all (suc (suc zero)) d lt = has
    all (suc (suc (suc zero))) d lt = has
    all (suc (suc (suc (suc i)))) d lt = absurd (omega arith)

-- one register has another list, and the others keep theirs
keeps_changed : (bench : Bench) (b : Book) (i : ℕ) (new : Register) (ts : List Value) → i < 4 → Keeps bench b → Has new ts → Keeps (changed bench i new) (λ j. cond (eqb j i) ts (b j))
keeps_changed bench b i new ts lt keeps has =
    let four = keeps.four in
    let within : i < length bench.registers = omega arith in
    record {
      four = length-set bench.registers i new ∙ keeps.four;
      each = λ j d below.
          ⊎_elim
          (λ (e : j ≡ i). rw (eq-eqb j i e, e, get_or-set_same bench.registers i new d within) has)
          (λ (ne : j ≡ i → ⊥). rw (ne_eqb j i ne, get_or-set_other bench.registers i j new d ne) (keeps.each j d below))
          (cases_eq j i);
    }

-- a register that stays as it was leaves the bench as it was
same_bench : (bench : Bench) (i : ℕ) (d new : Register) → new ≡ get_or bench.registers i d → changed bench i new ≡ bench
same_bench bench i d new e =
    ap (λ rs. record { registers = rs }) (ap (set bench.registers i) e ∙ set-get_or bench.registers i d)

-- a full register is the whole record's fault
full_refusal : (codes : ℕ) (f : Fault) → Refuses 5 0 f → refusal_of (Arithmetic (offset_of codes f) f) ≡ refusal 5 in_arithmetic 0
full_refusal codes RegisterFull r = refl
full_refusal codes NoSuchFormat (n, p) = absurd (omega arith)
full_refusal codes (CodeTooLarge place) (n, p) = absurd (omega arith)
full_refusal codes ValueNotRepresentable (n, p) = absurd (omega arith)
full_refusal codes ScaleOutOfRange (n, p) = absurd (omega arith)
full_refusal codes NotWholeCodes (n, p) = absurd (omega arith)

-- terms that went in, or were refused, and the lists after them
brings_performs : (n codes count i : ℕ) (v : Value) (old : Bench) (d new : Register) (a : Result Unit Fault) (r : Result (Option Line) RecordFault) (b : Book) (us : List Value) → i < 4 → count ≡ length us → v ≡ exact_sum us → Keeps old b → Brings count v (get_or old.registers i d) a new → Placed codes a r → Tells refusal_of n (longer (b i) us) r × Left old (λ j. cond (eqb j i) (entered (b i) (terms us)) (b j)) r (changed old i new)
brings_performs n codes count i v old d new (Ok done) r b us lt long sum keeps brings placed =
    let has = keeps.each i d lt in
    let h = has.counted in
    let f = brings.fits in
    let fits : length (b i) + length us ≤ limit = omega arith in
    let after = brings_has count v (get_or old.registers i d) new (Ok done) (b i) us long sum has brings in
    rw placed (rw (le-leb (length (b i) + length us) limit fits) tt, keeps_changed old b i new (entered (b i) (terms us)) lt keeps after)
brings_performs n codes count i v old d new (Err f) r b us lt long sum keeps (full, refuses, same) placed =
    let h = (keeps.each i d lt).counted in
    let over : limit < length (b i) + length us = omega arith in
    rw placed (rw (lt-leb (length (b i) + length us) limit over) (full_refusal codes f refuses), same_bench old i d new same)

-- an offer's refusal is placed where the record has it
abbrev Placing : (ℕ → ℕ) → ℕ → Offer → Type 0
Placing offset codes (offers.refusal number place) = (f : Fault) → number_of f ≡ number → offset_of codes f ≡ offset number
Placing offset codes (terms ts) = Unit {0}

placing_cond : (offset : ℕ → ℕ) (codes : ℕ) (test : Bool) (x y : Offer) → Placing offset codes x → Placing offset codes y → Placing offset codes (cond test x y)
placing_cond offset codes true x y p q = p
placing_cond offset codes false x y p q = q

at_codes : (codes number : ℕ) → (number ≡ 4 → ⊥) → (number ≡ 5 → ⊥) → (f : Fault) → number_of f ≡ number → offset_of codes f ≡ codes
at_codes codes number four five NoSuchFormat e = refl
at_codes codes number four five (CodeTooLarge place) e = refl
at_codes codes number four five ValueNotRepresentable e = refl
at_codes codes number four five ScaleOutOfRange e = absurd (four (sym e))
at_codes codes number four five RegisterFull e = absurd (five (sym e))
at_codes codes number four five NotWholeCodes e = refl

at_scale : (codes : ℕ) (f : Fault) → number_of f ≡ 4 → offset_of codes f ≡ 7
at_scale codes ScaleOutOfRange e = refl
at_scale codes NoSuchFormat e = absurd (omega arith)
at_scale codes (CodeTooLarge place) e = absurd (omega arith)
at_scale codes ValueNotRepresentable e = absurd (omega arith)
at_scale codes RegisterFull e = absurd (omega arith)
at_scale codes NotWholeCodes e = absurd (omega arith)

placing_add : (m : Meaning) (c : ℕ) → Placing add_offset 6 (add_offer m c)
placing_add m c =
    placing_cond add_offset 6 (code_fits m c) _ (offers.refusal 2 0) tt (at_codes 6 2 (λ e. omega arith) (λ e. omega arith))

placing_bad : (x : Found) (ts : List Value) → Placing dot_offset 8 (unless_bad x (terms ts))
placing_bad none ts = tt
placing_bad (at place) ts = at_codes 8 2 (λ e. omega arith) (λ e. omega arith)

placing_dot : (m n : Meaning) (s : ℤ) (run : List ℕ) → Placing dot_offset 8 (dot_offer m n s run)
placing_dot m n s run =
    placing_cond dot_offset 8 (scale_fits s) _ (offers.refusal 4 0)
    (placing_cond dot_offset 8 _ _ (offers.refusal 6 0)
    (placing_bad (bad_code m n run (pairs m n run)) (pair_terms m n s run (pairs m n run)))
    (at_codes 8 6 (λ e. omega arith) (λ e. omega arith)))
    (at_scale 8)

offer_performs : (n codes i : ℕ) (offset : ℕ → ℕ) (o : Offer) (old : Bench) (d new : Register) (a : Result Unit Fault) (r : Result (Option Line) RecordFault) (b : Book) → i < 4 → Placing offset codes o → Keeps old b → Answers o (get_or old.registers i d) a new → Placed codes a r → Tells refusal_of n (offered offset (b i) o) r × Left old (λ j. cond (eqb j i) (entered (b i) o) (b j)) r (changed old i new)
offer_performs n codes i offset (offers.refusal number place) old d new (Ok done) r b lt placing keeps answers placed = absurd answers
offer_performs n codes i offset (offers.refusal number place) old d new (Err f) r b lt placing keeps ((number_is, place_is), same) placed =
    let there = placing f number_is in
    rw placed (ap₂ (λ x y. refusal x in_arithmetic y) number_is (ap₂ ◌+◌ there place_is), same_bench old i d new same)
offer_performs n codes i offset (terms us) old d new a r b lt placing keeps answers placed =
    brings_performs n codes (length us) i (exact_sum us) old d new a r b us lt refl refl keeps answers placed

-- a byte as two's complement
pub signed_is : (b : ℕ) → b < 256 → to_z w8 b ≡ signed_byte b
signed_is b lt = grind (arith, ints, nat_tests)

pub clear_performs : (n r i : ℕ) (old : Bench) (new : Register) → RegisterAt 4 r (Ok i) → New new → Performs n (clear_fields r) old (Ok None) (changed old i new)
clear_performs n r i old new (e, lt) is-new b keeps =
    let below : i < 4 = omega arith in
    rw (sym e, lt-ltb i 4 below) (tt, keeps_changed old b i new [] below keeps (has_new new is-new))

pub add_performs : (n r f : ℕ) (bytes : List ℕ) (i code : ℕ) (m : AnyFormat) (old : Bench) (d new : Register) (a : Result Unit Fault) (told : Result (Option Line) RecordFault) → RegisterAt 4 r (Ok i) → FormatAt 5 f (Ok m) → OneCode 6 (meaning_of m) bytes (Ok code) → Answers (add_offer (meaning_of m) code) (get_or old.registers i d) a new → Placed 6 a told → Performs n (add_fields r f bytes) old told (changed old i new)
add_performs n r f bytes i code m old d new a told (e, lt) (known, is) (long, code_is) answers placed b keeps =
    let below : i < 4 = omega arith in
    let asked : add_fields r f bytes ≡ asks (calling (add i (meaning_of m) code)) =
    rw (sym e, lt-ltb i 4 below, known, sym is, eq-eqb (length bytes) (code_bytes (meaning_of m)) long, code_is) refl in
    rw asked (offer_performs n 6 i add_offset (add_offer (meaning_of m) code) old d new a told b below (placing_add (meaning_of m) code) keeps answers placed)

pub dot_performs : (n r f g scale : ℕ) (run : List ℕ) (i : ℕ) (s : ℤ) (m m' : AnyFormat) (old : Bench) (d new : Register) (a : Result Unit Fault) (told : Result (Option Line) RecordFault) → RegisterAt 4 r (Ok i) → FormatAt 5 f (Ok m) → FormatAt 6 g (Ok m') → s ≡ signed_byte scale → Answers (dot_offer (meaning_of m) (meaning_of m') s run) (get_or old.registers i d) a new → Placed 8 a told → Performs n (dot_fields r f g scale run) old told (changed old i new)
dot_performs n r f g scale run i s m m' old d new a told (e, lt) (known, is) (known', is') scale-is answers placed b keeps =
    let below : i < 4 = omega arith in
    let asked : dot_fields r f g scale run ≡ asks (calling (dot i (meaning_of m) (meaning_of m') s run)) =
    rw (sym e, lt-ltb i 4 below, known, known', scale-is, is, is') refl in
    rw asked (offer_performs n 8 i dot_offset (dot_offer (meaning_of m) (meaning_of m') s run) old d new a told b below (placing_dot (meaning_of m) (meaning_of m') s run) keeps answers placed)

pub join_performs : (n r o i j codes : ℕ) (old : Bench) (d e new : Register) (a : Result Unit Fault) (told : Result (Option Line) RecordFault) → RegisterAt 4 r (Ok i) → RegisterAt 5 o (Ok j) → Joins (get_or old.registers j e) (get_or old.registers i d) a new → Placed codes a told → Performs n (join_fields r o) old told (changed old i new)
join_performs n r o i j codes old d e new a told (i-is, lt) (j-is, lt') joins placed b keeps =
    let below : i < 4 = omega arith in
    let below' : j < 4 = omega arith in
    let other = keeps.each j e below' in
    let asked : join_fields r o ≡ asks (calling (join i j)) = rw (sym i-is, sym j-is, lt-ltb i 4 below, lt-ltb j 4 below') refl in
    rw asked
    (brings_performs n codes (get_or old.registers j e).count i (value (get_or old.registers j e).sum) old d new a told b (b j) below other.counted other.summed keeps joins placed)

-- a read changes no list
keeps_read : (bench : Bench) (b : Book) (r : ℕ) → Keeps bench b → Keeps bench (λ i. cond (eqb i r) (b r) (b i))
keeps_read bench b r keeps =
    record {
      four = keeps.four;
      each = λ j d below.
          ⊎_elim
          (λ (e : j ≡ r). rw (eq-eqb j r e, sym e) (keeps.each j d below))
          (λ (ne : j ≡ r → ⊥). rw (ne_eqb j r ne) (keeps.each j d below))
          (cases_eq j r);
    }

-- the line of what a register reads
abbrev line_of : ℕ → ℕ → (ℕ × Mark) × ℕ → Line
line_of n r ((code, mark), count) = line n r code mark count

pub read_performs : (n r f rule mode : ℕ) (i : ℕ) (m : AnyFormat) (table : AnyRule) (saturation : Saturation) (bench : Bench) (d : Register) (told : (ℕ × Mark) × ℕ) → RegisterAt 4 r (Ok i) → FormatAt 5 f (Ok m) → RuleAt 6 rule (Ok table) → ModeAt 7 mode (Ok saturation) → told ≡ read_of (meaning_of m) (table_of table) saturation (get_or bench.registers i d) → Performs n (read_fields r f rule mode) bench (Ok (Some (line_of n r told))) bench
read_performs n r f rule mode i m table saturation bench d told (e, lt) (known, is) (lt-rule, table_is) (lt-mode, mode-is) told_is b keeps =
    let below : i < 4 = omega arith in
    let has = keeps.each i d below in
    let asked : read_fields r f rule mode ≡ asks (calling (read r (meaning_of m) (table_of table) saturation)) =
    rw (lt-ltb r 4 lt, known, lt-ltb rule 5 lt-rule, lt-ltb mode 3 lt-mode, is, table_is, mode-is) refl in
    let reads : read_of (meaning_of m) (table_of table) saturation (get_or bench.registers i d) ≡ (projected (meaning_of m) (table_of table) saturation (exact_sum (b r)), length (b r)) =
    rw (has.counted, has.summed, e) refl in
    rw asked (ap (line_of n r) (told_is ∙ reads), keeps_read bench b r keeps)

-- the record that a match found
pub record_performs : (n : ℕ) (x y : Record) (old new : Bench) (told : Result (Option Line) RecordFault) → x ≡ y → Performs n (fields_of y) old told new → Performs n (fields_of x) old told new
record_performs n x y old new told e performs = subst (λ z. Performs n (fields_of z) old told new) (sym e) performs
