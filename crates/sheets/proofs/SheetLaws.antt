-- A sheet, record after record.
use Rattle.std.proofs.Common.{◌≡◌, ℕ, zero, suc, ◌+◌, ◌-◌, ◌*◌, ◌<◌, ◌≤◌, eqb, true, List, [], ◌∷◌, ◌++◌, length, take, drop, Some, None, Ok, Err, Option, option_to_list, sym, refl, ap, ◌∙◌, subst, ap₂, drop-drop, arith}
use Rattle.std.proofs.lemmas.List.{append-nil, append_assoc, take_rest, length-drop}
use Rattle.std.proofs.lemmas.Bool.Decides.{nat_tests}
use Rattle.std.proofs.lemmas.Bool.{le-leb, eq-eqb, ne_eqb, cond-true, cond-false}
use Rattle.records.specs.Bodies.{parsed}
use Rattle.records.specs.Entries.{Parsed}
use Rattle.records.specs.Refusals.{Refusal, shifted, refusal_of}
use Rattle.records.specs.declared.kind.Kind.{Kind}
use Rattle.registers.specs.Histories.{Book}
use Rattle.sheets.specs.Faults.{sheet_refusal, ended}
use Rattle.sheets.specs.Sheets.{record_length, kind_number, record_bytes, is_whole, body, of_kind, parsed_head, Outcome, outcome, followed, remaining}
use Rattle.sheets.specs.Steps.{Keeps, Tells, Performs, WholeHead, Stepped, Follows}
use Rattle.sheets.specs.Verdicts.{Verdict, refuses, silent, tells, verdict, lists_after}
use Rattle.sheets.specs.declared.bench.Bench.{Bench}
use Rattle.sheets.specs.declared.fault.SheetFault.{SheetFault}
use Rattle.sheets.specs.declared.fault.Stop.{Stop}
use Rattle.sheets.specs.declared.line.Line.{Line}

-- a whole record has its four bytes and its body within what is left
whole_long : (rest : List ℕ) → is_whole rest ≡ true → (4 ≤ record_bytes rest) × (record_bytes rest ≤ length rest)
whole_long rest whole = grind (arith, nat_tests)

-- a record whose length is within what is left
pub whole_at : (rest : List ℕ) (long n : ℕ) (bytes left : List ℕ) → 4 ≤ length rest → long ≡ record_length rest → n ≡ kind_number rest → 2 ≤ long → long - 2 ≤ length rest - 4 → bytes ≡ take (long - 2) (take (length rest - 4) (drop 4 rest)) → left ≡ drop (long - 2) (take (length rest - 4) (drop 4 rest)) → (is_whole rest ≡ true) × (n ≡ kind_number rest) × (bytes ≡ body rest) × (left ≡ drop (record_bytes rest) rest)
whole_at rest long n bytes left four is number two short bytes-is left-is =
    let bytes-are : 4 + (record_length rest - 2) ≡ record_bytes rest = omega arith in (
      rw (le-leb 4 (length rest) four, le-leb 2 (record_length rest) (omega arith), le-leb (record_bytes rest) (length rest) (omega arith)) refl,
      number,
      bytes-is ∙ ap₂ (λ (k : ℕ) (bs : List ℕ). take (k - 2) bs) is (take_rest rest 4),
      left-is ∙ ap₂ (λ (k : ℕ) (bs : List ℕ). drop (k - 2) bs) is (take_rest rest 4) ∙ drop-drop (record_length rest - 2) 4 rest ∙ ap (λ k. drop k rest) bytes-are,
    )

-- what the record at the head comes to
pub head_parsed : (rest : List ℕ) (kind : Kind) (bytes left : List ℕ) → WholeHead rest kind bytes left → parsed_head rest ≡ parsed kind bytes
head_parsed rest kind bytes left w = cond-true (is_whole rest) _ _ w.whole ∙ ap₂ of_kind w.kind_is (sym w.body_is)

tells_line : (n : ℕ) (v : Verdict) (told : Option Line) → Tells refusal_of n v (Ok told) → Tells sheet_refusal n v (Ok told)
tells_line n (refuses r) told none = none
tells_line n silent None done = done
tells_line n silent (Some l) none = none
tells_line n (tells r code mark count) None none = none
tells_line n (tells r code mark count) (Some l) e = e

-- a record at the head that was performed
pub step_done : (n : ℕ) (rest bytes left : List ℕ) (kind : Kind) (p : Parsed) (old new : Bench) (told : Option Line) → WholeHead rest kind bytes left → p ≡ parsed kind bytes → Performs n p old (Ok told) new → (b : Book) → Keeps old b → Stepped n rest b told left new
step_done n rest bytes left kind p old new told whole is performs b keeps =
    let same = is ∙ sym (head_parsed rest kind bytes left whole) in
    record {
      whole = whole.whole;
      tells = tells_line n (verdict b (parsed_head rest)) told (subst (λ q. Tells refusal_of n (verdict b q) (Ok told)) same (performs b keeps).0);
      keeps = subst (λ q. Keeps new (lists_after b q)) same (performs b keeps).1;
      left_is = whole.left_is;
    }

-- less is left after it
pub shorter : (n : ℕ) (rest left : List ℕ) (b : Book) (told : Option Line) (new : Bench) → Stepped n rest b told left new → length left < length rest
shorter n rest left b told new s =
    let (four, within) = whole_long rest s.whole in
    let long : length left ≡ length rest - record_bytes rest = ap length s.left_is ∙ length-drop (record_bytes rest) rest in
    omega arith

-- an outcome after lines that were told before
abbrev pub prefixed : List Line → Outcome → Outcome
prefixed lines later = outcome (lines ++ later.lines) later.fault

followed-told : (n place : ℕ) (v : Verdict) (told : Option Line) (later : Outcome) → Tells sheet_refusal n v (Ok told) → followed n place v later ≡ prefixed (option_to_list told) later
followed-told n place (refuses r) told later none = absurd none
followed-told n place silent None later done = refl
followed-told n place silent (Some l) later none = absurd none
followed-told n place (tells r code mark count) None later none = absurd none
followed-told n place (tells r code mark count) (Some l) later e = ap (λ (x : Line). outcome (x ∷ later.lines) later.fault) (sym e)

followed_fault : (n place : ℕ) (v : Verdict) (f : SheetFault) (later : Outcome) → Tells sheet_refusal n v (Err f) → followed n place v later ≡ outcome [] (Some (shifted place (sheet_refusal f)))
followed_fault n place (refuses r) f later e = ap (λ (x : Refusal). outcome [] (Some (shifted place x))) (sym e)
followed_fault n place silent f later none = absurd none
followed_fault n place (tells r code mark count) f later none = absurd none

-- the next record, and none
one_more : (most : ℕ) (b : Book) (n place : ℕ) (rest : List ℕ) → 0 < length rest → length rest ≤ most → (fewer : ℕ) × (most ≡ suc fewer) × (remaining most b n place rest ≡ followed n place (verdict b (parsed_head rest)) (remaining fewer (lists_after b (parsed_head rest)) (n + 1) (place + record_bytes rest) (drop (record_bytes rest) rest)))
unfolding remaining
one_more zero b n place rest some enough = absurd (omega arith)
one_more (suc fewer) b n place rest some enough = (fewer, refl, cond-false (eqb (length rest) 0) _ _ (ne_eqb (length rest) 0 (λ e. omega arith)))

no_more : (most : ℕ) (b : Book) (n place : ℕ) (rest : List ℕ) → length rest ≡ 0 → remaining most b n place rest ≡ outcome [] None
unfolding remaining
no_more zero b n place rest e = refl
no_more (suc most) b n place rest e = cond-true (eqb (length rest) 0) _ _ (eq-eqb (length rest) 0 e)

-- so many records of a sheet done, up to a place, and the lines that they told after those that were there
pub record Done (sheet : List ℕ) (before now : List Line) (bench : Bench) (number : ℕ) (rest : List ℕ) : Type 0 where
  pub book : Book
  pub most : ℕ
  pub place : ℕ
  pub so_far : List Line
  pub enough : length rest ≤ most
  pub keeps : Keeps bench book
  pub place_is : place + length rest ≡ length sheet
  pub numbered : 4 * number ≤ place
  pub lines_are : now ≡ before ++ so_far
  pub outcome_is : remaining (length sheet) (λ i. []) 1 0 sheet ≡ prefixed so_far (remaining most book (number + 1) place rest)

pub done_more : (sheet : List ℕ) (before now later : List Line) (old new : Bench) (number : ℕ) (rest left : List ℕ) (told : Option Line) → Done sheet before now old number rest → 0 < length rest → ((b : Book) → Keeps old b → Stepped (number + 1) rest b told left new) → later ≡ now ++ option_to_list told → Done sheet before later new (number + 1) left
done_more sheet before now later old new number rest left told d some steps is =
    let s = steps d.book d.keeps in
    let (fewer, most-is, next) = one_more d.most d.book (number + 1) d.place rest some d.enough in
    let (four, within) = whole_long rest s.whole in
    let long : length left ≡ length rest - record_bytes rest = ap length s.left_is ∙ length-drop (record_bytes rest) rest in
    let enough = d.enough in
    let place_is = d.place_is in
    let numbered = d.numbered in
    let after = lists_after d.book (parsed_head rest) in
    let place = d.place + record_bytes rest in
    let v = verdict d.book (parsed_head rest) in
    let later-is = remaining fewer after (number + 1 + 1) place left in
    let there : remaining fewer after (number + 1 + 1) place (drop (record_bytes rest) rest) ≡ later-is =
    ap (remaining fewer after (number + 1 + 1) place) (sym s.left_is) in
    record {
      book = after;
      most = fewer;
      place = place;
      so_far = d.so_far ++ option_to_list told;
      enough = omega arith;
      keeps = s.keeps;
      place_is = omega arith;
      numbered = omega arith;
      lines_are = is ∙ ap (λ (ls : List Line). ls ++ option_to_list told) d.lines_are ∙ append_assoc before d.so_far (option_to_list told);
      outcome_is = d.outcome_is
          ∙ ap (prefixed d.so_far) (next ∙ ap (followed (number + 1) d.place v) there ∙ followed-told (number + 1) d.place v told later-is s.tells)
          ∙ ap (λ (ls : List Line). outcome ls later-is.fault) (sym (append_assoc d.so_far (option_to_list told) later-is.lines));
    }

follows_at : (sheet : List ℕ) (before now so_far : List Line) (fault : Option Stop) (r : Option Refusal) → now ≡ before ++ so_far → remaining (length sheet) (λ i. []) 1 0 sheet ≡ prefixed so_far (outcome [] r) → ended fault ≡ r → Follows sheet before fault now
follows_at sheet before now so_far fault r is e ends = (
  so_far,
  is,
  record {
    lines_are = sym (append-nil so_far) ∙ sym (ap (λ (o : Outcome). o.lines) e);
    fault_is = ends ∙ sym (ap (λ (o : Outcome). o.fault) e);
  },
)

-- the end of a sheet, and a record that is refused
pub done_all : (sheet : List ℕ) (before now : List Line) (bench : Bench) (number : ℕ) (rest : List ℕ) → Done sheet before now bench number rest → length rest ≡ 0 → Follows sheet before None now
done_all sheet before now bench number rest d e =
    follows_at sheet before now d.so_far None None d.lines_are
    (d.outcome_is ∙ ap (prefixed d.so_far) (no_more d.most d.book (number + 1) d.place rest e)) refl

pub done_fault : (sheet : List ℕ) (before now : List Line) (bench : Bench) (number : ℕ) (rest : List ℕ) (f : SheetFault) → Done sheet before now bench number rest → 0 < length rest → ((b : Book) → Keeps bench b → Tells sheet_refusal (number + 1) (verdict b (parsed_head rest)) (Err f)) → Follows sheet before (Some (record { place = length sheet - length rest; fault = f })) now
done_fault sheet before now bench number rest f d some refuses-it =
    let (fewer, most-is, next) = one_more d.most d.book (number + 1) d.place rest some d.enough in
    let told = refuses-it d.book d.keeps in
    let place_is = d.place_is in
    let there : length sheet - length rest ≡ d.place = omega arith in
    follows_at sheet before now d.so_far _ (Some (shifted d.place (sheet_refusal f))) d.lines_are
    (d.outcome_is ∙ ap (prefixed d.so_far) (next ∙ followed_fault (number + 1) d.place (verdict d.book (parsed_head rest)) f _ told))
    (ap (λ p. Some (shifted p (sheet_refusal f))) there)
