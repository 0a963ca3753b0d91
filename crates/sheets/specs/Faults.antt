-- Refusals of a sheet by number, layer and place.
use Rattle.std.specs.Prelude.{Some, None, Option}
use Rattle.records.specs.Refusals.{Refusal, refusal, in_sheet, shifted, refusal_of}
use Rattle.sheets.specs.declared.fault.SheetFault.{SheetFault}
use Rattle.sheets.specs.declared.fault.SheetFault.TheVariants.{NotARecord, NoSuchKind, TooLong, InRecord}
use Rattle.sheets.specs.declared.fault.Stop.{Stop}

-- places are counted from the record's first byte; the kind begins at 2
abbrev pub sheet_refusal : SheetFault → Refusal
sheet_refusal NotARecord = refusal 7 in_sheet 0
sheet_refusal NoSuchKind = refusal 8 in_sheet 2
sheet_refusal TooLong = refusal 11 in_sheet 0
sheet_refusal (InRecord f) = refusal_of f

-- where a sheet ended: its fault at the place of a record
abbrev pub stop_refusal : Stop → Refusal
stop_refusal s = shifted s.place (sheet_refusal s.fault)

abbrev pub ended : Option Stop → Option Refusal
ended None = None
ended (Some s) = Some (stop_refusal s)
