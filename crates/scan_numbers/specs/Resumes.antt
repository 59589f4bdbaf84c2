-- What a scanner will answer on what is still to come.
use Rattle.std.specs.Prelude.{Bool, List, pos}
use Rattle.tex_syntax.specs.declared.words.Report.TheVariants.{ImproperConstant, MissingNumber}
use Rattle.rows.specs.Readings.{Fed}
use Rattle.plain_readings.specs.Integers.{integer, constant, first_digit, digits, too_big, digits_dropped, behind_number, missing, signed, improper_code, ends_with, numbered, bad_numbered, fetched, mu_found}
use Rattle.plain_readings.specs.declared.asks.NumberAsk.{NumberAsk}
use Rattle.scan_numbers.specs.Views.{radix_number}
use Rattle.scan_numbers.specs.declared.number.Place.{Place}
use Rattle.scan_numbers.specs.declared.number.Place.TheVariants.{Signs, Quote, First, Digits, TooBig, Dropped, Behind, NoNumber, NoCode, Numbered, BadNumber, Fetching, MuFound, Ended}
use Rattle.scan_numbers.specs.declared.number.NumberScan.{NumberScan}

abbrev pub resume_at : (negative : Bool) → Place → List Fed → NumberAsk
resume_at negative Signs fed = integer negative fed
resume_at negative Quote fed = constant negative fed
resume_at negative (First radix) fed = first_digit negative (radix_number radix) fed
resume_at negative (Digits radix n) fed = digits negative (radix_number radix) n fed
resume_at negative (TooBig radix) fed = too_big negative (radix_number radix) fed
resume_at negative (Dropped radix) fed = digits_dropped negative (radix_number radix) fed
resume_at negative (Behind code) fed = behind_number negative code fed
resume_at negative NoNumber fed = missing (pos 0) MissingNumber fed
resume_at negative NoCode fed = missing (signed negative improper_code) ImproperConstant fed
resume_at negative (Numbered b) fed = numbered negative b fed
resume_at negative (BadNumber b n) fed = bad_numbered negative b n fed
resume_at negative (Fetching l) fed = fetched negative l fed
resume_at negative (MuFound n) fed = mu_found n fed
resume_at negative (Ended n back) fed = ends_with n back

abbrev pub resume : NumberScan → List Fed → NumberAsk
resume scan fed = resume_at scan.negative scan.place fed
