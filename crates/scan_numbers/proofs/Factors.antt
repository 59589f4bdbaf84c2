-- The integer before a fraction: its scanner asks for what that of the integer asks for, but for its end.
use Rattle.std.proofs.Common.{◌≡◌, ℤ, Bool, false, List, [], ◌∷◌, Option, Some, None, refl, sym, ap, ◌∙◌}
use Rattle.std.specs.Prelude.{◌&&◌}
use Rattle.rows.specs.Readings.{Fed, Tok, Val, Noted, Fetched, Verbatim, Cut}
use Rattle.plain_readings.specs.declared.asks.NumberAsk.{NumberAsk}
use Rattle.plain_readings.specs.declared.asks.NumberAsk.TheVariants as number
use Rattle.plain_readings.specs.declared.asks.FactorAsk.{FactorAsk}
use Rattle.plain_readings.specs.declared.asks.FactorAsk.TheVariants.{Done}
use Rattle.plain_readings.specs.Integers.{integer, is_digit}
use Rattle.plain_readings.specs.Factors.{is_point, ends_in_point, as_factor}
use Rattle.scan_numbers.specs.Resumes.{resume}
use Rattle.scan_numbers.specs.FactorViews.{IsFresh, began_with, decimal_behind, is_decimal_item, is_point_item}
use Rattle.scan_numbers.specs.FactorResumes.{resume_at}
use Rattle.scan_numbers.specs.declared.number.NumberScan.{NumberScan}

-- behind an item
pub stepped : (decimal : Option Bool) (point : Bool) (scan new : NumberScan) (y : Fed) → IsFresh decimal scan →
    ((fed : List Fed) → resume scan (y ∷ fed) ≡ resume new fed) → (fed : List Fed) →
    resume_at decimal point scan (y ∷ fed) ≡ resume_at (Some (decimal_behind decimal (is_decimal_item y))) (is_point_item y) new fed
stepped None point scan new (Tok x) fresh on fed = ap (λ (a : NumberAsk). as_factor (is_digit 10 x) (ends_in_point (is_point x) fed) a) (fresh refl (Tok x ∷ fed) ∙ on fed)
stepped None point scan new (Val v ts) fresh on fed = ap (λ (a : NumberAsk). as_factor false (ends_in_point false fed) a) (fresh refl (Val v ts ∷ fed) ∙ on fed)
stepped None point scan new Noted fresh on fed = ap (λ (a : NumberAsk). as_factor false (ends_in_point false fed) a) (fresh refl (Noted ∷ fed) ∙ on fed)
stepped None point scan new (Fetched v) fresh on fed = ap (λ (a : NumberAsk). as_factor false (ends_in_point false fed) a) (fresh refl (Fetched v ∷ fed) ∙ on fed)
stepped None point scan new (Verbatim t) fresh on fed = ap (λ (a : NumberAsk). as_factor false (ends_in_point false fed) a) (fresh refl (Verbatim t ∷ fed) ∙ on fed)
stepped None point scan new Cut fresh on fed = ap (λ (a : NumberAsk). as_factor false (ends_in_point false fed) a) (fresh refl (Cut ∷ fed) ∙ on fed)
stepped (Some decimal) point scan new (Tok x) fresh on fed = ap (λ (a : NumberAsk). as_factor decimal (ends_in_point (is_point x) fed) a) (on fed)
stepped (Some decimal) point scan new (Val v ts) fresh on fed = ap (λ (a : NumberAsk). as_factor decimal (ends_in_point false fed) a) (on fed)
stepped (Some decimal) point scan new Noted fresh on fed = ap (λ (a : NumberAsk). as_factor decimal (ends_in_point false fed) a) (on fed)
stepped (Some decimal) point scan new (Fetched v) fresh on fed = ap (λ (a : NumberAsk). as_factor decimal (ends_in_point false fed) a) (on fed)
stepped (Some decimal) point scan new (Verbatim t) fresh on fed = ap (λ (a : NumberAsk). as_factor decimal (ends_in_point false fed) a) (on fed)
stepped (Some decimal) point scan new Cut fresh on fed = ap (λ (a : NumberAsk). as_factor decimal (ends_in_point false fed) a) (on fed)

-- what is no end is asked for as it is
pub asked : (decimal : Option Bool) (point : Bool) (scan : NumberScan) (a : NumberAsk) (b : FactorAsk) → IsFresh decimal scan → ((d p : Bool) → as_factor d p a ≡ b) →
    a ≡ resume scan [] → b ≡ resume_at decimal point scan []
asked None point scan a b fresh kept e = sym (kept false false) ∙ ap (λ (c : NumberAsk). as_factor false false c) (e ∙ sym (fresh refl []))
asked (Some decimal) point scan a b fresh kept e = sym (kept decimal point) ∙ ap (λ (c : NumberAsk). as_factor decimal point c) e

pub ended : (decimal : Option Bool) (point : Bool) (scan : NumberScan) (n : ℤ) (back : Bool) → IsFresh decimal scan → number.Done n back ≡ resume scan [] →
    Done n (began_with decimal && (point && back)) back ≡ resume_at decimal point scan []
ended None point scan n back fresh e = let f : number.Done n back ≡ integer false [] = e ∙ sym (fresh refl []) in cc
ended (Some decimal) point scan n back fresh e = ap (λ (a : NumberAsk). as_factor decimal point a) e
