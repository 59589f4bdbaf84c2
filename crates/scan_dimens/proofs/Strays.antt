-- Where a scanner of a dimension is fed with what it didn't ask for: there it ends.
use Rattle.std.proofs.Common.{◌≡◌, ℕ, ℤ, Bool, List, [], ◌∷◌, Option, drop, refl}
use Rattle.tex_defs.specs.declared.Seen.{Seen}
use Rattle.tex_syntax.specs.declared.words.UnitTaken.{UnitTaken}
use Rattle.equivalents.specs.declared.values.Loc.{Loc}
use Rattle.equivalents.specs.Locations.{SeenValue}
use Rattle.rows.specs.declared.internal.Bank.{Bank}
use Rattle.plain_readings.specs.Dimens.{Fed, Tok, Noted, Fetched, Factored, Numbered, Found, impossible, by_unit, physical}
use Rattle.scan_dimens.specs.DimenResumes.{resume_at}
use Rattle.plain_readings.specs.declared.measures.Quantity.{Quantity}
use Rattle.plain_readings.specs.declared.measures.Measure.{Measure}
use Rattle.rows.specs.declared.words.DimenKind.{DimenKind}
use Rattle.scan_dimens.specs.declared.decimals.Digits.{Digits}
use Rattle.scan_dimens.specs.declared.dimen.Sought.{Sought}
use Rattle.scan_dimens.specs.declared.dimen.DimenPlace.{DimenPlace}
use Rattle.scan_dimens.specs.declared.dimen.DimenPlace.TheVariants as place

abbrev pub IsNoWord : Fed → Type 0
IsNoWord (Found found) = ⊥
IsNoWord y = Unit {0}

pub no_word : (negative : Bool) (a : Quantity) (us : List Measure) (y : Fed) (fed : List Fed) → IsNoWord y → by_unit negative a us (y ∷ fed) ≡ impossible
no_word negative a us (Found found) fed h = absurd h
no_word negative a [] y fed h = refl
no_word negative a (u ∷ us) y fed h = refl

-- it isn't at its end
abbrev pub GoesOn : DimenPlace → Type 0
GoesOn p = (n : ℤ) (order : ℕ) (back : Bool) → p ≡ place.Ended n order back → ⊥

-- at a place that asks for no such item
module _ (k : DimenKind) (negative : Bool) where
  pub no_token : (p : DimenPlace) (x : Seen) → (p ≡ place.Signs → ⊥) → ((n : ℕ) → p ≡ place.Point n → ⊥) → ((n : ℕ) (ds : Digits) → p ≡ place.Fraction n ds → ⊥) →
      ((a : Quantity) → p ≡ place.UnitSought a → ⊥) → ((v : Option ℤ) (order : ℕ) → p ≡ place.Space v order → ⊥) → GoesOn p → (fed : List Fed) →
      resume_at k negative p (Tok x ∷ fed) ≡ impossible
  no_token place.Signs x a b c d e f fed = absurd (a refl)
  no_token (place.Point n) x a b c d e f fed = absurd (b n refl)
  no_token (place.Fraction n ds) x a b c d e f fed = absurd (c n ds refl)
  no_token (place.UnitSought amount) x a b c d e f fed = absurd (d amount refl)
  no_token (place.Space v order) x a b c d e f fed = absurd (e v order refl)
  no_token (place.Ended n order back) x a b c d e f fed = absurd (f n order back refl)
  no_token (place.Physical n amount) x a b c d e f fed = no_word negative amount (drop n physical) (Tok x) fed tt
  no_token p x a b c d e f fed = refl

  pub no_note : (p : DimenPlace) → ((s : Sought) (b : Bank) (n : ℤ) → p ≡ place.BadNumber s b n → ⊥) → ((v : Option ℤ) → p ≡ place.Incompatible v → ⊥) → (p ≡ place.NoNumber → ⊥) →
      ((a : Quantity) (order : ℕ) → p ≡ place.TooLong a order → ⊥) → ((unit : UnitTaken) (v : Option ℤ) → p ≡ place.Illegal unit v → ⊥) → ((order : ℕ) (back : Bool) → p ≡ place.TooLarge order back → ⊥) →
      ((a : Quantity) → p ≡ place.Magnification a → ⊥) → GoesOn p → (fed : List Fed) → resume_at k negative p (Noted ∷ fed) ≡ impossible
  no_note (place.BadNumber s bank n) a b c d e f m g fed = absurd (a s bank n refl)
  no_note (place.Incompatible v) a b c d e f m g fed = absurd (b v refl)
  no_note place.NoNumber a b c d e f m g fed = absurd (c refl)
  no_note (place.TooLong amount order) a b c d e f m g fed = absurd (d amount order refl)
  no_note (place.Illegal unit v) a b c d e f m g fed = absurd (e unit v refl)
  no_note (place.TooLarge order back) a b c d e f m g fed = absurd (f order back refl)
  no_note (place.Magnification amount) a b c d e f m g fed = absurd (m amount refl)
  no_note (place.Ended n order back) a b c d e f m g fed = absurd (g n order back refl)
  no_note (place.Physical n amount) a b c d e f m g fed = no_word negative amount (drop n physical) Noted fed tt
  no_note p a b c d e f m g fed = refl

  pub no_value : (p : DimenPlace) (v : SeenValue) → ((s : Sought) (l : Loc) → p ≡ place.Fetching s l → ⊥) → ((a : Quantity) → p ≡ place.MagnificationFetched a → ⊥) → GoesOn p → (fed : List Fed) →
      resume_at k negative p (Fetched v ∷ fed) ≡ impossible
  no_value (place.Fetching s l) v a m b fed = absurd (a s l refl)
  no_value (place.MagnificationFetched amount) v a m b fed = absurd (m amount refl)
  no_value (place.Ended n order back) v a m b fed = absurd (b n order back refl)
  no_value (place.Physical n amount) v a m b fed = no_word negative amount (drop n physical) (Fetched v) fed tt
  no_value p v a m b fed = refl

  pub no_number : (p : DimenPlace) (n : ℤ) → ((s : Sought) (b : Bank) → p ≡ place.Numbered s b → ⊥) → GoesOn p → (fed : List Fed) → resume_at k negative p (Numbered n ∷ fed) ≡ impossible
  no_number (place.Numbered s bank) n a b fed = absurd (a s bank refl)
  no_number (place.Ended m order back) n a b fed = absurd (b m order back refl)
  no_number (place.Physical m amount) n a b fed = no_word negative amount (drop m physical) (Numbered n) fed tt
  no_number p n a b fed = refl

  pub no_factor : (p : DimenPlace) (n : ℤ) (point : Bool) → (p ≡ place.Factor → ⊥) → GoesOn p → (fed : List Fed) → resume_at k negative p (Factored n point ∷ fed) ≡ impossible
  no_factor place.Factor n point a b fed = absurd (a refl)
  no_factor (place.Ended m order back) n point a b fed = absurd (b m order back refl)
  no_factor (place.Physical m amount) n point a b fed = no_word negative amount (drop m physical) (Factored n point) fed tt
  no_factor p n point a b fed = refl
